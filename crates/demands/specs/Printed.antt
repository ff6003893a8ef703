-- On a plan whose calls keep the premises of demand 3 every printed distance is 0.
use Rattle.std.specs.Prelude.{ℕ, ◌≡◌, List, [], ◌∷◌}
use Rattle.cover_light.specs.cable.Cable.{cable_of}
use Rattle.agreement.specs.bench.declared.Outcome.{Outcome}
use Rattle.agreement.specs.bench.declared.Outcome.TheVariants as outcome
use Rattle.agreement.specs.Demand.{Premises}
use Rattle.plan_report.specs.plan_program.declared.Plan.{Plan}
use Rattle.plan_report.specs.plan_program.Program.{after_line, lines_in, no_plan}
use Rattle.plan_report.specs.plan_program.Tables.{calls_of, start_of, whole, Opens}

-- What is printed of a line tells no distance but 0.
abbrev pub NoOtherDistance : Outcome → Type 0
NoOtherDistance (outcome.Slot number sender fate shown distance) = distance ≡ 0
NoOtherDistance outcome.Quiet = Unit {0}
NoOtherDistance (outcome.Refused cause) = Unit {0}

unfoldable pub AtEachLine : (Outcome → Type 0) → Plan → List (List ℕ) → Type 0
AtEachLine P p [] = Unit {0}
AtEachLine P p (line ∷ more) = P (after_line p line).outcome × AtEachLine P (after_line p line) more

-- So it is of each line of a text whose calls keep the premises of demand 3.
abbrev pub NoDistancePrinted : Type 0
NoDistancePrinted =
    (n k : ℕ) (input first : List ℕ) (more : List (List ℕ)) → whole (lines_in input) ≡ first ∷ more → Opens n k first
    → Premises (cable_of n k) (start_of n k) (calls_of (after_line no_plan first) [] more)
    → AtEachLine NoOtherDistance no_plan (whole (lines_in input))
