-- Every printed distance is 0 where a plan's calls keep the premises of demand 3: what is printed of a slot is what the bench's call tells. Assumes nothing.
use Rattle.std.specs.Prelude.{Err, Ok}
use Prim.Native.Nat.{ℕ}
use mathlib.Core.Path.{◌≡◌, refl}
use mathlib.Core.Bool.{Bool, true, false, cond}
use mathlib.Core.List.{List, [], ◌∷◌, ◌++◌}
use native.Mathlib.Omega.{arith}
use lib.ListN.{length, take, length-replicate, length-take}
use Rattle.cover_light.proofs.nodeset.Tests.{by_cases}
use Rattle.cover_light.specs.slot_table.Order.{numbers_from}
use Rattle.cover_light.specs.cable.declared.Cable.{Cable}
use Rattle.cover_light.specs.cable.Cable.{cable_of}
use Rattle.cover_light.proofs.cable.Ranges.{ring-size, fitting}
use Rattle.cover_light.specs.node_record.Held.{rowed}
use Rattle.agreement.proofs.bench.Standing.{length-setted}
use Rattle.cover_light.specs.node.Calls.{no_node, is_done}
use Rattle.cover_light.specs.node.Answers.{Answer}
use Rattle.agreement.specs.bench.Table.{Table}
use Rattle.agreement.specs.bench.declared.Command.TheVariants.{Slot}
use Rattle.agreement.specs.bench.Calls.{off_of, restart_of, set_up_given}
use Rattle.agreement.specs.bench.Outcomes.{ended_of, quiet_outcome, slot_outcome, slot_given}
use Rattle.agreement.specs.bench.Runs.{Call}
use Rattle.agreement.specs.Demand.{AtEach, EverySequence}
use Rattle.agreement.specs.Distance as calls
use Rattle.agreement.specs.Distance.{SlotTells}
use Rattle.agreement.proofs.Throughout.{distance-throughout}
use Rattle.plan_report.specs.bench_by_value.ByValue as by_value
use Rattle.plan_report.specs.bench_by_value.ByValue.{table_of}
use Rattle.converter_text.specs.plan_line.Plan.{Said, line_of}
use Rattle.converter_text.specs.plan_line.declared.Line.TheVariants as lines
use Rattle.plan_report.specs.plan_run.Run.{act_of, choices_of, no_rows, ran_by}
use Rattle.plan_report.specs.plan_program.declared.Plan.{Plan}
use Rattle.plan_report.specs.plan_program.Program.{after_line, no_plan}
use Rattle.plan_report.specs.plan_program.Tables.{calls_in, calls_of, made_by, start_of, Opens}
use Rattle.plan_report.proofs.plan_program.Sound.{over-line, ran_line}
use Rattle.plan_report.proofs.plan_program.Tables.{Reached, next, ring, begun, reached-first}
use Rattle.demands.specs.Printed.{AtEachLine, NoOtherDistance, NoDistancePrinted}

quiet-tells : (a : Answer) → NoOtherDistance (quiet_outcome a)
quiet-tells (Ok _) = tt
quiet-tells (Err cause) = tt

slot-tells : (lost : Bool) (missed : ℕ) (t : Table) → (is_done (slot_given lost missed 0 64 t).answer ≡ true → calls.NoDistance (ended_of (Slot lost missed 0) [] 64 t).reply.outcome)
    → NoOtherDistance (ended_of (Slot lost missed 0) [] 64 t).reply.outcome
unfolding ended_of
slot-tells lost missed t h = go (slot_given lost missed 0 64 t).answer h
  where
    go : (a : Answer) → (is_done a ≡ true → calls.NoDistance (slot_outcome lost t (slot_given lost missed 0 64 t).table a)) → NoOtherDistance (slot_outcome lost t (slot_given lost missed 0 64 t).table a)
    go (Ok _) h = h refl
    go (Err cause) h = tt

module _ (cable : Cable) (start : Table) (p : Plan) (l : List ℕ) (cs : List Call) (r : Reached start p cs) where
  said-tells : (said : Said) → AtEach (SlotTells cable start) (made_by said ++ cs) → NoOtherDistance (ran_by p.n p.rows (act_of said)).outcome
  unfolding AtEach by_value.call_of ended_of
  said-tells (Ok lines.Ok) tells = slot-tells false 0 (table_of p.n p.rows) (rw r.table (tells.1 0 []))
  said-tells (Ok lines.Lost) tells = slot-tells true 0 (table_of p.n p.rows) (rw r.table (tells.1 0 []))
  said-tells (Ok (lines.Miss missed)) tells = slot-tells false missed (table_of p.n p.rows) (rw r.table (tells.1 0 []))
  said-tells (Ok (lines.Off a)) tells = quiet-tells (off_of a (table_of p.n p.rows)).answer
  said-tells (Ok (lines.On a)) tells = quiet-tells (restart_of a (table_of p.n p.rows)).answer
  said-tells (Err cause) tells = tt

  line-tells : AtEach (SlotTells cable start) (calls_in p l ++ cs) → NoOtherDistance (after_line p l).outcome
  line-tells tells =
      by_cases p.over
      (λ over. rw (over-line p l over) tt)
      (λ going. rw (ran_line p l r.opened going) (said-tells (line_of p.n l) (rw going at tells)))

  earlier : AtEach (SlotTells cable start) (calls_in p l ++ cs) → AtEach (SlotTells cable start) cs
  unfolding AtEach
  earlier = go p.over (line_of p.n l)
    where
      go : (over : Bool) (said : Said) → AtEach (SlotTells cable start) (cond over [] (made_by said) ++ cs) → AtEach (SlotTells cable start) cs
      go true said tells = tells
      go false (Ok lines.Ok) tells = tells.0
      go false (Ok lines.Lost) tells = tells.0
      go false (Ok (lines.Miss missed)) tells = tells.0
      go false (Ok (lines.Off a)) tells = tells.0
      go false (Ok (lines.On a)) tells = tells.0
      go false (Err cause) tells = tells

each : (cable : Cable) (start : Table) (p : Plan) (cs : List Call) (more : List (List ℕ)) → Reached start p cs → AtEach (SlotTells cable start) (calls_of p cs more)
    → AtEachLine NoOtherDistance p more × AtEach (SlotTells cable start) cs
unfolding AtEachLine calls_of
each cable start p cs [] r tells = (tt, tells)
each cable start p cs (l ∷ more) r tells =
    let later = each cable start (after_line p l) (calls_in p l ++ cs) more (next start p l cs r) tells in
    ((line-tells cable start p l cs r later.1, later.0), earlier cable start p l cs r later.1)

first-tells : (n k : ℕ) (first : List ℕ) → Opens n k first → NoOtherDistance (after_line no_plan first).outcome
unfolding by_value.call_of ended_of
first-tells n k first opens = rw (begun n k first opens) (quiet-tells (set_up_given (choices_of n k) (numbers_from n 1) (table_of n no_rows)).answer)

pub no-distance-printed : NoDistancePrinted
unfolding AtEachLine EverySequence
no-distance-printed n k input first more is opens premises =
    let r = ring n k first opens in
    let lent : length (table_of n no_rows) ≡ n = omega (arith, length-setted (take n no_rows), length-take n no_rows, length-replicate 32 (rowed no_node), ring-size n (fitting (cable_of n k) r).ring) in
    let slots = (distance-throughout (cable_of n k) r (table_of n no_rows) lent (calls_of (after_line no_plan first) [] more) premises).slots in
    rw is (first-tells n k first opens, (each (cable_of n k) (start_of n k) (after_line no_plan first) [] more (reached-first n k first opens) slots).0)
