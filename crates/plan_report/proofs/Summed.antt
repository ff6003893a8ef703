-- The figures of every plan have 64 bits: a table is no further than the slot limit, a line that runs a slot takes it one slot on, and a slot adds 32 to each figure at the most.
-- Assumes nothing.
use Rattle.std.specs.Prelude.{Err, Ok}
use Prim.Native.Nat.{ℕ, ◌+◌, ◌-◌, ◌*◌, ◌≤◌}
use mathlib.Core.Path.{◌≡◌, refl, sym, ap, ◌∙◌}
use mathlib.Core.Bool.{Bool, true, false, cond, false≢true}
use mathlib.Core.List.{List, [], ◌∷◌}
use native.Mathlib.Omega.{arith}
use lib.Dec.{eqb, ltb}
use borrow.Author.Tests.{leb-true}
use Rattle.nodeset.specs.Sums.{num}
use Rattle.nodeset.proofs.Counts.{size-le}
use Rattle.nodeset.proofs.Tests.{by_cases}
use Rattle.node_record.proofs.cable.Ranges.{ring-size}
use Rattle.node_record.specs.Soundness.{limit}
use Rattle.node_record.specs.States.{is_member}
use Rattle.node_record.proofs.Facts.{clauses}
use Rattle.node.specs.Answers.{Answer}
use Rattle.node.specs.Calls.{is_done}
use Rattle.bench.specs.Table.{Table, node_count, record_of, slots_of, table_sound}
use Rattle.bench.specs.Calls.{Called, greatest, off_of, restart_of}
use Rattle.bench.specs.declared.Outcome.{Outcome}
use Rattle.bench.specs.declared.Outcome.TheVariants as outcome
use Rattle.bench.specs.Outcomes.{ended_of, quiet_outcome, slot_given, slot_outcome}
use Rattle.bench.specs.Runs.{Call, slot, off, restart, call_of, is_slot, list_of, table_after}
use Rattle.bench.proofs.Ledgers.{given-none}
use Rattle.bench.proofs.Places.{InPlace, sound-placed, slots-of-placed}
use Rattle.bench.proofs.Runs.{placed-call}
use Rattle.plan_program.specs.bench_by_value.ByValue as by_value
use Rattle.plan_program.specs.bench_by_value.ByValue.{Rows, table_of}
use Rattle.plan_line.specs.Plan.{Said, line_of}
use Rattle.plan_line.specs.declared.Line.TheVariants as lines
use Rattle.plan_program.specs.plan_run.Run.{act_of, ran_by}
use Rattle.plan_program.specs.declared.Plan.{Plan}
use Rattle.plan_program.specs.Program.{after_line, is_refused, no_plan}
use Rattle.plan_program.specs.Calls.{plan_sound}
use Rattle.plan_program.proofs.Sound.{first-line, line-table, next-line-some, over-line, ran_line, some-record, sound-line}
use Rattle.plan_report.specs.declared.Figures.{Figures}
use Rattle.plan_report.specs.Figures.{last64, members_in, no_figures, plus, slot_figures}
use Rattle.plan_report.specs.Report.{is_slot_line, slot_tables, sum_over}
use Rattle.plan_report.proofs.Counting.{num-few}
use Rattle.plan_report.proofs.Sums.{both-few, more_room, none-few, none-plus, AtMost}

-- ---- a table

module _ (t : Table) (sound : table_sound t ≡ true) where
  some : 1 ≤ (record_of t 1).cable.n
  some = omega (arith, some-record t sound, (sound-placed t sound).length-is)

  first : InPlace (record_of t 1).cable (slots_of t) 1 (record_of t 1)
  first = (sound-placed t sound).at 1 (omega arith) some

  few-nodes : node_count t ≤ 32
  few-nodes = omega (arith, (sound-placed t sound).length-is, ring-size (record_of t 1).cable.n (clauses (record_of t 1) first.is-sound).choices.ring)

  within-limit : slots_of t ≤ limit
  within-limit = omega (arith, first.slots-is, leb-true (record_of t 1).slots limit (clauses (record_of t 1) first.is-sound).slots)

  -- a slot takes it one slot on, and no other call does
  slots-call : (c : Call) → slots_of (call_of c t).table ≡ slots_of t + num (is_slot c t)
  slots-call c =
      slots-of-placed (record_of t 1).cable (slots_of t + num (is_slot c t)) (call_of c t).table some
      (placed-call (record_of t 1).cable (slots_of t) t some (sound-placed t sound) c)

members-le : (t : Table) → members_in t ≤ node_count t
unfolding members_in
members-le [] = omega arith
members-le (v ∷ t) = omega (arith, num-few (is_member v.state), members-le t)

slot-few : (t : Table) → table_sound t ≡ true → AtMost 32 (slot_figures t)
slot-few t e =
    let few = few-nodes t e in
    record {
      slots = omega arith;
      members = omega (arith, members-le t, few);
      listed = omega (arith, size-le (node_count t) (list_of t), few);
      apart = omega (arith, num-few (ltb 0 (greatest (node_count t) t)));
    }

-- ---- a line

pub stays-over : (p : Plan) (line : List ℕ) → p.over ≡ true → (after_line p line).over ≡ true
stays-over p line e = rw (over-line p line e) e

pub over-refused : (p : Plan) (line : List ℕ) → p.over ≡ false → (after_line p line).over ≡ is_refused (after_line p line).outcome
over-refused p line going =
    by_cases (eqb p.lines 0)
    (λ first. rw (first-line p line first going) refl)
    (λ begun. rw (ran_line p line begun going) refl)

slot-line : (lost : Bool) (before after : Table) (a : Answer) → is_done a ≡ is_slot_line (slot_outcome lost before after a)
slot-line lost before after (Ok _) = refl
slot-line lost before after (Err cause) = refl

quiet_line : (a : Answer) → false ≡ is_slot_line (quiet_outcome a)
quiet_line (Ok _) = refl
quiet_line (Err cause) = refl

module _ (n : ℕ) (rows : Rows) (sound : table_sound (table_of n rows) ≡ true) where
  abbrev t : Table
  t = table_of n rows

  ran-slot : (lost : Bool) (missed : ℕ) → is_slot (slot lost missed 64) t ≡ is_slot_line (slot_outcome lost t (slot_given lost missed 0 64 t).table (slot_given lost missed 0 64 t).answer)
  unfolding is_slot
  ran-slot lost missed =
      sym (ap (λ (c : Called). is_done c.answer) (given-none lost missed 64 t))
      ∙ slot-line lost t (slot_given lost missed 0 64 t).table (slot_given lost missed 0 64 t).answer

  line-slots : (l : Said) → slots_of (table_of n (ran_by n rows (act_of l)).rows) ≡ slots_of t + num (is_slot_line (ran_by n rows (act_of l)).outcome)
  unfolding by_value.call_of ended_of table_after is_slot
  line-slots (Ok lines.Ok) = ap slots_of (line-table n rows sound (Ok lines.Ok)) ∙ slots-call t sound (slot false 0 64) ∙ ap (λ (b : Bool). slots_of t + num b) (ran-slot false 0)
  line-slots (Ok lines.Lost) = ap slots_of (line-table n rows sound (Ok lines.Lost)) ∙ slots-call t sound (slot true 0 64) ∙ ap (λ (b : Bool). slots_of t + num b) (ran-slot true 0)
  line-slots (Ok (lines.Miss missed)) = ap slots_of (line-table n rows sound (Ok (lines.Miss missed))) ∙ slots-call t sound (slot false missed 64) ∙ ap (λ (b : Bool). slots_of t + num b) (ran-slot false missed)
  line-slots (Ok (lines.Off a)) = ap slots_of (line-table n rows sound (Ok (lines.Off a))) ∙ slots-call t sound (off a) ∙ ap (λ (b : Bool). slots_of t + num b) (quiet_line (off_of a t).answer)
  line-slots (Ok (lines.On a)) = ap slots_of (line-table n rows sound (Ok (lines.On a))) ∙ slots-call t sound (restart a) ∙ ap (λ (b : Bool). slots_of t + num b) (quiet_line (restart_of a t).answer)
  line-slots (Err cause) = omega arith

refused-no-slot : (o : Outcome) → is_refused o ≡ true → is_slot_line o ≡ false
refused-no-slot outcome.Quiet e = refl
refused-no-slot (outcome.Slot number sender fate shown distance) e = absurd (false≢true e)
refused-no-slot (outcome.Refused cause) e = refl

-- ---- plans

abbrev table_in : Plan → Table
table_in p = table_of p.n p.rows

-- A plan that goes on after line one.
record Goes (p : Plan) : Type 0 where
  sound : plan_sound p ≡ true
  begun : eqb p.lines 0 ≡ false
  on : p.over ≡ false

table-sound : {p : Plan} → Goes p → table_sound (table_in p) ≡ true
unfolding plan_sound
table-sound {p} g = simp (g.on, g.begun) at g.sound

-- the plan after a line that was run goes on, or it is over
after-begun : (p : Plan) (line : List ℕ) → p.over ≡ false → eqb (after_line p line).lines 0 ≡ false
after-begun p line going =
    by_cases (eqb p.lines 0)
    (λ first. rw (first-line p line first going) (next-line-some p.lines))
    (λ begun. rw (ran_line p line begun going) (next-line-some p.lines))

goes-on : (p : Plan) (line : List ℕ) → plan_sound p ≡ true → p.over ≡ false → (after_line p line).over ≡ false → Goes (after_line p line)
goes-on p line sound going on = record { sound = sound-line p line sound; begun = after-begun p line going; on = on }

slots-after : {p : Plan} (g : Goes p) (line : List ℕ) → slots_of (table_in (after_line p line)) ≡ slots_of (table_in p) + num (is_slot_line (after_line p line).outcome)
slots-after {p} g line = rw (ran_line p line g.begun g.on) (line-slots p.n p.rows (table-sound g) (line_of p.n line))

-- ---- what lines add

-- What a line adds that left this plan.
abbrev pub line_figures : Plan → Figures
line_figures q = cond (is_slot_line q.outcome) (slot_figures (table_of q.n q.rows)) no_figures

pub sum-next : (p : Plan) (line : List ℕ) (more : List (List ℕ))
    → sum_over (slot_tables p (line ∷ more)) ≡ plus (line_figures (after_line p line)) (sum_over (slot_tables (after_line p line) more))
unfolding slot_tables sum_over
sum-next p line more = by_cases (is_slot_line (after_line p line).outcome) (λ e. rw e refl) (λ e. rw e (sym (none-plus (sum_over (slot_tables (after_line p line) more)))))

pub sum-none : (p : Plan) → sum_over (slot_tables p []) ≡ no_figures
unfolding slot_tables sum_over
sum-none p = refl

line-none : (q : Plan) → is_slot_line q.outcome ≡ false → line_figures q ≡ no_figures
line-none q e = ap (λ (slot : Bool). cond slot (slot_figures (table_in q)) no_figures) e

line-few : {q : Plan} → Goes q → AtMost 32 (line_figures q)
line-few {q} g = by_cases (is_slot_line q.outcome) (λ e. rw e (slot-few (table_in q) (table-sound g))) (λ e. rw e (none-few 32))

-- nothing is added once a plan is over
over_none : (p : Plan) (lines : List (List ℕ)) → p.over ≡ true → sum_over (slot_tables p lines) ≡ no_figures
over_none p [] over = sum-none p
over_none p (line ∷ more) over =
    let q = after_line p line in
    sum-next p line more
    ∙ ap (λ (f : Figures). plus (line_figures q) f) (over_none q more (stays-over p line over))
    ∙ ap (λ (f : Figures). plus f no_figures) (line-none q (ap (λ (r : Plan). is_slot_line r.outcome) (over-line p line over)))
    ∙ none-plus no_figures

-- nor by the line that ends it
ended-few : (p : Plan) (line : List ℕ) (more : List (List ℕ)) (most : ℕ) → p.over ≡ false → (after_line p line).over ≡ true → AtMost most (sum_over (slot_tables p (line ∷ more)))
ended-few p line more most going over =
    let q = after_line p line in
    let none : line_figures q ≡ no_figures = line-none q (refused-no-slot q.outcome (sym (over-refused p line going) ∙ over)) in
    rw (sum-next p line more, over_none q more over, none, none-plus no_figures) (none-few most)

few-left : (lines : List (List ℕ)) {p : Plan} → Goes p → AtMost (32 * (limit - slots_of (table_in p))) (sum_over (slot_tables p lines))
few-left [] {p} g = rw (sum-none p) (none-few (32 * (limit - slots_of (table_in p))))
few-left (line ∷ more) {p} g =
    let q = after_line p line in
    let rest = sum_over (slot_tables q more) in
    by_cases q.over
    (λ over. ended-few p line more (32 * (limit - slots_of (table_in p))) g.on over)
    (λ on.
    let next : Goes q = goes-on p line g.sound g.on on in
    let left = few-left more next in
    let slots = slots-after g line in
    rw (sum-next p line more)
    (by_cases (is_slot_line q.outcome)
    (λ e. more_room (omega (arith, rw e at slots, within-limit (table_in q) (table-sound next))) (both-few (line-few next) left))
    (λ e. rw (line-none q e, none-plus rest) (more_room (omega (arith, rw e at slots)) left))))

pub all-few : (lines : List (List ℕ)) → AtMost last64 (sum_over (slot_tables no_plan lines))
unfolding plan_sound
all-few [] = rw (sum-none no_plan) (none-few last64)
all-few (line ∷ more) =
    let q = after_line no_plan line in
    by_cases q.over
    (λ over. ended-few no_plan line more last64 refl over)
    (λ on.
    let next : Goes q = goes-on no_plan line refl refl on in
    rw (sum-next no_plan line more) (more_room (omega arith) (both-few (line-few next) (few-left more next))))
