-- What a line does to the table: line one sets a sound one up, each later line makes its call on it and leaves it sound. So `feed` refuses by 4 no plan that it
-- made. Assumes nothing.
use Rattle.std.specs.Prelude.{Err, Ok}
use Prim.Native.Nat.{ℕ, ◌+◌, ◌≤◌}
use mathlib.Core.Path.{◌≡◌, refl, sym, ap, ◌∙◌}
use mathlib.Core.Bool.{Bool, true, false, cond, false≢true}
use mathlib.Core.List.{List, [], ◌∷◌, ◌++◌, append-nil}
use native.Mathlib.Omega.{arith}
use native.Mathlib.Decide.{dec_le}
use lib.Dec.{eqb, ltb}
use lib.ListN.{length, take, drop, drop_of_length-le, length-map, length-take, length-replicate}
use lib.Seq.{take_all, take_at}
use borrow.Author.Tests.{ne_eqb, ltb-false}
use Rattle.node_record.proofs.nodeset.Tests.{by_cases}
use Rattle.node_record.specs.cable.Cable.{cable_of, cable_fits}
use Rattle.node_record.proofs.cable.Ranges.{ring-size, fitting}
use Rattle.node_record.specs.Held.{rowed}
use Rattle.bench.specs.node.Answers.{Answer}
use Rattle.bench.specs.Calls.{Called, set_up_of, slot_of, off_of, restart_of}
use Rattle.bench.specs.Kept.{if_done}
use Rattle.bench.specs.Held.{HeldTable, rowed_all, setted_all, held_by}
use Rattle.bench.specs.declared.Command.TheVariants as command
use Rattle.bench.proofs.Ledgers.{given-none}
use Rattle.bench.specs.node.Calls.{no_node}
use Rattle.bench.specs.Table.{Table, record_of, slots_of, table_sound}
use Rattle.bench.specs.Outcomes.{ended_of, slot_given}
use Rattle.bench.specs.Runs.{Call, slot, off, restart, call_of, table_after}
use Rattle.bench.proofs.Places.{Placed, sound-placed, placed-sound}
use Rattle.bench.proofs.Runs.{placed-call, start-placed}
use Rattle.bench.proofs.Standing.{length-setted, Keeps, set-up-keeps, off-keeps, restart-keeps, given-keeps, SoundIfMade, set-up-made, off-made, restart-made, slot-made, stands}
use Rattle.bench_by_value.specs.ByValue as by_value
use Rattle.bench_by_value.specs.ByValue.{Rows, table_of}
use Rattle.plan_line.specs.Plan.{Opening, Said, opening_of, line_of}
use Rattle.plan_line.specs.declared.Line.TheVariants as lines
use Rattle.plan_line.proofs.Ranges.{RingIn, opened}
use Rattle.plan_run.specs.Run.{act_of, choices_of, no_rows, opened_by, opened_of, ran_by, ran_of}
use Rattle.plan_run.proofs.Plain.{plain-set-up}
use Rattle.plan_program.specs.declared.Plan.{Plan}
use Rattle.plan_text.specs.Text.{next_line}
use Rattle.plan_program.specs.Program.{after_line, plan_opened, plan_ran, quiet, run_line, run_of}
use Rattle.plan_program.specs.Calls.{plan_sound}
use Rattle.plan_program.specs.Tables.{calls_in, made_by, start_of}
use Rattle.plan_program.specs.OnSets.{act_on}

-- the first rows, where they were replaced by as many
rows_replaced : (n : ℕ) (rows : Rows) (t : HeldTable) → length t ≡ length (take n rows) → take n (t ++ drop n rows) ≡ t
rows_replaced n rows t same = go (dec_le n (length rows))
  where
    go : Dec (n ≤ length rows) → take n (t ++ drop n rows) ≡ t
    go (yes h) = take_at t (drop n rows) n (omega (arith, same, length-take n rows))
    go (no h) =
        ap (λ (r : Rows). take n (t ++ r)) (drop_of_length-le rows {i = n} (omega arith))
        ∙ ap (take n) (append-nil t)
        ∙ take_all n t (omega (arith, same, length-take n rows))

-- ---- a call

-- what a call leaves of a held table has as many records
held-length : (t : HeldTable) (called : Called) → length called.table ≡ length (setted_all t) → length (held_by t called) ≡ length t
held-length t called same = go called.answer
  where
    go : (a : Answer) → length (if_done a (rowed_all called.table) t) ≡ length t
    go (Ok _) = length-map called.table rowed ∙ same ∙ length-setted t
    go (Err cause) = refl

-- the table of the rows after a call is the one that the call leaves
table-left : (n : ℕ) (rows : Rows) (called : Called) → Keeps (table_of n rows) called → SoundIfMade called → length called.table ≡ length (table_of n rows)
    → table_of n (held_by (take n rows) called ++ drop n rows) ≡ called.table
table-left n rows called keeps made same =
    ap setted_all (rows_replaced n rows (held_by (take n rows) called) (held-length (take n rows) called same)) ∙ stands (take n rows) called keeps made

-- a ring of one node at least
pub some-record : (t : Table) → table_sound t ≡ true → 1 ≤ length t
unfolding table_sound
some-record [] e = absurd (false≢true e)
some-record (v ∷ t) e = omega arith

some-node : (t : Table) → table_sound t ≡ true → 1 ≤ (record_of t 1).cable.n
some-node t e = omega (arith, some-record t e, (sound-placed t e).length-is)

module _ (t : Table) (sound : table_sound t ≡ true) where
  still_placed : (c : Call) → (slots : ℕ) × Placed (record_of t 1).cable slots (call_of c t).table
  still_placed c = (_, placed-call (record_of t 1).cable (slots_of t) t (some-node t sound) (sound-placed t sound) c)

  same_size : (c : Call) → length (call_of c t).table ≡ length t
  same_size c = (still_placed c).1.length-is ∙ sym (sound-placed t sound).length-is

  pub still-sound : (c : Call) → table_sound (call_of c t).table ≡ true
  still-sound c = placed-sound (record_of t 1).cable (still_placed c).0 (call_of c t).table (some-node t sound) (still_placed c).1

-- ---- a later line

module _ (n : ℕ) (rows : Rows) (sound : table_sound (table_of n rows) ≡ true) where
  abbrev t : Table
  t = table_of n rows

  slot-left : (lost : Bool) (missed : ℕ) → table_of n (ran_by n rows (Ok (command.Slot lost missed 0))).rows ≡ (slot_given lost missed 0 64 t).table
  unfolding by_value.call_of call_of
  slot-left lost missed =
      table-left n rows (slot_given lost missed 0 64 t) (given-keeps lost missed 0 64 t) (slot-made lost missed 0 64 t sound)
      (ap (λ (c : Called). length c.table) (given-none lost missed 64 t) ∙ same_size t sound (slot lost missed 64))

  -- the rows after a line hold the table that its call leaves
  pub line-left : (l : Said) → table_of n (ran_by n rows (act_of l)).rows ≡ (act_on t (act_of l)).0
  unfolding by_value.call_of call_of ended_of
  line-left (Ok lines.Ok) = slot-left false 0
  line-left (Ok lines.Lost) = slot-left true 0
  line-left (Ok (lines.Miss missed)) = slot-left false missed
  line-left (Ok (lines.Off a)) = table-left n rows (off_of a t) (off-keeps a t) (off-made a t sound) (same_size t sound (off a))
  line-left (Ok (lines.On a)) = table-left n rows (restart_of a t) (restart-keeps a t) (restart-made a t) (same_size t sound (restart a))
  line-left (Err cause) = refl

  -- a line's slot has job byte 0
  slot-call : (lost : Bool) (missed : ℕ) → (slot_given lost missed 0 64 t).table ≡ (slot_of lost missed 64 t).table
  slot-call lost missed = ap (λ (c : Called). c.table) (given-none lost missed 64 t)

  line-call : (l : Said) → (act_on t (act_of l)).0 ≡ table_after t (made_by l)
  unfolding table_after call_of ended_of
  line-call (Ok lines.Ok) = slot-call false 0
  line-call (Ok lines.Lost) = slot-call true 0
  line-call (Ok (lines.Miss missed)) = slot-call false missed
  line-call (Ok (lines.Off a)) = refl
  line-call (Ok (lines.On a)) = refl
  line-call (Err cause) = refl

  pub line-table : (l : Said) → table_of n (ran_by n rows (act_of l)).rows ≡ table_after t (made_by l)
  line-table l = line-left l ∙ line-call l

  line-sound : (l : Said) → table_sound (table_after t (made_by l)) ≡ true
  unfolding table_after
  line-sound (Ok lines.Ok) = still-sound t sound (slot false 0 64)
  line-sound (Ok lines.Lost) = still-sound t sound (slot true 0 64)
  line-sound (Ok (lines.Miss missed)) = still-sound t sound (slot false missed 64)
  line-sound (Ok (lines.Off a)) = still-sound t sound (off a)
  line-sound (Ok (lines.On a)) = still-sound t sound (restart a)
  line-sound (Err cause) = sound

-- ---- line one

module _ (n k : ℕ) (fits : cable_fits (cable_of n k) ≡ true) where
  in-ring : (3 ≤ n) × (n ≤ 32)
  in-ring = ring-size n (fitting (cable_of n k) fits).ring

  one_each : length (table_of n no_rows) ≡ n
  one_each = omega (arith, length-setted (take n no_rows), length-take n no_rows, length-replicate 32 (rowed no_node), in-ring)

  start : Placed (cable_of n k) 0 (start_of n k)
  start = start-placed (cable_of n k) fits (table_of n no_rows) one_each

  pub opened-table : table_of n (opened_by (Ok (n, k))).rows ≡ start_of n k
  unfolding by_value.call_of
  opened-table =
      let t = table_of n no_rows in
      ap (λ (c : Called). table_of n (held_by (take n no_rows) c ++ drop n no_rows)) (plain-set-up (choices_of n k) t)
      ∙ table-left n no_rows (set_up_of (cable_of n k) t) (set-up-keeps (cable_of n k) t) (set-up-made (cable_of n k) t) (start.length-is ∙ sym one_each)

  start-sound : table_sound (start_of n k) ≡ true
  start-sound = placed-sound (cable_of n k) 0 (start_of n k) (omega (arith, in-ring)) start

-- ---- a plan

pub next-line-some : (L : ℕ) → eqb (next_line L) 0 ≡ false
unfolding next_line
next-line-some L =
    by_cases (ltb L 18446744073709551615)
    (λ e. rw e (ne_eqb (L + 1) 0 (λ h. omega arith)))
    (λ e. rw e (ne_eqb L 0 (λ h. omega (arith, ltb-false L 18446744073709551615 e))))

sound-table : (p : Plan) → table_sound (table_of p.n p.rows) ≡ true → plan_sound p ≡ true
unfolding plan_sound
sound-table p e = rw e (go p.over (eqb p.lines 0))
  where
    go : (over first : Bool) → cond over true (cond first true true) ≡ true
    go true first = refl
    go false true = refl
    go false false = refl

-- What later lines leave of a plan.
pub record After (p q : Plan) (cs : List Call) : Type 0 where
  pub size : q.n ≡ p.n
  pub opened : eqb q.lines 0 ≡ false
  pub sound : plan_sound q ≡ true
  pub table : table_of q.n q.rows ≡ table_after (table_of p.n p.rows) cs

pub over-line : (p : Plan) (l : List ℕ) → p.over ≡ true → after_line p l ≡ quiet p
unfolding after_line
over-line p l e = simp e

pub ran_line : (p : Plan) (l : List ℕ) → eqb p.lines 0 ≡ false → p.over ≡ false
    → after_line p l ≡ plan_ran (next_line p.lines) p.n (ran_by p.n p.rows (act_of (line_of p.n l)))
unfolding after_line run_line ran_of
ran_line p l begun going = simp (going, begun)

pub later-line : (p : Plan) (l : List ℕ) → eqb p.lines 0 ≡ false → plan_sound p ≡ true → After p (after_line p l) (calls_in p l)
unfolding plan_sound table_after
later-line p l begun sound =
    by_cases p.over
    (λ over. rw (over-line p l over, over) (record { size = refl; opened = begun; sound = refl; table = refl }))
    (λ going.
    let table : table_sound (table_of p.n p.rows) ≡ true = simp (going, begun) at sound in
    let said = line_of p.n l in
    let is = line-table p.n p.rows table said in
    rw (ran_line p l begun going, going) (record {
      size = refl;
      opened = next-line-some p.lines;
      sound = sound-table (plan_ran (next_line p.lines) p.n (ran_by p.n p.rows (act_of said))) (ap table_sound is ∙ line-sound p.n p.rows table said);
      table = is;
    }))

pub first-line : (p : Plan) (l : List ℕ) → eqb p.lines 0 ≡ true → p.over ≡ false → after_line p l ≡ plan_opened (next_line p.lines) (opened_by (opening_of l))
unfolding after_line run_line opened_of
first-line p l begun going = simp (going, begun)

opened-sound : (L : ℕ) (o : Opening) → RingIn o → plan_sound (plan_opened L (opened_by o)) ≡ true
unfolding plan_sound
opened-sound L (Ok (n, k)) r =
    sound-table (plan_opened L (opened_by (Ok (n, k)))) (ap table_sound (opened-table n k r) ∙ start-sound n k r)
opened-sound L (Err cause) r = refl

pub sound-line : (p : Plan) (l : List ℕ) → plan_sound p ≡ true → plan_sound (after_line p l) ≡ true
unfolding plan_sound
sound-line p l sound =
    by_cases p.over
    (λ over. rw (over-line p l over) sound)
    (λ going.
    by_cases (eqb p.lines 0)
    (λ first. rw (first-line p l first going) (opened-sound (next_line p.lines) (opening_of l) (opened l)))
    (λ begun. (later-line p l begun sound).sound))

pub sound-run : (p : Plan) (parts : List (List ℕ)) → plan_sound p ≡ true → plan_sound (run_of p parts).plan ≡ true
unfolding run_of
sound-run p [] e = e
sound-run p (rest ∷ []) e = e
sound-run p (line ∷ next ∷ parts) e = sound-run (after_line p line) (next ∷ parts) (sound-line p line e)
