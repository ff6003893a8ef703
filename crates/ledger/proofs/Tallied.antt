-- Each figure of the ledger is its tally (specs/Tallies). Of each node: how often it left, and one more if it is a member, is how often it joined and one more; and it
-- joins in slots alone. So no count passes the slot count plus one, no call is refused by 13, and each call with the ledger is the call without it. Assumes nothing.
use Rattle.std.specs.Prelude.{Err, Ok}
use Prim.Native.Nat.{ℕ, zero, suc, ◌+◌, ◌-◌, ◌≤◌, ◌<◌}
use mathlib.Core.Path.{◌≡◌, refl, sym, ap, ◌∙◌, subst}
use mathlib.Core.Logic.{◌≢◌}
use mathlib.Core.Bool.{Bool, true, false, cond, not, ◌&&◌, true≢false}
use mathlib.Core.List.{List, [], ◌∷◌}
use native.Mathlib.Omega.{arith}
use native.Mathlib.Nat.{add-zero}
use lib.Dec.{eqb, leb, ltb}
use lib.ListN.{length, get_or, length-replicate, get_or-replicate}
use borrow.Author.Tests.{le-leb, eq-eqb}
use Rattle.bench.specs.refusal.Causes.{cause}
use Rattle.nodeset.specs.Sums.{num}
use Rattle.nodeset.specs.Sets.{within}
use Rattle.nodeset.proofs.Tests.{by_cases, chosen, otherwise, both, all}
use Rattle.bench.specs.cable.declared.Cable.{Cable}
use Rattle.bench.specs.cable.Cable.{node_number, cable_fits}
use Rattle.bench.proofs.cable.Ranges.{ring-size, fitting}
use Rattle.bench.specs.node.Calls.{is_done}
use Rattle.bench.specs.node_record.declared.Node.{Node}
use Rattle.bench.specs.node_record.declared.State.{State}
use Rattle.bench.specs.node_record.declared.State.TheVariants.{Member, Listening, Following, Knocking, Out}
use Rattle.bench.specs.node_record.States.{is_member, is_out}
use Rattle.bench.specs.node_record.Soundness.{sound, limit}
use Rattle.bench.specs.message.Message.{jobs_within}
use Rattle.bench.specs.node.Answers.{Answer}
use Rattle.bench.specs.node.Calls as node
use Rattle.bench.specs.Table.{Table, record_of, node_count, slots_of, table_sound}
use Rattle.bench.specs.Calls.{Called, set_up_of, slot_of, off_of, restart_of}
use Rattle.bench.specs.Ledger.{Ledger, Figures, figures, counts_fit, all_fit, ledger_fits, is_leaving, is_joining, figures_after, entries_from, ledger_after}
use Rattle.bench.specs.declared.Command.TheVariants as command
use Rattle.bench.specs.Reports.{reports_fit, jobs_on}
use Rattle.bench.specs.Outcomes.{slot_given}
use Rattle.bench.specs.Kept.{slot_with, off_with, date_of, ledger_with, kept_of}
use Rattle.bench.specs.Runs.{Call, slot, off, restart, call_of, table_after, is_slot}
use Rattle.bench.proofs.Places.{Placed}
use Rattle.bench.proofs.Accepted.{slot-refused, off-done, off-refused, restarts, restart-done, restart-refused}
use Rattle.bench.proofs.Runs.{after-off-record, after-restart-record, start-record, start-placed, never-unsound, run_length, slots_next}
use Rattle.ledger.specs.Runs.{Bench, Given, command_of, commanded, called_by, zeros, bench_after, made_of}
use Rattle.ledger.proofs.Numbers.{number_in, number_told, told-number, unless}
use Rattle.ledger.proofs.Made.{refused-stays, made-is}
use Rattle.ledger.specs.Tallies.{joins, times_left, times_joined, last_leaving, LedgerTallies}

-- ---- entries

entry_at : (date : ℕ) (before after : Table) (i j : ℕ) (ledger : Ledger) → j < length ledger
    → get_or (entries_from date before after i ledger) j [] ≡ figures_after date (record_of before (i + j)).state (record_of after (i + j)).state (get_or ledger j [])
unfolding entries_from
entry_at date before after i j [] h = absurd (elim h [ ])
entry_at date before after i zero (f ∷ ledger) h =
    ap (λ (x : ℕ). figures_after date (record_of before x).state (record_of after x).state f) (sym (add-zero i))
entry_at date before after i (suc j) (f ∷ ledger) h =
    let z : suc i + j ≡ i + suc j = omega arith in
    entry_at date before after (suc i) j ledger (omega arith)
    ∙ ap (λ (x : ℕ). figures_after date (record_of before x).state (record_of after x).state (get_or ledger j [])) z

length-entries : (date : ℕ) (before after : Table) (i : ℕ) (ledger : Ledger) → length (entries_from date before after i ledger) ≡ length ledger
unfolding entries_from
length-entries date before after i [] = refl
length-entries date before after i (f ∷ ledger) = ap suc (length-entries date before after (suc i) ledger)

-- an entry of three figures, one call on
figures-next : (date : ℕ) (a b : State) (l j d : ℕ)
    → figures_after date a b (figures l j d) ≡ figures (l + num (is_leaving a b)) (j + num (is_joining a b)) (cond (is_leaving a b) date d)
figures-next date a b l j d = go (is_member a) (is_member b)
  where
    z : (x : ℕ) → x ≡ x + 0
    z x = sym (add-zero x)

    go : (p q : Bool) → cond (p && not q) (figures (l + 1) j date) (cond (not p && q) (figures l (j + 1) d) (figures l j d))
        ≡ figures (l + num (p && not q)) (j + num (not p && q)) (cond (p && not q) date d)
    go true true = ap (λ (x : ℕ). figures x j d) (z l) ∙ ap (λ (x : ℕ). figures (l + 0) x d) (z j)
    go true false = ap (λ (x : ℕ). figures (l + 1) x date) (z j)
    go false true = ap (λ (x : ℕ). figures x (j + 1) d) (z l)
    go false false = ap (λ (x : ℕ). figures x j d) (z l) ∙ ap (λ (x : ℕ). figures (l + 0) x d) (z j)

-- one call on, leavings and joinings balance
balance-next : (a b : State) → num (is_leaving a b) + num (is_member b) ≡ num (is_joining a b) + num (is_member a)
balance-next a b = go (is_member a) (is_member b)
  where
    go : (p q : Bool) → num (p && not q) + num q ≡ num (not p && q) + num p
    go true true = refl
    go true false = refl
    go false true = refl
    go false false = refl

-- who stays in its state neither leaves nor joins, nor does who is no member before and after
record Quiet (a b : State) : Type 0 where
  stays-in : is_leaving a b ≡ false
  stays_out : is_joining a b ≡ false

same : (a : State) → Quiet a a
same a = go (is_member a) refl
  where
    go : (p : Bool) → is_member a ≡ p → Quiet a a
    go true e = record { stays-in = rw e refl; stays_out = rw e refl }
    go false e = record { stays-in = rw e refl; stays_out = rw e refl }

away : (a b : State) → is_member a ≡ false → is_member b ≡ false → Quiet a b
away a b e f = record { stays-in = rw e refl; stays_out = rw (e, f) refl }

quiet-figures : (date : ℕ) (a b : State) (f : Figures) → Quiet a b → figures_after date a b f ≡ f
quiet-figures date a b f q = rw (q.stays-in, q.stays_out) refl

-- ---- the calls without a ledger

off-joins : (v : Node) → is_joining v.state (node.off_of v).node.state ≡ false
unfolding node.off_of
off-joins v = by_cases (sound v) (λ e. rw e (none (is_member v.state))) (λ e. rw e (same v.state).stays_out)
  where
    none : (p : Bool) → (not p && false) ≡ false
    none true = refl
    none false = refl

out-no-member : (s : State) → is_out s ≡ true → is_member s ≡ false
out-no-member Member e = sym e
out-no-member Listening e = refl
out-no-member Following e = refl
out-no-member Knocking e = refl
out-no-member (Out cause) e = refl

restart-quiet : (v : Node) → Quiet v.state (node.restart_of v).node.state
unfolding node.restart_of
restart-quiet v =
    by_cases (sound v)
    (λ e. rw e (by_cases (is_out v.state)
    (λ o. rw o (away v.state Listening (out-no-member v.state o) refl))
    (λ o. rw o (same v.state))))
    (λ e. rw e (same v.state))

module _ (t : Table) (in-order : table_sound t ≡ true) (i : ℕ) (h : 1 ≤ i) (l : i ≤ length t) where
  -- nobody joins by `off`, and a restart is neither
  off-joins-none : (a : ℕ) → joins (off a) t i ≡ false
  off-joins-none a =
      by_cases (node_number (node_count t) a)
      (λ e. rw (off-done a t in-order e, after-off-record a t i h l) (go (eqb i a)))
      (λ e. rw (off-refused a t in-order e) (same (record_of t i).state).stays_out)
    where
      go : (b : Bool) → is_joining (record_of t i).state (cond b (node.off_of (record_of t i)).node (record_of t i)).state ≡ false
      go true = off-joins (record_of t i)
      go false = (same (record_of t i).state).stays_out

  restart-none : (a : ℕ) → Quiet (record_of t i).state (record_of (call_of (restart a) t).table i).state
  restart-none a =
      by_cases (restarts a t)
      (λ e. rw (restart-done a t in-order e, after-restart-record a t i h l) (go (eqb i a)))
      (λ e. rw (restart-refused a t in-order e) (same (record_of t i).state))
    where
      go : (b : Bool) → Quiet (record_of t i).state (cond b (node.restart_of (record_of t i)).node (record_of t i)).state
      go true = restart-quiet (record_of t i)
      go false = same (record_of t i).state

  -- nobody joins but in a slot that runs
  joins-in-slots : (c : Call) → num (joins c t i) ≤ num (is_slot c t)
  joins-in-slots (slot lost missed room) =
      by_cases (is_slot (slot lost missed room) t)
      (λ e. rw e (at_most (joins (slot lost missed room) t i)))
      (λ e. rw (e, slot-refused lost missed room t e, (same (record_of t i).state).stays_out) (omega arith))
    where
      at_most : (b : Bool) → num b ≤ 1
      at_most true = omega arith
      at_most false = omega arith
  joins-in-slots (off a) = rw (off-joins-none a) (omega arith)
  joins-in-slots (restart a) = rw (restart-none a).stays_out (omega arith)

-- ---- the calls with it

-- a refused call leaves the table
refused-table : (c : Call) (t : Table) → table_sound t ≡ true → is_done (call_of c t).answer ≡ false → (call_of c t).table ≡ t
unfolding call_of slot_of off_of restart_of is_slot
refused-table (slot lost missed room) t e d = slot-refused lost missed room t d
refused-table (off a) t e d =
    by_cases (node_number (node_count t) a) (λ b. absurd (true≢false (sym (done b) ∙ d))) (λ b. off-refused a t e b)
  where
    done : node_number (node_count t) a ≡ true → is_done (off_of a t).answer ≡ true
    done b = rw (e, b) refl
refused-table (restart a) t e d =
    by_cases (restarts a t) (λ b. absurd (true≢false (sym (done b) ∙ d))) (λ b. restart-refused a t e b)
  where
    done : restarts a t ≡ true → is_done (restart_of a t).answer ≡ true
    done b = let p = both (node_number (node_count t) a) (is_out (record_of t a).state) b in rw (e, p.0, p.1) refl

-- the ledger after a call, where it is not refused by 13
module _ (t : Table) (ledger : Ledger) (i : ℕ) (e : table_sound t ≡ true) (h : 1 ≤ i) (l : i ≤ length t) (s : length ledger ≡ length t) where
  abbrev entry_of : Ledger → Figures
  entry_of x = get_or x (i - 1) []

  entered : (date : ℕ) (after : Table) → entry_of (ledger_after date t after ledger) ≡ figures_after date (record_of t i).state (record_of after i).state (entry_of ledger)
  entered date after =
      let z : 1 + (i - 1) ≡ i = omega arith in
      entry_at date t after 1 (i - 1) ledger (omega (arith, s)) ∙ ap (λ (x : ℕ). figures_after date (record_of t x).state (record_of after x).state (entry_of ledger)) z

  kept : (date : ℕ) (after : Table) → after ≡ t → entry_of ledger ≡ figures_after date (record_of t i).state (record_of after i).state (entry_of ledger)
  kept date after p = rw p (sym (quiet-figures date (record_of t i).state (record_of t i).state (entry_of ledger) (same (record_of t i).state)))

  ledger-next : (c : Call) (jobs : ℕ) → entry_of (ledger_with (command_of c jobs) t (call_of c t) ledger) ≡ figures_after (date_of (command_of c 0) t) (record_of t i).state (record_of (call_of c t).table i).state (entry_of ledger)
  ledger-next (slot lost missed room) jobs = by (call_of (slot lost missed room) t).answer (λ d. refused-table (slot lost missed room) t e d)
    where
      after : Table
      after = (call_of (slot lost missed room) t).table

      by : (a : Answer) → (is_done a ≡ false → after ≡ t)
          → entry_of (ledger_with (command.Slot lost missed jobs) t (record { table = after; answer = a }) ledger) ≡ figures_after (slots_of t + 1) (record_of t i).state (record_of after i).state (entry_of ledger)
      by (Ok _) _ = entered (slots_of t + 1) after
      by (Err r) f = kept (slots_of t + 1) after (f refl)
  ledger-next (off a) jobs = by (call_of (off a) t).answer (λ d. refused-table (off a) t e d)
    where
      after : Table
      after = (call_of (off a) t).table

      by : (b : Answer) → (is_done b ≡ false → after ≡ t)
          → entry_of (ledger_with (command.Off a) t (record { table = after; answer = b }) ledger) ≡ figures_after (slots_of t) (record_of t i).state (record_of after i).state (entry_of ledger)
      by (Ok _) _ = entered (slots_of t) after
      by (Err r) f = kept (slots_of t) after (f refl)
  ledger-next (restart a) jobs = by (call_of (restart a) t).answer ∙ sym (quiet-figures 0 _ _ (entry_of ledger) (restart-none t e i h l a))
    where
      by : (b : Answer) → entry_of (ledger_with (command.Restart a) t (record { table = (call_of (restart a) t).table; answer = b }) ledger) ≡ entry_of ledger
      by (Ok _) = refl
      by (Err r) = refl

ledger-length : (c : Call) (jobs : ℕ) (t : Table) (called : Called) (ledger : Ledger) → length (ledger_with (command_of c jobs) t called ledger) ≡ length ledger
ledger-length c jobs t called ledger = by c called.answer
  where
    by : (k : Call) (a : Answer) → length (ledger_with (command_of k jobs) t (record { table = called.table; answer = a }) ledger) ≡ length ledger
    by (slot lost missed room) (Ok _) = length-entries (slots_of t + 1) t called.table 1 ledger
    by (off a) (Ok _) = length-entries (slots_of t) t called.table 1 ledger
    by (restart a) (Ok _) = refl
    by (slot lost missed room) (Err r) = refl
    by (off a) (Err r) = refl
    by (restart a) (Err r) = refl

-- a refused call enters nothing
ledger-stays : (c : Call) (jobs : ℕ) (t : Table) (called : Called) (ledger : Ledger) → is_done called.answer ≡ false → ledger_with (command_of c jobs) t called ledger ≡ ledger
ledger-stays c jobs t called ledger e = by c called.answer e
  where
    by : (k : Call) (a : Answer) → is_done a ≡ false → ledger_with (command_of k jobs) t (record { table = called.table; answer = a }) ledger ≡ ledger
    by k (Ok _) f = absurd (true≢false f)
    by (slot lost missed room) (Err r) f = refl
    by (off a) (Err r) f = refl
    by (restart a) (Err r) f = refl

-- ---- a ledger that fits

all-fit : (slots : ℕ) (ledger : Ledger) → ((j : ℕ) → j < length ledger → counts_fit slots (get_or ledger j []) ≡ true) → all_fit slots ledger ≡ true
unfolding all_fit
all-fit slots [] f = refl
all-fit slots (x ∷ ledger) f = all (f 0 (omega arith)) (all-fit slots ledger (λ j h. f (suc j) (omega arith)))

-- ---- 13 is none of the other refusals

not-13 : (g : Given) (ledger : Ledger) (t : Table) → ledger_fits (node_count t) (slots_of t) ledger ≡ true → number_in (called_by g ledger t).answer ≢ 13
unfolding slot_with slot_given slot_of off_with off_of restart_of
not-13 g ledger t fits = go g.call
  where
    none : ◌≢◌ {A = ℕ} 0 13
    none e = omega arith

    go : (c : Call) → number_in (called_by (record { call = c; counts = g.counts; jobs = g.jobs; slots = g.slots }) ledger t).answer ≢ 13
    go (slot lost missed room) =
        unless 13 (table_sound t) 4 t _ refl (unless 13 (reports_fit t g.counts) 4 t _ refl (unless 13 (within (node_count t) missed) 3 t _ refl (rw fits
        (unless 13 (table_sound t) 4 t _ refl (unless 13 (within (node_count t) missed) 3 t _ refl (unless 13 (ltb (slots_of t) limit) 5 t _ refl (unless 13 (jobs_within (jobs_on t) g.jobs) 8 t _ refl
        (unless 13 (table_sound t) 4 t _ refl (unless 13 (within (node_count t) missed) 3 t _ refl (unless 13 (ltb (slots_of t) limit) 5 t _ refl (unless 13 (leb 64 room) 9 t _ refl none)))))))))))
    go (off a) =
        unless 13 (table_sound t) 4 t _ refl (unless 13 (node_number (node_count t) a) 3 t _ refl (rw fits
        (unless 13 (table_sound t) 4 t _ refl (unless 13 (node_number (node_count t) a) 3 t _ refl none))))
    go (restart a) =
        unless 13 (table_sound t) 4 t _ refl (unless 13 (node_number (node_count t) a) 3 t _ refl (unless 13 (is_out (record_of t a).state) 11 t _ refl none))

-- ---- a run

module _ (cable : Cable) (fits : cable_fits cable ≡ true) (lent : Table) (one_each : length lent ≡ cable.n) where
  abbrev start : Table
  start = (set_up_of cable lent).table

  abbrev n : ℕ
  n = cable.n

  pos : 1 ≤ cable.n
  pos = omega (arith, ring-size cable.n (fitting cable fits).ring)

  begins : Placed cable 0 start
  begins = start-placed cable fits lent one_each

  in-order : (cs : List Call) → table_sound (table_after start cs) ≡ true
  in-order cs = never-unsound cable pos start begins cs

  long : (cs : List Call) → length (table_after start cs) ≡ cable.n
  long cs = run_length cable pos start begins cs

  -- of each node: leavings and joinings balance, and it joined in slots alone
  record Counts (cs : List Call) (i : ℕ) : Type 0 where
    balance : times_left start cs i + num (is_member (record_of (table_after start cs) i).state) ≡ times_joined start cs i + 1
    few : times_joined start cs i ≤ slots_of (table_after start cs)

  counts : (cs : List Call) (i : ℕ) → 1 ≤ i → i ≤ cable.n → Counts cs i
  unfolding table_after times_left times_joined
  counts [] i h l =
      record { balance = rw (start-record cable fits lent one_each i h l) refl; few = omega arith }
  counts (c ∷ cs) i h l =
      let r = counts cs i h l in
      let t = table_after start cs in
      record {
        balance = omega (arith, r.balance, balance-next (record_of t i).state (record_of (call_of c t).table i).state);
        few = omega (arith, r.few, joins-in-slots t (in-order cs) i h (omega (arith, long cs)) c, slots_next cable pos start begins c cs);
      }

  abbrev from : List Given → Bench
  from gs = bench_after (record { table = (set_up_of cable lent).table; ledger = zeros cable.n }) gs

  -- table, ledger and figures, where these of the calls are made
  record Kept (gs : List Given) (cs : List Call) : Type 0 where
    tables : (from gs).table ≡ table_after start cs
    size : length (from gs).ledger ≡ n
    entries : (i : ℕ) → i ≤ n → 1 ≤ i → get_or (from gs).ledger (i - 1) [] ≡ figures (times_left start cs i) (times_joined start cs i) (last_leaving start cs i)

  ledger-fits : (gs : List Given) (cs : List Call) → Kept gs cs → ledger_fits (node_count (table_after start cs)) (slots_of (table_after start cs)) (from gs).ledger ≡ true
  unfolding ledger_fits
  ledger-fits gs cs k = all (eq-eqb _ _ (k.size ∙ sym (long cs))) (all-fit _ _ each)
    where
      each : (j : ℕ) → j < length (from gs).ledger → counts_fit (slots_of (table_after start cs)) (get_or (from gs).ledger j []) ≡ true
      each j h =
          let r = counts cs (suc j) (omega arith) (omega (arith, k.size)) in
          let z : suc j - 1 ≡ j = omega arith in
          let is = rw z at (k.entries (suc j) (omega (arith, k.size)) (omega arith)) in
          ap (counts_fit (slots_of (table_after start cs))) is ∙ all (le-leb (times_left start cs (suc j)) (slots_of (table_after start cs) + 1) (omega (arith, r.balance, r.few))) (le-leb (times_joined start cs (suc j)) (slots_of (table_after start cs) + 1) (omega (arith, r.few)))

  module _ (g : Given) (gs : List Given) (cs : List Call) (k : Kept gs cs) where
    abbrev b : Bench
    b = from gs

    abbrev t : Table
    t = table_after start cs

    abbrev called : Called
    called = called_by g b.ledger b.table

    -- a call that is made is one more
    made : is_done called.answer ≡ true → Kept (g ∷ gs) (g.call ∷ cs)
    unfolding bench_after kept_of table_after times_left times_joined last_leaving
    made e =
        let c = g.call in
        let is : called ≡ call_of c t = made-is g b.ledger b.table e ∙ ap (call_of c) k.tables in
        let ledger-is : ledger_with (commanded g) b.table called b.ledger ≡ ledger_with (commanded g) t (call_of c t) b.ledger =
        ap (λ (x : Called). ledger_with (commanded g) b.table x b.ledger) is ∙ ap (λ (x : Table). ledger_with (commanded g) x (call_of c t) b.ledger) k.tables in
        record {
          tables = ap (λ (x : Called). x.table) is;
          size = ledger-length c g.jobs b.table called b.ledger ∙ k.size;
          entries = λ i l h.
              ap (λ (x : Ledger). get_or x (i - 1) []) ledger-is
              ∙ ledger-next t b.ledger i (in-order cs) h (omega (arith, long cs)) (k.size ∙ sym (long cs)) c g.jobs
              ∙ ap (figures_after (date_of (command_of c 0) t) (record_of t i).state (record_of (call_of c t).table i).state) (k.entries i l h)
              ∙ figures-next (date_of (command_of c 0) t) (record_of t i).state (record_of (call_of c t).table i).state (times_left start cs i) (times_joined start cs i) (last_leaving start cs i);
        }

    -- a refused one changes nothing
    refused : is_done called.answer ≡ false → Kept (g ∷ gs) cs
    unfolding bench_after kept_of
    refused e =
        let stays = ledger-stays g.call g.jobs b.table called b.ledger e in
        record {
          tables = refused-stays g b.ledger b.table e ∙ k.tables;
          size = ap length stays ∙ k.size;
          entries = λ i l h. ap (λ (x : Ledger). get_or x (i - 1) []) stays ∙ k.entries i l h;
        }

  kept_run : (gs : List Given) → Kept gs (made_of (record { table = start; ledger = zeros n }) gs)
  unfolding bench_after made_of table_after times_left times_joined last_leaving
  kept_run [] = record {
    tables = refl;
    size = length-replicate n (figures 0 0 0);
    entries = λ i l h. get_or-replicate n (i - 1) (figures 0 0 0) [] (omega arith);
  }
  kept_run (g ∷ gs) =
      let cs = made_of (record { table = start; ledger = zeros n }) gs in
      let k = kept_run gs in
      by_cases (is_done (called_by g (from gs).ledger (from gs).table).answer)
      (λ e. subst (Kept (g ∷ gs)) (sym (chosen (g.call ∷ cs) cs e)) (made g gs cs k e))
      (λ e. subst (Kept (g ∷ gs)) (sym (otherwise (g.call ∷ cs) cs e)) (refused g gs cs k e))

-- ---- the claim

pub ledger-tallies : LedgerTallies
unfolding kept_of
ledger-tallies cable fits lent one_each gs = record {
  tables = k.tables;
  size = k.size;
  entries = k.entries;
  never-13 = λ g e.
      let b = from cable fits lent one_each gs in
      let fit = subst (λ (t : Table). ledger_fits (node_count t) (slots_of t) b.ledger ≡ true) (sym k.tables) (ledger-fits cable fits lent one_each gs cs k) in
      not-13 g b.ledger b.table fit (sym (told-number (commanded g) b.table (called_by g b.ledger b.table)) ∙ ap number_told e);
}
  where
    cs : List Call
    cs = made_of (record { table = (set_up_of cable lent).table; ledger = zeros cable.n }) gs

    k : Kept cable fits lent one_each gs (made_of (record { table = (set_up_of cable lent).table; ledger = zeros cable.n }) gs)
    k = kept_run cable fits lent one_each gs
