-- The premises of request g are met, with lag 0 and with lag 1, by a run in which all but two die; with request e or f taken back the claim is false. Whatever records were lent to set-up. Assumes nothing.
use Prim.Native.Nat.{ℕ, zero, suc, ◌+◌, ◌-◌, ◌≤◌}
use mathlib.Core.Path.{◌≡◌, refl, sym, ap, ◌∙◌, subst}
use mathlib.Core.Logic.{◌≢◌}
use mathlib.Core.Bool.{Bool, true, false, not, ◌&&◌, true≢false}
use mathlib.Core.List.{List, [], ◌∷◌, map, reverse}
use native.Mathlib.Omega.{arith}
use lib.Dec.{eqb, lit≤}
use borrow.Author.Tests as tests
use borrow.Author.Tests.{eqb-true, eqb-false}
use Rattle.agreement.specs.nodeset.Sets.{has}
use Rattle.agreement.proofs.nodeset.Bits.{has-none}
use Rattle.agreement.proofs.nodeset.Tests.{both}
use Rattle.agreement.specs.cable.declared.Cable.{Cable}
use Rattle.agreement.specs.cable.Cable.{cable_of, lagging_cable, cable_fits}
use Rattle.agreement.specs.ring.Ring.{sender}
use Rattle.agreement.specs.node_record.declared.Node.{Node}
use Rattle.agreement.specs.node_record.declared.State.{State}
use Rattle.agreement.specs.node_record.declared.State.TheVariants.{Member, Out}
use Rattle.agreement.specs.node_record.declared.Cause.TheVariants.{SwitchedOff}
use Rattle.agreement.specs.node_record.States.{is_member}
use Rattle.agreement.specs.node.Calls.{no_node}
use Rattle.agreement.specs.bench.Table.{Table, record_of, slots_of, speaker}
use Rattle.agreement.specs.bench.Calls.{set_up_of, transmits}
use Rattle.agreement.specs.bench.Runs.{Call, slot, off, restart, misses, table_after, entry_on}
use Rattle.agreement.proofs.bench.Computed.{computed}
use Rattle.agreement.specs.Demand.{AtEach, EverySequence}
use Rattle.agreement.specs.Repeated.{run_by, run_before}
use Rattle.agreement.proofs.Beginnings.{at-end}
use Rattle.many_dead.specs.Many.{Undisturbed, OnlyOffs, Spares, StaysOn, TwoStayOn, Survives, ManyDeadFor}
use Rattle.many_dead.specs.Alone.{run_without_e, power_cut, lingers, taken_along}

-- ---- plans of `ok` and `off` alone, as a test

abbrev quiet_call : Call → Bool
quiet_call (slot lost missed room) = not lost && eqb missed 0
quiet_call (off a) = true
quiet_call (restart a) = false

abbrev spare_call : ℕ → Call → Bool
spare_call i (slot lost missed room) = true
spare_call i (off a) = not (eqb a i)
spare_call i (restart a) = true

unfoldable every : (Call → Bool) → List Call → Bool
every f [] = true
every f (c ∷ cs) = every f cs && f c

at-each-by : (P : Call → List Call → Type 0) (f : Call → Bool) → ((c : Call) (cs : List Call) → f c ≡ true → P c cs) → (cs : List Call) → every f cs ≡ true → AtEach P cs
unfolding every AtEach
at-each-by P f h [] e = tt
at-each-by P f h (c ∷ cs) e = let b = both (every f cs) (f c) e in (at-each-by P f h cs b.0, h c cs b.1)

-- nobody is named, so nobody misses it
none-misses : (x y z : Bool) (m : ℕ) (i : ℕ) (u : Bool) → m ≡ 0 → (x && (y && (z && (has m i && u)))) ≡ false
none-misses false y z m i u e = refl
none-misses true false z m i u e = refl
none-misses true true false m i u e = refl
none-misses true true true m i u e = ap (λ (b : Bool). b && u) (ap (λ (q : ℕ). has q i) e ∙ has-none i)

undisturbed : (n : ℕ) (c : Call) (t : Table) → quiet_call c ≡ true → Undisturbed n c t
unfolding misses
undisturbed n (slot lost missed room) t e =
    let b = both (not lost) (eqb missed 0) e in
    λ _ _. (tests.not-true lost b.0, λ i _ _. none-misses (is_member (record_of t i).state) (transmits t) (not lost) missed i (not (eqb i (speaker t))) (eqb-true missed 0 b.1))
undisturbed n (off a) t e = tt
undisturbed n (restart a) t e = absurd (true≢false (sym e))

spares : (i : ℕ) (c : Call) → spare_call i c ≡ true → Spares i c
spares i (slot lost missed room) e = tt
spares i (off a) e = eqb-false a i (tests.not-true (eqb a i) e)
spares i (restart a) e = tt

only-offs : (cable : Cable) (run : List Call → Table) (cs : List Call) → every quiet_call cs ≡ true → OnlyOffs cable run cs
only-offs cable run cs e = at-each-by (λ c before. Undisturbed cable.n c (run before)) quiet_call (λ c before q. undisturbed cable.n c (run before) q) cs e

stays-on : (n i : ℕ) (cs : List Call) → 1 ≤ i → i ≤ n → every (spare_call i) cs ≡ true → StaysOn n i cs
stays-on n i cs h l e = record { pos = h; le = l; on = at-each-by (λ c before. Spares i c) (spare_call i) (λ c before q. spares i c q) cs e }

-- ---- all but two die

-- state and set of each node
abbrev shown : Table → List (State × ℕ)
shown t = map {B = State × ℕ} (λ v. (v.state, v.set)) t

module _ (a b c d e f : Node) where
  abbrev six : ℕ → Table
  six lag = (set_up_of (lagging_cable 6 3 lag) (a ∷ b ∷ c ∷ d ∷ e ∷ f ∷ [])).table

  pub premises-met : (lag : ℕ) → OnlyOffs (lagging_cable 6 3 lag) (table_after (six lag)) (reverse power_cut) × TwoStayOn 6 (reverse power_cut)
  unfolding every
  premises-met lag = (
    only-offs (lagging_cable 6 3 lag) (table_after (six lag)) (reverse power_cut) refl,
    record { a = 3; b = 4; first = stays-on 6 3 (reverse power_cut) (lit≤ tt) (lit≤ tt) refl; second = stays-on 6 4 (reverse power_cut) (lit≤ tt) (lit≤ tt) refl; two = λ p. omega arith },
  )

  -- with either lag the two that stay on hold one another at the end
  pub two-left : (lag : ℕ) → lag ≤ 1 → shown (table_after (six lag) (reverse power_cut))
      ≡ (Out SwitchedOff, 0) ∷ (Out SwitchedOff, 0) ∷ (Member, 0b001100) ∷ (Member, 0b001100) ∷ (Out SwitchedOff, 0) ∷ (Out SwitchedOff, 0) ∷ []
  unfolding computed
  two-left zero h = refl
  two-left (suc zero) h = refl
  two-left (suc (suc lag)) h = let z : ⊥ = omega arith in absurd z

-- ---- without request f, and without request e

abbrev four : ℕ → Table
four k = (set_up_of (cable_of 4 k) (no_node ∷ no_node ∷ no_node ∷ no_node ∷ [])).table

-- the claim at the end of a plan on four nodes in which i and j stay on
ends-well : (run_of : Table → List Call → Table) → ManyDeadFor run_of → (k : ℕ) → cable_fits (cable_of 4 k) ≡ true → (cs : List Call) → every quiet_call cs ≡ true
    → (i j : ℕ) → i ≢ j → StaysOn 4 i cs → StaysOn 4 j cs → Survives (cable_of 4 k) (run_of (four k)) cs
unfolding EverySequence
ends-well run_of claim k fits cs quiet i j two on-i on-j =
    at-end (Survives (cable_of 4 k) (run_of (four k))) cs (claim (cable_of 4 k) fits (no_node ∷ no_node ∷ no_node ∷ no_node ∷ []) refl cs
    (only-offs (cable_of 4 k) (run_of (four k)) cs quiet, record { a = i; b = j; first = on-i; second = on-j; two = two }))

still-listed : has (record_of (run_before (four 3) (reverse lingers)) 3).set (sender (cable_of 4 3) 2) ≡ true
unfolding computed run_by
still-listed = refl

in-time : slots_of (run_before (four 3) (reverse lingers)) ≡ 5
unfolding computed run_by
in-time = refl

was-silent : (entry_on (run_before (four 3)) (reverse lingers) 2).sent ≡ false
unfolding computed run_by
was-silent = refl

pub needs-f : ManyDeadFor run_before → ⊥
unfolding every computed
needs-f claim =
    let cs = reverse lingers in
    let on = stays-on 4 3 (reverse lingers) (lit≤ tt) (lit≤ tt) refl in
    let ends = ends-well run_before claim 3 refl cs refl 3 4 (λ p. omega arith) on (stays-on 4 4 cs (lit≤ tt) (lit≤ tt) refl) in
    true≢false (sym still-listed ∙ ends.gone 2 (lit≤ tt) (subst (λ (q : ℕ). 2 + (4 - 1) ≤ q) (sym in-time) (lit≤ tt)) was-silent 3 on)

has_left : is_member (record_of (run_without_e (four 2) (reverse taken_along)) 1).state ≡ false
unfolding computed run_by
has_left = refl

pub needs-e : ManyDeadFor run_without_e → ⊥
unfolding every computed
needs-e claim =
    let cs = reverse taken_along in
    let on = stays-on 4 1 (reverse taken_along) (lit≤ tt) (lit≤ tt) refl in
    let ends = ends-well run_without_e claim 2 refl cs refl 1 4 (λ p. omega arith) on (stays-on 4 4 cs (lit≤ tt) (lit≤ tt) refl) in
    true≢false (sym (ends.remain 1 on) ∙ has_left)
