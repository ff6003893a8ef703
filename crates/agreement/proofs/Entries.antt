-- The entries of a sequence of calls (bench's specs/Runs), and the world that it makes where it meets the premises. Assumes nothing.
use Prim.Native.Nat.{ℕ, zero, suc, ◌+◌, ◌-◌, ◌≤◌}
use mathlib.Core.Path.{◌≡◌, refl, sym, ap, ◌∙◌}
use mathlib.Core.Bool.{Bool, true, false, cond, not, ◌&&◌, true≢false, false≢true}
use mathlib.Core.List.{List, [], ◌∷◌}
use native.Mathlib.Omega.{arith}
use native.Mathlib.Decide.{dec_le}
use lib.Dec.{eqb}
use lib.ListN.{length}
use borrow.Author.Tests.{eq-eqb, ne_eqb}
use Rattle.bench.specs.nodeset.Sums.{sum, num}
use Rattle.bench.specs.nodeset.Sets.{has}
use Rattle.bench.proofs.nodeset.Sums.{sum-none, sum-next, sum-split, sum-zero, sum_same}
use Rattle.bench.proofs.nodeset.Tests.{by_cases, chosen, otherwise, all}
use Rattle.bench.specs.cable.declared.Cable.{Cable}
use Rattle.bench.specs.cable.Cable.{cable_fits}
use Rattle.bench.proofs.ring_laws.Senders.{turns-of}
use Rattle.bench.proofs.cable.Ranges.{ring-size, sponsor-count, fitting}
use Rattle.bench.specs.node_record.States.{is_member}
use Rattle.bench.specs.Table.{Table, record_of, node_count, slots_of, speaker}
use Rattle.bench.specs.Calls.{transmits}
use Rattle.bench.specs.Runs.{Call, slot, off, restart, table_after, is_slot, is_listed, misses, failures_in, Entry, entry}
use Rattle.agreement.proofs.Past.{Past, past_of, no_past, new_past, past, entry_in, entry-is}
use Rattle.agreement.proofs.History.{sum_more, Fair, World, num-is}
use Rattle.bench.proofs.Choices.{choose}
use Rattle.bench.proofs.Places.{Placed}
use Rattle.bench.proofs.Runs.{run_length}

-- ---- what a slot was

and_no : (a : Bool) {b : Bool} → b ≡ false → (a && b) ≡ false
and_no true e = e
and_no false e = refl

-- the last call is not slot u
past-other : (start : Table) (c : Call) (cs : List Call) (u : ℕ) → (u ≡ slots_of (table_after start cs) + 1 → ⊥) → past start (c ∷ cs) u ≡ past start cs u
unfolding past
past-other start c cs u h = otherwise _ _ (and_no (is_slot c (table_after start cs)) (ne_eqb u (slots_of (table_after start cs) + 1) h))

pub past-zero : (start : Table) (cs : List Call) → past start cs 0 ≡ no_past
unfolding past
past-zero start [] = refl
past-zero start (c ∷ cs) = past-other start c cs 0 (λ e. omega arith) ∙ past-zero start cs

pub past-old : (start : Table) (c : Call) (cs : List Call) (u : ℕ) → u ≤ slots_of (table_after start cs) → past start (c ∷ cs) u ≡ past start cs u
past-old start c cs u h = past-other start c cs u (λ e. omega arith)

pub past-new : (start : Table) (c : Call) (cs : List Call) → is_slot c (table_after start cs) ≡ true
    → past start (c ∷ cs) (slots_of (table_after start cs) + 1) ≡ new_past c (table_after start cs)
unfolding past
past-new start c cs e = chosen _ _ (all e (eq-eqb (slots_of (table_after start cs) + 1) (slots_of (table_after start cs) + 1) refl))

-- ---- what that tells

fair-none : (n : ℕ) → Fair n no_past
fair-none n = record {
  count = omega (arith, sum-zero (λ i. num (no_past.missed i)) 1 n (λ u p q. refl));
  unsent = λ p. absurd (true≢false p);
  outer = λ _ p. absurd (true≢false p);
}

fair-slot : (n : ℕ) (t : Table) (lost : Bool) (missed : ℕ) → length t ≡ n → Fair n (past_of lost missed t)
unfolding failures_in misses
fair-slot n t lost missed l = record {
  count = by_cases (transmits t && not lost) (λ p. count (transmits t) lost p) (λ p. omega (arith, sum-zero f 1 n (λ i _ _. unheard (is_member (record_of t i).state) (transmits t) lost (has missed i && not (eqb i (speaker t))) p)));
  unsent = λ p q. unsent (transmits t) lost p q;
  outer = λ p q. outer (transmits t) lost p q;
}
  where
    f : ℕ → ℕ
    f i = num (misses lost missed t i)

    -- nobody misses a message that is not sent, or lost
    unheard : (x a b y : Bool) → (a && not b) ≡ false → num (x && (a && (not b && y))) ≡ 0
    unheard false a b y p = refl
    unheard true false b y p = refl
    unheard true true true y p = refl
    unheard true true false y p = absurd (true≢false p)

    count : (a b : Bool) → (a && not b) ≡ true → sum f 1 n ≤ cond a (cond b 1 (sum f 1 (node_count t))) (num (is_listed t))
    count true false p = omega (arith, ap (sum f 1) l)
    count true true p = absurd (false≢true p)
    count false b p = absurd (false≢true p)

    unsent : (a b : Bool) → (a && not b) ≡ false → is_listed t ≡ true → 1 ≤ cond a (cond b 1 (sum f 1 (node_count t))) (num (is_listed t))
    unsent true false p q = absurd (true≢false p)
    unsent true true p q = omega arith
    unsent false b p q = omega (arith, num-is q)

    outer : (a b : Bool) → (a && not b) ≡ true → is_listed t ≡ false → (a && not (is_listed t)) ≡ true
    outer true b p q = ap not q
    outer false b p q = absurd (false≢true p)

fair-new : (n : ℕ) (c : Call) (t : Table) → length t ≡ n → Fair n (new_past c t)
fair-new n (slot lost missed room) t l = fair-slot n t lost missed l
fair-new n (off a) t l = fair-none n
fair-new n (restart a) t l = fair-none n

module _ (cable : Cable) (pos : 1 ≤ cable.n) (start : Table) (begins : Placed cable 0 start) where
  open cable use {n}

  pub past-fair : (cs : List Call) (u : ℕ) → Fair n (past start cs u)
  unfolding past
  past-fair [] u = fair-none n
  past-fair (c ∷ cs) u =
      choose (λ (e : Past). Fair n e) (is_slot c (table_after start cs) && eqb u (slots_of (table_after start cs) + 1)) (new_past c (table_after start cs)) (past start cs u)
      (λ _. fair-new n c (table_after start cs) (run_length cable pos start begins cs))
      (λ _. past-fair cs u)

-- ---- n slots in a row, with a round before the first

moved : (f : ℕ → ℕ) (n b m : ℕ) → sum (λ p. f (p - n)) (b + n) m ≡ sum f b m
moved f n b zero = sum-none (λ p. f (p - n)) (b + n) ∙ sym (sum-none f b)
moved f n b (suc m) =
    let z : b + n + m - n ≡ b + m = omega arith in
    omega (arith, sum-next (λ p. f (p - n)) (b + n) m, sum-next f b m, moved f n b m, ap f z)

nothing : (f : ℕ → ℕ) (n : ℕ) → f 0 ≡ 0 → (a m : ℕ) → a + m ≤ suc n → sum (λ p. f (p - n)) a m ≡ 0
nothing f n z a m h = sum-zero (λ p. f (p - n)) a m (λ u p q. let y : u - n ≡ 0 = omega arith in ap f y ∙ z)

pub any-round : (f : ℕ → ℕ) (n c : ℕ) → f 0 ≡ 0 → ((b : ℕ) → sum f (suc b) n ≤ c) → (a : ℕ) → sum (λ p. f (p - n)) (suc a) n ≤ c
any-round f n c z h a = go (dec_le n a)
  where
    go : Dec (n ≤ a) → sum (λ p. f (p - n)) (suc a) n ≤ c
    go (yes l) =
        let y : suc (a - n) + n ≡ suc a = omega arith in
        omega (arith, moved f n (suc (a - n)) n, ap (λ (x : ℕ). sum (λ p. f (p - n)) x n) y, h (a - n))
    go (no l) =
        let y : (n - a) + a ≡ n = omega arith in
        let x : suc a + (n - a) ≡ 1 + n = omega arith in
        let w : a + (n - a) ≡ n = omega arith in
        omega (
          arith,
          ap (sum (λ p. f (p - n)) (suc a)) y,
          sum-split (λ p. f (p - n)) (suc a) (n - a) a,
          nothing f n z (suc a) (n - a) (omega arith),
          ap (λ (b : ℕ). sum (λ p. f (p - n)) b a) x,
          moved f n 1 a,
          sum_more f 1 a (n - a),
          ap (sum f 1) w,
          h 0,
        )

-- what is counted of the entries
pub same_count : (f : Entry → ℕ) (start : Table) (cs : List Call) (a m : ℕ) → sum (λ u. f (entry_in (past start cs u))) a m ≡ sum (λ u. f (entry start cs u)) a m
same_count f start cs a m = sum_same (λ u. f (entry_in (past start cs u))) (λ u. f (entry start cs u)) a m (λ u _ _. ap f (sym (entry-is start cs u)))

-- the world of a sequence of calls
abbrev pub world : (cable : Cable) → cable_fits cable ≡ true → (start : Table) → Placed cable 0 start → (cs : List Call)
    → ((a : ℕ) → sum (λ u. (entry start cs u).failures) (suc a) cable.n ≤ cable.k - 1) → ((a : ℕ) → sum (λ u. num (entry start cs u).outside) (suc a) cable.n ≤ 1) → World
world cable fits start begins cs few-failures one_outside =
    let n = cable.n in
    let r = ring-size n (fitting cable fits).ring in
    let c = sponsor-count cable (fitting cable fits).sponsors in
    record {
      cable = cable;
      n_pos = omega arith;
      turns = turns-of cable (fitting cable fits);
      n-most = r.1;
      k_two = c.0;
      k_lt = omega arith;
      E = λ q. past start cs (q - n);
      fair = λ q. past-fair cable (omega arith) start begins cs (q - n);
      early = λ q h. let z : q - n ≡ 0 = omega arith in ap (past start cs) z ∙ past-zero start cs;
      few = λ a. omega (arith, any-round (λ u. (past start cs u).failures) n (cable.k - 1) (ap (λ (e : Past). e.failures) (past-zero start cs)) (λ b. omega (arith, few-failures b, same_count (λ e. e.failures) start cs (suc b) n)) a);
      once = λ a. any-round (λ u. num (past start cs u).outside) n 1 (ap (λ (e : Past). num e.outside) (past-zero start cs)) (λ b. omega (arith, one_outside b, same_count (λ e. num e.outside) start cs (suc b) n)) a;
    }
