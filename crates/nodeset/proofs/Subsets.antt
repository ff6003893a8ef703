-- Laws of subsets and of sets of the nodes 1 to n (specs/Sets), and what the machine's masks have to do with them. Assumes nothing.
use Prim.Native.Nat.{ℕ, zero, suc, ◌+◌, ◌-◌, ◌%◌, ◌^◌, ◌≤◌, ◌<◌, min}
use mathlib.Core.Path.{◌≡◌, refl, sym, ap, ◌∙◌}
use mathlib.Core.Bool.{Bool, true, false, not, true≢false, ◌&&◌}
use native.Mathlib.Omega.{arith}
use native.Mathlib.Decide.{dec_le}
use native.Mathlib.Nat.{mod-lt}
use lib.Bits.{bit_and, and_lt}
use lib.Dec.{eqb, ltb}
use lib.Pow.{pow_pos, pow_mono}
use borrow.Author.Tests.{eqb-true, eqb-false, eq-eqb, ne_eqb, ltb-true, lt-ltb}
use Rattle.nodeset.specs.Sums.{sum, num}
use Rattle.nodeset.specs.Sets.{has, minus, full, within, subset, size}
use Rattle.nodeset.proofs.Tests.{by_cases}
use Rattle.nodeset.proofs.Sums.{sum_same, sum-zero, sum-at, num-false}
use Rattle.nodeset.proofs.Bits.{has-beyond, has-mod, has-and, has-not}
use Rattle.nodeset.proofs.Laws.{has-range, has-full, set-ext}
use Rattle.nodeset.proofs.Counts.{size_is, size_none, size-zero}

pub subset-has : (a b x : ℕ) → a < 2 ^ 32 → subset a b ≡ true → has a x ≡ true → has b x ≡ true
unfolding subset
subset-has a b x l e h =
    let f : ℕ → ℕ = λ x. num (has a x && not (has b x)) in
    let r = has-range 32 a x l h in
    go (has b x) (num-false (has a x && not (has b x)) (omega (arith, eqb-true (sum f 1 32) 0 e, sum-at f 1 32 x r.0 (omega (arith, r.1)))))
  where
    go : (b : Bool) → (has a x && not b) ≡ false → b ≡ true
    go true z = refl
    go false z = absurd (true≢false (sym (ap (λ (c : Bool). c && true) h) ∙ z))

pub has-subset : (a b : ℕ) → ((x : ℕ) → 1 ≤ x → x ≤ 32 → has a x ≡ true → has b x ≡ true) → subset a b ≡ true
unfolding subset
has-subset a b h =
    eq-eqb (sum (λ x. num (has a x && not (has b x))) 1 32) 0
    (sum-zero (λ x. num (has a x && not (has b x))) 1 32 (λ u p q. ap num (go (has a u) (has b u) (h u p (omega arith)))))
  where
    go : (a b : Bool) → (a ≡ true → b ≡ true) → (a && not b) ≡ false
    go true b f = ap not (f refl)
    go false b f = refl

-- what the machine tests
pub masked-subset : (a b : ℕ) → a < 2 ^ 32 → b < 2 ^ 32 → eqb (bit_and a (2 ^ 32 - 1 - b)) 0 ≡ subset a b
unfolding subset
masked-subset a b p q =
    let d : ℕ = bit_and a (2 ^ 32 - 1 - b) in
    let lt : d < 2 ^ 32 = and_lt 32 a (2 ^ 32 - 1 - b) p (omega arith) in
    by_cases (eqb d 0)
    (λ e. e ∙ sym (eq-eqb total 0 (sym same ∙ ap (size 32) (eqb-true d 0 e) ∙ size_none 32)))
    (λ e. e ∙ sym (ne_eqb total 0 (λ z. eqb-false d 0 e (size-zero 32 d lt (same ∙ z)))))
  where
    total : ℕ
    total = sum (λ x. num (has a x && not (has b x))) 1 32

    each : (u : ℕ) → 1 ≤ u → u < 1 + 32 → num (has (bit_and a (2 ^ 32 - 1 - b)) u) ≡ num (has a u && not (has b u))
    each zero i j = absurd (elim i [ ])
    each (suc u) i j = ap num (has-and a (2 ^ 32 - 1 - b) u ∙ ap (λ (c : Bool). has a (suc u) && c) (has-not 32 b u (omega arith) q))

    same : size 32 (bit_and a (2 ^ 32 - 1 - b)) ≡ total
    same = size_is 32 (bit_and a (2 ^ 32 - 1 - b)) ∙ sum_same (λ x. num (has (bit_and a (2 ^ 32 - 1 - b)) x)) (λ x. num (has a x && not (has b x))) 1 32 each

-- ---- sets of the nodes 1 to n

-- a set has only the nodes of the full one exactly if it is below 2 ^ n
pub subset-lt : (n s : ℕ) → s < 2 ^ 32 → subset s (full n) ≡ true → s < 2 ^ n
unfolding full
subset-lt n s l e =
    let m : ℕ = min n 32 in
    let low : s % 2 ^ m < 2 ^ m = mod-lt s (pow_pos m) in
    let wide : 2 ^ m ≤ 2 ^ 32 = pow_mono {i = m} {j = 32} (omega arith) in
    let same : s % 2 ^ m ≡ s = set-ext 32 (s % 2 ^ m) s (omega arith) l (λ x p q. each x p (dec_le x m)) in
    omega (arith, pow_mono {i = m} {j = n} (omega arith))
  where
    each : (x : ℕ) → 1 ≤ x → Dec (x ≤ min n 32) → has (s % 2 ^ min n 32) x ≡ has s x
    each zero p d = absurd (elim p [ ])
    each (suc i) p (yes d) = has-mod (min n 32) s i d
    each (suc i) p (no d) =
        has-beyond (min n 32) (s % 2 ^ min n 32) (suc i) (mod-lt s (pow_pos (min n 32))) (omega arith)
        ∙ sym (absent (has s (suc i)) refl)
      where
        absent : (b : Bool) → has s (suc i) ≡ b → b ≡ false
        absent true h =
            absurd (true≢false (sym (subset-has s (2 ^ min n 32 - 1) (suc i) l e h) ∙ has-beyond (min n 32) (2 ^ min n 32 - 1) (suc i) (omega (arith, pow_pos (min n 32))) (omega arith)))
        absent false h = refl

pub lt-subset : (n s : ℕ) → s < 2 ^ n → subset s (full n) ≡ true
lt-subset n s l =
    has-subset s (full n) (λ x p q h. has-full n x p (has-range n s x l h).1 q)

pub subset-within : (n s : ℕ) → s < 2 ^ 32 → subset s (full n) ≡ within n s
subset-within n s l =
    by_cases (ltb s (2 ^ n))
    (λ e. lt-subset n s (ltb-true s (2 ^ n) e) ∙ sym e)
    (λ e. no (subset s (full n)) refl e ∙ sym e)
  where
    no : (b : Bool) → subset s (full n) ≡ b → ltb s (2 ^ n) ≡ false → b ≡ false
    no true h e = sym (lt-ltb s (2 ^ n) (subset-lt n s l h)) ∙ e
    no false h e = refl

-- ---- one set without another

pub has-minus : (a b x : ℕ) → 1 ≤ x → x ≤ 32 → b < 2 ^ 32 → has (minus a b) x ≡ (has a x && not (has b x))
has-minus a b zero h l q = absurd (elim h [ ])
has-minus a b (suc u) h l q = has-and a (2 ^ 32 - 1 - b) u ∙ ap (λ (c : Bool). has a (suc u) && c) (has-not 32 b u (omega arith) q)
