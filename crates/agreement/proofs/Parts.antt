-- Parts of a set. Assumes nothing.
use Prim.Native.Nat.{ℕ, ◌≤◌}
use mathlib.Core.Path.{◌≡◌, ◌∙◌, ap}
use mathlib.Core.Logic.{◌≢◌}
use mathlib.Core.Bool.{true}
use native.Mathlib.Omega.{arith}
use Rattle.bench.specs.nodeset.Sums.{num}
use Rattle.bench.specs.nodeset.Sets.{has, without, size}
use Rattle.bench.proofs.nodeset.Tests.{by_cases}
use Rattle.bench.proofs.nodeset.Sums.{sum-le}
use Rattle.bench.proofs.nodeset.Laws.{has-without-other}
use Rattle.bench.proofs.nodeset.Counts.{size-without}

-- a part has no more nodes
pub size-part : (n a b : ℕ) → ((x : ℕ) → has a x ≡ true → has b x ≡ true) → size n a ≤ size n b
unfolding size
size-part n a b h = sum-le (λ x. num (has a x)) (λ x. num (has b x)) 1 n
    (λ x _ _. by_cases (has a x) (λ e. omega (arith, ap num e, ap num (h x e))) (λ e. omega (arith, ap num e)))

-- a set with three nodes
pub size-three : (n s a b c : ℕ) → 1 ≤ a → a ≤ n → 1 ≤ b → b ≤ n → 1 ≤ c → c ≤ n → a ≢ b → a ≢ c → b ≢ c → has s a ≡ true → has s b ≡ true → has s c ≡ true → 3 ≤ size n s
size-three n s a b c ha la hb lb hc lc ab ac bc p q r =
    omega (
      arith,
      size-without n s a ha la p,
      size-without n (without s a) b hb lb (has-without-other s a b ab ∙ q),
      size-without n (without (without s a) b) c hc lc (has-without-other (without s a) b c bc ∙ has-without-other s a c ac ∙ r),
    )
