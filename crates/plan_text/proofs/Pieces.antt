-- A loop over the bytes of a piece (by the converter and by the report): where it stands after some of them. Assumes nothing.
use Prim.Native.Nat.{ℕ, ◌+◌, ◌*◌, ◌≤◌, ◌<◌}
use mathlib.Core.Path.{◌≡◌, refl, sym, ap, ◌∙◌}
use mathlib.Core.List.{List}
use native.Mathlib.Omega.{arith}
use native.Mathlib.Nat.{mul-le-mul_left}
use lib.ListN.{length, get_or, take}
use lib.Seq.{take_all}
use Rattle.plan_text.specs.Text.{PutAt, PutFew}
use Rattle.plan_text.specs.Bytewise.{after_bytes, bytes_text}
use Rattle.plan_text.proofs.Bytewise.{after_next, text-next}
use Rattle.plan_text.proofs.Paste.{both, nothing}

-- `step` and `say`: what a byte leaves, and what is printed of it, `most` bytes at the most.
module _ {S : Type 0} (step : S → ℕ → S) (say : S → ℕ → List ℕ) (most : ℕ) where
  -- The first `i` bytes of the input have led from `s` to `now`, and what is printed of them is put.
  pub record Taken (s : S) (input : List ℕ) (i : ℕ) (now : S) (at : ℕ) (before after : List ℕ) : Type 0 where
    pub is : now ≡ after_bytes step s (take i input)
    pub put : PutAt at 0 (bytes_text step say s (take i input)) before after
    pub few : at ≤ most * i

  pub none : (s : S) (input out : List ℕ) → Taken s input 0 s 0 out out
  unfolding after_bytes bytes_text
  none s input out = record { is = refl; put = (nothing 0 out).put; few = omega arith }

module _ {S : Type 0} {step : S → ℕ → S} {say : S → ℕ → List ℕ} {most : ℕ} {s : S} {input : List ℕ} {i : ℕ} {now : S} {at : ℕ} {before after : List ℕ} (t : Taken step say most s input i now at before after) where
  pub room : i < length input → most * length input ≤ length before → length after ≡ length before → at + most ≤ length after
  room below enough same = omega (arith, t.few, mul-le-mul_left most (let h : i + 1 ≤ length input = omega arith in h))

  pub one : {next : S} {end : ℕ} {later : List ℕ} → i < length input → next ≡ step now (get_or input i 0) → PutFew most end at (say now (get_or input i 0)) after later
      → Taken step say most s input (i + 1) next end before later
  one below is put =
      record {
        is = is ∙ ap (λ (u : S). step u (get_or input i 0)) t.is ∙ sym (after_next step s input i below);
        put = rw (text-next step s input i below say) (both (omega arith) t.put (rw t.is at put.put));
        few = omega (arith, put.few, t.few);
      }

  pub all : length input ≤ i → (now ≡ after_bytes step s input) × PutAt at 0 (bytes_text step say s input) before after
  all end = let whole = take_all i input end in (rw whole at t.is, rw whole at t.put)
