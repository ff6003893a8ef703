-- The laws of the marks after step 1. Assumes nothing.
use Rattle.std.specs.Prelude.{Err, None, Option, Ok, Some}
use Prim.Native.Nat.{ℕ, zero, suc, ◌≤◌, ◌<◌}
use mathlib.Core.Path.{◌≡◌, refl, sym, ap, ◌∙◌}
use mathlib.Core.Logic.{◌≢◌, ◌⊎◌, inl, inr}
use mathlib.Core.Bool.{Bool, true, false, not, ◌&&◌, true≢false}
use native.Mathlib.Omega.{arith}
use native.Mathlib.Decide.{ℕ_discrete}
use borrow.Author.Tests.{eq-eqb, ne_eqb}
use Rattle.bench.specs.nodeset.Sets.{has, with, without}
use Rattle.bench.proofs.nodeset.Tests.{by_cases, both, all, or_else, chosen, otherwise}
use Rattle.bench.proofs.nodeset.Laws.{has-with, has-with-other, has-without, has-without-other}
use Rattle.bench.specs.ring.declared.Found.{Found}
use Rattle.bench.specs.ring.Ring.{member_in}
use Rattle.bench.specs.message.Answers.{Reading}
use Rattle.bench.specs.node_record.declared.Node.{Node}
use Rattle.bench.specs.node_record.Sponsoring.{sponsors_in, sponsored_in}
use Rattle.bench.specs.node_steps.Steps.{is_heard, is_own, confirmed, hears_no, hears_yes, heard_marks, read_marks, marks_after, read_yes, yes_after}
use Rattle.bench.specs.node_steps.Digests.{bits_heard}
use Rattle.bench.proofs.node_steps.Answers.{At, Told, told-by, says-told}
use Rattle.bench.specs.message.Answers.{heard_with}
use Rattle.bench.specs.ring.Ring.{found}

pub no_both : {b : Bool} → b ≡ true → b ≡ false → ⊥
no_both p q = true≢false (sym p ∙ q)

pub not-true : (b : Bool) → (b ≡ true → ⊥) → b ≡ false
not-true true f = absurd (f refl)
not-true false f = refl

pub not-false : (b : Bool) → (b ≡ false → ⊥) → b ≡ true
not-false true f = refl
not-false false f = absurd (f refl)

pub has-with-keeps : (m y x : ℕ) → 1 ≤ x → x ≤ 32 → has m x ≡ true → has (with m y) x ≡ true
has-with-keeps m y x h l e = go (ℕ_discrete y x)
  where
    go : Dec (y ≡ x) → has (with m y) x ≡ true
    go (yes p) = rw p (has-with m x h l)
    go (no p) = has-with-other m y x p ∙ e

module _ (s bits : ℕ) (v : Node) (x : ℕ) (pos : 1 ≤ x) (most : x ≤ 32) where
  -- the j-th sponsored member
  abbrev sponsor : ℕ → Option Found
  sponsor j = sponsored_in s j v

  found-marks : (marks : ℕ) (f : Option Found) → At x f → has (with marks (member_in f)) x ≡ true
  found-marks marks f a = rw a.it (has-with marks x pos most)

  found-only : (marks : ℕ) (f : Option Found) → has (with marks (member_in f)) x ≡ true → (has marks x ≡ true) ⊎ At x f
  found-only marks f e = go (ℕ_discrete (member_in f) x)
    where
      it : (f : Option Found) → member_in f ≡ x → At x f
      it (Some f) p = record { back = f.back; it = ap (λ (y : ℕ). found y f.back) p }
      it None p = let z : ⊥ = omega arith in absurd z

      go : Dec (member_in f ≡ x) → (has marks x ≡ true) ⊎ At x f
      go (yes p) = inr (it f p)
      go (no p) = inl (sym (has-with-other marks (member_in f) x p) ∙ e)

  confirmed-yes : (j : ℕ) → has bits (suc j) ≡ true → confirmed (suc j) s bits v ≡ with (confirmed j s bits v) (member_in (sponsor (suc j)))
  unfolding confirmed
  confirmed-yes j e = chosen _ _ e

  confirmed-no : (j : ℕ) → has bits (suc j) ≡ false → confirmed (suc j) s bits v ≡ confirmed j s bits v
  unfolding confirmed
  confirmed-no j e = otherwise _ _ e

  confirmed-none : confirmed 0 s bits v ≡ with v.present s
  unfolding confirmed
  confirmed-none = refl

  confirmed-keeps : (j : ℕ) → has (with v.present s) x ≡ true → has (confirmed j s bits v) x ≡ true
  confirmed-keeps zero e = ap (λ (m : ℕ). has m x) confirmed-none ∙ e
  confirmed-keeps (suc j) e =
      let r : has (confirmed j s bits v) x ≡ true = confirmed-keeps j e in
      by_cases (has bits (suc j))
      (λ b. ap (λ (m : ℕ). has m x) (confirmed-yes j b) ∙ has-with-keeps (confirmed j s bits v) (member_in (sponsor (suc j))) x pos most r)
      (λ b. ap (λ (m : ℕ). has m x) (confirmed-no j b) ∙ r)

  confirmed-marks : (j : ℕ) → Told true s bits v x j → has (confirmed j s bits v) x ≡ true
  confirmed-marks zero t = let z : ⊥ = omega (arith, t.below) in absurd z
  confirmed-marks (suc j) t =
      go (λ (l : t.i < j). confirmed-marks j (record { i = t.i; below = l; bit = t.bit; it = t.it })) (ℕ_discrete t.i j)
    where
      go : (t.i < j → has (confirmed j s bits v) x ≡ true) → Dec (t.i ≡ j) → has (confirmed (suc j) s bits v) x ≡ true
      go r (yes e) =
          let b : has bits (suc j) ≡ true = ap (λ (q : ℕ). has bits (suc q)) (sym e) ∙ t.bit in
          let y : At x (sponsor (suc j)) = record { back = t.it.back; it = ap (λ (q : ℕ). sponsor (suc q)) (sym e) ∙ t.it.it } in
          ap (λ (m : ℕ). has m x) (confirmed-yes j b) ∙ found-marks (confirmed j s bits v) (sponsor (suc j)) y
      go r (no e) =
          let h : has (confirmed j s bits v) x ≡ true = r (omega (arith, t.below)) in
          by_cases (has bits (suc j))
          (λ b. ap (λ (m : ℕ). has m x) (confirmed-yes j b) ∙ has-with-keeps (confirmed j s bits v) (member_in (sponsor (suc j))) x pos most h)
          (λ b. ap (λ (m : ℕ). has m x) (confirmed-no j b) ∙ h)

  confirmed-only : (j : ℕ) → has (confirmed j s bits v) x ≡ true → (has (with v.present s) x ≡ true) ⊎ Told true s bits v x j
  confirmed-only zero e = inl (sym (ap (λ (m : ℕ). has m x) confirmed-none) ∙ e)
  confirmed-only (suc j) e =
      by_cases (has bits (suc j))
      (λ b. two b (found-only (confirmed j s bits v) (sponsor (suc j)) (sym (ap (λ (m : ℕ). has m x) (confirmed-yes j b)) ∙ e)) (λ h. confirmed-only j h))
      (λ b. more (confirmed-only j (sym (ap (λ (m : ℕ). has m x) (confirmed-no j b)) ∙ e)))
    where
      more : (has (with v.present s) x ≡ true) ⊎ Told true s bits v x j → (has (with v.present s) x ≡ true) ⊎ Told true s bits v x (suc j)
      more (inl h) = inl h
      more (inr t) = inr (record { i = t.i; below = omega (arith, t.below); bit = t.bit; it = t.it })

      two : has bits (suc j) ≡ true → (has (confirmed j s bits v) x ≡ true) ⊎ At x (sponsor (suc j))
          → (has (confirmed j s bits v) x ≡ true → (has (with v.present s) x ≡ true) ⊎ Told true s bits v x j)
          → (has (with v.present s) x ≡ true) ⊎ Told true s bits v x (suc j)
      two b (inl h) r = more (r h)
      two b (inr y) r = inr (record { i = j; below = omega arith; bit = b; it = y })

-- ---- a heard message

-- the marks but for the own one
plain : (s bits : ℕ) (v : Node) (x : ℕ) → 1 ≤ x → x ≤ 32 → s ≢ x → has (confirmed (sponsors_in v) s bits v) x ≡ false
    → (has v.present x ≡ false) × (Told true s bits v x (sponsors_in v) → ⊥)
plain s bits v x h l ne e = (
  not-true (has v.present x) (λ p. no_both (confirmed-keeps s bits v x h l (sponsors_in v) (has-with-other v.present s x ne ∙ p)) e),
  λ t. no_both (confirmed-marks s bits v x h l (sponsors_in v) t) e,
)

-- what is told of node x in a heard message takes its mark, or does not
not-denied : (s bits : ℕ) (v : Node) → (hears_no s bits v && not v.yes_heard) ≡ false → heard_marks s bits v ≡ confirmed (sponsors_in v) s bits v
unfolding heard_marks
not-denied s bits v e = otherwise _ _ e

denied-own : (s bits : ℕ) (v : Node) → (hears_no s bits v && not v.yes_heard) ≡ true → heard_marks s bits v ≡ without (confirmed (sponsors_in v) s bits v) v.own
unfolding heard_marks
denied-own s bits v e = chosen _ _ e

other-mark : (s bits : ℕ) (v : Node) (x : ℕ) → v.own ≢ x → has (heard_marks s bits v) x ≡ has (confirmed (sponsors_in v) s bits v) x
other-mark s bits v x ne =
    by_cases (hears_no s bits v && not v.yes_heard)
    (λ e. ap (λ (m : ℕ). has m x) (denied-own s bits v e) ∙ has-without-other (confirmed (sponsors_in v) s bits v) v.own x ne)
    (λ e. ap (λ (m : ℕ). has m x) (not-denied s bits v e))

-- ---- the marks after step 1, where nothing is heard of the own slot

-- A mark that is off was off and was not confirmed, or is the own one and a no was heard.
pub data WasOff (s : ℕ) (r : Reading) (v : Node) (x : ℕ) : Type 0 where
  unmarked : has v.present x ≡ false → (is_heard r ≡ true → Told true s (bits_heard r) v x (sponsors_in v) → ⊥) → WasOff s r v x
  denied : is_heard r ≡ true → x ≡ v.own → Told false s (bits_heard r) v v.own (sponsors_in v) → WasOff s r v x

-- A mark that is on was on or was confirmed; and the own one was not denied, where no yes was heard.
pub record WasOn (s : ℕ) (r : Reading) (v : Node) (x : ℕ) : Type 0 where
  pub was : (has v.present x ≡ true) ⊎ ((is_heard r ≡ true) × Told true s (bits_heard r) v x (sponsors_in v))
  pub undenied : is_heard r ≡ true → x ≡ v.own → v.yes_heard ≡ false → Told false s (bits_heard r) v v.own (sponsors_in v) → ⊥

module _ (s : ℕ) (v : Node) where
  -- of another node's slot, by what is read of it
  sender-read : (r : Reading) → 1 ≤ s → s ≤ 32 → s ≢ v.own → has (read_marks s r v) s ≡ is_heard r
  sender-read (Ok said) h l ne =
      other-mark s said.acknowledgements v s (λ p. ne (sym p)) ∙ confirmed-keeps s said.acknowledgements v s h l (sponsors_in v) (has-with v.present s h l)
  sender-read (Err c) h l ne = has-without v.present s

  off-read : (r : Reading) (x : ℕ) → 1 ≤ x → x ≤ 32 → s ≢ x → has (read_marks s r v) x ≡ false → WasOff s r v x
  off-read (Ok said) x h l ne e = two (ℕ_discrete v.own x)
    where
      kept : has (confirmed (sponsors_in v) s said.acknowledgements v) x ≡ false → WasOff s (heard_with said.acknowledgements said.return_bit) v x
      kept f = let p = plain s said.acknowledgements v x h l ne f in unmarked p.0 (λ _. p.1)

      two : Dec (v.own ≡ x) → WasOff s (heard_with said.acknowledgements said.return_bit) v x
      two (no d) = kept (sym (other-mark s said.acknowledgements v x d) ∙ e)
      two (yes d) =
          by_cases (hears_no s said.acknowledgements v && not v.yes_heard)
          (λ p. denied refl (sym d) (told-by false (sponsors_in v) s said.acknowledgements v (both (hears_no s said.acknowledgements v) _ p).0))
          (λ p. kept (ap (λ (m : ℕ). has m x) (sym (not-denied s said.acknowledgements v p)) ∙ e))
  off-read (Err c) x h l ne e = unmarked (sym (has-without-other v.present s x ne) ∙ e) (λ p t. true≢false (sym p))

  on_read : (r : Reading) (x : ℕ) → 1 ≤ x → x ≤ 32 → s ≢ x → has (read_marks s r v) x ≡ true → WasOn s r v x
  on_read (Ok said) x h l ne e = record { was = before (confirmed-only s said.acknowledgements v x h l (sponsors_in v) kept); undenied = λ _ own unsaid t. bites own unsaid t }
    where
      confirming : (b : Bool) → (hears_no s said.acknowledgements v && not v.yes_heard) ≡ b → has (confirmed (sponsors_in v) s said.acknowledgements v) x ≡ true
      confirming false p = ap (λ (m : ℕ). has m x) (sym (not-denied s said.acknowledgements v p)) ∙ e
      confirming true p = two (ℕ_discrete v.own x)
        where
          two : Dec (v.own ≡ x) → has (confirmed (sponsors_in v) s said.acknowledgements v) x ≡ true
          two (no d) = sym (other-mark s said.acknowledgements v x d) ∙ e
          two (yes d) = absurd (no_both e (ap (λ (m : ℕ). has m x) (denied-own s said.acknowledgements v p) ∙ ap (has (without (confirmed (sponsors_in v) s said.acknowledgements v) v.own)) (sym d) ∙ has-without (confirmed (sponsors_in v) s said.acknowledgements v) v.own))

      kept : has (confirmed (sponsors_in v) s said.acknowledgements v) x ≡ true
      kept = confirming (hears_no s said.acknowledgements v && not v.yes_heard) refl

      before : (has (with v.present s) x ≡ true) ⊎ Told true s said.acknowledgements v x (sponsors_in v) → (has v.present x ≡ true) ⊎ ((true ≡ true) × Told true s said.acknowledgements v x (sponsors_in v))
      before (inl p) = inl (sym (has-with-other v.present s x ne) ∙ p)
      before (inr t) = inr (refl, t)

      bites : x ≡ v.own → v.yes_heard ≡ false → Told false s said.acknowledgements v v.own (sponsors_in v) → ⊥
      bites own unsaid t =
          let p : (hears_no s said.acknowledgements v && not v.yes_heard) ≡ true = all (says-told false (sponsors_in v) s said.acknowledgements v t) (ap not unsaid) in
          no_both e (ap (λ (m : ℕ). has m x) (denied-own s said.acknowledgements v p) ∙ ap (has (without (confirmed (sponsors_in v) s said.acknowledgements v) v.own)) own ∙ has-without (confirmed (sponsors_in v) s said.acknowledgements v) v.own)
  on_read (Err c) x h l ne e = record { was = inl (sym (has-without-other v.present s x ne) ∙ e); undenied = λ p. absurd (true≢false (sym p)) }

  yes-read : (r : Reading) → read_yes s r v ≡ true → (v.yes_heard ≡ true) ⊎ ((is_heard r ≡ true) × Told true s (bits_heard r) v v.own (sponsors_in v))
  yes-read (Ok h) e =
      by_cases v.yes_heard (λ p. inl p) (λ p. inr (refl, told-by true (sponsors_in v) s h.acknowledgements v (or_else v.yes_heard (hears_yes s h.acknowledgements v) e p)))
  yes-read (Err c) e = inl e

  module _ (r : Reading) where
    own-slot : s ≡ v.own → marks_after s r v ≡ with v.present v.own
    own-slot e = chosen _ _ (eq-eqb s v.own e)

    other-slot : s ≢ v.own → marks_after s r v ≡ read_marks s r v
    other-slot ne = otherwise _ _ (ne_eqb s v.own ne)

    -- the sender's mark
    pub mark-own : 1 ≤ s → s ≤ 32 → s ≡ v.own → has (marks_after s r v) s ≡ true
    mark-own h l e = ap (λ (m : ℕ). has m s) (own-slot e ∙ ap (with v.present) (sym e)) ∙ has-with v.present s h l

    pub mark-of-sender : 1 ≤ s → s ≤ 32 → s ≢ v.own → has (marks_after s r v) s ≡ is_heard r
    mark-of-sender h l ne = ap (λ (m : ℕ). has m s) (other-slot ne) ∙ sender-read r h l ne

    -- another mark
    module _ (mute : s ≡ v.own → is_heard r ≡ false) (x : ℕ) (h : 1 ≤ x) (l : x ≤ 32) (ne : s ≢ x) where
      own-slot-mark : s ≡ v.own → has (marks_after s r v) x ≡ has v.present x
      own-slot-mark e = ap (λ (m : ℕ). has m x) (own-slot e) ∙ has-with-other v.present v.own x (λ p. ne (e ∙ p))

      pub off-before : has (marks_after s r v) x ≡ false → WasOff s r v x
      off-before e = two (ℕ_discrete s v.own)
        where
          two : Dec (s ≡ v.own) → WasOff s r v x
          two (yes o) = unmarked (sym (own-slot-mark o) ∙ e) (λ p. absurd (no_both p (mute o)))
          two (no o) = off-read r x h l ne (ap (λ (m : ℕ). has m x) (sym (other-slot o)) ∙ e)

      pub on-before : has (marks_after s r v) x ≡ true → WasOn s r v x
      on-before e = two (ℕ_discrete s v.own)
        where
          two : Dec (s ≡ v.own) → WasOn s r v x
          two (yes o) = record { was = inl (sym (own-slot-mark o) ∙ e); undenied = λ p. absurd (no_both p (mute o)) }
          two (no o) = on_read r x h l ne (ap (λ (m : ℕ). has m x) (sym (other-slot o)) ∙ e)

    -- yes heard
    pub yes-own : s ≡ v.own → yes_after s r v ≡ false
    yes-own e = ap (λ (b : Bool). not b && read_yes s r v) (eq-eqb s v.own e)

    pub yes-before : yes_after s r v ≡ true → (v.yes_heard ≡ true) ⊎ ((is_heard r ≡ true) × Told true s (bits_heard r) v v.own (sponsors_in v))
    yes-before e = yes-read r (both (not (is_own s v)) (read_yes s r v) e).1
