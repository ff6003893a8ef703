-- Reasoning by what a test answers. Assumes nothing.
use mathlib.Core.Path.{◌≡◌, refl, sym, ap, ◌∙◌}
use mathlib.Core.Bool.{Bool, true, false, cond, ◌&&◌, ◌||◌, and-eq-true_iff}

pub by_cases {ℓ} : {A : Type ℓ} (b : Bool) → (b ≡ true → A) → (b ≡ false → A) → A
by_cases true f g = f refl
by_cases false f g = g refl

-- a test of two holds where both do
pub both : (a b : Bool) → (a && b) ≡ true → (a ≡ true) × (b ≡ true)
both a b e = (and-eq-true_iff a b).0 e

pub all : {a b : Bool} → a ≡ true → b ≡ true → (a && b) ≡ true
all {a} {b} p q = (and-eq-true_iff a b).1 (p, q)

-- a test of two holds where one does
pub or_left : (a b : Bool) → a ≡ true → (a || b) ≡ true
or_left a b e = ap (λ (c : Bool). c || b) e

pub or_right : (a b : Bool) → b ≡ true → (a || b) ≡ true
or_right true b e = refl
or_right false b e = e

pub or_else : (a b : Bool) → (a || b) ≡ true → a ≡ false → b ≡ true
or_else a b e h = sym (ap (λ (c : Bool). c || b) h) ∙ e

-- what `if !test(..) { return .. }` tells, where r is the test's answer and b what its contract says of it
pub failed : {r b : Bool} → r ≡ b → r ≡ false → b ≡ false
failed e h = sym e ∙ h

pub passed : {r b : Bool} → r ≡ b → r ≡ true → b ≡ true
passed e h = sym e ∙ h

-- what `if test(..) { .. }` tells
pub told : {r b v : Bool} → r ≡ b → r ≡ v → b ≡ v
told e h = sym e ∙ h

-- a choice by a test whose answer is known
pub chosen : {A : Type 0} {b : Bool} (x y : A) → b ≡ true → cond b x y ≡ x
chosen x y e = ap (λ (c : Bool). cond c x y) e

pub otherwise : {A : Type 0} {b : Bool} (x y : A) → b ≡ false → cond b x y ≡ y
otherwise x y e = ap (λ (c : Bool). cond c x y) e
