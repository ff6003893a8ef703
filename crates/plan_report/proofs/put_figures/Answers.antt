-- `plan_report::put_figures` meets its contract: each number has at most 20 digits and the byte after it. Assumes nothing.
use Prim.Native.Nat.{ℕ, ◌+◌, ◌≤◌}
use mathlib.Core.Path.{◌≡◌}
use mathlib.Core.List.{List, ◌++◌}
use lib.ListN.{length}
use native.Mathlib.Omega.{arith}
use Rattle.plan_text.specs.Text.{PutAt, number_then}
use Rattle.plan_report.specs.declared.Figures.{Figures}
use Rattle.plan_text.proofs.Paste.{Sofar, more, nothing}
use Rattle.plan_text.proofs.Digits.{number_short}
use Rattle.plan_report.proofs.put_figures.Goals as goal

-- after one number, two and three
module _ (f : Figures) (at : ℕ) {a : ℕ} {out out-a : List ℕ} (room : at + 84 ≤ length out) (put-a : PutAt a at (number_then 32 f.slots) out out-a) (kept-a : length out-a ≡ length out) where
  after-1 : Sofar a at (0 + 21) (number_then 32 f.slots) out out-a
  after-1 = more 21 (omega arith) (nothing at out) put-a kept-a (number_short 32 f.slots)

  module _ {b : ℕ} {out-b : List ℕ} (put-b : PutAt b a (number_then 32 f.members) out-a out-b) (kept-b : length out-b ≡ length out-a) where
    after-2 : Sofar b at (0 + 21 + 21) (number_then 32 f.slots ++ number_then 32 f.members) out out-b
    after-2 = more 21 (omega arith) after-1 put-b kept-b (number_short 32 f.members)

    after-3 : {e : ℕ} {out-e : List ℕ} → PutAt e b (number_then 32 f.listed) out-b out-e → length out-e ≡ length out-b
        → Sofar e at (0 + 21 + 21 + 21) (number_then 32 f.slots ++ number_then 32 f.members ++ number_then 32 f.listed) out out-e
    after-3 put-e kept-e = more 21 (omega arith) after-2 put-e kept-e (number_short 32 f.listed)

pub put_number-b-requires : goal.put_number-b-requires
put_number-b-requires c =
    let a = c.args in
    let one = after-1 a.f a.at c.requires c.put_number-a.ensures c.put_number-a.auto.out in
    omega (arith, one.near, one.same, c.requires)

pub put_number-c-requires : goal.put_number-c-requires
put_number-c-requires c =
    let a = c.args in
    let two = after-2 a.f a.at c.requires c.put_number-a.ensures c.put_number-a.auto.out c.put_number-b.ensures c.put_number-b.auto.out in
    omega (arith, two.near, two.same, c.requires)

pub put_number-requires : goal.put_number-requires
put_number-requires c =
    let a = c.args in
    let three = after-3 a.f a.at c.requires c.put_number-a.ensures c.put_number-a.auto.out c.put_number-b.ensures c.put_number-b.auto.out c.put_number-c.ensures c.put_number-c.auto.out in
    omega (arith, three.near, three.same, c.requires)

pub returns : goal.returns
returns c =
    let a = c.args in
    let three = after-3 a.f a.at c.requires c.put_number-a.ensures c.put_number-a.auto.out c.put_number-b.ensures c.put_number-b.auto.out c.put_number-c.ensures c.put_number-c.auto.out in
    let all = more 21 (omega (arith, c.requires)) three c.put_number.ensures c.put_number.auto.out (number_short 10 a.f.apart) in
    record { put = all.put; few = all.near }
