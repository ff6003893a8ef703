-- A message whose third section holds another count than is due is refused by 7, whatever the other sections are. Assumes nothing.
use Prim.Native.Nat.{ℕ}
use mathlib.Core.Path.{◌≡◌, refl, ap}
use mathlib.Core.Logic.{◌≢◌}
use mathlib.Core.List.{List}
use mathlib.Core.Bool.{Bool, true, false, ◌&&◌}
use lib.ListN.{length, get_or}
use lib.Dec.{eqb}
use borrow.Author.Tests.{eqb-true, ne_eqb}
use Rattle.cable.specs.Cable.{job_count}
use Rattle.refusal.specs.Causes.{cause}
use Rattle.message.specs.declared.Received.{Received}
use Rattle.message.specs.Message.{if_read, in_range, length_of, part_one, part_three, part_two, read_of, said_by, unread}

if-same : (t : Bool) (number : ℕ) (x y : Received) → (t ≡ true → x ≡ y) → if_read t number x ≡ if_read t number y
if-same true number x y h = h refl
if-same false number x y h = refl

one-wrong : (a b c : Bool) (x : Received) → c ≡ false → if_read (a && (b && c)) 7 x ≡ unread (cause 7)
one-wrong true true c x e = ap (λ (t : Bool). if_read t 7 x) e
one-wrong true false c x e = refl
one-wrong false b c x e = refl

pub other-count : (k m : ℕ) (bytes : List ℕ) → job_count m ≡ true → (length bytes ≡ length_of k → get_or (part_three k bytes) 0 0 ≢ m)
    → read_of k m bytes ≡ if_read (in_range k) 2 (if_read (eqb (length bytes) (length_of k)) 6 (unread (cause 7)))
unfolding read_of said_by
other-count k m bytes few other =
    simp few
    (ap (if_read (in_range k) 2)
    (if-same (eqb (length bytes) (length_of k)) 6 _ _ (λ t.
    one-wrong (eqb (get_or (part_one k bytes) 0 0) k) (eqb (get_or (part_two k bytes) 0 0) 1) (eqb (get_or (part_three k bytes) 0 0) m) _
    (ne_eqb (get_or (part_three k bytes) 0 0) m (other (eqb-true (length bytes) (length_of k) t))))))
