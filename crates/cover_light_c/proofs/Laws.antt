-- Laws of records as bytes, and of the calls on them. Assumes nothing.
use Prim.Native.Nat.{ℕ, ◌+◌, ◌≤◌, min}
use mathlib.Core.Path.{◌≡◌, refl, ap, ◌∙◌}
use mathlib.Core.Bool.{Bool, true, false}
use mathlib.Core.List.{List, append-nil}
use native.Mathlib.Omega.{arith}
use lib.Dec.{eqb, leb}
use lib.ListN.{length, take, drop, length-take, length-drop}
use lib.Seq.{take_all}
use borrow.Author.Tests.{eqb-true, leb-true}
use Rattle.slot_table.proofs.nodeset.Tests.{both}
use Rattle.slot_table.specs.Order.{kept}
use Rattle.message.specs.Message.{Outcome, unwritten, if_written}
use Rattle.node_record.specs.declared.Node.{Node}
use Rattle.node_record.specs.Soundness.{sound}
use Rattle.node_record.specs.Held.{setted}
use Rattle.cover_light.specs.Light.{bases_fit, levels_of}
use Rattle.cover_light.proofs.Records.{few-lamps}
use Rattle.cover_light_c.specs.Records.{byte_at, places_at, held_in, is_record}
use Rattle.cover_light_c.specs.Calls.{levels_in, Few}

-- ---- a record

-- 32 places are kept as they are
pub part-kept : (bytes : List ℕ) (at m : ℕ) → m ≡ 32 → at + 32 ≤ length bytes → kept (take m (drop at bytes)) ≡ places_at bytes at
unfolding kept
part-kept bytes at m e h =
    let p = take 32 (drop at bytes) in
    let many : length p ≡ 32 = simp (length-take, length-drop) (omega arith) in
    let whole : min (length p) 32 ≡ 32 = omega (arith, many) in
    ap (λ (x : ℕ). kept (take x (drop at bytes))) e ∙ rw whole (append-nil (take 32 p) ∙ take_all 32 p (omega (arith, many)))

pub record_is : (bytes : List ℕ) → is_record bytes ≡ true → (length bytes ≡ 124) × (byte_at bytes 20 ≤ 7)
unfolding is_record
record_is bytes e =
    let one = both (eqb (length bytes) 124) _ e in
    let two = both (leb (byte_at bytes 20) 7) _ one.1 in
    (eqb-true (length bytes) 124 one.0, leb-true (byte_at bytes 20) 7 two.0)

-- ---- the levels

few-if : (t : Bool) (number : ℕ) (out : List ℕ) (o : Outcome) → (t ≡ true → Few o.0) → Few (if_written t number out o).0
few-if true number out o h = h refl
few-if false number out o h = tt

pub few-levels : (v : Node) (bases out : List ℕ) → Few (levels_of v bases out).0
unfolding levels_of
few-levels v bases out =
    few-if (sound v) 4 out _ (λ s.
    few-if (bases_fit v.cable.n bases) 20 out _ (λ _.
    few-if (leb v.cable.n (length out)) 9 out _ (λ _. few-lamps v s)))

pub no_record : (node bases out : List ℕ) → is_record node ≡ false → (unwritten 4, out) ≡ levels_in node bases out
unfolding levels_in
no_record node bases out e = rw e refl

pub on-record : (node bases out : List ℕ) → is_record node ≡ true → levels_of (setted (held_in node)) bases out ≡ levels_in node bases out
unfolding levels_in
on-record node bases out e = rw e refl
