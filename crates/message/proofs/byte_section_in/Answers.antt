-- `message::byte_section_in` meets its contract: the part lent to `section_in` is the section. Assumes nothing.
use Prim.Native.Nat.{ℕ}
use mathlib.Core.Path.{ap, ◌∙◌}
use native.Mathlib.Nat.{add-sub_cancel_left}
use lib.ListN.{take, drop}
use Rattle.message.specs.Message.{section_in}
use Rattle.message.proofs.byte_section_in.Goals as goal

pub returns : goal.returns
returns c =
    let a = c.args in
    c.section_in.ensures ∙ ap (λ (n : ℕ). section_in a.count (take n (drop a.start a.bytes.now))) (add-sub_cancel_left a.start 2)
