-- `message::put_two` meets its contract: the two sections that were put. Assumes nothing.
use Prim.Native.Nat.{ℕ, ◌+◌}
use mathlib.Core.Path.{ap, ◌∙◌}
use mathlib.Core.List.{◌++◌}
use lib.ListN.{take, drop}
use Rattle.message.specs.Message.{return_section, section_of}
use Rattle.message.proofs.Parts.{two-put}
use Rattle.message.proofs.Tests.{byte-is}
use Rattle.message.proofs.put_two.Goals as goal

pub returns : goal.returns
returns c =
    let a = c.args in
    let start = c.length_one-start.ensures in
    let n₀ = c.length_one-start.result in
    let one = c.put_acknowledgements.new.out in
    two-put a.k a.acknowledgements a.return_bit a.out.now one c.put_byte_section.new.out
    c.put_acknowledgements.ensures
    (c.put_byte_section.ensures
    ∙ ap (λ (x : ℕ). take n₀ one ++ (section_of 1 1 x ++ drop (n₀ + 2) one)) (byte-is a.return_bit)
    ∙ ap (λ (n : ℕ). take n one ++ (return_section a.return_bit ++ drop (n + 2) one)) start)
