-- `message::put_message` meets its contract: the sections that were put are the message. Assumes nothing.
use Prim.Native.Nat.{ℕ, ◌+◌}
use mathlib.Core.Path.{ap, ◌∙◌}
use mathlib.Core.List.{◌++◌}
use lib.ListN.{take, drop}
use Rattle.message.specs.Message.{job_section}
use Rattle.message.proofs.Parts.{all-put}
use Rattle.message.proofs.put_message.Goals as goal

pub returns : goal.returns
returns c =
    let a = c.args in
    let start = c.length_one-end.ensures in
    let two = c.put_two.new.out in
    all-put a.k a.m a.acknowledgements a.return_bit a.jobs a.out.now two c.put_byte_section.new.out
    c.put_two.ensures
    (c.put_byte_section.ensures ∙ ap (λ (n : ℕ). take (n + 2) two ++ (job_section a.m a.jobs ++ drop (n + 2 + 2) two)) start)
