-- `message::put_byte_section` meets its contract: the part that was lent comes back as the section. Assumes nothing.
use borrow.Author.Rules.{rules}
use Rattle.message.proofs.Parts.{byte_put}
use Rattle.message.proofs.put_byte_section.Goals as goal

pub returns : goal.returns
returns c =
    let a = c.args in
    byte_put a.count a.bits a.start a.out.now c.put_section.new.part (search rules) c.put_section.ensures
