-- `nodeset::has` meets its contract: 0 and numbers above 32 are in no set of 32 bits; a shift right is a quotient.
-- Assumes nothing.
use mathlib.Core.Path.{sym, ap}
use borrow.Author.Rules.{rules}
use Rattle.nodeset.specs.Sets.{has}
use Rattle.nodeset.proofs.Bits.{has-at, has-beyond}
use Rattle.nodeset.proofs.has.Goals as goal

pub returns-then-x-eq0 : goal.returns-then-x-eq0
unfolding has
returns-then-x-eq0 c = sym (ap (has c.args.s) c.if-x-eq0.true)

pub returns-then-x-gt32 : goal.returns-then-x-gt32
returns-then-x-gt32 c = sym (has-beyond 32 c.args.s c.args.x (search rules) c.if-x-gt32.true)

pub returns : goal.returns
returns c = sym (has-at c.args.s c.args.x (search rules))
