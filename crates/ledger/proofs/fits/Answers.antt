-- `ledger::fits` meets its contract: the length is tested, and what `all` tells of the entries. Assumes nothing.
use borrow.Author.Rules.{rules}
use borrow.Author.Tests.{tests, eq-eqb}
use native.Mathlib.Omega.{arith}
use mathlib.Core.Path.{◌∙◌}
use lib.ListN.{length}
use Rattle.std.proofs.lemmas.Bool.Decides.{nat_tests}
use Rattle.std.proofs.lemmas.Iterator.{YieldsList-from_slice}
use Rattle.std.proofs.lemmas.Iterator.Search.{all_from_yields_List}
use Rattle.bench.specs.Ledger.{counts_fit, ledger_fits}
use Rattle.ledger.proofs.Entered.{all-fit}
use Rattle.ledger.proofs.fits.Goals as goal

pub returns-then-ledger-n : goal.returns-then-ledger-n
unfolding ledger_fits
returns-then-ledger-n c =
    let a = c.args in
    let ledger = a.ledger.now in
    rw (eq-eqb (length ledger) a.n c.if-ledger-n.true)
    (all_from_yields_List (counts_fit a.slots) _ _ _ c.all.ensures.ran (YieldsList-from_slice ledger cc) (λ x b q k. search (rules, tests)) ∙ all-fit a.slots ledger)

pub returns-else-ledger-n : goal.returns-else-ledger-n
unfolding ledger_fits
returns-else-ledger-n c = grind (arith, nat_tests)
