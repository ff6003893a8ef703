use Prim.Native.Nat.{ℕ, ◌+◌, ◌<◌}
use mathlib.Core.Path.{◌≡◌, refl, sym, ap, ◌∙◌}
use mathlib.Core.Bool.{Bool}
use mathlib.Core.List.{[]}
use native.Mathlib.Omega.{arith}
use native.Mathlib.Numerals.{add-one}
use lib.ListN.{length, get_or, set}
use Rattle.nodeset.specs.Sets.{has}
use Rattle.bench.specs.Ledger.{Ledger}
use Rattle.ledger.specs.Entered.{entry_after, entered_from}
use Rattle.ledger.proofs.Entered.{entry-ahead, one-entered, all-entered}
use Rattle.ledger.proofs.enter.Goals as goal

pub loop-i-init : goal.loop-i-init
unfolding entered_from
loop-i-init c = refl

pub loop-i-preserved : goal.loop-i-preserved
loop-i-preserved c =
    let l = c.loop-i in
    let a = c.args in
    let ledger = a.ledger.now in
    let more : l.i < length ledger = omega arith in
    let entry : get_or l.ledger l.i [] ≡ get_or ledger l.i [] =
    ap (λ (x : Ledger). get_or x l.i []) l.invariant ∙ entry-ahead a.date a.left a.joined l.i 1 ledger in
    let made : c.entry_after.result ≡ entry_after a.date (has a.left (l.i + 1)) (has a.joined (l.i + 1)) (get_or ledger l.i []) =
    c.entry_after.ensures
    ∙ ap (λ (b : Bool). entry_after a.date b c.has-in-loop-i.result (get_or l.ledger l.i [])) c.has.ensures
    ∙ ap (λ (b : Bool). entry_after a.date (has a.left (l.i + 1)) b (get_or l.ledger l.i [])) c.has-in-loop-i.ensures
    ∙ ap (entry_after a.date (has a.left (l.i + 1)) (has a.joined (l.i + 1))) entry in
    ap (λ (x : Ledger). set x l.i c.entry_after.result) l.invariant
    ∙ ap (set (entered_from a.date a.left a.joined l.i 1 ledger) l.i) made
    ∙ one-entered a.date a.left a.joined l.i 1 (l.i + 1) ledger (omega arith) more
    ∙ ap (λ (m : ℕ). entered_from a.date a.left a.joined m 1 ledger) (sym (add-one l.i))

pub returns : goal.returns
returns c =
    let l = c.loop-i in
    let a = c.args in
    l.invariant ∙ all-entered a.date a.left a.joined l.i 32 1 a.ledger.now (λ p. omega arith) (omega arith)
