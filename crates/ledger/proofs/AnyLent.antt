-- Whatever is lent with each call, the tables are those of the calls that are made (specs/Runs). Assumes nothing.
use mathlib.Core.Path.{◌≡◌, refl, sym, ap, ◌∙◌}
use mathlib.Core.List.{[], ◌∷◌}
use Rattle.nodeset.proofs.Tests.{by_cases, chosen, otherwise}
use Rattle.bench.specs.node.Calls.{is_done}
use Rattle.bench.specs.Table.{Table}
use Rattle.bench.specs.Calls.{Called}
use Rattle.bench.specs.Ledger.{Ledger}
use Rattle.bench.specs.Kept.{kept_of}
use Rattle.bench.specs.Runs.{call_of, table_after}
use Rattle.ledger.specs.Runs.{Given, called_by, kept_by, table_lent, taken, AnyLent}
use Rattle.ledger.proofs.Made.{refused-stays, made-is}

kept_table : (g : Given) (ledger : Ledger) (t : Table) → (kept_by g ledger t).table ≡ (called_by g ledger t).table
unfolding kept_of
kept_table g ledger t = refl

pub any_lent : AnyLent
unfolding table_lent taken table_after
any_lent start [] = refl
any_lent start (l ∷ ls) =
    let t = table_lent start ls in
    let g = l.given in
    let c = g.call in
    let same = any_lent start ls in
    kept_table l.given l.ledger (table_lent start ls)
    ∙ by_cases (is_done (called_by g l.ledger t).answer)
    (λ h. ap (λ (x : Called). x.table) (made-is g l.ledger t h) ∙ ap (λ (x : Table). (call_of c x).table) same ∙ sym (ap (table_after start) (chosen (c ∷ taken start ls) (taken start ls) h)))
    (λ h. refused-stays g l.ledger t h ∙ same ∙ sym (ap (table_after start) (otherwise (c ∷ taken start ls) (taken start ls) h)))
