-- `node_reports::clear_reports` meets its contract: `fill` stores clones, and a clone of counts is the counts. Assumes nothing.
use Prim.Native.Nat.{ℕ}
use mathlib.Core.Path.{◌≡◌, sym, ap, ◌∙◌}
use mathlib.Core.Bool.{Bool, cond}
use mathlib.Core.List.{List}
use lib.ListN.{length}
use Rattle.std.specs.Array.{AllZipBelow}
use Rattle.std.proofs.lemmas.List.Elements.{same_from_all_zip}
use Rattle.node_reports.specs.Reports.{no_reports_at}
use Rattle.node_reports.proofs.clear_reports.Goals as goal

clone_same : {A : Type 0} {R : A → A → Type 0} {xs ys : List A} {n : ℕ} → AllZipBelow R xs ys n → ((x y : A) → R x y → y ≡ x) → ys ≡ xs
clone_same {A} {R} {xs} {ys} z h = same_from_all_zip R xs ys z.whole h

pub returns-then-asked : goal.returns-then-asked
returns-then-asked c =
    let all = c.args.all.now in
    c.fill.ensures.after (λ y z. clone_same z (λ row other r. clone_same r (λ count same e. e)))
    ∙ sym (ap (λ (b : Bool). cond b (no_reports_at (length all)) all) c.if-asked.true)
