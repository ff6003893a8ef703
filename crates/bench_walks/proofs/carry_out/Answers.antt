-- A record that is not made anew yet is as it was passed (`partly-at` of proofs/Partly.antt); a turn makes it anew and adds it to the fold.
use Rattle.std.proofs.Common.{◌≡◌, ◌<◌, ◌+◌, ℕ, List, length, get_or, set, take, refl, ap, ◌∙◌, arith}
use Rattle.std.proofs.Math.Seq.{take-length}
use Rattle.node_record.specs.declared.Held.{Held}
use Rattle.bench_notes.specs.declared.Notes.{Notes}
use Rattle.bench_notes.specs.Notes.{noticed, no_notes}
use Rattle.bench_orders.specs.declared.Errand.{Errand}
use Rattle.bench_orders.specs.Survey.{fold_from}
use Rattle.bench_orders.specs.Orders.{carried, notes_of}
use Rattle.bench_walks.proofs.Partly.{fold_next, partly, partly-at, partly-next, partly-all}
use Rattle.bench_walks.proofs.carry_out.Goals as goal

abbrev notices : Errand → Notes → ℕ → Held → Notes
notices e m i v = noticed m v (carried e i v)

-- with a record more
made : (e : Errand) (xs ys : List Held) (i : ℕ) (d w : Held) → i < length xs → ys ≡ partly (carried e) i xs → w ≡ carried e i (get_or ys i d) → set ys i w ≡ partly (carried e) (i + 1) xs
made e xs ys i d w l is-ys is-w = rw (is-w, is-ys) (partly-next (carried e) i xs d l)

noted : (e : Errand) (xs ys : List Held) (i : ℕ) (d w : Held) (m r : Notes) → i < length xs → ys ≡ partly (carried e) i xs → w ≡ carried e i (get_or ys i d) → m ≡ notes_of e (take i xs) → r ≡ noticed m (get_or ys i d) w
    → r ≡ notes_of e (take (i + 1) xs)
unfolding notes_of
noted e xs ys i d w m r l is-ys is-w is-m is-r = fold_next (notices e) no_notes xs i d l is-m (rw (is-r, is-w, is-ys) (ap (notices e m i) (partly-at (carried e) i xs d)))

pub loop-i-init : goal.loop-i-init
unfolding notes_of fold_from
loop-i-init c = record { made = refl; noted = c.no_notes-notes.ensures }

pub loop-i-preserved : goal.loop-i-preserved
loop-i-preserved c =
    let l : c.loop-i.i < length c.args.table.now = omega arith in
    record {
      made = made c.args.errand c.args.table.now c.loop-i.table c.loop-i.i _ c.carried-after.result l c.loop-i.invariant.made c.carried-after.ensures;
      noted = noted c.args.errand c.args.table.now c.loop-i.table c.loop-i.i _ c.carried-after.result c.loop-i.notes c.noticed-notes.result l c.loop-i.invariant.made c.carried-after.ensures c.loop-i.invariant.noted c.noticed-notes.ensures;
    }

pub returns : goal.returns
returns c =
    let e : c.loop-i.i ≡ length c.args.table.now = omega arith in
    let xs = c.args.table.now in (
      c.loop-i.invariant.made ∙ ap (λ (n : ℕ). partly (carried c.args.errand) n xs) e ∙ partly-all (carried c.args.errand) xs,
      c.loop-i.invariant.noted ∙ ap (λ (n : ℕ). notes_of c.args.errand (take n xs)) e ∙ ap (λ (zs : List Held). notes_of c.args.errand zs) (take-length xs),
    )
