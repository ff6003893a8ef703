-- `plan_report::finish` meets its contract. Assumes nothing.
use mathlib.Core.Path.{◌≡◌, ap}
use mathlib.Core.Bool.{not}
use native.Mathlib.Omega.{arith}
use lib.ListN.{length}
use borrow.Author.Tests.{le-leb, lt-leb}
use Rattle.plan_text.specs.Text.{PutAt}
use Rattle.plan_program.proofs.Lines.{empty-is}
use Rattle.plan_report.specs.Calls.{final_text, finished_of}
use borrow.Author.Rules.{rules}
use Rattle.plan_report.proofs.finish.Goals as goal

pub returns-then-out-lt200 : goal.returns-then-out-lt200
unfolding finished_of
returns-then-out-lt200 c = simp (lt-leb 200 (length c.args.out.now) (omega arith))

pub returns : goal.returns
unfolding finished_of
returns c =
    let a = c.args in
    let whole : length a.report.part.text ≡ 121 = search rules in
    let begun = ap not (empty-is a.report.part.length a.report.part.text (omega (arith, whole))) in
    let put : PutAt c.put_last.result 0 (final_text a.report) a.out.now c.put_last.new.out = rw begun at c.put_last.ensures in
    let count : c.put_last.result ≡ length (final_text a.report) = omega (arith, put.end) in
    simp (le-leb 200 (length a.out.now) (omega arith)) (cc (count, put.bytes))
