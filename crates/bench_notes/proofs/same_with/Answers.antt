-- `bench_notes::same_with` meets its contract, case by case. Assumes nothing.
use Rattle.std.specs.Prelude.{None, Some}
use mathlib.Core.Path.{◌≡◌, refl, sym}
use mathlib.Core.Bool.{true, false}
use Rattle.nodeset.proofs.Tests.{failed, otherwise}
use Rattle.row.specs.declared.Row.{Row}
use Rattle.node_record.specs.declared.Held.{Held}
use Rattle.node_record.specs.States.{is_member}
use Rattle.bench.specs.Answers.{Listed}
use Rattle.bench_notes.specs.Notes.{same_with}
use Rattle.bench_notes.proofs.same_with.Goals as goal

-- who is no member holds no list
no_member : (l : Listed) (row : Row) (v : Held) → is_member v.state ≡ false → same_with l row v ≡ true
no_member (Some set) row v e = otherwise _ _ e
no_member None row v e = refl

pub returns-then-not-is_member : goal.returns-then-not-is_member
returns-then-not-is_member c = sym (no_member c.args.list c.args.row c.args.v (failed c.is_member.ensures c.if-not-is_member.true))
