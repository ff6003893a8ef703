use mathlib.Core.List.{◌∷◌, ◌++◌}
use native.Mathlib.Omega.{arith}
use lib.ListN as list
use Rattle.row.proofs.Walked.{moved-last}
use Rattle.row.proofs.put_in.Goals as goal

pub returns : goal.returns
returns c =
    let a = c.args in
    let l = c.loop-i in
    moved-last l.i l.out l.moved (list.take a.p a.nodes ++ a.m ∷ list.drop a.p a.nodes) l.invariant.0 (omega arith) l.invariant.1
