use Rattle.std.proofs.Common.{◌≡◌, refl, arith, add-one, get_or-take}
use Rattle.bench_orders.specs.Survey.{far_from}
use Rattle.bench_orders.proofs.far_from.Goals as goal

pub loop-other-init : goal.loop-other-init
unfolding far_from
loop-other-init c = refl

pub loop-other-preserved : goal.loop-other-preserved
unfolding far_from
loop-other-preserved c =
    let m = c.args.m in
    let same = get_or-take m.count m.sets c.loop-other.other-index 0 (omega arith) in
    rw (add-one c.loop-other.other-index) (cc)

pub returns : goal.returns
returns c =
    let all : c.loop-other.other-index ≡ c.args.m.count = omega arith in
    rw (← all) c.loop-other.invariant
