-- `bench_work::put_bytes` meets its contract: what is copied are the bytes stored one by one (proofs/Puts.antt). Assumes nothing.
use Rattle.std.proofs.Common.{arith, sym}
use Rattle.bench_work.proofs.Puts.{all-put}
use Rattle.bench_work.proofs.put_bytes.Goals as goal

pub returns : goal.returns
returns c = rw (c.copy_from_slice.ensures.after) (sym (all-put c.args.bytes c.args.pairs.now c.args.end (omega arith) (omega arith)))
