-- `cover_light_c::is_record` meets its contract. Assumes nothing.
use Rattle.cover_light_c.specs.Records.{is_record}
use Rattle.cover_light_c.proofs.is_record.Goals as goal

pub returns : goal.returns
unfolding is_record
returns c = cc
