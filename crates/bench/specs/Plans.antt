-- Calls as the lines `ok` and `lost` of a plan make them (document 01, "The bench program"), with room for all pairs.
use Rattle.std.specs.Prelude.{true, false}
use Rattle.bench.specs.Runs.{Call, slot}

abbrev pub ok : Call
ok = slot false 0 64

abbrev pub lost : Call
lost = slot true 0 64
