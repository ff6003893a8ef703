-- `plan_text::put_word` meets its contract.
-- Assumes nothing.
use mathlib.Core.Path.{refl, ◌∙◌}
use mathlib.Core.List.{append_assoc}
use native.Mathlib.Omega.{arith}
use lib.ListN.{length}
use lib.Seq.{take-length}
use Rattle.std.proofs.lemmas.Slice.{put_mid-paste}
use Rattle.plan_text.specs.Text.{pasted}
use Rattle.plan_text.proofs.put_word.Goals as goal

pub returns : goal.returns
unfolding pasted
returns c =
    let w = c.args.word.now in
    record { end = refl; bytes = put_mid-paste c.args.at _ c.args.out.now _ w (length w) c.copy_from_slice.ensures.after (omega arith) refl ∙ rw (take-length, append_assoc) }
