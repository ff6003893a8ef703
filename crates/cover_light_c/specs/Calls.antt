-- The calls of cover_light on a record as bytes, and their answers as numbers: a refusal is its number, and any other answer has 2 ^ 33 added.
use Rattle.std.specs.Prelude.{ℕ, ◌+◌, ◌^◌, ◌≤◌, cond, List, Err, Ok}
use Rattle.refusal.specs.Causes.{cause, number_of}
use Rattle.message.specs.Answers.{Written}
use Rattle.message.specs.Message.{Outcome, if_written}
use Rattle.node_record.specs.Held.{setted}
use Rattle.cover_light.specs.Light.{Light, level_of, levels_of}
use Rattle.cover_light_c.specs.Records.{held_in, is_record}

-- Bytes that are no record are no sound one: 4.
unfoldable pub level_in : List ℕ → List ℕ → ℕ → Light
level_in node bases lamp = cond (is_record node) (level_of (setted (held_in node)) bases lamp) (Err (cause 4))

unfoldable pub levels_in : List ℕ → List ℕ → List ℕ → Outcome
levels_in node bases out = if_written (is_record node) 4 out (levels_of (setted (held_in node)) bases out)

-- ---- the answers as numbers

abbrev pub light_number : Light → ℕ
light_number (Ok level) = 2 ^ 33 + level
light_number (Err cause) = number_of cause

-- how many levels are written
abbrev pub written_number : Written → ℕ
written_number (Ok count) = 2 ^ 33 + count
written_number (Err cause) = number_of cause

-- the lent bytes beside the number
abbrev pub outcome_number : Outcome → ℕ × List ℕ
outcome_number outcome = (written_number outcome.0, outcome.1)

-- ---- Inner

-- No more levels than there can be lamps.
abbrev pub Few : Written → Type 0
Few (Ok count) = count ≤ 32
Few (Err cause) = Unit {0}
