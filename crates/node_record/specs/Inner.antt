-- Inner: what the code asks of a held record, clause by clause; the laws in proofs/Holding tie it to specs/Soundness. It need not be believed.
use Rattle.std.specs.Prelude.{Bool, not, ◌&&◌, ◌||◌, eqb, leb}
use Rattle.nodeset.specs.Sets.{within, subset}
use Rattle.row.specs.Rows.{sound_row, nodes_in}
use Rattle.row.specs.Inner.{has_row}
use Rattle.node_record.specs.declared.Held.{Held}
use Rattle.node_record.specs.States.{is_member, is_listening, is_following, is_knocking, is_out}
use Rattle.node_record.specs.Soundness.{implies, exactly, numbers_sound, knock_sound, heard_sound, yes_sound, window_sound}
use Rattle.node_record.specs.Held.{setted}

abbrev pub sets_held : Held → Bool
sets_held v = sound_row v.cable.n v.cable.order v.row && (within v.cable.n v.present && subset v.present (nodes_in v.row))

abbrev pub returning_held : Held → Bool
returning_held v = leb v.returning v.cable.n && not (has_row v.row v.returning)

abbrev pub own_held : Held → Bool
own_held v = exactly (is_member v.state) (has_row v.row v.own)

abbrev pub empty_held : Held → Bool
empty_held v =
    implies (is_listening v.state || is_out v.state) (eqb v.row.length 0 && (eqb v.present 0 && eqb v.returning 0))

abbrev pub enough_held : Held → Bool
enough_held v = implies (is_following v.state || is_knocking v.state) (leb 2 v.row.length)

unfoldable pub sound_held : Held → Bool
sound_held v =
    numbers_sound (setted v)
    && (sets_held v
    && (returning_held v
    && (own_held v
    && (knock_sound (setted v)
    && (empty_held v
    && (heard_sound (setted v)
    && (yes_sound (setted v)
    && (window_sound (setted v)
    && enough_held v))))))))
