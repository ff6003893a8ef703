-- A node record as lent bytes, for callers in Rust and C. 124 bytes: numbers have 4 of them, the slot count 8, lowest first; yes or no is 1 or 0.
--
--     0 n          12 slot count        25 marks           34 slots done in the window   47 nodes of the last clean one   60 slot table, 32 places
--     4 k          20 state             29 returning       38 nodes heard in it          51 yes heard                     92 the row's 32 places
--     8 own        21 the row's length  33 return heard    42 shortest run of ones       52 number of jobs
--                                                          46 return bit seen            56 lag
use Rattle.std.specs.Prelude.{ℕ, ◌+◌, ◌-◌, ◌*◌, ◌^◌, Bool, cond, ◌&&◌, List, eqb, leb, length, get_or, take, drop}
use Rattle.cable.specs.declared.Cable.{Cable}
use Rattle.row.specs.declared.Row.{Row}
use Rattle.node_record.specs.declared.State.{State}
use Rattle.node_record.specs.declared.State.TheVariants.{Member, Listening, Following, Knocking, Out}
use Rattle.node_record.specs.declared.Window.{Window}
use Rattle.node_record.specs.declared.Held.{Held}
use Rattle.node_record.specs.States.{leaving_cause}

-- ---- what stands from a place on

abbrev pub byte_at : List ℕ → ℕ → ℕ
byte_at bytes at = get_or bytes at 0

unfoldable pub word_at : List ℕ → ℕ → ℕ
word_at bytes at = byte_at bytes at + 256 * (byte_at bytes (at + 1) + 256 * (byte_at bytes (at + 2) + 256 * byte_at bytes (at + 3)))

abbrev pub long_at : List ℕ → ℕ → ℕ
long_at bytes at = word_at bytes at + 2 ^ 32 * word_at bytes (at + 4)

abbrev pub yes_at : List ℕ → ℕ → Bool
yes_at bytes at = eqb (byte_at bytes at) 1

abbrev pub places_at : List ℕ → ℕ → List ℕ
places_at bytes at = take 32 (drop at bytes)

-- ---- the record

-- 0 to 3, and out with the causes 1 to 4 as 4 to 7.
abbrev pub state_of : ℕ → State
state_of x = cond (eqb x 0) Member (cond (eqb x 1) Listening (cond (eqb x 2) Following (cond (eqb x 3) Knocking (Out (leaving_cause (x - 3))))))

abbrev pub cable_in : List ℕ → Cable
cable_in bytes = record { n = word_at bytes 0; k = word_at bytes 4; m = word_at bytes 52; lag = word_at bytes 56; order = places_at bytes 60 }

abbrev pub row_in : List ℕ → Row
row_in bytes = record { length = word_at bytes 21; nodes = places_at bytes 92 }

abbrev pub window_in : List ℕ → Window
window_in bytes = record { done = word_at bytes 34; heard = word_at bytes 38; shortest = word_at bytes 42; return_seen = yes_at bytes 46; last = word_at bytes 47 }

abbrev pub held_in : List ℕ → Held
held_in bytes = record { cable = cable_in bytes; own = word_at bytes 8; slots = long_at bytes 12; state = state_of (byte_at bytes 20); row = row_in bytes; present = word_at bytes 25; returning = word_at bytes 29; return_heard = yes_at bytes 33; yes_heard = yes_at bytes 51; listening = window_in bytes }

-- Other bytes are no record: of another length, with no state's number, or with a yes or no that is neither.
unfoldable pub is_record : List ℕ → Bool
is_record bytes =
    eqb (length bytes) 124 && (leb (byte_at bytes 20) 7 && (leb (byte_at bytes 33) 1 && (leb (byte_at bytes 46) 1 && leb (byte_at bytes 51) 1)))
