-- Document 01, "The message", as it was before request h: two sections and no job byte. Recorded messages have this form (request i).
use Rattle.std.specs.Prelude.{ℕ, ◌^◌, List, ◌++◌, Bool, true, length, drop, eqb, ltb, leb}
use Rattle.message.specs.declared.Received.{Received}
use Rattle.message.specs.declared.Section.{Section}
use Rattle.message.specs.Message.{Outcome, if_read, if_written, in_range, length_two, part_one, part_two, said_by, section_in, two_sections, wrote}

-- the third section is absent: nothing in it is wrong
abbrev pub absent : Section
absent = record { counted = true; clear = true; bits = 0 }

-- what is read in bytes, the job byte 0. The causes are tested in their order: 2, 6, 7, 8.
unfoldable pub read_two_of : ℕ → List ℕ → Received
read_two_of k bytes =
    if_read (in_range k) 2
    (if_read (eqb (length bytes) (length_two k)) 6
    (said_by (section_in k (part_one k bytes)) (section_in 1 (part_two k bytes)) absent))

-- the two sections, their length told, and "The writer leaves lent bytes after its message untouched."
-- The causes are tested in their order: 2, 8, 9.
unfoldable pub write_two_of : ℕ → ℕ → Bool → List ℕ → Outcome
write_two_of k acknowledgements return_bit out =
    if_written (in_range k) 2 out
    (if_written (ltb acknowledgements (2 ^ k)) 8 out
    (if_written (leb (length_two k) (length out)) 9 out
    (wrote (length_two k), two_sections k acknowledgements return_bit ++ drop (length_two k) out)))
