-- Document 01, "The message", with the third section of request h: the bytes of a message, what reading finds in bytes, and what writing leaves.
-- A section is its count and then the bits that are counted. Acknowledgements are a number whose lowest bit is bit 1 of the document.
use Rattle.std.specs.Prelude.{ℕ, zero, suc, ◌+◌, ◌*◌, ◌/◌, ◌%◌, ◌^◌, ◌<◌, List, [], ◌∷◌, ◌++◌, Bool, true, false, cond, ◌&&◌, length, get_or, take, drop, eqb, ltb, leb, Err, Ok}
use Rattle.refusal.specs.declared.Refusal.{Refusal}
use Rattle.refusal.specs.Causes.{cause}
use Rattle.cable.specs.Cable.{job_count}
use Rattle.message.specs.declared.Received.{Received}
use Rattle.message.specs.declared.Section.{Section}
use Rattle.message.specs.Answers.{Written}
use Rattle.message.specs.Answers.{heard_with}

-- ---- the bytes

-- numbers that are bytes
abbrev pub AreBytes : List ℕ → Type 0
AreBytes bytes = (i : ℕ) → i < length bytes → get_or bytes i 0 < 256

-- "in as few bytes as hold them"
abbrev pub bytes_for : ℕ → ℕ
bytes_for count = (count + 7) / 8

-- "lowest bit first": the lowest 8 bits are the first byte
unfoldable pub bytes_of : ℕ → ℕ → List ℕ
bytes_of zero bits = []
bytes_of (suc size) bits = bits % 256 ∷ bytes_of size (bits / 256)

-- "sections in fixed order, each after its count": the count, then the bits in so many bytes. "Spare bits are 0" where the bits are no more than counted.
abbrev pub section_of : ℕ → ℕ → ℕ → List ℕ
section_of count size bits = count ∷ bytes_of size bits

-- "Section one: a byte holding k, then k acknowledgement bits in as few bytes as hold them, lowest bit first"
abbrev pub acknowledgement_section : ℕ → ℕ → List ℕ
acknowledgement_section k acknowledgements = section_of k (bytes_for k) acknowledgements

-- "Section two: a byte holding 1, then a byte whose lowest bit is the return bit."
abbrev pub return_section : Bool → List ℕ
return_section return_bit = section_of 1 1 (cond return_bit 1 0)

-- Request h: "The message gains a third section: the number of jobs m, 0 to 8, then one byte with a bit per job, lowest first, present also for m = 0."
abbrev pub job_section : ℕ → ℕ → List ℕ
job_section m jobs = section_of m 1 jobs

-- document 01's message: its two sections in their order
unfoldable pub two_sections : ℕ → ℕ → Bool → List ℕ
two_sections k acknowledgements return_bit = acknowledgement_section k acknowledgements ++ return_section return_bit

-- the message: with the third
unfoldable pub message_of : ℕ → ℕ → ℕ → Bool → ℕ → List ℕ
message_of k m acknowledgements return_bit jobs = two_sections k acknowledgements return_bit ++ job_section m jobs

-- the length of section one
abbrev pub length_one : ℕ → ℕ
length_one k = 1 + bytes_for k

-- the length of two sections: "Length for k = 8 is 4 bytes, for k = 9 it is 5."
abbrev pub length_two : ℕ → ℕ
length_two k = length_one k + 2

-- the length of a message: "The length that 6 tests grows by two bytes."
abbrev pub length_of : ℕ → ℕ
length_of k = length_two k + 2

-- ---- reading

-- where the sections stand
abbrev pub part_one : ℕ → List ℕ → List ℕ
part_one k bytes = take (length_one k) bytes

abbrev pub part_two : ℕ → List ℕ → List ℕ
part_two k bytes = take 2 (drop (length_one k) bytes)

abbrev pub part_three : ℕ → List ℕ → List ℕ
part_three k bytes = take 2 (drop (length_two k) bytes)

-- the number that bytes hold, lowest byte first
unfoldable pub little : List ℕ → ℕ
little [] = 0
little (byte ∷ rest) = byte + little rest * 256

-- the bits of a section, which stand after its count
abbrev pub bits_in : List ℕ → ℕ
bits_in part = little (drop 1 part)

-- a section as it is found in bytes, beside the count that it should hold: whether the count is right, whether "Spare bits are 0.", and its bits
abbrev pub section_in : ℕ → List ℕ → Section
section_in count part =
    record { counted = eqb (get_or part 0 0) count; clear = ltb (bits_in part) (2 ^ count); bits = bits_in part }

-- "k not 2 to n - 1 (reader and writer alone: 2 to 31)"
abbrev pub in_range : ℕ → Bool
in_range k = leb 2 k && leb k 31

-- the answers: what is heard, "reading back gives" the job byte, "too"; or the refusal with this number
abbrev pub heard : ℕ → Bool → ℕ → Received
heard acknowledgements return_bit jobs = record { reading = heard_with acknowledgements return_bit; jobs = jobs }

abbrev pub unread : Refusal → Received
unread cause = record { reading = Err cause; jobs = 0 }

-- the answer where a test holds, and the refusal where it does not
abbrev pub if_read : Bool → ℕ → Received → Received
if_read true number answer = answer
if_read false number answer = unread (cause number)

-- what the sections say: 7 is tested for each of them, then 8 for each of them
unfoldable pub said_by : Section → Section → Section → Received
said_by one two three =
    if_read (one.counted && (two.counted && three.counted)) 7
    (if_read (one.clear && (two.clear && three.clear)) 8
    (heard one.bits (eqb (two.bits % 2) 1) (three.bits % 256)))

-- what is read in bytes. The causes are tested in their order: 2, 14 ("Job count above 8 .. in reader or writer: 14, after 2"), 6, 7, 8.
unfoldable pub read_of : ℕ → ℕ → List ℕ → Received
read_of k m bytes =
    if_read (in_range k) 2
    (if_read (job_count m) 14
    (if_read (eqb (length bytes) (length_of k)) 6
    (said_by (section_in k (part_one k bytes)) (section_in 1 (part_two k bytes)) (section_in m (part_three k bytes)))))

-- ---- writing

-- what comes of writing into lent bytes: the answer, and all of the lent bytes afterwards
abbrev pub Outcome : Type 0
Outcome = Written × List ℕ

-- the answers: so many bytes, or the refusal with this number
abbrev pub wrote : ℕ → Written
wrote count = Ok count

abbrev pub unwritten : ℕ → Written
unwritten number = Err (cause number)

-- the outcome where a test holds, and where it does not the refusal, which leaves every lent byte as it was
abbrev pub if_written : Bool → ℕ → List ℕ → Outcome → Outcome
if_written true number out outcome = outcome
if_written false number out outcome = (unwritten number, out)

-- no bit of a job byte is past m: "a spare bit, also in a given job byte"
abbrev pub jobs_within : ℕ → ℕ → Bool
jobs_within m jobs = ltb jobs (2 ^ m)

-- the message, its length told, and "The writer leaves lent bytes after its message untouched."
-- The causes are tested in their order: 2, 14, 8, 9.
unfoldable pub write_of : ℕ → ℕ → ℕ → Bool → ℕ → List ℕ → Outcome
write_of k m acknowledgements return_bit jobs out =
    if_written (in_range k) 2 out
    (if_written (job_count m) 14 out
    (if_written (ltb acknowledgements (2 ^ k) && jobs_within m jobs) 8 out
    (if_written (leb (length_of k) (length out)) 9 out
    (wrote (length_of k), message_of k m acknowledgements return_bit jobs ++ drop (length_of k) out))))
