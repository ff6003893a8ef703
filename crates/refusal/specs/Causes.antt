-- Document 01, "Causes and their numbers", and the causes of document 02: the number of each.
use Rattle.std.specs.Prelude.{ℕ, cond, eqb}
use Rattle.refusal.specs.declared.Refusal.{Refusal}
use Rattle.refusal.specs.declared.Refusal.TheVariants.{RingSize, SponsorCount, NodeNumber, Unsound, SlotLimit, MessageLength, SectionCount, SpareBit, OutputShort, NotItsSlot, NotOut, PlanLine, LedgerUnfit, JobCount, HasJobs, Lag, TableLength, TableNodes, SumPasses, LampBases}

abbrev pub number_of : Refusal → ℕ
-- "n not 3 to 32"
number_of RingSize = 1
-- "k not 2 to n - 1 (reader and writer alone: 2 to 31)"
number_of SponsorCount = 2
-- "node number not 1 to n"
number_of NodeNumber = 3
-- "record not sound, table not as above"
number_of Unsound = 4
-- "slot count at the limit"
number_of SlotLimit = 5
-- "message length wrong for k"
number_of MessageLength = 6
-- "a section's count wrong"
number_of SectionCount = 7
-- "spare bit set; for the writer, an acknowledgement past k"
number_of SpareBit = 8
-- "lent output too short"
number_of OutputShort = 9
-- "the next slot is not this node's, or it neither is a member nor follows with returning 0"
number_of NotItsSlot = 10
-- "restart of a node that is not out"
number_of NotOut = 11
-- "plan line unreadable or too long"
number_of PlanLine = 12
-- "a ledger whose length is not n, or with a count above the slot count plus one" (document 02, request a)
number_of LedgerUnfit = 13
-- "Job count above 8 at set-up, in reader or writer" (request h)
number_of JobCount = 14
-- "Message with a job count of 1 to 8 to be taken back" (request i)
number_of HasJobs = 15
-- "Lag above 1" (request j)
number_of Lag = 16
-- "Table of the wrong length" (request k)
number_of TableLength = 17
-- "A node missing or doubled" (request k)
number_of TableNodes = 18
-- "A sum passing 64 bits" (request m)
number_of SumPasses = 19
-- "Base above 254 or a table not of n entries" (request n)
number_of LampBases = 20

-- The cause with this number, so that a definition can name a refusal as document 01 does. (proofs/Numbers: its number is this one. No
-- definition asks for a number that is none.)
abbrev pub cause : ℕ → Refusal
cause number =
    cond (eqb number 1) RingSize
    (cond (eqb number 2) SponsorCount
    (cond (eqb number 3) NodeNumber
    (cond (eqb number 4) Unsound
    (cond (eqb number 5) SlotLimit
    (cond (eqb number 6) MessageLength
    (cond (eqb number 7) SectionCount
    (cond (eqb number 8) SpareBit
    (cond (eqb number 9) OutputShort
    (cond (eqb number 10) NotItsSlot
    (cond (eqb number 11) NotOut
    (cond (eqb number 12) PlanLine
    (cond (eqb number 13) LedgerUnfit
    (cond (eqb number 14) JobCount
    (cond (eqb number 15) HasJobs
    (cond (eqb number 16) Lag
    (cond (eqb number 17) TableLength
    (cond (eqb number 18) TableNodes
    (cond (eqb number 19) SumPasses LampBases))))))))))))))))))
