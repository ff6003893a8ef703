-- What a slot of the bench makes of a record, and what the message of a member says. Assumes nothing.
use Rattle.std.specs.Prelude.{Option}
use Prim.Native.Nat.{ℕ, suc, ◌+◌, ◌≤◌, ◌<◌}
use mathlib.Core.Path.{◌≡◌, ap, ap₂, ◌∙◌}
use mathlib.Core.Bool.{Bool, true, cond, ◌||◌}
use native.Mathlib.Omega.{arith}
use lib.Dec.{eqb}
use lib.ListN.{length}
use Rattle.bench.specs.nodeset.Sets.{has}
use Rattle.bench.proofs.nodeset.Tests.{chosen}
use Rattle.bench.specs.cable.declared.Cable.{Cable}
use Rattle.bench.specs.ring.declared.Found.{Found}
use Rattle.bench.specs.ring.Ring.{sender, sponsors, sponsored, member_in}
use Rattle.bench.specs.message.Answers.{Reading}
use Rattle.bench.specs.node_record.declared.Node.{Node}
use Rattle.bench.specs.node_record.States.{is_member}
use Rattle.bench.specs.node_record.Soundness.{sound, limit}
use Rattle.bench.specs.node_changes.Changes.{counted}
use Rattle.bench.proofs.node_steps.Answers.{At}
use Rattle.bench.specs.node_sending.Sending.{mark_bits, bits_sent, return_sent}
use Rattle.bench.proofs.node_sending.Laws.{has-mark_bits}
use Rattle.bench.specs.node_slot.Slot.{after_slot}
use Rattle.bench.specs.node_slot.Inner.{read_in}
use Rattle.bench.proofs.node_slot.Read.{after_read}
use Rattle.bench.specs.node.Calls.{Stepped}
use Rattle.bench.specs.Table.{Table, record_of, speaker}
use Rattle.bench.specs.Calls.{transmits, unheard, spoken, heard_by, table_after_slot}
use Rattle.bench.proofs.Counted.{step-done}
use Rattle.bench.proofs.Runs.{heard-unless, after-slot-record}
use Rattle.bench.specs.message.Answers.{heard_with}

-- what the record with the number i reads of a slot of s
abbrev pub read_of : ℕ → Bool → ℕ → Table → ℕ → Reading
read_of s lost missed t i =
    cond (eqb s (record_of t i).own) unheard (cond (lost || has missed i) unheard (cond (transmits t) (heard_with (bits_sent (record_of t s)) (return_sent (record_of t s))) unheard))

pub read_is : (s : ℕ) (lost : Bool) (missed : ℕ) (t : Table) (i : ℕ) → speaker t ≡ s → cond (eqb s (record_of t i).own) unheard (heard_by lost missed t i) ≡ read_of s lost missed t i
unfolding spoken
read_is s lost missed t i e =
    ap (cond (eqb s (record_of t i).own) unheard)
    (heard-unless lost missed t i ∙ ap (λ (x : ℕ). cond (lost || has missed i) unheard (cond (transmits t) (heard_with (bits_sent (record_of t x)) (return_sent (record_of t x))) unheard)) e)

pub record-after : (s : ℕ) (lost : Bool) (missed : ℕ) (t : Table) (i : ℕ) → 1 ≤ i → i ≤ length t → sound (record_of t i) ≡ true → (record_of t i).slots < limit
    → sender (record_of t i).cable ((record_of t i).slots + 1) ≡ s → speaker t ≡ s
    → record_of (table_after_slot lost missed t) i ≡ read_in (record_of t i).cable.n (record_of t i).state s (read_of s lost missed t i) (counted (record_of t i))
record-after s lost missed t i h l good few its sp =
    after-slot-record lost missed t i h l
    ∙ ap (λ (x : Stepped). x.node) (step-done (heard_by lost missed t i) (record_of t i) good few)
    ∙ ap (λ (x : ℕ). after_slot x (heard_by lost missed t i) (counted (record_of t i))) its
    ∙ after_read s (heard_by lost missed t i) (counted (record_of t i))
    ∙ ap (λ (x : Reading). read_in (record_of t i).cable.n (record_of t i).state s x (counted (record_of t i))) (read_is s lost missed t i sp)

-- a member's bits are its marks of those that it sponsors
pub sent-bits : (cable : Cable) (L s : ℕ) (z : Node) → is_member z.state ≡ true → z.cable ≡ cable → z.set ≡ L → z.own ≡ s → sponsors cable L ≤ 32
    → (j x : ℕ) → j < sponsors cable L → At x (sponsored cable L s (suc j)) → has (bits_sent z) (suc j) ≡ has z.present x
unfolding bits_sent
sent-bits cable L s z mem c set own most j x h e =
    ap (λ (b : ℕ). has b (suc j)) (chosen _ _ mem ∙ ap (λ (q : ℕ). mark_bits q z) (ap₂ sponsors c set))
    ∙ has-mark_bits z (sponsors cable L) (suc j) (omega arith) (omega arith) most
    ∙ ap (λ (f : Option Found). has z.present (member_in f))
    (ap₂ (λ (d : Cable) (y : ℕ). sponsored d y z.own (suc j)) c set ∙ ap (λ (y : ℕ). sponsored cable L y (suc j)) own ∙ e.it)
