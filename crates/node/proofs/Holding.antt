-- What the code makes of a sound held record holds what the rules make of the record that it stands for: any step that does so (`on-held`), a slot (`slot-held`), whose job byte counts (`reporter-held`), the bits that are sent
-- (`bits-sent-held`), the way back (`set-held`). Assumes nothing.
use Prim.Native.Nat.{ℕ, ◌+◌, ◌≤◌}
use mathlib.Core.Path.{◌≡◌, refl, sym, ap, ◌∙◌}
use mathlib.Core.Bool.{Bool, true, cond, not, ◌&&◌}
use mathlib.Core.List.{[]}
use lib.Dec.{eqb, leb}
use borrow.Author.Tests.{leb-true}
use Rattle.ring.specs.nodeset.Sets.{has}
use Rattle.ring.proofs.nodeset.Tests.{both}
use Rattle.ring.specs.Ring.{sender}
use Rattle.cable.proofs.Ranges.{node-number}
use Rattle.node_record.proofs.ring_laws.Senders.{turns-of, sender-range}
use Rattle.row.specs.declared.Row.{Row}
use Rattle.row.specs.Rows.{row_for, nodes_in}
use Rattle.row.specs.Inner.{has_row}
use Rattle.node_record.proofs.row_laws.Laws.{empty-row}
use Rattle.message.specs.Answers.{Reading}
use Rattle.node_record.specs.declared.Node.{Node}
use Rattle.node_record.specs.declared.Held.{Held}
use Rattle.node_record.specs.Soundness.{sound}
use Rattle.node_record.specs.Held.{rowed, setted}
use Rattle.node_record.proofs.Facts.{clauses}
use Rattle.node_record.proofs.Holding.{held_back, set-small, row_has, row-nodes}
use Rattle.node_changes.specs.Changes.{numbered, counted}
use Rattle.node_changes.specs.Held as changes
use Rattle.node_steps.specs.Steps.{is_heard}
use Rattle.node_steps.specs.declared.Digest.{Digest}
use Rattle.node_steps.specs.Held.{digest_of}
use Rattle.node_steps.proofs.Holding.{Good}
use Rattle.node_sending.specs.Sending as rules
use Rattle.node_sending.specs.Held as sending
use Rattle.node_sending.proofs.Holding.{bits-held}
use Rattle.node_slot.specs.Slot.{after_slot}
use Rattle.node_slot.specs.Held.{after_by}
use Rattle.node_slot.proofs.Digests.{sound-own, sound-marks}
use Rattle.node_slot.proofs.Holding.{after-held}
use Rattle.node.specs.Calls.{no_node, hears_report, reporter_in}
use Rattle.node.specs.Inner.{hears_held, reporter_held}

-- the record of no node, as the code writes it
pub no-node-held : changes.with_row (row_for []) (rowed no_node) ≡ rowed no_node
no-node-held = ap (λ (r : Row). changes.with_row r (rowed no_node)) (sym (empty-row no_node.cable.order))

-- what a slot asks of a sound record, whatever slots it counts
pub good_of : (w : Node) (s slots : ℕ) → sound w ≡ true → 1 ≤ s → s ≤ w.cable.n → Good s (numbered slots w)
good_of w s slots good low high =
    let c = clauses w good in
    record {
      kept = c.choices.order;
      low = low;
      high = high;
      own = (node-number w.cable.n w.own c.own).1;
      back = leb-true w.returning w.cable.n (both (leb w.returning w.cable.n) _ c.returning).0;
    }

module _ (v : Held) (good : sound (setted v) ≡ true) where
  abbrev w : Node
  w = setted v

  pub on-held : (f : Held → Held) (g : Node → Node) → ((x : Node) → f (rowed x) ≡ rowed (g x)) → f v ≡ rowed (g w)
  on-held f g law = ap f (sym (held_back v good)) ∙ law w

  -- by the digest of the record's own row, where x is the sender
  pub slot-held : (x : ℕ) (heard : Reading) (d : Digest) (r : Held) → r ≡ after_by d x heard (changes.counted v) → d ≡ digest_of x heard v.cable v.row → x ≡ sender v.cable (v.slots + 1)
      → r ≡ rowed (after_slot (sender v.cable (v.slots + 1)) heard (counted w))
  slot-held x heard d r e f g =
      let range = sender-range v.cable (turns-of v.cable (clauses w good).choices) (v.slots + 1) in
      let s = sender v.cable (v.slots + 1) in
      e
      ∙ ap (λ (t : Digest). after_by t x heard (changes.counted v)) f
      ∙ ap (λ (y : ℕ). after_by (digest_of y heard v.cable v.row) y heard (changes.counted v)) g
      ∙ ap (λ (u : Held). after_by (digest_of s heard u.cable u.row) s heard (changes.counted u)) (sym (held_back v good))
      ∙ after-held s heard heard v.cable w.set (counted w) (λ _. refl) refl (sound-own w good) (sound-marks w good) (good_of w s (w.slots + 1) good range.0 range.1) (set-small w good) (set-small w good)

  has-held : (x : ℕ) → has_row v.row x ≡ has w.set x
  has-held x = ap (λ (u : Held). has_row u.row x) (sym (held_back v good)) ∙ row_has w x good

  hears-held : (s : ℕ) (heard : Reading) → hears_held s heard v ≡ hears_report s heard w
  hears-held s heard = ap (λ (b : Bool). not (eqb s v.own) && (is_heard heard && b)) (has-held s)

  pub reporter-held : (heard : Reading) → reporter_held heard v ≡ reporter_in heard w
  unfolding reporter_held reporter_in
  reporter-held heard =
      let s = sender v.cable (v.slots + 1) in
      ap (λ (b : Bool). cond b s 0) (hears-held s heard)

  pub bits-sent-held : sending.bits_sent v ≡ rules.bits_sent w
  bits-sent-held =
      let c = clauses w good in
      let own = node-number v.cable.n v.own c.own in
      ap sending.bits_sent (sym (held_back v good)) ∙ bits-held w c.choices.order own.0 own.1

  pub set-held : nodes_in v.row ≡ w.set
  set-held = ap (λ (u : Held). nodes_in u.row) (sym (held_back v good)) ∙ row-nodes w good
