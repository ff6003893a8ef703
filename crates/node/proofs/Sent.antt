-- A message that is sent is readable, and reads as what the rules say is sent; of the writer's refusals only 9 can come of sending. Assumes nothing.
use Rattle.std.specs.Prelude.{Err, Ok}
use Prim.Native.Nat.{ℕ, ◌<◌, ◌^◌}
use mathlib.Core.Path.{◌≡◌, refl, sym, ap, ◌∙◌}
use mathlib.Core.Bool.{Bool, true, false, cond}
use mathlib.Core.List.{List, ◌++◌}
use native.Mathlib.Omega.{arith}
use lib.Dec.{leb}
use lib.ListN.{length, take, drop}
use lib.Pow.{pow_pos}
use borrow.Author.Tests.{le-leb, lt-leb, lt-ltb, leb-false}
use Rattle.refusal.specs.declared.Refusal.{Refusal}
use Rattle.refusal.specs.declared.Refusal.TheVariants.{Unsound, SlotLimit, SpareBit, NotItsSlot}
use Rattle.refusal.specs.Causes.{number_of}
use Rattle.ring.proofs.nodeset.Tests.{all, by_cases}
use Rattle.cable.proofs.Ranges.{ring-size, sponsor-count}
use Rattle.message.specs.Answers.{Written}
use Rattle.message.specs.Message.{in_range, jobs_within, length_of, message_of, heard, if_written, read_of, write_of}
use Rattle.message.proofs.RoundTrip.{read_back}
use Rattle.node_record.specs.declared.Node.{Node}
use Rattle.node_record.specs.States.{is_member}
use Rattle.node_record.specs.Soundness.{limit, sound}
use Rattle.node_record.proofs.Facts.{clauses}
use Rattle.node_sending.specs.Sending.{bits_sent, return_sent, jobs_sent}
use Rattle.node_sending.proofs.Laws.{bits_sent-lt}
use Rattle.node.specs.Calls.{its_turn, send_of, unsent}

refused-no-bytes : (r : Refusal) (n : ℕ) (out after : List ℕ) → ◌≡◌ {A = Written × List ℕ} (Err r, out) (Ok n, after) → ⊥
refused-no-bytes r n out after e =
    let f : ◌≡◌ {A = Written} (Err r) (Ok n) = ap (λ (p : Written × List ℕ). p.0) e in
    let z : ◌≡◌ {A = ℕ} 0 1 = cc in
    omega arith

-- where bytes are sent, it was the node's turn, and the writer wrote them
pub sent-by : (v : Node) (jobs : ℕ) (out : List ℕ) (n : ℕ) (after : List ℕ) → send_of v jobs out ≡ (Ok n, after)
    → (its_turn v ≡ true) × (write_of v.cable.k v.cable.m (bits_sent v) (return_sent v) (jobs_sent jobs v) out ≡ (Ok n, after))
unfolding send_of
sent-by v jobs out n after e = go (sound v) (leb limit v.slots) (jobs_within v.cable.m jobs) (its_turn v) e
  where
    written : Written × List ℕ
    written = write_of v.cable.k v.cable.m (bits_sent v) (return_sent v) (jobs_sent jobs v) out

    go : (a b c d : Bool) → cond a (cond b (Err SlotLimit, out) (cond c (cond d written (Err NotItsSlot, out)) (Err SpareBit, out))) (Err Unsound, out) ≡ (Ok n, after)
        → (d ≡ true) × (write_of v.cable.k v.cable.m (bits_sent v) (return_sent v) (jobs_sent jobs v) out ≡ (Ok n, after))
    go true true c d e = absurd (refused-no-bytes SlotLimit n out after e)
    go true false true true e = (refl, e)
    go true false true false e = absurd (refused-no-bytes NotItsSlot n out after e)
    go true false false d e = absurd (refused-no-bytes SpareBit n out after e)
    go false b c d e = absurd (refused-no-bytes Unsound n out after e)

pub sent-read : (v : Node) (jobs : ℕ) (out : List ℕ) (n : ℕ) (after : List ℕ) → send_of v jobs out ≡ (Ok n, after)
    → read_of v.cable.k v.cable.m (take n after) ≡ heard (bits_sent v) (return_sent v) (jobs_sent jobs v)
sent-read v jobs out n after e = read_back v.cable.k v.cable.m (bits_sent v) (return_sent v) (jobs_sent jobs v) out n after (sent-by v jobs out n after e).1

-- no job past m is sent, where none is given
jobs-sent : (v : Node) (jobs : ℕ) → jobs_within v.cable.m jobs ≡ true → jobs_within v.cable.m (jobs_sent jobs v) ≡ true
jobs-sent v jobs h = go (is_member v.state)
  where
    go : (b : Bool) → jobs_within v.cable.m (cond b jobs 0) ≡ true
    go true = h
    go false = lt-ltb 0 (2 ^ v.cable.m) (pow_pos v.cable.m)

-- a node whose turn it is, below the limit, sends, or is lent too few bytes
pub sent-or-short : (v : Node) (jobs : ℕ) (out : List ℕ) → sound v ≡ true → v.slots < limit → jobs_within v.cable.m jobs ≡ true → its_turn v ≡ true
    → send_of v jobs out
    ≡ if_written (leb (length_of v.cable.k) (length out)) 9 out (Ok (length_of v.cable.k), message_of v.cable.k v.cable.m (bits_sent v) (return_sent v) (jobs_sent jobs v) ++ drop (length_of v.cable.k) out)
unfolding send_of write_of
sent-or-short v jobs out e l h t =
    let c = (clauses v e).choices in
    let k = sponsor-count v.cable c.sponsors in
    let n = ring-size v.cable.n c.ring in
    let range : in_range v.cable.k ≡ true = all (le-leb 2 v.cable.k k.0) (le-leb v.cable.k 31 (omega arith)) in
    simp (e, lt-leb limit v.slots l, h, t, range, c.jobs, lt-ltb (bits_sent v) (2 ^ v.cable.k) (bits_sent-lt v), jobs-sent v jobs h)

-- ---- refused by 10

abbrev number_in : Written → ℕ
number_in (Ok n) = 0
number_in (Err r) = number_of r

-- where sending is refused by 10 it is not the node's turn
pub not-its-turn : (v : Node) (jobs : ℕ) (out : List ℕ) → send_of v jobs out ≡ unsent 10 out → its_turn v ≡ false
unfolding send_of
not-its-turn v jobs out e =
    by_cases (its_turn v)
    (λ t. absurd (by_cases (sound v) (λ s. by_cases (leb limit v.slots) (late s) (λ l. by_cases (jobs_within v.cable.m jobs) (timely t s l) (spare s l))) unsound))
    (λ f. f)
  where
    ten : number_in (send_of v jobs out).0 ≡ 10
    ten = ap (λ (p : Written × List ℕ). number_in p.0) e

    unsound : sound v ≡ false → ⊥
    unsound s = let z : send_of v jobs out ≡ unsent 4 out = simp s in omega (arith, ten, ap (λ (p : Written × List ℕ). number_in p.0) z)

    late : sound v ≡ true → leb limit v.slots ≡ true → ⊥
    late s l = let z : send_of v jobs out ≡ unsent 5 out = simp (s, l) in omega (arith, ten, ap (λ (p : Written × List ℕ). number_in p.0) z)

    spare : sound v ≡ true → leb limit v.slots ≡ false → jobs_within v.cable.m jobs ≡ false → ⊥
    spare s l h = let z : send_of v jobs out ≡ unsent 8 out = simp (s, l, h) in omega (arith, ten, ap (λ (p : Written × List ℕ). number_in p.0) z)

    not-ten : (b : Bool) (m : ℕ) (bytes : List ℕ) → number_in (if_written b 9 out (Ok m, bytes)).0 ≡ 10 → ⊥
    not-ten true m bytes q = omega (arith, q)
    not-ten false m bytes q = omega (arith, q)

    timely : its_turn v ≡ true → sound v ≡ true → leb limit v.slots ≡ false → jobs_within v.cable.m jobs ≡ true → ⊥
    timely t s l h =
        not-ten (leb (length_of v.cable.k) (length out)) _ _
        (sym (ap (λ (p : Written × List ℕ). number_in p.0) (sent-or-short v jobs out s (leb-false limit v.slots l) h t)) ∙ ten)
