-- The counts of a node after a slot of the bench (specs/Reports), and whose slot it is for each node. Assumes nothing.
use Prim.Native.Nat.{ℕ, zero, suc, ◌+◌, ◌-◌, ◌≤◌, ◌<◌}
use mathlib.Core.Path.{◌≡◌, refl, sym, ap, ap₂, ◌∙◌}
use mathlib.Core.Bool.{Bool, true}
use mathlib.Core.List.{List, [], ◌∷◌}
use native.Mathlib.Omega.{arith}
use native.Mathlib.Nat.{add-zero}
use lib.ListN.{length, get_or}
use Rattle.cable.specs.declared.Cable.{Cable}
use Rattle.node.specs.ring.Ring.{sender}
use Rattle.node.specs.node_reports.Reports.{Counts}
use Rattle.node.specs.Calls.{counts_after}
use Rattle.bench.specs.Table.{Table, record_of, table_sound, speaker}
use Rattle.bench.specs.Reports.{received_by, each_counts_from, reports_after_slot}
use Rattle.bench.proofs.Places.{sound-placed}

each_at : (f : ℕ → Counts → Counts) (i j : ℕ) (counts : List Counts) → j < length counts → get_or (each_counts_from f i counts) j [] ≡ f (i + j) (get_or counts j [])
unfolding each_counts_from
each_at f i j [] h = absurd (elim h [ ])
each_at f i zero (c ∷ counts) h = ap (λ (x : ℕ). f x c) (sym (add-zero i))
each_at f i (suc j) (c ∷ counts) h = let z : suc i + j ≡ i + suc j = omega arith in each_at f (suc i) j counts (omega arith) ∙ ap (λ (x : ℕ). f x (get_or counts j [])) z

each-length : (f : ℕ → Counts → Counts) (i : ℕ) (counts : List Counts) → length (each_counts_from f i counts) ≡ length counts
unfolding each_counts_from
each-length f i [] = refl
each-length f i (c ∷ counts) = ap suc (each-length f (suc i) counts)

pub counts-at : (lost : Bool) (missed jobs : ℕ) (t : Table) (counts : List Counts) (i : ℕ) → 1 ≤ i → i ≤ length counts
    → get_or (reports_after_slot lost missed jobs t counts) (i - 1) [] ≡ counts_after (received_by lost missed jobs t i) (record_of t i) (get_or counts (i - 1) [])
unfolding reports_after_slot
counts-at lost missed jobs t counts i low high =
    let z : 1 + (i - 1) ≡ i = omega arith in
    each_at (λ i c. counts_after (received_by lost missed jobs t i) (record_of t i) c) 1 (i - 1) counts (omega arith)
    ∙ ap (λ (x : ℕ). counts_after (received_by lost missed jobs t x) (record_of t x) (get_or counts (i - 1) [])) z

pub counts-length : (lost : Bool) (missed jobs : ℕ) (t : Table) (counts : List Counts) → length (reports_after_slot lost missed jobs t counts) ≡ length counts
unfolding reports_after_slot
counts-length lost missed jobs t counts = each-length (λ i c. counts_after (received_by lost missed jobs t i) (record_of t i) c) 1 counts

-- each node of a sound table takes the same slot for the next
pub next-sender : (t : Table) → table_sound t ≡ true → (i : ℕ) → 1 ≤ i → i ≤ length t → sender (record_of t i).cable ((record_of t i).slots + 1) ≡ speaker t
unfolding speaker
next-sender t ok i low high =
    let p = sound-placed t ok in
    let q = p.at i low (omega (arith, high, p.length-is)) in
    ap₂ (λ (c : Cable) (s : ℕ). sender c (s + 1)) q.cable-is q.slots-is
