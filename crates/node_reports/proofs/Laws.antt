-- What callers need of the counts of reports: no reports, and no job byte; counts that are not above the slot count; the greatest count; what is left as it was. Assumes nothing.
use Prim.Native.Nat.{ℕ, zero, suc, ◌+◌, ◌-◌, ◌/◌, ◌%◌, ◌^◌, ◌<◌, ◌≤◌}
use native.Mathlib.Nat.{min-le_left, min-eq_left, le_of_suc-le-suc}
use native.Mathlib.Omega.{arith}
use mathlib.Core.Path.{◌≡◌, refl, sym, ap, subst, ◌∙◌}
use mathlib.Core.Bool.{Bool, true, false, cond}
use mathlib.Core.List.{List, [], ◌∷◌}
use borrow.Author.Tests.{le-leb, leb-true, lt-ltb, le-ltb}
use lib.Dec.{eqb, leb, ltb}
use lib.ListN.{length, get_or, set, length-set, length-replicate, get_or-replicate}
use lib.Seq.{set-get_or}
use Rattle.nodeset.specs.Sets.{has}
use Rattle.nodeset.proofs.Tests.{by_cases, chosen, otherwise}
use Rattle.nodeset.proofs.Bits.{has-none}
use Rattle.node_reports.specs.Reports.{Row, Counts, no_reports, no_reports_at, row_within, counts_within, all_within, one_more, row_with, counts_with, heard_from, heard_by}
use Rattle.node_reports.specs.Inner.{row_greatest, counts_greatest, greatest_of}
use Rattle.node_reports.proofs.Below.{every-each, every-all, greatest-every}

-- ---- nothing is added

same : (b : Bool) (counts : Counts) → cond b counts counts ≡ counts
same true counts = refl
same false counts = refl

-- a job byte of 0 leaves the counts
pub no-jobs : (sender : ℕ) (counts : Counts) → counts_with sender 0 counts ≡ counts
unfolding row_with counts_with
no-jobs zero counts = refl
no-jobs (suc i) counts = rw zeros (rw set-get_or (same (ltb i 32) counts))
  where
    zeros : (row : Row) → row_with 0 row ≡ row
    zeros [] = refl
    zeros (x ∷ row) = ap {B = Row} (λ r. x ∷ r) (zeros row)

-- and so does a number that names no node
pub no-sender : (sender jobs : ℕ) (counts : Counts) → sender ≡ 0 → counts_with sender jobs counts ≡ counts
unfolding counts_with
no-sender sender jobs counts e = rw e

pub no_row : (sender jobs : ℕ) (counts : Counts) → 32 < sender → counts_with sender jobs counts ≡ counts
unfolding counts_with
no_row zero jobs counts h = refl
no_row (suc i) jobs counts h = rw (le-ltb i 32 (le_of_suc-le-suc h))

-- what leaves the counts of a node leaves those of all
pub all_same : (hearers sender jobs : ℕ) (all : List Counts) → ((counts : Counts) → counts_with sender jobs counts ≡ counts) → heard_by hearers sender jobs all ≡ all
unfolding heard_from
all_same hearers sender jobs all e = go 1 all
  where
    go : (x : ℕ) (all : List Counts) → heard_from x hearers sender jobs all ≡ all
    go x [] = refl
    go x (counts ∷ all) = rw (e counts, go (suc x) all) (ap {B = List Counts} (λ r. r ∷ all) (same (has hearers x) counts))

pub no-jobs-all : (hearers sender : ℕ) (all : List Counts) → heard_by hearers sender 0 all ≡ all
no-jobs-all hearers sender all = all_same hearers sender 0 all (no-jobs sender)

-- a report that nobody hears leaves all
pub nobody-hears : (sender jobs : ℕ) (all : List Counts) → heard_by 0 sender jobs all ≡ all
unfolding heard_from
nobody-hears sender jobs all = go 1 all
  where
    go : (x : ℕ) (all : List Counts) → heard_from x 0 sender jobs all ≡ all
    go x [] = refl
    go x (counts ∷ all) = rw (has-none x, go (suc x) all)

-- below the greatest count there is, one report more is 1 more
pub plain_more : (limit x : ℕ) → x ≤ limit → limit < 2 ^ 64 - 1 → one_more x ≡ x + 1
plain_more limit x h l = min-eq_left (omega arith)

-- ---- what is kept, and what becomes of each node's counts

-- the sender's row, where it has one
pub own_row : (sender jobs : ℕ) (counts : Counts) → 1 ≤ sender → sender ≤ 32 → set counts (sender - 1) (row_with jobs (get_or counts (sender - 1) [])) ≡ counts_with sender jobs counts
unfolding counts_with
own_row zero jobs counts a b = absurd (elim a [ ])
own_row (suc i) jobs counts a b =
    let e : suc i - 1 ≡ i = omega arith in
    let l : i < 32 = omega arith in
    rw (e, lt-ltb i 32 l)

pub row-length : (jobs : ℕ) (row : Row) → length (row_with jobs row) ≡ length row
unfolding row_with
row-length jobs [] = refl
row-length jobs (x ∷ row) = ap suc (row-length (jobs / 2) row)

pub counts-length : (sender jobs : ℕ) (counts : Counts) → length (counts_with sender jobs counts) ≡ length counts
unfolding counts_with
counts-length zero jobs counts = refl
counts-length (suc i) jobs counts = go (ltb i 32)
  where
    go : (b : Bool) → length (cond b (set counts i (row_with jobs (get_or counts i []))) counts) ≡ length counts
    go true = length-set counts i (row_with jobs (get_or counts i []))
    go false = refl

pub heard-length : (hearers sender jobs : ℕ) (all : List Counts) → length (heard_by hearers sender jobs all) ≡ length all
unfolding heard_from
heard-length hearers sender jobs all = go 1 all
  where
    go : (x : ℕ) (all : List Counts) → length (heard_from x hearers sender jobs all) ≡ length all
    go x [] = refl
    go x (counts ∷ all) = ap suc (go (suc x) all)

-- the counts of node i + 1
pub heard-at : (hearers sender jobs : ℕ) (all : List Counts) (i : ℕ)
    → get_or (heard_by hearers sender jobs all) i [] ≡ cond (has hearers (suc i)) (counts_with sender jobs (get_or all i [])) (get_or all i [])
unfolding heard_from counts_with
heard-at hearers sender jobs all i = go 1 (suc i) all i (omega arith)
  where
    no-counts : (sender : ℕ) → counts_with sender jobs [] ≡ []
    no-counts zero = refl
    no-counts (suc i) = same (ltb i 32) []

    go : (x y : ℕ) (all : List Counts) (i : ℕ) → y ≡ x + i → get_or (heard_from x hearers sender jobs all) i [] ≡ cond (has hearers y) (counts_with sender jobs (get_or all i [])) (get_or all i [])
    go x y [] i e = sym (rw (no-counts sender) (same (has hearers y) []))
    go x y (counts ∷ all) zero e = let z : x ≡ y = omega arith in ap (λ (w : ℕ). cond (has hearers w) (counts_with sender jobs counts) counts) z
    go x y (counts ∷ all) (suc i) e = go (suc x) y all i (omega arith)

-- ---- no count is above the slot count

-- each of a node's counts, and each node's
pub counts_each : (slots : ℕ) (counts : Counts) → counts_within slots counts ≡ true → (j l : ℕ) → j < 32 → l < 8 → get_or (get_or counts j []) l 0 ≤ slots
unfolding row_within counts_within
counts_each slots counts e j l hj hl = leb-true _ _ (every-each _ 8 (every-each _ 32 e j hj) l hl)

pub counts_all : (slots : ℕ) (counts : Counts) → ((j l : ℕ) → j < 32 → l < 8 → get_or (get_or counts j []) l 0 ≤ slots) → counts_within slots counts ≡ true
unfolding row_within counts_within
counts_all slots counts each = every-all _ 32 (λ j hj. every-all _ 8 (λ l hl. le-leb _ _ (each j l hj hl)))

pub nodes-each : (slots : ℕ) (all : List Counts) → all_within slots all ≡ true → (i : ℕ) → i < length all → counts_within slots (get_or all i []) ≡ true
unfolding all_within
nodes-each slots all e = every-each _ (length all) e

pub nodes-all : (slots : ℕ) (all : List Counts) → ((i : ℕ) → i < length all → counts_within slots (get_or all i []) ≡ true) → all_within slots all ≡ true
unfolding all_within
nodes-all slots all each = every-all _ (length all) each

-- nor are they above a greater one
pub within_more : (slots limit : ℕ) (counts : Counts) → slots ≤ limit → counts_within slots counts ≡ true → counts_within limit counts ≡ true
within_more slots limit counts h e = counts_all limit counts (λ j l hj hl. omega (arith, counts_each slots counts e j l hj hl))

-- no reports are not
pub none_within : (slots : ℕ) → counts_within slots no_reports ≡ true
none_within slots =
    counts_all slots no_reports (λ j l hj hl.
    let at : get_or (get_or no_reports j []) l 0 ≡ 0 = ap (λ (r : Row). get_or r l 0) (get_or-replicate 32 j _ [] hj) ∙ get_or-replicate 8 l 0 0 hl in
    omega (arith, at))

pub none-within-all : (slots n : ℕ) → all_within slots (no_reports_at n) ≡ true
none-within-all slots n =
    nodes-all slots (no_reports_at n) (λ i h.
    ap (counts_within slots) (get_or-replicate n i no_reports [] (subst (λ (m : ℕ). i < m) (length-replicate n no_reports) h)) ∙ none_within slots)

-- the greatest count is not, just where no count is
pub greatest-within : (all : List Counts) (limit : ℕ) → leb (greatest_of all) limit ≡ all_within limit all
unfolding row_within counts_within all_within row_greatest counts_greatest greatest_of
greatest-within all limit = nodes
  where
    rows : (row : Row) → leb (row_greatest row) limit ≡ row_within limit row
    rows row = greatest-every (λ l. get_or row l 0) (λ l. leb (get_or row l 0) limit) limit (λ l. refl) 8

    counts : (c : Counts) → leb (counts_greatest c) limit ≡ counts_within limit c
    counts c = greatest-every (λ j. row_greatest (get_or c j [])) (λ j. row_within limit (get_or c j [])) limit (λ j. rows (get_or c j [])) 32

    nodes : leb (greatest_of all) limit ≡ all_within limit all
    nodes = greatest-every (λ i. counts_greatest (get_or all i [])) (λ i. counts_within limit (get_or all i [])) limit (λ i. counts (get_or all i [])) (length all)

-- ---- no count grows by more than 1

row-grows : (jobs : ℕ) (row : Row) (l : ℕ) → get_or (row_with jobs row) l 0 ≤ get_or row l 0 + 1
unfolding row_with
row-grows jobs [] l = omega arith
row-grows jobs (x ∷ row) zero = picked (eqb (jobs % 2) 1)
  where
    picked : (b : Bool) → cond b (one_more x) x ≤ x + 1
    picked true = min-le_left (x + 1) (2 ^ 64 - 1)
    picked false = omega arith
row-grows jobs (x ∷ row) (suc l) = row-grows (jobs / 2) row l

-- counts of which the row at i is set to one that grows so
set-grows : (counts : Counts) (i : ℕ) (row : Row) → ((l : ℕ) → get_or row l 0 ≤ get_or (get_or counts i []) l 0 + 1)
    → (j l : ℕ) → get_or (get_or (set counts i row) j []) l 0 ≤ get_or (get_or counts j []) l 0 + 1
set-grows [] i row h j l = omega arith
set-grows (c ∷ counts) zero row h zero l = h l
set-grows (c ∷ counts) zero row h (suc j) l = omega arith
set-grows (c ∷ counts) (suc i) row h zero l = omega arith
set-grows (c ∷ counts) (suc i) row h (suc j) l = set-grows counts i row h j l

counts-grow : (sender jobs : ℕ) (counts : Counts) (j l : ℕ) → get_or (get_or (counts_with sender jobs counts) j []) l 0 ≤ get_or (get_or counts j []) l 0 + 1
unfolding counts_with
counts-grow zero jobs counts j l = omega arith
counts-grow (suc i) jobs counts j l = go (ltb i 32)
  where
    go : (b : Bool) → get_or (get_or (cond b (set counts i (row_with jobs (get_or counts i []))) counts) j []) l 0 ≤ get_or (get_or counts j []) l 0 + 1
    go true = set-grows counts i (row_with jobs (get_or counts i [])) (row-grows jobs (get_or counts i [])) j l
    go false = omega arith

-- so counts that are not above the slot count are not above it after the next slot
pub heard-within : (slots sender jobs : ℕ) (counts : Counts) → counts_within slots counts ≡ true → counts_within (slots + 1) (counts_with sender jobs counts) ≡ true
heard-within slots sender jobs counts e =
    counts_all (slots + 1) (counts_with sender jobs counts) (λ j l hj hl. omega (arith, counts-grow sender jobs counts j l, counts_each slots counts e j l hj hl))

pub heard-within-all : (slots hearers sender jobs : ℕ) (all : List Counts) → all_within slots all ≡ true → all_within (slots + 1) (heard_by hearers sender jobs all) ≡ true
heard-within-all slots hearers sender jobs all e =
    nodes-all (slots + 1) (heard_by hearers sender jobs all) (λ i h.
    let own = get_or all i [] in
    let before = nodes-each slots all e i (subst (λ (m : ℕ). i < m) (heard-length hearers sender jobs all) h) in
    ap (counts_within (slots + 1)) (heard-at hearers sender jobs all i)
    ∙ by_cases (has hearers (suc i)) (λ q. ap (counts_within (slots + 1)) (chosen (counts_with sender jobs own) own q) ∙ heard-within slots sender jobs own before)
    (λ q. ap (counts_within (slots + 1)) (otherwise (counts_with sender jobs own) own q) ∙ within_more slots (slots + 1) own (omega arith) before))
