-- Document 02, request k: "With the plain table 1 to n everything is as now." Demand 3's own walk, to the members after a node, as it was before the slot table, by node numbers, and that with the plain
-- table it is the same. (ring_laws' specs/Before says it of what the rules ask of the ring.)
use Rattle.std.specs.Prelude.{ℕ, zero, suc, ◌-◌, ◌≡◌, true, cond, ◌&&◌, eqb}
use Rattle.bench.specs.nodeset.Sums.{num}
use Rattle.bench.specs.nodeset.Sets.{has}
use Rattle.bench.specs.slot_table.Order.{plain}
use Rattle.bench.specs.cable.declared.Cable.{Cable}
use Rattle.bench.specs.cable.Cable.{ring_size, node_number}
use Rattle.agreement.specs.Demand.{next, member_after}

-- The j-th member met from node x onwards, in at most `left` slots, where the node after x is `next n x`; 0 where there is none.
unfoldable pub onwards_by_number : ℕ → ℕ → ℕ → ℕ → ℕ → ℕ
onwards_by_number zero n set x j = 0
onwards_by_number (suc left) n set x j =
    let p = next n x in
    cond (has set p && eqb j 1) p (onwards_by_number left n set p (j - num (has set p)))

-- "The k-th member after that node, round the ring": the j-th.
abbrev pub after_by_number : ℕ → ℕ → ℕ → ℕ → ℕ
after_by_number n set x j = onwards_by_number n n set x j

abbrev pub AfterAsBefore : Type 0
AfterAsBefore =
    (cable : Cable) → ring_size cable.n ≡ true → cable.order ≡ plain cable.n
    → (set x j : ℕ) → node_number cable.n x ≡ true → member_after cable set x j ≡ after_by_number cable.n set x j
