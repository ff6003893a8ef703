-- Plans for the bench (document 01, "The bench program"), the first line first, over the lag (document 02, j): one in which the premises of demand 3 are met, and for each premise one that
-- breaks it alone. `4 2` is n and k without lag, `5 2 1` are n, k and the lag.
use Rattle.std.specs.Prelude.{ℕ, ◌+◌, ◌-◌, ◌*◌, false, List, ◌∷◌, ◌++◌, replicate}
use Rattle.agreement.specs.nodeset.Sets.{with}
use Rattle.agreement.specs.bench.Runs.{Call, slot, off, restart}
use Rattle.agreement.specs.bench.Plans.{ok, lost}

-- Lines `miss a` and `miss a b`.
abbrev pub misses : ℕ → Call
misses a = slot false (with 0 a) 64

abbrev pub both_miss : ℕ → ℕ → Call
both_miss a b = slot false (with (with 0 a) b) 64

-- `5 2` and `5 2 1`: the message of the second node, which is node 2 with the plain slot table, is lost in slot 2, and it leaves in slot 4, with lag 1 in slot 5.
abbrev pub departure : ℕ → List Call
departure lag = ok ∷ lost ∷ replicate (2 + lag) ok

-- It, node x, is restarted, follows after slot 14 (15), knocks in slot 17 and joins in slot 21.
abbrev pub return : ℕ → ℕ → List Call
return x lag = departure lag ++ (restart x ∷ replicate (17 - lag) ok)

-- `4 2` and `5 2 1`: 2 failures in n slots. Both sponsors of node 1, nodes 2 and 3 (3 and 4), miss its message; in slot 3 (4) node 1 leaves, its sponsors hold the others, and node 4 (2 and 5) all.
abbrev pub two_miss : ℕ → List Call
two_miss lag = both_miss (2 + lag) (3 + lag) ∷ replicate (2 + lag) ok

-- `5 2` and `6 2 1`: two transmissions from outside the list in n slots. Nodes 1 and 2 leave and follow after slot 19 (23); the knock of 1 in slot 21 (25) is lost, 2 has heard nothing and
-- knocks in the next slot; in slot 25 (30) node 1 holds all but 2, the others all but 1.
abbrev pub two_knocks : ℕ → List Call
two_knocks lag =
    lost ∷ replicate (5 + lag) ok ++ (lost ∷ replicate (2 + lag) ok ++ (restart 1 ∷ restart 2 ∷ (replicate (11 + 2 * lag) ok ++ (lost ∷ replicate (4 + lag) ok))))

-- `4 3` and `5 3 1`: the list is all but node 1, k and the lag. In slot 16 (20) the last node decides 2 with ks = 2; 3 and 4 (4 and 5), which missed its message, drop it, but 1, which heard it, joins
-- with all.
abbrev pub one_fewer : ℕ → List Call
one_fewer lag = lost ∷ replicate (3 + lag) ok ++ (restart 1 ∷ (replicate (9 + 2 * lag) ok ++ (both_miss (3 + lag) (4 + lag) ∷ replicate (2 + lag) ok)))

-- `4 3` and `5 3 1`: in slot 4 (5) nodes 1 and 2 leave, 2 at the second departure; on {3,4} there is no third member after 2, on {3,4,5} no fourth, so that no deciding slot comes within n - 1 slots.
abbrev pub none_to_decide : ℕ → List Call
none_to_decide lag = lost ∷ lost ∷ replicate (3 + lag) ok

-- `5 3` and `6 3 1`: node 1 leaves in slot 4 (5), follows after slot 14 (17) and knocks in slot 16 (19). In slot 19 (23) node 4 (5) decides the last node, whose message of slot 15 (18) was lost: three (four)
-- are left until node 1 joins, and node 4 (5) decides node 2 as well, whose message of slot 17 (20) was lost. By the rule before request f node 2 stays until slot 21 (25).
abbrev pub two_at_once : ℕ → List Call
two_at_once lag = lost ∷ replicate (3 + lag) ok ++ (restart 1 ∷ (replicate (10 + 2 * lag) ok ++ (lost ∷ ok ∷ lost ∷ replicate (2 + lag) ok)))

-- `4 2` and `5 2 1`: node 1 misses node 2 (3) in both windows, follows {3,4} ({2,4,5}), knocks in slot 9 (11) and joins in slot 12 (15) without it.
abbrev pub misses_twice : ℕ → List Call
misses_twice lag = off 1 ∷ restart 1 ∷ (replicate (1 + lag) ok ++ (misses 1 ∷ replicate (3 + lag) ok ++ (misses 1 ∷ replicate (6 + lag) ok)))
