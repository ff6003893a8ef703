-- What set-up chooses for the whole cable (document 01, "The ring"): n and k, and of document 02 the number of jobs m (h), the lag (j) and the slot table (k); which choices are in range, and by which number the others are refused.
use Rattle.std.specs.Prelude.{ℕ, ◌+◌, ◌-◌, Bool, cond, ◌&&◌, List, eqb, leb}
use Rattle.slot_table.specs.Order.{is_kept, kept, plain, same_order}
use Rattle.cable.specs.declared.Choices.{Choices}
use Rattle.cable.specs.declared.Cable.{Cable}

-- The cable with these choices and the plain table.
abbrev pub plain_cable : Choices → Cable
plain_cable choices = record { n = choices.n; k = choices.k; m = choices.m; lag = choices.lag; order = plain choices.n }

-- With these numbers and no jobs: with this lag, and without.
abbrev pub lagging_cable : ℕ → ℕ → ℕ → Cable
lagging_cable n k lag = plain_cable (record { n = n; k = k; m = 0; lag = lag })

abbrev pub cable_of : ℕ → ℕ → Cable
cable_of n k = lagging_cable n k 0

-- With these choices and the slot table as it is given.
abbrev pub cable_with : Choices → List ℕ → Cable
cable_with choices slots = record { n = choices.n; k = choices.k; m = choices.m; lag = choices.lag; order = kept slots }

-- The same choices.
abbrev pub same_cable : Cable → Cable → Bool
same_cable a b = eqb a.n b.n && (eqb a.k b.k && (eqb a.m b.m && (eqb a.lag b.lag && same_order a.order b.order)))

-- "n nodes are numbered 1 to n, n from 3 to 32."
abbrev pub ring_size : ℕ → Bool
ring_size n = leb 3 n && leb n 32

abbrev pub node_number : ℕ → ℕ → Bool
node_number n x = leb 1 x && leb x n

-- "A lag of 0 or 1 is chosen for the whole cable" (j).
abbrev pub lag_fits : ℕ → Bool
lag_fits lag = leb lag 1

-- "k is from 2 to n - 1"; "k is at most n - 1 less the lag" (j).
abbrev pub sponsor_count : Cable → Bool
sponsor_count cable = leb 2 cable.k && leb cable.k (cable.n - (1 + cable.lag))

-- "The number of jobs m, 0 to 8" (h).
abbrev pub job_count : ℕ → Bool
job_count m = leb m 8

-- Every choice is in range.
abbrev pub cable_fits : Cable → Bool
cable_fits cable = ring_size cable.n && (lag_fits cable.lag && (sponsor_count cable && (job_count cable.m && is_kept cable.n cable.order)))

-- At set-up the slot table is given with n places.
abbrev pub may_set_up : Cable → ℕ → Bool
may_set_up cable places = cable_fits cable && eqb places cable.n

-- The number of the first test that fails at set-up, where one does: 1, "16, after 1" (document 02, j), 2, "14, after 2" (h), "table of the wrong length: 17, after 14", "a node missing or doubled: 18, next" (k).
abbrev pub fault_of : Cable → ℕ → ℕ
fault_of cable places =
    cond (ring_size cable.n)
    (cond (lag_fits cable.lag)
    (cond (sponsor_count cable) (cond (job_count cable.m) (cond (eqb places cable.n) 18 17) 14) 2)
    16)
    1
