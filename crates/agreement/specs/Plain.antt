-- Request j: "The agreement is to be shown once for both lags." Of a cable without lag it is the demand of document 01, whose words each definition of it then has that request j changed.
use Rattle.std.specs.Prelude.{ℕ, ◌+◌, ◌-◌, ◌≤◌, min, ◌≡◌, true, cond, ◌&&◌, List, ◌∷◌, eqb, leb, length, None}
use Rattle.bench.specs.nodeset.Sets.{size}
use Rattle.bench.specs.slot_table.Order.{is_kept}
use Rattle.bench.specs.cable.declared.Cable.{Cable}
use Rattle.bench.specs.cable.Cable.{ring_size, job_count}
use Rattle.bench.specs.ring.Ring.{sender, ks, member_before, sponsors, sponsored}
use Rattle.bench.specs.Table.{Table, slots_of, speaker}
use Rattle.bench.specs.Calls.{set_up_of}
use Rattle.bench.specs.Runs.{Call, is_slot, list_of, table_after}
use Rattle.agreement.specs.Demand.{member_after, KeepsListOn, is_deciding, Premises, Claims}

module _ (n k m : ℕ) (order : List ℕ) where
  -- A cable without lag, whatever its slot table.
  abbrev pub plain : Cable
  plain = record { n = n; k = k; m = m; lag = 0; order = order }

  pub record Plain : Type 1 where
    -- "With c members, ks is the smaller of k and c - 1."
    pub ks-is : (c : ℕ) → ks plain c ≡ min k (c - 1)
    -- "A member sponsors the ks members before it": the j-th of those.
    pub sponsored-is : (set x j : ℕ) → sponsored plain set x j ≡ cond (leb 1 j && leb j (sponsors plain set)) (member_before plain set x j) None
    -- "It keeps k + 1 members if .. its set holds that many as each slot begins and as it ends."
    pub keeps-is : (run : List Call → Table) (c : Call) (cs : List Call)
        → KeepsListOn plain run c cs ≡ (is_slot c (run cs) ≡ true → (k + 1 ≤ size n (list_of (run cs))) × (k + 1 ≤ size n (list_of (run (c ∷ cs)))))
    -- "Its deciding slot is the first whose sender is the k-th member after that node .. on the list as that slot begins."
    pub deciding-is : (start : Table) (s : ℕ) (c : Call) (cs : List Call)
        → is_deciding plain start s c cs
        ≡ (is_slot c (table_after start cs) && (leb s (slots_of (table_after start cs)) && eqb (member_after plain (list_of (table_after start cs)) (sender plain s) k) (speaker (table_after start cs))))
    -- "n from 3 to 32", "k is from 2 to n - 1": demand 3.
    pub demand : ring_size n ≡ true → 2 ≤ k → k ≤ n - 1 → job_count m ≡ true → is_kept n order ≡ true → (lent : Table) → length lent ≡ n
        → (cs : List Call) → Premises plain (set_up_of plain lent).table cs → Claims plain (set_up_of plain lent).table cs

abbrev pub Demand3Plain : Type 1
Demand3Plain = (n k m : ℕ) (order : List ℕ) → Plain n k m order
