-- What a slot was, as the proof needs it: its entry (bench's specs/Runs), and the member-state nodes that missed it. Assumes nothing.
use Prim.Native.Nat.{ℕ, ◌+◌}
use mathlib.Core.Path.{◌≡◌, refl}
use mathlib.Core.Bool.{Bool, true, false, cond, not, ◌&&◌}
use mathlib.Core.List.{List, [], ◌∷◌}
use lib.Dec.{eqb}
use Rattle.bench.specs.Table.{Table, slots_of}
use Rattle.bench.specs.Calls.{transmits}
use Rattle.bench.specs.Runs.{Call, slot, off, restart, table_after, is_slot, is_listed, misses, failures_in, Entry, new_entry, entry_on, entry}

pub record Past : Type 0 where
  pub listed : Bool
  pub sent : Bool
  pub outside : Bool
  pub missed : ℕ → Bool
  pub failures : ℕ

abbrev pub past_of : Bool → ℕ → Table → Past
past_of lost missed t = record {
  listed = is_listed t;
  sent = transmits t && not lost;
  outside = transmits t && not (is_listed t);
  missed = misses lost missed t;
  failures = failures_in lost missed t;
}

abbrev pub no_past : Past
no_past = record { listed = true; sent = true; outside = false; missed = λ i. false; failures = 0 }

abbrev pub new_past : Call → Table → Past
new_past (slot lost missed room) t = past_of lost missed t
new_past (off a) t = no_past
new_past (restart a) t = no_past

unfoldable pub past : Table → List Call → ℕ → Past
past start [] u = no_past
past start (c ∷ cs) u =
    cond (is_slot c (table_after start cs) && eqb u (slots_of (table_after start cs) + 1))
    (new_past c (table_after start cs))
    (past start cs u)

-- ---- its entry

abbrev pub entry_in : Past → Entry
entry_in p = record { listed = p.listed; sent = p.sent; outside = p.outside; failures = p.failures }

new_is : (c : Call) (t : Table) → new_entry c t ≡ entry_in (new_past c t)
new_is (slot lost missed room) t = refl
new_is (off a) t = refl
new_is (restart a) t = refl

pub entry-is : (start : Table) (cs : List Call) (u : ℕ) → entry start cs u ≡ entry_in (past start cs u)
unfolding entry_on past
entry-is start [] u = refl
entry-is start (c ∷ cs) u = go (is_slot c (table_after start cs) && eqb u (slots_of (table_after start cs) + 1)) (entry-is start cs u)
  where
    go : (b : Bool) → entry start cs u ≡ entry_in (past start cs u) → cond b (new_entry c (table_after start cs)) (entry start cs u) ≡ entry_in (cond b (new_past c (table_after start cs)) (past start cs u))
    go true e = new_is c (table_after start cs)
    go false e = e
