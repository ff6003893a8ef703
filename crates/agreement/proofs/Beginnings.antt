-- What a run says of each of its beginnings: what a slot was stays, no slot is decided before it runs, and the premises hold. Assumes nothing.
use Prim.Native.Nat.{ℕ, suc, ◌+◌, ◌≤◌, ◌<◌}
use mathlib.Core.Path.{◌≡◌, refl, ap, ◌∙◌}
use mathlib.Core.Bool.{Bool, true, false, ◌&&◌, and-false}
use mathlib.Core.List.{List, [], ◌∷◌}
use native.Mathlib.Omega.{arith}
use native.Mathlib.Decide.{dec_le}
use lib.Dec.{eqb, leb}
use borrow.Author.Tests.{lt-leb, ne_eqb}
use Rattle.bench.specs.nodeset.Sums.{num}
use Rattle.bench.proofs.nodeset.Tests.{otherwise}
use Rattle.bench.proofs.nodeset.Sums.{sum-le}
use Rattle.bench.specs.cable.declared.Cable.{Cable}
use Rattle.bench.specs.Table.{Table, slots_of}
use Rattle.bench.specs.Runs.{Call, table_after, is_slot, Entry, no_entry, entry_on, entry}
use Rattle.agreement.specs.Demand.{AtEach, AfterEach, Premises, is_deciding, deciding_ran}
use Rattle.agreement.proofs.Past.{new_past, past}
use Rattle.agreement.proofs.History.{num-is}
use Rattle.bench.proofs.Places.{Placed}
use Rattle.bench.proofs.Runs.{slots_next}
use Rattle.agreement.proofs.Entries.{past-old, past-new}

-- the calls cs are a beginning of all the calls
pub data Beginning (all : List Call) : List Call → Type 0 where
  whole : Beginning all all
  shorter : {c : Call} {cs : List Call} → Beginning all (c ∷ cs) → Beginning all cs

-- what holds after each call holds after the last
pub at-end : (P : List Call → Type 0) (cs : List Call) → AfterEach P cs → P cs
unfolding AtEach
at-end P [] h = h.0
at-end P (c ∷ cs) h = h.1.1

-- ---- the entries of any run whose tables count the slots

module _ (run : List Call → Table) (next : (c : Call) (cs : List Call) → slots_of (run (c ∷ cs)) ≡ slots_of (run cs) + num (is_slot c (run cs))) where
  -- the last call is not slot u
  on-other : (c : Call) (cs : List Call) (u : ℕ) → (u ≡ slots_of (run cs) + 1 → ⊥) → entry_on run (c ∷ cs) u ≡ entry_on run cs u
  unfolding entry_on
  on-other c cs u h = otherwise _ _ (ap (λ (b : Bool). is_slot c (run cs) && b) (ne_eqb u (slots_of (run cs) + 1) h) ∙ and-false (is_slot c (run cs)))

  -- a slot that did not run
  pub on-later : (cs : List Call) (u : ℕ) → slots_of (run cs) < u → entry_on run cs u ≡ no_entry
  unfolding entry_on
  on-later [] u h = refl
  on-later (c ∷ cs) u h = go (is_slot c (run cs)) refl (on-later cs u (omega (arith, next c cs)))
    where
      go : (b : Bool) → is_slot c (run cs) ≡ b → entry_on run cs u ≡ no_entry → entry_on run (c ∷ cs) u ≡ no_entry
      go false e r = otherwise _ _ (ap (λ (b : Bool). b && eqb u (slots_of (run cs) + 1)) e) ∙ r
      go true e r = on-other c cs u (λ z. omega (arith, next c cs, num-is e)) ∙ r

  -- whatever a slot that did not run has none of, the calls so far have no more of than one call more
  pub no-more-on : (c : Call) (cs : List Call) (f : Entry → ℕ) → f no_entry ≡ 0 → (u : ℕ) → f (entry_on run cs u) ≤ f (entry_on run (c ∷ cs) u)
  no-more-on c cs f z u = go (dec_le u (slots_of (run cs)))
    where
      go : Dec (u ≤ slots_of (run cs)) → f (entry_on run cs u) ≤ f (entry_on run (c ∷ cs) u)
      go (yes h) = omega (arith, ap f (on-other c cs u (λ y. omega arith)))
      go (no h) = omega (arith, ap f (on-later cs u (omega arith)))

  -- and so of each beginning
  pub no_more_of : (all cs : List Call) → Beginning all cs → (f : Entry → ℕ) → f no_entry ≡ 0 → (u : ℕ) → f (entry_on run cs u) ≤ f (entry_on run all u)
  no_more_of all cs whole f z u = omega arith
  no_more_of all cs (shorter {c = c} b) f z u = omega (arith, no-more-on c cs f z u, no_more_of all (c ∷ cs) b f z u)

-- ---- a call: the slot counts, and the table

module _ (cable : Cable) (pos : 1 ≤ cable.n) (start : Table) (begins : Placed cable 0 start) where
  open cable use {n}

  pub past-stable : (all cs : List Call) → Beginning all cs → (u : ℕ) → u ≤ slots_of (table_after start cs) → past start all u ≡ past start cs u
  past-stable all cs whole u h = refl
  past-stable all cs (shorter {c = c} b) u h = past-stable all (c ∷ cs) b u (omega (arith, slots_next cable pos start begins c cs)) ∙ past-old start c cs u h

  pub past-here : (all : List Call) (c : Call) (cs : List Call) → Beginning all (c ∷ cs) → is_slot c (table_after start cs) ≡ true
      → past start all (slots_of (table_after start cs) + 1) ≡ new_past c (table_after start cs)
  past-here all c cs b e =
      past-stable all (c ∷ cs) b (slots_of (table_after start cs) + 1) (omega (arith, slots_next cable pos start begins c cs, num-is e)) ∙ past-new start c cs e

  -- deciding_ran looks only at slots after s
  pub decided-later : (s : ℕ) (cs : List Call) → slots_of (table_after start cs) < s → deciding_ran cable start s cs ≡ false
  unfolding deciding_ran is_deciding
  decided-later s [] h = refl
  decided-later s (c ∷ cs) h =
      let l : slots_of (table_after start cs) < s = omega (arith, slots_next cable pos start begins c cs) in
      let a : deciding_ran cable start s cs ≡ false = decided-later s cs l in
      let b : leb s (slots_of (table_after start cs)) ≡ false = lt-leb s (slots_of (table_after start cs)) l in
      rw (a, b) (never (is_slot c (table_after start cs)))
    where
      never : (x : Bool) → (x && false) ≡ false
      never true = refl
      never false = refl

  -- ---- the premises of each beginning

  -- whatever a slot that did not run has none of, the calls so far have no more of than one call more
  no_more : (c : Call) (cs : List Call) (f : Entry → ℕ) → f no_entry ≡ 0 → (u : ℕ) → f (entry start cs u) ≤ f (entry start (c ∷ cs) u)
  no_more c cs f z u = no-more-on (table_after start) (slots_next cable pos start begins) c cs f z u

  one-call-less : (c : Call) (cs : List Call) → Premises cable start (c ∷ cs) → Premises cable start cs
  unfolding AtEach
  one-call-less c cs p = record {
    few-failures = λ a. omega (arith, p.few-failures a, sum-le (λ u. (entry start cs u).failures) (λ u. (entry start (c ∷ cs) u).failures) (suc a) n (λ u _ _. no_more c cs (λ e. e.failures) refl u));
    one_outside = λ a. omega (arith, p.one_outside a, sum-le (λ u. num (entry start cs u).outside) (λ u. num (entry start (c ∷ cs) u).outside) (suc a) n (λ u _ _. no_more c cs (λ e. num e.outside) refl u));
    list-kept = p.list-kept.0;
    all-heard = p.all-heard.0;
  }

  -- what the premises of the calls up to one say of it, they say of each call of a sequence
  pub at_each : (P : Call → List Call → Type 0) → ((c : Call) (cs : List Call) → Premises cable start (c ∷ cs) → P c cs) → (cs : List Call) → Premises cable start cs → AtEach P cs
  unfolding AtEach
  at_each P h [] p = tt
  at_each P h (c ∷ cs) p = (at_each P h cs (one-call-less c cs p), h c cs p)

  pub after-each : (P : List Call → Type 0) → ((cs : List Call) → Premises cable start cs → P cs) → (cs : List Call) → Premises cable start cs → AfterEach P cs
  after-each P h cs p = (h [] (at-start cs p), at_each (λ c before. P (c ∷ before)) (λ c before q. h (c ∷ before) q) cs p)
    where
      at-start : (cs : List Call) → Premises cable start cs → Premises cable start []
      at-start [] q = q
      at-start (c ∷ cs) q = at-start cs (one-call-less c cs q)
