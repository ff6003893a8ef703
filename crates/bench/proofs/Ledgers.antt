-- With a ledger and counts a call is the one without them, or it is refused by 13 or 4 (specs/Kept); job byte 0 is never refused. Assumes nothing.
use Prim.Native.Nat.{ℕ, ◌^◌}
use mathlib.Core.Path.{◌≡◌, refl, sym, ap, ◌∙◌}
use mathlib.Core.Logic.{inl, inr}
use mathlib.Core.Bool.{Bool, true, false, true≢false}
use lib.Dec.{eqb, ltb}
use lib.ListN.{length}
use lib.Pow.{pow_pos}
use borrow.Author.Tests.{lt-ltb}
use Rattle.cable.specs.nodeset.Sets.{within}
use Rattle.cable.proofs.nodeset.Tests.{by_cases}
use Rattle.cable.specs.Cable.{cable_with, may_set_up, node_number}
use Rattle.node.specs.message.Message.{jobs_within}
use Rattle.node.specs.node_record.Soundness.{limit}
use Rattle.node.specs.Calls.{is_done}
use Rattle.bench.specs.declared.Command.TheVariants as command
use Rattle.bench.specs.Table.{Table, table_sound, node_count, slots_of}
use Rattle.bench.specs.Calls.{Called, if_passed, set_up_given, slot_of, off_of}
use Rattle.bench.specs.Reports.{reports_fit, jobs_on}
use Rattle.bench.specs.Outcomes.{slot_given}
use Rattle.bench.specs.Ledger.{ledger_fits}
use Rattle.bench.specs.Kept.{set_up_with, slot_with, off_with, OnlyRefuses}

pub only-refuses : OnlyRefuses
unfolding set_up_with slot_with off_with set_up_given slot_given off_of
only-refuses (command.SetUp choices) slots room ledger counts t =
    let cable = cable_with choices slots in
    by_cases (may_set_up cable (length slots))
    (λ a. by_cases (eqb (length counts) cable.n) (λ d. inl (rw (a, d) refl)) (λ d. inr (inr (rw (a, d) refl))))
    (λ a. inl (rw a refl))
only-refuses (command.Off a) slots room ledger counts t =
    by_cases (table_sound t)
    (λ e. by_cases (node_number (node_count t) a)
    (λ h. by_cases (ledger_fits (node_count t) (slots_of t) ledger) (λ f. inl (rw (e, h, f) refl)) (λ f. inr (inl (rw (e, h, f) refl))))
    (λ h. inl (rw (e, h) refl)))
    (λ e. inl (rw e refl))
only-refuses (command.Restart a) slots room ledger counts t = inl refl
only-refuses (command.Slot lost missed jobs) slots room ledger counts t =
    by_cases (table_sound t)
    (λ e. by_cases (reports_fit t counts)
    (λ r. by_cases (within (node_count t) missed)
    (λ h. by_cases (ledger_fits (node_count t) (slots_of t) ledger) (λ f. inl (rw (e, r, h, f) refl)) (λ f. inr (inl (rw (e, r, h, f) refl))))
    (λ h. inl (rw (e, r, h) refl)))
    (λ r. inr (inr (rw (e, r) refl))))
    (λ e. inl (rw e refl))
only-refuses (command.Look lost) slots room ledger counts t = inl refl

-- job byte 0 has no spare bit: the slot given it is the slot of demand 3
pub given-none : (lost : Bool) (missed room : ℕ) (t : Table) → slot_given lost missed 0 room t ≡ slot_of lost missed room t
unfolding slot_given slot_of
given-none lost missed room t =
    by_cases (table_sound t)
    (λ e. by_cases (within (node_count t) missed)
    (λ h. by_cases (ltb (slots_of t) limit) (λ l. rw (e, h, l, none) refl) (λ l. rw (e, h, l) refl))
    (λ h. rw (e, h) refl))
    (λ e. rw e refl)
  where
    none : jobs_within (jobs_on t) 0 ≡ true
    none = lt-ltb 0 (2 ^ jobs_on t) (pow_pos (jobs_on t))

-- ---- a call that is made

-- the test is passed, and it is the call after it
pub past : (b : Bool) (number : ℕ) (t : Table) (c : Called) → is_done (if_passed b number t c).answer ≡ true → if_passed b number t c ≡ c
past true number t c e = refl
past false number t c e = absurd (true≢false (sym e))

pub after : (b : Bool) (number : ℕ) (t : Table) (c : Called) → is_done (if_passed b number t c).answer ≡ true → is_done c.answer ≡ true
after b number t c e = sym (ap (λ (x : Called). is_done x.answer) (past b number t c e)) ∙ e

-- a slot that is made is the one without the job byte
pub given_made : (lost : Bool) (missed jobs room : ℕ) (t : Table) → is_done (slot_given lost missed jobs room t).answer ≡ true → slot_given lost missed jobs room t ≡ slot_of lost missed room t
unfolding slot_given
given_made lost missed jobs room t e =
    let e₁ = after (table_sound t) 4 t _ e in
    let e₂ = after (within (node_count t) missed) 3 t _ e₁ in
    let e₃ = after (ltb (slots_of t) limit) 5 t _ e₂ in
    past (table_sound t) 4 t _ e ∙ past (within (node_count t) missed) 3 t _ e₁ ∙ past (ltb (slots_of t) limit) 5 t _ e₂ ∙ past (jobs_within (jobs_on t) jobs) 8 t _ e₃
