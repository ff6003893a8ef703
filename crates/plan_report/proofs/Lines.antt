-- What a line and a byte do, test by test (specs/Report, specs/Calls). Assumes nothing.
use Prim.Native.Nat.{ℕ}
use mathlib.Core.Path.{◌≡◌, refl}
use mathlib.Core.Bool.{true, false}
use mathlib.Core.List.{List, []}
use borrow.Author.Tests.{eq-eqb, ne_eqb}
use lib.Dec.{eqb}
use Rattle.nodeset.proofs.Tests.{by_cases}
use Rattle.plan_program.specs.Calls.{bytes_in, plan_sound}
use Rattle.plan_program.proofs.Sound.{sound-line}
use Rattle.plan_report.specs.declared.Report.{Report}
use Rattle.plan_report.specs.declared.Tally.{Tally}
use Rattle.plan_report.specs.Report.{is_next}
use Rattle.plan_report.specs.Tallies.{after_line_in, end_text, line_done, line_text, plan_ended}
use Rattle.plan_report.specs.Calls.{after_byte, byte_text, line_ended, with_byte}

-- ---- a line

module _ (t : Tally) (line : List ℕ) where
  pub next-text : is_next line ≡ true → line_text t line ≡ end_text t false
  unfolding line_text
  next-text e = simp e

  pub no_text : is_next line ≡ false → line_text t line ≡ []
  unfolding line_text
  no_text e = simp e

  pub next-ends : is_next line ≡ true → after_line_in t line ≡ plan_ended t false
  unfolding after_line_in
  next-ends e = simp e

  pub goes-on : is_next line ≡ false → after_line_in t line ≡ line_done t line
  unfolding after_line_in
  goes-on e = simp e

-- ---- a byte

module _ (r : Report) (byte : ℕ) where
  pub no_end : (byte ≡ 10 → ⊥) → (after_byte r byte ≡ record { tally = r.tally; part = with_byte r.part byte }) × (byte_text r byte ≡ [])
  unfolding after_byte byte_text
  no_end h = (simp (ne_eqb byte 10 h), simp (ne_eqb byte 10 h))

  pub an-end : byte ≡ 10 → (after_byte r byte ≡ line_ended r) × (byte_text r byte ≡ line_text r.tally (bytes_in r.part))
  unfolding after_byte byte_text
  an-end h = (simp (eq-eqb byte 10 h), simp (eq-eqb byte 10 h))

-- ---- a plan that can go on

module _ (t : Tally) (sound : plan_sound t.plan ≡ true) where
  pub sound-after : (line : List ℕ) → plan_sound (after_line_in t line).plan ≡ true
  unfolding after_line_in plan_sound
  sound-after line = by_cases (is_next line) (λ e. rw e refl) (λ e. rw e (sound-line t.plan line sound))

pub sound-byte : (r : Report) (byte : ℕ) → plan_sound r.tally.plan ≡ true → plan_sound (after_byte r byte).tally.plan ≡ true
unfolding after_byte
sound-byte r byte sound = by_cases (eqb byte 10) (λ e. rw e (sound-after r.tally sound (bytes_in r.part))) (λ e. rw e sound)
