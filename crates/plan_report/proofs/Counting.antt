-- Counting members row by row (specs/Figures). Assumes nothing.
use Prim.Native.Nat.{ℕ, ◌+◌, ◌≤◌}
use mathlib.Core.Path.{◌≡◌, refl, sym, ◌∙◌}
use mathlib.Core.Bool.{Bool, true, false, cond}
use mathlib.Core.List.{List}
use native.Mathlib.Omega.{arith}
use lib.ListN.{length}
use Rattle.std.specs.List.{filter}
use Rattle.std.proofs.lemmas.List.Recursion.{is_count_by}
use Rattle.std.proofs.lemmas.List.Sums.{length-filter}
use Rattle.nodeset.specs.Sums.{num}
use Rattle.node_record.specs.declared.Held.{Held}
use Rattle.node_record.specs.States.{is_member}
use Rattle.bench.specs.Held.{setted_all}
use Rattle.plan_report.specs.Figures.{members_in}

pub num-few : (b : Bool) → num b ≤ 1
num-few true = omega arith
num-few false = omega arith

num-more : (b : Bool) (n : ℕ) → num b + n ≡ cond b (1 + n) n
num-more true n = refl
num-more false n = omega arith

pub members-kept : (rows : List Held) → length (filter (λ (v : Held). is_member v.state) rows) ≡ members_in (setted_all rows)
unfolding members_in
members-kept rows =
    length-filter (λ (v : Held). is_member v.state) rows
    ∙ sym (is_count_by (λ (vs : List Held). members_in (setted_all vs)) (λ (v : Held). is_member v.state) refl (λ v vs. num-more (is_member v.state) (members_in (setted_all vs))) rows)
