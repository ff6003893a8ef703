use Prim.Native.Nat.{ℕ, ◌+◌, ◌<◌}
use mathlib.Core.Path.{◌≡◌, refl, sym, ap, ◌∙◌}
use mathlib.Core.Bool.{and-eq-true_iff}
use mathlib.Core.List.{List, ◌∷◌}
use native.Mathlib.Omega.{arith}
use borrow.Author.Rules.{rules}
use borrow.Author.Tests.{tests}
use lib.Dec.{leb}
use lib.ListN.{length, get_or, drop}
use Rattle.std.proofs.lemmas.List.{at_drop_more, at_drop_all, length_push}
use Rattle.std.proofs.lemmas.Iterator.Consumers.{YieldsList-turn, YieldsList-end}
use Rattle.plan_line.specs.declared.Missed.{Missed}
use Rattle.plan_line.specs.Words.{all_digits, is_number, least_after, value_of, words_of}
use Rattle.plan_line.specs.Plan.{missed_with}
use Rattle.plan_line.proofs.Numbers.{form}
use Rattle.plan_line.proofs.Lists.{rest, rest-start, rest_end, rest-stop, rest-next, joined-capped, split-words}
use Rattle.plan_line.proofs.missing.Goals as goal

pub loop-word-init : goal.loop-word-init
unfolding all_digits
loop-word-init c = (refl, refl, rest-start c.args.n c.args.text.now)

-- what the words that are left say, the next of them split off
next : (n : ℕ) (last : List ℕ) (missed : Missed) (words : List (List ℕ)) (i : ℕ) (word : List ℕ) → (i < length words) × (word ≡ get_or words i word)
    → rest n last missed (drop i words) ≡ rest n last missed (word ∷ drop (i + 1) words)
next n last missed words i word h =
    at_drop_more (rest n last missed) words i word h.0 ∙ ap (λ (w : List ℕ). rest n last missed (w ∷ drop (i + 1) words)) (sym h.1)

pub returns-then-not-follows : goal.returns-then-not-follows
returns-then-not-follows c =
    let t = c.args.text.now in
    let loop = c.loop-word in
    let turn = YieldsList-turn (split-words _ t (cc) (cc) (cc) (λ x b q k. search (rules, tests))) loop.yielded _ loop.yielded_by _ _ c.in-Some.word c.in-Some.is c.next.ensures.steps in
    sym (loop.invariant.2 ∙ next _ _ _ _ _ _ turn ∙ rest-stop _ _ _ _ _ (sym c.follows.ensures ∙ c.if-not-follows.true))

pub loop-word-preserved : goal.loop-word-preserved
loop-word-preserved c =
    let n = c.args.n in
    let t = c.args.text.now in
    let loop = c.loop-word in
    let word = c.in-Some.word.now in
    let last = loop.last.now in
    let turn = YieldsList-turn (split-words _ t (cc) (cc) (cc) (λ x b q k. search (rules, tests))) loop.yielded _ loop.yielded_by _ _ c.in-Some.word c.in-Some.is c.next.ensures.steps in
    let good = sym c.follows.ensures ∙ c.if-not-follows.false in
    let shape = form word ((and-eq-true_iff (is_number word) (leb (least_after last) (value_of word))).0 good).0 in
    let missed : c.missed_with-missed.result ≡ missed_with n loop.missed (value_of word) =
    c.missed_with-missed.ensures ∙ ap (missed_with n loop.missed) c.small_value.ensures ∙ joined-capped n loop.missed (value_of word) in (
      shape.1,
      shape.2,
      loop.invariant.2
          ∙ next _ _ _ _ _ _ turn
          ∙ rest-next n last loop.missed word _ good
          ∙ ap (λ (m : Missed). rest n word m (drop (length loop.yielded + 1) (words_of t))) (sym missed)
          ∙ ap (λ (i : ℕ). rest n word c.missed_with-missed.result (drop i (words_of t))) (sym (length_push loop.yielded c.in-Some.word)),
    )

pub returns : goal.returns
returns c =
    let t = c.args.text.now in
    let loop = c.loop-word in
    let end = YieldsList-end (split-words _ t (cc) (cc) (cc) (λ x b q k. search (rules, tests))) loop.yielded _ loop.yielded_by _ _ c.in-None.is c.next.ensures.steps in
    c.missed_line.ensures ∙ sym (loop.invariant.2 ∙ at_drop_all (rest _ _ _) (words_of t) (length loop.yielded) (omega (arith, end.1)) ∙ rest_end _ _ _)
