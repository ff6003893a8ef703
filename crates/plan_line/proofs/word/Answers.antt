-- `plan_line::word` meets its contract: at each `return` the comparisons that led there say which case of `word_of` holds.
-- Assumes nothing.
use Rattle.std.proofs.Common.{rules}
use mathlib.Core.Path.{sym, ap, ◌∙◌}
use Rattle.plan_line.specs.Plan.{miss_word, missing_of, named_of, off_line, off_word, on_line, on_word, word_of}
use Rattle.plan_line.proofs.Words.{stripped}
use Rattle.plan_line.proofs.word.Goals as goal

pub returns-then-same : goal.returns-then-same
unfolding word_of
returns-then-same c = simp (sym c.same.ensures ∙ c.if-same.true)

pub returns-then-same-2 : goal.returns-then-same-2
unfolding word_of
returns-then-same-2 c = simp (sym c.same.ensures ∙ c.if-same.false, sym c.same-2.ensures ∙ c.if-same-2.true)

pub returns-in-Some : goal.returns-in-Some
unfolding word_of
returns-in-Some c =
    simp (sym c.same.ensures ∙ c.if-same.false, sym c.same-2.ensures ∙ c.if-same-2.false, sym (stripped miss_word c.args.line.now) ∙ c.in-Some.ensures.cases.0)
    (c.missing.ensures ∙ ap (missing_of c.args.n) c.in-Some.ensures.cases.1)

pub returns-in-Some-strip_prefix : goal.returns-in-Some-strip_prefix
unfolding word_of
returns-in-Some-strip_prefix c =
    simp (sym c.same.ensures ∙ c.if-same.false, sym c.same-2.ensures ∙ c.if-same-2.false, sym (stripped miss_word c.args.line.now) ∙ c.in_default.ensures.cases, sym (stripped off_word c.args.line.now) ∙ c.in-Some-strip_prefix.ensures.cases.0)
    (search rules ∙ ap off_line (c.node_named.ensures ∙ ap (named_of c.args.n) c.in-Some-strip_prefix.ensures.cases.1))

pub returns-in-Some-strip_prefix-2 : goal.returns-in-Some-strip_prefix-2
unfolding word_of
returns-in-Some-strip_prefix-2 c =
    simp (sym c.same.ensures ∙ c.if-same.false, sym c.same-2.ensures ∙ c.if-same-2.false, sym (stripped miss_word c.args.line.now) ∙ c.in_default.ensures.cases, sym (stripped off_word c.args.line.now) ∙ c.in_default-strip_prefix.ensures.cases, sym (stripped on_word c.args.line.now) ∙ c.in-Some-strip_prefix-2.ensures.cases.0)
    (search rules ∙ ap on_line (c.node_named-in-Some-strip_prefix-2.ensures ∙ ap (named_of c.args.n) c.in-Some-strip_prefix-2.ensures.cases.1))

pub returns : goal.returns
unfolding word_of
returns c =
    simp (sym c.same.ensures ∙ c.if-same.false, sym c.same-2.ensures ∙ c.if-same-2.false, sym (stripped miss_word c.args.line.now) ∙ c.in_default.ensures.cases, sym (stripped off_word c.args.line.now) ∙ c.in_default-strip_prefix.ensures.cases, sym (stripped on_word c.args.line.now) ∙ c.in_default-strip_prefix-2.ensures.cases)
