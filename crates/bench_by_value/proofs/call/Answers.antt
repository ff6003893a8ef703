-- The table is the first n rows, and the rows after it stand: of 32 rows the first `min n 32` are the first n.
use Rattle.std.proofs.Common.{◌≡◌, ℕ, List, ◌++◌, min, length, take, drop, ap, sym, ◌∙◌, arith}
use Rattle.std.proofs.lemmas.List.{take_min, drop_min}
use Rattle.node_record.specs.declared.Held.{Held}
use Rattle.bench.specs.node_reports.Reports.{Counts}
use Rattle.bench.specs.declared.Command.{Command}
use Rattle.bench.specs.declared.Reply.{Reply}
use Rattle.bench.specs.Kept.{bytes_with}
use Rattle.bench.specs.Ledger.{Ledger}
use Rattle.bench.specs.Held.{KeptHeld, setted_all, kept_held}
use Rattle.bench_by_value.specs.declared.Ran.{Ran}
use Rattle.bench_by_value.specs.ByValue.{ended, table_of, call_with}
use Rattle.bench_by_value.proofs.call.Goals as goal

-- the rows, the ledger and the counts, from what the bench left
ran : (n m : ℕ) (c : Command) (slots : List ℕ) (room : ℕ) (ledger ls : Ledger) (counts cs : List Counts) (rows left : List Held) (r : Reply) (x : Ran) → length rows ≡ 32 → m ≡ min n 32
    → x ≡ record { rows = left ++ drop m rows; outcome = r.outcome; pairs = r.pairs } → record { table = left; ledger = ls; counts = cs; reply = r } ≡ kept_held c slots room ledger counts (take m rows)
    → (x, ls, cs) ≡ call_with n c slots room ledger counts rows
unfolding call_with
ran n m c slots room ledger ls counts cs rows left r x len is-m is-x is-kept =
    let few : m ≡ min n (length rows) = is-m ∙ ap (min n) (sym len) in
    let same : drop m rows ≡ drop n rows = ap (λ (k : ℕ). drop k rows) few ∙ drop_min n rows in
    let first : take m rows ≡ take n rows = ap (λ (k : ℕ). take k rows) few ∙ take_min n rows in
    ap (λ (y : Ran). (y, ls, cs)) is-x ∙ ap (λ (after : List Held). (record { rows = left ++ after; outcome = r.outcome; pairs = r.pairs }, ls, cs)) same
    ∙ ap (λ (k : KeptHeld). (ended n rows k.table k.reply, k.ledger, k.counts)) (is-kept ∙ ap (kept_held c slots room ledger counts) first)

-- the pairs
pairs-told : (n m : ℕ) (c : Command) (slots : List ℕ) (ledger : Ledger) (counts : List Counts) (rows : List Held) (out ws : List ℕ) → length rows ≡ 32 → m ≡ min n 32
    → ws ≡ bytes_with c slots ledger counts (setted_all (take m rows)) out → ws ≡ bytes_with c slots ledger counts (table_of n rows) out
pairs-told n m c slots ledger counts rows out ws len is-m is =
    let few : m ≡ min n (length rows) = is-m ∙ ap (min n) (sym len) in
    is ∙ ap (λ (ys : List Held). bytes_with c slots ledger counts (setted_all ys) out) (ap (λ (k : ℕ). take k rows) few ∙ take_min n rows)

pub returns : goal.returns
returns c =
    let len : length c.args.rows ≡ 32 = omega arith in (
      ran c.args.n c.size-size.result c.args.command c.args.slots.now (length c.args.pairs.now) c.args.ledger.now c.call-reply.new.ledger c.args.counts.now c.call-reply.new.counts c.args.rows c.call-reply.new.table c.call-reply.result c.told.result
          len c.size-size.ensures c.told.ensures c.call-reply.ensures.0,
      pairs-told c.args.n c.size-size.result c.args.command c.args.slots.now c.args.ledger.now c.args.counts.now c.args.rows c.args.pairs.now c.call-reply.new.pairs len c.size-size.ensures c.call-reply.ensures.1,
    )
