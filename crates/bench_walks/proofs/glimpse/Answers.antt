-- Each record read stands within the table, so that it is the one which `record_in` names, whatever stands for a record past the end.
use Rattle.std.proofs.Common.{◌≡◌, ◌≤◌, ℕ, List, length, get_or, refl, ap, ◌∙◌}
use Rattle.std.proofs.lemmas.List.{get_or_default}
use Rattle.node_record.specs.declared.Held.{Held}
use Rattle.bench_orders.specs.Survey.{no_held, index_of, record_in, sender_after, glimpsed, glimpse_of}
use Rattle.bench_orders.specs.declared.Survey.{Survey}
use Rattle.bench_orders.proofs.Numbers.{index-within}
use Rattle.bench_walks.proofs.glimpse.Goals as goal

-- what is read at the index of a node is its record
read_at : (xs : List Held) (i x y : ℕ) (d : Held) → i ≡ index_of x (length xs) → x ≡ y → 1 ≤ length xs → get_or xs i d ≡ record_in xs y
read_at xs i x y d is same some =
    get_or_default xs i d no_held (rw is (index-within x (length xs) some)) ∙ ap (λ (j : ℕ). get_or xs j no_held) is ∙ ap (record_in xs) same

made : (xs : List Held) (i j k y named : ℕ) (d : Held) (s : Survey) → 1 ≤ length xs → i ≡ index_of 1 (length xs) → y ≡ sender_after (get_or xs i d) → j ≡ index_of y (length xs) → k ≡ index_of named (length xs)
    → s ≡ glimpsed (get_or xs i d) (get_or xs j d) (get_or xs k d) → s ≡ glimpse_of xs named
unfolding glimpse_of
made xs i j k y named d s some is-i is-y is-j is-k is-s =
    is-s ∙ ap (λ (v : Held). glimpsed (get_or xs i d) (get_or xs j d) v) (read_at xs k named named d is-k refl some)
    ∙ ap (λ (v : Held). glimpsed (get_or xs i d) v (record_in xs named)) (read_at xs j y (sender_after (get_or xs i d)) d is-j is-y some)
    ∙ ap (λ (v : Held). glimpsed v (record_in xs (sender_after v)) (record_in xs named)) (read_at xs i 1 1 d is-i refl some)

pub returns : goal.returns
returns c = made c.args.table.now c.index_of.result c.index_of-2.result c.index_of-3.result c.sender_after.result c.args.named _ c.glimpsed.result c.requires c.index_of.ensures c.sender_after.ensures c.index_of-2.ensures c.index_of-3.ensures c.glimpsed.ensures
