-- What the loop over the lines of a piece has done so far (Sofar), and where it stands with the next line read (Stands). Assumes nothing.
use Prim.Native.Nat.{ℕ, suc, ◌+◌, ◌-◌, ◌*◌, ◌≤◌, ◌<◌}
use mathlib.Core.Path.{◌≡◌, refl, sym, ap, subst, ◌∙◌}
use mathlib.Core.Bool.{Bool, true, false, cond}
use mathlib.Core.List.{List, [], ◌++◌, append-nil, append_assoc}
use native.Mathlib.Omega.{arith}
use lib.Dec.{eqb, ltb}
use lib.ListN.{length, take, drop}
use borrow.Author.Tests.{ltb-true, ltb-false}
use Rattle.node_record.proofs.nodeset.Tests.{by_cases}
use Rattle.node_record.specs.declared.Held.{Held}
use Rattle.bench.specs.declared.Outcome.{Outcome}
use Rattle.plan_run.specs.bench_orders.Orders.{carried_from}
use Rattle.bench_by_value.specs.ByValue.{Rows}
use Rattle.plan_run.specs.Run.{Act}
use Rattle.plan_run.specs.Inner.{errand_on, outcome_on}
use Rattle.plan_text.specs.Text.{PutAt}
use Rattle.plan_text.proofs.Paste.{both, nothing}
use Rattle.plan_line.specs.Words.{gap}
use Rattle.plan_line.proofs.Lists.{part-in}
use Rattle.plan_text.specs.Bytewise.{begun_with}
use Rattle.plan_text.proofs.Bytewise.{begun-none}
use Rattle.plan_program.specs.declared.Plan.{Plan}
use Rattle.plan_program.specs.declared.Part.{Part}
use Rattle.plan_program.specs.declared.Going.{Going}
use Rattle.plan_program.specs.declared.Ahead.{Ahead}
use Rattle.plan_program.specs.Program.{after_line, line_text, lines_in, run_of, text_of, text_then, Run}
use Rattle.plan_program.specs.Calls.{bytes_in, plan_sound, run_piece}
use Rattle.plan_program.specs.Inner.{act_in, begun_of, came_of, end_in, kept_in, lines_after, outcome_after, over_after, rows_for, size_after, size_of, sought, Goes, Told}
use Rattle.plan_program.proofs.Chunks.{fed-line}
use Rattle.plan_program.proofs.Sound.{next-line-some, sound-line}
use Rattle.plan_program.proofs.Lines.{enough, line_at, last-at, part_bytes, text-short}
use Rattle.plan_program.proofs.Lent.{line-is}

-- Of a piece that begins at plan `p₀` with `x₀` of a line, the bytes before `at` were run, and came to plan `p` with `x` of a line.
pub record Sofar (p₀ : Plan) (x₀ input out₀ : List ℕ) (p : Plan) (x : List ℕ) (held at : ℕ) (out : List ℕ) : Type 0 where
  pub text : List ℕ
  pub put : PutAt held 0 text out₀ out
  pub is : run_piece p₀ x₀ input ≡ text_then text (run_piece p x (drop at input))
  pub few : held ≤ 80 * at
  pub same : length out ≡ length out₀
  pub sound : plan_sound p ≡ true

pub begin : (p : Plan) (x input out : List ℕ) → plan_sound p ≡ true → Sofar p x input out p x 0 0 out
begin p x input out sound = record { text = []; put = (nothing 0 out).put; is = refl; few = omega arith; same = refl; sound = sound }

module _ {p₀ : Plan} {x₀ input out₀ : List ℕ} {p : Plan} {x : List ℕ} {held at : ℕ} {out : List ℕ} (so : Sofar p₀ x₀ input out₀ p x held at out) (e : ℕ) (ends : e ≡ at + gap 10 (drop at input)) (inside : at ≤ length input) where
  one_line : (t : Plan) (x' : List ℕ) → e < length input → t ≡ after_line p (take 121 (x ++ take (e - at) (drop at input))) → x' ≡ []
      → run_piece p x (drop at input) ≡ text_then (line_text t) (run_piece t x' (drop (e + 1) input))
  one_line t x' more told none =
      let line = x ++ take (e - at) (drop at input) in
      let left = lines_in (drop (e + 1) input) in
      ap (λ (ps : List (List ℕ)). run_of p (begun_with x ps)) (line_at input at e ends inside more)
      ∙ fed-line p line (drop (e + 1) input)
      ∙ ap (λ (u : Plan). text_then (line_text u) (run_of u left)) (sym (told ∙ enough p line))
      ∙ ap (λ (ps : List (List ℕ)). text_then (line_text t) (run_of t ps)) (sym (ap (λ (y : List ℕ). begun_with y left) none ∙ begun-none (drop (e + 1) input)))

  pub turn : (t : Plan) (x' : List ℕ) (next : ℕ) (out' : List ℕ) → e < length input → t ≡ after_line p (take 121 (x ++ take (e - at) (drop at input))) → x' ≡ []
      → PutAt next held (line_text t) out out' → length out' ≡ length out → Sofar p₀ x₀ input out₀ t x' next (e + 1) out'
  turn t x' next out' more told none wrote kept =
      let after = run_piece t x' (drop (e + 1) input) in
      record {
        text = so.text ++ line_text t;
        put = both (omega arith) so.put wrote;
        is =
            so.is
            ∙ ap (text_then so.text) (one_line t x' more told none)
            ∙ ap (λ (l : List ℕ). record { plan = after.plan; rest = after.rest; text = l }) (sym (append_assoc so.text (line_text t) after.text));
        few = omega (arith, wrote.end, so.few, text-short t.lines t.outcome, part-in 10 input at e inside ends);
        same = kept ∙ so.same;
        sound = ap plan_sound told ∙ sound-line p (take 121 (x ++ take (e - at) (drop at input))) so.sound;
      }

  pub done : (r : Ahead) → length input ≤ e → r.plan ≡ p → bytes_in r.part ≡ take 121 (x ++ take (e - at) (drop at input)) → r.count ≡ held
      → Goes (run_piece p₀ x₀ input) (length input) out₀ r out
  unfolding run_of
  done r no_more plan-is part-is count-is =
      let last : run_piece p₀ x₀ input ≡ record { plan = p; rest = x ++ take (e - at) (drop at input); text = so.text ++ [] } =
      so.is ∙ ap (λ (ps : List (List ℕ)). text_then so.text (run_of p (begun_with x ps))) (last-at input at e ends inside no_more) in
      let text-is : (run_piece p₀ x₀ input).text ≡ so.text = ap (λ (f : Run). f.text) last ∙ append-nil so.text in
      record {
        plan-is = plan-is ∙ sym (ap (λ (f : Run). f.plan) last);
        part-is = part-is ∙ sym (ap (λ (f : Run). take 121 f.rest) last);
        put = rw text-is (rw count-is so.put);
        few = omega (arith, so.few, count-is);
      }

-- ---- where the loop stands

-- the plan of these rows and of what the loop keeps
abbrev pub plan_in : Rows → Going → Plan
plan_in rows g = (came_of rows g).plan

-- The lines before the next one were run and came to `before`, with the plan's rows `base`; the next one was read. The lines run on `rows`.
pub record Stands (p₀ : Plan) (x₀ input out₀ : List ℕ) (g : Going) (rows : Rows) (out : List ℕ) : Type 0 where
  pub before : Going
  pub base : Rows
  pub is : g ≡ sought input before
  pub inside : before.at ≤ length input
  pub so : Sofar p₀ x₀ input out₀ (plan_in base before) (bytes_in before.part) before.held before.at out
  pub rows_is : rows ≡ rows_for (plan_in base before) g.more

-- how many bytes are left, where a line has ended
abbrev pub left : List ℕ → Going → ℕ
left input g = cond g.more (suc (length input - g.at)) 0

pub starts : (p : Plan) (part : Part) (input out : List ℕ) (g : Going) (rows : Rows) → plan_sound p ≡ true → g ≡ sought input (begun_of p part) → rows ≡ rows_for p g.more → Stands p (bytes_in part) input out g rows out
starts p part input out g rows sound is rows_is = record { before = begun_of p part; base = p.rows; is = is; inside = omega arith; so = begin p (bytes_in part) input out sound; rows_is = rows_is }

module _ {p₀ : Plan} {x₀ input out₀ : List ℕ} {g : Going} {rows : Rows} {out : List ℕ} (st : Stands p₀ x₀ input out₀ g rows out) where
  abbrev b : Going
  b = st.before

  abbrev p : Plan
  p = plan_in st.base b

  more-is : g.more ≡ ltb (end_in input b) (length input)
  unfolding sought
  more-is = ap (λ (r : Going). r.more) st.is

  at-is : g.at ≡ end_in input b + 1
  unfolding sought
  at-is = ap (λ (r : Going). r.at) st.is

  held-is : g.held ≡ b.held
  unfolding sought
  held-is = ap (λ (r : Going). r.held) st.is

  kept-is : bytes_in g.part ≡ kept_in input b
  unfolding sought
  kept-is = ap (λ (r : Going). bytes_in r.part) st.is ∙ part_bytes b.part.text (kept_in input b)

  ends : (b.at ≤ end_in input b) × (end_in input b ≤ length input)
  ends = part-in 10 input b.at (end_in input b) st.inside refl

  lines-is : g.lines ≡ b.lines
  unfolding sought
  lines-is = ap (λ (r : Going). r.lines) st.is

  over-is : g.over ≡ b.over
  unfolding sought
  over-is = ap (λ (r : Going). r.over) st.is

  act-is : g.act ≡ act_in b.lines b.n b.over (kept_in input b)
  unfolding sought
  act-is = ap (λ (r : Going). r.act) st.is ∙ ap (act_in b.lines b.n b.over) (part_bytes b.part.text (kept_in input b))

  size_is : g.size ≡ size_after b.lines b.n b.over (kept_in input b)
  unfolding sought
  size_is = ap (λ (r : Going). r.size) st.is ∙ ap (size_after b.lines b.n b.over) (part_bytes b.part.text (kept_in input b))

  -- the line ends in the piece
  module _ (some : g.more ≡ true) where
    within : end_in input b < length input
    within = ltb-true (end_in input b) (length input) (sym more-is ∙ some)

    rows_are : rows ≡ rows_for p true
    rows_are = st.rows_is ∙ ap (rows_for p) some

    pub room : 80 * length input ≤ length out₀ → g.held + 80 ≤ length out
    room enough = omega (arith, enough, within, ends, held-is, st.so.few, st.so.same)

    pub begins : g.at ≤ length input
    begins = omega (arith, at-is, within)

    -- a line was carried out and told, and the next one read
    module _ (t g' : Going) (o : Outcome) (zs : List Held) (out' : List ℕ) (all : length rows ≡ 32) (kept : length out' ≡ length out)
        (did : (zs ≡ carried_from (errand_on g.act (take (size_of g.size) rows)) 0 (take (size_of g.size) rows)) × (o ≡ outcome_on g.act (take (size_of g.size) rows))) (told : Told g o t out out') (read : g' ≡ sought input t) where
      abbrev after : Rows
      after = zs ++ drop (size_of g.size) rows

      plan-is : plan_in after t ≡ after_line p (kept_in input b)
      plan-is =
          let at : Act → ℕ → Rows → Type 0 = λ a m r. (zs ≡ carried_from (errand_on a (take (size_of m) r)) 0 (take (size_of m) r)) × (o ≡ outcome_on a (take (size_of m) r)) in
          let size = size_after b.lines b.n b.over (kept_in input b) in
          let act = act_in b.lines b.n b.over (kept_in input b) in
          let there : at act size (rows_for p true) = subst (at act size) rows_are (subst (λ (m : ℕ). at act m rows) size_is (subst (λ (a : Act). at a g.size rows) act-is did)) in
          let of : ℕ → Bool → ℕ → Rows → Plan = λ k v m r. record { lines = lines_after k v; n = m; rows = zs ++ drop (size_of m) r; over = over_after v (outcome_after v o); outcome = outcome_after v o } in
          ap (plan_in after) told.is
          ∙ ap (λ (k : ℕ). of k g.over g.size rows) lines-is
          ∙ ap (λ (v : Bool). of b.lines v g.size rows) over-is
          ∙ ap (λ (m : ℕ). of b.lines b.over m rows) size_is
          ∙ ap (of b.lines b.over size) rows_are
          ∙ line-is p (kept_in input b) zs o st.so.sound (ap length (sym rows_are) ∙ all) there

      -- after a line there is a bench, or the run is over
      next-rows : after ≡ rows_for (plan_in after t) g'.more
      next-rows =
          by_cases g.over
          (λ over. simp (let is : t.over ≡ true = ap (λ (r : Going). r.over) told.is ∙ simp over in is))
          (λ going.
          let later : eqb t.lines 0 ≡ false = ap (λ (r : Going). eqb r.lines 0) told.is ∙ simp going (next-line-some g.lines) in
          simp later (go t.over))
        where
          go : (over : Bool) → after ≡ cond over after after
          go true = refl
          go false = refl

      t-at : t.at ≡ end_in input b + 1
      t-at = ap (λ (r : Going). r.at) told.is ∙ at-is

      inside' : t.at ≤ length input
      inside' = omega (arith, t-at, within)

      pub turns : Stands p₀ x₀ input out₀ g' after out'
      turns =
          let text : text_of (lines_after g.lines g.over) (outcome_after g.over o) ≡ line_text (plan_in after t) = sym (ap (λ (r : Going). text_of r.lines r.outcome) told.is) in
          let wrote : PutAt t.held b.held (line_text (plan_in after t)) out out' = subst (λ (k : ℕ). PutAt t.held k (line_text (plan_in after t)) out out') held-is (subst (λ (l : List ℕ). PutAt t.held g.held l out out') text told.put) in
          record {
            before = t;
            base = after;
            is = read;
            inside = inside';
            so = subst (λ (k : ℕ). Sofar p₀ x₀ input out₀ (plan_in after t) (bytes_in t.part) t.held k out') (sym t-at)
                (turn st.so (end_in input b) refl st.inside (plan_in after t) (bytes_in t.part) t.held out' within plan-is (ap (λ (r : Going). bytes_in r.part) told.is) wrote kept);
            rows_is = next-rows;
          }

      next-at : g'.at ≡ end_in input t + 1
      unfolding sought
      next-at = ap (λ (r : Going). r.at) read

      next_more : g'.more ≡ ltb (end_in input t) (length input)
      unfolding sought
      next_more = ap (λ (r : Going). r.more) read

      pub fewer : left input g' < left input g
      fewer =
          simp some
          (by_cases g'.more
          (λ more. simp more (omega (arith, next-at, ltb-true (end_in input t) (length input) (sym next_more ∙ more), part-in 10 input t.at (end_in input t) inside' refl, t-at, at-is)))
          (λ none. simp none (omega arith)))

  -- no line more ends in the piece
  pub ended : (r : Ahead) → g.more ≡ false → r ≡ came_of rows g → Goes (run_piece p₀ x₀ input) (length input) out₀ r out
  unfolding sought
  ended r none is =
      let stays : rows ≡ st.base = st.rows_is ∙ ap (rows_for p) none ∙ go b.over (eqb b.lines 0) in
      done st.so (end_in input b) refl st.inside r (ltb-false (end_in input b) (length input) (sym more-is ∙ none))
      (ap (λ (a : Ahead). a.plan) is ∙ ap (λ (l : Rows). plan_in l g) stays ∙ ap (plan_in st.base) st.is) (ap (λ (a : Ahead). bytes_in a.part) is ∙ kept-is) (ap (λ (a : Ahead). a.count) is ∙ held-is)
    where
      go : (over first : Bool) → cond over st.base (cond first st.base st.base) ≡ st.base
      go true first = refl
      go false true = refl
      go false false = refl
