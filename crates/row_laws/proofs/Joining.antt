-- A node put into the row of a set at its rank makes the row of the set with it (row's specs/Inner). Assumes nothing.
use Prim.Native.Nat.{ℕ, suc, ◌+◌, ◌-◌, ◌≤◌, ◌<◌}
use mathlib.Core.Path.{◌≡◌, refl, sym, ap, ap₂, ◌∙◌}
use mathlib.Core.Logic.{◌≢◌}
use mathlib.Core.Bool.{true, false}
use mathlib.Core.List.{List, [], ◌∷◌, ◌++◌, append_assoc}
use native.Mathlib.Omega.{arith}
use native.Mathlib.Decide.{dec_lt}
use lib.ListN.{length, take, drop, get_or, replicate, length-append, length-take, length-drop, length-replicate, replicate-append-replicate}
use lib.Seq.{split_at, take_at, drop_at, get_or-take, get_or-drop}
use Rattle.ring_laws.specs.nodeset.Sets.{has, with}
use Rattle.ring_laws.proofs.nodeset.Laws.{has-with, has-with-other}
use Rattle.ring_laws.specs.slot_table.Order.{node_at}
use Rattle.ring_laws.proofs.slot_table.Places.{same_place}
use Rattle.row.specs.Rows.{row_for, keep}
use Rattle.row.specs.Inner.{elem, put_in}
use Rattle.row.proofs.Lists.{elem-index, keep_append, keep_same}
use Rattle.row_laws.proofs.Tables.{Table}

-- ---- the places

pub put-between : (a b : List ℕ) (x : ℕ) → length (a ++ b) < 32 → put_in (length a) x (row_for (a ++ b)).nodes ≡ (row_for (a ++ x ∷ b)).nodes
put-between a b x h =
    let k : ℕ = 32 - length (a ++ b) in
    let l : ℕ = 32 - length (a ++ x ∷ b) in
    let more : k ≡ l + 1 = omega (arith, length-append a b, length-append a (x ∷ b)) in
    let all : List ℕ = a ++ x ∷ b in
    let zeros : replicate {A = ℕ} k 0 ≡ replicate l 0 ++ (0 ∷ []) = ap (λ (i : ℕ). replicate {A = ℕ} i 0) more ∙ sym (replicate-append-replicate {A = ℕ} l 1 0) in
    let parts : (a ++ b) ++ replicate k 0 ≡ a ++ (b ++ replicate k 0) = append_assoc a b (replicate k 0) in
    ap₂ (λ (u v : List ℕ). take 32 (u ++ x ∷ v))
    (ap (take (length a)) parts ∙ take_at a (b ++ replicate k 0) (length a) refl)
    (ap (drop (length a)) parts ∙ drop_at a (b ++ replicate k 0) (length a) refl)
    ∙ ap (take 32)
    (sym (append_assoc a (x ∷ b) (replicate k 0)) ∙ ap (λ (z : List ℕ). all ++ z) zeros ∙ sym (append_assoc all (replicate l 0) (0 ∷ [])))
    ∙ take_at (all ++ replicate l 0) (0 ∷ []) 32 (omega (arith, length-append all (replicate l 0), length-replicate {A = ℕ} l 0, length-append a b, length-append a (x ∷ b)))

-- ---- the nodes

module _ (n : ℕ) (t : List ℕ) (b : Table n t) (i : ℕ) (low : i < n) (x : ℕ) (at : get_or t i 0 ≡ x) (some : 1 ≤ x) where
  -- another place has another node
  elsewhere : (k : ℕ) → k < n → k ≢ i → get_or t k 0 ≢ x
  unfolding node_at
  elsewhere k h ne e =
      let z : suc k ≡ suc i = same_place n t b.ordered (suc k) (suc i) (omega arith) h (omega arith) low (e ∙ sym at) in
      ne (omega (arith, z))

  earlier : (m : ℕ) → elem m (take i t) ≡ true → x ≢ m
  earlier m e z =
      let r = elem-index m (take i t) e in
      let l : r.0 < i = omega (arith, r.1, length-take i t) in
      elsewhere r.0 (omega (arith, l, low)) (λ q. let w : ⊥ = omega (arith, l, q) in w) (sym (get_or-take i t r.0 0 l) ∙ r.2 ∙ sym z)

  later : (m : ℕ) → elem m (drop (suc i) t) ≡ true → x ≢ m
  later m e z =
      let r = elem-index m (drop (suc i) t) e in
      go r.0 (omega (arith, r.1, length-drop (suc i) t, b.full)) (sym (get_or-drop (suc i) t r.0 0) ∙ r.2 ∙ sym z) (dec_lt (suc i + r.0) n)
    where
      go : (k : ℕ) → suc i + k < 32 → get_or t (suc i + k) 0 ≡ x → Dec (suc i + k < n) → ⊥
      go k h q (yes d) = elsewhere (suc i + k) d (λ w. let v : ⊥ = omega (arith, w) in v) q
      go k h q (no d) =
          let y : n + (suc i + k - n) ≡ suc i + k = omega arith in
          omega (arith, b.beyond (suc i + k - n) (omega arith), ap (λ (j : ℕ). get_or t j 0) y, q)

  -- those of the table before and after it
  kept-around : (s : ℕ) → keep (has s) t ≡ keep (has s) (take i t) ++ keep (has s) (x ∷ drop (suc i) t)
  kept-around s =
      ap (keep (has s)) (split_at t i 0 (omega (arith, b.full, b.most)))
      ∙ keep_append (has s) (take i t) (get_or t i 0 ∷ drop (suc i) t)
      ∙ ap (λ (y : ℕ). keep (has s) (take i t) ++ keep (has s) (y ∷ drop (suc i) t)) at

  pub kept-without : (s : ℕ) → has s x ≡ false → keep (has s) t ≡ keep (has s) (take i t) ++ keep (has s) (drop (suc i) t)
  kept-without s e = kept-around s ∙ rw e refl

  pub kept-with : (s : ℕ) → x ≤ 32 → keep (has (with s x)) t ≡ keep (has s) (take i t) ++ x ∷ keep (has s) (drop (suc i) t)
  kept-with s l =
      kept-around (with s x)
      ∙ rw (has-with s x some l)
      (ap₂ (λ (u v : List ℕ). u ++ x ∷ v)
      (keep_same (has (with s x)) (has s) (take i t) (λ m e. has-with-other s x m (earlier m e)))
      (keep_same (has (with s x)) (has s) (drop (suc i) t) (λ m e. has-with-other s x m (later m e))))
