-- A listed slot: departure at each node, and what the return bits tell of a knock. Assumes nothing.
use Rattle.std.specs.Prelude.{Err, Ok}
use Prim.Native.Nat.{ℕ, zero, suc, ◌+◌, ◌-◌, ◌≤◌, ◌<◌}
use mathlib.Core.Path.{◌≡◌, refl, sym, ap, ◌∙◌}
use mathlib.Core.Logic.{◌≢◌, ◌⊎◌, inl, inr}
use mathlib.Core.Bool.{Bool, true, false, not, ◌&&◌, ◌||◌, false≢true}
use native.Mathlib.Omega.{arith}
use native.Mathlib.Decide.{ℕ_discrete, dec_lt}
use lib.Dec.{eqb}
use borrow.Author.Tests.{eqb-true, eq-eqb, ne_eqb}
use Rattle.bench.specs.nodeset.Sums.{num}
use Rattle.bench.specs.nodeset.Sets.{has}
use Rattle.bench.proofs.nodeset.Tests.{by_cases, both, all}
use Rattle.bench.proofs.nodeset.Sums.{num-le}
use Rattle.bench.specs.ring.Ring.{sender, member_before, is_found}
use Rattle.bench.proofs.ring_laws.Senders.{sender-range}
use Rattle.bench.specs.message.Answers.{Reading}
use Rattle.bench.specs.node_record.declared.Node.{Node}
use Rattle.bench.specs.node_record.declared.State.{State}
use Rattle.bench.specs.node_record.declared.State.TheVariants.{Member, Listening, Following, Knocking, Out}
use Rattle.bench.specs.node_record.States.{is_member, is_knocking}
use Rattle.bench.specs.node_steps.Steps.{is_heard, return_in, joins}
use Rattle.bench.specs.node_steps.Inner.{read_return, read_heard, read_marked}
use Rattle.bench.proofs.node_steps.Answers.{At, found_it, is-found}
use Rattle.agreement.proofs.History.{World, Untold, lst, told-in-time, one-knock, num-is}
use Rattle.agreement.proofs.Invariant.{Knock, Awaits, aware, unaware}
use Rattle.agreement.proofs.Marks.{no_both, not-true, not-false}
use Rattle.agreement.proofs.Outcome.{set_after}
use Rattle.agreement.proofs.Listed.{Says, ListedSlot, Hearer, same-window, extend, missed-failure, off-after, on-after}
use Rattle.agreement.proofs.Depart.{drop-sub, drop_keeps, since-next, L₁}

-- ---- tests taken apart

pub or-true : (a b : Bool) → a ≡ true → (a || b) ≡ true
or-true a b e = rw e

pub joins-yes : (s : ℕ) (v : Node) → joins s v ≡ true → (v.returning ≢ 0) × At s (member_before v.cable v.set v.returning 1)
joins-yes s v e =
    let t = both (not (eqb v.returning 0)) (is_found s (member_before v.cable v.set v.returning 1)) e in
    (λ z. no_both t.0 (ap not (eq-eqb v.returning 0 z)), found_it s (member_before v.cable v.set v.returning 1) t.1)

pub joins-if : (s : ℕ) (v : Node) → v.returning ≢ 0 → At s (member_before v.cable v.set v.returning 1) → joins s v ≡ true
joins-if s v nz a = all (ap not (ne_eqb v.returning 0 nz)) (is-found s (member_before v.cable v.set v.returning 1) a)

pub not-missed : (r : Reading) (v : Node) → read_return r v ≡ false → v.returning ≡ 0 → return_in r ≡ false
not-missed r v e z =
    let p : eqb v.returning 0 ≡ true = eq-eqb v.returning 0 z in
    go (return_in r) (eqb v.returning 0) p e
  where
    go : (a b : Bool) → b ≡ true → (a && b) ≡ false → a ≡ false
    go true b p f = absurd (no_both p f)
    go false b p f = refl

-- a return bit of 1 is that of a message heard
return-heard : (r : Reading) → return_in r ≡ true → is_heard r ≡ true
return-heard (Ok h) e = refl
return-heard (Err c) e = absurd (false≢true e)

pub not-knocking : (st : State) → is_member st ≡ true → is_knocking st ≡ false
not-knocking Member f = refl
not-knocking Listening f = absurd (false≢true f)
not-knocking Following f = refl
not-knocking Knocking f = absurd (false≢true f)
not-knocking (Out x) f = refl

pub not-member : (st : State) → is_knocking st ≡ true → is_member st ≡ false
not-member Member f = absurd (false≢true f)
not-member Listening f = refl
not-member Following f = refl
not-member Knocking f = refl
not-member (Out x) f = refl

pub always : (b : Bool) → (b || true) ≡ true
always true = refl
always false = refl

pub or-false : (a b : Bool) → a ≡ false → b ≡ false → (a || b) ≡ false
or-false a b p q = rw (p, q) refl

module _ (W : World) where
  open W use {cable, n_pos, turns, E, fair}
  open cable use {n}

  pub same-knock : (N w e w' e' : ℕ) → n ≤ N → w + e ≡ N → e < n → w' + e' ≡ N → e' < n → (E w).outside ≡ true → (E w').outside ≡ true → w ≡ w'
  same-knock N w e w' e' hn z h z' h' o o' = go (dec_lt w w') (dec_lt w' w)
    where
      go : Dec (w < w') → Dec (w' < w) → w ≡ w'
      go (yes l) d = absurd (one-knock W w (w' - w) w' (omega arith) (omega arith) (omega arith) (omega arith) o o')
      go (no l) (yes d) = absurd (one-knock W w' (w - w') w (omega arith) (omega arith) (omega arith) (omega arith) o' o)
      go (no l) (no d) = omega arith

  module _ (S : ListedSlot W) where
    open S use {N, L, B, l_t, on_l, D}

    module _ (T : Hearer W S.N S.L) where
      open T use {r, says, i, i-pos, i-le, v, vo, iv, h}

      abbrev s : ℕ
      s = sender cable (suc N)

      abbrev pub v₁ : Node
      v₁ = read_marked s r v

      d-ago : D.u + suc D.e ≡ suc N
      d-ago = omega (arith, D.ago)

      -- some member has told it of its slot, sent or not
      d-told : Untold W D.u (suc N) → ⊥
      d-told u =
          let un : Untold W D.u (D.u + suc D.e) = rw d-ago u in
          omega (arith, told-in-time W D.u (suc D.e) (omega (arith, D.ago, D.recent, B.late)) D.recent un, since-next W N D.u D.e D.ago, D.exact, num-is l_t)

      -- the decided member is marked exactly if its slot was sent
      pub marked-is : has v₁.present (sender cable D.u) ≡ (E D.u).sent
      marked-is = by_cases (E D.u).sent
          (λ p. not-false (has v₁.present (sender cable D.u)) (λ off. d-told (on-after W S T D.u (suc D.e) d-ago D.recent p D.member off).untold) ∙ sym p)
          (λ p. not-true (has v₁.present (sender cable D.u)) (λ on. d-told ((off-after W S T D.u (suc D.e) d-ago D.recent D.listed p).on on).1) ∙ sym p)

      pub set-after : set_after (sender cable D.u) v₁ ≡ L₁ W S
      set-after = rw (marked-is, iv.set_is) refl

      -- this node is not the one that departs
      abbrev pub Stays : Type 0
      Stays = has v₁.present (sender cable D.u) ≡ false → sender cable D.u ≢ v.own

      -- a member that stays is still on the list
      pub member-stays : Stays → is_member v.state ≡ true → has (L₁ W S) i ≡ true
      member-stays ne p = drop_keeps W (E D.u).sent L (sender cable D.u) i (iv.own-in p)
          (λ f y. ne (marked-is ∙ f) (y ∙ sym vo))

      pub outsider-stays : is_member v.state ≡ false → has (L₁ W S) i ≡ false
      outsider-stays p = not-true (has (L₁ W S) i) (λ y. no_both (drop-sub W (E D.u).sent L (sender cable D.u) i y) (iv.own_out p))

      -- a sender that sends return bit 0 has missed an open knock
      unaware-sender : (w e : ℕ) → w + e ≡ N → e < n → (E w).listed ≡ false → (E w).sent ≡ true → has L (sender cable w) ≡ false
          → is_heard r ≡ true → return_in r ≡ false → (E w).missed s ≡ true
      unaware-sender w e z l a b c p q = go (says p)
        where
          two : (Z : Says W N L r) → Z.z.returning ≡ 0 → Awaits W N s w Z.z → (E w).missed s ≡ true
          two Z y (aware q f) = let bad : ⊥ = omega (arith, sender-range cable turns w) in absurd bad
          two Z y (unaware q f g x un) = x

          go : Says W N L r → (E w).missed s ≡ true
          go Z =
              let y : eqb Z.z.returning 0 ≡ true = not-false (eqb Z.z.returning 0) (λ f. no_both (Z.ret ∙ ap not f) q) in
              two Z (eqb-true Z.z.returning 0 y) (Z.inv.open-knock w e z l a b c)

      -- the entry of this slot keeps those who missed w untold
      still-untold : (w : ℕ) → Untold W w N → ((E (suc N)).sent ≡ true → ((E w).missed s ≡ true) ⊎ (1 ≤ (E (suc N)).failures)) → Untold W w (suc N)
      still-untold w un f = extend W N w un (λ _ _ _. by_cases (E (suc N)).sent (λ p. go (f p)) (λ p. omega (arith, (fair (suc N)).unsent p l_t, num-le (E (suc N)).listed)))
        where
          go : ((E w).missed s ≡ true) ⊎ (1 ≤ (E (suc N)).failures) → lst W (suc N) ≤ (E (suc N)).failures + num ((E w).missed s)
          go (inl p) = omega (arith, num-is p, num-le (E (suc N)).listed)
          go (inr p) = omega (arith, num-le (E (suc N)).listed)

      -- the return bit at a knocking node
      answer : (w e : ℕ) → w + e ≡ N → e < n → (E w).listed ≡ false → (E w).sent ≡ true → has L (sender cable w) ≡ false
          → is_knocking v.state ≡ true → i ≡ sender cable w → (v.return_heard ≡ true) ⊎ Untold W w N → (read_heard r v ≡ true) ⊎ Untold W w (suc N)
      answer w e z l a b c kn io (inl p) = inl (or-true v.return_heard _ p)
      answer w e z l a b c kn io (inr un) = by_cases (E (suc N)).sent
          (λ p. by_cases (is_heard r) (λ q. by_cases (return_in r)
          (λ t. inl (rw (kn, t) (always v.return_heard)))
          (λ t. inr (still-untold w un (λ _. inl (unaware-sender w e z l a b c q t)))))
          (λ q. absurd (no_both kn (not-knocking v.state (h.missing q p (λ y. no_both on_l (rw (← y) (rw io c)))).0))))
          (λ p. inr (still-untold w un (λ q. absurd (no_both q p))))

      -- R for an open knock, after step 1
      pub awaits-after : read_return r v ≡ false → (w e : ℕ) → w + e ≡ N → e < n → (E w).listed ≡ false → (E w).sent ≡ true → has L (sender cable w) ≡ false → Awaits W (suc N) i w v₁
      awaits-after ok w e z l a b c = go (iv.open-knock w e z l a b c)
        where
          go : Awaits W N i w v → Awaits W (suc N) i w v₁
          go (aware q f) = aware q (λ y. answer w e z l a b c (iv.own-knocking (q ∙ sym y)) y (f y))
          go (unaware q f g x un) = unaware q f g x (still-untold w un (λ p. missing p (ℕ_discrete i s)))
            where
              missing : (E (suc N)).sent ≡ true → Dec (i ≡ s) → ((E w).missed s ≡ true) ⊎ (1 ≤ (E (suc N)).failures)
              missing p (yes y) = inl (rw y at x)
              missing p (no y) = by_cases (is_heard r)
                  (λ t. inl (unaware-sender w e z l a b c t (not-missed r v ok f)))
                  (λ t. inr (missed-failure W (suc N) i (h.missing t p y).1 i-pos i-le))

      -- a lost knock is not answered
      pub lost-after : is_knocking v.state ≡ true → (w e : ℕ) → w + e ≡ suc N → e < n → sender cable w ≡ i → (E w).sent ≡ false → read_heard r v ≡ false
      lost-after kn w zero z l y f =
          let x : w ≡ suc N = omega arith in
          absurd (no_both on_l (rw (← x) (rw y (iv.own_out (not-member v.state kn)))))
      lost-after kn w (suc e) z l y f = or-false v.return_heard _ (iv.lost-knock kn w e ago (omega arith) y f) (rw kn (not-true (return_in r) (λ q. go (says (return-heard r q)) q)))
        where
          ago : w + e ≡ N
          ago = omega arith

          two : (Z : Says W N L r) → Knock W N L Z.z → Knock W N L v → ⊥
          two Z κ κ' =
              let same : κ'.w ≡ w = same-window W N κ'.w w κ'.e e B.late κ'.ago ago κ'.recent (omega arith) (κ'.it ∙ iv.knocking-own kn ∙ sym y) in
              three κ (same-knock N κ.w κ.e w e B.late κ.ago κ.recent ago (omega arith) κ.outer (rw same at κ'.outer)) κ.how
            where
              three : (κ : Knock W N L Z.z) → κ.w ≡ w → ((E κ.w).sent ≡ true) ⊎ (is_knocking Z.z.state ≡ true) → ⊥
              three κ q (inl p) = no_both p (rw q f)
              three κ q (inr p) = no_both p (not-knocking Z.z.state Z.member)

          go : (Z : Says W N L r) → return_in r ≡ true → ⊥
          go Z t =
              let nz : Z.z.returning ≢ 0 = λ q. no_both t (Z.ret ∙ ap not (eq-eqb Z.z.returning 0 q)) in
              two Z (Z.inv.knock nz) (iv.knock (λ q. let bad : ⊥ = omega (arith, iv.knocking-own kn) in bad))

      pub quiet-after : is_knocking v.state ≡ false → read_heard r v ≡ false
      quiet-after kn = or-false v.return_heard _ (iv.quiet kn) (rw kn refl)
