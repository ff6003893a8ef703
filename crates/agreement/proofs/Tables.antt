-- The invariant of a table: the start has it, off and restart keep it. Assumes nothing.
use Prim.Native.Nat.{ℕ, suc, ◌+◌, ◌-◌, ◌^◌, ◌≤◌, ◌<◌}
use mathlib.Core.Path.{◌≡◌, refl, sym, ap, ◌∙◌, subst}
use mathlib.Core.Logic.{◌⊎◌, inl, inr}
use mathlib.Core.Bool.{Bool, true, false, cond, true≢false, false≢true}
use mathlib.Core.List.{[], ◌∷◌}
use native.Mathlib.Omega.{arith}
use lib.Dec.{eqb}
use lib.ListN.{length, get_or}
use borrow.Author.Tests.{eqb-true}
use Rattle.bench.specs.nodeset.Sets.{full, size}
use Rattle.bench.proofs.nodeset.Tests.{by_cases, chosen, otherwise}
use Rattle.bench.proofs.nodeset.Laws.{has-full, full-lt}
use Rattle.bench.proofs.nodeset.Counts.{size_none}
use Rattle.bench.specs.ring.Ring.{sender}
use Rattle.bench.proofs.ring_laws.Senders.{sender-range}
use Rattle.bench.specs.node_record.declared.Node.{Node}
use Rattle.bench.specs.node_record.declared.Cause.{Cause}
use Rattle.bench.specs.node_record.States.{is_member}
use Rattle.bench.specs.node_changes.Changes.{starting, out_for, fresh}
use Rattle.bench.specs.node.Calls.{no_node}
use Rattle.bench.specs.Table.{Table, record_of, each, slots_of}
use Rattle.bench.specs.Calls.{start_table, list_in}
use Rattle.bench.specs.Runs.{set_in, list_of}
use Rattle.agreement.proofs.Past.{Past}
use Rattle.agreement.proofs.History.{World, K}
use Rattle.agreement.proofs.Marks.{no_both}
use Rattle.agreement.proofs.Rounds.{K'}
use Rattle.agreement.proofs.Hearing.{fresh-inv}
use Rattle.agreement.proofs.Alike.{member-tracks}
use Rattle.agreement.proofs.Nodes.{NodeInv}
use Rattle.bench.proofs.Places.{length-each, record-each}

-- ---- the list

-- the list is the set of a member-state node
record Holder (t : Table) : Type 0 where
  j : ℕ
  within : j < length t
  member : is_member (get_or t j no_node).state ≡ true
  its : set_in (list_in t) ≡ (get_or t j no_node).set

-- where it is not, it is empty
holder : (t : Table) → (set_in (list_in t) ≡ 0) ⊎ Holder t
unfolding list_in
holder [] = inl refl
holder (v ∷ t) = go (is_member v.state) refl (holder t)
  where
    go : (b : Bool) → is_member v.state ≡ b → (set_in (list_in t) ≡ 0) ⊎ Holder t → (set_in (list_in (v ∷ t)) ≡ 0) ⊎ Holder (v ∷ t)
    go true e r = inr (record { j = 0; within = omega arith; member = e; its = ap set_in (chosen _ _ e) })
    go false e (inl z) = inl (ap set_in (otherwise _ _ e) ∙ z)
    go false e (inr h) = inr (record { j = suc h.j; within = omega (arith, h.within); member = h.member; its = ap set_in (otherwise _ _ e) ∙ h.its })

record-at : (t : Table) (j : ℕ) → record_of t (suc j) ≡ get_or t j no_node
unfolding record_of
record-at t j = let z : suc j - 1 ≡ j = omega arith in ap (λ (x : ℕ). get_or t x no_node) z

module _ (W : World) where
  open W use {cable, n_pos, turns, n-most, E, early}
  open cable use {n}

  pub record TableInv (N L : ℕ) (t : Table) : Type 0 where
    pub len : length t ≡ n
    pub late : n ≤ N
    pub kept : K W N L
    pub kept' : K' W N
    pub small : L < 2 ^ n
    pub nodes : (i : ℕ) → 1 ≤ i → i ≤ n → NodeInv W N L i (record_of t i)

  -- a member-state node of the table, whose set is the list
  pub record Witness (t : Table) : Type 0 where
    pub i : ℕ
    pub pos : 1 ≤ i
    pub le : i ≤ n
    pub member : is_member (record_of t i).state ≡ true
    pub its : list_of t ≡ (record_of t i).set

  pub witness : (t : Table) → length t ≡ n → 1 ≤ size n (list_of t) → Witness t
  unfolding list_of
  witness t len h = go (holder t)
    where
      go : (set_in (list_in t) ≡ 0) ⊎ Holder t → Witness t
      go (inl z) = let bad : ⊥ = omega (arith, ap (size n) z, size_none n) in absurd bad
      go (inr x) = record {
        i = suc x.j;
        pos = omega arith;
        le = omega (arith, x.within);
        member = ap (λ (y : Node). is_member y.state) (record-at t x.j) ∙ x.member;
        its = x.its ∙ ap (λ (y : Node). y.set) (sym (record-at t x.j));
      }

  pub list-is : (N L : ℕ) (t : Table) → TableInv N L t → 1 ≤ size n (list_of t) → list_of t ≡ L
  list-is N L t inv h = go (witness t inv.len h)
    where
      go : Witness t → list_of t ≡ L
      go x = x.its ∙ ((inv.nodes x.i x.pos x.le).track (member-tracks (record_of t x.i).state x.member)).set_is

  pub slots_at : (N L : ℕ) (t : Table) → TableInv N L t → slots_of t + n ≡ N
  unfolding slots_of
  slots_at N L t inv = (inv.nodes 1 (omega arith) n_pos).slots-is

  -- ---- off and restart

  -- one record made anew
  one-keeps : (N L : ℕ) (t : Table) → TableInv N L t → (a : ℕ) (g : Node → Node) → (1 ≤ a → a ≤ n → NodeInv W N L a (g (record_of t a)))
      → TableInv N L (each (λ i v. cond (eqb i a) (g v) v) t)
  one-keeps N L t inv a g new = record {
    len = length-each f t ∙ inv.len;
    late = inv.late;
    kept = inv.kept;
    kept' = inv.kept';
    small = inv.small;
    nodes = λ i h l. subst (λ (y : Node). NodeInv W N L i y) (sym (record-each f t i h (omega (arith, inv.len)))) (at i h l);
  }
    where
      f : ℕ → Node → Node
      f = λ i v. cond (eqb i a) (g v) v

      at : (i : ℕ) → 1 ≤ i → i ≤ n → NodeInv W N L i (cond (eqb i a) (g (record_of t i)) (record_of t i))
      at i h l =
          by_cases (eqb i a)
          (λ e. let z : i ≡ a = eqb-true i a e in rw e (subst (λ (x : ℕ). NodeInv W N L x (g (record_of t x))) (sym z) (new (omega arith) (omega arith))))
          (λ e. rw e (inv.nodes i h l))

  pub off-keeps : (N L : ℕ) (t : Table) → TableInv N L t → (a : ℕ) (c : Cause) (g : Node → Node) → (1 ≤ a → a ≤ n → g (record_of t a) ≡ out_for c (record_of t a))
      → TableInv N L (each (λ i v. cond (eqb i a) (g v) v) t)
  off-keeps N L t inv a c g is = one-keeps N L t inv a g (λ h l. subst (λ (y : Node). NodeInv W N L a y) (sym (is h l)) (new (inv.nodes a h l)))
    where
      new : NodeInv W N L a (record_of t a) → NodeInv W N L a (out_for c (record_of t a))
      new nv = record { cable-is = nv.cable-is; own_is = nv.own_is; slots-is = nv.slots-is; track = λ b. absurd (false≢true b); listen = λ b. absurd (false≢true b) }

  pub restart-keeps : (N L : ℕ) (t : Table) → TableInv N L t → (a : ℕ) (g : Node → Node) → (1 ≤ a → a ≤ n → g (record_of t a) ≡ fresh (record_of t a))
      → TableInv N L (each (λ i v. cond (eqb i a) (g v) v) t)
  restart-keeps N L t inv a g is = one-keeps N L t inv a g (λ h l. subst (λ (y : Node). NodeInv W N L a y) (sym (is h l)) (new (inv.nodes a h l)))
    where
      new : NodeInv W N L a (record_of t a) → NodeInv W N L a (fresh (record_of t a))
      new nv = record { cable-is = nv.cable-is; own_is = nv.own_is; slots-is = nv.slots-is; track = λ b. absurd (false≢true b); listen = λ b. fresh-inv W N a (fresh (record_of t a)) refl refl refl }

  -- ---- the start

  start-node : (i : ℕ) → 1 ≤ i → i ≤ n → NodeInv W n (full n) i (starting cable i)
  start-node i h l = record {
    cable-is = refl;
    own_is = refl;
    slots-is = omega arith;
    track = λ _. record {
      set_is = refl;
      own-in = λ _. has-full n i h l (omega (arith, n-most));
      own_out = λ p. absurd (true≢false p);
      marks-off = λ u e z q a b. absurd (no_both (ap (λ (x : Past). x.sent) (early u (omega arith))) b);
      marks-on = λ u e z q a b c. absurd (no_both b c);
      knock = λ nz. absurd (nz refl);
      open-knock = λ w e z q a b c. absurd (no_both (ap (λ (x : Past). x.listed) (early w (omega arith))) a);
      knocking-own = λ p. absurd (false≢true p);
      own-knocking = λ p. let bad : ⊥ = omega arith in absurd bad;
      quiet = λ _. refl;
      lost-knock = λ p. absurd (false≢true p);
    };
    listen = λ p. absurd (false≢true p);
  }

  pub start-keeps : (lent : Table) → length lent ≡ n → TableInv n (full n) (start_table cable lent)
  start-keeps lent len = record {
    len = length-each (λ i v. starting cable i) lent ∙ len;
    late = omega arith;
    kept = λ u e z h. let s : (E u).sent ≡ true = ap (λ (x : Past). x.sent) (early u (omega arith)) in
        record {
          spoke = λ p q. has-full n (sender cable u) (sender-range cable turns u).0 (sender-range cable turns u).1 (omega (arith, sender-range cable turns u, n-most));
          waits = λ p q. absurd (no_both s q);
          dropped = λ p q. absurd (no_both s q);
          came = λ p q. absurd (no_both (ap (λ (x : Past). x.listed) (early u (omega arith))) p);
        };
    kept' = λ w e z h p. ap (λ (x : Past). x.sent) (early w (omega arith));
    small = full-lt n;
    nodes = λ i h l. subst (λ (y : Node). NodeInv W n (full n) i y) (sym (record-each (λ j v. starting cable j) lent i h (omega (arith, len)))) (start-node i h l);
  }
