-- A slot by the digest of the own set (specs/Digests) is the slot by cases (specs/Inner): what a message says is the same for all who hold
-- one set, and so is the decided member. Assumes nothing.
use Rattle.std.specs.Prelude.{Err, None, Option, Ok, Some}
use Prim.Native.Nat.{ℕ, zero, suc, ◌^◌, ◌≤◌, ◌<◌}
use mathlib.Core.Path.{◌≡◌, refl, sym, ap, ap₂, ◌∙◌}
use mathlib.Core.Logic.{◌≢◌}
use mathlib.Core.Bool.{Bool, true, false, cond, not, ◌&&◌, ◌||◌, and-false, or-true, or-false, or_assoc, true≢false}
use native.Mathlib.Omega.{arith}
use lib.Dec.{eqb}
use lib.Bits.{or_zero_r}
use borrow.Author.Tests.{eqb-true, eqb-false, eq-eqb, ne_eqb}
use Rattle.nodeset.specs.Sets.{has, with, without, union}
use Rattle.nodeset.proofs.Tests.{by_cases, chosen, otherwise}
use Rattle.nodeset.proofs.Bits.{has-none}
use Rattle.nodeset.proofs.Laws.{has-with, has-with-other, with-lt-32, union-with}
use Rattle.cable.specs.declared.Cable.{Cable}
use Rattle.row.specs.ring.declared.Found.{Found}
use Rattle.row.specs.ring.Ring.{sponsors, sponsored, decided, member_in, is_found}
use Rattle.row.proofs.ring.Members.{sponsored-member}
use Rattle.message.specs.Answers.{Reading}
use Rattle.message.proofs.From.{FromOther}
use Rattle.node_record.specs.declared.Node.{Node}
use Rattle.node_record.specs.declared.Cause.TheVariants.{Unconfirmed, MissedReturn}
use Rattle.node_record.specs.States.{leaving_cause}
use Rattle.node_record.specs.Sponsoring.{sponsors_in, sponsored_in, decided_in}
use Rattle.node_changes.specs.Changes.{leave, with_set}
use Rattle.node_steps.specs.declared.Said.{Said}
use Rattle.node_steps.specs.declared.Effect.{Effect}
use Rattle.node_steps.specs.Steps.{is_heard, return_in, confirmed, says_so, says, hears_no, hears_yes, heard_marks, marks_after, yes_after, noted, leaves, settle}
use Rattle.node_steps.specs.Inner.{read_marked, departing, inside_slot, outside_slot, slot_by_cases}
use Rattle.node_steps.specs.Digests.{bits_heard, answered, said_of, digest_of, said_by, decided_by, marks_by, heard_effect, effect_of, noted_by, stays_on, departures, ended, departing_by, tracking_with, tracking_by}
use Rattle.row.specs.ring.Ring.{found}

-- ---- what a message says

answered-lt : (answer : Bool) (nodes j s bits : ℕ) (cable : Cable) (set : ℕ) → nodes < 2 ^ 32 → answered answer nodes j s bits cable set < 2 ^ 32
unfolding answered
answered-lt answer nodes zero s bits cable set h = h
answered-lt answer nodes (suc j) s bits cable set h = go (says_so answer (has bits (suc j))) (answered-lt answer nodes j s bits cable set h)
  where
    m : ℕ
    m = member_in (sponsored cable set s (suc j))

    go : (b : Bool) → answered answer nodes j s bits cable set < 2 ^ 32 → cond b (with (answered answer nodes j s bits cable set) m) (answered answer nodes j s bits cable set) < 2 ^ 32
    go true l = with-lt-32 (answered answer nodes j s bits cable set) m l
    go false l = l

next-union : (here a b m : ℕ) (bit : Bool) → a < 2 ^ 32 → b < 2 ^ 32 → here ≡ union a b
    → cond bit (with here m) here ≡ union a (cond bit (with b m) b)
next-union here a b m true p q e = ap (λ (t : ℕ). with t m) e ∙ union-with a b m p q
next-union here a b m false p q e = e

-- those with a yes are added to the marks that are on
confirmed-union : (j s bits : ℕ) (v : Node) → v.present < 2 ^ 32 → confirmed j s bits v ≡ union v.present (answered true (with 0 s) j s bits v.cable v.set)
unfolding confirmed answered
confirmed-union zero s bits v l = ap (λ (t : ℕ). with t s) (sym (or_zero_r v.present)) ∙ union-with v.present 0 s l (omega arith)
confirmed-union (suc j) s bits v l =
    next-union (confirmed j s bits v) v.present (answered true (with 0 s) j s bits v.cable v.set) (member_in (sponsored v.cable v.set s (suc j))) (has bits (suc j)) l
    (answered-lt true (with 0 s) j s bits v.cable v.set (with-lt-32 0 s (omega arith)))
    (confirmed-union j s bits v l)

-- one member more: is it this node?
one-more : (own nodes : ℕ) (f : Option Found) (so : Bool) → 1 ≤ own → own ≤ 32 → has (cond so (with nodes (member_in f)) nodes) own ≡ (has nodes own || (is_found own f && so))
unfolding with
one-more own nodes (Some f) true a b =
    by_cases (eqb f.member own)
    (λ e. rw e (ap (λ (x : ℕ). has (with nodes x) own) (eqb-true f.member own e) ∙ has-with nodes own a b ∙ sym (or-true (has nodes own))))
    (λ e. rw e (has-with-other nodes f.member own (eqb-false f.member own e) ∙ sym (or-false (has nodes own))))
one-more own nodes (Some f) false a b = sym (ap (λ (c : Bool). has nodes own || c) (and-false (eqb f.member own)) ∙ or-false (has nodes own))
one-more own nodes None true a b = sym (or-false (has nodes own))
one-more own nodes None false a b = sym (or-false (has nodes own))

-- whether this node is among them is what the message says of its own one
answered-own : (answer : Bool) (nodes j s bits : ℕ) (v : Node) → 1 ≤ v.own → v.own ≤ 32
    → has (answered answer nodes j s bits v.cable v.set) v.own ≡ (has nodes v.own || says answer j s bits v)
unfolding answered says
answered-own answer nodes zero s bits v a b = sym (or-false (has nodes v.own))
answered-own answer nodes (suc j) s bits v a b =
    let f = sponsored_in s (suc j) v in
    let now = says_so answer (has bits (suc j)) in
    one-more v.own (answered answer nodes j s bits v.cable v.set) f now a b
    ∙ ap (λ (c : Bool). c || (is_found v.own f && now)) (answered-own answer nodes j s bits v a b)
    ∙ or_assoc (has nodes v.own) (says answer j s bits v) (is_found v.own f && now)

-- ---- a digest of the record's cable, and of any set

module _ (s : ℕ) (heard : Reading) (v : Node) (set : ℕ) where
  decided-is : decided_by (digest_of s heard v.cable set) s v ≡ member_in (decided_in s v)
  unfolding digest_of
  decided-is =
      by_cases (eqb set v.set)
      (λ e. chosen _ _ e ∙ ap (λ (t : ℕ). member_in (decided v.cable t s)) (eqb-true set v.set e))
      (λ e. otherwise _ _ e)

  said-is : said_by (digest_of s heard v.cable set) s (bits_heard heard) v ≡ said_of s (bits_heard heard) v.cable v.set
  unfolding digest_of
  said-is =
      by_cases (eqb set v.set)
      (λ e. chosen _ _ e ∙ ap (said_of s (bits_heard heard) v.cable) (eqb-true set v.set e))
      (λ e. otherwise _ _ e)

-- what the message of another node does to the marks, and to yes heard
marks-are : (s bits : ℕ) (v : Node) → 1 ≤ v.own → v.own ≤ 32 → v.present < 2 ^ 32 → marks_by (said_of s bits v.cable v.set) v ≡ heard_marks s bits v
unfolding heard_marks
marks-are s bits v a b l =
    let marks = confirmed-union (sponsors_in v) s bits v l in
    let no : has (answered false 0 (sponsors_in v) s bits v.cable v.set) v.own ≡ hears_no s bits v
    = answered-own false 0 (sponsors_in v) s bits v a b ∙ ap (λ (c : Bool). c || hears_no s bits v) (has-none v.own) in
    ap₂ (λ (c : Bool) (m : ℕ). cond (c && not v.yes_heard) (without m v.own) m) no (sym marks)

yes-is : (s bits : ℕ) (v : Node) → s ≢ v.own → 1 ≤ v.own → v.own ≤ 32 → has (said_of s bits v.cable v.set).yes v.own ≡ hears_yes s bits v
yes-is s bits v d a b =
    answered-own true (with 0 s) (sponsors_in v) s bits v a b
    ∙ ap (λ (c : Bool). c || hears_yes s bits v) (has-with-other 0 s v.own d ∙ has-none v.own)

-- what is heard is the message of the digest, or nothing; of the own slot nothing is
module _ (s : ℕ) (heard : Reading) (v : Node) (set : ℕ) where
  pub effect_is : (told : Reading) → (is_heard told ≡ true → told ≡ heard) → FromOther s told v.own → 1 ≤ v.own → v.own ≤ 32 → v.present < 2 ^ 32
      → effect_of (digest_of s heard v.cable set) s told v ≡ record { heard = is_heard told; marks = marks_after s told v; yes = yes_after s told v; returned = return_in told }
  effect_is (Ok told) h d a b l =
      let same : told.acknowledgements ≡ bits_heard heard = ap bits_heard (h refl) in
      let said : said_by (digest_of s heard v.cable set) s told.acknowledgements v ≡ said_of s told.acknowledgements v.cable v.set
      = ap (λ (x : ℕ). said_by (digest_of s heard v.cable set) s x v) same ∙ said-is s heard v set ∙ ap (λ (x : ℕ). said_of s x v.cable v.set) (sym same) in
      let other : eqb s v.own ≡ false = ne_eqb s v.own d in
      ap (λ (x : Said). heard_effect x told.return_bit v) said
      ∙ ap₂ (λ (m : ℕ) (y : Bool). record { heard = true; marks = m; yes = y; returned = told.return_bit })
      (marks-are s told.acknowledgements v a b l ∙ sym (otherwise _ _ other))
      (ap (λ (c : Bool). v.yes_heard || c) (yes-is s told.acknowledgements v d a b) ∙ ap (λ (c : Bool). not c && (v.yes_heard || hears_yes s told.acknowledgements v)) (sym other))
  effect_is (Err r) h d a b l = refl

-- ---- step 3

-- nobody is decided
none-leaves : (times s set : ℕ) (v : Node) → departures times 0 s set v ≡ Some set
unfolding departures
none-leaves zero s set v = refl
none-leaves (suc times) s set v = refl

nobody : (inside : Bool) (s : ℕ) (w : Node) → departing_by inside 0 s w ≡ settle inside s w
nobody inside s w = ap (λ (d : Option ℕ). ended inside s d w) (none-leaves w.cable.n s w.set w)

-- a decided member is a node
decided-node : (cable : Cable) (set s m back : ℕ) → decided cable set s ≡ found m back → 1 ≤ m
unfolding decided has
decided-node cable set s zero back e = absurd (true≢false (sym (sponsored-member cable set s (sponsors cable set) 0 back e)))
decided-node cable set s (suc m) back e = omega arith

-- it leaves where the code does not see that nobody does
leaves_by : (f : Option Found) (marks : ℕ) → ((m back : ℕ) → f ≡ found m back → 1 ≤ m)
    → (is_found (member_in f) f && not (has marks (member_in f))) ≡ not (eqb (member_in f) 0 || has marks (member_in f))
leaves_by (Some f) marks h =
    let self : eqb f.member f.member ≡ true = eq-eqb f.member f.member refl in
    let some : eqb f.member 0 ≡ false = ne_eqb f.member 0 (λ z. omega (arith, h f.member f.back refl)) in
    rw (self, some) refl
leaves_by None marks h = refl

-- who leaves does so whatever its set is
leave-set : (set : ℕ) (v : Node) → leave (leaving_cause 1) (with_set set v) ≡ leave Unconfirmed v
unfolding leave
leave-set set v = refl

departures-are : (times s set : ℕ) (v : Node) → ended true s (departures times (member_in (decided v.cable set s)) s set v) v ≡ departing times s (with_set set v)
unfolding departures departing
departures-are zero s set v = refl
departures-are (suc times) s set v =
    by_cases (stays_on m v)
    (λ e. ap rest (chosen _ _ e) ∙ sym (otherwise _ _ (goes ∙ ap not e)))
    (λ e.
    ap rest (otherwise _ _ e)
    ∙ by_cases (eqb m v.own)
    (λ o. ap rest (chosen _ _ o) ∙ sym (leave-set set v) ∙ sym (chosen _ _ o))
    (λ o. ap rest (otherwise _ _ o) ∙ departures-are times s (without set m) v ∙ sym (otherwise _ _ o))
    ∙ sym (chosen _ _ (goes ∙ ap not e)))
  where
    m : ℕ
    m = member_in (decided v.cable set s)

    rest : Option ℕ → Node
    rest d = ended true s d v

    goes : leaves s (with_set set v) (member_in (decided v.cable set s)) ≡ not (stays_on (member_in (decided v.cable set s)) v)
    goes = leaves_by (decided v.cable set s) v.present (λ x back p. decided-node v.cable set s x back p)

-- ---- the slot

noted-by : (s : ℕ) (told : Reading) (v : Node) → noted_by s (is_heard told) v ≡ noted s told v
unfolding noted_by noted
noted-by s told v = refl

with-is : (s : ℕ) (told : Reading) (v : Node)
    → tracking_with (has v.set s) (record { heard = is_heard told; marks = marks_after s told v; yes = yes_after s told v; returned = return_in told }) (member_in (decided_in s v)) s v ≡ slot_by_cases v.cable.n s told v
unfolding slot_by_cases inside_slot outside_slot
with-is s told v =
    by_cases (has v.set s)
    (λ e. rw e (ap (cond (return_in told && eqb v.returning 0) (leave MissedReturn v)) (departures-are v.cable.n s v.set (read_marked s told v))))
    (λ e. rw e (nobody false s (noted_by s (is_heard told) v) ∙ ap (settle false s) (noted-by s told v)))

pub tracking-digest : (s : ℕ) (heard told : Reading) (set : ℕ) (v : Node) → (is_heard told ≡ true → told ≡ heard) → FromOther s told v.own → 1 ≤ v.own → v.own ≤ 32 → v.present < 2 ^ 32
    → tracking_by (digest_of s heard v.cable set) s told v ≡ slot_by_cases v.cable.n s told v
unfolding tracking_by
tracking-digest s heard told set v h d o m p =
    ap₂ (λ (e : Effect) (x : ℕ). tracking_with (has v.set s) e x s v) (effect_is s heard v set told h d o m p) (decided-is s heard v set)
    ∙ with-is s told v
