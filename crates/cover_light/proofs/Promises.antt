-- What request n promises holds. Assumes nothing.
use Rattle.std.specs.Prelude.{Err, Ok}
use Prim.Native.Nat.{ℕ, ◌+◌, ◌-◌, ◌≤◌}
use mathlib.Core.Path.{◌≡◌, refl, sym, ap, ◌∙◌}
use mathlib.Core.Bool.{Bool, true, false, cond}
use mathlib.Core.List.{List, ◌++◌, map, map_congr_left}
use native.Mathlib.Omega.{arith}
use lib.Dec.{leb}
use lib.ListN.{length, get_or, drop, get_or-append}
use borrow.Author.Tests.{le-leb}
use Rattle.refusal.specs.declared.Refusal.{Refusal}
use Rattle.nodeset.specs.Sets.{has, without}
use Rattle.nodeset.proofs.Tests.{by_cases, all, chosen, otherwise}
use Rattle.nodeset.proofs.Laws.{without-part}
use Rattle.cable.specs.Cable.{node_number}
use Rattle.cable.specs.slot_table.Order.{numbers_from}
use Rattle.message.specs.Answers.{Written}
use Rattle.message.specs.Message.{Outcome, if_written, unwritten}
use Rattle.node_record.specs.declared.Node.{Node}
use Rattle.node_record.specs.States.{is_member}
use Rattle.node_record.specs.Soundness.{sound}
use Rattle.cover_light.specs.Light.{Light, brightest, half, worked, lamp_level, bases_fit, level_of, all_levels, levels_of}
use Rattle.cover_light.specs.Promises.{Work, Alike, CoverLight}
use Rattle.cover_light.proofs.Lamps.{number_at, how-many}

-- ---- a level that is given

-- a choice that is a level is the first of the two, where the second is a refusal
not-refused : (t : Bool) (x : Light) (why : Refusal) (a : ℕ) → cond t x (Err why) ≡ Ok a → x ≡ Ok a
not-refused true x why a e = e
not-refused false x why a e = let z : ◌≡◌ {A = ℕ} 0 1 = cc in absurd (omega arith)

level-is : (v : Node) (bases : List ℕ) (lamp a : ℕ) → level_of v bases lamp ≡ Ok a → a ≡ lamp_level v bases lamp
unfolding level_of
level-is v bases lamp a e =
    let one = not-refused (sound v) _ _ a e in
    let two = not-refused (node_number v.cable.n lamp) _ _ a one in
    let three = not-refused (bases_fit v.cable.n bases) _ _ a two in
    cc three

pub given-by : (v : Node) (bases : List ℕ) (lamp : ℕ) → sound v ≡ true → node_number v.cable.n lamp ≡ true → bases_fit v.cable.n bases ≡ true → level_of v bases lamp ≡ Ok (lamp_level v bases lamp)
unfolding level_of
given-by v bases lamp s l f = rw (s, l, f) refl

pub member-level : (v : Node) (bases : List ℕ) (lamp : ℕ) → is_member v.state ≡ true → lamp_level v bases lamp ≡ worked v.set bases lamp
unfolding lamp_level
member-level v bases lamp m = chosen _ _ m

worked-level : (v : Node) (bases : List ℕ) (lamp a : ℕ) → is_member v.state ≡ true → level_of v bases lamp ≡ Ok a → a ≡ worked v.set bases lamp
worked-level v bases lamp a m e = level-is v bases lamp a e ∙ member-level v bases lamp m

-- ---- equal lists

equal : (v w : Node) (bases : List ℕ) (lamp a b : ℕ) → v.set ≡ w.set → Work v w bases lamp a b → a ≡ b
equal v w bases lamp a b e k =
    worked-level v bases lamp a k.one k.first ∙ ap (λ (list : ℕ). worked list bases lamp) e ∙ sym (worked-level w bases lamp b k.other k.second)

module _ (v w : Node) (alike : Alike v w) (bases : List ℕ) where
  level-alike : (lamp : ℕ) → lamp_level v bases lamp ≡ lamp_level w bases lamp
  level-alike lamp =
      member-level v bases lamp alike.one ∙ ap (λ (list : ℕ). worked list bases lamp) alike.list ∙ sym (member-level w bases lamp alike.other)

  same-level : (lamp : ℕ) → level_of v bases lamp ≡ level_of w bases lamp
  unfolding level_of
  same-level lamp = rw (alike.one-sound, alike.other-sound, level-alike lamp, alike.lamps) refl

  all_alike : (lamps : List ℕ) → map (lamp_level v bases) lamps ≡ map (lamp_level w bases) lamps
  all_alike lamps = map_congr_left {f = lamp_level v bases} {g = lamp_level w bases} {l = lamps} (λ lamp m. level-alike lamp)

  same-levels : (out : List ℕ) → levels_of v bases out ≡ levels_of w bases out
  unfolding levels_of all_levels
  same-levels out = rw (alike.one-sound, alike.other-sound, all_alike (numbers_from v.cable.n 1), alike.lamps) refl

-- ---- fewer listed

module _ (more less : ℕ) (part : (y : ℕ) → has less y ≡ true → has more y ≡ true) (bases : List ℕ) where
  half-more : (lamp : ℕ) → half more bases lamp ≤ half less bases lamp
  unfolding half
  half-more lamp =
      by_cases (has less lamp)
      (λ h. rw (h, part lamp h) (omega arith))
      (λ h. by_cases (has more lamp) (λ g. rw (h, g) (omega arith)) (λ g. rw (h, g) (omega arith)))

  fewer-no-darker : (lamp : ℕ) → worked more bases lamp ≤ worked less bases lamp
  unfolding worked
  fewer-no-darker lamp = omega (arith, half-more (lamp - 1), half-more (lamp + 1))

no-darker : (v w : Node) (bases : List ℕ) (lamp a b x : ℕ) → w.set ≡ without v.set x → Work v w bases lamp a b → a ≤ b
no-darker v w bases lamp a b x e k =
    let part : (y : ℕ) → has w.set y ≡ true → has v.set y ≡ true = λ y h. without-part v.set x y (sym (ap (λ (s : ℕ). has s y) e) ∙ h) in
    omega (arith, worked-level v bases lamp a k.one k.first, worked-level w bases lamp b k.other k.second, fewer-no-darker v.set w.set part bases lamp)

-- ---- at most 254

at_most : (v : Node) (bases : List ℕ) (lamp a : ℕ) → level_of v bases lamp ≡ Ok a → a ≤ brightest
unfolding lamp_level worked
at_most v bases lamp a e =
    let is = level-is v bases lamp a e in
    by_cases (is_member v.state)
    (λ m. omega (arith, is ∙ chosen _ _ m))
    (λ m. omega (arith, is ∙ otherwise _ _ m))

-- ---- what is written

not-unwritten : (t : Bool) (number : ℕ) (out : List ℕ) (o : Outcome) (count : ℕ) (after : List ℕ) → if_written t number out o ≡ (Ok count, after) → (t ≡ true) × (o ≡ (Ok count, after))
not-unwritten true number out o count after e = (refl, e)
not-unwritten false number out o count after e = let q : unwritten number ≡ Ok count = ap (λ (r : Outcome). r.0) e in let z : ◌≡◌ {A = ℕ} 0 1 = cc in absurd (omega arith)

written : (v : Node) (bases out : List ℕ) (count : ℕ) (after : List ℕ) → levels_of v bases out ≡ (Ok count, after)
    → (lamp : ℕ) → 1 ≤ lamp → lamp ≤ count → level_of v bases lamp ≡ Ok (get_or after (lamp - 1) 0)
unfolding levels_of all_levels
written v bases out count after e lamp h l =
    let n = v.cable.n in
    let f = lamp_level v bases in
    let one = not-unwritten (sound v) 4 out _ count after e in
    let two = not-unwritten (bases_fit n bases) 20 out _ count after one.1 in
    let three = not-unwritten (leb n (length out)) 9 out _ count after two.1 in
    let told : ◌≡◌ {A = Written} (Ok n) (Ok count) = ap (λ (r : Outcome). r.0) three.1 in
    let many : n ≡ count = cc in
    let laid : map f (numbers_from n 1) ++ drop n out ≡ after = ap (λ (r : Outcome). r.1) three.1 in
    let z : 1 + (lamp - 1) ≡ lamp = omega arith in
    let here : get_or after (lamp - 1) 0 ≡ f lamp
    = sym (ap (λ (o : List ℕ). get_or o (lamp - 1) 0) laid) ∙ get_or-append (map f (numbers_from n 1)) (drop n out) 0 (lamp - 1) (omega (arith, how-many f n)) ∙ number_at f n 1 (lamp - 1) (omega arith) ∙ ap f z in
    given-by v bases lamp one.0 (all (le-leb 1 lamp h) (le-leb lamp n (omega arith))) two.0 ∙ sym (ap (λ (x : ℕ). Ok x) here)

-- ---- all of it

pub cover-light : CoverLight
cover-light = record {
  equal = equal;
  same-level = same-level;
  same-levels = same-levels;
  no-darker = no-darker;
  at_most = at_most;
  written = written;
}
