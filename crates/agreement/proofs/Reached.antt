-- Whom a message reaches: by whose slot it is, what is lost, who is named, who sends. Assumes nothing.
use Rattle.std.specs.Prelude.{Err, Ok}
use mathlib.Core.Path.{◌≡◌, refl, sym}
use mathlib.Core.Bool.{Bool, true, false, cond, not, ◌&&◌, ◌||◌, true≢false, false≢true}
use Rattle.bench.specs.message.Answers.{Reading}
use Rattle.bench.specs.node_record.declared.State.{State}
use Rattle.bench.specs.node_record.declared.State.TheVariants.{Member, Listening, Following, Knocking, Out}
use Rattle.bench.specs.node_record.States.{is_member, is_listening, is_following, is_out}
use Rattle.bench.proofs.node_record.Tracking.{tracks}
use Rattle.bench.specs.node_steps.Steps.{is_heard}
use Rattle.bench.specs.node_steps.Digests.{bits_heard}
use Rattle.bench.specs.Calls.{unheard}

-- ---- what is heard: by whose slot it is, what is lost, who is named, who sends

pub hear : (ow lo mi tr : Bool) (q : Reading) → is_heard q ≡ true → is_heard (cond ow unheard (cond (lo || mi) unheard (cond tr q unheard))) ≡ ((tr && (not lo && not mi)) && not ow)
hear true lo mi tr q e = sym (last (tr && (not lo && not mi)))
  where
    last : (a : Bool) → (a && false) ≡ false
    last true = refl
    last false = refl
hear false true mi true q e = refl
hear false true mi false q e = refl
hear false false true true q e = refl
hear false false true false q e = refl
hear false false false true q e = e
hear false false false false q e = refl

-- who hears anything hears the message
pub hear-message : (ow lo mi tr : Bool) (q : Reading) → is_heard (cond ow unheard (cond (lo || mi) unheard (cond tr q unheard))) ≡ true → cond ow unheard (cond (lo || mi) unheard (cond tr q unheard)) ≡ q
hear-message true lo mi tr q e = absurd (false≢true e)
hear-message false true mi tr q e = absurd (false≢true e)
hear-message false false true tr q e = absurd (false≢true e)
hear-message false false false true q e = refl
hear-message false false false false q e = absurd (false≢true e)

pub unheard-bits : (r : Reading) → is_heard r ≡ false → bits_heard r ≡ 0
unheard-bits (Ok h) e = absurd (true≢false e)
unheard-bits (Err c) e = refl

pub unreached : (tr lo mi ow : Bool) → (tr && not lo) ≡ false → ((tr && (not lo && not mi)) && not ow) ≡ false
unreached false lo mi ow e = refl
unreached true false mi ow e = absurd (true≢false e)
unreached true true mi ow e = refl

pub and_no : (a b : Bool) → b ≡ true → (a && not b) ≡ false
and_no true b e = rw e refl
and_no false b e = refl

pub reached : (tr lo mi ow : Bool) → (tr && not lo) ≡ true → ow ≡ false → ((tr && (not lo && not mi)) && not ow) ≡ not mi
reached true false true ow e f = refl
reached true false false ow e f = rw f refl
reached true true mi ow e f = absurd (false≢true e)
reached false lo mi ow e f = absurd (false≢true e)

pub sent-parts : (tr lo : Bool) → (tr && not lo) ≡ true → (tr ≡ true) × (lo ≡ false)
sent-parts true false e = (refl, refl)
sent-parts true true e = absurd (false≢true e)
sent-parts false lo e = absurd (false≢true e)

-- ---- states

pub not-out : (st : State) → tracks st ≡ true → (is_member st || is_out st) ≡ true → is_member st ≡ true
not-out Member f g = refl
not-out Listening f g = absurd (false≢true f)
not-out Following f g = absurd (false≢true g)
not-out Knocking f g = absurd (false≢true g)
not-out (Out c) f g = absurd (false≢true f)

pub listening-neither : (st : State) → is_listening st ≡ true → (is_member st || is_out st) ≡ false
listening-neither Member f = absurd (false≢true f)
listening-neither Listening f = refl
listening-neither Following f = refl
listening-neither Knocking f = refl
listening-neither (Out c) f = absurd (false≢true f)

pub sends-tracks : (st : State) (b : Bool) → (is_member st || (is_following st && b)) ≡ true → tracks st ≡ true
sends-tracks Member b e = refl
sends-tracks Listening b e = absurd (false≢true e)
sends-tracks Following b e = refl
sends-tracks Knocking b e = absurd (false≢true e)
sends-tracks (Out c) b e = absurd (false≢true e)
