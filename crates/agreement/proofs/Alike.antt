-- What a slot leaves as it was in a node, whatever it is. Assumes nothing.
use Prim.Native.Nat.{ℕ}
use mathlib.Core.Path.{◌≡◌, refl}
use mathlib.Core.Bool.{Bool, true, false, cond, false≢true}
use lib.Dec.{eqb, ltb}
use Rattle.bench.specs.message.Answers.{Reading}
use Rattle.bench.specs.node_record.declared.Node.{Node}
use Rattle.bench.specs.node_record.declared.Window.{Window}
use Rattle.bench.specs.node_record.declared.State.{State}
use Rattle.bench.specs.node_record.declared.State.TheVariants.{Member, Listening, Following, Knocking, Out}
use Rattle.bench.specs.node_record.declared.Cause.{Cause}
use Rattle.bench.specs.node_record.States.{is_member, is_listening}
use Rattle.bench.proofs.node_record.Tracking.{tracks}
use Rattle.bench.specs.node_changes.Changes.{counted, with_set, with_window, following_with, listening_after}
use Rattle.bench.specs.node_steps.Inner.{read_marked, slot_by_cases}
use Rattle.bench.specs.node_hearing.Hearing.{overheard, clean, window_end, goes_on, listening_by}
use Rattle.bench.specs.node_slot.Inner.{read_in}
use Rattle.agreement.proofs.Marks.{no_both}
use Rattle.bench.proofs.Choices.{choose}
use Rattle.bench.proofs.Counted.{Same, same}
use Rattle.agreement.proofs.Outcome.{Gone, isout, listens, Settled, gone, kept, backed, became, joined, Departed, left, settled, Inside, missed, went, Noted, knocks, silent, awaits, ignores, set_after}

pub not-listening : (st : State) → tracks st ≡ true → is_listening st ≡ false
not-listening Member f = refl
not-listening Listening f = absurd (false≢true f)
not-listening Following f = refl
not-listening Knocking f = refl
not-listening (Out x) f = refl

pub listening-only : (st : State) → is_listening st ≡ true → tracks st ≡ false
listening-only Member f = absurd (false≢true f)
listening-only Listening f = refl
listening-only Following f = absurd (false≢true f)
listening-only Knocking f = absurd (false≢true f)
listening-only (Out x) f = refl

-- if it listens, it has just begun
abbrev pub JustBegun : Node → Type 0
JustBegun x = is_listening x.state ≡ true → (x.listening.done ≡ 0) × (x.listening.heard ≡ 0) × (x.listening.last ≡ 0)

abbrev pub Like : Node → Node → Type 0
Like v x = Same v x × JustBegun x

pub gone-like : (v x : Node) → Gone v x → Like v x
gone-like v x (isout c e) = rw e (same v _ refl refl refl, λ p. absurd (false≢true p))
gone-like v x (listens e) = rw e (same v _ refl refl refl, λ p. (refl, refl, refl))

pub gone-not : (v x : Node) → Gone v x → tracks x.state ≡ false
gone-not v x (isout c e) = rw e refl
gone-not v x (listens e) = rw e refl

pub settled-like : (b : Bool) (s : ℕ) (v x : Node) → is_listening v.state ≡ false → Settled b s v x → Like v x
settled-like b s v x nl (gone g) = gone-like v x g
settled-like b s v x nl (kept f e) = rw e (same v _ refl refl refl, λ p. absurd (no_both p nl))
settled-like b s v x nl (backed j kn h e) = rw e (same v _ refl refl refl, λ p. absurd (false≢true p))
settled-like b s v x nl (became j kn h e) = rw e (same v _ refl refl refl, λ p. absurd (false≢true p))
settled-like b s v x nl (joined j nk e) = rw e (same v _ refl refl refl, λ p. absurd (no_both p nl))

pub departed-like : (s m : ℕ) (v x : Node) → is_listening v.state ≡ false → Departed s m v x → Like v x
departed-like s m v x nl (left g) = gone-like v x g
departed-like s m v x nl (settled ne st) = settled-like true s (with_set (set_after m v) v) x nl st

pub inside-like : (s m : ℕ) (r : Reading) (v x : Node) → is_listening v.state ≡ false → Inside s m r v x → Like v x
inside-like s m r v x nl (missed g) = gone-like v x g
inside-like s m r v x nl (went f d) = departed-like s m (read_marked s r v) x nl d

pub noted-like : (s : ℕ) (heard : Reading) (v x : Node) → is_listening v.state ≡ false → Noted s heard v x → Same v x × (is_listening x.state ≡ false)
noted-like s heard v x nl (knocks a b c e) = rw e (same v _ refl refl refl, refl)
noted-like s heard v x nl (silent a b e) = rw e (same v _ refl refl refl, nl)
noted-like s heard v x nl (awaits a b c e) = rw e (same v _ refl refl refl, nl)
noted-like s heard v x nl (ignores a b e) = rw e (same v _ refl refl refl, nl)

pub member-tracks : (st : State) → is_member st ≡ true → tracks st ≡ true
member-tracks Member f = refl
member-tracks Listening f = absurd (false≢true f)
member-tracks Following f = refl
member-tracks Knocking f = refl
member-tracks (Out x) f = absurd (false≢true f)

pub listening-no-member : (st : State) → is_listening st ≡ true → is_member st ≡ false
listening-no-member Member f = absurd (false≢true f)
listening-no-member Listening f = refl
listening-no-member Following f = refl
listening-no-member Knocking f = refl
listening-no-member (Out x) f = refl

pub listening-not-member : (s : ℕ) (r : Reading) (v : Node) → is_listening v.state ≡ true → is_member (listening_by s r v).state ≡ false
unfolding listening_by goes_on window_end
listening-not-member s r v li = go (overheard s r v.listening)
  where
    go : (l : Window) → is_member (cond (ltb l.done v.cable.n) (with_window l v) (cond (clean v.cable l) (cond (eqb l.last l.heard) (following_with l.heard v) (listening_after l.heard v)) (listening_after 0 v))).state ≡ false
    go l = choose (λ (x : Node). is_member x.state ≡ false) (ltb l.done v.cable.n) (with_window l v) _
        (λ _. listening-no-member v.state li)
        (λ _. choose (λ (x : Node). is_member x.state ≡ false) (clean v.cable l) _ (listening_after 0 v)
        (λ _. choose (λ (x : Node). is_member x.state ≡ false) (eqb l.last l.heard) (following_with l.heard v) (listening_after l.heard v) (λ _. refl) (λ _. refl))
        (λ _. refl))

-- by what a node is
pub by_state : (P : Node → Type 0) (v : Node) (times s : ℕ) (r : Reading)
    → (tracks v.state ≡ true → P (slot_by_cases times s r (counted v)))
    → (is_listening v.state ≡ true → P (listening_by s r (counted v)))
    → ((c : Cause) → v.state ≡ Out c → P (counted v))
    → P (read_in times v.state s r (counted v))
by_state P v times s r f g o = go v.state refl
  where
    go : (st : State) → v.state ≡ st → P (read_in times st s r (counted v))
    go Member e = f (rw e refl)
    go Listening e = g (rw e refl)
    go Following e = f (rw e refl)
    go Knocking e = f (rw e refl)
    go (Out c) e = o c e

-- so many departure steps as so many, where that is so of a node that tracks the list
pub as_many : (a b s : ℕ) (r : Reading) (v : Node) → (tracks v.state ≡ true → slot_by_cases a s r (counted v) ≡ slot_by_cases b s r (counted v))
    → read_in a v.state s r (counted v) ≡ read_in b v.state s r (counted v)
as_many a b s r v f = go v.state refl
  where
    go : (st : State) → v.state ≡ st → read_in a st s r (counted v) ≡ read_in b st s r (counted v)
    go Member e = f (rw e refl)
    go Listening e = refl
    go Following e = f (rw e refl)
    go Knocking e = f (rw e refl)
    go (Out c) e = refl
