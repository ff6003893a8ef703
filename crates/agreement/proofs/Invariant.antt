-- The invariant of a tracking node (S, T, M, R of the paper proof), and of a listening one (Q).
use Prim.Native.Nat.{ℕ, ◌+◌, ◌^◌, ◌<◌}
use mathlib.Core.Path.{◌≡◌}
use mathlib.Core.Logic.{◌≢◌, ◌⊎◌}
use mathlib.Core.Bool.{Bool, true, false}
use Rattle.bench.specs.nodeset.Sets.{has}
use Rattle.bench.specs.ring.Ring.{sender}
use Rattle.bench.specs.node_record.declared.Node.{Node}
use Rattle.bench.specs.node_record.States.{is_member, is_knocking}
use Rattle.agreement.proofs.History.{World, Untold}

module _ (W : World) where
  open W use {cable, E}
  open cable use {n}

  -- the mark of the sender of a sent slot u is off at node i
  pub record Off (N i u : ℕ) (v : Node) : Type 0 where
    pub member : is_member v.state ≡ true
    pub listed : (E u).listed ≡ true
    pub who : ((E u).missed i ≡ true) ⊎ (i ≡ sender cable u)
    pub untold : Untold W u N

  -- slot u was listed and not sent: its sender is marked at nobody but itself, and there only while no member told it; it has heard no yes
  pub record Lost (N i u marks : ℕ) (heard : Bool) : Type 0 where
    pub on : has marks (sender cable u) ≡ true → (i ≡ sender cable u) × Untold W u N
    pub unsaid : i ≡ sender cable u → heard ≡ false

  -- the knock that returning speaks of
  pub record Knock (N L : ℕ) (v : Node) : Type 0 where
    pub w : ℕ
    pub e : ℕ
    pub ago : w + e ≡ N
    pub recent : e < n
    pub unlisted : (E w).listed ≡ false
    pub outer : (E w).outside ≡ true
    pub it : sender cable w ≡ v.returning
    pub away : has L (sender cable w) ≡ false
    -- a member speaks before the node's next slot
    pub p : ℕ
    pub ahead : N < p
    pub soon : p < w + n
    pub next : has L (sender cable p) ≡ true
    pub how : ((E w).sent ≡ true) ⊎ (is_knocking v.state ≡ true)

  -- what an open knock is to node i
  pub data Awaits (N i w : ℕ) (v : Node) : Type 0 where
    aware : v.returning ≡ sender cable w → (i ≡ sender cable w → (v.return_heard ≡ true) ⊎ Untold W w N) → Awaits N i w v
    unaware : is_member v.state ≡ true → v.returning ≡ 0 → i ≢ sender cable w → (E w).missed i ≡ true → Untold W w N → Awaits N i w v

  pub record Tracking (N L i : ℕ) (v : Node) : Type 0 where
    -- S and T
    pub set_is : v.set ≡ L
    pub own-in : is_member v.state ≡ true → has L i ≡ true
    pub own_out : is_member v.state ≡ false → has L i ≡ false
    -- M
    pub marks-off : (u e : ℕ) → u + e ≡ N → e < n → (E u).listed ≡ true → (E u).sent ≡ false → Lost N i u v.present v.yes_heard
    pub marks-on : (u e : ℕ) → u + e ≡ N → e < n → (E u).sent ≡ true → has L (sender cable u) ≡ true → has v.present (sender cable u) ≡ false → Off N i u v
    -- R
    pub knock : v.returning ≢ 0 → Knock N L v
    pub open-knock : (w e : ℕ) → w + e ≡ N → e < n → (E w).listed ≡ false → (E w).sent ≡ true → has L (sender cable w) ≡ false → Awaits N i w v
    pub knocking-own : is_knocking v.state ≡ true → v.returning ≡ i
    pub own-knocking : v.returning ≡ i → is_knocking v.state ≡ true
    pub quiet : is_knocking v.state ≡ false → v.return_heard ≡ false
    pub lost-knock : is_knocking v.state ≡ true → (w e : ℕ) → w + e ≡ N → e < n → sender cable w ≡ i → (E w).sent ≡ false → v.return_heard ≡ false

  -- Q
  pub record ListeningInv (N i : ℕ) (v : Node) : Type 0 where
    pub short : v.listening.done < n
    pub heard-lt : v.listening.heard < 2 ^ n
    pub last-lt : v.listening.last < 2 ^ n
    pub own-unheard : has v.listening.heard i ≡ false
    pub heard-is : (u e : ℕ) → u + e ≡ N → e < v.listening.done → has v.listening.heard (sender cable u) ≡ (E u).sent
    pub heard-only : (x : ℕ) → ((u e : ℕ) → u + e ≡ N → e < v.listening.done → sender cable u ≢ x) → has v.listening.heard x ≡ false
    pub knock-shows : (u e : ℕ) → u + e ≡ N → e < v.listening.done → (E u).sent ≡ true → (E u).listed ≡ false → v.listening.shortest ≡ 0
    pub last-is : v.listening.last ≢ 0 → (u e : ℕ) → u + e + v.listening.done ≡ N → e < n → (has v.listening.last (sender cable u) ≡ (E u).sent) × ((E u).sent ≡ true → (E u).listed ≡ true)
