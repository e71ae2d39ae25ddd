-- `Door`: accepts connections from clients. Only some doors are observable: `None` promises
-- nothing, and an observable door stays observable.
use Rattle.std.specs.Prelude.{◌≡◌, ℕ, ◌+◌, List, [], ◌∷◌, ◌++◌, Option, Some, None, MatchOption}
use Rattle.flow_edges.specs.Faults.{counted}

-- the links to come; the finished links, in order; the number of calls of listen, up to 2^64 - 1,
-- and the port of the last one; and the number of open links: given and not finished
pub record DoorState (L : Type 0) : Type 0 where
  pub coming : List L
  pub finished : List L
  pub opened : ℕ
  pub port : Option ℕ
  pub given : ℕ

-- the effect of a call on a state, if it is observable
abbrev pub Changes : {S : Type 0} → (S → S → Type 0) → Option S → Option S → Type 0
Changes {S} How before after = MatchOption before (after ≡ None) (λ state. (now : S) × (after ≡ Some now) × How state now)

-- nothing changed
abbrev pub DoorStays : {L : Type 0} → Option (DoorState L) → Option (DoorState L) → Type 0
DoorStays before after = after ≡ before

-- the door was opened once more, it listens at this port, and nothing else changed
abbrev pub Listens : {L : Type 0} → ℕ → Option (DoorState L) → Option (DoorState L) → Type 0
Listens port before after = Changes (λ state now. now ≡ record {
  coming = state.coming;
  finished = state.finished;
  opened = counted state.opened;
  port = Some port;
  given = state.given;
}) before after

-- no call of listen in between: the count and the port are unchanged
abbrev pub StaysOpen : {L : Type 0} → DoorState L → DoorState L → Type 0
StaysOpen state now = (now.opened ≡ state.opened) × (now.port ≡ state.port)

-- the link is the first of those to come, and one more is open; with no link, none is to come, and
-- nothing changed
abbrev pub GivesNext : {L : Type 0} → Option L → Option (DoorState L) → Option (DoorState L) → Type 0
GivesNext link before after = Changes (λ state now. MatchOption link ((state.coming ≡ []) × (now ≡ state)) (λ caller.
    (state.coming ≡ caller ∷ now.coming) × (now.finished ≡ state.finished) × StaysOpen state now × (now.given ≡ state.given + 1))) before after

-- the link was appended to the finished ones, and one fewer is open
abbrev pub Finishes : {L : Type 0} → L → Option (DoorState L) → Option (DoorState L) → Type 0
Finishes link before after = Changes (λ state now.
    (now.finished ≡ state.finished ++ link ∷ []) × (now.coming ≡ state.coming) × StaysOpen state now × (state.given ≡ now.given + 1)) before after
