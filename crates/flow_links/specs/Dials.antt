-- `Dial`: opens connections to peers. Only some dials are observable: `None` promises nothing, and
-- an observable dial stays observable.
use Rattle.std.specs.Prelude.{◌≡◌, ℕ, ◌+◌, List, [], ◌∷◌, ◌++◌, Option}
use Rattle.flow_links.specs.Doors.{Changes}

-- an endpoint: the bytes of its host name or address, and the port
pub record Endpoint : Type 0 where
  pub host : List ℕ
  pub port : ℕ

-- the links to come; the finished links, in order; the endpoint of each link opened, in order; and
-- the number of open links: given and not finished
pub record DialState (L : Type 0) : Type 0 where
  pub coming : List L
  pub finished : List L
  pub dials : List Endpoint
  pub given : ℕ

-- nothing changed
abbrev pub DialStays : {L : Type 0} → Option (DialState L) → Option (DialState L) → Type 0
DialStays before after = after ≡ before

-- the link is the first of those to come, it leads to this host and port, and one more is open
abbrev pub Connects : {L : Type 0} → L → List ℕ → ℕ → Option (DialState L) → Option (DialState L) → Type 0
Connects link host port before after = Changes (λ state now.
    (state.coming ≡ link ∷ now.coming) × (now.finished ≡ state.finished)
    × (now.dials ≡ state.dials ++ record { host = host; port = port } ∷ []) × (now.given ≡ state.given + 1)) before after

-- the link was appended to the finished ones, and one fewer is open
abbrev pub FinishesDialedLink : {L : Type 0} → L → Option (DialState L) → Option (DialState L) → Type 0
FinishesDialedLink link before after = Changes (λ state now.
    (now.finished ≡ state.finished ++ link ∷ []) × (now.coming ≡ state.coming) × (now.dials ≡ state.dials) × (state.given ≡ now.given + 1)) before after
