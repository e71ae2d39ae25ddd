-- The outcome of a store where pages of a peer's collection are absorbed in order.
use Rattle.std.specs.Prelude.{◌≡◌, ℕ, List, [], ◌∷◌}
use Rattle.taxii_rows.specs.StoreState.{StoreState}
use Rattle.taxii_client.specs.Absorbing.{Absorbed, Absorbs}

-- the pages lead from one state of the store to another, each from what the one before left
abbrev pub Mirrored : ℕ → StoreState → List Absorbed → StoreState → Type 0
Mirrored collection state [] last = last ≡ state
Mirrored collection state (page ∷ pages) last = (next : StoreState) × Absorbs collection page state next × Mirrored collection next pages last
