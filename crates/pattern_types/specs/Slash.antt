-- How the text of a block is split into an address and a prefix length.
use Rattle.std.specs.Prelude.{◌≡◌, ◌≢◌, ℕ, List, ◌∷◌, ◌++◌, length, Option, Some, None}
use Rattle.std.specs.Borrow.{Bor}
use Rattle.std.specs.List.{AllByRecursion}

-- no byte of the text is `/`
abbrev pub HasNoSlash : List ℕ → Type 0
HasNoSlash text = AllByRecursion (λ byte. byte ≢ 47) text

-- a text without a slash is an address only, and else its first slash follows the address
abbrev pub CutsAtSlash : List ℕ → List ℕ → Option (Bor (List ℕ)) → Type 0
CutsAtSlash text address None = (text ≡ address) × HasNoSlash address
CutsAtSlash text address (Some length) = (text ≡ address ++ 47 ∷ length.now) × HasNoSlash address
