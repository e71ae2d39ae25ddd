-- For private clauses: the bytes that a value encodes.
use Rattle.std.specs.Prelude.{◌≡◌, ◌↔◌, ℕ, List, Option, Some}
use Rattle.serde_json.specs.Data.{Data}
use Rattle.serde_json.specs.Find.{as_str}
use Rattle.match_comparisons.specs.Tests.{IsBytesOf}

-- the value is a text that encodes these bytes, by the name of its property; None where it encodes
-- none
abbrev pub EncodesBytes : Option (List ℕ) → Data → Option (List ℕ) → Type 0
EncodesBytes last value own =
    (bytes : List ℕ) → ((text : List ℕ) × (as_str value ≡ Some text) × IsBytesOf last text bytes) ↔ (own ≡ Some bytes)
