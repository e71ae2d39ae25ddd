-- The state of the standard input and output at one moment of a run, as far as it is observable.
use Rattle.std.specs.Prelude.{◌≡◌, ℕ, List, Option}

-- the bytes left in the input, the bytes left when its last read began, and the bytes written to
-- the output
pub record Streams : Type 0 where
  pub left : Option (List ℕ)
  pub began : Option (List ℕ)
  pub written : Option (List ℕ)

abbrev pub streams : Option (List ℕ) → Option (List ℕ) → Option (List ℕ) → Streams
streams left began written = record { left = left; began = began; written = written }

-- nothing was read or written
abbrev pub AreUntouched : Streams → Streams → Type 0
AreUntouched before after = after ≡ before
