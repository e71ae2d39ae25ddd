-- An input that is read to its end, of bounded length.
use Rattle.std.specs.Prelude.{◌≡◌, ◌<◌, ◌≤◌, ℕ, List, length, Option, IfSome}
use Rattle.flow_edges.specs.Flow.{IsAtEnd}
use Rattle.flow_lines.specs.declared.whole_input.TheConstants.{MAX_WHOLE_INPUT}

-- these are all bytes of the source, and it was read to its end
pub record IsWholeInput (bytes : List ℕ) (left left_after : Option (List ℕ)) : Type 0 where
  pub fits : length bytes ≤ MAX_WHOLE_INPUT
  pub all : IfSome left (λ there. there ≡ bytes)
  pub ended : IsAtEnd left_after

-- the source has more bytes than may be
abbrev pub IsTooLong : Option (List ℕ) → Type 0
IsTooLong left = IfSome left (λ there. MAX_WHOLE_INPUT < length there)
