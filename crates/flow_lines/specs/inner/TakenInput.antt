-- For private clauses: the bytes read so far from a source that is read to its end.
use Rattle.std.specs.Prelude.{◌≡◌, ◌≤◌, ℕ, List, ◌++◌, length, Option, option_map}
use Rattle.flow_lines.specs.declared.whole_input.TheConstants.{MAX_WHOLE_INPUT}

-- the bytes left in a source before these were read
abbrev pub before : List ℕ → Option (List ℕ) → Option (List ℕ)
before bytes left = option_map (λ rest. bytes ++ rest) left

-- after some turns, each of which took a byte at least
pub record HasTakenBytes (turns : ℕ) (bytes : List ℕ) (start left : Option (List ℕ)) (faults faults_now : ℕ) : Type 0 where
  pub took : turns ≤ length bytes
  pub fits : length bytes ≤ MAX_WHOLE_INPUT
  pub all : start ≡ before bytes left
  pub quiet : faults_now ≡ faults
