-- The messages that state why a command ended.
use Rattle.std.specs.Prelude.{◌≡◌, ◌⊎◌, ℕ, List, ◌++◌, Option, codes, decimal}
use Rattle.flow_edges.specs.Faults.{HasIncreased}
use Rattle.flow_edges.specs.Flow.{written_with, WritesPrefix}
use Rattle.pattern_types.specs.declared.pattern.Pattern.{Pattern}
use Rattle.pattern_reader.specs.declared.pattern_refusal.PatternRefusal.{PatternRefusal}
use Rattle.pattern_reader.specs.PatternRefusal.{pattern_refusal_text}
use Rattle.pattern_reader.specs.Read.{IsReadAs, IsRefusedAs}

-- the text is read as no pattern
abbrev pub IsUnreadPattern : List ℕ → Type 0
IsUnreadPattern text = (pattern : Pattern) → ¬ IsReadAs text pattern

-- it is refused as a pattern for this reason
pub record IsRefusedPattern (text : List ℕ) (refusal : PatternRefusal) : Type 0 where
  pub unread : IsUnreadPattern text
  pub why : IsRefusedAs text refusal

-- why a pattern is refused
abbrev pub pattern_reason : PatternRefusal → List ℕ
pattern_reason refusal = codes "pattern refused: " ++ (pattern_refusal_text refusal ++ codes "\n")

-- the message for an exceeded limit on retained partial matches
abbrev pub over_limit_reason : ℕ → ℕ → List ℕ
over_limit_reason number retained_limit = codes "crowded at observation " ++ (decimal number ++ (codes ": cap " ++ (decimal retained_limit ++ codes "\n")))

-- store refused: row after DATE
abbrev pub bad_row_reason : ℕ → List ℕ
bad_row_reason date = codes "store refused: row after " ++ (decimal date ++ codes "\n")

-- store fault: WHY
abbrev pub store_fault_reason : List ℕ → List ℕ
store_fault_reason cause = codes "store fault: " ++ (cause ++ codes "\n")

-- the text was written, or a prefix of it where the sink's count of faults rose
abbrev pub WritesReason : List ℕ → Option (List ℕ) → Option (List ℕ) → ℕ → ℕ → Type 0
WritesReason text written written_after faults faults_after =
    (written_after ≡ written_with text written) ⊎ (WritesPrefix text written written_after × HasIncreased faults faults_after)
