-- What is written for a log: the line of each of its bindings.
use Rattle.std.specs.Prelude.{ℕ, List, [], ◌∷◌}
use Rattle.std.specs.List.{flat_map}
use Rattle.pattern_types.specs.declared.pattern.Pattern.{Pattern}
use Rattle.match_bindings.specs.declared.log_entry.LogEntry.{LogEntry}
use Rattle.match_bindings.specs.NumberedPattern.{numbered_pattern}
use Rattle.match_bindings.specs.BindTree.{BindTree, greatest}
use Rattle.match_bindings.specs.Log.{observed_in}
use Rattle.match_bindings.specs.Listing.{IsListing}
use Rattle.match_bindings.specs.Line.{line_text}

-- the bindings of a pattern over a log, each once, in the order of their last observations
abbrev pub AreBindings : Pattern → List LogEntry → List BindTree → Type 0
AreBindings p log trees = IsListing (observed_in log) (numbered_pattern p) trees

abbrev pub listing_text : List BindTree → List ℕ
listing_text trees = flat_map line_text trees

-- the greatest number of the last one, or 0
abbrev pub last_number : List BindTree → ℕ
last_number [] = 0
last_number (x ∷ []) = greatest x
last_number (x ∷ y ∷ trees) = last_number (y ∷ trees)
