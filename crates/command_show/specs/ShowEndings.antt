-- What an ending of `show` says of its pattern and of what was written; its status, and its reason
-- as a text.
use Rattle.std.specs.Prelude.{◌≡◌, ℕ, List, [], ◌++◌, codes}
use Rattle.flow_edges.specs.Flow.{written_with, WritesPrefix}
use Rattle.pattern_types.specs.declared.pattern.Pattern.{Pattern}
use Rattle.pattern_types.specs.PlainPattern.{plain_pattern}
use Rattle.pattern_reader.specs.Read.{IsReadAs}
use Rattle.pattern_writer.specs.Canonical.{IsCanonical}
use Rattle.command_show.specs.declared.showing.ShowEnding.{ShowEnding}
use Rattle.command_show.specs.declared.showing.ShowEnding.TheVariants.{Shown, PatternRefused, WriteFault, NoMemory}
use Rattle.flow_edges.specs.Streams.{Streams, AreUntouched}
use Rattle.command_reasons.specs.Reasons.{IsRefusedPattern, pattern_reason}

-- the line is the canonical text of the pattern and a line feed
pub record IsLineOfPattern (pattern : Pattern) (line : List ℕ) : Type 0 where
  pub written : List ℕ
  pub canonical : IsCanonical (plain_pattern pattern) written
  pub line_is : line ≡ written ++ codes "\n"

-- the text is read as a pattern, whose line it is
pub record IsPatternLine (text line : List ℕ) : Type 0 where
  pub pattern : Pattern
  pub read : IsReadAs text pattern
  pub line_is : IsLineOfPattern pattern line

abbrev pub EndsShow : List ℕ → Streams → Streams → ShowEnding → Type 0
EndsShow pattern before after Shown = (line : List ℕ) × IsPatternLine pattern line × (after.written ≡ written_with line before.written)
EndsShow pattern before after (PatternRefused refusal) = IsRefusedPattern pattern refusal × AreUntouched before after
EndsShow pattern before after WriteFault = (line : List ℕ) × IsPatternLine pattern line × WritesPrefix line before.written after.written
EndsShow pattern before after NoMemory = AreUntouched before after

abbrev pub show_status : ShowEnding → ℕ
show_status Shown = 0
show_status NoMemory = 1
show_status (PatternRefused refusal) = 3
show_status WriteFault = 6

abbrev pub IsShowReason : ShowEnding → List ℕ → Type 0
IsShowReason Shown text = text ≡ []
IsShowReason NoMemory text = text ≡ codes "out of memory\n"
IsShowReason (PatternRefused refusal) text = text ≡ pattern_reason refusal
IsShowReason WriteFault text = text ≡ codes "write fault\n"
