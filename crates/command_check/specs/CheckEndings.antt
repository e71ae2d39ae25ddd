-- What `check` writes, and what an ending of it implies for its input and for what was written; its
-- status, and its reason as a text.
use Rattle.std.specs.Prelude.{◌≡◌, ℕ, ◌+◌, List, [], ◌++◌, flat_map, codes, decimal, Option}
use Rattle.flow_edges.specs.declared.source.TheConstants.{MAX_READ}
use Rattle.flow_edges.specs.Flow.{TakesAtMost, written_with, WritesPrefix}
use Rattle.flow_lines.specs.declared.whole_input.TheConstants.{MAX_WHOLE_INPUT}
use Rattle.flow_lines.specs.WholeInput.{IsWholeInput, IsTooLong}
use Rattle.stix_bundles.specs.declared.object_break.ObjectBreak.{ObjectBreak}
use Rattle.stix_versions.specs.declared.version_break.VersionBreak.{VersionBreak}
use Rattle.stix_versions.specs.declared.marking_break.MarkingBreak.{MarkingBreak}
use Rattle.stix_versions.specs.Names.{version_rule_name, marking_rule_name}
use Rattle.match_input.specs.declared.rule.InputRule.TheVariants.{InputTooLong}
use Rattle.match_input.specs.Texts.{break_text, IsInputRefusalText}
use Rattle.command_check.specs.declared.verdict.Verdict.{Verdict}
use Rattle.command_check.specs.declared.verdict.Verdict.TheVariants as verdict
use Rattle.command_check.specs.declared.checking.CheckEnding.{CheckEnding}
use Rattle.command_check.specs.declared.checking.CheckEnding.TheVariants.{Validated, TooLong, ReadFault, WriteFault, NoMemory}
use Rattle.flow_edges.specs.Streams.{Streams}
use Rattle.command_check.specs.Verdicts.{IsValidated}

-- object I: RULE at PATH
abbrev pub break_line : ObjectBreak → List ℕ
break_line broken = break_text broken ++ codes "\n"

-- object I: RULE
abbrev pub version_line : VersionBreak → List ℕ
version_line broken = codes "object " ++ (decimal broken.object ++ (codes ": " ++ (version_rule_name broken.rule ++ codes "\n")))

-- object I: marking J: RULE
abbrev pub marking_line : MarkingBreak → List ℕ
marking_line broken = codes "object " ++ (decimal broken.object ++ (codes ": marking " ++ (decimal broken.marking ++ (codes ": " ++ (marking_rule_name broken.rule ++ codes "\n")))))

-- the output for a verdict: the violations, one per line, those of versions before those of
-- markings, or the number of valid objects
abbrev pub verdict_text : Verdict → List ℕ
verdict_text (verdict.Sound count) = codes "ok " ++ (decimal count ++ codes " objects\n")
verdict_text (verdict.Broken breaks) = flat_map break_line breaks
verdict_text (verdict.Unfit versions markings) = flat_map version_line versions ++ flat_map marking_line markings
verdict_text (verdict.Refused rule) = []

-- the whole input was read, and that is the verdict on it
pub record IsVerdictOn (before after : Streams) (found : Verdict) : Type 0 where
  pub bytes : List ℕ
  pub whole : IsWholeInput bytes before.left after.left
  pub validated : IsValidated bytes found

-- at most the allowed number of bytes, and one more read, are taken from the input
abbrev pub TakesNoMore : Streams → Streams → Type 0
TakesNoMore before after = TakesAtMost (MAX_WHOLE_INPUT + MAX_READ) before.left after.left

abbrev pub EndsCheck : Streams → Streams → CheckEnding → Type 0
EndsCheck before after (Validated found) = IsVerdictOn before after found × (after.written ≡ written_with (verdict_text found) before.written)
EndsCheck before after TooLong = IsTooLong before.left × TakesNoMore before after × (after.written ≡ before.written)
EndsCheck before after ReadFault = TakesNoMore before after × (after.written ≡ before.written)
EndsCheck before after WriteFault = (found : Verdict) × IsVerdictOn before after found × WritesPrefix (verdict_text found) before.written after.written
EndsCheck before after NoMemory = TakesNoMore before after × (after.written ≡ before.written)

abbrev pub check_status : CheckEnding → ℕ
check_status (Validated (verdict.Sound count)) = 0
check_status NoMemory = 1
check_status (Validated (verdict.Broken breaks)) = 4
check_status (Validated (verdict.Unfit versions markings)) = 4
check_status (Validated (verdict.Refused rule)) = 4
check_status TooLong = 4
check_status ReadFault = 5
check_status WriteFault = 6

-- an input that is refused is line 1
abbrev pub IsCheckReason : CheckEnding → List ℕ → Type 0
IsCheckReason (Validated (verdict.Sound count)) text = text ≡ []
IsCheckReason NoMemory text = text ≡ codes "out of memory\n"
IsCheckReason (Validated (verdict.Broken breaks)) text = text ≡ []
IsCheckReason (Validated (verdict.Unfit versions markings)) text = text ≡ []
IsCheckReason (Validated (verdict.Refused rule)) text = IsInputRefusalText 1 rule text
IsCheckReason TooLong text = IsInputRefusalText 1 InputTooLong text
IsCheckReason ReadFault text = text ≡ codes "read fault\n"
IsCheckReason WriteFault text = text ≡ codes "write fault\n"

-- For private clauses: what an ending says of bytes that were read.
abbrev pub EndsValidating : List ℕ → Option (List ℕ) → Option (List ℕ) → CheckEnding → Type 0
EndsValidating bytes written written_after (Validated found) = IsValidated bytes found × (written_after ≡ written_with (verdict_text found) written)
EndsValidating bytes written written_after TooLong = ⊥
EndsValidating bytes written written_after ReadFault = ⊥
EndsValidating bytes written written_after WriteFault = (found : Verdict) × IsValidated bytes found × WritesPrefix (verdict_text found) written written_after
EndsValidating bytes written written_after NoMemory = written_after ≡ written
