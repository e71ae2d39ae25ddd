-- What an ending of `match` says of its pattern, the log and what was written; its status, and its
-- reason as a text.
use Rattle.std.specs.Prelude.{◌≡◌, ℕ, List, [], codes}
use Rattle.pattern_reader.specs.declared.pattern_refusal.PatternRefusal.{PatternRefusal}
use Rattle.pattern_types.specs.declared.pattern.Pattern.{Pattern}
use Rattle.pattern_reader.specs.Read.{IsReadAs}
use Rattle.match_input.specs.Texts.{IsInputRefusalText}
use Rattle.match_stream.specs.MatcherState.{MatcherState}
use Rattle.match_run.specs.Matching.{AnswersMatch}
use Rattle.match_run.specs.declared.match_end.MatchEnd.{MatchEnd}
use Rattle.match_run.specs.declared.match_end.MatchEnd.TheVariants as end
use Rattle.command_match.specs.declared.matching.MatchEnding.{MatchEnding}
use Rattle.command_match.specs.declared.matching.MatchEnding.TheVariants.{PatternRefused, Ended, NoMemory}
use Rattle.command_reasons.specs.Reasons.{IsRefusedPattern, pattern_reason, over_limit_reason}
use Rattle.command_match.specs.Tasks.{MatchTask}
use Rattle.flow_edges.specs.Streams.{Streams, AreUntouched}

-- the text is read as a pattern, and the input was matched against it
pub record MatchesInput (request : MatchTask) (before after : Streams) (ended : MatchEnd) : Type 0 where
  pub pattern : Pattern
  pub read : IsReadAs request.pattern pattern
  pub matcher : MatcherState
  pub answers : AnswersMatch request.mode pattern request.retained_limit before after matcher ended

abbrev pub EndsMatch : MatchTask → Streams → Streams → MatchEnding → Type 0
EndsMatch request before after (PatternRefused refusal) = IsRefusedPattern request.pattern refusal × AreUntouched before after
EndsMatch request before after (Ended ended) = MatchesInput request before after ended
EndsMatch request before after NoMemory = AreUntouched before after

abbrev pub match_status : MatchEnding → ℕ
match_status (Ended (end.Done observations bindings last)) = 0
match_status (Ended end.NoMemory) = 1
match_status NoMemory = 1
match_status (PatternRefused refusal) = 3
match_status (Ended (end.Input line rule)) = 4
match_status (Ended end.ReadFault) = 5
match_status (Ended end.WriteFault) = 6
match_status (Ended (end.OverLimit number retained_limit)) = 7

abbrev pub IsMatchReason : MatchEnding → List ℕ → Type 0
IsMatchReason (Ended (end.Done observations bindings last)) text = text ≡ []
IsMatchReason (Ended end.NoMemory) text = text ≡ codes "out of memory\n"
IsMatchReason NoMemory text = text ≡ codes "out of memory\n"
IsMatchReason (PatternRefused refusal) text = text ≡ pattern_reason refusal
IsMatchReason (Ended (end.Input line rule)) text = IsInputRefusalText line rule text
IsMatchReason (Ended end.ReadFault) text = text ≡ codes "read fault\n"
IsMatchReason (Ended end.WriteFault) text = text ≡ codes "write fault\n"
IsMatchReason (Ended (end.OverLimit number retained_limit)) text = text ≡ over_limit_reason number retained_limit
