-- The result of a run over an input, by how it ended: what was read, what was written, and the log
-- that the matcher represents.
use Rattle.std.specs.Prelude.{◌≡◌, ◌⊎◌, ℕ, ℤ, ◌+◌, ◌≤◌, ◌<◌, false, List, [], ◌∷◌, ◌++◌, length, Option, None, Some, IfSome}
use Rattle.flow_edges.specs.declared.source.TheConstants.{MAX_READ}
use Rattle.flow_edges.specs.Flow.{IsAtEnd, TakesAtMost, WritesPrefix, written_with}
use Rattle.flow_lines.specs.Lines.{LinesState, lines_start, lines_remaining, AccountsFor, NoLineFeed, length_refusal}
use Rattle.flow_lines.specs.declared.refusal.TheConstants.{MAX_LINE}
use Rattle.flow_lines.specs.declared.whole_input.TheConstants.{MAX_WHOLE_INPUT}
use Rattle.pattern_types.specs.declared.pattern.Pattern.{Pattern}
use Rattle.stix_bundles.specs.declared.observation.Observation.{Observation}
use Rattle.pattern_types.specs.PlainPattern.{PlainPattern, plain_pattern}
use Rattle.match_bindings.specs.declared.log_entry.LogEntry.{LogEntry}
use Rattle.match_bindings.specs.NumberedPattern.{numbered_pattern}
use Rattle.match_bindings.specs.BindTree.{BindTree}
use Rattle.match_stream.specs.declared.ending.Ending.TheVariants as ending
use Rattle.match_stream.specs.MatcherState.{MatcherState, MatcherRepresents}
use Rattle.match_stream.specs.Answer.{IsOverLimit, IsWithinLimit}
use Rattle.match_input.specs.declared.mode.Mode.{Mode}
use Rattle.match_input.specs.declared.mode.Mode.TheVariants.{Lines, Whole as WholeInput}
use Rattle.match_input.specs.declared.rule.InputRule.{InputRule}
use Rattle.match_input.specs.Reading.{BundleOf, InputEnd, Whole, Refused, ReadsInputLines, Reading}
use Rattle.flow_edges.specs.Streams.{Streams}
use Rattle.match_run.specs.Entries.{AreEntriesOf, AreEntries}
use Rattle.match_run.specs.Listing.{AreBindings, listing_text, last_number}
use Rattle.match_run.specs.declared.match_end.MatchEnd.{MatchEnd}
use Rattle.match_run.specs.declared.match_end.MatchEnd.TheVariants.{Done, Input, ReadFault, WriteFault, OverLimit, NoMemory}

-- the reading of the input, where its bytes are observable
abbrev pub ReadsInput : Mode → Option (List ℕ) → List BundleOf → InputEnd → Type 0
ReadsInput mode left bundles end = IfSome left (λ bytes. Reading mode bytes bundles end)

-- any reading of the input begins with these bundles
abbrev pub HasPrefix : Mode → Option (List ℕ) → List BundleOf → Type 0
HasPrefix mode left bundles = (all : List BundleOf) (end : InputEnd) → ReadsInput mode left all end
    → IfSome left (λ bytes. (later : List BundleOf) × (all ≡ bundles ++ later))

-- the retained count exceeds the limit at no row of the log
abbrev pub IsNeverOverLimit : Pattern → ℕ → List LogEntry → Type 0
IsNeverOverLimit p retained_limit log = (rows more : List LogEntry) (row : LogEntry) → log ≡ rows ++ row ∷ more
    → IsWithinLimit (numbered_pattern p) (rows ++ row ∷ []) retained_limit

-- the bindings of a log are written
pub record ListsLog (p : Pattern) (retained_limit : ℕ) (bundles : List BundleOf) (log : List LogEntry) (trees : List BindTree) (written written_after : Option (List ℕ)) : Type 0 where
  pub entries : AreEntries (plain_pattern p) bundles log
  pub within_limit : IsNeverOverLimit p retained_limit log
  pub bindings : AreBindings p log trees
  pub text : written_after ≡ written_with (listing_text trees) written

-- the whole input was read, its bindings were written, and the matcher represents its log
pub record ListsWhole (mode : Mode) (p : Pattern) (retained_limit : ℕ) (before after : Streams) (state : MatcherState) (observations bindings last : ℕ) : Type 0 where
  pub bundles : List BundleOf
  pub reading : ReadsInput mode before.left bundles Whole
  pub log : List LogEntry
  pub trees : List BindTree
  pub lists : ListsLog p retained_limit bundles log trees before.written after.written
  pub represents : MatcherRepresents state log
  pub drained : IsAtEnd after.left
  pub observations_are : observations ≡ length log
  pub bindings_are : bindings ≡ length trees
  pub last_is : last ≡ last_number trees

-- no line after this one was consumed, and no more is buffered than a line may have and one read
-- returns; in Mode::Whole no more than the input may have and one read
pub record StopsIn (line : ℕ) (left left_after : Option (List ℕ)) : Type 0 where
  pub at : LinesState
  pub lines : at.count ≤ line
  pub few : length at.held ≤ MAX_LINE + MAX_READ
  pub accounts : AccountsFor lines_start at left left_after

abbrev pub TakesLittle : Mode → ℕ → Option (List ℕ) → Option (List ℕ) → Type 0
TakesLittle Lines line left left_after = StopsIn line left left_after
TakesLittle WholeInput line left left_after = TakesAtMost (MAX_WHOLE_INPUT + MAX_READ) left left_after

-- the input was read up to the first refused line, the bindings before it were written, and the
-- matcher represents that log
pub record ListsBefore (mode : Mode) (p : Pattern) (retained_limit : ℕ) (before after : Streams) (state : MatcherState) (line : ℕ) (why : InputRule) : Type 0 where
  pub bundles : List BundleOf
  pub reading : ReadsInput mode before.left bundles (Refused line why)
  pub log : List LogEntry
  pub trees : List BindTree
  pub lists : ListsLog p retained_limit bundles log trees before.written after.written
  pub represents : MatcherRepresents state log
  pub little : TakesLittle mode line before.left after.left

-- these bundles are the reading of the whole lines among the bytes read: the reading goes on after
-- them, and the rest of the buffer is part of a line that isn't refused so far
pub record ReadsTaken (bundles : List BundleOf) (left left_after : Option (List ℕ)) : Type 0 where
  pub at : LinesState
  pub part : NoLineFeed at.held
  pub fits : length_refusal (at.count + 1) at.given (length at.held) false ≡ None
  pub accounts : AccountsFor lines_start at left left_after
  pub last : Option ℤ
  pub next : ℕ
  pub behind : (later : List BundleOf) (end : InputEnd) → IfSome (lines_remaining at left_after) (λ lines. ReadsInputLines last next lines later end)
      → ReadsInput Lines left (bundles ++ later) end

abbrev pub HasTaken : Mode → List BundleOf → Option (List ℕ) → Option (List ℕ) → Type 0
HasTaken Lines bundles left left_after = ReadsTaken bundles left left_after
HasTaken WholeInput bundles left left_after = (bundles ≡ []) × TakesAtMost (MAX_WHOLE_INPUT + MAX_READ) left left_after

-- a read failed: the bindings of the whole lines read were written, and the matcher represents
-- their log; in Mode::Whole there are none
pub record ListsTaken (mode : Mode) (p : Pattern) (retained_limit : ℕ) (before after : Streams) (state : MatcherState) : Type 0 where
  pub bundles : List BundleOf
  pub begins : HasPrefix mode before.left bundles
  pub log : List LogEntry
  pub trees : List BindTree
  pub lists : ListsLog p retained_limit bundles log trees before.written after.written
  pub represents : MatcherRepresents state log
  pub taken : HasTaken mode bundles before.left after.left

-- the rows of the earlier bundles, and of the first observations of the next one
pub record AreFirstEntries (p : PlainPattern) (bundles : List BundleOf) (log : List LogEntry) : Type 0 where
  pub earlier : List BundleOf
  pub bundle : BundleOf
  pub bundles_are : bundles ≡ earlier ++ bundle ∷ []
  pub seen : List Observation
  pub later : List Observation
  pub observations_are : bundle.observations ≡ seen ++ later
  pub before : List LogEntry
  pub own : List LogEntry
  pub log_is : log ≡ before ++ own
  pub entries : AreEntries p earlier before
  pub own_entries : AreEntriesOf p bundle.objects seen own

-- the lines up to this one were consumed, and few bytes after it are buffered
pub record HoldsFew (line : ℕ) (left left_after : Option (List ℕ)) : Type 0 where
  pub at : LinesState
  pub line_is : at.count ≡ line
  pub few : length at.held ≤ MAX_READ
  pub accounts : AccountsFor lines_start at left left_after

abbrev pub TakesFew : Mode → ℕ → Option (List ℕ) → Option (List ℕ) → Type 0
TakesFew Lines line left left_after = HoldsFew line left left_after
TakesFew WholeInput line left left_after = TakesAtMost (MAX_WHOLE_INPUT + MAX_READ) left left_after

-- when these bytes were left, this line wasn't complete yet: fewer lines were, and a part of the
-- next
pub record IsToCome (line : ℕ) (left : Option (List ℕ)) (bytes : List ℕ) : Type 0 where
  pub at : LinesState
  pub fewer : at.count < line
  pub part : NoLineFeed at.held
  pub accounts : AccountsFor lines_start at left (Some bytes)

-- the last read began before this line was complete; in Mode::Whole, when nothing was left
abbrev pub BeganInTime : Mode → ℕ → Option (List ℕ) → Option (List ℕ) → Type 0
BeganInTime Lines line left began = IfSome began (IsToCome line left)
BeganInTime WholeInput line left began = IsAtEnd began

-- no more was read than the bundle of this line requires
pub record ReadsNoFurther (mode : Mode) (line : ℕ) (before after : Streams) : Type 0 where
  pub few : TakesFew mode line before.left after.left
  pub in_time : BeganInTime mode line before.left after.began

-- the limit was exceeded at the row of this number, and at no row before it: the bindings of those
-- were written, no more was read, and the matcher ended
pub record StopsOverLimit (mode : Mode) (p : Pattern) (retained_limit : ℕ) (before after : Streams) (state : MatcherState) (number named : ℕ) : Type 0 where
  pub bundles : List BundleOf
  pub begins : HasPrefix mode before.left bundles
  pub log : List LogEntry
  pub row : LogEntry
  pub entries : AreFirstEntries (plain_pattern p) bundles (log ++ row ∷ [])
  pub reads : ReadsNoFurther mode entries.bundle.line before after
  pub numbered : number ≡ length log + 1
  pub retained_limit_is : named ≡ retained_limit
  pub over_limit : IsOverLimit (numbered_pattern p) (log ++ row ∷ []) retained_limit
  pub within_limit : IsNeverOverLimit p retained_limit log
  pub trees : List BindTree
  pub bindings : AreBindings p log trees
  pub text : after.written ≡ written_with (listing_text trees) before.written
  pub ended : state.ended ≡ Some (ending.OverLimit number retained_limit)

-- the run stopped within a bundle: the bindings before the bundle were written, and a prefix of
-- those that end at its first observations; none of these exceeds the limit, and no more was read
pub record StopsWithin (mode : Mode) (p : Pattern) (retained_limit : ℕ) (before after : Streams) : Type 0 where
  pub earlier : List BundleOf
  pub bundle : BundleOf
  pub begins : HasPrefix mode before.left (earlier ++ bundle ∷ [])
  pub seen : List Observation
  pub later : List Observation
  pub observations_are : bundle.observations ≡ seen ++ later
  pub log : List LogEntry
  pub own : List LogEntry
  pub entries : AreEntries (plain_pattern p) earlier log
  pub own_entries : AreEntriesOf (plain_pattern p) bundle.objects seen own
  pub within_limit : IsNeverOverLimit p retained_limit (log ++ own)
  pub trees : List BindTree
  pub more : List BindTree
  pub bindings : AreBindings p log trees
  pub all_bindings : AreBindings p (log ++ own) (trees ++ more)
  pub prefix : WritesPrefix (listing_text more) (written_with (listing_text trees) before.written) after.written
  pub reads : ReadsNoFurther mode bundle.line before after

-- the run stopped between two bundles: the bindings of those before were written
pub record MatchStopsBetween (mode : Mode) (p : Pattern) (retained_limit : ℕ) (before after : Streams) : Type 0 where
  pub bundles : List BundleOf
  pub begins : HasPrefix mode before.left bundles
  pub log : List LogEntry
  pub trees : List BindTree
  pub lists : ListsLog p retained_limit bundles log trees before.written after.written

-- what the end of a run says
abbrev pub AnswersMatch : Mode → Pattern → ℕ → Streams → Streams → MatcherState → MatchEnd → Type 0
AnswersMatch mode p retained_limit before after state (Done observations bindings last) = ListsWhole mode p retained_limit before after state observations bindings last
AnswersMatch mode p retained_limit before after state (Input line why) = ListsBefore mode p retained_limit before after state line why
AnswersMatch mode p retained_limit before after state ReadFault = ListsTaken mode p retained_limit before after state
AnswersMatch mode p retained_limit before after state WriteFault = StopsWithin mode p retained_limit before after
AnswersMatch mode p retained_limit before after state (OverLimit number named) = StopsOverLimit mode p retained_limit before after state number named
AnswersMatch mode p retained_limit before after state NoMemory = MatchStopsBetween mode p retained_limit before after ⊎ StopsWithin mode p retained_limit before after
