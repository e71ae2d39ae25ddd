-- The lines of an input. A line ends with a line feed, which isn't part of it, and one carriage
-- return before the line feed isn't part of it either. Bytes after the last line feed, if any, are
-- a last line.
use Rattle.std.specs.Prelude.{◌≡◌, ◌⊎◌, ⊤, ◌<◌, ◌≤◌, All, IfSome, Result, Ok, Err, ℕ, ◌+◌, ◌==◌, ◌||◌, ◌&&◌, List, [], ◌∷◌, ◌++◌, length, not, Bool, true, false, nat_lt, nat_le, if◌then◌else◌, Option, Some, None, option_map}
use Rattle.std.specs.List.{slice_split, list_all, list_any, flat_map}
use Rattle.std.specs.Str.Lines.{strip_carriage_return}
use Rattle.flow_edges.specs.declared.source.TheConstants.{MAX_READ}
use Rattle.flow_lines.specs.declared.refusal.TheConstants.{MAX_LINE, MAX_INPUT}
use Rattle.flow_lines.specs.declared.refusal.LineRefusal.{LineRefusal}
use Rattle.flow_lines.specs.declared.refusal.LineRefusal.TheVariants.{Fault, LineTooLong, InputTooLong, NoMemory}
use Rattle.flow_lines.specs.declared.line.Line.{Line}
use Rattle.flow_edges.specs.Flow.{IsAtEnd}

-- the byte 0x0A
abbrev pub is_line_feed : ℕ → Bool
is_line_feed byte = byte == 10

-- any other byte
abbrev pub IsNoLineFeed : ℕ → Type 0
IsNoLineFeed byte = is_line_feed byte ≡ false

-- no byte is a line feed
abbrev pub NoLineFeed : List ℕ → Type 0
NoLineFeed bytes = All IsNoLineFeed bytes

-- a raw line: its bytes before the line feed, and whether it has one
pub record RawLine : Type 0 where
  pub bytes : List ℕ
  pub terminated : Bool

-- the lines in the parts between line feeds: an empty last part is none
abbrev pub raw_lines_of : List (List ℕ) → List RawLine
raw_lines_of [] = []
raw_lines_of (part ∷ []) = if length part == 0 then [] else record { bytes = part; terminated = false } ∷ []
raw_lines_of (part ∷ next ∷ parts) = record { bytes = part; terminated = true } ∷ raw_lines_of (next ∷ parts)

-- the raw lines of bytes
abbrev pub raw_lines : List ℕ → List RawLine
raw_lines bytes = raw_lines_of (slice_split is_line_feed bytes)

-- the bytes are whole lines: there are none, or the last one is a line feed
abbrev pub AreWholeLines : List ℕ → Type 0
AreWholeLines bytes = (bytes ≡ []) ⊎ ((front : List ℕ) × (bytes ≡ front ++ 10 ∷ []))

-- how many bytes a line takes in the input
abbrev pub line_width : RawLine → ℕ
line_width line = length line.bytes + (if line.terminated then 1 else 0)

-- the bytes of some lines, each with its line feed, if it has one
abbrev pub lines_text : List RawLine → List ℕ
lines_text lines = flat_map (λ line. line.bytes ++ (if line.terminated then 10 ∷ [] else [])) lines

-- the content of a line: without its line feed and the carriage return before it
abbrev pub content : RawLine → List ℕ
content line = if line.terminated then strip_carriage_return line.bytes else line.bytes

-- a space, a tab or a carriage return
abbrev pub is_blank_byte : ℕ → Bool
is_blank_byte byte = byte == 32 || byte == 9 || byte == 13

-- only spaces, tabs and carriage returns
abbrev pub is_blank_text : List ℕ → Bool
is_blank_text bytes = list_all is_blank_byte bytes

-- The refusal of a line with `size` bytes before its line feed that begins at `offset` in the
-- input: the line is too long, or the input is too long with it. The limit that is exceeded first
-- decides.
abbrev pub length_refusal : ℕ → ℕ → ℕ → Bool → Option LineRefusal
length_refusal number offset size terminated =
    if nat_lt MAX_LINE size && nat_le (offset + MAX_LINE) MAX_INPUT then Some (LineTooLong number)
    else if nat_lt MAX_INPUT (offset + size + (if terminated then 1 else 0)) then Some (InputTooLong number)
    else None

-- the refusal of a line, if any
abbrev pub raw_line_refusal : ℕ → ℕ → RawLine → Option LineRefusal
raw_line_refusal number offset line = length_refusal number offset (length line.bytes) line.terminated

-- the lines of an input in order, each with its number, up to the end or the first refusal
pub data LineStream : Type 0 where
  ended : LineStream
  refused : LineRefusal → LineStream
  line_then : ℕ → List ℕ → LineStream → LineStream

-- the refusal, if any
abbrev pub unless_refused : Option LineRefusal → LineStream → LineStream
unless_refused None lines = lines
unless_refused (Some refusal) lines = refused refusal

-- a blank line is skipped, and keeps its number
abbrev pub unless_blank : ℕ → List ℕ → LineStream → LineStream
unless_blank number bytes later = if is_blank_text bytes then later else line_then number bytes later

-- the line stream of these lines: the number of the first, and its offset in the input
abbrev pub lines_from : ℕ → ℕ → List RawLine → LineStream
lines_from number offset [] = ended
lines_from number offset (l ∷ ls) =
    unless_refused (raw_line_refusal number offset l) (unless_blank number (content l) (lines_from (number + 1) (offset + line_width l) ls))

-- the lines of an input
abbrev pub lines_of : List ℕ → LineStream
lines_of bytes = lines_from 1 0 (raw_lines bytes)

-- the state of a reader of lines: the bytes buffered, the number of lines returned, blank ones
-- included, their length in bytes, and its refusal, if any
pub record LinesState : Type 0 where
  pub held : List ℕ
  pub count : ℕ
  pub given : ℕ
  pub refusal : Option LineRefusal

-- a reader at the start of an input
abbrev pub lines_start : LinesState
lines_start = record { held = []; count = 0; given = 0; refusal = None }

-- the lines still to be returned, if the source's bytes are observable
abbrev pub lines_remaining : LinesState → Option (List ℕ) → Option LineStream
lines_remaining state left = option_map (λ bytes. lines_from (state.count + 1) state.given (raw_lines (state.held ++ bytes))) left

-- a line that is complete, and isn't blank
abbrev pub is_whole : RawLine → Bool
is_whole line = line.terminated && not (is_blank_text (content line))

-- there is such a line among these bytes
abbrev pub HoldsLine : List ℕ → Type 0
HoldsLine bytes = list_any is_whole (raw_lines bytes) ≡ true

-- nothing is buffered or left, as far as that is observable
abbrev pub NothingRemaining : List ℕ → Option (List ℕ) → Type 0
NothingRemaining held left = IfSome left (λ bytes. held ++ bytes ≡ [])

-- of the bytes buffered and left, some were consumed as lines, and the rest are still buffered or
-- left; each of these lines has its line feed, unless nothing remains
pub record AccountsFor (before after : LinesState) (left left_after : Option (List ℕ)) : Type 0 where
  pub gone : List RawLine
  pub bytes : option_map (λ bytes. before.held ++ bytes) left ≡ option_map (λ bytes. lines_text gone ++ (after.held ++ bytes)) left_after
  pub given : after.given ≡ before.given + length (lines_text gone)
  pub count : after.count ≡ before.count + length gone
  pub plain : All (λ line. NoLineFeed line.bytes) gone
  pub terminated : All (λ line. line.terminated ≡ true) gone ⊎ NothingRemaining after.held left_after

-- from wherever the bytes are accounted for up to the one state, they are up to the other
abbrev pub ContinuesAccounting : LinesState → LinesState → Option (List ℕ) → Option (List ℕ) → Type 0
ContinuesAccounting before after left left_after = (start : LinesState) (all : Option (List ℕ)) → AccountsFor start before all left → AccountsFor start after all left_after

-- when these bytes were left, line `number` was not complete: fewer lines were, and a part of the
-- next
pub record LacksLine (before : LinesState) (number : ℕ) (left : Option (List ℕ)) (bytes : List ℕ) : Type 0 where
  pub at : LinesState
  pub fewer : at.count < number
  pub part : NoLineFeed at.held
  pub accounts : ContinuesAccounting before at left (Some bytes)

-- the first of the remaining lines was returned, and the others remain
pub record GivesLine (before after : LinesState) (left left_after : Option (List ℕ)) (number : ℕ) (bytes : List ℕ) : Type 0 where
  pub line : lines_remaining before left ≡ option_map (λ later. line_then number bytes later) (lines_remaining after left_after)
  pub count : number ≡ after.count
  pub moved : before.given < after.given
  pub within : after.given ≤ MAX_INPUT
  pub room : length after.held ≤ MAX_READ

-- no line came yet, and all bytes are given
pub record GivesEnd (before after : LinesState) (left left_after : Option (List ℕ)) : Type 0 where
  pub lines : IfSome (lines_remaining before left) (λ ahead. ahead ≡ ended)
  pub drained : IsAtEnd left_after
  pub held : after.held ≡ []

-- the remaining lines are unchanged, and the bytes buffered are a part of the first of them, which
-- isn't refused so far
pub record KeepsLines (before after : LinesState) (left left_after : Option (List ℕ)) : Type 0 where
  pub lines : lines_remaining after left_after ≡ lines_remaining before left
  pub part : NoLineFeed after.held
  pub fits : length_refusal (after.count + 1) after.given (length after.held) false ≡ None

-- the meaning of a refusal for the remaining lines
abbrev pub RefusesLine : LinesState → LinesState → Option (List ℕ) → Option (List ℕ) → LineRefusal → Type 0
RefusesLine before after left left_after Fault = KeepsLines before after left left_after
RefusesLine before after left left_after (LineTooLong n) = IfSome (lines_remaining before left) (λ ahead. ahead ≡ refused (LineTooLong n))
RefusesLine before after left left_after (InputTooLong n) = IfSome (lines_remaining before left) (λ ahead. ahead ≡ refused (InputTooLong n))
RefusesLine before after left left_after NoMemory = ⊤

-- a refusal for length concerns this line
abbrev pub IsOfLine : ℕ → LineRefusal → Type 0
IsOfLine number Fault = ⊤
IsOfLine number (LineTooLong n) = n ≡ number
IsOfLine number (InputTooLong n) = n ≡ number
IsOfLine number NoMemory = ⊤

-- the reader stopped in the line that it refuses: the lines before it were consumed, the remaining
-- lines are unchanged, and no more bytes are consumed than those of the longest line and one read
pub record StopsInLine (before : LinesState) (left left_after : Option (List ℕ)) (refusal : LineRefusal) : Type 0 where
  pub at : LinesState
  pub line : IsOfLine (at.count + 1) refusal
  pub few : length at.held ≤ MAX_LINE + MAX_READ
  pub accounts : ContinuesAccounting before at left left_after
  pub lines : lines_remaining at left_after ≡ lines_remaining before left

-- the meaning of a result for the remaining lines
abbrev pub AnswersLine : LinesState → LinesState → Option (List ℕ) → Option (List ℕ) → Result (Option Line) LineRefusal → Type 0
AnswersLine before after left left_after (Ok (Some l)) = GivesLine before after left left_after l.number l.bytes
AnswersLine before after left left_after (Ok None) = GivesEnd before after left left_after
AnswersLine before after left left_after (Err refusal) = RefusesLine before after left left_after refusal

-- no byte is lost, unless a line or the input was too long, or memory ran out
abbrev pub LosesNone : LinesState → LinesState → Option (List ℕ) → Option (List ℕ) → Result (Option Line) LineRefusal → Type 0
LosesNone before after left left_after (Ok line) = ContinuesAccounting before after left left_after
LosesNone before after left left_after (Err Fault) = ContinuesAccounting before after left left_after
LosesNone before after left left_after (Err (LineTooLong n)) = ⊤
LosesNone before after left left_after (Err (InputTooLong n)) = ⊤
LosesNone before after left left_after (Err NoMemory) = ⊤
