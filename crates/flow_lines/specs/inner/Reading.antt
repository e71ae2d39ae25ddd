-- For private clauses: the buffer of a reader of lines, the line it reads, and its cursor.
use Rattle.std.specs.Prelude.{Bool, true, ◌≡◌, ◌<◌, ◌≤◌, ⊤, ℕ, ◌+◌, length, List, [], ◌∷◌, ◌++◌, true, false, Option, Some, None, option_map, IfSome, MatchBool}
use Rattle.flow_edges.specs.declared.source.TheConstants.{MAX_READ}
use Rattle.flow_lines.specs.declared.refusal.TheConstants.{MAX_LINE, MAX_INPUT}
use Rattle.flow_lines.specs.Lines.{NoLineFeed, RawLine, raw_lines, length_refusal, raw_line_refusal, LinesState, unless_blank, lines_remaining, IsOfLine, GivesEnd, AccountsFor, RefusesLine, StopsInLine}
use Rattle.flow_lines.specs.declared.refusal.LineRefusal.{LineRefusal}
use Rattle.flow_lines.specs.declared.refusal.LineRefusal.TheVariants.{Fault, LineTooLong, InputTooLong, NoMemory}
use Rattle.flow_edges.specs.Flow.{IsAtEnd, IsNextOf, left_after as left_behind}

-- this many bytes were read, the next ones of the source
pub record Fills (count : ℕ) (read_buffer : List ℕ) (left left_after : Option (List ℕ)) : Type 0 where
  pub count_is : count ≡ length read_buffer
  pub given : IsNextOf read_buffer left
  pub rest : left_after ≡ left_behind count left

-- the bytes before the next line feed went from the read buffer to the line, and the line feed was dropped
pub record TakesToLineFeed (read_buffer_old read_buffer_new line_old line_new : List ℕ) : Type 0 where
  pub taken : List ℕ
  pub plain : NoLineFeed taken
  pub read_buffer : read_buffer_old ≡ taken ++ 10 ∷ read_buffer_new
  pub line : line_new ≡ line_old ++ taken

-- all bytes went from the read buffer to the line, and none was a line feed
pub record TakesAll (read_buffer_old read_buffer_new line_old line_new : List ℕ) : Type 0 where
  pub plain : NoLineFeed read_buffer_old
  pub read_buffer : read_buffer_new ≡ []
  pub line : line_new ≡ line_old ++ read_buffer_old

-- the bytes not returned yet: of the line, of the buffer, and those left in the source
abbrev pub bytes_remaining : List ℕ → List ℕ → Option (List ℕ) → Option (List ℕ)
bytes_remaining line read_buffer left = option_map (λ bytes. line ++ (read_buffer ++ bytes)) left

-- a line was read up to its line feed, and it isn't refused
pub record ReadsToLineFeed (number offset : ℕ) (all left : Option (List ℕ)) (line read_buffer : List ℕ) : Type 0 where
  pub plain : NoLineFeed line
  pub bytes : all ≡ option_map (λ bytes. line ++ 10 ∷ (read_buffer ++ bytes)) left
  pub fits : raw_line_refusal number offset (record { bytes = line; terminated = true }) ≡ None

-- the last line was read, which may be none, and it isn't refused
pub record ReadsLast (number offset : ℕ) (all left : Option (List ℕ)) (line read_buffer : List ℕ) : Type 0 where
  pub plain : NoLineFeed line
  pub bytes : all ≡ bytes_remaining line [] left
  pub ended : IsAtEnd left
  pub drained : read_buffer ≡ []
  pub fits : raw_line_refusal number offset (record { bytes = line; terminated = false }) ≡ None

-- the buffer contained the complete line
pub record IsBufferedLine (read_buffer_old read_buffer_new line : List ℕ) (terminated : Bool) : Type 0 where
  pub whole : terminated ≡ true
  pub cut : read_buffer_old ≡ line ++ 10 ∷ read_buffer_new

-- these bytes were left when the bytes consumed contained no complete line
abbrev pub IsWithinLine : Option (List ℕ) → List ℕ → Type 0
IsWithinLine all bytes = (taken : List ℕ) × NoLineFeed taken × (all ≡ Some (taken ++ bytes))

-- the source failed: no byte is lost, and there is no complete line among those consumed, which
-- aren't refused
pub record ReadsPart (number offset : ℕ) (all left : Option (List ℕ)) (line read_buffer : List ℕ) : Type 0 where
  pub plain : NoLineFeed line
  pub fits : length_refusal number offset (length line) false ≡ None
  pub bytes : all ≡ bytes_remaining line [] left
  pub drained : read_buffer ≡ []

-- some bytes are consumed, at most those of a line and one read
pub record TakesPart (all left : Option (List ℕ)) : Type 0 where
  pub taken : List ℕ
  pub few : length taken ≤ MAX_LINE + MAX_READ
  pub bytes : all ≡ bytes_remaining taken [] left

-- the first line of the bytes is refused so
pub record IsFirstRefused (number offset : ℕ) (refusal : LineRefusal) (bytes : List ℕ) : Type 0 where
  pub first : RawLine
  pub later : List RawLine
  pub lines : raw_lines bytes ≡ first ∷ later
  pub refused : raw_line_refusal number offset first ≡ Some refusal

-- a line is refused for its length, or the input for its own
abbrev pub IsForLength : LineRefusal → Type 0
IsForLength Fault = ⊥
IsForLength (LineTooLong number) = ⊤
IsForLength (InputTooLong number) = ⊤
IsForLength NoMemory = ⊥

-- reading a line stopped for this refusal: for the line's length, or for the input's, or a fault
-- that lost no byte; and no more bytes are consumed than those of the longest line and one read
pub record BreaksOffLine (number offset : ℕ) (all left : Option (List ℕ)) (line read_buffer : List ℕ) (refusal : LineRefusal) : Type 0 where
  pub length : IsForLength refusal → IfSome all (IsFirstRefused number offset refusal)
  pub fault : refusal ≡ Fault → ReadsPart number offset all left line read_buffer
  pub number_is : IsOfLine number refusal
  pub stops : TakesPart all left

-- a reader of lines between two lines
pub record IsBetweenLines (line read_buffer : List ℕ) (count given : ℕ) : Type 0 where
  pub empty : line ≡ []
  pub room : length read_buffer ≤ MAX_READ
  pub numbered : count ≤ given
  pub within : given ≤ MAX_INPUT

-- the value of such a reader in contracts
abbrev pub lines_state : List ℕ → List ℕ → ℕ → ℕ → LinesState
lines_state line read_buffer count given = record { held = line ++ read_buffer; count = count; given = given; refusal = None }

-- the next line was read: it is the first of the remaining ones, unless it is blank
pub record ReadsNext (read_buffer_old read_buffer_new : List ℕ) (count_old count_new given_old given_new : ℕ) (bytes : List ℕ) (left left_after : Option (List ℕ)) : Type 0 where
  pub ahead : lines_remaining (lines_state [] read_buffer_old count_old given_old) left
      ≡ option_map (λ later. unless_blank count_new bytes later) (lines_remaining (lines_state [] read_buffer_new count_new given_new) left_after)
  pub moved : given_old < given_new
  pub room : length read_buffer_new ≤ MAX_READ
  pub numbered : count_new ≤ given_new
  pub within : given_new ≤ MAX_INPUT

-- it read the next line, or found the end: the consumed bytes are accounted for
pub record ReadsOrEnds (line_old read_buffer_old line_new read_buffer_new : List ℕ) (count_old count_new given_old given_new : ℕ) (left left_after : Option (List ℕ)) (found : Bool) : Type 0 where
  pub next : MatchBool found
      (ReadsNext read_buffer_old read_buffer_new count_old count_new given_old given_new line_new left left_after)
      (GivesEnd (lines_state line_old read_buffer_old count_old given_old) (lines_state line_new read_buffer_new count_new given_new) left left_after)
  pub ended : found ≡ false → IsBetweenLines line_new read_buffer_new count_new given_new
  pub counts : found ≡ true → count_new ≡ count_old + 1
  pub accounts : AccountsFor (lines_state line_old read_buffer_old count_old given_old) (lines_state [] read_buffer_new count_new given_new) left left_after

-- it stopped in the next line for this refusal: a fault lost no byte
pub record StopsReading (before after : LinesState) (left left_after : Option (List ℕ)) (refusal : LineRefusal) : Type 0 where
  pub refused : RefusesLine before after left left_after refusal
  pub kept : refusal ≡ Fault → AccountsFor before after left left_after
  pub stops : StopsInLine before left left_after refusal
