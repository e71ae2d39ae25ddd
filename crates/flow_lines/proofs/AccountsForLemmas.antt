-- The lines that go by, and the bytes that are held and left: together the bytes stay the same.
use Rattle.std.proofs.Common.{◌≡◌, ℕ, ◌+◌, Bool, true, false, List, [], ◌∷◌, ◌++◌, length, Option, Some, None, unwrap_or, inl, inr, option_map, Result, Ok, Err, IsErrAnd, subst, refl, sym, ap, ◌∙◌, arith, append_assoc, length-append, MatchBool, if◌then◌else◌, All, ◌⊎◌}
use Rattle.std.proofs.lemmas.List.{append-nil}
use Rattle.std.proofs.lemmas.List.Elements.{All-append, All-cons, All-nil}
use Rattle.std.proofs.lemmas.Grind.{flat_map-append}
use Rattle.flow_edges.specs.Flow.{IsAtEnd}
use Rattle.flow_lines.specs.Lines.{RawLine, NoLineFeed, lines_text, LinesState, line_width, NothingRemaining, AccountsFor, ContinuesAccounting, LosesNone, lines_remaining, IsOfLine, StopsInLine}
use Rattle.flow_lines.specs.declared.refusal.LineRefusal.{LineRefusal}
use Rattle.flow_lines.specs.declared.line.Line.{Line}
use Rattle.flow_lines.specs.declared.refusal.LineRefusal.TheVariants.{Fault, LineTooLong, InputTooLong, NoMemory}
use Rattle.flow_lines.specs.inner.Reading.{bytes_remaining, ReadsToLineFeed, ReadsLast, ReadsPart, TakesPart, lines_state}
use Rattle.flow_lines.proofs.LinesAheadLemmas.{option_map-map, option_map-same, lines_of_bytes, lines_remaining-bytes}

-- a line has no line feed before its end
abbrev IsPlain : RawLine → Type 0
IsPlain line = NoLineFeed line.bytes

abbrev IsTerminated : RawLine → Type 0
IsTerminated line = line.terminated ≡ true

-- two lists that make none are both none
append-nil-back : (xs ys : List ℕ) → xs ++ ys ≡ [] → ys ≡ []
append-nil-back [] ys is = is
append-nil-back (x ∷ xs) ys is = absurd (cc)

-- the bytes of more lines
lines_text-append : (first more : List RawLine) → lines_text (first ++ more) ≡ lines_text first ++ lines_text more
lines_text-append first more = flat_map-append (λ (line : RawLine). line.bytes ++ (if line.terminated then 10 ∷ [] else [])) first more

-- nothing went by yet
pub accounts-start : (state : LinesState) (left : Option (List ℕ)) → AccountsFor state state left left
accounts-start state left = record { gone = []; bytes = refl; given = omega arith; count = omega arith; plain = All-nil _; terminated = inl (All-nil _) }

-- where nothing is ahead, no more goes by and nothing is ahead still
nothing-then : (held gone held_last : List ℕ) (left left_last : Option (List ℕ)) → NothingRemaining held left
    → option_map (λ bytes. held ++ bytes) left ≡ option_map (λ bytes. gone ++ (held_last ++ bytes)) left_last → NothingRemaining held_last left_last
nothing-then held gone held_last None None none same = tt
nothing-then held gone held_last None (Some last) none same = absurd (cc)
nothing-then held gone held_last (Some bytes) None none same = tt
nothing-then held gone held_last (Some bytes) (Some last) none same =
    let empty : gone ++ (held_last ++ last) ≡ [] = ap (λ (o : Option (List ℕ)). unwrap_or o []) (sym same) ∙ none in append-nil-back gone (held_last ++ last) empty

terminated-then : (first more : List RawLine) (held held_last : List ℕ) (left left_last : Option (List ℕ)) → All IsTerminated first ⊎ NothingRemaining held left → All IsTerminated more ⊎ NothingRemaining held_last left_last
    → option_map (λ bytes. held ++ bytes) left ≡ option_map (λ bytes. lines_text more ++ (held_last ++ bytes)) left_last → All IsTerminated (first ++ more) ⊎ NothingRemaining held_last left_last
terminated-then first more held held_last left left_last (inl terminated) (inl later) same = inl (All-append IsTerminated first more terminated later)
terminated-then first more held held_last left left_last (inl terminated) (inr nothing) same = inr nothing
terminated-then first more held held_last left left_last (inr nothing) later same = inr (nothing-then held (lines_text more) held_last left left_last nothing same)

-- nothing is held, and the source is at its end
nothing-ahead : (held : List ℕ) (left : Option (List ℕ)) → held ≡ [] → IsAtEnd left → NothingRemaining held left
nothing-ahead held None empty ended = tt
nothing-ahead held (Some bytes) empty ended = ap (λ (xs : List ℕ). xs ++ bytes) empty ∙ ended

-- some lines went by, and then some more
pub accounts-then : (before later last : LinesState) (left left_later left_last : Option (List ℕ))
    → AccountsFor before later left left_later → AccountsFor later last left_later left_last → AccountsFor before last left left_last
accounts-then before later last left left_later left_last first next = record {
  gone = first.gone ++ next.gone;
  bytes = first.bytes ∙ sym (option_map-map (λ bytes. lines_text first.gone ++ bytes) (λ bytes. later.held ++ bytes) left_later)
      ∙ ap (option_map (λ bytes. lines_text first.gone ++ bytes)) next.bytes
      ∙ option_map-map (λ bytes. lines_text first.gone ++ bytes) (λ bytes. lines_text next.gone ++ (last.held ++ bytes)) left_last
      ∙ option_map-same _ _ left_last (λ bytes. sym (ap (λ text. text ++ (last.held ++ bytes)) (lines_text-append first.gone next.gone) ∙ append_assoc (lines_text first.gone) (lines_text next.gone) (last.held ++ bytes)));
  given = omega (arith, first.given, next.given, ap length (lines_text-append first.gone next.gone), length-append (lines_text first.gone) (lines_text next.gone));
  count = omega (arith, first.count, next.count, length-append first.gone next.gone);
  plain = All-append IsPlain first.gone next.gone first.plain next.plain;
  terminated = terminated-then first.gone next.gone later.held last.held left_later left_last first.terminated next.terminated next.bytes;
}

-- the same, from wherever the bytes are accounted for
pub continues : (before later last : LinesState) (left left_later left_last : Option (List ℕ))
    → AccountsFor before later left left_later → AccountsFor later last left_later left_last → ContinuesAccounting before last left left_last
continues before later last left left_later left_last first next start all from =
    accounts-then start before last all left left_last from (accounts-then before later last left left_later left_last first next)

-- a line went by
pub accounts-read : (number offset wide count given : ℕ) (read_buffer line read_buffer_new : List ℕ) (left left_new : Option (List ℕ)) (terminated : Bool)
    → MatchBool terminated (ReadsToLineFeed number offset (bytes_remaining [] read_buffer left) left_new line read_buffer_new) (ReadsLast number offset (bytes_remaining [] read_buffer left) left_new line read_buffer_new)
    → wide ≡ line_width (record { bytes = line; terminated = terminated })
    → AccountsFor (lines_state [] read_buffer count given) (lines_state [] read_buffer_new (count + 1) (given + wide)) left left_new
accounts-read number offset wide count given read_buffer line read_buffer_new left left_new true reads is =
    let text : lines_text (record { bytes = line; terminated = true } ∷ []) ≡ line ++ 10 ∷ [] = append-nil (line ++ 10 ∷ []) in
    record {
      gone = record { bytes = line; terminated = true } ∷ [];
      bytes = reads.bytes ∙ option_map-same _ _ left_new (λ bytes. sym (ap (λ text. text ++ (read_buffer_new ++ bytes)) text ∙ append_assoc line (10 ∷ []) (read_buffer_new ++ bytes)));
      given = omega (arith, is, ap length text, length-append line (10 ∷ []));
      count = omega arith;
      plain = All-cons IsPlain _ [] reads.plain (All-nil _);
      terminated = inl (All-cons IsTerminated _ [] refl (All-nil _));
    }
accounts-read number offset wide count given read_buffer line read_buffer_new left left_new false reads is =
    let text : lines_text (record { bytes = line; terminated = false } ∷ []) ≡ line = append-nil (line ++ []) ∙ append-nil line in
    record {
      gone = record { bytes = line; terminated = false } ∷ [];
      bytes = reads.bytes ∙ option_map-same _ _ left_new (λ bytes. ap (λ text. text ++ bytes) (sym text))
          ∙ ap (λ read_buffer. option_map (λ bytes. lines_text (record { bytes = line; terminated = false } ∷ []) ++ (read_buffer ++ bytes)) left_new) (sym reads.drained);
      given = omega (arith, is, ap length text);
      count = omega arith;
      plain = All-cons IsPlain _ [] reads.plain (All-nil _);
      terminated = inr (nothing-ahead _ _ reads.drained reads.ended);
    }

-- no line was left
pub accounts-none : (number offset wide count given : ℕ) (read_buffer line read_buffer_new : List ℕ) (left left_new : Option (List ℕ)) (terminated : Bool)
    → MatchBool terminated (ReadsToLineFeed number offset (bytes_remaining [] read_buffer left) left_new line read_buffer_new) (ReadsLast number offset (bytes_remaining [] read_buffer left) left_new line read_buffer_new)
    → wide ≡ line_width (record { bytes = line; terminated = terminated }) → wide ≡ 0
    → AccountsFor (lines_state [] read_buffer count given) (lines_state [] read_buffer_new count given) left left_new
accounts-none number offset wide count given read_buffer line read_buffer_new left left_new true reads is none = absurd (omega (arith, is, none))
accounts-none number offset wide count given read_buffer (byte ∷ line) read_buffer_new left left_new false reads is none = absurd (omega (arith, is, none))
accounts-none number offset wide count given read_buffer [] read_buffer_new left left_new false reads is none = record {
  gone = [];
  bytes = reads.bytes ∙ ap (λ read_buffer. option_map (λ bytes. read_buffer ++ bytes) left_new) (sym reads.drained);
  given = omega arith;
  count = omega arith;
  plain = All-nil _;
  terminated = inl (All-nil _);
}

-- the source failed in a line
pub accounts-part : (number offset count given : ℕ) (read_buffer line read_buffer_new : List ℕ) (left left_new : Option (List ℕ))
    → ReadsPart number offset (bytes_remaining [] read_buffer left) left_new line read_buffer_new → AccountsFor (lines_state [] read_buffer count given) (lines_state line read_buffer_new count given) left left_new
accounts-part number offset count given read_buffer line read_buffer_new left left_new reads = record {
  gone = [];
  bytes = reads.bytes ∙ option_map-same _ _ left_new (λ bytes. sym (append_assoc line [] bytes)) ∙ ap (λ read_buffer. option_map (λ bytes. (line ++ read_buffer) ++ bytes) left_new) (sym reads.drained);
  given = omega arith;
  count = omega arith;
  plain = All-nil _;
  terminated = inl (All-nil _);
}

-- some bytes were taken, which are a part of a line
pub accounts-part-of : (read_buffer taken : List ℕ) (count given : ℕ) (left : Option (List ℕ)) (bytes : List ℕ) → bytes_remaining [] read_buffer left ≡ Some (taken ++ bytes)
    → AccountsFor (lines_state [] read_buffer count given) (lines_state [] taken count given) left (Some bytes)
accounts-part-of read_buffer taken count given left bytes is = record { gone = []; bytes = is; given = omega arith; count = omega arith; plain = All-nil _; terminated = inl (All-nil _) }

-- the same after a line is put away
pub accounts-emptied : (before : LinesState) (line read_buffer : List ℕ) (count given : ℕ) (left left_new : Option (List ℕ)) → line ≡ []
    → AccountsFor before (lines_state [] read_buffer count given) left left_new → AccountsFor before (lines_state line read_buffer count given) left left_new
accounts-emptied before line read_buffer count given left left_new empty accounts = rw empty accounts

-- after a fault no byte is lost, since none was before
loses-refused : (before later after : LinesState) (left left_later left_after : Option (List ℕ)) (refusal : LineRefusal)
    → AccountsFor before later left left_later → (refusal ≡ Fault → AccountsFor later after left_later left_after) → LosesNone before after left left_after (Err refusal)
loses-refused before later after left left_later left_after Fault first kept = continues before later after left left_later left_after first (kept refl)
loses-refused before later after left left_later left_after (LineTooLong n) first kept = tt
loses-refused before later after left left_later left_after (InputTooLong n) first kept = tt
loses-refused before later after left left_later left_after NoMemory first kept = tt

-- a fact of a refusal that an answer passes on
pub passed_on : {T E : Type 0} (P : Result T E → Type 0) (answer : Result T E) (refusal : E) → IsErrAnd answer (λ e. e ≡ refusal) → P (Err refusal) → P answer
passed_on P (Ok value) refusal passed fact = absurd passed
passed_on P (Err e) refusal passed fact = subst (λ e. P (Err e)) (sym passed) fact

pub loses-passed_on : (before later after : LinesState) (left left_later left_after : Option (List ℕ)) (refusal : LineRefusal) (answer : Result (Option Line) LineRefusal)
    → IsErrAnd answer (λ e. e ≡ refusal) → AccountsFor before later left left_later → (refusal ≡ Fault → AccountsFor later after left_later left_after)
    → LosesNone before after left left_after answer
loses-passed_on before later after left left_later left_after refusal answer passed first kept =
    passed_on (LosesNone before after left left_after) answer refusal passed (loses-refused before later after left left_later left_after refusal first kept)

-- ---- where the reader stops

-- the lines of a state that holds these bytes are those of the bytes and of what is left
lines-taken : (taken : List ℕ) (count given : ℕ) (left : Option (List ℕ))
    → lines_remaining (record { held = taken; count = count; given = given; refusal = None }) left ≡ lines_of_bytes count given (bytes_remaining taken [] left)
lines-taken taken count given None = refl
lines-taken taken count given (Some bytes) = refl

-- it stops in the first line that it reads
pub stops-part : (read_buffer : List ℕ) (count given : ℕ) (left left_new : Option (List ℕ)) (refusal : LineRefusal) → TakesPart (bytes_remaining [] read_buffer left) left_new → IsOfLine (count + 1) refusal
    → StopsInLine (lines_state [] read_buffer count given) left left_new refusal
stops-part read_buffer count given left left_new refusal part line = record {
  at = record { held = part.taken; count = count; given = given; refusal = None };
  line = line;
  few = part.few;
  accounts = λ start all from. accounts-then start (lines_state [] read_buffer count given) _ all left left_new from
      (record { gone = []; bytes = part.bytes; given = omega arith; count = omega arith; plain = All-nil _; terminated = inl (All-nil _) });
  lines = lines-taken part.taken count given left_new ∙ ap (λ all. lines_of_bytes count given all) (sym part.bytes) ∙ sym (lines_remaining-bytes [] read_buffer count given left);
}

-- it stops after some lines went by
pub stops-then : (before later : LinesState) (left left_later left_after : Option (List ℕ)) (refusal : LineRefusal)
    → AccountsFor before later left left_later → lines_remaining before left ≡ lines_remaining later left_later
    → StopsInLine later left_later left_after refusal → StopsInLine before left left_after refusal
stops-then before later left left_later left_after refusal accounts ahead stops = record {
  at = stops.at;
  line = stops.line;
  few = stops.few;
  accounts = λ start all from. stops.accounts start all (accounts-then start before later all left left_later from accounts);
  lines = stops.lines ∙ sym ahead;
}
