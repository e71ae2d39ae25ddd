-- The lines that come yet, before and after a line is read.
use Rattle.std.proofs.Common.{◌≡◌, ℕ, ◌+◌, ◌<◌, ◌≤◌, Bool, true, false, List, [], ◌∷◌, ◌++◌, length, Option, Some, None, option_map, IfSome, if◌then◌else◌, refl, sym, ap, subst, ◌∙◌, arith, append_assoc, MatchBool}
use Rattle.std.proofs.lemmas.List.{append-nil}
use Rattle.std.proofs.lemmas.Bool.Decides.{nat_tests}
use Rattle.flow_edges.specs.declared.source.TheConstants.{MAX_READ}
use Rattle.flow_lines.specs.declared.refusal.TheConstants.{MAX_INPUT}
use Rattle.flow_lines.specs.declared.refusal.LineRefusal.{LineRefusal}
use Rattle.flow_lines.specs.declared.refusal.LineRefusal.TheVariants.{Fault, LineTooLong, InputTooLong, NoMemory}
use Rattle.flow_edges.specs.Flow.{IsAtEnd}
use Rattle.flow_lines.specs.Lines.{RawLine, raw_lines, length_refusal, raw_line_refusal, line_width, content, LineStream, ended, refused, unless_refused, unless_blank, lines_from, lines_remaining, GivesEnd, RefusesLine, KeepsLines, NoLineFeed}
use Rattle.flow_lines.specs.inner.Reading.{bytes_remaining, ReadsToLineFeed, ReadsLast, ReadsPart, IsFirstRefused, ReadsNext, IsBetweenLines, BreaksOffLine, lines_state}
use Rattle.flow_lines.proofs.RawLinesLemmas.{raw_lines-fed, raw_lines-last}

pub option_map-map : {A B C : Type 0} (f : B → C) (g : A → B) (o : Option A) → option_map f (option_map g o) ≡ option_map (λ a. f (g a)) o
option_map-map f g None = refl
option_map-map f g (Some a) = refl

pub option_map-same : {A B : Type 0} (f g : A → B) (o : Option A) → ((a : A) → f a ≡ g a) → option_map f o ≡ option_map g o
option_map-same f g None same = refl
option_map-same f g (Some a) same = ap Some (same a)

-- the lines of these bytes
abbrev pub lines_of_bytes : ℕ → ℕ → Option (List ℕ) → Option LineStream
lines_of_bytes count given all = option_map (λ bytes. lines_from (count + 1) given (raw_lines bytes)) all

pub lines_remaining-bytes : (line read_buffer : List ℕ) (count given : ℕ) (left : Option (List ℕ)) → lines_remaining (lines_state line read_buffer count given) left ≡ lines_of_bytes count given (bytes_remaining line read_buffer left)
lines_remaining-bytes line read_buffer count given None = refl
lines_remaining-bytes line read_buffer count given (Some bytes) = ap (λ all. Some (lines_from (count + 1) given (raw_lines all))) (append_assoc line read_buffer bytes)

-- a line that isn't refused is given, unless it is blank
pub lines_from-fits : (number offset : ℕ) (l : RawLine) (ls : List RawLine) → raw_line_refusal number offset l ≡ None → lines_from number offset (l ∷ ls) ≡ unless_blank number (content l) (lines_from (number + 1) (offset + line_width l) ls)
lines_from-fits number offset l ls fits = ap (λ refusal. unless_refused refusal (unless_blank number (content l) (lines_from (number + 1) (offset + line_width l) ls))) fits

pub lines_from-refused : (number offset : ℕ) (l : RawLine) (ls : List RawLine) (refusal : LineRefusal) → raw_line_refusal number offset l ≡ Some refusal → lines_from number offset (l ∷ ls) ≡ refused refusal
lines_from-refused number offset l ls refusal is = ap (λ refusal. unless_refused refusal (unless_blank number (content l) (lines_from (number + 1) (offset + line_width l) ls))) is

-- a whole line was read
pub ahead-fed : (read_buffer line_new read_buffer_new : List ℕ) (count given : ℕ) (left left_new : Option (List ℕ))
    → ReadsToLineFeed (count + 1) given (bytes_remaining [] read_buffer left) left_new line_new read_buffer_new
    → lines_remaining (lines_state [] read_buffer count given) left
    ≡ option_map (λ later. unless_blank (count + 1) (content (record { bytes = line_new; terminated = true })) later) (lines_remaining (lines_state [] read_buffer_new (count + 1) (given + (length line_new + 1))) left_new)
ahead-fed read_buffer line_new read_buffer_new count given left left_new reads =
    lines_remaining-bytes [] read_buffer count given left ∙ ap (λ all. lines_of_bytes count given all) reads.bytes
    ∙ option_map-map _ _ left_new
    ∙ option_map-same _ _ left_new (λ bytes. ap (λ ls. lines_from (count + 1) given ls) (raw_lines-fed line_new (read_buffer_new ++ bytes) reads.plain) ∙ lines_from-fits (count + 1) given (record { bytes = line_new; terminated = true }) (raw_lines (read_buffer_new ++ bytes)) reads.fits)
    ∙ sym (option_map-map _ _ left_new)

-- the last line was read, which has no line feed
pub ahead-last : (read_buffer line_new : List ℕ) (count given : ℕ) (left left_new : Option (List ℕ)) → 0 < length line_new
    → ReadsLast (count + 1) given (bytes_remaining [] read_buffer left) left_new line_new []
    → lines_remaining (lines_state [] read_buffer count given) left
    ≡ option_map (λ later. unless_blank (count + 1) line_new later) (lines_remaining (lines_state [] [] (count + 1) (given + (length line_new + 0))) left_new)
ahead-last read_buffer line_new count given left left_new some reads =
    lines_remaining-bytes [] read_buffer count given left ∙ ap (λ all. lines_of_bytes count given all) reads.bytes ∙ go left_new reads.ended
  where
    go : (left_new : Option (List ℕ)) → IsAtEnd left_new → lines_of_bytes count given (bytes_remaining line_new [] left_new) ≡ option_map (λ later. unless_blank (count + 1) line_new later) (lines_remaining (lines_state [] [] (count + 1) (given + (length line_new + 0))) left_new)
    go None end = refl
    go (Some bytes) end =
        ap (λ bytes. lines_of_bytes count given (bytes_remaining line_new [] (Some bytes))) end
        ∙ ap (λ all. Some (lines_from (count + 1) given (raw_lines all))) (append-nil line_new)
        ∙ ap (λ ls. Some (lines_from (count + 1) given ls)) (raw_lines-last line_new reads.plain some)
        ∙ ap Some (lines_from-fits (count + 1) given (record { bytes = line_new; terminated = false }) [] reads.fits)
        ∙ ap (λ bytes. option_map (λ later. unless_blank (count + 1) line_new later) (lines_remaining (lines_state [] [] (count + 1) (given + (length line_new + 0))) (Some bytes))) (sym end)

-- no line was left
pub ahead-none : (read_buffer : List ℕ) (count given : ℕ) (left left_new : Option (List ℕ))
    → ReadsLast (count + 1) given (bytes_remaining [] read_buffer left) left_new [] []
    → IfSome (lines_remaining (lines_state [] read_buffer count given) left) (λ ahead. ahead ≡ ended)
ahead-none read_buffer count given left left_new reads =
    rw (lines_remaining-bytes [] read_buffer count given left ∙ ap (λ all. lines_of_bytes count given all) reads.bytes) (go left_new reads.ended)
  where
    go : (left_new : Option (List ℕ)) → IsAtEnd left_new → IfSome (lines_of_bytes count given (bytes_remaining [] [] left_new)) (λ ahead. ahead ≡ ended)
    go None end = tt
    go (Some bytes) end = ap (λ bytes. lines_from (count + 1) given (raw_lines bytes)) end

-- the next line is refused
pub ahead-refused : (read_buffer : List ℕ) (count given : ℕ) (left : Option (List ℕ)) (refusal : LineRefusal)
    → IfSome (bytes_remaining [] read_buffer left) (IsFirstRefused (count + 1) given refusal)
    → IfSome (lines_remaining (lines_state [] read_buffer count given) left) (λ ahead. ahead ≡ refused refusal)
ahead-refused read_buffer count given None refusal first = tt
ahead-refused read_buffer count given (Some bytes) refusal first =
    ap (λ ls. lines_from (count + 1) given ls) first.lines ∙ lines_from-refused (count + 1) given first.first first.later refusal first.refused

-- the source failed in a line
pub ahead-part : (read_buffer line_new : List ℕ) (count given : ℕ) (left left_new : Option (List ℕ))
    → ReadsPart (count + 1) given (bytes_remaining [] read_buffer left) left_new line_new []
    → lines_remaining (lines_state line_new [] count given) left_new ≡ lines_remaining (lines_state [] read_buffer count given) left
ahead-part read_buffer line_new count given left left_new reads =
    lines_remaining-bytes line_new [] count given left_new ∙ ap (λ all. lines_of_bytes count given all) (sym reads.bytes) ∙ sym (lines_remaining-bytes [] read_buffer count given left)

-- a line was read
pub ahead-read : (read_buffer line_new read_buffer_new : List ℕ) (count given : ℕ) (left left_new : Option (List ℕ)) (terminated : Bool)
    → MatchBool terminated (ReadsToLineFeed (count + 1) given (bytes_remaining [] read_buffer left) left_new line_new read_buffer_new) (ReadsLast (count + 1) given (bytes_remaining [] read_buffer left) left_new line_new read_buffer_new)
    → (terminated ≡ false → 0 < length line_new)
    → lines_remaining (lines_state [] read_buffer count given) left
    ≡ option_map (λ later. unless_blank (count + 1) (content (record { bytes = line_new; terminated = terminated })) later) (lines_remaining (lines_state [] read_buffer_new (count + 1) (given + line_width (record { bytes = line_new; terminated = terminated }))) left_new)
ahead-read read_buffer line_new read_buffer_new count given left left_new true reads some = ahead-fed read_buffer line_new read_buffer_new count given left left_new reads
ahead-read read_buffer line_new read_buffer_new count given left left_new false reads some =
    let none = reads.drained in
    subst (λ read_buffer_new. lines_remaining (lines_state [] read_buffer count given) left ≡ option_map (λ later. unless_blank (count + 1) line_new later) (lines_remaining (lines_state [] read_buffer_new (count + 1) (given + (length line_new + 0))) left_new)) (sym none)
    (ahead-last read_buffer line_new count given left left_new (some refl) (subst (λ read_buffer_new. ReadsLast (count + 1) given (bytes_remaining [] read_buffer left) left_new line_new read_buffer_new) none reads))

-- the next line was read
pub ahead-next : (read_buffer line_new read_buffer_new bytes : List ℕ) (count given given_new : ℕ) (left left_new : Option (List ℕ)) (terminated : Bool)
    → MatchBool terminated (ReadsToLineFeed (count + 1) given (bytes_remaining [] read_buffer left) left_new line_new read_buffer_new) (ReadsLast (count + 1) given (bytes_remaining [] read_buffer left) left_new line_new read_buffer_new)
    → 0 < line_width (record { bytes = line_new; terminated = terminated })
    → bytes ≡ content (record { bytes = line_new; terminated = terminated })
    → given_new ≡ given + line_width (record { bytes = line_new; terminated = terminated })
    → lines_remaining (lines_state [] read_buffer count given) left ≡ option_map (λ later. unless_blank (count + 1) bytes later) (lines_remaining (lines_state [] read_buffer_new (count + 1) given_new) left_new)
ahead-next read_buffer line_new read_buffer_new bytes count given given_new left left_new terminated reads some is taken =
    ahead-read read_buffer line_new read_buffer_new count given left left_new terminated reads (λ unclosed. omega (arith, subst (λ c. 0 < length line_new + (if c then 1 else 0)) unclosed some))
    ∙ ap (λ bytes. option_map (λ later. unless_blank (count + 1) bytes later) (lines_remaining (lines_state [] read_buffer_new (count + 1) (given + line_width (record { bytes = line_new; terminated = terminated }))) left_new)) (sym is)
    ∙ ap (λ given_new. option_map (λ later. unless_blank (count + 1) bytes later) (lines_remaining (lines_state [] read_buffer_new (count + 1) given_new) left_new)) (sym taken)

-- a line that isn't refused lies within the input's limit
pub refusal_of-fits : (number offset size : ℕ) (terminated : Bool) → length_refusal number offset size terminated ≡ None → offset + size + (if terminated then 1 else 0) ≤ MAX_INPUT
refusal_of-fits number offset size terminated fits = grind (arith, nat_tests)

pub fits-read : (number offset : ℕ) (all left : Option (List ℕ)) (line read_buffer : List ℕ) (terminated : Bool)
    → MatchBool terminated (ReadsToLineFeed number offset all left line read_buffer) (ReadsLast number offset all left line read_buffer)
    → offset + line_width (record { bytes = line; terminated = terminated }) ≤ MAX_INPUT
fits-read number offset all left line read_buffer true reads = omega (arith, refusal_of-fits number offset (length line) true reads.fits)
fits-read number offset all left line read_buffer false reads = omega (arith, refusal_of-fits number offset (length line) false reads.fits)

pub reads-next : (read_buffer line_new read_buffer_new bytes : List ℕ) (count given wide : ℕ) (left left_new : Option (List ℕ)) (terminated : Bool)
    → MatchBool terminated (ReadsToLineFeed (count + 1) given (bytes_remaining [] read_buffer left) left_new line_new read_buffer_new) (ReadsLast (count + 1) given (bytes_remaining [] read_buffer left) left_new line_new read_buffer_new)
    → wide ≡ line_width (record { bytes = line_new; terminated = terminated }) → ¬ (wide ≡ 0)
    → bytes ≡ content (record { bytes = line_new; terminated = terminated })
    → length read_buffer_new ≤ MAX_READ → count ≤ given
    → ReadsNext read_buffer read_buffer_new count (count + 1) given (given + wide) bytes left left_new
reads-next read_buffer line_new read_buffer_new bytes count given wide left left_new terminated reads is some same room numbered = record {
  ahead = ahead-next read_buffer line_new read_buffer_new bytes count given (given + wide) left left_new terminated reads (omega (arith, is)) same (ap (λ w. given + w) is);
  moved = omega arith;
  room = room;
  numbered = omega arith;
  within = omega (arith, is, fits-read (count + 1) given (bytes_remaining [] read_buffer left) left_new line_new read_buffer_new terminated reads);
}

-- no line was left, and the reader stands between lines still
pub ends-read : (read_buffer line read_buffer_new : List ℕ) (count given wide : ℕ) (left left_new : Option (List ℕ)) (terminated : Bool)
    → MatchBool terminated (ReadsToLineFeed (count + 1) given (bytes_remaining [] read_buffer left) left_new line read_buffer_new) (ReadsLast (count + 1) given (bytes_remaining [] read_buffer left) left_new line read_buffer_new)
    → wide ≡ line_width (record { bytes = line; terminated = terminated }) → wide ≡ 0 → count ≤ given → given ≤ MAX_INPUT
    → GivesEnd (lines_state [] read_buffer count given) (lines_state line read_buffer_new count given) left left_new × IsBetweenLines line read_buffer_new count given
ends-read read_buffer line read_buffer_new count given wide left left_new true reads is none numbered within = absurd (omega (arith, is, none))
ends-read read_buffer (byte ∷ line) read_buffer_new count given wide left left_new false reads is none numbered within = absurd (omega (arith, is, none))
ends-read read_buffer [] read_buffer_new count given wide left left_new false reads is none numbered within =
    let drained = reads.drained in (
      record {
        lines = ahead-none read_buffer count given left left_new (subst (λ rest. ReadsLast (count + 1) given (bytes_remaining [] read_buffer left) left_new [] rest) drained reads);
        drained = reads.ended;
        held = drained;
      },
      record { empty = refl; room = rw drained (omega arith); numbered = numbered; within = within },
    )

-- a reader that breaks off in a line refuses it so
pub refuses-line : (read_buffer line read_buffer_new : List ℕ) (count given : ℕ) (left left_new : Option (List ℕ)) (refusal : LineRefusal)
    → BreaksOffLine (count + 1) given (bytes_remaining [] read_buffer left) left_new line read_buffer_new refusal
    → RefusesLine (lines_state [] read_buffer count given) (lines_state line read_buffer_new count given) left left_new refusal
refuses-line read_buffer line read_buffer_new count given left left_new Fault breaks =
    let reads = breaks.fault refl in
    let drained = reads.drained in
    subst (λ rest. KeepsLines (lines_state [] read_buffer count given) (lines_state line rest count given) left left_new) (sym drained) (record {
      lines = ahead-part read_buffer line count given left left_new (subst (λ rest. ReadsPart (count + 1) given (bytes_remaining [] read_buffer left) left_new line rest) drained reads);
      part = subst NoLineFeed (sym (append-nil line)) reads.plain;
      fits = ap (λ (held : List ℕ). length_refusal (count + 1) given (length held) false) (append-nil line) ∙ reads.fits;
    })
refuses-line read_buffer line read_buffer_new count given left left_new (LineTooLong n) breaks = ahead-refused read_buffer count given left (LineTooLong n) (breaks.length tt)
refuses-line read_buffer line read_buffer_new count given left left_new (InputTooLong n) breaks = ahead-refused read_buffer count given left (InputTooLong n) (breaks.length tt)
refuses-line read_buffer line read_buffer_new count given left left_new NoMemory breaks = tt
