-- How the bytes of an input are cut into lines, from what a reader has of them.
use Rattle.std.proofs.Common.{◌≡◌, ℕ, ◌<◌, ◌≤◌, Bool, true, false, List, [], ◌∷◌, ◌++◌, length, drop, Option, Some, None, option_map, IfSome, MatchBool, MatchOption, is_some, not, refl, sym, ap, ◌∙◌, arith, append_assoc, length-append, cond, eqb, ◌⊎◌, inl, inr, Result, Ok, Err, IfErr, IsErrAnd, subst}
use Rattle.std.proofs.lemmas.List.{take-append-drop}
use Rattle.std.proofs.lemmas.List.Elements.{All-append, All-cons, All-nil}
use Rattle.std.proofs.lemmas.List.Splits.{slice_split_at, slice_split_none}
use Rattle.std.proofs.lemmas.Bool.{eqb-true}
use Rattle.std.proofs.lemmas.Bool.Decides.{nat_tests}
use Rattle.std.specs.List.{slice_split}
use Rattle.flow_edges.specs.declared.source.TheConstants.{MAX_READ}
use Rattle.flow_lines.specs.declared.refusal.TheConstants.{MAX_LINE, MAX_INPUT}
use Rattle.flow_lines.specs.declared.refusal.LineRefusal.{LineRefusal}
use Rattle.flow_lines.specs.declared.refusal.LineRefusal.TheVariants.{Fault, LineTooLong, InputTooLong, NoMemory}
use Rattle.flow_edges.specs.Flow.{left_after, IsNextOf}
use Rattle.flow_lines.specs.Lines.{is_line_feed, IsNoLineFeed, NoLineFeed, raw_lines, raw_lines_of, length_refusal, IsOfLine}
use Rattle.flow_lines.specs.inner.Reading.{bytes_remaining, TakesToLineFeed, TakesAll, TakesPart, IsFirstRefused, IsForLength, BreaksOffLine}

-- ---- the bytes that a source tells

pub bytes_remaining-taken : (line read_buffer : List ℕ) (left : Option (List ℕ)) → bytes_remaining line read_buffer left ≡ bytes_remaining (line ++ read_buffer) [] left
bytes_remaining-taken line read_buffer None = refl
bytes_remaining-taken line read_buffer (Some bytes) = ap Some (sym (append_assoc line read_buffer bytes))

pub bytes_remaining-filled : (line more : List ℕ) (left after : Option (List ℕ)) → IsNextOf more left → after ≡ left_after (length more) left → bytes_remaining line [] left ≡ bytes_remaining line more after
bytes_remaining-filled line more None after next rest = ap (λ left. bytes_remaining line more left) (sym rest)
bytes_remaining-filled line more (Some bytes) after next rest =
    ap (λ all. Some (line ++ all)) (sym (take-append-drop (length more) bytes) ∙ ap (λ front. front ++ drop (length more) bytes) next) ∙ ap (λ left. bytes_remaining line more left) (sym rest)

pub bytes_remaining-fed : (taken line read_buffer : List ℕ) (left : Option (List ℕ)) → bytes_remaining line (taken ++ 10 ∷ read_buffer) left ≡ option_map (λ bytes. (line ++ taken) ++ 10 ∷ (read_buffer ++ bytes)) left
bytes_remaining-fed taken line read_buffer None = refl
bytes_remaining-fed taken line read_buffer (Some bytes) = ap Some (ap (λ tail. line ++ tail) (append_assoc taken (10 ∷ read_buffer) bytes) ∙ sym (append_assoc line taken (10 ∷ (read_buffer ++ bytes))))

-- ---- lines of whole bytes

pub split-first : (bytes : List ℕ) → (first : List ℕ) × (later : List (List ℕ)) × (slice_split is_line_feed bytes ≡ first ∷ later)
split-first [] = ([], [], refl)
split-first (byte ∷ bytes) = go (is_line_feed byte) refl (split-first bytes)
  where
    go : (b : Bool) → is_line_feed byte ≡ b → ((first : List ℕ) × (later : List (List ℕ)) × (slice_split is_line_feed bytes ≡ first ∷ later)) → (first : List ℕ) × (later : List (List ℕ)) × (slice_split is_line_feed (byte ∷ bytes) ≡ first ∷ later)
    go true e tail = ([], slice_split is_line_feed bytes, rw e refl)
    go false e (first, later, is) = (byte ∷ first, later, rw (e, is) refl)

pub raw_lines-fed : (line bytes : List ℕ) → NoLineFeed line → raw_lines (line ++ 10 ∷ bytes) ≡ record { bytes = line; terminated = true } ∷ raw_lines bytes
raw_lines-fed line bytes plain =
    let (first, later, is) = split-first bytes in
    ap raw_lines_of (slice_split_at is_line_feed line 10 bytes plain refl ∙ ap (λ parts. line ∷ parts) is) ∙ ap (λ parts. record { bytes = line; terminated = true } ∷ raw_lines_of parts) (sym is)

pub raw_lines-last : (line : List ℕ) → NoLineFeed line → 0 < length line → raw_lines line ≡ record { bytes = line; terminated = false } ∷ []
raw_lines-last line plain some =
    let full : eqb (length line) 0 ≡ false = grind (arith, nat_tests) in
    ap raw_lines_of (slice_split_none is_line_feed line plain) ∙ ap (λ none. cond none [] (record { bytes = line; terminated = false } ∷ [])) full

-- ---- refusals for length

-- a line that is too long stays so, however it continues
pub length_refusal-more : (number offset size more : ℕ) (terminated : Bool) (refusal : LineRefusal) → size ≤ more → length_refusal number offset size false ≡ Some refusal → length_refusal number offset more terminated ≡ Some refusal
length_refusal-more number offset size more terminated refusal fewer is = grind (arith, nat_tests)

pub length_refusal-some : (number offset size : ℕ) (refusal : LineRefusal) → offset ≤ MAX_INPUT → length_refusal number offset size false ≡ Some refusal → 0 < size
length_refusal-some number offset size refusal within is = grind (arith, nat_tests)

-- a line that isn't refused has no more bytes than a line may have
pub length_refusal-short : (number offset size : ℕ) (terminated : Bool) → length_refusal number offset size terminated ≡ None → size ≤ MAX_LINE
length_refusal-short number offset size terminated fits = grind (arith, nat_tests)

-- it tells the line's number
pub length_refusal-number : (number offset size : ℕ) (terminated : Bool) (refusal : LineRefusal) → length_refusal number offset size terminated ≡ Some refusal → IsOfLine number refusal
length_refusal-number number offset size terminated Fault is = tt
length_refusal-number number offset size terminated (LineTooLong n) is = grind (arith, nat_tests)
length_refusal-number number offset size terminated (InputTooLong n) is = grind (arith, nat_tests)
length_refusal-number number offset size terminated NoMemory is = tt

-- and it is no fault
pub length_refusal-fault : (number offset size : ℕ) (terminated : Bool) (refusal : LineRefusal) → length_refusal number offset size terminated ≡ Some refusal
    → ¬ (◌≡◌ {A = Result Bool LineRefusal} (Err refusal) (Err Fault))
length_refusal-fault number offset size terminated Fault is same = grind (arith, nat_tests)
length_refusal-fault number offset size terminated (LineTooLong n) is same = cc
length_refusal-fault number offset size terminated (InputTooLong n) is same = cc
length_refusal-fault number offset size terminated NoMemory is same = cc

-- the bytes up to a line feed and after it, or none is there
cut : (bytes : List ℕ) → ((front : List ℕ) × (back : List ℕ) × (bytes ≡ front ++ 10 ∷ back) × NoLineFeed front) ⊎ NoLineFeed bytes
cut [] = inr (All-nil IsNoLineFeed)
cut (byte ∷ bytes) = go (is_line_feed byte) refl (cut bytes)
  where
    go : (b : Bool) → is_line_feed byte ≡ b → (((front : List ℕ) × (back : List ℕ) × (bytes ≡ front ++ 10 ∷ back) × NoLineFeed front) ⊎ NoLineFeed bytes) → ((front : List ℕ) × (back : List ℕ) × (byte ∷ bytes ≡ front ++ 10 ∷ back) × NoLineFeed front) ⊎ NoLineFeed (byte ∷ bytes)
    go true e later = inl ([], bytes, ap (λ b. b ∷ bytes) (eqb-true byte 10 e), All-nil IsNoLineFeed)
    go false e (inl (front, back, is, plain)) = inl (byte ∷ front, back, ap (λ tail. byte ∷ tail) is, All-cons IsNoLineFeed byte front e plain)
    go false e (inr plain) = inr (All-cons IsNoLineFeed byte bytes e plain)

-- a line that is refused before its end is known is the first line that is refused
pub first_refused : (number offset : ℕ) (line tail : List ℕ) (refusal : LineRefusal) → offset ≤ MAX_INPUT → NoLineFeed line → length_refusal number offset (length line) false ≡ Some refusal → IsFirstRefused number offset refusal (line ++ tail)
first_refused number offset line tail refusal within plain is = go (cut tail)
  where
    go : (((front : List ℕ) × (back : List ℕ) × (tail ≡ front ++ 10 ∷ back) × NoLineFeed front) ⊎ NoLineFeed tail) → IsFirstRefused number offset refusal (line ++ tail)
    go (inl (front, back, at, clear)) = record {
      first = record { bytes = line ++ front; terminated = true };
      later = raw_lines back;
      lines = ap raw_lines (ap (λ t. line ++ t) at ∙ sym (append_assoc line front (10 ∷ back))) ∙ raw_lines-fed (line ++ front) back (All-append IsNoLineFeed line front plain clear);
      refused = length_refusal-more number offset (length line) (length (line ++ front)) true refusal (omega (arith, length-append line front)) is;
    }
    go (inr clear) = record {
      first = record { bytes = line ++ tail; terminated = false };
      later = [];
      lines = raw_lines-last (line ++ tail) (All-append IsNoLineFeed line tail plain clear) (omega (arith, length-append line tail, length_refusal-some number offset (length line) refusal within is));
      refused = length_refusal-more number offset (length line) (length (line ++ tail)) false refusal (omega (arith, length-append line tail)) is;
    }

-- the same of a line that is whole
pub first_refused-fed : (number offset : ℕ) (line tail : List ℕ) (refusal : LineRefusal) → NoLineFeed line → length_refusal number offset (length line) true ≡ Some refusal → IsFirstRefused number offset refusal (line ++ 10 ∷ tail)
first_refused-fed number offset line tail refusal plain is = record {
  first = record { bytes = line; terminated = true };
  later = raw_lines tail;
  lines = raw_lines-fed line tail plain;
  refused = is;
}

IfSome-map : {A B : Type 0} (P : B → Type 0) (f : A → B) (left : Option A) → ((a : A) → P (f a)) → IfSome (option_map f left) P
IfSome-map P f None each = tt
IfSome-map P f (Some a) each = each a

-- the bytes that a taken line stands among
pub bytes_remaining-to_feed : (all left : Option (List ℕ)) (line read_buffer line_new read_buffer_new : List ℕ) → all ≡ bytes_remaining line read_buffer left → TakesToLineFeed read_buffer read_buffer_new line line_new → all ≡ option_map (λ bytes. line_new ++ 10 ∷ (read_buffer_new ++ bytes)) left
bytes_remaining-to_feed all left line read_buffer line_new read_buffer_new is takes =
    is ∙ ap (λ read_buffer. bytes_remaining line read_buffer left) takes.read_buffer ∙ bytes_remaining-fed takes.taken line read_buffer_new left ∙ ap (λ front. option_map (λ bytes. front ++ 10 ∷ (read_buffer_new ++ bytes)) left) (sym takes.line)

pub bytes_remaining-all : (all left : Option (List ℕ)) (line read_buffer line_new read_buffer_new : List ℕ) → all ≡ bytes_remaining line read_buffer left → TakesAll read_buffer read_buffer_new line line_new → all ≡ bytes_remaining line_new [] left
bytes_remaining-all all left line read_buffer line_new read_buffer_new is takes = is ∙ bytes_remaining-taken line read_buffer left ∙ ap (λ line. bytes_remaining line [] left) (sym takes.line)

pub plain-to_feed : (line read_buffer line_new read_buffer_new : List ℕ) → NoLineFeed line → TakesToLineFeed read_buffer read_buffer_new line line_new → NoLineFeed line_new
plain-to_feed line read_buffer line_new read_buffer_new plain takes = rw takes.line (All-append IsNoLineFeed line takes.taken plain takes.plain)

pub plain-all : (line read_buffer line_new read_buffer_new : List ℕ) → NoLineFeed line → TakesAll read_buffer read_buffer_new line line_new → NoLineFeed line_new
plain-all line read_buffer line_new read_buffer_new plain takes = rw takes.line (All-append IsNoLineFeed line read_buffer plain takes.plain)

-- a line was taken up to its line feed where no read is permitted
pub taken-terminated : {Permit : Type 0} (permit : Option Permit) (terminated : Bool) (ToLineFeed All : Type 0) → is_some permit ≡ not terminated
    → MatchOption permit ToLineFeed (λ _. All) → MatchBool terminated ToLineFeed All
taken-terminated None true ToLineFeed All is taken = taken
taken-terminated None false ToLineFeed All is taken = absurd (cc)
taken-terminated (Some permit) true ToLineFeed All is taken = absurd (cc)
taken-terminated (Some permit) false ToLineFeed All is taken = taken

pub refused-step : (number offset : ℕ) (all left : Option (List ℕ)) (line read_buffer line_new read_buffer_new : List ℕ) (terminated : Bool) (refusal : LineRefusal) → offset ≤ MAX_INPUT → NoLineFeed line → all ≡ bytes_remaining line read_buffer left
    → MatchBool terminated (TakesToLineFeed read_buffer read_buffer_new line line_new) (TakesAll read_buffer read_buffer_new line line_new)
    → length_refusal number offset (length line_new) terminated ≡ Some refusal → IfSome all (IsFirstRefused number offset refusal)
refused-step number offset all left line read_buffer line_new read_buffer_new true refusal within plain is takes refused =
    rw (bytes_remaining-to_feed all left line read_buffer line_new read_buffer_new is takes) (IfSome-map _ _ left (λ bytes. first_refused-fed number offset line_new (read_buffer_new ++ bytes) refusal (plain-to_feed line read_buffer line_new read_buffer_new plain takes) refused))
refused-step number offset all left line read_buffer line_new read_buffer_new false refusal within plain is takes refused =
    rw (bytes_remaining-all all left line read_buffer line_new read_buffer_new is takes) (IfSome-map _ _ left (λ bytes. first_refused number offset line_new bytes refusal within (plain-all line read_buffer line_new read_buffer_new plain takes) refused))

-- what a line and one read have taken where the reader stops
pub takes-part : (all left left_new : Option (List ℕ)) (line read_buffer : List ℕ) → all ≡ bytes_remaining line read_buffer left → left_new ≡ left → length line ≤ MAX_LINE → length read_buffer ≤ MAX_READ
    → TakesPart all left_new
takes-part all left left_new line read_buffer is same short room = record {
  taken = line ++ read_buffer;
  few = omega (arith, length-append line read_buffer);
  bytes = is ∙ bytes_remaining-taken line read_buffer left ∙ ap (λ left. bytes_remaining (line ++ read_buffer) [] left) (sym same);
}

-- memory ran out in a line
pub breaks-off-memory : (result : Result Bool LineRefusal) (number offset : ℕ) (all left : Option (List ℕ)) (line read_buffer : List ℕ)
    → IsErrAnd result (λ e. e ≡ NoMemory) → TakesPart all left → IfErr result (BreaksOffLine number offset all left line read_buffer)
breaks-off-memory (Ok terminated) number offset all left line read_buffer found stops = tt
breaks-off-memory (Err e) number offset all left line read_buffer found stops = record {
  length = λ for_length. absurd (subst IsForLength found for_length);
  fault = λ failed. absurd (no_fault (sym found ∙ failed));
  number_is = subst (IsOfLine number) (sym found) tt;
  stops = stops;
}
  where
    no_fault : ¬ (◌≡◌ {A = LineRefusal} NoMemory Fault)
    no_fault is = cc

-- the line or the input is too long
pub breaks-off-length : (number offset size : ℕ) (terminated : Bool) (refusal : LineRefusal) (all left : Option (List ℕ)) (line read_buffer : List ℕ)
    → length_refusal number offset size terminated ≡ Some refusal → IfSome all (IsFirstRefused number offset refusal) → TakesPart all left
    → BreaksOffLine number offset all left line read_buffer refusal
breaks-off-length number offset size terminated refusal all left line read_buffer is first stops = record {
  length = λ _. first;
  fault = λ failed. absurd (length_refusal-fault number offset size terminated refusal is (ap Err failed));
  number_is = length_refusal-number number offset size terminated refusal is;
  stops = stops;
}
