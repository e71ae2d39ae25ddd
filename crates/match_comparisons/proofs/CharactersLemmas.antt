-- The characters of a text beside its bytes.
use Rattle.std.proofs.Common.{◌≡◌, ◌≢◌, Bool, true, false, get_or, ℕ, ◌<◌, ◌≤◌, ◌⊎◌, inl, inr, List, [], ◌∷◌, ◌++◌, length, take, IsUtf8, refl, sym, ap, ◌∙◌, arith, append-nil, length-append, le_of_eq, subst}
use Rattle.std.proofs.Math.Seq.{take-append_seam, get_or-append_seam}
use Rattle.std.specs.Prelude.{encode_utf8, encode_utf8_all}
use Rattle.std.specs.Str.{chars}
use Rattle.std.proofs.lemmas.Str.{chars-nil, chars-append, chars_past_char, encodes-chars, encodes-append, IsUtf8-drop, IsCharBoundary-from_take, encode_ascii, length-encode, len_utf8_bounds, len_utf8_ascii}
use Rattle.std.proofs.lemmas.List.Prefix.{front_rest}
use Rattle.std.proofs.lemmas.Bool.Decides.{eqb_tells}
use Rattle.match_comparisons.specs.Like.{any_run, any_one, IsLike}
use Rattle.match_comparisons.specs.inner.Segments.{LacksCharacter, OccursAfter}
use Rattle.match_comparisons.proofs.IsLikeLemmas.{like_first, run_splits, like_splits}
use Rattle.match_comparisons.proofs.SegmentsLemmas.{lacks_head, lacks_tail}

-- only the empty text has no characters
pub chars-none : (bs : List ℕ) → IsUtf8 bs → chars bs ≡ [] → length bs ≡ 0
chars-none bs utf8 none = ap length (sym (encodes-chars bs utf8) ∙ ap encode_utf8_all none)

pub chars-empty : (bs : List ℕ) → length bs ≡ 0 → chars bs ≡ []
chars-empty [] none = chars-nil
chars-empty (b ∷ bs) none = absurd (omega arith)

-- the last character of a text
pub chars-last : (bs rest : List ℕ) (c : ℕ) → IsUtf8 bs → IsUtf8 rest → bs ≡ rest ++ encode_utf8 c → chars bs ≡ chars rest ++ c ∷ []
chars-last bs rest c utf8 front split =
    let fits : length rest ≤ length bs = omega (arith, ap length split, length-append rest (encode_utf8 c)) in
    let taken : take (length rest) bs ≡ rest = rw split (take-append_seam rest (encode_utf8 c)) in
    let boundary = IsCharBoundary-from_take bs (length rest) utf8 fits (rw taken front) in
    let one : IsUtf8 (encode_utf8 c) = rw (front_rest bs rest (encode_utf8 c) split) at (IsUtf8-drop bs (length rest) utf8 boundary) in
    let last : chars (encode_utf8 c) ≡ c ∷ [] = chars_past_char (encode_utf8 c) [] c one (sym (append-nil (encode_utf8 c))) ∙ ap (λ rest. c ∷ rest) chars-nil in
    ap chars split ∙ chars-append rest (encode_utf8 c) front ∙ ap (λ end. chars rest ++ end) last

-- those before a `%` and those after it
chars-run : (bs : List ℕ) → chars (any_run ∷ bs) ≡ any_run ∷ chars bs
unfolding chars
chars-run [] = refl
chars-run (b ∷ bs) = refl

pub chars-around : (bs before behind : List ℕ) → IsUtf8 before → bs ≡ before ++ any_run ∷ behind → chars bs ≡ chars before ++ any_run ∷ chars behind
chars-around bs before behind utf8 split =
    ap chars split ∙ chars-append before (any_run ∷ behind) utf8 ∙ ap (λ end. chars before ++ end) (chars-run behind)

-- a character of one byte stands where that byte stands
bytes_around : (bs front back : List ℕ) (c : ℕ) → c < 128 → IsUtf8 bs → chars bs ≡ front ++ c ∷ back → bs ≡ encode_utf8_all front ++ c ∷ encode_utf8_all back
bytes_around bs front back c small utf8 split =
    let one : encode_utf8_all (c ∷ back) ≡ c ∷ encode_utf8_all back = ap (λ own. own ++ encode_utf8_all back) (encode_ascii c small) in
    sym (encodes-chars bs utf8) ∙ ap encode_utf8_all split ∙ encodes-append front (c ∷ back) ∙ ap (λ end. encode_utf8_all front ++ end) one

pub lacks_chars : (bs : List ℕ) (c : ℕ) → c < 128 → IsUtf8 bs → LacksCharacter bs c → LacksCharacter (chars bs) c
lacks_chars bs c small utf8 lacks front back split =
    lacks (encode_utf8_all front) (encode_utf8_all back) (bytes_around bs front back c small utf8 split)

pub lacks_within : (bs : List ℕ) (most : ℕ) → IsUtf8 bs → OccursAfter bs any_run most → length bs ≤ most → LacksCharacter (chars bs) any_run
lacks_within bs most utf8 behind within =
    lacks_chars bs any_run (omega arith) utf8 (λ front back split. omega (arith, behind front back split, within, ap length split, length-append front (any_run ∷ back)))

-- one that a search for it finds nowhere
pub lacks_where_not_found : (bs : List ℕ) (c : ℕ) (found : Bool) → ((k : ℕ) → k < length bs → get_or bs k 0 ≡ c → found ≡ true) → found ≡ false → LacksCharacter bs c
lacks_where_not_found bs c found finds none front back split =
    let inside : length front < length bs = omega (arith, ap length split, length-append front (c ∷ back)) in
    let yes = finds (length front) inside (rw split (get_or-append_seam front c back 0)) in
    cc (yes, none)

-- a segment has at most as many bytes as what it fits
like_weighs : (front segment : List ℕ) → LacksCharacter segment any_run → IsLike front segment → length (encode_utf8_all segment) ≤ length (encode_utf8_all front)
like_weighs front [] lacks like = omega arith
like_weighs front (character ∷ segment) lacks like =
    let first = like_first character front segment (lacks_head any_run character _ segment refl lacks) like in
    let rest = like_weighs first.1 segment (lacks_tail any_run character _ segment refl lacks) first.4 in
    let own : length (encode_utf8 character) ≤ length (encode_utf8 first.0) = elim (eqb_tells character any_one) [
      | inl is ↦ omega (arith, ap (λ c. length (encode_utf8 c)) is.1, length-encode any_one, len_utf8_ascii any_one (omega arith), length-encode first.0, (len_utf8_bounds first.0).0)
      | inr is ↦ le_of_eq (ap (λ c. length (encode_utf8 c)) (first.3.itself is.1))
    ] in
    omega (arith, own, rest, ap (λ cs. length (encode_utf8_all cs)) first.2, length-append (encode_utf8 character) (encode_utf8_all segment), length-append (encode_utf8 first.0) (encode_utf8_all first.1))

-- what stands before the first `%`, if there is one
record FirstSegment (pattern : List ℕ) : Type 0 where
  segment : List ℕ
  rest : List ℕ
  split : pattern ≡ segment ++ rest
  lacks : LacksCharacter segment any_run
  ends : (rest ≡ []) ⊎ ((behind : List ℕ) × (rest ≡ any_run ∷ behind))

lacks_none : LacksCharacter [] any_run
lacks_none front back is = absurd (omega (arith, ap length is, length-append front (any_run ∷ back)))

lacks_more : (character : ℕ) (list : List ℕ) → character ≢ any_run → LacksCharacter list any_run → LacksCharacter (character ∷ list) any_run
lacks_more character list differs lacks [] back is = differs cc
lacks_more character list differs lacks (x ∷ front) back is = lacks front back cc

first_of : (pattern : List ℕ) → FirstSegment pattern
first_of [] = record { segment = []; rest = []; split = refl; lacks = lacks_none; ends = inl refl }
first_of (character ∷ pattern) = elim (eqb_tells character any_run) [
  | inl is ↦ record { segment = []; rest = character ∷ pattern; split = refl; lacks = lacks_none; ends = inr (pattern, ap (λ one. one ∷ pattern) is.1) }
  | inr is ↦
      let later = first_of pattern in
      record {
        segment = character ∷ later.segment;
        rest = later.rest;
        split = ap (λ rest. character ∷ rest) later.split;
        lacks = lacks_more character later.segment is.1 later.lacks;
        ends = later.ends;
      }
]

-- no text is like a pattern whose first segment has more bytes than it
pub too_long : (text pattern : List ℕ) → IsUtf8 text → IsUtf8 pattern → OccursAfter pattern any_run (length text) → length text < length pattern → ¬ (IsLike (chars text) (any_run ∷ chars pattern))
too_long text pattern text_utf8 pattern_utf8 behind longer like =
    let first = first_of (chars pattern) in
    let run = run_splits (chars text) (chars pattern) like in
    let cut = like_splits run.1 first.segment first.rest (subst (λ cs. IsLike run.1 cs) first.split run.3) in
    let weighs = like_weighs cut.1.0 first.segment first.lacks cut.1.2 in
    let whole : text ≡ encode_utf8_all run.0 ++ (encode_utf8_all cut.1.0 ++ encode_utf8_all cut.0) = sym (encodes-chars text text_utf8) ∙ ap encode_utf8_all (run.2 ∙ ap (λ end. run.0 ++ end) cut.1.1) ∙ encodes-append run.0 (cut.1.0 ++ cut.0) ∙ ap (λ end. encode_utf8_all run.0 ++ end) (encodes-append cut.1.0 cut.0) in
    let short : length (encode_utf8_all first.segment) ≤ length text = omega (arith, weighs, ap length whole, length-append (encode_utf8_all run.0) (encode_utf8_all cut.1.0 ++ encode_utf8_all cut.0), length-append (encode_utf8_all cut.1.0) (encode_utf8_all cut.0)) in
    elim first.ends [
      | inl none ↦
          let all : pattern ≡ encode_utf8_all first.segment = sym (encodes-chars pattern pattern_utf8) ∙ ap encode_utf8_all (first.split ∙ ap (λ end. first.segment ++ end) none ∙ append-nil first.segment) in
          omega (arith, short, longer, ap length all)
      | inr some ↦
          let at = bytes_around pattern first.segment some.0 any_run (omega arith) pattern_utf8 (first.split ∙ ap (λ end. first.segment ++ end) some.1) in
          omega (arith, short, behind (encode_utf8_all first.segment) (encode_utf8_all some.0) at)
    ]
