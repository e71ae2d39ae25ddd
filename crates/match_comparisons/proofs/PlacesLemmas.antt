-- The places of a text where a segment may match, 64 at a time. Stated over lists; nothing here knows of the code.
use Rattle.std.proofs.Common.{cond, eqb, false, IsUtf8, zero-add, length-drop, ◌≡◌, ◌≢◌, ℕ, zero, suc, ◌+◌, ◌-◌, ◌<◌, ◌≤◌, ◌%◌, ◌^◌, ◌⊎◌, inl, inr, min, List, [], ◌∷◌, ◌++◌, length, drop, get_or, set, refl, sym, ap, ◌∙◌, arith, subst, bit_and, w64}
use Rattle.std.specs.Int.{bit_at, bit_not, trailing_zeros}
use Rattle.std.proofs.lemmas.Nat.Bits.{bit_at_and, bit_at_ones, bit_at-trailing_zeros, bit_at-zero, bit_at_not}
use Rattle.std.proofs.lemmas.List.{get_or-set_same, get_or-set_other, length-set}
use Rattle.std.proofs.lemmas.Nat.{trailing_le}
use Rattle.std.proofs.lemmas.Bool.{eqb-false}
use Rattle.std.proofs.lemmas.Bool.Decides.{eqb_tells}
use Rattle.std.proofs.lemmas.List.{nil_from_length}
use Rattle.std.specs.Str.{chars}
use lib.Count.{count_trailing_zeros}
use Rattle.match_comparisons.specs.Like.{any_run}
use Rattle.match_comparisons.specs.inner.Segments.{LeavesAfterPrefix}
use Rattle.match_comparisons.specs.inner.Places.{mark_at, FitsMark, Shows, KeepsPlaces, SamePlaces}
use Rattle.match_comparisons.proofs.CharactersLemmas.{chars-none}
use Rattle.match_comparisons.proofs.IsLikeLemmas.{like_first}
use Rattle.match_comparisons.proofs.SegmentsLemmas.{later_place}

-- ---- a text past its first characters
drop_after : (k : ℕ) (text : List ℕ) → drop 1 (drop k text) ≡ drop (suc k) text
drop_after zero [] = refl
drop_after zero (x ∷ text) = refl
drop_after (suc k) [] = refl
drop_after (suc k) (x ∷ text) = drop_after k text

pub drop_more : (k : ℕ) (text part rest : List ℕ) → part ≡ drop k text → rest ≡ drop 1 part → rest ≡ drop (k + 1) text
drop_more k text part rest is next =
    let e : suc k ≡ k + 1 = omega arith in
    next ∙ ap (drop 1) is ∙ drop_after k text ∙ ap (λ n. drop n text) e

drop_first : (k : ℕ) (text : List ℕ) → drop k (drop 1 text) ≡ drop (suc k) text
drop_first zero [] = refl
drop_first zero (x ∷ text) = refl
drop_first (suc k) [] = refl
drop_first (suc k) (x ∷ text) = refl

pub drop_swap : (k : ℕ) (text : List ℕ) → drop k (drop 1 text) ≡ drop 1 (drop k text)
drop_swap k text = drop_first k text ∙ sym (drop_after k text)

pub mark_past : (k : ℕ) (text : List ℕ) (place : ℕ) → mark_at (drop k text) place ≡ mark_at text (k + place)
mark_past zero text place = ap (mark_at text) (omega arith)
mark_past (suc k) [] place = refl
mark_past (suc k) (x ∷ text) place =
    let e : suc k + place ≡ suc (k + place) = omega arith in
    mark_past k text place ∙ ap (mark_at (x ∷ text)) (sym e)

pub mark_next : (text : List ℕ) (place : ℕ) → mark_at (drop 1 text) place ≡ mark_at text (suc place)
mark_next [] place = refl
mark_next (x ∷ text) place = refl

-- ---- a window that moves by one character
abbrev pub written : List ℕ → ℕ → ℕ → List ℕ
written window at mark = set (set window at mark) (at + 64) mark

written_low : (window : List ℕ) (at mark place : ℕ) → length window ≡ 128 → at < 64 → place ≡ at → get_or (written window at mark) place 0 ≡ mark
written_low window at mark place long within is =
    let other : place ≢ at + 64 = λ no. omega arith in
    get_or-set_other (set window at mark) (at + 64) place mark 0 other ∙ ap (λ k. get_or (set window at mark) k 0) is ∙ get_or-set_same window at mark 0 (omega arith)

written_high : (window : List ℕ) (at mark place : ℕ) → length window ≡ 128 → at < 64 → place ≡ at + 64 → get_or (written window at mark) place 0 ≡ mark
written_high window at mark place long within is =
    ap (λ k. get_or (written window at mark) k 0) is ∙ get_or-set_same (set window at mark) (at + 64) mark 0 (omega (arith, length-set window at mark))

written_other : (window : List ℕ) (at mark place : ℕ) → place ≢ at → place ≢ at + 64 → get_or (written window at mark) place 0 ≡ get_or window place 0
written_other window at mark place low high =
    get_or-set_other (set window at mark) (at + 64) place mark 0 high ∙ get_or-set_other window at place mark 0 low

shown_next : (window text : List ℕ) (at place : ℕ) → Shows window text at → place < 63 → get_or window (at + 1 + place) 0 ≡ mark_at (drop 1 text) place
shown_next window text at place shows below =
    let e : at + 1 + place ≡ at + suc place = omega arith in
    ap (λ k. get_or window k 0) e ∙ shows.marks (suc place) (omega arith) ∙ sym (mark_next text place)

shown_last : (text : List ℕ) (mark place : ℕ) → mark ≡ mark_at text 64 → place ≡ 63 → mark ≡ mark_at (drop 1 text) place
shown_last text mark place is last =
    let e : 64 ≡ suc place = omega arith in is ∙ ap (mark_at text) e ∙ sym (mark_next text place)

marks_inside : (window text : List ℕ) (at mark place : ℕ) → length window ≡ 128 → Shows window text at → mark ≡ mark_at text 64 → at < 63 → place < 64 → get_or (written window at mark) (at + 1 + place) 0 ≡ mark_at (drop 1 text) place
marks_inside window text at mark place long shows is inside below = elim (eqb_tells place 63) [
  | inl last ↦ written_high window at mark (at + 1 + place) long shows.within (omega (arith, last.1)) ∙ shown_last text mark place is last.1
  | inr other ↦
      let low : at + 1 + place ≢ at = λ no. omega arith in
      let high : at + 1 + place ≢ at + 64 = λ no. other.1 (omega arith) in
      written_other window at mark (at + 1 + place) low high ∙ shown_next window text at place shows (omega (arith, other.1))
]

marks_around : (window text : List ℕ) (mark place : ℕ) → length window ≡ 128 → Shows window text 63 → mark ≡ mark_at text 64 → place < 64 → get_or (written window 63 mark) place 0 ≡ mark_at (drop 1 text) place
marks_around window text mark place long shows is below = elim (eqb_tells place 63) [
  | inl last ↦ written_low window 63 mark place long shows.within last.1 ∙ shown_last text mark place is last.1
  | inr other ↦
      let high : place ≢ 63 + 64 = λ no. omega arith in
      let e : place + 64 ≡ 63 + 1 + place = omega arith in
      written_other window 63 mark place other.1 high ∙ sym (shows.twice place below) ∙ ap (λ k. get_or window k 0) e ∙ shown_next window text 63 place shows (omega (arith, other.1))
]

twice_next : (window text : List ℕ) (at mark place : ℕ) → length window ≡ 128 → Shows window text at → place < 64 → get_or (written window at mark) (place + 64) 0 ≡ get_or (written window at mark) place 0
twice_next window text at mark place long shows below = elim (eqb_tells place at) [
  | inl is ↦ written_high window at mark (place + 64) long shows.within (omega (arith, is.1)) ∙ sym (written_low window at mark place long shows.within is.1)
  | inr other ↦
      let low : place + 64 ≢ at = λ no. omega (arith, shows.within) in
      let high : place + 64 ≢ at + 64 = λ no. other.1 (omega arith) in
      let high2 : place ≢ at + 64 = λ no. omega arith in
      written_other window at mark (place + 64) low high ∙ shows.twice place below ∙ sym (written_other window at mark place other.1 high2)
]

pub shows_next : (window text : List ℕ) (at mark : ℕ) → length window ≡ 128 → Shows window text at → mark ≡ mark_at text 64 → Shows (written window at mark) (drop 1 text) ((at + 1) % 64)
shows_next window text at mark long shows is = elim (eqb_tells at 63) [
  | inl last ↦
      let around : Shows window text 63 = rw last.1 at shows in
      let e : (at + 1) % 64 ≡ 0 = omega (arith, last.1) in
      rw (e, last.1) (record {
        within = omega arith;
        marks = λ place below. ap (λ k. get_or (written window 63 mark) k 0) (zero-add place) ∙ marks_around window text mark place long around is below;
        twice = λ place below. twice_next window text 63 mark place long around below;
      })
  | inr other ↦
      let inside : at < 63 = omega (arith, shows.within, other.1) in
      let e : (at + 1) % 64 ≡ at + 1 = omega arith in
      rw e (record {
        within = omega arith;
        marks = λ place below. marks_inside window text at mark place long shows is inside below;
        twice = λ place below. twice_next window text at mark place long shows below;
      })
]

-- a window that is filled from its front, both halves alike
pub record FilledTo (window text : List ℕ) (at : ℕ) : Type 0 where
  pub low : (place : ℕ) → place < at → get_or window place 0 ≡ mark_at text place
  pub high : (place : ℕ) → place < at → get_or window (place + 64) 0 ≡ mark_at text place

filled_low : (window text : List ℕ) (at mark place : ℕ) → length window ≡ 128 → at < 64 → mark ≡ mark_at text at → FilledTo window text at → place < at + 1 → get_or (written window at mark) place 0 ≡ mark_at text place
filled_low window text at mark place long within is filled below = elim (eqb_tells place at) [
  | inl here ↦ written_low window at mark place long within here.1 ∙ is ∙ ap (mark_at text) (sym here.1)
  | inr other ↦
      let high : place ≢ at + 64 = λ no. omega arith in
      written_other window at mark place other.1 high ∙ filled.low place (omega (arith, below, other.1))
]

filled_high : (window text : List ℕ) (at mark place : ℕ) → length window ≡ 128 → at < 64 → mark ≡ mark_at text at → FilledTo window text at → place < at + 1 → get_or (written window at mark) (place + 64) 0 ≡ mark_at text place
filled_high window text at mark place long within is filled below = elim (eqb_tells place at) [
  | inl here ↦ written_high window at mark (place + 64) long within (omega (arith, here.1)) ∙ is ∙ ap (mark_at text) (sym here.1)
  | inr other ↦
      let low : place + 64 ≢ at = λ no. omega arith in
      let high : place + 64 ≢ at + 64 = λ no. other.1 (omega arith) in
      written_other window at mark (place + 64) low high ∙ filled.high place (omega (arith, below, other.1))
]

pub filled_more : (window text rest : List ℕ) (at mark : ℕ) → length window ≡ 128 → at < 64 → rest ≡ drop at text → mark ≡ mark_at rest 0 → FilledTo window text at → FilledTo (written window at mark) text (at + 1)
filled_more window text rest at mark long within is next filled =
    let e : at + 0 ≡ at = omega arith in
    let mark_is : mark ≡ mark_at text at = next ∙ ap (λ text. mark_at text 0) is ∙ mark_past at text 0 ∙ ap (mark_at text) e in
    record {
      low = λ place below. filled_low window text at mark place long within mark_is filled below;
      high = λ place below. filled_high window text at mark place long within mark_is filled below;
    }

pub filled_none : (window text : List ℕ) → FilledTo window text 0
filled_none window text = record { low = λ place below. absurd (omega arith); high = λ place below. absurd (omega arith) }

pub filled_shows : (window text : List ℕ) → FilledTo window text 64 → Shows window text 0
filled_shows window text filled = record {
  within = omega arith;
  marks = λ place below. ap (λ k. get_or window k 0) (zero-add place) ∙ filled.low place below;
  twice = λ place below. filled.high place below ∙ sym (filled.low place below);
}

pub long_written : (window : List ℕ) (at mark : ℕ) → length window ≡ 128 → length (written window at mark) ≡ 128
long_written window at mark long = length-set (set window at mark) (at + 64) mark ∙ length-set window at mark ∙ long

-- ---- one lane
pub is_mark : (equal i mark : ℕ) → equal < 2 ^ 64 → i < 64 → bit_at equal i ≡ cond (eqb mark 0) 1 0 → bit_at (bit_not w64 equal) i ≡ 0 → mark ≡ 0
is_mark equal i mark fits below is none = elim (eqb_tells mark 0) [
  | inl absent ↦ absent.1
  | inr some ↦
      let bit : bit_at equal i ≡ 0 = is ∙ ap (λ b. cond b 1 0) some.0 in
      absurd (omega (arith, bit_at_not w64 equal i fits below, none, bit))
]

-- ---- what the places that a segment leaves out say of the text
none_between : (n : ℕ) (text segment : List ℕ) → ((place : ℕ) → place < n → (left : List ℕ) → ¬ LeavesAfterPrefix (drop place text) segment left) → SamePlaces text (drop n text) segment
none_between zero text segment none left = (λ leaves. leaves, λ leaves. leaves)
none_between (suc n) [] segment none left = (λ leaves. leaves, λ leaves. leaves)
none_between (suc n) (x ∷ text) segment none left =
    let here = later_place x (x ∷ text) segment text left refl (none 0 (omega arith) left) in
    let rest = none_between n text segment (λ place below. none (suc place) (omega (arith, below))) left in
    (λ leaves. rest.0 (here.0 leaves), λ leaves. here.1 (rest.1 leaves))

first_is_zero : (places place : ℕ) → places < 2 ^ 64 → place < trailing_zeros w64 places → bit_at places place ≡ 0
first_is_zero places place fits below = elim (eqb_tells places 0) [
  | inl is ↦ rw is.1 (bit_at-zero place)
  | inr is ↦ (bit_at-trailing_zeros w64 places (omega (arith, is.1)) fits).2 place below
]

pub first_places : (text segment : List ℕ) (places : ℕ) → places < 2 ^ 64 → KeepsPlaces text segment places → SamePlaces text (drop (trailing_zeros w64 places) text) segment
first_places text segment places fits keeps =
    none_between (trailing_zeros w64 places) text segment (λ place below. keeps place (omega (arith, below, trailing_le 64 places)) (first_is_zero places place fits below))

pub same_on : (text rest more segment : List ℕ) → SamePlaces text rest segment → SamePlaces rest more segment → SamePlaces text more segment
same_on text rest more segment first later left =
    (λ leaves. (later left).0 ((first left).0 leaves), λ leaves. (first left).1 ((later left).1 leaves))

pub no_longer : (n : ℕ) (text rest whole : List ℕ) → rest ≡ drop n text → length text ≤ length whole → length rest ≤ length whole
no_longer n text rest whole is before = omega (arith, before, ap length is, length-drop n text)

none_trails : trailing_zeros w64 0 ≡ 64
unfolding count_trailing_zeros
none_trails = refl

some_character : (bytes : List ℕ) → IsUtf8 bytes → length bytes ≢ 0 → 0 < length (chars bytes)
some_character bytes utf8 some = elim (eqb_tells (length (chars bytes)) 0) [
  | inl none ↦ absurd (some (chars-none bytes utf8 (nil_from_length (chars bytes) none.1)))
  | inr more ↦ omega (arith, more.1)
]

pub shorter : (bytes rest : List ℕ) (places : ℕ) → IsUtf8 bytes → eqb (length bytes) 0 ≡ false → places ≡ 0 → rest ≡ drop (trailing_zeros w64 places) (chars bytes) → length rest < length (chars bytes)
shorter bytes rest places utf8 some none is =
    let count : trailing_zeros w64 places ≡ 64 = ap (trailing_zeros w64) none ∙ none_trails in
    let there = some_character bytes utf8 (eqb-false (length bytes) 0 some) in
    omega (arith, there, count, ap length is, length-drop (trailing_zeros w64 places) (chars bytes))

-- ---- one character of the segment
pub front_fits : (expected : ℕ) (text segment after left : List ℕ) → segment ≡ expected ∷ after → expected ≢ any_run → LeavesAfterPrefix text segment left → FitsMark expected (mark_at text 0) × LeavesAfterPrefix (drop 1 text) after left
front_fits expected text segment after left segment_split no_run leaves =
    let first = like_first expected leaves.0 after no_run (rw segment_split at leaves.2) in
    let whole : text ≡ first.0 ∷ (first.1 ++ left) = leaves.1 ∙ ap (λ front. front ++ left) first.2 in
    let mark : mark_at text 0 ≡ first.0 + 1 = ap (λ text. mark_at text 0) whole in
    let fits : FitsMark expected (mark_at text 0) = record {
      present = omega (arith, mark);
      itself = λ not_one. mark ∙ ap (λ one. one + 1) (sym (first.3.itself not_one));
    } in
    (fits, (first.1, ap (drop 1) whole, first.4))

-- how far the search for places has come: it stands at `here` of the text
pub record Reached (text segment window rest after : List ℕ) (at places : ℕ) : Type 0 where
  pub here : List ℕ
  pub shows : Shows window here at
  pub ahead : rest ≡ drop 64 here
  pub reduces : (place : ℕ) (left : List ℕ) → LeavesAfterPrefix (drop place text) segment left → LeavesAfterPrefix (drop place here) after left
  pub keeps : KeepsPlaces text segment places

pub reached_first : (text segment window ahead : List ℕ) → Shows window text 0 → ahead ≡ drop 64 text → Reached text segment window ahead segment 0 (2 ^ 64 - 1)
reached_first text segment window ahead shows is = record {
  here = text;
  shows = shows;
  ahead = is;
  reduces = λ place left leaves. leaves;
  keeps = λ place below none. absurd (omega (arith, none, bit_at_ones 64 place below));
}

least_zero : (a b : ℕ) → min a b ≡ 0 → (a ≡ 0) ⊎ (b ≡ 0)
least_zero zero b is = inl refl
least_zero (suc a) zero is = inr refl
least_zero (suc a) (suc b) is = absurd (omega arith)

pub keeps_both : (text segment window ahead part after : List ℕ) (expected at places equal : ℕ) → Reached text segment window ahead part at places → part ≡ expected ∷ after → expected ≢ any_run
    → ((place : ℕ) → place < 64 → bit_at equal place ≡ 0 → ¬ FitsMark expected (get_or window (at + place) 0)) → KeepsPlaces text segment (bit_and places equal)
keeps_both text segment window ahead part after expected at places equal reached split no_run misses place below none left leaves =
    elim (least_zero (bit_at places place) (bit_at equal place) (sym (bit_at_and places equal place) ∙ none)) [
      | inl old ↦ reached.keeps place below old left leaves
      | inr new ↦
          let fits = (front_fits expected (drop place reached.here) part after left split no_run (reached.reduces place left leaves)).0 in
          let mark : mark_at (drop place reached.here) 0 ≡ get_or window (at + place) 0 = mark_past place reached.here 0 ∙ ap (mark_at reached.here) (omega arith) ∙ sym (reached.shows.marks place below) in
          misses place below new (rw mark at fits)
    ]

pub reached_next : (text segment window ahead part after next_window next_ahead : List ℕ) (expected at places next_at next_places : ℕ) → Reached text segment window ahead part at places → part ≡ expected ∷ after → expected ≢ any_run
    → KeepsPlaces text segment next_places → ((here : List ℕ) → Shows window here at → ahead ≡ drop 64 here → Shows next_window (drop 1 here) next_at) → next_ahead ≡ drop 1 ahead
    → Reached text segment next_window next_ahead after next_at next_places
reached_next text segment window ahead part after next_window next_ahead expected at places next_at next_places reached split no_run keeps shows moved = record {
  here = drop 1 reached.here;
  shows = shows reached.here reached.shows reached.ahead;
  ahead = moved ∙ ap (drop 1) reached.ahead ∙ sym (drop_swap 64 reached.here);
  reduces = λ place left leaves. subst (λ rest. LeavesAfterPrefix rest after left) (sym (drop_swap place reached.here)) (front_fits expected (drop place reached.here) part after left split no_run (reached.reduces place left leaves)).1;
  keeps = keeps;
}

-- the mark after the window's
pub mark_ahead : (here ahead : List ℕ) → ahead ≡ drop 64 here → mark_at ahead 0 ≡ mark_at here 64
mark_ahead here ahead is = ap (λ text. mark_at text 0) is ∙ mark_past 64 here 0
