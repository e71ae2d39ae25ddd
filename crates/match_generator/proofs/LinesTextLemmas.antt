-- How long a line is, and how what is left of a log lies in a line and in the lines after it.
use Rattle.std.proofs.Common.{◌≡◌, ℕ, zero, suc, ◌+◌, ◌-◌, ◌%◌, ◌<◌, ◌≤◌, List, [], ◌∷◌, ◌++◌, length, take, drop, min, refl, sym, ap, ◌∙◌, arith}
use Rattle.std.proofs.lemmas.List.{length-append, length-take-le, length-drop, take_at, take-append-le, drop-drop, drop-append-le}
use Rattle.match_generator.specs.GeneratedLog.{next_state, drawn_number, events, time_text, line_text, lines_text}

pub length-time_text : (seconds : ℕ) → length (time_text seconds) ≡ 20
unfolding time_text
length-time_text seconds = refl

-- how long a line is when so many pieces are written
pub ruleset lengths = (length-append, length-time_text)

pub length-line_text : (seconds digit : ℕ) → length (line_text seconds digit) ≡ 533
unfolding line_text time_text
length-line_text seconds digit = refl

-- the first of some lines, whose draws leave these states
lines_text-next : (seconds state count first second : ℕ) → 0 < count → first ≡ next_state state → second ≡ next_state first → lines_text seconds (events state count) ≡ line_text (seconds + drawn_number first % 10) (drawn_number second % 4) ++ lines_text (seconds + drawn_number first % 10) (events second (count - 1))
unfolding lines_text events
lines_text-next seconds state zero first second some f s = absurd (omega arith)
lines_text-next seconds state (suc count) first second some f s =
    let e : suc count - 1 ≡ count = omega arith in
    rw (s, f, e)

lines_text-none : (seconds state count : ℕ) → count ≡ 0 → lines_text seconds (events state count) ≡ []
unfolding lines_text events
lines_text-none seconds state count e = rw e

-- what is left stands in a line from a place on, and in the lines after it; where the line is used up, nothing is left
pub record StandsIn (left line : List ℕ) (at : ℕ) (behind : List ℕ) : Type 0 where
  pub all : drop at line ++ behind ≡ left
  pub end : length line ≤ at → left ≡ []

used_up : (line : List ℕ) (at : ℕ) → at ≡ length line → drop at line ≡ []
used_up [] at e = rw e
used_up (x ∷ line) at e = rw e (used_up line (length line) refl)

-- the next line was made
pub in_next : (left line made : List ℕ) (at seconds state count first one second two : ℕ) → drop at line ++ lines_text seconds (events state count) ≡ left → at ≡ length line → 0 < count → first ≡ next_state state → one ≡ drawn_number first → second ≡ next_state first → two ≡ drawn_number second → made ≡ line_text (seconds + one % 10) (two % 4) → StandsIn left made 0 (lines_text (seconds + one % 10) (events second (count - 1)))
in_next left line made at seconds state count first one second two all used some f o s t e =
    let now = seconds + one % 10 in
    let next : lines_text seconds (events state count) ≡ line_text now (two % 4) ++ lines_text now (events second (count - 1)) = rw (o, t) (lines_text-next seconds state count first second some f s) in
    record {
      all = ap (λ front. front ++ lines_text now (events second (count - 1))) e ∙ sym next ∙ ap (λ front. front ++ lines_text seconds (events state count)) (sym (used_up line at used)) ∙ all;
      end = λ short. absurd (omega (arith, ap length e, length-line_text now (two % 4)));
    }

-- no line is to come
pub in_last : (left line : List ℕ) (at seconds state count : ℕ) → drop at line ++ lines_text seconds (events state count) ≡ left → at ≡ length line → count ≡ 0 → StandsIn left line at (lines_text seconds (events state count))
in_last left line at seconds state count all used none =
    let empty = used_up line at used in
    let no_more = lines_text-none seconds state count none in
    record { all = all; end = λ short. sym all ∙ rw (empty, no_more) }

-- the line isn't used up
pub in_same : (left line behind : List ℕ) (at : ℕ) → drop at line ++ behind ≡ left → at < length line → StandsIn left line at behind
in_same left line behind at all more = record { all = all; end = λ short. absurd (omega arith) }

-- as many bytes of the line as are copied are the next ones
pub given : (left line behind copied buffer : List ℕ) (at n : ℕ) → StandsIn left line at behind → n ≤ length (drop at line) → copied ≡ take n (drop at line) → take (length (take n (copied ++ buffer))) left ≡ take n (copied ++ buffer)
given left line behind copied buffer at n h few e =
    let long : length copied ≡ n = ap length e ∙ length-take-le n (drop at line) few in
    let front : take n (copied ++ buffer) ≡ copied = take_at copied buffer n long in
    rw (front, long, ← h.all, e) (take-append-le n (drop at line) behind few)

-- what is left after them
pub rest : (left line behind : List ℕ) (at n : ℕ) → StandsIn left line at behind → n ≤ length (drop at line) → drop (at + n) line ++ behind ≡ drop n left
rest left line behind at n h few = rw (← h.all, drop-append-le n (drop at line) behind few, drop-drop n at line)

-- none are copied only where none is left
pub end : (left line behind : List ℕ) (at n room : ℕ) → StandsIn left line at behind → n ≡ min room (length (drop at line)) → 0 < room → n ≡ 0 → left ≡ []
end left line behind at n room h e some none = h.end (omega (arith, length-drop at line))
