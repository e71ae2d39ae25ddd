-- What segments of a pattern leave of a text, and that the first place of each is enough. Stated over lists of characters;
-- nothing here knows of the code.
use Rattle.std.proofs.Common.{◌≡◌, ◌≢◌, ℕ, ◌≤◌, ◌↔◌, List, [], ◌∷◌, ◌++◌, length, refl, sym, ap, ◌∙◌, arith, append_assoc, append-nil, length-append}
use Rattle.std.proofs.lemmas.List.{nil_from_length}
use Rattle.std.proofs.lemmas.List.Prefix.{front_rest}
use Rattle.match_comparisons.specs.Like.{any_run, any_one, IsLike}
use Rattle.match_comparisons.specs.inner.Segments.{LacksCharacter, LeavesAfterPrefix, LeavesMost}
use Rattle.match_comparisons.proofs.IsLikeLemmas.{Meets, empty_pattern, empty_pattern_only, like_step, like_first, run_takes, run_takes_more, run_splits, like_joined, like_splits}

-- where a character stands nowhere in a list, nor does it in a part
pub lacks_head : (x character : ℕ) (list rest : List ℕ) → list ≡ character ∷ rest → LacksCharacter list x → character ≢ x
lacks_head x character list rest split lacks is = lacks [] rest (split ∙ ap (λ one. one ∷ rest) is)

pub lacks_tail : (x character : ℕ) (list rest : List ℕ) → list ≡ character ∷ rest → LacksCharacter list x → LacksCharacter rest x
lacks_tail x character list rest split lacks front back is =
    lacks (character ∷ front) back (split ∙ ap (λ end. character ∷ end) is)

pub lacks_last : (x character : ℕ) (list front : List ℕ) → list ≡ front ++ character ∷ [] → LacksCharacter list x → character ≢ x
lacks_last x character list front split lacks is = lacks front [] (split ∙ ap (λ one. front ++ one ∷ []) is)

pub lacks_front : (x : ℕ) (list front more : List ℕ) → list ≡ front ++ more → LacksCharacter list x → LacksCharacter front x
lacks_front x list front more split lacks before back is =
    lacks before (back ++ more) (split ∙ ap (λ part. part ++ more) is ∙ append_assoc before (x ∷ back) more)

-- a segment fits as many characters as it has
pub like_length : (front segment : List ℕ) → LacksCharacter segment any_run → IsLike front segment → length front ≡ length segment
like_length front [] lacks like = ap length (empty_pattern_only front like)
like_length front (character ∷ segment) lacks like =
    let first = like_first character front segment (lacks_head any_run character _ segment refl lacks) like in
    let rest = like_length first.1 segment (lacks_tail any_run character _ segment refl lacks) first.4 in
    omega (arith, ap length first.2, rest)

-- and one without `_` itself
pub like_itself : (segment : List ℕ) → LacksCharacter segment any_run → IsLike segment segment
like_itself [] lacks = empty_pattern
like_itself (character ∷ segment) lacks =
    let meets : Meets character character = record {
      no_run = lacks_head any_run character _ segment refl lacks;
      itself = λ _. refl;
    } in
    like_step character character segment segment meets (like_itself segment (lacks_tail any_run character _ segment refl lacks))

pub like_only : (front segment : List ℕ) → LacksCharacter segment any_run → LacksCharacter segment any_one → IsLike front segment → front ≡ segment
like_only front [] lacks plain like = empty_pattern_only front like
like_only front (character ∷ segment) lacks plain like =
    let first = like_first character front segment (lacks_head any_run character _ segment refl lacks) like in
    let rest = like_only first.1 segment (lacks_tail any_run character _ segment refl lacks) (lacks_tail any_one character _ segment refl plain) first.4 in
    let same = first.3.itself (lacks_head any_one character _ segment refl plain) in
    first.2 ∙ cc (rest, same)

-- two ends of one list
same_end : (whole front left front2 left2 : List ℕ) → whole ≡ front ++ left → whole ≡ front2 ++ left2 → length front ≡ length front2 → left ≡ left2
same_end whole front left front2 left2 split split2 same =
    let one = front_rest whole front left split in
    let two = front_rest whole front2 left2 split2 in
    cc (one, two, same)

pub longer_end : (front left front2 left2 : List ℕ) → front ++ left ≡ front2 ++ left2 → length left2 ≤ length left → (more : List ℕ) × (left ≡ more ++ left2)
longer_end [] left front2 left2 same more = (front2, same)
longer_end (x ∷ front) left [] left2 same more = absurd (omega (arith, ap length same, length-append front left))
longer_end (x ∷ front) left (y ∷ front2) left2 same more =
    let rest : front ++ left ≡ front2 ++ left2 = cc in longer_end front left front2 left2 rest more

-- the segment before the first `%`
pub first_segment : (text segment more left : List ℕ) → LacksCharacter segment any_run → LeavesAfterPrefix text segment left → IsLike text (segment ++ any_run ∷ more) ↔ IsLike left (any_run ∷ more)
first_segment text segment more left lacks leaves = (
  λ like.
      let cut = like_splits text segment (any_run ∷ more) like in
      let other = cut.1 in
      let lengths = like_length other.0 segment lacks other.2 ∙ sym (like_length leaves.0 segment lacks leaves.2) in
      let same = same_end text other.0 cut.0 leaves.0 left other.1 leaves.1 lengths in
      rw same at cut.2,
  λ like. like_joined text left segment (any_run ∷ more) leaves like,
)

pub no_first_segment : (text segment more : List ℕ) → ((left : List ℕ) → ¬ LeavesAfterPrefix text segment left) → ¬ (IsLike text (segment ++ more))
no_first_segment text segment more none like =
    let cut = like_splits text segment more like in none cut.0 cut.1

-- a segment between two `%`: the first place where it fits leaves the most text, and whatever the first `%` could take
-- besides, the second can take instead
pub segment_between : (text segment more left : List ℕ) → LeavesMost text segment left → IsLike text (any_run ∷ segment ++ any_run ∷ more) ↔ IsLike left (any_run ∷ more)
segment_between text segment more left most = (
  λ like.
      let cut = like_splits text (any_run ∷ segment) (any_run ∷ more) like in
      let other = cut.1 in
      let longer = longer_end most.leaves.0 left other.0 cut.0 (sym most.leaves.1 ∙ other.1) (most.most cut.0 other) in
      rw longer.1 (run_takes_more longer.0 cut.0 more cut.2),
  λ like. like_joined text left (any_run ∷ segment) (any_run ∷ more) most.leaves like,
)

pub no_segment_between : (text segment more : List ℕ) → ((left : List ℕ) → ¬ LeavesAfterPrefix text (any_run ∷ segment) left) → ¬ (IsLike text (any_run ∷ segment ++ more))
no_segment_between text segment more none like =
    let cut = like_splits text (any_run ∷ segment) more like in none cut.0 cut.1

-- where the segment is the whole pattern
pub whole_segment : (text segment left : List ℕ) → left ≡ [] → LeavesAfterPrefix text segment left → IsLike text segment
whole_segment text segment left ends leaves =
    let same : text ≡ leaves.0 = leaves.1 ∙ ap (λ rest. leaves.0 ++ rest) ends ∙ append-nil leaves.0 in
    rw same leaves.2

pub whole_segment_only : (text segment left : List ℕ) → LacksCharacter segment any_run → LeavesAfterPrefix text segment left → IsLike text segment → left ≡ []
whole_segment_only text segment left lacks leaves like =
    nil_from_length left (omega (arith, like_length text segment lacks like, like_length leaves.0 segment lacks leaves.2, ap length leaves.1, length-append leaves.0 left))

pub no_whole_segment : (text segment : List ℕ) → ((left : List ℕ) → ¬ LeavesAfterPrefix text segment left) → ¬ (IsLike text segment)
no_whole_segment text segment none like = none [] (text, sym (append-nil text), like)

-- a segment that is laid over the front of a text, character by character
pub front_done : (text segment : List ℕ) → segment ≡ [] → LeavesAfterPrefix text segment text
front_done text segment done = ([], refl, rw done empty_pattern)

pub front_step : (found expected : ℕ) (text segment rest after left : List ℕ) → text ≡ found ∷ rest → segment ≡ expected ∷ after → Meets expected found → LeavesAfterPrefix text segment left ↔ LeavesAfterPrefix rest after left
front_step found expected text segment rest after left text_split segment_split meets = (
  λ leaves.
      let first = like_first expected leaves.0 after meets.no_run (rw segment_split at leaves.2) in
      let whole : text ≡ first.0 ∷ (first.1 ++ left) = leaves.1 ∙ ap (λ front. front ++ left) first.2 in
      (first.1, cc (whole, text_split), first.4),
  λ leaves. (
    found ∷ leaves.0,
    text_split ∙ ap (λ rest. found ∷ rest) leaves.1,
    rw segment_split (like_step found expected leaves.0 after meets leaves.2),
  ),
)

pub front_differs : (found expected : ℕ) (text segment rest after left : List ℕ) → text ≡ found ∷ rest → segment ≡ expected ∷ after → expected ≢ any_run → expected ≢ any_one → expected ≢ found → ¬ LeavesAfterPrefix text segment left
front_differs found expected text segment rest after left text_split segment_split no_run not_one differs leaves =
    let first = like_first expected leaves.0 after no_run (rw segment_split at leaves.2) in
    let whole : text ≡ first.0 ∷ (first.1 ++ left) = leaves.1 ∙ ap (λ front. front ++ left) first.2 in
    let same : first.0 ≡ found = cc (whole, text_split) in
    differs (first.3.itself not_one ∙ same)

pub front_ends : (expected : ℕ) (text segment after left : List ℕ) → text ≡ [] → segment ≡ expected ∷ after → expected ≢ any_run → ¬ LeavesAfterPrefix text segment left
front_ends expected text segment after left text_ends segment_split no_run leaves =
    let first = like_first expected leaves.0 after no_run (rw segment_split at leaves.2) in
    let whole : text ≡ first.0 ∷ (first.1 ++ left) = leaves.1 ∙ ap (λ front. front ++ left) first.2 in
    cc (whole, text_ends)

-- a segment that is tried at each character in turn
pub first_place : (text segment left : List ℕ) → LacksCharacter segment any_run → LeavesAfterPrefix text segment left → LeavesMost text segment left
first_place text segment left lacks leaves = record {
  leaves = (leaves.0, leaves.1, run_takes [] leaves.0 segment leaves.2);
  most = λ other found.
      let cut = run_splits found.0 segment found.2 in
      omega (arith, like_length leaves.0 segment lacks leaves.2, like_length cut.1 segment lacks cut.3, ap length leaves.1, ap length found.1, ap length cut.2, length-append leaves.0 left, length-append found.0 other, length-append cut.0 cut.1);
}

later_of : (before at : List ℕ) (found : ℕ) (text segment rest left : List ℕ) → text ≡ found ∷ rest → ¬ LeavesAfterPrefix text segment left → text ≡ (before ++ at) ++ left → IsLike at segment → LeavesAfterPrefix rest (any_run ∷ segment) left
later_of [] at found text segment rest left split none whole like = absurd (none (at, whole, like))
later_of (x ∷ before) at found text segment rest left split none whole like =
    (before ++ at, cc (split, whole), run_takes before at segment like)

pub later_place : (found : ℕ) (text segment rest left : List ℕ) → text ≡ found ∷ rest → ¬ LeavesAfterPrefix text segment left → LeavesAfterPrefix text (any_run ∷ segment) left ↔ LeavesAfterPrefix rest (any_run ∷ segment) left
later_place found text segment rest left split none = (
  λ leaves.
      let cut = run_splits leaves.0 segment leaves.2 in
      later_of cut.0 cut.1 found text segment rest left split none (leaves.1 ∙ ap (λ front. front ++ left) cut.2) cut.3,
  λ leaves. (
    found ∷ leaves.0,
    split ∙ ap (λ rest. found ∷ rest) leaves.1,
    run_takes_more (found ∷ []) leaves.0 segment leaves.2,
  ),
)

pub no_place : (text segment left : List ℕ) → text ≡ [] → ¬ LeavesAfterPrefix text segment left → ¬ LeavesAfterPrefix text (any_run ∷ segment) left
no_place text segment left ends none leaves =
    let cut = run_splits leaves.0 segment leaves.2 in
    let lengths : (length cut.0 ≡ 0) × (length cut.1 ≡ 0) × (length left ≡ 0) = (
      omega (arith, ap length ends, ap length leaves.1, ap length cut.2, length-append leaves.0 left, length-append cut.0 cut.1),
      omega (arith, ap length ends, ap length leaves.1, ap length cut.2, length-append leaves.0 left, length-append cut.0 cut.1),
      omega (arith, ap length ends, ap length leaves.1, ap length cut.2, length-append leaves.0 left, length-append cut.0 cut.1),
    ) in
    let at : cut.1 ≡ [] = nil_from_length cut.1 lengths.1 in
    let over : left ≡ [] = nil_from_length left lengths.2 in
    none (cut.1, rw (ends, at, over) refl, cut.3)

-- what holds of the places of a text's rest holds of its own where these are the same
pub places_same : (text rest segment left : List ℕ) → ((other : List ℕ) → LeavesAfterPrefix text (any_run ∷ segment) other ↔ LeavesAfterPrefix rest (any_run ∷ segment) other) → LeavesMost rest segment left → LeavesMost text segment left
places_same text rest segment left same most = record {
  leaves = (same left).1 most.leaves;
  most = λ other leaves. most.most other ((same other).0 leaves);
}

-- a segment after the last `%`, from its end
pub end_done : (text segment : List ℕ) → segment ≡ [] → IsLike text (any_run ∷ segment)
end_done text segment done =
    let all = run_takes text [] [] empty_pattern in
    rw (done, ← append-nil text) all

last_of : (expected : ℕ) (left : List ℕ) → expected ≢ any_run → IsLike left (expected ∷ []) → (x : ℕ) × (left ≡ x ∷ []) × Meets expected x
last_of expected left no_run like =
    let first = like_first expected left [] no_run like in
    (first.0, first.2 ∙ ap (λ rest. first.0 ∷ rest) (empty_pattern_only first.1 first.4), first.3)

record EndsWith (expected : ℕ) (text before : List ℕ) : Type 0 where
  front : List ℕ
  last : ℕ
  split : text ≡ front ++ last ∷ []
  meets : Meets expected last
  like : IsLike front (any_run ∷ before)

ends_with : (expected : ℕ) (text segment before : List ℕ) → segment ≡ before ++ expected ∷ [] → expected ≢ any_run → IsLike text (any_run ∷ segment) → EndsWith expected text before
ends_with expected text segment before split no_run like =
    let cut = like_splits text (any_run ∷ before) (expected ∷ []) (rw split at like) in
    let last = last_of expected cut.0 no_run cut.2 in record {
      front = cut.1.0;
      last = last.0;
      split = cut.1.1 ∙ ap (λ rest. cut.1.0 ++ rest) last.1;
      meets = last.2;
      like = cut.1.2;
    }

last_same : (front rest : List ℕ) (x found : ℕ) → front ++ x ∷ [] ≡ rest ++ found ∷ [] → (front ≡ rest) × (x ≡ found)
last_same [] [] x found same = (refl, cc)
last_same [] (y ∷ rest) x found same = absurd (omega (arith, ap length same, length-append rest (found ∷ [])))
last_same (z ∷ front) [] x found same = absurd (omega (arith, ap length same, length-append front (x ∷ [])))
last_same (z ∷ front) (y ∷ rest) x found same =
    let inner : front ++ x ∷ [] ≡ rest ++ found ∷ [] = cc in
    let both = last_same front rest x found inner in (cc (same, both.0), both.1)

pub end_step : (found expected : ℕ) (text segment rest before : List ℕ) → text ≡ rest ++ found ∷ [] → segment ≡ before ++ expected ∷ [] → Meets expected found → IsLike text (any_run ∷ segment) ↔ IsLike rest (any_run ∷ before)
end_step found expected text segment rest before text_split segment_split meets = (
  λ like.
      let ends = ends_with expected text segment before segment_split meets.no_run like in
      let same = last_same ends.front rest ends.last found (sym ends.split ∙ text_split) in
      rw same.0 at ends.like,
  λ like. rw segment_split (like_joined text (found ∷ []) (any_run ∷ before) (expected ∷ []) (rest, text_split, like) (like_step found expected [] [] meets empty_pattern)),
)

pub end_differs : (found expected : ℕ) (text segment rest before : List ℕ) → text ≡ rest ++ found ∷ [] → segment ≡ before ++ expected ∷ [] → expected ≢ any_run → expected ≢ any_one → expected ≢ found → ¬ (IsLike text (any_run ∷ segment))
end_differs found expected text segment rest before text_split segment_split no_run not_one differs like =
    let ends = ends_with expected text segment before segment_split no_run like in
    let same = last_same ends.front rest ends.last found (sym ends.split ∙ text_split) in
    differs (ends.meets.itself not_one ∙ same.1)

pub end_short : (expected : ℕ) (text segment before : List ℕ) → text ≡ [] → segment ≡ before ++ expected ∷ [] → expected ≢ any_run → ¬ (IsLike text (any_run ∷ segment))
end_short expected text segment before ends split no_run like =
    let last = ends_with expected text segment before split no_run like in
    omega (arith, ap length ends, ap length last.split, length-append last.front (last.last ∷ []))
