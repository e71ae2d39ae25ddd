-- A segment with no `_`: it fits a text's characters where its bytes stand among the text's bytes.
use Rattle.std.proofs.Common.{◌≡◌, ℕ, ◌+◌, ◌≤◌, inl, inr, List, ◌∷◌, ◌++◌, length, take, drop, Some, None, IsUtf8, sym, ap, ◌∙◌, arith, append_assoc, length-append, take-append-drop, length-take-le, le_of_lt}
use Rattle.std.specs.Prelude.{encode_utf8_all}
use Rattle.std.specs.Str.{chars, IsCharBoundary}
use Rattle.std.specs.Str.Pattern.{FindsText}
use Rattle.std.proofs.lemmas.Bool.{cases_lt}
use Rattle.std.proofs.lemmas.List.Prefix.{front_rest}
use Rattle.std.proofs.lemmas.Str.{chars-append, encodes-chars, encodes-append, length-le-encodes, IsUtf8-append, IsUtf8-drop, IsUtf8-take, IsCharBoundary-from_drop}
use Rattle.match_comparisons.specs.Like.{any_run, any_one}
use Rattle.match_comparisons.specs.inner.Segments.{LacksCharacter, LeavesAfterPrefix, LeavesMost}
use Rattle.match_comparisons.proofs.IsLikeLemmas.{run_takes, run_splits}
use Rattle.match_comparisons.proofs.SegmentsLemmas.{like_itself, like_only, longer_end}

module _ (text segment : List ℕ) (text_utf8 : IsUtf8 text) (segment_utf8 : IsUtf8 segment) (lacks : LacksCharacter (chars segment) any_run) (plain : LacksCharacter (chars segment) any_one) where
  -- where the segment fits, its bytes stand
  stands : (other : List ℕ) → LeavesAfterPrefix (chars text) (any_run ∷ chars segment) other → (before : List ℕ) × (text ≡ before ++ (segment ++ encode_utf8_all other))
  stands other leaves =
      let cut = run_splits leaves.0 (chars segment) leaves.2 in
      let at : cut.1 ≡ chars segment = like_only cut.1 (chars segment) lacks plain cut.3 in
      let whole : chars text ≡ cut.0 ++ (chars segment ++ other) = leaves.1 ∙ ap (λ front. front ++ other) (cut.2 ∙ ap (λ end. cut.0 ++ end) at) ∙ append_assoc cut.0 (chars segment) other in
      let bytes : encode_utf8_all (chars segment ++ other) ≡ segment ++ encode_utf8_all other = encodes-append (chars segment) other ∙ ap (λ own. own ++ encode_utf8_all other) (encodes-chars segment segment_utf8) in
      (encode_utf8_all cut.0, sym (encodes-chars text text_utf8) ∙ ap encode_utf8_all whole ∙ encodes-append cut.0 (chars segment ++ other) ∙ ap (λ end. encode_utf8_all cut.0 ++ end) bytes)

  pub plain_nowhere : FindsText segment text None → (other : List ℕ) → ¬ LeavesAfterPrefix (chars text) (any_run ∷ chars segment) other
  plain_nowhere nowhere other leaves =
      let at = stands other leaves in
      nowhere (length at.0) (omega (arith, ap length at.1, length-append at.0 (segment ++ encode_utf8_all other))) (encode_utf8_all other) (front_rest text at.0 (segment ++ encode_utf8_all other) at.1)

  -- the first place where its bytes stand is the first place where it fits
  module _ (front left : List ℕ) (i j : ℕ) (finds : FindsText segment text (Some (i, j))) (front_is : front ≡ take i text) (left_is : left ≡ drop j text) (inside : i ≤ length text) where
    left_utf8 : IsUtf8 left
    left_utf8 =
        let boundary : IsCharBoundary text j = rw finds.1.ends finds.1.after in
        rw left_is (IsUtf8-drop text j text_utf8 boundary)

    behind : drop i text ≡ segment ++ left
    behind = finds.1.split ∙ ap (λ end. segment ++ end) (sym left_is)

    front_utf8 : IsUtf8 front
    front_utf8 =
        let rest : IsUtf8 (drop i text) = rw behind (IsUtf8-append segment left segment_utf8 left_utf8) in
        rw front_is (IsUtf8-take text i text_utf8 (IsCharBoundary-from_drop text i inside rest))

    front_length : length front ≡ i
    front_length = ap length front_is ∙ length-take-le i text inside

    whole : text ≡ front ++ (segment ++ left)
    whole = sym (take-append-drop i text) ∙ cc (front_is, behind)

    split : chars text ≡ (chars front ++ chars segment) ++ chars left
    split =
        ap chars whole ∙ chars-append front (segment ++ left) front_utf8 ∙ ap (λ end. chars front ++ end) (chars-append segment left segment_utf8) ∙ sym (append_assoc (chars front) (chars segment) (chars left))

    no_earlier : (other : List ℕ) → LeavesAfterPrefix (chars text) (any_run ∷ chars segment) other → length (encode_utf8_all other) ≤ length left
    no_earlier other leaves =
        let at = stands other leaves in
        let lengths : length at.0 + (length segment + length (encode_utf8_all other)) ≡ i + (length segment + length left) = omega (arith, front_length, ap length at.1, ap length whole, length-append at.0 (segment ++ encode_utf8_all other), length-append segment (encode_utf8_all other), length-append front (segment ++ left), length-append segment left) in
        elim (cases_lt (length at.0) i) [
          | inl before ↦ absurd (finds.0 (length at.0) before (encode_utf8_all other) (front_rest text at.0 (segment ++ encode_utf8_all other) at.1))
          | inr behind ↦ omega (arith, lengths, behind)
        ]

    no_more : (other : List ℕ) → LeavesAfterPrefix (chars text) (any_run ∷ chars segment) other → length other ≤ length (chars left)
    no_more other leaves = elim (cases_lt (length (chars left)) (length other)) [
      | inl less ↦
          let longer = longer_end leaves.0 other (chars front ++ chars segment) (chars left) (sym leaves.1 ∙ split) (le_of_lt less) in
          let bytes : encode_utf8_all other ≡ encode_utf8_all longer.0 ++ left = ap encode_utf8_all longer.1 ∙ encodes-append longer.0 (chars left) ∙ ap (λ end. encode_utf8_all longer.0 ++ end) (encodes-chars left left_utf8) in
          absurd (omega (arith, less, no_earlier other leaves, length-le-encodes longer.0, ap length longer.1, length-append longer.0 (chars left), ap length bytes, length-append (encode_utf8_all longer.0) left))
      | inr most ↦ most
    ]

    pub plain_first : LeavesMost (chars text) (chars segment) (chars left)
    plain_first = record {
      leaves = (chars front ++ chars segment, split, run_takes (chars front) (chars segment) (chars segment) (like_itself (chars segment) lacks));
      most = no_more;
    }
