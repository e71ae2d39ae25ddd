-- How many bytes a source has given that is read whole.
use Rattle.std.proofs.Common.{◌≡◌, ℕ, ◌+◌, ◌<◌, ◌≤◌, List, ◌++◌, Option, Some, None, IfSome, length, length-append, append-nil, refl, sym, ap, subst, ◌∙◌, arith}
use Rattle.std.proofs.lemmas.List.{drop-drop}
use Rattle.std.proofs.Math.Seq.{drop-append_seam}
use Rattle.flow_edges.specs.Flow.{left_after, IsNextOf, IsAtEnd, TakesAtMost}
use Rattle.flow_lines.specs.inner.TakenInput.{before, HasTakenBytes}
use Rattle.flow_lines.specs.inner.Reading.{Fills}
use Rattle.flow_lines.specs.WholeInput.{IsWholeInput, IsTooLong}
use Rattle.flow_lines.specs.declared.whole_input.TheConstants.{MAX_WHOLE_INPUT}
use Rattle.flow_lines.proofs.RawLinesLemmas.{bytes_remaining-filled, bytes_remaining-taken}

left_after-before : (bytes : List ℕ) (left : Option (List ℕ)) → left ≡ left_after (length bytes) (before bytes left)
left_after-before bytes None = refl
left_after-before bytes (Some rest) = ap Some (sym (drop-append_seam bytes rest))

left_after-twice : (n more : ℕ) (left : Option (List ℕ)) → left_after more (left_after n left) ≡ left_after (n + more) left
left_after-twice n more None = refl
left_after-twice n more (Some bytes) = ap Some (drop-drop more n bytes)

pub left_after-none : (left : Option (List ℕ)) → left ≡ left_after 0 left
left_after-none None = refl
left_after-none (Some bytes) = refl

-- these bytes were taken
pub takes-these : (most : ℕ) (bytes : List ℕ) (start left : Option (List ℕ)) → start ≡ before bytes left → length bytes ≤ most → TakesAtMost most start left
takes-these most bytes start left all few = (length bytes, few, left_after-before bytes left ∙ ap (left_after (length bytes)) (sym all))

-- and then some more
pub takes-more : (most more n : ℕ) (start left left_new : Option (List ℕ)) → TakesAtMost most start left → left_new ≡ left_after n left → n ≤ more → TakesAtMost (most + more) start left_new
takes-more most more n start left left_new (first, few, is) rest within =
    (first + n, omega arith, rest ∙ ap (left_after n) is ∙ left_after-twice first n start)

-- ---- an input that is read whole

before-filled : (bytes more : List ℕ) (left after : Option (List ℕ)) → IsNextOf more left → after ≡ left_after (length more) left → before bytes left ≡ before (bytes ++ more) after
before-filled bytes more left after next rest = bytes_remaining-filled bytes more left after next rest ∙ bytes_remaining-taken bytes more after

-- a turn took some bytes more
pub taken-more : (turns count : ℕ) (held bytes read_buffer : List ℕ) (start left left_new : Option (List ℕ)) (faults faults_now faults_new : ℕ)
    → HasTakenBytes turns held start left faults faults_now → bytes ≡ held → Fills count read_buffer left left_new → ¬ (count ≡ 0) → length bytes + count ≤ MAX_WHOLE_INPUT → faults_new ≡ faults_now
    → HasTakenBytes (turns + 1) (bytes ++ read_buffer) start left_new faults faults_new
taken-more turns count held bytes read_buffer start left left_new faults faults_now faults_new taken same fills some fits quiet =
    let size = ap length same in record {
      took = omega (arith, taken.took, size, fills.count_is, length-append bytes read_buffer);
      fits = omega (arith, fills.count_is, length-append bytes read_buffer);
      all = taken.all ∙ ap (λ held. before held left) (sym same) ∙ before-filled bytes read_buffer left left_new fills.given (rw fills.count_is at fills.rest);
      quiet = quiet ∙ taken.quiet;
    }

-- nothing more came
pub is-whole : (turns : ℕ) (held bytes result : List ℕ) (start left left_new : Option (List ℕ)) (faults faults_now : ℕ)
    → HasTakenBytes turns held start left faults faults_now → bytes ≡ held → result ≡ bytes → IsAtEnd left → left_new ≡ left_after 0 left → IsWholeInput result start left_new
is-whole turns held bytes result start left left_new faults faults_now taken same given end rest = record {
  fits = omega (arith, taken.fits, ap length (given ∙ same));
  all = subst (λ start. IfSome start (λ there. there ≡ result)) (sym taken.all) (all left end);
  ended = subst IsAtEnd (sym rest) (ended left end);
}
  where
    all : (left : Option (List ℕ)) → IsAtEnd left → IfSome (before held left) (λ there. there ≡ result)
    all None end = tt
    all (Some bytes) end = ap (λ rest. held ++ rest) end ∙ append-nil held ∙ sym (given ∙ same)

    ended : (left : Option (List ℕ)) → IsAtEnd left → IsAtEnd (left_after 0 left)
    ended None end = tt
    ended (Some bytes) end = end

-- more came than may be
pub is-too-long : (turns count : ℕ) (held bytes read_buffer : List ℕ) (start left left_new : Option (List ℕ)) (faults faults_now : ℕ)
    → HasTakenBytes turns held start left faults faults_now → bytes ≡ held → Fills count read_buffer left left_new → MAX_WHOLE_INPUT < length bytes + count → IsTooLong start
is-too-long turns count held bytes read_buffer start left left_new faults faults_now taken same fills many =
    subst IsTooLong (sym (taken.all ∙ ap (λ held. before held left) (sym same) ∙ before-filled bytes read_buffer left left_new fills.given (rw fills.count_is at fills.rest))) (long left_new)
  where
    long : (left : Option (List ℕ)) → IsTooLong (before (bytes ++ read_buffer) left)
    long None = tt
    long (Some rest) = omega (arith, fills.count_is, many, length-append bytes read_buffer, length-append (bytes ++ read_buffer) rest)

-- the last read began at the end
pub began-at-end : (left began : Option (List ℕ)) → IsAtEnd left → IfSome began (λ bytes. left ≡ Some bytes) → IsAtEnd began
began-at-end left None end told = tt
began-at-end left (Some bytes) end told = subst IsAtEnd told end
