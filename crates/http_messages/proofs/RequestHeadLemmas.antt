-- Where a head stands depends on its own bytes alone, and there is one head at most.
use Rattle.std.proofs.Common.{◌≡◌, ℕ, ◌+◌, ◌<◌, ◌≤◌, Bool, true, false, ◌&&◌, ◌||◌, ◌==◌, List, ◌++◌, length, get_or, refl, sym, ap, ◌∙◌, arith, length-append, if◌then◌else◌}
use Rattle.std.proofs.lemmas.List.{get_or-take}
use Rattle.std.proofs.Math.Seq.{take-append_seam}
use Rattle.http_messages.specs.RequestHeads.{is_last_line_end, after_empty_line, IsHeadAt}

pub same_before : (bytes more : List ℕ) (k : ℕ) → k < length bytes → get_or (bytes ++ more) k 0 ≡ get_or bytes k 0
same_before bytes more k inside =
    sym (get_or-take (length bytes) (bytes ++ more) k 0 inside) ∙ ap (λ (l : List ℕ). get_or l k 0) (take-append_seam bytes more)

-- the lists have the same bytes before `end`
abbrev pub SameBefore : ℕ → List ℕ → List ℕ → Type 0
SameBefore end bytes other = (k : ℕ) → k < end → get_or other k 0 ≡ get_or bytes k 0

pub same_test : (bytes other : List ℕ) (end offset : ℕ) → SameBefore end bytes other → offset + 2 < end → is_last_line_end other offset ≡ is_last_line_end bytes offset
same_test bytes other end offset same inside =
    let a = same offset (omega arith) in
    let b = same (offset + 1) (omega arith) in
    let c = same (offset + 2) (omega arith) in
    rw (a, b, c)

-- of an empty line, the third byte counts only where the second is no LF
keeps : (p q r s : Bool) → p && (q || r) ≡ true → q ≡ true → p && (q || s) ≡ true
keeps true true r s holds second = refl
keeps true false r s holds second = absurd (cc second)
keeps false q r s holds second = absurd (cc holds)

pub after_low : (t : Bool) (n : ℕ) → n + 2 ≤ (if t then n + 2 else n + 3)
after_low true n = omega arith
after_low false n = omega arith

-- the LF after which the head ends, in another list with the same bytes
pub record SameLast (bytes other : List ℕ) (end offset : ℕ) : Type 0 where
  pub empty : is_last_line_end other offset ≡ true
  pub end_is : end ≡ after_empty_line other offset

pub same_last : (bytes other : List ℕ) (end offset : ℕ) → SameBefore end bytes other → end ≡ after_empty_line bytes offset → is_last_line_end bytes offset ≡ true
    → SameLast bytes other end offset
same_last bytes other end offset same ends empty = by_test (get_or bytes (offset + 1) 0 == 10) refl
  where
    low : offset + 2 ≤ end
    low = omega (arith, after_low (get_or bytes (offset + 1) 0 == 10) offset)

    a : get_or other offset 0 ≡ get_or bytes offset 0
    a = same offset (omega (arith, low))

    b : get_or other (offset + 1) 0 ≡ get_or bytes (offset + 1) 0
    b = same (offset + 1) (omega (arith, low))

    end_same : end ≡ after_empty_line other offset
    end_same = rw b ends

    by_test : (t : Bool) → (get_or bytes (offset + 1) 0 == 10) ≡ t → SameLast bytes other end offset
    by_test true second = record {
      empty = rw (a, b) (keeps _ _ _ _ empty second);
      end_is = end_same;
    }
    by_test false second =
        let far : end ≡ offset + 3 = ends ∙ ap (λ (t : Bool). if t then offset + 2 else offset + 3) second in record {
          empty = same_test bytes other end offset same (omega arith) ∙ empty;
          end_is = end_same;
        }

-- a head stands in every list that has its bytes and those before it
pub same_head : (bytes other : List ℕ) (start end : ℕ) → IsHeadAt bytes start end → end ≤ length other → SameBefore end bytes other → IsHeadAt other start end
same_head bytes other start end head inside same =
    let low : head.last + 2 ≤ end = omega (arith, head.end_is, after_low (get_or bytes (head.last + 1) 0 == 10) head.last) in
    let after = head.after in
    let last = same_last bytes other end head.last same head.end_is head.empty in record {
      dropped = λ k lt. rw (same k (omega arith)) (head.dropped k lt);
      begins = rw (same start (omega arith)) head.begins;
      last = head.last;
      after = head.after;
      empty = last.empty;
      first = λ k least lt. same_test bytes other end k same (omega arith) ∙ head.first k least lt;
      end_is = last.end_is;
      within = inside;
    }

pub head_grows : (bytes more : List ℕ) (start end : ℕ) → IsHeadAt bytes start end → IsHeadAt (bytes ++ more) start end
head_grows bytes more start end head =
    let within = head.within in
    same_head bytes (bytes ++ more) start end head (omega (arith, length-append bytes more)) (λ k lt. same_before bytes more k (omega arith))

pub head_shrinks : (bytes more : List ℕ) (start end : ℕ) → IsHeadAt (bytes ++ more) start end → end ≤ length bytes → IsHeadAt bytes start end
head_shrinks bytes more start end head inside =
    same_head (bytes ++ more) bytes start end head inside (λ k lt. sym (same_before bytes more k (omega arith)))

-- two heads of the same bytes
pub record SameHead (start end other_start other_end : ℕ) : Type 0 where
  pub same_start : start ≡ other_start
  pub same_end : end ≡ other_end

pub one_head : (bytes : List ℕ) (s e t f : ℕ) → IsHeadAt bytes s e → IsHeadAt bytes t f → SameHead s e t f
one_head bytes s e t f head other =
    let head_after = head.after in
    let other_after = other.after in
    let not_before : s < t → ⊥ = λ lt. let dropped = other.dropped s lt in let begins = head.begins in cc in
    let not_after : t < s → ⊥ = λ lt. let dropped = head.dropped t lt in let begins = other.begins in cc in
    let same : s ≡ t = omega arith in
    let not_sooner : head.last < other.last → ⊥ = λ lt. let first = other.first head.last (omega arith) lt in let empty = head.empty in cc in
    let not_later : other.last < head.last → ⊥ = λ lt. let first = head.first other.last (omega arith) lt in let empty = other.empty in cc in
    let last : head.last ≡ other.last = omega arith in
    record { same_start = same; same_end = head.end_is ∙ ap (after_empty_line bytes) last ∙ sym other.end_is }
