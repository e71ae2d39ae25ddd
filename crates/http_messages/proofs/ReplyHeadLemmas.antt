-- Where a head ends, in bytes that grow.
use Rattle.std.proofs.Common.{◌≡◌, ◌⊎◌, inl, inr, ℕ, suc, ◌+◌, ◌<◌, ◌≤◌, Bool, true, false, ◌&&◌, ◌||◌, ◌==◌, if◌then◌else◌, List, [], ◌∷◌, ◌++◌, length, get_or, take, drop, refl, sym, ap, subst, ◌∙◌, arith, length-append, length-drop, drop-cons}
use Rattle.std.proofs.lemmas.Bool.{cases_lt}
use Rattle.std.proofs.lemmas.Bool.Decides.{Decides-eqb}
use Rattle.std.proofs.lemmas.List.{append-nil, append_assoc, take-append-le, take-append-drop, drop-append-le, drop_all}
use Rattle.std.proofs.Math.Seq.{take-append_seam, drop-append_seam}
use Rattle.http_messages.specs.RequestHeads.{is_last_line_end, after_empty_line, HasNoEnd, IsFirstEnd}
use Rattle.http_messages.proofs.RequestHeadLemmas.{after_low, same_before, SameLast, same_last, same_test}
use Rattle.http_messages.proofs.SearchLemmas.{end_inside}
use Rattle.http_messages.specs.ReplyHeads.{IsHead, HoldNoHead}

-- ---- lists

-- of two beginnings of one list the longer one goes on from the shorter one
pub record Overlap {A : Type 0} (a b c d : List A) : Type 0 where
  pub middle : List A
  pub longer : c ≡ a ++ middle
  pub rest : b ≡ middle ++ d

pub overlap : {A : Type 0} (a b c d : List A) → a ++ b ≡ c ++ d → length a ≤ length c → Overlap a b c d
overlap {A} a b c d same few = record {
  middle = drop (length a) c;
  longer = sym (take-append-drop (length a) c)
      ∙ ap (λ (front : List A). front ++ drop (length a) c) (sym (take-append-le (length a) c d few) ∙ ap (take (length a)) (sym same) ∙ take-append_seam a b);
  rest = sym (drop-append_seam a b) ∙ ap (drop (length a)) same ∙ drop-append-le (length a) c d few;
}

-- ---- line ends

after_high : (t : Bool) (n : ℕ) → (if t then n + 2 else n + 3) ≤ n + 3
after_high true n = omega arith
after_high false n = omega arith

-- an LF with an empty line after it has that whatever follows
pub end_grows : (front back : List ℕ) (k : ℕ) → is_last_line_end front k ≡ true → SameLast front (front ++ back) (after_empty_line front k) k
end_grows front back k is =
    same_last front (front ++ back) (after_empty_line front k) k (λ j lt. same_before front back j (omega (arith, lt, end_inside front k is))) refl is

-- and it had that before, where its empty line stood there
pub end_shrinks : (front back : List ℕ) (k : ℕ) → is_last_line_end (front ++ back) k ≡ true → after_empty_line (front ++ back) k ≤ length front → is_last_line_end front k ≡ true
end_shrinks front back k is inside =
    (same_last (front ++ back) front (after_empty_line (front ++ back) k) k (λ j lt. sym (same_before front back j (omega (arith, lt, inside)))) refl is).empty

pub no_head_front : (front back : List ℕ) → HoldNoHead (front ++ back) → HoldNoHead front
no_head_front front back none k low lt = by_test (is_last_line_end front k) refl
  where
    by_test : (t : Bool) → is_last_line_end front k ≡ t → is_last_line_end front k ≡ false
    by_test false is = is
    by_test true is =
        let whole = none k low (omega (arith, lt, length-append front back)) in
        let grown = (end_grows front back k is).empty in
        cc

-- a shorter beginning of a head holds none
pub head_front : (head front back : List ℕ) → IsHead head → head ≡ front ++ back → 0 < length back → HoldNoHead front
head_front head front back is_head parts some k low lt = by_test (is_last_line_end front k) refl
  where
    none_here : is_last_line_end head k ≡ true → after_empty_line head k ≤ length front → ⊥
    none_here empty inside = by_offset (cases_lt k is_head.last)
      where
        shorter : after_empty_line head k < after_empty_line head is_head.last
        shorter = omega (arith, inside, some, is_head.whole, ap length parts, length-append front back)

        by_offset : (k < is_head.last) ⊎ (is_head.last ≤ k) → ⊥
        by_offset (inl before) = let other = is_head.first.first k (omega arith) before in cc
        by_offset (inr behind) = by_more (cases_lt is_head.last k)
          where
            by_more : (is_head.last < k) ⊎ (k ≤ is_head.last) → ⊥
            by_more (inl later) = omega (arith, later, shorter, after_low (get_or head (k + 1) 0 == 10) k, after_high (get_or head (is_head.last + 1) 0 == 10) is_head.last)
            by_more (inr not_later) =
                let same : k ≡ is_head.last = omega arith in
                let e = ap (after_empty_line head) same in
                omega (arith, e, shorter)

    by_test : (t : Bool) → is_last_line_end front k ≡ t → is_last_line_end front k ≡ false
    by_test false is = is
    by_test true is =
        let grown = end_grows front back k is in
        let there : is_last_line_end head k ≡ true = rw parts grown.empty in
        let inside : after_empty_line head k ≤ length front = rw parts (subst (λ (n : ℕ). n ≤ length front) grown.end_is (end_inside front k is)) in
        absurd (none_here there inside)

-- a head is no bytes without one
pub head_there : (head : List ℕ) → IsHead head → HoldNoHead head → ⊥
head_there head is_head none =
    let here = is_head.first.here in
    let inside = end_inside head is_head.last here in
    let other = none is_head.last (omega arith) (omega (arith, inside, after_low (get_or head (is_head.last + 1) 0 == 10) is_head.last)) in
    cc

-- of two heads that the same bytes begin with, neither is longer
pub one_head : (a b r s : List ℕ) → IsHead a → IsHead b → a ++ r ≡ b ++ s → (a ≡ b) × (r ≡ s)
one_head a b r s first second same = by_length (cases_lt (length a) (length b))
  where
    longer : (a b r s : List ℕ) → IsHead a → IsHead b → a ++ r ≡ b ++ s → length a < length b → ⊥
    longer a b r s first second same lt =
        let over = overlap a r b s same (omega (arith, lt)) in
        head_there a first (head_front b a over.middle second over.longer (omega (arith, lt, ap length over.longer, length-append a over.middle)))

    by_length : (length a < length b) ⊎ (length b ≤ length a) → (a ≡ b) × (r ≡ s)
    by_length (inl lt) = absurd (longer a b r s first second same lt)
    by_length (inr le) = by_more (cases_lt (length b) (length a))
      where
        by_more : (length b < length a) ⊎ (length a ≤ length b) → (a ≡ b) × (r ≡ s)
        by_more (inl lt) = absurd (longer b a s r second first (sym same) lt)
        by_more (inr not_longer) =
            let over = overlap a r b s same not_longer in
            let none : over.middle ≡ [] = nothing over.middle (omega (arith, le, ap length over.longer, length-append a over.middle)) in (
              sym (over.longer ∙ ap (λ (m : List ℕ). a ++ m) none ∙ append-nil a),
              over.rest ∙ ap (λ (m : List ℕ). m ++ s) none,
            )
          where
            nothing : (m : List ℕ) → length m ≤ 0 → m ≡ []
            nothing [] few = refl
            nothing (x ∷ m) few = absurd (omega (arith, few))

-- ---- one read more

-- the first line end of a head: none before it, as there was none in the bytes before that could be looked past
pub first_of_all : (old more : List ℕ) (from offset : ℕ) → HoldNoHead old → from + 2 ≤ length old ⊎ from ≡ 0 → IsFirstEnd (old ++ more) from offset → IsFirstEnd (old ++ more) 0 offset
first_of_all old more from offset none start first = record {
  order = omega arith;
  here = first.here;
  first = λ k low lt. by_offset k lt (cases_lt k from);
}
  where
    passed : (k : ℕ) → k < from → from + 2 ≤ length old ⊎ from ≡ 0 → is_last_line_end (old ++ more) k ≡ false
    passed k lt (inr zero) = absurd (omega (arith, lt, zero))
    passed k lt (inl far) =
        same_test old (old ++ more) (length old) k (λ j below. same_before old more j below) (omega (arith, lt, far))
        ∙ none k (omega arith) (omega (arith, lt, far))

    by_offset : (k : ℕ) → k < offset → (k < from) ⊎ (from ≤ k) → is_last_line_end (old ++ more) k ≡ false
    by_offset k lt (inl before) = passed k before start
    by_offset k lt (inr behind) = first.first k behind lt

pub none_of_all : (old more : List ℕ) (from : ℕ) → HoldNoHead old → from + 2 ≤ length old ⊎ from ≡ 0 → HasNoEnd (old ++ more) from (length (old ++ more)) → HoldNoHead (old ++ more)
none_of_all old more from none start others k low lt = by_offset start (cases_lt k from)
  where
    by_offset : from + 2 ≤ length old ⊎ from ≡ 0 → (k < from) ⊎ (from ≤ k) → is_last_line_end (old ++ more) k ≡ false
    by_offset (inr zero) (inl before) = absurd (omega (arith, before, zero))
    by_offset (inl far) (inl before) =
        same_test old (old ++ more) (length old) k (λ j below. same_before old more j below) (omega (arith, before, far))
        ∙ none k (omega arith) (omega (arith, before, far))
    by_offset start (inr behind) = others k behind lt

-- a head that ends in the last bytes that were needed for one ends with them
pub whole_head : (old more : List ℕ) (least offset : ℕ) → HoldNoHead old → length more ≤ least
    → ((some : List ℕ) → length some < least → HoldNoHead old → HoldNoHead (old ++ some))
    → IsFirstEnd (old ++ more) 0 offset → IsHead (old ++ more)
whole_head old more least offset none few lacks first = record {
  last = offset;
  first = first;
  whole = by_end (cases_lt (after_empty_line (old ++ more) offset) (length (old ++ more)));
}
  where
    inside : after_empty_line (old ++ more) offset ≤ length (old ++ more)
    inside = end_inside (old ++ more) offset first.here

    -- the bytes without the last one
    sooner : (cut last : List ℕ) → more ≡ cut ++ last → 0 < length last → after_empty_line (old ++ more) offset ≤ length (old ++ cut) → ⊥
    sooner cut last is some early =
        let parts : old ++ more ≡ (old ++ cut) ++ last = ap (λ (m : List ℕ). old ++ m) is ∙ sym (append_assoc old cut last) in
        let there : is_last_line_end ((old ++ cut) ++ last) offset ≡ true = subst (λ (bytes : List ℕ). is_last_line_end bytes offset ≡ true) parts first.here in
        let low : after_empty_line ((old ++ cut) ++ last) offset ≤ length (old ++ cut) = subst (λ (bytes : List ℕ). after_empty_line bytes offset ≤ length (old ++ cut)) parts early in
        let here = end_shrinks (old ++ cut) last offset there low in
        let within = end_inside (old ++ cut) offset here in
        let short : length cut < least = omega (arith, few, ap length is, length-append cut last, some) in
        let other = lacks cut short none offset (omega arith) (omega (arith, within, after_low (get_or (old ++ cut) (offset + 1) 0 == 10) offset)) in
        cc

    by_more : (m : List ℕ) → more ≡ m → after_empty_line (old ++ more) offset < length (old ++ more) → ⊥
    by_more [] is lt =
        let early : after_empty_line (old ++ more) offset ≤ length old = omega (arith, lt, length-append old more, ap length is) in
        let there = end_shrinks old more offset first.here early in
        let other = none offset (omega arith) (omega (arith, end_inside old offset there, after_low (get_or old (offset + 1) 0 == 10) offset)) in
        cc
    by_more (x ∷ m) is lt =
        let size = length more in
        sooner (take (length m) more) (drop (length m) more) (sym (take-append-drop (length m) more))
        (omega (arith, length-drop (length m) more, ap length is))
        (omega (
          arith,
          lt,
          length-append old more,
          length-append old (take (length m) more),
          length-append (take (length m) more) (drop (length m) more),
          ap length (take-append-drop (length m) more),
          length-drop (length m) more,
          ap length is,
        ))

    by_end : (after_empty_line (old ++ more) offset < length (old ++ more)) ⊎ (length (old ++ more) ≤ after_empty_line (old ++ more) offset) → length (old ++ more) ≡ after_empty_line (old ++ more) offset
    by_end (inl lt) = absurd (by_more more refl lt)
    by_end (inr le) = omega (arith, le, inside)

-- ---- how many bytes a head must still have

first_true : (a b : Bool) → a && b ≡ true → a ≡ true
first_true true b is = refl
first_true false b is = absurd (cc is)

third_true : (a q r s : Bool) → a && (q || (r && s)) ≡ true → q ≡ false → r ≡ true
third_true true true r s is other = absurd (cc other)
third_true true false true s is other = refl
third_true true false false s is other = absurd (cc is)
third_true false q r s is other = absurd (cc is)

-- the bytes end with the one at the last offset
last_byte : (bytes : List ℕ) (k byte : ℕ) → k + 1 ≡ length bytes → get_or bytes k 0 ≡ byte → bytes ≡ take k bytes ++ (byte ∷ [])
last_byte bytes k byte last is =
    sym (take-append-drop k bytes)
    ∙ ap (λ (tail : List ℕ). take k bytes ++ tail) (drop-cons bytes k 0 (omega (arith, last)) ∙ ap (λ (tail : List ℕ). get_or bytes k 0 ∷ tail) (drop_all (suc k) bytes (omega (arith, last))) ∙ ap (λ (b : ℕ). b ∷ []) is)

-- the bytes end with the two at the last places
last_bytes : (bytes : List ℕ) (k byte other : ℕ) → k + 2 ≡ length bytes → get_or bytes k 0 ≡ byte → get_or bytes (k + 1) 0 ≡ other → bytes ≡ take k bytes ++ (byte ∷ other ∷ [])
last_bytes bytes k byte other last is again =
    let second : drop (suc k) bytes ≡ other ∷ [] =
    drop-cons bytes (suc k) 0 (omega (arith, last)) ∙ ap (λ (tail : List ℕ). get_or bytes (suc k) 0 ∷ tail) (drop_all (suc (suc k)) bytes (omega (arith, last)))
    ∙ ap (λ (b : ℕ). b ∷ []) (ap (λ (n : ℕ). get_or bytes n 0) (omega arith) ∙ again) in
    sym (take-append-drop k bytes)
    ∙ ap (λ (tail : List ℕ). take k bytes ++ tail) (drop-cons bytes k 0 (omega (arith, last)) ∙ ap (λ (b : ℕ). b ∷ drop (suc k) bytes) is ∙ ap (λ (tail : List ℕ). byte ∷ tail) second)

-- with one byte more no head has ended where no LF stood at the end, alone or before a CR
pub lacks_more : (bytes more : List ℕ) → length more < 2 → ((front : List ℕ) → bytes ≡ front ++ (10 ∷ []) → ⊥) → ((front : List ℕ) → bytes ≡ front ++ (10 ∷ 13 ∷ []) → ⊥)
    → HoldNoHead bytes → HoldNoHead (bytes ++ more)
lacks_more bytes more few no_lf no_cr none k low lt = by_test (is_last_line_end (bytes ++ more) k) refl
  where
    same : (j : ℕ) → j < length bytes → get_or (bytes ++ more) j 0 ≡ get_or bytes j 0
    same j below = same_before bytes more j below

    at_end : is_last_line_end (bytes ++ more) k ≡ true → after_empty_line (bytes ++ more) k ≡ length bytes + 1 → ⊥
    at_end is ends = by_second (get_or (bytes ++ more) (k + 1) 0 == 10) refl
      where
        lf : get_or (bytes ++ more) k 0 ≡ 10
        lf = (Decides-eqb (get_or (bytes ++ more) k 0) 10).0 (first_true _ _ is)

        by_second : (t : Bool) → (get_or (bytes ++ more) (k + 1) 0 == 10) ≡ t → ⊥
        by_second true second =
            let near : length bytes + 1 ≡ k + 2 = sym ends ∙ ap (λ (t : Bool). if t then k + 2 else k + 3) second in
            no_lf (take k bytes) (last_byte bytes k 10 (omega (arith, near)) (sym (same k (omega (arith, near))) ∙ lf))
        by_second false second =
            let near : length bytes + 1 ≡ k + 3 = sym ends ∙ ap (λ (t : Bool). if t then k + 2 else k + 3) second in
            let cr : get_or (bytes ++ more) (k + 1) 0 ≡ 13 = (Decides-eqb (get_or (bytes ++ more) (k + 1) 0) 13).0 (third_true _ _ _ _ is second) in
            no_cr (take k bytes) (last_bytes bytes k 10 13 (omega (arith, near)) (sym (same k (omega (arith, near))) ∙ lf) (sym (same (k + 1) (omega (arith, near))) ∙ cr))

    inside : is_last_line_end (bytes ++ more) k ≡ true → after_empty_line (bytes ++ more) k ≤ length bytes → ⊥
    inside is early =
        let here = end_shrinks bytes more k is early in
        let other = none k (omega arith) (omega (arith, end_inside bytes k here, after_low (get_or bytes (k + 1) 0 == 10) k)) in
        cc

    by_test : (t : Bool) → is_last_line_end (bytes ++ more) k ≡ t → is_last_line_end (bytes ++ more) k ≡ false
    by_test false is = is
    by_test true is = absurd (by_offset (cases_lt (length bytes) (after_empty_line (bytes ++ more) k)))
      where
        by_offset : (length bytes < after_empty_line (bytes ++ more) k) ⊎ (after_empty_line (bytes ++ more) k ≤ length bytes) → ⊥
        by_offset (inl late) = at_end is (omega (arith, late, few, end_inside (bytes ++ more) k is, length-append bytes more))
        by_offset (inr early) = inside is early
