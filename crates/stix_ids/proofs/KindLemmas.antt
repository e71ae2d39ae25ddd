-- The prefixes that begin a kind are those whose bytes all fit their places: any such prefix extends to
-- a kind. So where the bytes stop fitting is where a refusal points.
use Rattle.std.proofs.Common.{◌≡◌, ◌≢◌, ℕ, zero, suc, ◌+◌, ◌-◌, ◌<◌, ◌≤◌, ⊎_elim, inl, List, [], ◌∷◌, ◌++◌, length, take, get_or, slice_index, All, refl, sym, ap, ◌∙◌, subst, arith, length-append}
use Rattle.std.proofs.lemmas.Bool.{cases_lt}
use Rattle.std.proofs.lemmas.List.{append-nil, take_all, get_or_append_left, get_or-append_right, get_or-take, get_or_default, length-take-le}
use Rattle.std.proofs.lemmas.List.Elements.{All-append}
use Rattle.stix_ids.specs.Kind.{IsKindByte, HasSingleHyphens, IsKind, BeginsKind, IsLongestKindPrefix}
use Rattle.stix_ids.specs.KindBytes.{FitsAt}

-- what is asked of a kind, but for its least length
record IsFront (p : List ℕ) : Type 0 where
  short : length p ≤ 250
  bytes : All IsKindByte p
  hyphens : HasSingleHyphens p

front_from_kind : (p rest : List ℕ) → IsKind (p ++ rest) → IsFront p
front_from_kind p rest k =
    let long = length-append p rest in
    let short = k.long in
    record {
      short = omega arith;
      bytes = λ at d l. subst IsKindByte (get_or_append_left p rest d at l) (k.bytes at d (omega arith));
      hyphens = λ at l e f. k.hyphens at (omega arith) (get_or_append_left p rest 0 at (omega arith) ∙ e) (get_or_append_left p rest 0 (at + 1) l ∙ f);
    }

kind_from_front : (p : List ℕ) → IsFront p → 3 ≤ length p → IsKind p
kind_from_front p f l = record { long = (l, f.short); bytes = f.bytes; hyphens = f.hyphens }

-- three letters
abbrev letters : List ℕ
letters = 97 ∷ 97 ∷ 97 ∷ []

letter_at : (k : ℕ) → k < 3 → get_or letters k 0 ≡ 97
letter_at k l = ⊎_elim
    (λ a. let e : k ≡ 0 = omega arith in rw e refl)
    (λ a. ⊎_elim
    (λ b. let e : k ≡ 1 = omega arith in rw e refl)
    (λ b. let e : k ≡ 2 = omega arith in rw e refl)
    (cases_lt k 2))
    (cases_lt k 1)

letter_is : (b : ℕ) → b ≡ 97 → IsKindByte b
letter_is b e = inl (omega arith, omega arith)

letters_all : All IsKindByte letters
letters_all k d l = letter_is (get_or letters k d) (get_or_default letters k d 0 l ∙ letter_at k l)

-- a front continues with three letters
with_letters : (p : List ℕ) → IsFront p → length p < 3 → IsKind (p ++ letters)
with_letters p f l =
    let long = length-append p letters in
    record {
      long = (omega arith, omega arith);
      bytes = All-append IsKindByte p letters f.bytes letters_all;
      hyphens = λ at h e g. ⊎_elim
          (λ inside. f.hyphens at inside (sym (get_or_append_left p letters 0 at (omega arith)) ∙ e) (sym (get_or_append_left p letters 0 (at + 1) inside) ∙ g))
          (λ behind.
          let is = letter_at (at + 1 - length p) (omega arith) in
          let at_letter = get_or-append_right p letters (length p) (at + 1) 0 refl behind in
          omega (arith, at_letter, is, g))
          (cases_lt (at + 1) (length p));
    }

begins_from_front : (p : List ℕ) → IsFront p → BeginsKind p
begins_from_front p f = ⊎_elim
    (λ l. (letters, with_letters p f l))
    (λ l. ([], subst IsKind (sym (append-nil p)) (kind_from_front p f l)))
    (cases_lt (length p) 3)

front_from_begins : (p : List ℕ) → BeginsKind p → IsFront p
front_from_begins p b = front_from_kind p b.0 b.1

-- the bytes of a front fit their places
fits_from_front : (s : List ℕ) (n : ℕ) → n ≤ length s → IsFront (take n s) → (k : ℕ) → k < n → FitsAt s k
fits_from_front s n l f k h =
    let long = length-take-le n s l in
    let short = f.short in
    record {
      place = omega arith;
      byte = subst IsKindByte (get_or-take n s k 0 h) (f.bytes k 0 (omega arith));
      hyphen = λ late e g.
          let back : k - 1 + 1 ≡ k = omega arith in
          f.hyphens (k - 1) (omega arith) (get_or-take n s (k - 1) 0 (omega arith) ∙ e) (ap (λ i. get_or (take n s) i 0) back ∙ get_or-take n s k 0 h ∙ g);
    }

-- and bytes that fit their places are a front
front_from_fits : (s : List ℕ) (n : ℕ) → n ≤ length s → ((k : ℕ) → k < n → FitsAt s k) → IsFront (take n s)
front_from_fits s n l fits =
    let long = length-take-le n s l in
    record {
      short = ⊎_elim (λ more. let bound = (fits 250 more).place in absurd (omega arith)) (λ less. omega arith) (cases_lt 250 n);
      bytes = λ k d h. subst IsKindByte (sym (get_or_default (take n s) k d 0 h ∙ get_or-take n s k 0 (omega arith))) (fits k (omega arith)).byte;
      hyphens = λ k h e g.
          let back : k + 1 - 1 ≡ k = omega arith in
          (fits (k + 1) (omega arith)).hyphen (omega arith) (ap (λ i. get_or s i 0) back ∙ sym (get_or-take n s k 0 (omega arith)) ∙ e) (sym (get_or-take n s (k + 1) 0 (omega arith)) ∙ g);
    }

-- where the bytes stop fitting is the longest prefix that begins a kind
pub longest_prefix : (s : List ℕ) (n : ℕ) → n ≤ length s → ((k : ℕ) → k < n → FitsAt s k) → (n < length s → ¬ FitsAt s n) → IsLongestKindPrefix s n
longest_prefix s n l fits stops = record {
  within = l;
  begins = begins_from_front (take n s) (front_from_fits s n l fits);
  longest = λ m h b. ⊎_elim
      (λ more. absurd (stops (omega arith) (fits_from_front s m h (front_from_begins (take m s) b) n more)))
      (λ less. less)
      (cases_lt n m);
}

-- a byte fits its place where it is short of the bound and may follow the byte before it
pub fits_from_follows : (s : List ℕ) (at before : ℕ) → at < 250 → before ≡ slice_index (0 ∷ s) at → IsKindByte (slice_index s at) × (before ≡ 45 → slice_index s at ≢ 45) → FitsAt s at
fits_from_follows s zero before place is follows = record { place = place; byte = follows.0; hyphen = λ late. absurd (omega arith) }
fits_from_follows s (suc at) before place is follows =
    let back : suc at - 1 ≡ at = omega arith in
    record { place = place; byte = follows.0; hyphen = λ late e. follows.1 (is ∙ ap (slice_index s) (sym back) ∙ e) }

-- and only there
pub follows_from_fits : (s : List ℕ) (at before : ℕ) → before ≡ slice_index (0 ∷ s) at → FitsAt s at → IsKindByte (slice_index s at) × (before ≡ 45 → slice_index s at ≢ 45)
follows_from_fits s zero before is fits = (fits.byte, λ e. absurd (omega (arith, is, e)))
follows_from_fits s (suc at) before is fits =
    let back : suc at - 1 ≡ at = omega arith in
    (fits.byte, λ e. fits.hyphen (omega arith) (ap (slice_index s) back ∙ sym is ∙ e))

-- the byte before the next place
pub next_last : (s : List ℕ) (at : ℕ) → slice_index s at ≡ slice_index (0 ∷ s) (at + 1)
next_last s at = let e : at + 1 ≡ suc at = omega arith in rw e refl

-- a text that begins a kind as a whole is a kind where it is long enough
pub kind_from_longest : (s : List ℕ) (n : ℕ) → IsLongestKindPrefix s n → length s ≤ n → 3 ≤ n → IsKind s
kind_from_longest s n p l h =
    let within = p.within in
    kind_from_front s (front_from_begins s (subst BeginsKind (take_all n s l) p.begins)) (omega arith)

-- and only there
pub longest_from_kind : (s : List ℕ) (n : ℕ) → IsLongestKindPrefix s n → IsKind s → (length s ≤ n) × (3 ≤ n)
longest_from_kind s n p k =
    let begins : BeginsKind s = ([], subst IsKind (sym (append-nil s)) k) in
    let whole = p.longest (length s) (omega arith) (subst BeginsKind (sym (take_all (length s) s (omega arith))) begins) in
    let long = k.long in
    (whole, omega arith)

pub one_place : (s : List ℕ) (n m : ℕ) → IsLongestKindPrefix s n → IsLongestKindPrefix s m → n ≡ m
one_place s n m p q = omega (arith, p.longest m q.within q.begins, q.longest n p.within p.begins)
