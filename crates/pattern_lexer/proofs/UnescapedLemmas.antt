-- What `unescaped` reads, piece by piece, represents the words so far.
use Rattle.std.proofs.Common.{◌≡◌, ◌≢◌, ℕ, Bool, true, false, List, [], ◌∷◌, ◌++◌, inl, inr, flat_map, if◌then◌else◌, refl, sym, ap, ◌∙◌, append_assoc, Contains, All, arith, Bor, Some, None, lit<}
use Rattle.std.proofs.lemmas.List.Elements.{All-head, All-tail, All-cons, All-contains, All-from_get_or}
use Rattle.std.proofs.lemmas.Str.Pattern.{IsSplitOnceResult, split_parts}
use Rattle.std.proofs.lemmas.List.{get_or_default}
use Rattle.std.proofs.lemmas.List.Concat.{flat_map-append}
use Rattle.std.proofs.lemmas.Bool.Decides.{nat_tests}
use Rattle.pattern_lexer.specs.Values.{escaped}
use Rattle.pattern_lexer.specs.Values.{IsSpecial}
use Rattle.pattern_lexer.specs.inner.Escapes.{IsEscapedText, BeginsEscaped, BeginsNone}
use Rattle.pattern_lexer.proofs.EscapesLemmas.{special, same_first, nothing_first}

special_is : (c : ℕ) → IsSpecial c → special c ≡ true
special_is c (inl e) = ap special e
special_is c (inr e) = ap special e

is_special : (c : ℕ) → special c ≡ true → IsSpecial c
is_special c e = grind (arith, nat_tests)

ordinary : (c : ℕ) → c ≢ 39 → c ≢ 92 → special c ≡ false
ordinary c p q = grind (arith, nat_tests)

one_ordinary : (b : Bool) (x : ℕ) (xs : List ℕ) → b ≡ false → (if b then 92 ∷ x ∷ [] else x ∷ []) ++ xs ≡ x ∷ xs
one_ordinary true x xs e = absurd (cc)
one_ordinary false x xs e = refl

one_special : (b : Bool) (x : ℕ) (xs : List ℕ) → b ≡ true → (if b then 92 ∷ x ∷ [] else x ∷ []) ++ xs ≡ 92 ∷ x ∷ xs
one_special true x xs e = refl
one_special false x xs e = absurd (cc)

-- what has neither `'` nor `\` is its own value
pub plain_same : (plain : List ℕ) → All (λ c. c ≢ 39) plain → All (λ c. c ≢ 92) plain → flat_map escaped plain ≡ plain
plain_same [] q b = refl
plain_same (x ∷ xs) q b =
    one_ordinary (special x) x (flat_map escaped xs) (ordinary x (All-head (λ c. c ≢ 39) x xs q) (All-head (λ c. c ≢ 92) x xs b))
    ∙ ap (λ (l : List ℕ). x ∷ l) (plain_same xs (All-tail (λ c. c ≢ 39) x xs q) (All-tail (λ c. c ≢ 92) x xs b))

-- one step: some plain characters, and one with a backslash
pub one_more : (text words plain after first more : List ℕ) → text ≡ flat_map escaped words ++ (plain ++ 92 ∷ after) → All (λ c. c ≢ 39) plain → All (λ c. c ≢ 92) plain → BeginsEscaped after first more → text ≡ flat_map escaped ((words ++ plain) ++ first) ++ more
one_more text words plain after first more e q b begins =
    let c = begins.special in
    let F : List ℕ → List ℕ = flat_map escaped in
    let one : F first ++ more ≡ 92 ∷ after =
    ap (λ (l : List ℕ). F l ++ more) begins.alone
    ∙ append_assoc (escaped c) [] more
    ∙ one_special (special c) c more (special_is c begins.is)
    ∙ ap (λ (l : List ℕ). 92 ∷ l) (sym begins.spelled) in
    let parts : F ((words ++ plain) ++ first) ≡ (F words ++ plain) ++ F first =
    flat_map-append escaped (words ++ plain) first
    ∙ ap (λ (l : List ℕ). l ++ F first) (flat_map-append escaped words plain ∙ ap (λ (l : List ℕ). F words ++ l) (plain_same plain q b)) in
    e ∙ ap (λ (l : List ℕ). F words ++ (plain ++ l)) (sym one)
    ∙ sym (append_assoc (F words) plain (F first ++ more))
    ∙ sym (append_assoc (F words ++ plain) (F first) more)
    ∙ ap (λ (l : List ℕ). l ++ more) (sym parts)

-- the last step
pub all_read : (text words rest : List ℕ) → text ≡ flat_map escaped words ++ rest → All (λ c. c ≢ 39) rest → All (λ c. c ≢ 92) rest → text ≡ flat_map escaped (words ++ rest)
all_read text words rest e q b =
    e ∙ ap (λ (l : List ℕ). flat_map escaped words ++ l) (sym (plain_same rest q b)) ∙ sym (flat_map-append escaped words rest)

-- what follows the text of some words is the text of the words that follow
ahead : (words other rest : List ℕ) → flat_map escaped words ++ rest ≡ flat_map escaped other → (left : List ℕ) × (rest ≡ flat_map escaped left)
ahead [] other rest e = (other, e)
ahead (x ∷ xs) [] rest e =
    absurd (nothing_first (special x) x (flat_map escaped xs ++ rest) (sym e ∙ append_assoc (escaped x) (flat_map escaped xs) rest))
ahead (x ∷ xs) (y ∷ ys) rest e =
    let h = same_first (special x) (special y) x y (flat_map escaped xs ++ rest) (flat_map escaped ys) refl refl (sym (append_assoc (escaped x) (flat_map escaped xs) rest) ∙ e) in
    ahead xs ys rest h.1

-- what a text without a backslash at its front represents begins with the same character, no `'`
same_plain : (b : Bool) (x y : ℕ) (xs ys : List ℕ) → special y ≡ b → x ≢ 92 → x ∷ xs ≡ (if b then 92 ∷ y ∷ [] else y ∷ []) ++ ys → (x ≢ 39) × (xs ≡ ys)
same_plain true x y xs ys p n e = let h : x ≡ 92 = cc in absurd (n h)
same_plain false x y xs ys p n e =
    let h : x ≡ y = cc in
    let k : xs ≡ ys = cc in
    (λ quote. let t : special y ≡ true = special_is y (inl (sym h ∙ quote)) in absurd (cc), k)

first_plain : (x y : ℕ) (xs ys : List ℕ) → x ≢ 92 → x ∷ xs ≡ flat_map escaped (y ∷ ys) → (x ≢ 39) × (xs ≡ flat_map escaped ys)
first_plain x y xs ys n e = same_plain (special y) x y xs (flat_map escaped ys) refl n e

same_backslash : (b : Bool) (y : ℕ) (after ys : List ℕ) → special y ≡ b → 92 ∷ after ≡ (if b then 92 ∷ y ∷ [] else y ∷ []) ++ ys → IsSpecial y × (after ≡ y ∷ ys)
same_backslash true y after ys p e = (is_special y p, cc)
same_backslash false y after ys p e =
    let h : y ≡ 92 = cc in
    let t : special y ≡ true = special_is y (inr h) in absurd (cc)

no_quote_before : (plain after words : List ℕ) → All (λ c. c ≢ 92) plain → plain ++ 92 ∷ after ≡ flat_map escaped words → All (λ c. c ≢ 39) plain × (BeginsNone after → ⊥)
no_quote_before [] after [] b e = absurd (cc)
no_quote_before [] after (y ∷ ys) b e =
    let h = same_backslash (special y) y after (flat_map escaped ys) refl e in
    (λ k d l. absurd (omega arith), λ none. none y (flat_map escaped ys) h.0 h.1)
no_quote_before (x ∷ xs) after [] b e = absurd (cc)
no_quote_before (x ∷ xs) after (y ∷ ys) b e =
    let h = first_plain x y (xs ++ 92 ∷ after) ys (All-head (λ c. c ≢ 92) x xs b) e in
    let g = no_quote_before xs after ys (All-tail (λ c. c ≢ 92) x xs b) h.1 in
    (All-cons (λ c. c ≢ 39) x xs h.0 g.0, g.1)

no_quote_after : (rest words : List ℕ) → All (λ c. c ≢ 92) rest → rest ≡ flat_map escaped words → All (λ c. c ≢ 39) rest
no_quote_after [] words b e = λ k d l. absurd (omega arith)
no_quote_after (x ∷ xs) [] b e = absurd (cc)
no_quote_after (x ∷ xs) (y ∷ ys) b e =
    let h = first_plain x y xs ys (All-head (λ c. c ≢ 92) x xs b) e in
    All-cons (λ c. c ≢ 39) x xs h.0 (no_quote_after xs ys (All-tail (λ c. c ≢ 92) x xs b) h.1)

-- a backslash before another character
pub none_escaped : (text words plain after : List ℕ) → text ≡ flat_map escaped words ++ (plain ++ 92 ∷ after) → All (λ c. c ≢ 92) plain → BeginsNone after → (other : List ℕ) → ¬ IsEscapedText text other
none_escaped text words plain after e b none other is =
    let left = ahead words other (plain ++ 92 ∷ after) (sym e ∙ is) in
    (no_quote_before plain after left.0 b left.1).1 none

-- a `'` before it
pub quote_before : (text words plain after : List ℕ) → text ≡ flat_map escaped words ++ (plain ++ 92 ∷ after) → All (λ c. c ≢ 92) plain → Contains plain 39 → (other : List ℕ) → ¬ IsEscapedText text other
quote_before text words plain after e b has other is =
    let left = ahead words other (plain ++ 92 ∷ after) (sym e ∙ is) in
    All-contains (λ c. c ≢ 39) plain 39 (no_quote_before plain after left.0 b left.1).0 has refl

-- a `'` with no backslash before it in the end
pub quote_after : (text words rest : List ℕ) → text ≡ flat_map escaped words ++ rest → All (λ c. c ≢ 92) rest → Contains rest 39 → (other : List ℕ) → ¬ IsEscapedText text other
quote_after text words rest e b has other is =
    let left = ahead words other rest (sym e ∙ is) in
    All-contains (λ c. c ≢ 39) rest 39 (no_quote_after rest left.0 b left.1) has refl

-- what contains none has none
pub none_in : (c : ℕ) (xs : List ℕ) → ¬ Contains xs c → All (λ d. d ≢ c) xs
none_in c xs none = λ k d l e. none (k, l, get_or_default xs k c d l ∙ e)

-- the parts around the first backslash
pub parts : (text : List ℕ) (plain after : Bor (List ℕ)) → IsSplitOnceResult 92 text (Some (plain, after)) → (text ≡ plain.now ++ 92 ∷ after.now) × All (λ c. c ≢ 92) plain.now
parts text plain after cut =
    let h = split_parts 92 text (Some (plain, after)) cut (lit< tt) in
    (h.0, All-from_get_or (λ c. c ≢ 92) plain.now 0 h.1)

pub no_parts : (text : List ℕ) → IsSplitOnceResult 92 text None → All (λ c. c ≢ 92) text
no_parts text cut =
    let h = split_parts 92 text None cut (lit< tt) in
    All-from_get_or (λ c. c ≢ 92) text 0 h

pub begins_none : (text : List ℕ) → ((more : List ℕ) → text ≢ 39 ∷ more) → ((more : List ℕ) → text ≢ 92 ∷ more) → BeginsNone text
begins_none text quote backslash c more (inl e) is = quote more (cc)
begins_none text quote backslash c more (inr e) is = backslash more (cc)
