-- A path up to its first slash, in the words of `matchit`.
use Rattle.std.proofs.Common.{◌≡◌, ◌≢◌, ℕ, ◌-◌, List, [], ◌∷◌, ◌++◌, length, take, Bool, true, false, refl, sym, ap, subst, ◌∙◌, arith, nat_eq, ltb, ◌&&◌, ◌⊎◌, inl, inr, length-append}
use Rattle.std.proofs.lemmas.Bool.{cases_eq, ne_eqb, cond-false}
use Rattle.std.proofs.lemmas.Bool.Decides.{nat_tests, Decides-eqb}
use Rattle.std.proofs.lemmas.List.Elements.{All-nil, All-cons, All-head, All-tail}
use Rattle.std.proofs.lemmas.Slice.Eq.{ends_is}
use Rattle.std.specs.Prelude.{All}
use Rattle.std.specs.List.{ends_with}
use Rattle.matchit.specs.Seek.{segment, has_slash, cuts}

-- no byte is a slash
abbrev pub NoSlash : List ℕ → Type 0
NoSlash text = All (λ byte. byte ≢ 47) text

-- the bytes up to the first slash, and those after it
abbrev pub IsCutAtSlash : List ℕ → List ℕ → List ℕ → Type 0
IsCutAtSlash path front back = (path ≡ front ++ 47 ∷ back) × NoSlash front

-- a path has a first slash, or none
pub cut : (path : List ℕ) → ((front back : List ℕ) × IsCutAtSlash path front back) ⊎ NoSlash path
cut [] = inr (All-nil (λ byte. byte ≢ 47))
cut (b ∷ p) = elim (cases_eq b 47) [
  | inl same ↦ inl ([], p, (ap (λ x. x ∷ p) same, All-nil (λ byte. byte ≢ 47)))
  | inr other ↦ later b p other (cut p)
]
  where
    later : (b : ℕ) (p : List ℕ) → b ≢ 47 → ((front back : List ℕ) × IsCutAtSlash p front back) ⊎ NoSlash p
        → ((front back : List ℕ) × IsCutAtSlash (b ∷ p) front back) ⊎ NoSlash (b ∷ p)
    later b p other (inl (front, back, (is, plain))) = inl (b ∷ front, back, (ap (λ x. b ∷ x) is, All-cons (λ byte. byte ≢ 47) b front other plain))
    later b p other (inr plain) = inr (All-cons (λ byte. byte ≢ 47) b p other plain)

pub segment-at : (front back : List ℕ) → NoSlash front → segment (front ++ 47 ∷ back) ≡ front ++ 47 ∷ []
segment-at [] back plain = refl
segment-at (b ∷ front) back plain =
    cond-false _ _ _ (ne_eqb b 47 (All-head (λ byte. byte ≢ 47) b front plain))
    ∙ ap (λ x. b ∷ x) (segment-at front back (All-tail (λ byte. byte ≢ 47) b front plain))

pub segment-none : (path : List ℕ) → NoSlash path → segment path ≡ path
segment-none [] plain = refl
segment-none (b ∷ p) plain =
    cond-false _ _ _ (ne_eqb b 47 (All-head (λ byte. byte ≢ 47) b p plain)) ∙ ap (λ x. b ∷ x) (segment-none p (All-tail (λ byte. byte ≢ 47) b p plain))

pub has_slash-none : (path : List ℕ) → NoSlash path → has_slash path ≡ false
has_slash-none [] plain = refl
has_slash-none (b ∷ p) plain =
    cond-false _ _ _ (ne_eqb b 47 (All-head (λ byte. byte ≢ 47) b p plain)) ∙ has_slash-none p (All-tail (λ byte. byte ≢ 47) b p plain)

-- a slash stands nowhere in a text without one
pub no_slash_at : (front back path : List ℕ) → path ≡ front ++ 47 ∷ back → ¬ NoSlash path
no_slash_at [] back path is plain = All-head (λ byte. byte ≢ 47) 47 back (subst NoSlash is plain) refl
no_slash_at (b ∷ front) back path is plain = no_slash_at front back (front ++ 47 ∷ back) refl (All-tail (λ byte. byte ≢ 47) b (front ++ 47 ∷ back) (subst NoSlash is plain))

-- the slash ends what stands up to it, where something stands before it
pub cuts-at : (b : ℕ) (front : List ℕ) → cuts ((b ∷ front) ++ 47 ∷ []) (47 ∷ []) ≡ true
cuts-at b front =
    let all = (b ∷ front) ++ 47 ∷ [] in
    let count = length-append (b ∷ front) (47 ∷ []) in
    let long : ltb 1 (length all) ≡ true = grind (arith, nat_tests) in
    let ends : ends_with nat_eq all (47 ∷ []) ≡ true = (ends_is Decides-eqb all (47 ∷ []) (ends_with nat_eq all (47 ∷ [])) refl).1 (b ∷ front) refl in
    rw (long, ends) refl

-- it ends no other text
pub cuts-none : (path : List ℕ) → NoSlash path → cuts path (47 ∷ []) ≡ false
cuts-none path plain = go (ltb 1 (length path)) (ends_with nat_eq path (47 ∷ [])) refl
  where
    go : (long ends : Bool) → ends_with nat_eq path (47 ∷ []) ≡ ends → (long && ends) ≡ false
    go true true is = absurd (no_slash_at (take (length path - 1) path) [] path ((ends_is Decides-eqb path (47 ∷ []) true (sym is)).0 refl) plain)
    go true false is = refl
    go false ends is = refl
