-- What stands between brackets.
use Rattle.std.proofs.Common.{◌≡◌, ◌≢◌, ℕ, List, [], ◌∷◌, ◌++◌, Option, Some, None, MatchOption, IfSome, IfNone, sym, ap, drop, ◌∙◌}
use denote.Ref.{Bor}
use Rattle.stix_versions.specs.Selector.{in_brackets}

-- what is before the closing bracket, or that there is none
abbrev pub Closes : List ℕ → Option (Bor (List ℕ)) → Type 0
Closes rest inner = MatchOption inner ((front : List ℕ) → rest ≢ front ++ (93 ∷ [])) (λ x. rest ≡ x.now ++ (93 ∷ []))

pub stripped_some : (text rest : List ℕ) → text ≡ 91 ∷ rest → (inner : Option (Bor (List ℕ))) → Closes rest inner → IfSome inner (λ x. text ≡ in_brackets x.now)
stripped_some text rest opened None closes = tt
stripped_some text rest opened (Some inner) closes = opened ∙ ap (λ (xs : List ℕ). 91 ∷ xs) closes

pub stripped_none : (text rest : List ℕ) → text ≡ 91 ∷ rest → (inner : Option (Bor (List ℕ))) → Closes rest inner → IfNone inner ((x : List ℕ) → text ≢ in_brackets x)
stripped_none text rest opened None closes = λ x is. closes x (ap (drop 1) (sym opened ∙ is))
stripped_none text rest opened (Some inner) closes = tt
