-- One part of a selector: in brackets it is a place, and without them a name.
use Rattle.std.proofs.Common.{arith, ◌≡◌, ◌≢◌, ℕ, List, [], ◌∷◌, ◌++◌, drop, sym, ap, subst, ◌∙◌}
use Rattle.std.proofs.lemmas.List.{append_cancel_right}
use Rattle.stix_versions.specs.Selector.{SelectorPart, named, indexed, IsName, IsNameCharacter, IsIndex, in_brackets}
use Rattle.stix_versions.specs.inner.Paths.{IsSelectorPartText}

-- no name begins with a bracket
bracket_begins_no_name : (rest : List ℕ) → ¬ IsName (91 ∷ rest)
bracket_begins_no_name rest is = let first : IsNameCharacter 91 = is.1 0 0 (omega arith) in grind arith

pub place_only : (text digits : List ℕ) → text ≡ in_brackets digits → (part : SelectorPart) → IsSelectorPartText text part → IsIndex digits
place_only text digits opened (named name) is = absurd (bracket_begins_no_name (digits ++ 93 ∷ []) (subst IsName (sym is.spelled ∙ opened) is.is_part))
place_only text digits opened (indexed others) is =
    subst IsIndex (append_cancel_right others digits (93 ∷ []) (ap (drop 1) (sym is.spelled ∙ opened))) is.is_part

pub name_only : (text : List ℕ) → ((inner : List ℕ) → text ≢ in_brackets inner) → (part : SelectorPart) → IsSelectorPartText text part → IsName text
name_only text not_enclosed (named name) is = subst IsName (sym is.spelled) is.is_part
name_only text not_enclosed (indexed digits) is = absurd (not_enclosed digits is.spelled)
