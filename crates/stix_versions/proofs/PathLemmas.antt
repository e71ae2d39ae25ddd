-- Parts joined by dots: the text after the first dot is that of the parts after the first one.
use Rattle.std.proofs.Common.{arith, ◌≡◌, ◌≢◌, ◌↔◌, inl, inr, ℕ, zero, suc, ◌<◌, List, [], ◌∷◌, ◌++◌, length, map, get_or, Option, Some, None, MatchOption, length-append, refl, sym, ap, subst, ◌∙◌}
use Rattle.std.proofs.lemmas.Str.Pattern.{IsSplitOnceResult, split_parts, split_after}
use Rattle.std.proofs.lemmas.List.{get_or_append_left}
use Rattle.std.proofs.Math.Seq.{get_or-append_seam}
use Rattle.std.specs.Char.{IsAsciiDigit}
use Rattle.std.proofs.lemmas.Bool.{cases_lt}
use denote.Ref.{Bor}
use Rattle.stix_json.specs.Walk.{path_text}
use Rattle.stix_versions.specs.Selector.{SelectorPart, named, indexed, IsNameCharacter, IsPart, selector_part_text}
use Rattle.stix_versions.specs.inner.Paths.{IsSelectorPath, IsSelectorPartText}
use Rattle.stix_versions.proofs.DigitsLemmas.{digits_are}

-- no byte of the text is a dot
abbrev HasNoDot : List ℕ → Type 0
HasNoDot text = (i : ℕ) → i < length text → get_or text i 0 ≢ 46

no_dot_in_name : (name : List ℕ) → IsPart (named name) → HasNoDot name
no_dot_in_name name is i inside dot = let dotted : IsNameCharacter 46 = subst IsNameCharacter dot (is.1 i 0 inside) in grind arith

bracket_no_dot : ◌≡◌ {A = ℕ} 93 46 → ⊥
bracket_no_dot is = omega arith

no_dot_before_bracket : (digits : List ℕ) → IsPart (indexed digits) → HasNoDot (digits ++ 93 ∷ [])
no_dot_before_bracket digits is i inside dot =
    let count = length-append digits (93 ∷ []) in
    elim (cases_lt i (length digits)) [
      | inl within ↦
          let digit : IsAsciiDigit 46 = subst IsAsciiDigit (sym (get_or_append_left digits (93 ∷ []) 0 i within) ∙ dot) (digits_are digits is.0.1 i 0 within) in
          grind arith
      | inr past ↦
          let last : length digits ≡ i = omega (arith, count) in
          absurd (bracket_no_dot (sym (get_or-append_seam digits 93 [] 0) ∙ ap (λ n. get_or (digits ++ 93 ∷ []) n 0) last ∙ dot))
    ]

no_dot_in_place : (digits : List ℕ) → IsPart (indexed digits) → HasNoDot (selector_part_text (indexed digits))
no_dot_in_place digits is zero inside dot = omega arith
no_dot_in_place digits is (suc i) inside dot = no_dot_before_bracket digits is i (omega arith) dot

no_dot_in_part : (part : SelectorPart) → IsPart part → HasNoDot (selector_part_text part)
no_dot_in_part (named name) is = no_dot_in_name name is
no_dot_in_part (indexed digits) is = no_dot_in_place digits is

dot_is_there : (text before after : List ℕ) → text ≡ before ++ 46 ∷ after → ¬ HasNoDot text
dot_is_there text before after is none =
    let count = length-append before (46 ∷ after) in
    let whole = ap (λ (xs : List ℕ). length xs) is in
    none (length before) (omega arith) (ap (λ (xs : List ℕ). get_or xs (length before) 0) is ∙ get_or-append_seam before 46 after 0)

-- what a path is at a text that is cut at its first dot, if it has one
abbrev pub Cuts : List ℕ → Option (Bor (List ℕ) × Bor (List ℕ)) → List SelectorPart → Type 0
Cuts text cut [] = ⊥
Cuts text cut (part ∷ parts) = MatchOption cut (IsSelectorPartText text part × (parts ≡ [])) (λ c. IsSelectorPartText c.0.now part × IsSelectorPath c.1.now parts)

pub path_cut : (text : List ℕ) (cut : Option (Bor (List ℕ) × Bor (List ℕ))) → IsSplitOnceResult 46 text cut → (parts : List SelectorPart) → IsSelectorPath text parts → Cuts text cut parts
path_cut text cut is [] path = absurd (path.some refl)
path_cut text None is (part ∷ []) path = (record { is_part = path.are_parts.0; spelled = path.spelled }, refl)
path_cut text None is (part ∷ next ∷ parts) path =
    absurd (dot_is_there text (selector_part_text part) (path_text (map selector_part_text (next ∷ parts))) path.spelled (split_parts 46 text None is (omega arith)))
path_cut text (Some c) is (part ∷ []) path =
    absurd (dot_is_there text c.0.now c.1.now (split_parts 46 text (Some c) is (omega arith)).0
    (subst HasNoDot (sym path.spelled) (no_dot_in_part part path.are_parts.0)))
path_cut text (Some c) is (part ∷ next ∷ parts) path =
    let parted = split_after 46 text (selector_part_text part) (path_text (map selector_part_text (next ∷ parts))) (Some c) is (omega arith) path.spelled (no_dot_in_part part path.are_parts.0) in (
      record { is_part = path.are_parts.0; spelled = parted.0 },
      record { are_parts = path.are_parts.1; some = λ none. absurd cc; spelled = parted.1 },
    )

pub path_of_one : (text : List ℕ) (part : SelectorPart) → IsSelectorPartText text part → IsSelectorPath text (part ∷ [])
path_of_one text part is = record { are_parts = (is.is_part, tt); some = λ none. absurd cc; spelled = is.spelled }

pub path_of_more : (text first after : List ℕ) → text ≡ first ++ 46 ∷ after → (part : SelectorPart) → IsSelectorPartText first part → (parts : List SelectorPart) → IsSelectorPath after parts → IsSelectorPath text (part ∷ parts)
path_of_more text first after is part one [] path = absurd (path.some refl)
path_of_more text first after is part one (next ∷ parts) path = record {
  are_parts = (one.is_part, path.are_parts);
  some = λ none. absurd cc;
  spelled = is ∙ ap (λ (xs : List ℕ). xs ++ 46 ∷ after) one.spelled ∙ ap (λ (ys : List ℕ). selector_part_text part ++ 46 ∷ ys) path.spelled;
}

-- the text is a path, and the text is a part
abbrev pub HasPath : List ℕ → Type 0
HasPath text = (parts : List SelectorPart) × IsSelectorPath text parts

abbrev pub HasPart : List ℕ → Type 0
HasPart text = (part : SelectorPart) × IsSelectorPartText text part

first_of_cut : (text : List ℕ) (c : Bor (List ℕ) × Bor (List ℕ)) (parts : List SelectorPart) → Cuts text (Some c) parts → HasPart c.0.now
first_of_cut text c [] cuts = absurd cuts
first_of_cut text c (part ∷ parts) cuts = (part, cuts.0)

rest_of_cut : (text : List ℕ) (c : Bor (List ℕ) × Bor (List ℕ)) (parts : List SelectorPart) → Cuts text (Some c) parts → HasPath c.1.now
rest_of_cut text c [] cuts = absurd cuts
rest_of_cut text c (part ∷ parts) cuts = (parts, cuts.1)

whole_of_cut : (text : List ℕ) (parts : List SelectorPart) → Cuts text None parts → HasPart text
whole_of_cut text [] cuts = absurd cuts
whole_of_cut text (part ∷ parts) cuts = (part, cuts.0)

pub path_begins : (text : List ℕ) (c : Bor (List ℕ) × Bor (List ℕ)) → IsSplitOnceResult 46 text (Some c) → HasPath text → HasPart c.0.now
path_begins text c is path = first_of_cut text c path.0 (path_cut text (Some c) is path.0 path.1)

pub path_continues : (text : List ℕ) (c : Bor (List ℕ) × Bor (List ℕ)) → IsSplitOnceResult 46 text (Some c) → HasPart c.0.now → HasPath text ↔ HasPath c.1.now
path_continues text c is part = (
  λ path. rest_of_cut text c path.0 (path_cut text (Some c) is path.0 path.1),
  λ path. (part.0 ∷ path.0, path_of_more text c.0.now c.1.now (split_parts 46 text (Some c) is (omega arith)).0 part.0 part.1 path.0 path.1),
)

pub path_ends : (text : List ℕ) → IsSplitOnceResult 46 text None → HasPath text ↔ HasPart text
path_ends text is = (
  λ path. whole_of_cut text path.0 (path_cut text None is path.0 path.1),
  λ part. (part.0 ∷ [], path_of_one text part.0 part.1),
)
