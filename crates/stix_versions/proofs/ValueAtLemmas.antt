-- What a path names, one part after another.
use Rattle.std.proofs.Common.{◌≡◌, ℕ, List, [], ◌∷◌, Option, Some, None, option_and_then, refl, sym, ap, ◌∙◌}
use Rattle.std.proofs.lemmas.Str.Pattern.{IsSplitOnceResult}
use denote.Ref.{Bor}
use Rattle.serde_json.specs.Data.{Data}
use Rattle.stix_versions.specs.Selector.{SelectorPart, selected_value, value_at}
use Rattle.stix_versions.specs.inner.Paths.{IsSelectorPath, IsSelectorPartText}
use Rattle.stix_versions.proofs.PathLemmas.{Cuts, path_cut}

-- what was found is what each part that the text is names in the value
abbrev pub IsChosen : List ℕ → Data → Option Data → Type 0
IsChosen text d found = (part : SelectorPart) → IsSelectorPartText text part → found ≡ selected_value part d

then_here : (found : Option Data) → option_and_then Some found ≡ found
then_here None = refl
then_here (Some d) = refl

named_in : (text : List ℕ) (c : Bor (List ℕ) × Bor (List ℕ)) (parts : List SelectorPart) → Cuts text (Some c) parts → (d : Data) (found : Option Data) → IsChosen c.0.now d found
    → (rest : List SelectorPart) × IsSelectorPath c.1.now rest × (value_at parts d ≡ option_and_then (value_at rest) found)
named_in text c [] cuts d found is = absurd cuts
named_in text c (part ∷ parts) cuts d found is = (parts, cuts.1, ap (option_and_then (value_at parts)) (sym (is part cuts.0)))

named_last : (text : List ℕ) (parts : List SelectorPart) → Cuts text None parts → (d : Data) (found : Option Data) → IsChosen text d found → value_at parts d ≡ found
named_last text [] cuts d found is = absurd cuts
named_last text (part ∷ parts) cuts d found is =
    ap (λ (ps : List SelectorPart). option_and_then (value_at ps) (selected_value part d)) cuts.1 ∙ then_here (selected_value part d) ∙ sym (is part cuts.0)

pub named_next : (text : List ℕ) (c : Bor (List ℕ) × Bor (List ℕ)) → IsSplitOnceResult 46 text (Some c) → (parts : List SelectorPart) → IsSelectorPath text parts
    → (d : Data) (found : Option Data) → IsChosen c.0.now d found
    → (rest : List SelectorPart) × IsSelectorPath c.1.now rest × (value_at parts d ≡ option_and_then (value_at rest) found)
named_next text c is parts path d found chosen_is = named_in text c parts (path_cut text (Some c) is parts path) d found chosen_is

pub named_here : (text : List ℕ) → IsSplitOnceResult 46 text None → (parts : List SelectorPart) → IsSelectorPath text parts
    → (d : Data) (found : Option Data) → IsChosen text d found → value_at parts d ≡ found
named_here text is parts path d found chosen_is = named_last text parts (path_cut text None is parts path) d found chosen_is
