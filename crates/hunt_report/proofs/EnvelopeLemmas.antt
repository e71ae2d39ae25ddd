-- An envelope with one text more, and of the texts of objects.
use Rattle.std.proofs.Common.{◌≡◌, ℕ, List, [], ◌∷◌, ◌++◌, map, refl, sym, ap, ◌∙◌, append_assoc}
use Rattle.std.specs.Prelude.{true, false, codes}
use Rattle.std.proofs.lemmas.List.{append-nil}
use Rattle.json.specs.Print.{escape_byte}
use Rattle.serde_json.specs.Data.{Data}
use Rattle.serde_json.specs.View.{items_of}
use Rattle.serde_json.specs.Written.{compact_text, items_text}
use Rattle.hunt_report.specs.Envelope.{comma_joined, comma_separated, opened, sightings_text, sightings_data}

behind_more : (texts : List (List ℕ)) (text : List ℕ) → comma_joined (texts ++ text ∷ []) ≡ comma_joined texts ++ (codes "," ++ text)
behind_more [] text = ap (λ (l : List ℕ). codes "," ++ l) (append-nil text)
behind_more (next ∷ texts) text =
    ap (λ (l : List ℕ). codes "," ++ (next ++ l)) (behind_more texts text) ∙ ap (λ (l : List ℕ). codes "," ++ l) (sym (append_assoc next (comma_joined texts) (codes "," ++ text)))

pub opened_first : (text : List ℕ) → opened (text ∷ []) ≡ opened [] ++ text
opened_first text = ap (λ (l : List ℕ). codes "{\"objects\":[" ++ l) (append-nil text)

pub opened_more : (before text : List ℕ) (texts : List (List ℕ)) → opened (before ∷ texts ++ text ∷ []) ≡ opened (before ∷ texts) ++ (codes "," ++ text)
opened_more before text texts =
    ap (λ (l : List ℕ). codes "{\"objects\":[" ++ (before ++ l)) (behind_more texts text)
    ∙ ap (λ (l : List ℕ). codes "{\"objects\":[" ++ l) (sym (append_assoc before (comma_joined texts) (codes "," ++ text)))

items_behind : (objects : List Data) → comma_joined (map compact_text objects) ++ 93 ∷ [] ≡ items_text true (items_of objects)
items_behind [] = refl
items_behind (next ∷ objects) =
    ap (λ (l : List ℕ). 44 ∷ l) (append_assoc (compact_text next) (comma_joined (map compact_text objects)) (93 ∷ []) ∙ ap (λ (l : List ℕ). compact_text next ++ l) (items_behind objects))

items_listed : (objects : List Data) → comma_separated (map compact_text objects) ++ 93 ∷ [] ≡ items_text false (items_of objects)
items_listed [] = refl
items_listed (first ∷ objects) =
    append_assoc (compact_text first) (comma_joined (map compact_text objects)) (93 ∷ []) ∙ ap (λ (l : List ℕ). compact_text first ++ l) (items_behind objects)

pub envelope_whole : (objects : List Data) → sightings_text (map compact_text objects) ≡ compact_text (sightings_data objects)
unfolding escape_byte
envelope_whole objects =
    let texts = comma_separated (map compact_text objects) in
    ap (λ (l : List ℕ). codes "{\"objects\":[" ++ l) (sym (append_assoc texts (93 ∷ []) (125 ∷ [])) ∙ ap (λ (l : List ℕ). l ++ 125 ∷ []) (items_listed objects))
