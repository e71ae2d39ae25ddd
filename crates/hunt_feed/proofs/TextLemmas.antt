-- The line of a refusal, as its pieces tell it.
use Rattle.std.proofs.Common.{◌≡◌, ℕ, List, [], ◌∷◌, ◌++◌, codes, append_assoc, refl, sym, ap, ◌∙◌}
use Rattle.match_input.specs.Texts.{text_at_path, line_of_text}
use Rattle.match_input.specs.inner.Reason.{path_lead}

led : (name path : List ℕ) → name ++ (path_lead path ++ (path ++ codes "\n")) ≡ text_at_path name path ++ codes "\n"
led name [] = refl
led name (c ∷ path) =
    let lead : path_lead (c ∷ path) ≡ codes " at " = refl in
    ap (λ (l : List ℕ). name ++ (l ++ ((c ∷ path) ++ codes "\n"))) lead
    ∙ ap (λ (xs : List ℕ). name ++ xs) (sym (append_assoc (codes " at ") (c ∷ path) (codes "\n")))
    ∙ sym (append_assoc name (codes " at " ++ c ∷ path) (codes "\n"))

pub refused_line : (line name rule path : List ℕ)
    → codes "indicators line " ++ (line ++ (codes " refused: " ++ (name ++ (rule ++ (path_lead path ++ (path ++ codes "\n"))))))
    ≡ codes "indicators " ++ line_of_text line (text_at_path (name ++ rule) path)
refused_line line name rule path =
    ap (λ (xs : List ℕ). codes "indicators line " ++ (line ++ (codes " refused: " ++ xs)))
    (sym (append_assoc name rule (path_lead path ++ (path ++ codes "\n"))) ∙ led (name ++ rule) path)

-- the same of the pieces, which were handed on
pub refused_pieces : (line name rule path line_piece name_piece rule_piece lead_piece path_piece : List ℕ) → line_piece ≡ line → name_piece ≡ name → rule_piece ≡ rule
    → lead_piece ≡ path_lead path → path_piece ≡ path
    → codes "indicators line " ++ (line_piece ++ (codes " refused: " ++ (name_piece ++ (rule_piece ++ (lead_piece ++ (path_piece ++ codes "\n"))))))
    ≡ codes "indicators " ++ line_of_text line (text_at_path (name ++ rule) path)
refused_pieces line name rule path line_piece name_piece rule_piece lead_piece path_piece is_line is_name is_rule is_lead is_path =
    let told = refused_line line name rule path in cc
