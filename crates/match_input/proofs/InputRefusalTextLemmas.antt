-- The line of a refusal, as its pieces tell it.
use Rattle.std.proofs.Common.{◌≡◌, ℕ, List, [], ◌∷◌, ◌++◌, codes, append_assoc, refl, sym, ap, ◌∙◌}
use Rattle.match_input.specs.Texts.{text_at_path, line_of_text}
use Rattle.match_input.specs.inner.Reason.{broken_words, path_lead}

told : (name object rule tail : List ℕ) → name ++ (codes " object " ++ (object ++ (codes ": " ++ (rule ++ tail)))) ≡ (name ++ broken_words object rule) ++ tail
told name object rule tail =
    ap (λ (xs : List ℕ). name ++ (codes " object " ++ (object ++ xs))) (sym (append_assoc (codes ": ") rule tail))
    ∙ ap (λ (xs : List ℕ). name ++ (codes " object " ++ xs)) (sym (append_assoc object (codes ": " ++ rule) tail))
    ∙ ap (λ (xs : List ℕ). name ++ xs) (sym (append_assoc (codes " object ") (object ++ (codes ": " ++ rule)) tail))
    ∙ sym (append_assoc name (broken_words object rule) tail)

led : (name path : List ℕ) → name ++ (path_lead path ++ (path ++ codes "\n")) ≡ text_at_path name path ++ codes "\n"
led name [] = refl
led name (c ∷ path) =
    let lead : path_lead (c ∷ path) ≡ codes " at " = refl in
    ap (λ (l : List ℕ). name ++ (l ++ ((c ∷ path) ++ codes "\n"))) lead
    ∙ ap (λ (xs : List ℕ). name ++ xs) (sym (append_assoc (codes " at ") (c ∷ path) (codes "\n")))
    ∙ sym (append_assoc name (codes " at " ++ c ∷ path) (codes "\n"))

-- the line of a name and a path, of the bytes that were found for each
pub at_line : (line name path line_bytes name_bytes lead lead_bytes path_bytes : List ℕ)
    → line_bytes ≡ line → name_bytes ≡ name → lead ≡ path_lead path → lead_bytes ≡ lead → path_bytes ≡ path
    → codes "line " ++ (line_bytes ++ (codes " refused: " ++ (name_bytes ++ (lead_bytes ++ (path_bytes ++ codes "\n")))))
    ≡ line_of_text line (text_at_path name path)
at_line line name path line_bytes name_bytes lead lead_bytes path_bytes line_is name_is lead_is lead_bytes_is path_is =
    rw (line_is, name_is, lead_bytes_is, lead_is, path_is) (ap (λ (xs : List ℕ). codes "line " ++ (line ++ (codes " refused: " ++ xs))) (led name path))

pub broken_line : (line name object rule path : List ℕ)
    → codes "line " ++ (line ++ (codes " refused: " ++ (name ++ (codes " object " ++ (object ++ (codes ": " ++ (rule ++ (path_lead path ++ (path ++ codes "\n")))))))))
    ≡ line_of_text line (text_at_path (name ++ broken_words object rule) path)
broken_line line name object rule path =
    ap (λ (xs : List ℕ). codes "line " ++ (line ++ (codes " refused: " ++ xs)))
    (told name object rule (path_lead path ++ (path ++ codes "\n")) ∙ led (name ++ broken_words object rule) path)

pub times_line : (line last now : List ℕ)
    → codes "line " ++ (line ++ (codes " refused: OutOfOrder last " ++ (last ++ (codes " now " ++ (now ++ codes "\n")))))
    ≡ line_of_text line (codes "OutOfOrder last " ++ (last ++ (codes " now " ++ now)))
times_line line last now =
    ap (λ (xs : List ℕ). codes "line " ++ (line ++ (codes " refused: OutOfOrder last " ++ xs)))
    (sym (append_assoc last (codes " now " ++ now) (codes "\n")))
