-- Frames put onto a walk.
use Rattle.std.proofs.Common.{arith, ◌≡◌, ◌↔◌, ◌<◌, length, refl, List, [], ◌∷◌, ◌++◌, reverse, ap, ◌∙◌}
use Rattle.std.proofs.lemmas.List.{reverse-append}
use Rattle.serde_json.specs.Data.{Data}
use Rattle.match_comparisons.specs.declared.frame.Frame.{Frame}

pub pushed : (before after : List Frame) (frame : Frame) → after ≡ before ++ frame ∷ [] → reverse after ≡ frame ∷ reverse before
pushed before after frame is = ap (λ (fs : List Frame). reverse fs) is ∙ reverse-append before (frame ∷ [])

pub pushed_twice : (before between after : List Frame) (frame below : Frame) → between ≡ before ++ frame ∷ [] → after ≡ between ++ below ∷ []
    → reverse after ≡ below ∷ frame ∷ reverse before
pushed_twice before between after frame below first second = pushed between after below second ∙ ap (λ (fs : List Frame). below ∷ fs) (pushed before between frame first)

pub no_items : {A : Type 0} (xs : List A) → length xs ≡ 0 → xs ≡ []
no_items [] none = refl
no_items (x ∷ xs) none = absurd (omega (arith, none))

-- the facts hold of the same lists of values
abbrev pub Same : (List Data → Type 0) → (List Data → Type 0) → Type 0
Same P Q = (values : List Data) → P values ↔ Q values

pub same_itself : (P : List Data → Type 0) → Same P P
same_itself P values = (λ p. p, λ p. p)

pub same_through : {P Q R : List Data → Type 0} → Same P Q → Same Q R → Same P R
same_through first second values = (λ p. (second values).0 ((first values).0 p), λ r. (first values).1 ((second values).1 r))

pub none_there : {A : Type 0} (xs : List A) → ¬ (0 < length xs) → xs ≡ []
none_there [] none = refl
none_there (x ∷ xs) none = absurd (none (omega arith))
