-- What `contains` says of a list of texts.
use Rattle.std.proofs.Common.{◌≡◌, ◌↔◌, ◌<◌, ℕ, Bool, List, IsTrue, Contains, length, get_or, sym, subst, ◌∙◌}
use Rattle.std.specs.List.{list_any}
use Rattle.std.specs.Str.{bytes_eq}
use Rattle.std.proofs.lemmas.Slice.Eq.{bytes_eq-Decides}
use Rattle.std.proofs.lemmas.List.Folds.{Any-from_list_any, list_any_at}

pub contains_text : (words : List (List ℕ)) (text : List ℕ) (answer : Bool) → answer ≡ list_any (λ word. bytes_eq word text) words → IsTrue answer ↔ Contains words text
contains_text words text answer is =
    let test : List ℕ → Bool = λ word. bytes_eq word text in (
      λ yes.
          let found = Any-from_list_any test words (sym is ∙ yes) in
          let IsAt : List ℕ → Type 0 = λ word. (k : ℕ) × (k < length words) × (get_or words k word ≡ word) in
          subst IsAt ((bytes_eq-Decides found.1 text).0 found.4) (found.0, found.2, found.3),
      λ at. is ∙ list_any_at test words at.0 text at.1 ((bytes_eq-Decides (get_or words at.0 text) text).1 at.2),
    )
