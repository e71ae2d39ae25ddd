-- A target is cut in one way.
use Rattle.std.proofs.Common.{◌≡◌, ◌≢◌, ℕ, List, [], ◌∷◌, ◌++◌, Option, Some, None, refl, sym, ap, ◌∙◌}
use Rattle.std.specs.Prelude.{All}
use Rattle.std.proofs.lemmas.List.Elements.{All-head, All-tail}
use Rattle.taxii_routes.specs.Target.{query_text, IsTargetOf}

abbrev NoSeparator : List ℕ → Type 0
NoSeparator text = All (λ byte. byte ≢ 63) text

abbrev Same : List ℕ → List ℕ → Option (List ℕ) → Option (List ℕ) → Type 0
Same first second query other = (first ≡ second) × (query ≡ other)

one_cut : (first second : List ℕ) (query other : Option (List ℕ)) → NoSeparator first → NoSeparator second → first ++ query_text query ≡ second ++ query_text other → Same first second query other
one_cut [] [] None None plain also is = (refl, refl)
one_cut [] [] None (Some o) plain also is = absurd cc
one_cut [] [] (Some q) None plain also is = absurd cc
one_cut [] [] (Some q) (Some o) plain also is = (refl, ap Some (tail 63 63 q o is))
  where
    tail : (a b : ℕ) (s t : List ℕ) → a ∷ s ≡ b ∷ t → s ≡ t
    tail a b s t e = cc
one_cut [] (b ∷ second) None other plain also is = absurd cc
one_cut [] (b ∷ second) (Some q) other plain also is = absurd (All-head (λ byte. byte ≢ 63) b second also (sym (head 63 b q (second ++ query_text other) is)))
  where
    head : (a b : ℕ) (s t : List ℕ) → a ∷ s ≡ b ∷ t → a ≡ b
    head a b s t e = cc
one_cut (a ∷ first) [] query None plain also is = absurd cc
one_cut (a ∷ first) [] query (Some o) plain also is = absurd (All-head (λ byte. byte ≢ 63) a first plain (head a 63 (first ++ query_text query) o is))
  where
    head : (a b : ℕ) (s t : List ℕ) → a ∷ s ≡ b ∷ t → a ≡ b
    head a b s t e = cc
one_cut (a ∷ first) (b ∷ second) query other plain also is =
    let later = one_cut first second query other (All-tail (λ byte. byte ≢ 63) a first plain) (All-tail (λ byte. byte ≢ 63) b second also)
    (tail a b (first ++ query_text query) (second ++ query_text other) is) in
    (ap (λ c. c ∷ first) (head a b (first ++ query_text query) (second ++ query_text other) is) ∙ ap (λ cs. b ∷ cs) later.0, later.1)
  where
    head : (a b : ℕ) (s t : List ℕ) → a ∷ s ≡ b ∷ t → a ≡ b
    head a b s t e = cc

    tail : (a b : ℕ) (s t : List ℕ) → a ∷ s ≡ b ∷ t → s ≡ t
    tail a b s t e = cc

pub one_target : (target first second : List ℕ) (query other : Option (List ℕ)) → IsTargetOf target first query → IsTargetOf target second other → Same first second query other
one_target target first second query other p q = one_cut first second query other p.unmarked q.unmarked (sym p.spelling ∙ q.spelling)
