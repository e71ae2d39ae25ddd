-- Collections whose identifiers differ.
use Rattle.std.proofs.lemmas.Bool.{false≢true}
use Rattle.std.proofs.Common.{◌≡◌, ◌↔◌, ℕ, Bool, true, false, ◌||◌, List, [], ◌∷◌, map, refl, sym, ap, ◌∙◌}
use Rattle.std.specs.Prelude.{nat_eq}
use Rattle.std.specs.List.{AllByRecursion, IsDistinct, list_any}
use Rattle.command_line.specs.Request.{plain_collection}
use Rattle.command_line.specs.declared.request.CollectionRequest.{CollectionRequest}

abbrev pub ids : List CollectionRequest → List ℕ
ids collections = map (λ asked. asked.id) collections

abbrev pub among : ℕ → List CollectionRequest → Bool
among id collections = list_any (λ asked. nat_eq id asked.id) collections

-- the identifiers are those of the collections as they are meant
pub plain_ids : (collections : List CollectionRequest) → map (λ collection. collection.id) (map plain_collection collections) ≡ ids collections
plain_ids [] = refl
plain_ids (asked ∷ collections) = ap (λ (rest : List ℕ). asked.id ∷ rest) (plain_ids collections)

others_differ : (id : ℕ) (collections : List CollectionRequest) → among id collections ≡ false → AllByRecursion (λ other. nat_eq id other ≡ false) (ids collections)
others_differ id [] none = tt
others_differ id (asked ∷ collections) none = go (nat_eq id asked.id) refl none (others_differ id collections)
  where
    go : (t : Bool) → nat_eq id asked.id ≡ t → (t || among id collections) ≡ false → (among id collections ≡ false → AllByRecursion (λ other. nat_eq id other ≡ false) (ids collections))
        → AllByRecursion (λ other. nat_eq id other ≡ false) (ids (asked ∷ collections))
    go true t none rec = absurd (false≢true (sym none))
    go false t none rec = (t, rec none)

none_among : (id : ℕ) (collections : List CollectionRequest) → AllByRecursion (λ other. nat_eq id other ≡ false) (ids collections) → among id collections ≡ false
none_among id [] all = refl
none_among id (asked ∷ collections) all = ap (λ (b : Bool). b || among id collections) all.0 ∙ none_among id collections all.1

-- the first, and then the others
pub first_differs : (first : CollectionRequest) (rest : List CollectionRequest) → among first.id rest ≡ false → IsDistinct nat_eq (ids (first ∷ rest)) ↔ IsDistinct nat_eq (ids rest)
unfolding IsDistinct
first_differs first rest none = (λ all. all.1, λ all. (others_differ first.id rest none, all))

pub first_again : (first : CollectionRequest) (rest : List CollectionRequest) → among first.id rest ≡ true → ¬ IsDistinct nat_eq (ids (first ∷ rest))
unfolding IsDistinct
first_again first rest again all = false≢true (sym (none_among first.id rest all.0) ∙ again)

pub none_left : IsDistinct nat_eq []
unfolding IsDistinct
none_left = tt
