-- For private clauses: equality of states up to the order in each store.
use Rattle.std.specs.Prelude.{◌≡◌, ℕ, ⊤, List, [], ◌∷◌}
use Rattle.std.specs.List.{sum_by}
use Rattle.match_pruning.specs.PartialMatchTree.{PartialMatchTree}
use Rattle.match_pruning.specs.inner.Steps.{SideStores, State, a_leaf, a_join, a_choice, a_limit, a_chain}

-- equal as multisets: the sums agree for every weight
abbrev pub AreSameMultiset : List PartialMatchTree → List PartialMatchTree → Type 0
AreSameMultiset held other = (weight : PartialMatchTree → ℕ) → sum_by weight other ≡ sum_by weight held

pub record AreSameSides (sides other : SideStores) : Type 0 where
  pub left : AreSameMultiset sides.left other.left
  pub right : AreSameMultiset sides.right other.right
  pub left_window : other.left_window ≡ sides.left_window
  pub right_window : other.right_window ≡ sides.right_window

-- level by level
abbrev pub AreSameLevels : List (List PartialMatchTree) → List (List PartialMatchTree) → Type 0
AreSameLevels [] [] = ⊤
AreSameLevels (held ∷ levels) (other ∷ others) = AreSameMultiset held other × AreSameLevels levels others
AreSameLevels _ _ = ⊥

-- store by store
abbrev pub IsSameUpToOrder : State → State → Type 0
IsSameUpToOrder (a_leaf leaf window) z = z ≡ a_leaf leaf window
IsSameUpToOrder (a_join j l r sides) (a_join j' l' r' sides') = (j' ≡ j) × IsSameUpToOrder l l' × IsSameUpToOrder r r' × AreSameSides sides sides'
IsSameUpToOrder (a_choice l r) (a_choice l' r') = IsSameUpToOrder l l' × IsSameUpToOrder r r'
IsSameUpToOrder (a_limit part) (a_limit part') = IsSameUpToOrder part part'
IsSameUpToOrder (a_chain part count window levels) (a_chain part' count' window' levels') =
    IsSameUpToOrder part part' × (count' ≡ count) × (window' ≡ window) × AreSameLevels levels levels'
IsSameUpToOrder _ _ = ⊥
