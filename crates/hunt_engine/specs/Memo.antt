-- The memo of a bundle: which brackets of all patterns hold at each root.
use Rattle.std.specs.Prelude.{◌≡◌, ◌↔◌, ℕ, ◌<◌, List, [], ◌∷◌, ◌++◌, length, map, All, Contains, Option, Some, slice_get}
use Rattle.std.specs.List.{flat_map}
use Rattle.serde_json.specs.Data.{Data}
use Rattle.pattern_types.specs.declared.pattern.Pattern.{Pattern}
use Rattle.pattern_types.specs.PlainLeaf.{PlainLeaf}
use Rattle.pattern_types.specs.PlainPattern.{PlainPattern, plain_pattern, a_leaf, a_both, an_either, a_then, a_limited}
use Rattle.match_comparisons.specs.Tests.{HoldsAt}

-- the brackets of a pattern, from left to right
abbrev pub leaf_list : PlainPattern → List PlainLeaf
leaf_list (a_leaf leaf) = leaf ∷ []
leaf_list (a_both p q) = leaf_list p ++ leaf_list q
leaf_list (an_either p q) = leaf_list p ++ leaf_list q
leaf_list (a_then p q) = leaf_list p ++ leaf_list q
leaf_list (a_limited p limit) = leaf_list p

-- the brackets of all patterns, pattern after pattern
abbrev pub brackets_of : List Pattern → List PlainLeaf
brackets_of patterns = flat_map leaf_list (map plain_pattern patterns)

-- the indices of the brackets that the object at a root meets
pub record AreHeld (objects : List Data) (brackets : List PlainLeaf) (root : ℕ) (positions : List ℕ) : Type 0 where
  pub there : All (λ (position : ℕ). position < length brackets) positions
  pub hold : (position : ℕ) (bracket : PlainLeaf) → slice_get brackets position ≡ Some bracket → Contains positions position ↔ HoldsAt objects root bracket

-- each entry is correct
abbrev pub IsSoundMemo : List Data → List PlainLeaf → List (Option (List ℕ)) → Type 0
IsSoundMemo objects brackets memo = (root : ℕ) (positions : List ℕ) → slice_get memo root ≡ Some (Some positions) → AreHeld objects brackets root positions
