-- Chains that grow at their end, and the tree of a leaf.
use Rattle.std.proofs.Common.{◌≡◌, List, [], ◌∷◌, ◌++◌, map, refl, rules}
use Rattle.pattern_grammar.specs.declared.comparison.ComparisonTree.{ComparisonTree}
use Rattle.pattern_grammar.specs.declared.pattern.PatternTree.{the_lemmas}
use Rattle.pattern_grammar.specs.declared.pattern.PatternTree.TheVariants as pattern_tree
use Rattle.pattern_grammar.specs.Tree.{left_fold, leaf, compared, shape}

pub joined_more : {A V : Type 0} (join : V → V → V) (f : A → V) (first : V) (xs : List A) (x : A) → left_fold join first (map f (xs ++ x ∷ [])) ≡ join (left_fold join first (map f xs)) (f x)
joined_more join f first [] x = refl
joined_more join f first (y ∷ ys) x = joined_more join f (join first (f y)) ys x

pub leaf_shape : (c : ComparisonTree) → shape (pattern_tree.Leaf c) ≡ leaf (compared c)
leaf_shape c = search (rules, the_lemmas)
