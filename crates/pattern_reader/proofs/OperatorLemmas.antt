-- Chains of an operator on observations.
use Rattle.std.proofs.Common.{◌≡◌, ℕ, ◌+◌, List, [], ◌∷◌, ◌++◌, map, take, rules, Result, Ok, Err, IfOk, Option, Box, Global}
use Rattle.pattern_grammar.specs.declared.qualifier.Qualifier.{Qualifier}
use Rattle.pattern_grammar.specs.declared.pattern.PatternTree.{PatternTree, the_lemmas}
use Rattle.pattern_grammar.specs.declared.pattern.PatternTree.TheVariants as tree
use Rattle.pattern_grammar.specs.Tree.{Tree, left_fold, shape, both, either, followed, qualified}
use Rattle.pattern_reader.specs.declared.narrow_pattern.Operator.{Operator}
use Rattle.pattern_reader.specs.declared.narrow_pattern.NarrowPattern.{NarrowPattern}
use Rattle.pattern_reader.specs.declared.value_refusal.ValueRefusal.{ValueRefusal}
use Rattle.pattern_reader.specs.inner.NarrowPattern.{IsPartOutcome}
use Rattle.pattern_reader.specs.inner.NarrowPattern.{tree_by}
use Rattle.pattern_reader.proofs.ChainLemmas.{joined_more}

-- one part more
pub part_more : (text : List ℕ) (o : Operator) (p : Tree) (xs : List PatternTree) (i : ℕ) (x : PatternTree) (a b w : Result (Option NarrowPattern) ValueRefusal) → take (i + 1) xs ≡ take i xs ++ x ∷ []
    → ((s t : Tree) → IsPartOutcome text s a → IsPartOutcome text t b → IsPartOutcome text (tree_by o s t) w)
    → IsPartOutcome text (left_fold (tree_by o) p (map shape (take i xs))) a → IsPartOutcome text (shape x) b → IsPartOutcome text (left_fold (tree_by o) p (map shape (take (i + 1) xs))) w
part_more text o p xs i x a b w e f h g = rw (e, joined_more) (f _ _ h g)

-- what the chain means, from what its first part means
pub applied : {E : Type 0} (o : Operator) (text : List ℕ) (p t : Tree) (xs : List PatternTree) (a : Result (Option NarrowPattern) ValueRefusal) (r : Result (Result (Option NarrowPattern) ValueRefusal) E) → t ≡ left_fold (tree_by o) p (map shape xs) → IsPartOutcome text p a
    → IfOk r (λ whole. (s : Tree) → IsPartOutcome text s a → IsPartOutcome text (left_fold (tree_by o) s (map shape xs)) whole)
    → IfOk r (IsPartOutcome text t)
applied o text p t xs a (Ok found) e x h = rw e (h p x)
applied o text p t xs a (Err f) e x h = tt

-- the tree of a node from those of its parts
pub shape_both : (b : Box PatternTree Global) (xs : List PatternTree) → shape (tree.Both b xs) ≡ left_fold both (shape b.value) (map shape xs)
shape_both b xs = search (rules, the_lemmas)

pub shape_either : (b : Box PatternTree Global) (xs : List PatternTree) → shape (tree.Either b xs) ≡ left_fold either (shape b.value) (map shape xs)
shape_either b xs = search (rules, the_lemmas)

pub shape_then : (b : Box PatternTree Global) (xs : List PatternTree) → shape (tree.Then b xs) ≡ left_fold followed (shape b.value) (map shape xs)
shape_then b xs = search (rules, the_lemmas)

pub shape_qualified : (b : Box PatternTree Global) (q : Qualifier) → shape (tree.Qualified b q) ≡ qualified (shape b.value) q
shape_qualified b q = search (rules, the_lemmas)
