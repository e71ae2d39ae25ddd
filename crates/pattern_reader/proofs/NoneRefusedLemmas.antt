-- In what means a sound pattern nothing is refused.
use Rattle.std.proofs.Common.{◌≤◌, inl, inr, ℕ, List, [], ◌∷◌, length, arith}
use Rattle.pattern_grammar.specs.declared.path.StepTree.{StepTree}
use Rattle.pattern_grammar.specs.declared.path.PathTree.{PathTree}
use Rattle.pattern_grammar.specs.declared.comparison.TestTree.{TestTree}
use Rattle.pattern_grammar.specs.Tree.{Comparison, all, any, Tree}
use Rattle.pattern_types.specs.declared.path.Step.{Step}
use Rattle.pattern_types.specs.declared.path.TheConstants.{MAX_STEPS}
use Rattle.pattern_types.specs.declared.path.Path.{Path}
use Rattle.pattern_types.specs.declared.leaf.Test.{Test}
use Rattle.pattern_types.specs.PlainLeaf.{PlainLeaf, PlainLeaves}
use Rattle.pattern_types.specs.PlainPattern.{PlainPattern}
use Rattle.pattern_reader.specs.declared.value_refusal.ValueRefusal.{ValueRefusal}
use Rattle.pattern_reader.specs.Meaning.{IsStepOf, IsPathOf, IsTestOf}
use Rattle.std.specs.List.{AllZip}
use Rattle.pattern_reader.specs.LeafMeaning.{Means, means_test, means_group, means_all, means_any, AllParts, all_first, all_more, AnyParts, any_first, any_more}
use Rattle.pattern_reader.specs.PatternMeaning.{MeansPattern, means_leaf, means_both, means_either, means_then, means_limited}
use Rattle.pattern_types.specs.Soundness.{IsSoundTest, AllHave, IsSoundLeaf, AreSoundLeaves, IsSoundPattern}
use Rattle.pattern_reader.specs.Refusals.{RefusalOfSteps, RefusalOfPath, RefusalOfTest, RefusalOfComparison, RefusalOf}
use Rattle.std.proofs.lemmas.Slice.Zip.{AllZip-long}
use Rattle.pattern_reader.proofs.LeafRootLemmas.{all_put, sound_put, both_have_root}

no_step_refused : (text : List ℕ) (ts : List StepTree) (ss : List Step) (r : ValueRefusal) → AllZip (IsStepOf text) ts ss → ¬ RefusalOfSteps text ts r
no_step_refused text [] ss r h x = x
no_step_refused text (t ∷ ts) [] r h x = h
no_step_refused text (t ∷ ts) (s ∷ ss) r h (inl x) = x.none s h.0
no_step_refused text (t ∷ ts) (s ∷ ss) r h (inr x) = no_step_refused text ts ss r h.1 x

no_path_refused : (text : List ℕ) (t : PathTree) (p : Path) (r : ValueRefusal) → IsPathOf text t p → length p.steps ≤ MAX_STEPS → ¬ RefusalOfPath text t r
no_path_refused text t p r h short (inl x) = let e = AllZip-long (IsStepOf text) t.steps p.steps h.steps in let long = x.long in omega (arith, e)
no_path_refused text t p r h short (inr (inl x)) = x.none p.kind h.root
no_path_refused text t p r h short (inr (inr x)) = no_step_refused text t.steps p.steps r h.steps x

no_test_refused : (text : List ℕ) (t : TestTree) (u : Test) (r : ValueRefusal) → IsTestOf text t u → IsSoundTest u → ¬ RefusalOfTest text t r
no_test_refused text t u r h s (inl x) = no_path_refused text t.path u.path r h.path s.short x
no_test_refused text t u r h s (inr x) = x.none u.check h.asks

mutual
  no_leaf_refused : (text : List ℕ) (c : Comparison) (f : PlainLeaf) (r : ValueRefusal) → Means text c f → IsSoundLeaf f → ¬ RefusalOfComparison text c r
  no_leaf_refused text c f r (means_test {t = t} {u = u} m) s h = no_test_refused text t u r m s h
  no_leaf_refused text c f r (means_group {c = d} m) s h = no_leaf_refused text d f r m s h
  no_leaf_refused text c f r (means_all {c = d} {d = e} {fs = fs} p) s h = no_all_refused text (all d e) fs r s.0.0 p s.0.1 s.1 h
  no_leaf_refused text c f r (means_any {c = d} {d = e} {fs = fs} p) s h = no_any_refused text (any d e) fs r p s h

  no_all_refused : (text : List ℕ) (c : Comparison) (fs : PlainLeaves) (r : ValueRefusal) (root : List ℕ) → AllParts text c fs → AllHave fs root → AreSoundLeaves fs → ¬ RefusalOfComparison text c r
  no_all_refused text c fs r root (all_first {f = f} n m) a s h = no_leaf_refused text c f r m s.0 h
  no_all_refused text c fs r root (all_more {c = d} {d = e} {fs = gs} {f = f} p m) a s (inl h) = h.rootless root (both_have_root text d e gs f root p m a)
  no_all_refused text c fs r root (all_more {c = d} {d = e} {fs = gs} {f = f} p m) a s (inr (inl h)) = no_all_refused text d gs r root p (all_put gs f root a).0 (sound_put gs f s).0 h
  no_all_refused text c fs r root (all_more {c = d} {d = e} {fs = gs} {f = f} p m) a s (inr (inr h)) = no_leaf_refused text e f r m (sound_put gs f s).1 h

  no_any_refused : (text : List ℕ) (c : Comparison) (fs : PlainLeaves) (r : ValueRefusal) → AnyParts text c fs → AreSoundLeaves fs → ¬ RefusalOfComparison text c r
  no_any_refused text c fs r (any_first {f = f} n m) s h = no_leaf_refused text c f r m s.0 h
  no_any_refused text c fs r (any_more {c = d} {d = e} {fs = gs} {f = f} p m) s (inl h) = no_any_refused text d gs r p (sound_put gs f s).0 h
  no_any_refused text c fs r (any_more {c = d} {d = e} {fs = gs} {f = f} p m) s (inr h) = no_leaf_refused text e f r m (sound_put gs f s).1 h

pub none_is_refused : (text : List ℕ) (t : Tree) (m : PlainPattern) (r : ValueRefusal) → MeansPattern text t m → IsSoundPattern m → ¬ RefusalOf text t r
none_is_refused text t m r (means_leaf {c = c} {f = f} x) s h = no_leaf_refused text c f r x s h
none_is_refused text t m r (means_both {p = p} {q = q} {m = k} {n = n} x y) s (inl h) = none_is_refused text p k r x s.0 h
none_is_refused text t m r (means_both {p = p} {q = q} {m = k} {n = n} x y) s (inr h) = none_is_refused text q n r y s.1 h
none_is_refused text t m r (means_either {p = p} {q = q} {m = k} {n = n} x y) s (inl h) = none_is_refused text p k r x s.0 h
none_is_refused text t m r (means_either {p = p} {q = q} {m = k} {n = n} x y) s (inr h) = none_is_refused text q n r y s.1 h
none_is_refused text t m r (means_then {p = p} {q = q} {m = k} {n = n} x y) s (inl h) = none_is_refused text p k r x s.0 h
none_is_refused text t m r (means_then {p = p} {q = q} {m = k} {n = n} x y) s (inr h) = none_is_refused text q n r y s.1 h
none_is_refused text t m r (means_limited {p = p} {q = q} {m = k} {l = l} x y) s (inl h) = none_is_refused text p k r x s.0 h
none_is_refused text t m r (means_limited {p = p} {q = q} {m = k} {l = l} x y) s (inr h) = h.none l (record { means = y; sound = s.1 })
