-- Paths, step by step.
use Rattle.std.proofs.Common.{◌≡◌, ◌≤◌, ◌⊎◌, inl, inr, ℕ, ◌+◌, List, [], ◌∷◌, ◌++◌, length, take, Option, Result, sym, subst, arith}
use Rattle.std.specs.Option.{ok_or}
use Rattle.flow_values.specs.Answers.{FindsExactly}
use Rattle.pattern_lexer.specs.Spans.{At, IsItself}
use Rattle.pattern_grammar.specs.declared.path.StepTree.{StepTree}
use Rattle.pattern_grammar.specs.declared.path.PathTree.{PathTree}
use Rattle.pattern_types.specs.declared.path.Step.{Step}
use Rattle.pattern_types.specs.declared.path.TheConstants.{MAX_STEPS}
use Rattle.pattern_reader.specs.declared.value_refusal.ValueRefusal.{ValueRefusal}
use Rattle.pattern_reader.specs.declared.value_refusal.ValueRefusal.TheVariants.{NoValue}
use Rattle.pattern_reader.specs.Meaning.{IsStepOf, IsPathOf}
use Rattle.std.specs.List.{AllZip}
use Rattle.pattern_reader.specs.Refusals.{Lacks, IsLongPath, step_refusal, RefusalOfSteps, RefusalOfPath}
use Rattle.pattern_reader.specs.inner.Analysis.{IsOutcome}
use Rattle.pattern_reader.specs.inner.Analysis.{IsJoined}
use Rattle.std.proofs.lemmas.Slice.Zip.{all_zipped_more, AllZip-long}
use Rattle.pattern_reader.proofs.OutcomeLemmas.{found_outcome, outcome_same, joined_outcome}

-- what the first steps of a path mean, and what is refused in them
abbrev pub AreSteps : List ℕ → PathTree → List StepTree → List Step → Type 0
AreSteps text path part steps = AllZip (IsStepOf text) part steps × (length path.steps ≤ MAX_STEPS)

abbrev pub RefusalUpTo : List ℕ → PathTree → List StepTree → ValueRefusal → Type 0
RefusalUpTo text path part refusal = IsLongPath path refusal ⊎ RefusalOfSteps text part refusal

pub no_steps_yet : (text : List ℕ) (path : PathTree) (a : Result (List Step) ValueRefusal) → IsOutcome (λ steps. (steps ≡ []) × (length path.steps ≤ MAX_STEPS)) (IsLongPath path) a → IsOutcome (AreSteps text path []) (RefusalUpTo text path []) a
no_steps_yet text path a o = outcome_same (λ steps. (steps ≡ []) × (length path.steps ≤ MAX_STEPS)) (AreSteps text path []) (IsLongPath path) (RefusalUpTo text path []) a (λ steps h. (subst (AllZip (IsStepOf text) []) (sym h.0) tt, h.1)) (λ r h. inl h) (λ r h. elim h [ inl x ↦ x | inr y ↦ absurd y ]) o

-- one step more
steps_split : (text : List ℕ) (xs : List StepTree) (x : StepTree) (r : ValueRefusal) → RefusalOfSteps text (xs ++ x ∷ []) r → RefusalOfSteps text xs r ⊎ Lacks (IsStepOf text x) (step_refusal x) r
steps_split text [] x r (inl h) = inr h
steps_split text [] x r (inr h) = absurd h
steps_split text (y ∷ ys) x r (inl h) = inl (inl h)
steps_split text (y ∷ ys) x r (inr h) = elim (steps_split text ys x r h) [ inl g ↦ inl (inr g) | inr g ↦ inr g ]

steps_join : (text : List ℕ) (xs : List StepTree) (x : StepTree) (r : ValueRefusal) → RefusalOfSteps text xs r ⊎ Lacks (IsStepOf text x) (step_refusal x) r → RefusalOfSteps text (xs ++ x ∷ []) r
steps_join text [] x r (inl h) = absurd h
steps_join text [] x r (inr h) = inl h
steps_join text (y ∷ ys) x r (inl (inl h)) = inl h
steps_join text (y ∷ ys) x r (inl (inr h)) = inr (steps_join text ys x r (inl h))
steps_join text (y ∷ ys) x r (inr h) = inr (steps_join text ys x r (inr h))

pub steps_more : (text : List ℕ) (path : PathTree) (xs : List StepTree) (i : ℕ) (x : StepTree) (a : Result (List Step) ValueRefusal) (next : Option Step) (b : Result (List Step) ValueRefusal) → take (i + 1) xs ≡ take i xs ++ x ∷ [] → IsOutcome (AreSteps text path (take i xs)) (RefusalUpTo text path (take i xs)) a → FindsExactly (IsStepOf text x) next → IsJoined (λ ss s. ss ++ s ∷ []) a (ok_or next (step_refusal x)) b → IsOutcome (AreSteps text path (take (i + 1) xs)) (RefusalUpTo text path (take (i + 1) xs)) b
steps_more text path xs i x a next b e o f j = rw e (outcome_same (AreSteps text path (take i xs ++ x ∷ [])) (AreSteps text path (take i xs ++ x ∷ [])) (λ r. RefusalUpTo text path (take i xs) r ⊎ Lacks (IsStepOf text x) (step_refusal x) r) (RefusalUpTo text path (take i xs ++ x ∷ [])) b (λ s h. h) more less both)
  where
    more : (r : ValueRefusal) → RefusalUpTo text path (take i xs) r ⊎ Lacks (IsStepOf text x) (step_refusal x) r → RefusalUpTo text path (take i xs ++ x ∷ []) r
    more r (inl (inl h)) = inl h
    more r (inl (inr h)) = inr (steps_join text (take i xs) x r (inl h))
    more r (inr h) = inr (steps_join text (take i xs) x r (inr h))

    less : (r : ValueRefusal) → RefusalUpTo text path (take i xs ++ x ∷ []) r → RefusalUpTo text path (take i xs) r ⊎ Lacks (IsStepOf text x) (step_refusal x) r
    less r (inl h) = inl (inl h)
    less r (inr h) = elim (steps_split text (take i xs) x r h) [ inl g ↦ inl (inr g) | inr g ↦ inr g ]

    both : IsOutcome (AreSteps text path (take i xs ++ x ∷ [])) (λ r. RefusalUpTo text path (take i xs) r ⊎ Lacks (IsStepOf text x) (step_refusal x) r) b
    both = joined_outcome (λ ss s. ss ++ s ∷ []) (AreSteps text path (take i xs)) (IsStepOf text x) (AreSteps text path (take i xs ++ x ∷ [])) (RefusalUpTo text path (take i xs)) (Lacks (IsStepOf text x) (step_refusal x)) a (ok_or next (step_refusal x)) b (λ ss s h k. (all_zipped_more (IsStepOf text) (take i xs) ss x s h.0 k, h.1)) j o (found_outcome (IsStepOf text x) (step_refusal x) next f)

-- the whole path
pub path_outcome : (text : List ℕ) (path : PathTree) (a : Result (List ℕ) ValueRefusal) (b : Result (List Step) ValueRefusal) (c : Result (List ℕ × List Step) ValueRefusal) → IsOutcome (At IsItself text path.root) (Lacks (At IsItself text path.root) (NoValue path.root.from)) a → IsOutcome (AreSteps text path path.steps) (RefusalUpTo text path path.steps) b → IsJoined (λ x y. (x, y)) a b c → IsOutcome (λ p. IsPathOf text path (record { kind = p.0; steps = p.1 }) × (length p.1 ≤ MAX_STEPS)) (RefusalOfPath text path) c
path_outcome text path a b c o u j = outcome_same IsPair IsPair (λ r. Rootless r ⊎ RefusalUpTo text path path.steps r) (RefusalOfPath text path) c (λ p h. h) (λ r h. more r h) (λ r h. less r h) (joined_outcome (λ x y. (x, y)) (At IsItself text path.root) (AreSteps text path path.steps) IsPair Rootless (RefusalUpTo text path path.steps) a b c pair j o u)
  where
    Rootless : ValueRefusal → Type 0
    Rootless = Lacks (At IsItself text path.root) (NoValue path.root.from)

    IsPair : List ℕ × List Step → Type 0
    IsPair = λ p. IsPathOf text path (record { kind = p.0; steps = p.1 }) × (length p.1 ≤ MAX_STEPS)

    pair : (x : List ℕ) (y : List Step) → At IsItself text path.root x → AreSteps text path path.steps y → IsPair (x, y)
    pair x y h k = (record { root = h; steps = k.0 }, let e = AllZip-long (IsStepOf text) path.steps y k.0 in let short = k.1 in omega (arith, e))

    more : (r : ValueRefusal) → Rootless r ⊎ RefusalUpTo text path path.steps r → RefusalOfPath text path r
    more r (inl h) = inr (inl h)
    more r (inr (inl h)) = inl h
    more r (inr (inr h)) = inr (inr h)

    less : (r : ValueRefusal) → RefusalOfPath text path r → Rootless r ⊎ RefusalUpTo text path path.steps r
    less r (inl h) = inr (inl h)
    less r (inr (inl h)) = inl h
    less r (inr (inr h)) = inr (inr h)
