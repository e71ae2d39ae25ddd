-- By what lies where the sequences begin; else by what begins before.
use Rattle.std.proofs.Common.{◌≡◌, ◌≤ℤ◌, ℤ, refl, sym, ◌∙◌, ap, subst}
use Rattle.std.specs.Prelude.{Bool, true, false, Option, Some, None, unwrap_or}
use Rattle.std.proofs.lemmas.Bool.{and_parts}
use Rattle.match_pruning.specs.inner.PartialMatches.{partial_match_tree}
use Rattle.match_pruning.proofs.CompletionBoundLemmas.{join_precedes, at_same, stays, begins_before}
use Rattle.match_pruning.proofs.completion_bound.CompletionBound.take.Goals as goal

clash : (b : Bool) → b ≡ false → b ≡ true → ⊥
clash b is not = let e : false ≡ true = sym is ∙ not in absurd (cc)

none_is : (n : ℤ) (r : Option ℤ) → r ≡ Some n → r ≡ None → ⊥
none_is n r one none = let e : Some n ≡ None = sym one ∙ none in absurd (cc)

pub returns-then-branch : goal.returns-then-branch
returns-then-branch c = λ greedy_completion left h there may.
    let p = partial_match_tree c.args.partial_match.now in let old = c.args.self.now in (
      refl,
      stays p old c.record_candidates.new.self greedy_completion left c.args.store.now.held.items h there may c.in_ok-record_candidates.ensures.earliest (λ e picks.
          (c.in_ok-record_candidates.ensures.noted left greedy_completion.tree there (join_precedes p old greedy_completion left h may) e (and_parts _ _ may).1 picks).1),
    )

pub returns-in_ok-lower_to-in-Some : goal.returns-in_ok-lower_to-in-Some
returns-in_ok-lower_to-in-Some c = λ greedy_completion left h there may.
    let p = partial_match_tree c.args.partial_match.now in let old = c.args.self.now in let precedes = join_precedes p old greedy_completion left h may in
    let before = begins_before p old greedy_completion left c.args.store.now.held.items h there may (λ e.
    clash c.in_ok-record_candidates.field-0 c.if-branch.false
    (c.in_ok-record_candidates.ensures.noted left greedy_completion.tree there precedes e (and_parts _ _ may).1 (at_same p old greedy_completion left c.args.store.now.held.items h there may e)).0) in
    let found = c.latest_before.ensures left there precedes before in
    let time : found.0 ≡ c.in-Some.earliest = ap (λ (o : Option ℤ). unwrap_or o found.0) (sym found.1 ∙ c.in-Some.is) in
    (refl, c.in_ok-lower_to-in-Some.ensures old greedy_completion left (sym c.in_ok-record_candidates.ensures.earliest) h there may (subst (λ (t : ℤ). left.earliest ≤ℤ t) time found.2))

pub returns-in-None : goal.returns-in-None
returns-in-None c = λ greedy_completion left h there may.
    let p = partial_match_tree c.args.partial_match.now in let old = c.args.self.now in let precedes = join_precedes p old greedy_completion left h may in
    let before = begins_before p old greedy_completion left c.args.store.now.held.items h there may (λ e.
    clash c.in_ok-record_candidates.field-0 c.if-branch.false
    (c.in_ok-record_candidates.ensures.noted left greedy_completion.tree there precedes e (and_parts _ _ may).1 (at_same p old greedy_completion left c.args.store.now.held.items h there may e)).0) in
    let found = c.latest_before.ensures left there precedes before in
    absurd (none_is found.0 c.latest_before.result found.1 c.in-None.is)
