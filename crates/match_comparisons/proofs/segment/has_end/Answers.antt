use Rattle.std.proofs.Common.{[], ◌∷◌, refl, rules}
use Rattle.std.specs.Str.{chars}
use Rattle.match_comparisons.specs.Like.{any_run}
use Rattle.match_comparisons.proofs.IsLikeLemmas.{Meets}
use Rattle.match_comparisons.proofs.SegmentsLemmas.{lacks_last, lacks_front, end_done, end_step, end_differs, end_short}
use Rattle.match_comparisons.proofs.segment.has_end.Goals as goal
use Rattle.match_comparisons.proofs.segment.has_end.Goals.{else-expected-ne-ANY_ONE-via-then-expected-ne-ANY_ONE+else-expected-found, else-expected-ne-ANY_ONE-via-else-expected-ne-ANY_ONE}

pub returns-in_default-split_last : goal.returns-in_default-split_last
returns-in_default-split_last c =
    let same = c.loop-before.invariant.3 in
    let no_run = lacks_last any_run c.in-Some.expected _ (chars c.in-Some.before.now) c.in-Some.ensures c.loop-before.invariant.2 in
    let none = end_short c.in-Some.expected (chars c.loop-before.text.now) (chars c.loop-before.segment.now) (chars c.in-Some.before.now) c.in_default-split_last.ensures c.in-Some.ensures no_run in
    (λ yes. absurd (cc yes), λ like. absurd (none (same.0 like)))

pub returns-then-expected-found : goal.returns-then-expected-found
returns-then-expected-found c =
    let same = c.loop-before.invariant.3 in
    let no_run = lacks_last any_run c.in-Some.expected _ (chars c.in-Some.before.now) c.in-Some.ensures c.loop-before.invariant.2 in
    let none = end_differs c.in-Some-split_last.found c.in-Some.expected (chars c.loop-before.text.now) (chars c.loop-before.segment.now) (chars c.in-Some-split_last.rest.now) (chars c.in-Some.before.now) c.in-Some-split_last.ensures c.in-Some.ensures no_run c.if-expected-ne-ANY_ONE.true c.if-expected-found.true in
    (λ yes. absurd (cc yes), λ like. absurd (none (same.0 like)))

pub loop-before-preserved : goal.loop-before-preserved
loop-before-preserved c =
    let same = c.loop-before.invariant.3 in
    let meets : Meets c.in-Some.expected c.in-Some-split_last.found = record {
      no_run = lacks_last any_run c.in-Some.expected _ (chars c.in-Some.before.now) c.in-Some.ensures c.loop-before.invariant.2;
      itself = elim c.else-expected-ne-ANY_ONE.branch [
        | else-expected-ne-ANY_ONE-via-then-expected-ne-ANY_ONE+else-expected-found w ↦ λ _. w.if-expected-found.false
        | else-expected-ne-ANY_ONE-via-else-expected-ne-ANY_ONE w ↦ λ not_one. absurd (not_one w.if-expected-ne-ANY_ONE.false)
      ];
    } in
    let step = end_step c.in-Some-split_last.found c.in-Some.expected (chars c.loop-before.text.now) (chars c.loop-before.segment.now) _ _ c.in-Some-split_last.ensures c.in-Some.ensures meets in (
      search rules,
      search rules,
      lacks_front any_run _ _ (c.in-Some.expected ∷ []) c.in-Some.ensures c.loop-before.invariant.2,
      (λ like. step.0 (same.0 like), λ like. same.1 (step.1 like)),
    )

pub returns : goal.returns
returns c =
    let same = c.loop-before.invariant.3 in
    (λ _. same.1 (end_done (chars c.loop-before.text.now) (chars c.loop-before.segment.now) c.in_default.ensures), λ _. refl)
