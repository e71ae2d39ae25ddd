use Rattle.std.proofs.Common.{rules}
use Rattle.std.specs.Str.{chars}
use Rattle.match_comparisons.specs.Like.{any_run}
use Rattle.match_comparisons.proofs.IsLikeLemmas.{Meets}
use Rattle.match_comparisons.proofs.SegmentsLemmas.{lacks_head, lacks_tail, front_done, front_step, front_differs, front_ends}
use Rattle.match_comparisons.proofs.segment.strip_front.Goals as goal
use Rattle.match_comparisons.proofs.segment.strip_front.Goals.{else-expected-ne-ANY_ONE-via-then-expected-ne-ANY_ONE+else-expected-found, else-expected-ne-ANY_ONE-via-else-expected-ne-ANY_ONE}

pub returns-in_err-found : goal.returns-in_err-found
returns-in_err-found c =
    let same = c.loop-expected.invariant.3 in
    let no_run = lacks_head any_run c.in-Some.expected _ (chars c.in-Some.after.now) c.in-Some.ensures c.loop-expected.invariant.2 in
    rw c.from_residual.ensures (λ left leaves. front_ends c.in-Some.expected (chars c.loop-expected.text.now) (chars c.loop-expected.segment.now) (chars c.in-Some.after.now) left c.in_err-found.ensures c.in-Some.ensures no_run ((same left).0 leaves))

pub returns-then-expected-found : goal.returns-then-expected-found
returns-then-expected-found c left leaves =
    let same = c.loop-expected.invariant.3 in
    let no_run = lacks_head any_run c.in-Some.expected _ (chars c.in-Some.after.now) c.in-Some.ensures c.loop-expected.invariant.2 in
    front_differs c.in_ok-found.found c.in-Some.expected (chars c.loop-expected.text.now) (chars c.loop-expected.segment.now) (chars c.in_ok-found.rest.now) (chars c.in-Some.after.now) left c.in_ok-found.ensures c.in-Some.ensures no_run c.if-expected-ne-ANY_ONE.true c.if-expected-found.true ((same left).0 leaves)

pub loop-expected-preserved : goal.loop-expected-preserved
loop-expected-preserved c =
    let same = c.loop-expected.invariant.3 in
    let meets : Meets c.in-Some.expected c.in_ok-found.found = record {
      no_run = lacks_head any_run c.in-Some.expected _ (chars c.in-Some.after.now) c.in-Some.ensures c.loop-expected.invariant.2;
      itself = elim c.else-expected-ne-ANY_ONE.branch [
        | else-expected-ne-ANY_ONE-via-then-expected-ne-ANY_ONE+else-expected-found w ↦ λ _. w.if-expected-found.false
        | else-expected-ne-ANY_ONE-via-else-expected-ne-ANY_ONE w ↦ λ not_one. absurd (not_one w.if-expected-ne-ANY_ONE.false)
      ];
    } in (
      search rules,
      search rules,
      lacks_tail any_run c.in-Some.expected _ (chars c.in-Some.after.now) c.in-Some.ensures c.loop-expected.invariant.2,
      λ left.
          let step = front_step c.in_ok-found.found c.in-Some.expected (chars c.loop-expected.text.now) (chars c.loop-expected.segment.now) _ _ left c.in_ok-found.ensures c.in-Some.ensures meets in
          (λ leaves. step.0 ((same left).0 leaves), λ leaves. (same left).1 (step.1 leaves)),
    )

pub returns : goal.returns
returns c =
    let text = chars c.loop-expected.text.now in
    (c.loop-expected.invariant.3 text).1 (front_done text (chars c.loop-expected.segment.now) c.in_default.ensures)
