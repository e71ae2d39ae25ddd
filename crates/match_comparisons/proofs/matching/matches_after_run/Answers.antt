use Rattle.std.proofs.Common.{◌∷◌, length, leb-true, arith, rules}
use Rattle.std.specs.Str.{chars}
use Rattle.match_comparisons.specs.Like.{any_run}
use Rattle.match_comparisons.proofs.CharactersLemmas.{lacks_within, too_long}
use Rattle.match_comparisons.proofs.SegmentsLemmas.{segment_between, no_segment_between}
use Rattle.match_comparisons.proofs.matching.matches_after_run.Goals as goal

pub returns-in_default-after_first_match : goal.returns-in_default-after_first_match
returns-in_default-after_first_match c =
    let same = c.loop-segment.invariant.2 in
    let split = c.in-Some.ensures.0 in
    let none = no_segment_between (chars c.loop-segment.text.now) (chars c.in-Some.segment.now) (any_run ∷ chars c.in-Some.rest.now) c.in_default-after_first_match.ensures in
    (λ yes. absurd (cc yes), λ like. absurd (none (rw split at (same.0 like))))

pub loop-segment-preserved : goal.loop-segment-preserved
loop-segment-preserved c =
    let same = c.loop-segment.invariant.2 in
    let split = c.in-Some.ensures.0 in
    let on = segment_between (chars c.loop-segment.text.now) (chars c.in-Some.segment.now) (chars c.in-Some.rest.now) (chars c.in-Some-after_first_match.left.now) c.in-Some-after_first_match.ensures in (
      search rules,
      search rules,
      (λ like. on.0 (rw split at (same.0 like)), λ like. same.1 (rw split (on.1 like))),
    )

pub has_end-requires : goal.has_end-requires
has_end-requires c =
    lacks_within c.loop-segment.pattern.now (length c.loop-segment.text.now) c.loop-segment.invariant.1 c.in_default.ensures c.if-pattern-text.true

pub returns-else-pattern-text : goal.returns-else-pattern-text
returns-else-pattern-text c =
    let same = c.loop-segment.invariant.2 in
    let none = too_long c.loop-segment.text.now c.loop-segment.pattern.now c.loop-segment.invariant.0 c.loop-segment.invariant.1 c.in_default.ensures c.if-pattern-text.false in
    (λ yes. absurd (omega (arith, leb-true _ _ yes, c.if-pattern-text.false)), λ like. absurd (none (same.0 like)))
