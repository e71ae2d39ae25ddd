use Rattle.std.proofs.Common.{[], ◌∷◌, length, leb-true, arith}
use Rattle.std.specs.Str.{chars}
use Rattle.match_comparisons.specs.Like.{any_run}
use Rattle.match_comparisons.proofs.CharactersLemmas.{lacks_within, too_long}
use Rattle.match_comparisons.proofs.IsLikeLemmas.{run_takes}
use Rattle.match_comparisons.proofs.SegmentsLemmas.{first_segment, no_first_segment}
use Rattle.match_comparisons.proofs.matching.like.Goals as goal

pub is_like_segment-requires : goal.is_like_segment-requires
is_like_segment-requires c =
    lacks_within c.args.pattern.now (length c.args.text.now) c.utf8.pattern c.in-None.ensures c.if-pattern-text.true

pub returns-in-Some-strip_front : goal.returns-in-Some-strip_front
returns-in-Some-strip_front c =
    let split = c.in-Some.ensures.0 in
    let on = first_segment (chars c.args.text.now) (chars c.in-Some.segment.now) (chars c.in-Some.rest.now) (chars c.in-Some-strip_front.left.now) c.in-Some.ensures.1 c.in-Some-strip_front.ensures in
    (λ yes. rw split (on.1 (c.matches_after_run.ensures.0 yes)), λ like. c.matches_after_run.ensures.1 (on.0 (rw split at like)))

pub returns-in-None-strip_front : goal.returns-in-None-strip_front
returns-in-None-strip_front c =
    let split = c.in-Some.ensures.0 in
    let none = no_first_segment (chars c.args.text.now) (chars c.in-Some.segment.now) (any_run ∷ chars c.in-Some.rest.now) c.in-None-strip_front.ensures in
    (λ yes. absurd (cc yes), λ like. absurd (none (rw split at like)))

pub returns-else-pattern-text : goal.returns-else-pattern-text
returns-else-pattern-text c =
    let none = too_long c.args.text.now c.args.pattern.now c.utf8.text c.utf8.pattern c.in-None.ensures c.if-pattern-text.false in (
      λ yes. absurd (omega (arith, leb-true _ _ yes, c.if-pattern-text.false)),
      λ like. absurd (none (run_takes [] (chars c.args.text.now) (chars c.args.pattern.now) like)),
    )
