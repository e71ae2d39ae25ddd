use Rattle.std.proofs.Common.{rules, ℕ, subst, bit_and, ◌∙◌}
use Rattle.std.specs.Str.{chars}
use Rattle.match_comparisons.specs.Like.{any_run}
use Rattle.match_comparisons.specs.inner.Places.{KeepsPlaces}
use Rattle.match_comparisons.proofs.SegmentsLemmas.{lacks_head, lacks_tail}
use Rattle.match_comparisons.proofs.PlacesLemmas.{reached_first, keeps_both, reached_next, mark_ahead}
use Rattle.match_comparisons.proofs.places.candidates.Goals as goal

pub loop-expected-init : goal.loop-expected-init
loop-expected-init c = (
  search rules,
  search rules,
  c.requires,
  reached_first (chars c.args.whole_text.now) (chars c.args.whole_segment.now) c.window_of.result.0 (chars c.window_of.result.1.now) c.window_of.ensures.marks c.window_of.ensures.rest,
)

pub returns-then-places-eq0 : goal.returns-then-places-eq0
returns-then-places-eq0 c =
    let whole = chars c.args.whole_text.now in
    let segment = chars c.args.whole_segment.now in
    let no_run = lacks_head any_run c.in-Some.expected _ (chars c.in-Some.after.now) c.in-Some.ensures c.loop-expected.invariant.2 in
    let keeps = keeps_both whole segment c.loop-expected.window (chars c.loop-expected.text.now) (chars c.loop-expected.segment.now) (chars c.in-Some.after.now) c.in-Some.expected c.loop-expected.at c.loop-expected.places c.equal_places-places.result c.loop-expected.invariant.3 c.in-Some.ensures no_run c.equal_places-places.ensures in
    subst (λ (places : ℕ). KeepsPlaces whole segment places) c.if-places-eq0.true keeps

pub loop-expected-preserved : goal.loop-expected-preserved
loop-expected-preserved c =
    let whole = chars c.args.whole_text.now in
    let segment = chars c.args.whole_segment.now in
    let text = chars c.loop-expected.text.now in
    let part = chars c.loop-expected.segment.now in
    let after = chars c.in-Some.after.now in
    let reached = c.loop-expected.invariant.3 in
    let no_run = lacks_head any_run c.in-Some.expected _ after c.in-Some.ensures c.loop-expected.invariant.2 in
    let keeps = keeps_both whole segment c.loop-expected.window text part after c.in-Some.expected c.loop-expected.at c.loop-expected.places c.equal_places-places.result reached c.in-Some.ensures no_run c.equal_places-places.ensures in (
      search rules,
      search rules,
      lacks_tail any_run c.in-Some.expected _ after c.in-Some.ensures c.loop-expected.invariant.2,
      reached_next whole segment c.loop-expected.window text part after c.advance-at.new.window (chars c.next_mark-mark.result.1.now) c.in-Some.expected c.loop-expected.at c.loop-expected.places c.advance-at.result (bit_and c.loop-expected.places c.equal_places-places.result) reached c.in-Some.ensures no_run keeps
          (λ here shows is. c.advance-at.ensures here shows (c.next_mark-mark.ensures.mark ∙ mark_ahead here text is)) c.next_mark-mark.ensures.rest,
    )

pub returns : goal.returns
returns c = c.loop-expected.invariant.3.keeps
