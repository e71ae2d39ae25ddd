use Rattle.std.proofs.Common.{rules, length, arith, ap}
use Rattle.std.specs.Str.{chars}
use Rattle.match_comparisons.proofs.SegmentsLemmas.{first_place, later_place, no_place, places_same}
use Rattle.match_comparisons.proofs.PlacesLemmas.{same_on}
use Rattle.match_comparisons.proofs.segment.scan_first_match.Goals as goal

pub returns-in-Some : goal.returns-in-Some
returns-in-Some c =
    let whole = chars c.args.whole_text.now in
    let text = chars c.skip_misses-text.result.now in
    let segment = chars c.args.segment.now in
    let left = chars c.in-Some.left.now in
    let same = same_on whole (chars c.loop-left.text.now) text segment c.loop-left.invariant.1 c.skip_misses-text.ensures.same in
    places_same whole text segment left same (first_place text segment left c.requires c.in-Some.ensures)

pub returns-in_err-rest : goal.returns-in_err-rest
returns-in_err-rest c =
    let text = chars c.skip_misses-text.result.now in
    let segment = chars c.args.segment.now in
    let same = same_on (chars c.args.whole_text.now) (chars c.loop-left.text.now) text segment c.loop-left.invariant.1 c.skip_misses-text.ensures.same in
    rw c.from_residual.ensures (λ left leaves. no_place text segment left c.in_err-rest.ensures (c.in_default.ensures left) ((same left).0 leaves))

pub loop-left-preserved : goal.loop-left-preserved
loop-left-preserved c =
    let whole = chars c.args.whole_text.now in
    let text = chars c.skip_misses-text.result.now in
    let segment = chars c.args.segment.now in
    let same = same_on whole (chars c.loop-left.text.now) text segment c.loop-left.invariant.1 c.skip_misses-text.ensures.same in
    (search rules, same_on whole text _ segment same (λ left. later_place c.in_ok-rest.field-0-0 text segment _ left c.in_ok-rest.ensures (c.in_default.ensures left)))

pub loop-left-smaller : goal.loop-left-smaller
loop-left-smaller c = omega (arith, c.skip_misses-text.ensures.within, ap length c.in_ok-rest.ensures)
