use Rattle.std.proofs.Common.{rules, refl, ℕ}
use Rattle.std.specs.Str.{chars}
use Rattle.std.proofs.lemmas.Simd.{length-replicate}
use Rattle.match_comparisons.proofs.PlacesLemmas.{drop_more, long_written, filled_none, filled_more}
use Rattle.match_comparisons.proofs.places.window_of.Goals as goal

pub loop-at-init : goal.loop-at-init
loop-at-init c = (search rules, length-replicate {A = ℕ} 128 0, refl, filled_none _ _)

pub loop-at-preserved : goal.loop-at-preserved
loop-at-preserved c =
    let whole = chars c.args.whole_text.now in
    let text = chars c.loop-at.text.now in
    let before = c.loop-at.invariant in (
      search rules,
      long_written c.loop-at.window c.loop-at.at c.next_mark-mark.result.0 before.1,
      drop_more c.loop-at.at whole text (chars c.next_mark-mark.result.1.now) before.2 c.next_mark-mark.ensures.rest,
      filled_more c.loop-at.window whole text c.loop-at.at c.next_mark-mark.result.0 before.1 c.loop-at-test.true before.2 c.next_mark-mark.ensures.mark before.3,
    )
