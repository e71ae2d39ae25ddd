use Rattle.std.proofs.Common.{rules}
use Rattle.std.specs.Str.{chars}
use Rattle.match_comparisons.proofs.PlacesLemmas.{drop_more}
use Rattle.match_comparisons.proofs.places.skip.Goals as goal

pub loop-i-preserved : goal.loop-i-preserved
loop-i-preserved c = (
  search rules,
  drop_more c.loop-i.i (chars c.args.whole_text.now) (chars c.loop-i.text.now) (chars c.next_mark.result.1.now) c.loop-i.invariant.1 c.next_mark.ensures.rest,
)
