use Rattle.std.proofs.Common.{length, refl}
use Rattle.std.proofs.lemmas.Option.{slice_get_read}
use Rattle.hunt_index.proofs.FinderLemmas.{kinds_next}
use Rattle.hunt_index.proofs.finder.kinds_of.Goals as goal

pub loop-number-preserved : goal.loop-number-preserved
loop-number-preserved c =
    let paths = c.args.paths.now in
    let i = c.loop-number.number in
    let path = c.index-paths-number.result in
    let there = slice_get_read paths (length paths) i path refl c.loop-number-test.true c.index-paths-number.is in
    kinds_next paths i path c.loop-number.kinds.items c.push.new.self.items there c.in_ok-push.ensures.items c.loop-number.invariant
