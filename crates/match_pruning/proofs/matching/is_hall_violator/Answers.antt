-- No more picks than numbers.
use Rattle.std.proofs.Common.{◌<◌, arith}
use Rattle.std.proofs.lemmas.Bool.{ltb-true}
use Rattle.match_pruning.proofs.PicksLemmas.{at_most}
use Rattle.match_pruning.proofs.matching.is_hall_violator.Goals as goal

pub returns : goal.returns
returns c = λ few x h.
    let most = at_most c.in_ok-count.count c.push_tried.new.numbers.items c.sort_dedup.new.numbers.items h.picks (c.in_ok-count.ensures.picked x h.picks h.differ h.each) c.sort_dedup.ensures in
    let less : c.len.result < c.in_ok-count.count = ltb-true c.len.result c.in_ok-count.count few in
    omega (arith, most, less, c.len.ensures)
