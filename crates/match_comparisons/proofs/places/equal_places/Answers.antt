use Rattle.std.proofs.Common.{arith, get_or, ◌+◌}
use Rattle.match_comparisons.proofs.PlacesLemmas.{is_mark}
use Rattle.match_comparisons.proofs.places.equal_places.Goals as goal

pub returns-then-expected-eq-ANY_ONE : goal.returns-then-expected-eq-ANY_ONE
returns-then-expected-eq-ANY_ONE c i below none fits =
    fits.present (is_mark c.equal_lanes.result i (get_or c.args.window.now (c.args.at + i) 0) (omega arith) below (c.equal_lanes.ensures i below) none)
