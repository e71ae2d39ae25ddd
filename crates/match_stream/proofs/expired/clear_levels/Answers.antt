use Rattle.match_stream.specs.inner.Nodes.{store_lists}
use Rattle.match_stream.proofs.ArrangedLemmas.{levels_cleared}
use Rattle.match_stream.proofs.expired.clear_levels.Goals as goal

pub returns-clause-same : goal.returns-clause-same
returns-clause-same c =
    let levels = c.args.levels.now in
    levels_cleared levels.window c.args.now levels.count (store_lists levels.stores.items) (store_lists c.clear_stores.new.stores.items) c.clear_stores.ensures.same
