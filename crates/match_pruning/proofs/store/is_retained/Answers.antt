use Rattle.match_pruning.proofs.RetainsLemmas.{not_expired}
use Rattle.match_pruning.proofs.store.is_retained.Goals as goal

pub returns : goal.returns
returns c = not_expired c.args.window.now c.args.earliest c.args.now c.expired.result c.expired.ensures
