use Rattle.std.proofs.Common.{sym, ap, subst}
use Rattle.match_pruning.specs.inner.Steps.{State, expired}
use Rattle.match_stream.specs.inner.Nodes.{node_state}
use Rattle.match_pruning.specs.inner.UpToOrder.{IsSameUpToOrder}
use Rattle.match_stream.proofs.LeavesLemmas.{leaves_arranged}
use Rattle.match_stream.proofs.expired.+clear.Goals as goal

pub returns-in-Leaves : goal.returns-in-Leaves
returns-in-Leaves t c =
    let leaves = c.in-Leaves.field-0 in
    subst (λ (z : State). IsSameUpToOrder (expired c.args.now z) z) (sym (ap node_state c.in-Leaves.is)) (leaves_arranged c.args.now leaves.first leaves.more leaves.window)
