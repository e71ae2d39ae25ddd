use Rattle.std.proofs.Common.{◌++◌, sym, ◌∙◌, ap, append-nil}
use Rattle.match_pruning.specs.inner.Steps.{contents_of}
use Rattle.match_stream.specs.inner.Nodes.{node_state}
use Rattle.match_pruning.specs.inner.Numbers.{all_numbers}
use Rattle.match_stream.proofs.LeavesLemmas.{leaves_hold_nothing}
use Rattle.match_stream.proofs.row_numbers.+push_node.Goals as goal

pub returns-in-Leaves : goal.returns-in-Leaves
returns-in-Leaves t c =
    let leaves = c.in-Leaves.field-0 in let out = c.args.out.now.items in
    let none = ap (λ z. contents_of (node_state z)) c.in-Leaves.is ∙ leaves_hold_nothing leaves.first leaves.more leaves.window in
    sym (append-nil out) ∙ sym (ap (λ z. out ++ all_numbers z) none)
