-- A row at the end keeps the order.
use Rattle.std.proofs.Common.{List, sym, subst}
use Rattle.match_bindings.specs.declared.log_entry.LogEntry.{LogEntry}
use Rattle.match_bindings.specs.Log.{IsInOrder, LastIsBy}
use Rattle.match_bindings.proofs.LogLemmas.{in_order_more}
use Rattle.match_bindings.proofs.log.Log.push.Goals as goal

pub invariant_of-self-2 : goal.invariant_of-self-2
invariant_of-self-2 c =
    let order = subst (λ (log : List LogEntry). LastIsBy log c.args.last) (sym c.self.view_is) c.requires.order in
    subst (λ (log : List LogEntry). IsInOrder log) (sym c.in_ok-push.ensures.items)
    (in_order_more c.self.inside.rows.items _ c.self.invariant c.requires.span order)
