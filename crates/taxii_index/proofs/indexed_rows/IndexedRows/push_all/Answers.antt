use Rattle.std.proofs.Common.{◌∙◌, ap, ◌++◌}
use Rattle.taxii_index.proofs.GrowthLemmas.{next_later}
use Rattle.taxii_index.proofs.indexed_rows.IndexedRows.push_all.Goals as goal

pub push-requires : goal.push-requires
push-requires c =
    let so_far = c.loop-row.yielded in
    let all = c.loop-row.invariant.0 ∙ ap (λ rest. so_far ++ rest) c.in-Some.ensures.steps.0 in record {
      later = next_later c.args.self.now so_far c.next.new.self.rest.items c.in-Some.row c.args.rows.items c.loop-row.self c.requires.later all c.loop-row.invariant.1;
    }
