use Rattle.std.proofs.Common.{rules, ap, ◌≡◌}
use Rattle.std.specs.Ordering.{is_lt}
use Rattle.std.proofs.lemmas.Fn.{always_returns_same}
use Rattle.std.proofs.lemmas.List.Sorted.{ranks_by}
use Rattle.hunt_index.proofs.table.Table.new.Goals as goal

pub invariant_of-result : goal.invariant_of-result
invariant_of-result g c =
    let cmp = g.K.Ord.cmp in
    record {
      sorted = c.sort_unstable_by.ensures.sorted (λ x y. is_lt (cmp x.0 y.0)) (ranks_by g.met.K.Ord.total (λ (entry : g.row.K.Denot × g.row.V.Denot). entry.0))
          (always_returns_same _ (λ a r. is_lt r ≡ is_lt (cmp a.0.now.0 a.1.0.now.0)) _
          (λ a r q k. let h : (r ≡ cmp a.0.now.0 a.1.0.now.0) × (q ≡ _) = search rules in (ap is_lt h.0, h.1)));
    }
