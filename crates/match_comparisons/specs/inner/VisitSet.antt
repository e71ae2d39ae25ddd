-- For private clauses: visits of a search to referenced objects.
use Rattle.std.specs.Prelude.{ℕ, IsTrue}
use Rattle.std.specs.BTreeSet.{contains}
use Rattle.std.specs.Ordering.{nat_cmp, ordering_then}
use Rattle.match_comparisons.specs.declared.visit_set.VisitSet.{VisitSet}

-- the object at the position was visited with `left` steps left
abbrev pub HasVisit : VisitSet → ℕ → ℕ → Type 0
HasVisit visit_set left at =
    IsTrue (contains (λ (x y : ℕ × ℕ). ordering_then (nat_cmp x.0 y.0) (nat_cmp x.1 y.1)) visit_set.pairs (left, at))
