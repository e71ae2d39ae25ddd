-- For private clauses: the invariant of a hunter.
use Rattle.std.specs.Prelude.{◌≡◌, length}
use Rattle.hunt_report.specs.declared.hunter.Hunter.TheInside.{Inside}
use Rattle.hunt_report.specs.inner.Noting.{AreSummariesInOrder}

-- it has a summary for each indicator, in order of time
pub record IsBuiltHunter (hunter : Inside) : Type 0 where
  pub count : length hunter.hit_summaries.items ≡ length hunter.hunted.now
  pub order : AreSummariesInOrder hunter.hit_summaries.items
