-- For private clauses: two texts that are timestamps in ascending order.
use Rattle.std.specs.Prelude.{ℕ, ℤ, ◌<ℤ◌, List}
use Rattle.stix_objects.specs.declared.form.Precision.{Precision}
use Rattle.stix_objects.specs.Singles.{IsTimestampOf}

-- both are timestamps, and the first is earlier than the second
pub record AreInTurn (precision : Precision) (first second : List ℕ) : Type 0 where
  pub from : ℤ
  pub to : ℤ
  pub begins : IsTimestampOf precision first from
  pub ends : IsTimestampOf precision second to
  pub earlier : from <ℤ to
