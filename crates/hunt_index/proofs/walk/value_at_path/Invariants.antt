use Rattle.std.proofs.Common.{None, drop}
use Rattle.serde_json.specs.Data.{Data}
use Rattle.stix_json.specs.DataOf.{data_of}
use Rattle.stix_json.specs.Ordered.{IsOrdered}
use Rattle.stix_bundles.specs.Objects.{data_in}
use Rattle.match_comparisons.specs.Selection.{Reaches}
use Rattle.match_comparisons.specs.inner.Search.{borrowed_name}
use Rattle.hunt_index.specs.Definite.{ArePlain}
use Rattle.hunt_index.proofs.walk.value_at_path.Given as goal

abbrev pub invariant-loop-step : goal.invariant-loop-step
invariant-loop-step l = IsOrdered (data_of l.value) × ((found : Data) → ArePlain l.steps → Reaches (data_in l.bundle) None l.steps (data_of l.object) found
    → Reaches (data_in l.bundle) (borrowed_name l.last) (drop l.step-index l.steps) (data_of l.value) found)
    × ((found : Data) → Reaches (data_in l.bundle) (borrowed_name l.last) (drop l.step-index l.steps) (data_of l.value) found
    → Reaches (data_in l.bundle) None l.steps (data_of l.object) found)
