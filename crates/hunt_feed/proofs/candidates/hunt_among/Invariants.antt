use Rattle.std.proofs.Common.{◌≡◌, ℕ, List, ◌++◌}
use Rattle.serde_json.specs.Data.{Data}
use Rattle.hunt_feed.specs.Gathering.{GathersFor}
use Rattle.hunt_feed.specs.inner.Hunting.{IsHuntAmong}
use Rattle.hunt_feed.proofs.candidates.hunt_among.Given as goal

abbrev pub invariant-loop-indicator : goal.invariant-loop-indicator
invariant-loop-indicator l =
    (l.fn.kept.items ≡ l.yielded ++ l.indicator-iterator.rest.items)
    × ((objects : List Data) (count : ℕ) → GathersFor (record { count = count; kept = l.fn.kept.items; versions = l.versions.entries }) objects
    → IsHuntAmong objects l.moment l.yielded l.hunt)
