-- When a stored partial match has expired at the end of the last observation: no later observation
-- can make it part of a binding that the qualifiers above its store allow.
use Rattle.std.specs.Prelude.{ℕ, ℤ, ◌≤ℤ◌, ◌<ℤ◌, ◌⊎◌, IsTrue, Option, Some, None}
use Rattle.match_bindings.specs.Span.{later_by}
use Rattle.match_pruning.specs.declared.window.Window.{Window}

-- the earliest time plus the seconds isn't after now
abbrev pub ArePast : Option ℕ → ℤ → ℤ → Type 0
ArePast None earliest now = ⊥
ArePast (Some seconds) earliest now = later_by seconds earliest ≤ℤ now

-- the earliest time is before the start
abbrev pub IsBeforeStart : Option ℤ → ℤ → Type 0
IsBeforeStart None earliest = ⊥
IsBeforeStart (Some start) earliest = earliest <ℤ start

-- the stop is reached
abbrev pub IsStopped : Option ℤ → ℤ → Type 0
IsStopped None now = ⊥
IsStopped (Some stop) now = stop ≤ℤ now

-- by the seconds, the start or the stop of the qualifiers above; or, on the right of a FOLLOWEDBY,
-- because everything that can still come on the left ends later than it begins
abbrev pub HasExpired : Window → ℤ → ℤ → Type 0
HasExpired window earliest now = ArePast window.seconds earliest now ⊎ IsBeforeStart window.start earliest
    ⊎ IsStopped window.stop now ⊎ (IsTrue window.after_left × (earliest <ℤ now))
