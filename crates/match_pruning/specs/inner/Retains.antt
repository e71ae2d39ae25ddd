-- For private clauses: whether a window retains a partial match, as a Boolean test.
use Rattle.std.specs.Prelude.{ℕ, ℤ, int_le, int_lt, Bool, true, false, ◌&&◌, Option, Some, None}
use Rattle.match_bindings.specs.declared.bounds.Bounds.{Bounds}
use Rattle.match_bindings.specs.Span.{later_by}
use Rattle.match_pruning.specs.declared.window.Window.{Window}

abbrev pub lasts_at_most : Option ℕ → ℤ → ℤ → Bool
lasts_at_most None earliest now = true
lasts_at_most (Some seconds) earliest now = int_lt now (later_by seconds earliest)

abbrev pub ends_from_start : Option ℤ → ℤ → Bool
ends_from_start None earliest = true
ends_from_start (Some start) earliest = int_le start earliest

abbrev pub begins_before_stop : Option ℤ → ℤ → Bool
begins_before_stop None now = true
begins_before_stop (Some stop) now = int_lt now stop

-- by the seconds, start and stop of the enclosing qualifiers
abbrev pub alive : Bounds → ℤ → ℤ → Bool
alive above earliest now = lasts_at_most above.seconds earliest now && (ends_from_start above.start earliest && begins_before_stop above.stop now)

abbrev pub is_ahead : Bool → ℤ → ℤ → Bool
is_ahead false earliest now = true
is_ahead true earliest now = int_le now earliest

-- it hasn't expired
abbrev pub retains : Window → ℤ → ℤ → Bool
retains window earliest now =
    is_ahead window.after_left earliest now && (lasts_at_most window.seconds earliest now && (ends_from_start window.start earliest && begins_before_stop window.stop now))
