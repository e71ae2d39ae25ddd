-- The combined limits of all qualifiers above a part of a pattern (STIX 2.1, section 9.5.1): the
-- smallest seconds of a WITHIN, the latest START and the earliest STOP. Each is absent without such
-- a qualifier.
use Rattle.std.specs.Prelude.{ℕ, min, ℤ, Option, Some, None}
use Rattle.std.specs.Int.{int_min, int_max}
use Rattle.match_bindings.specs.declared.bounds.Bounds.{Bounds}

-- without a qualifier
abbrev pub no_bounds : Bounds
no_bounds = record { seconds = None; start = None; stop = None }

abbrev pub least_seconds : Option ℕ → ℕ → Option ℕ
least_seconds None x = Some x
least_seconds (Some y) x = Some (min y x)

abbrev pub latest_start : Option ℤ → ℤ → Option ℤ
latest_start None x = Some x
latest_start (Some y) x = Some (int_max y x)

abbrev pub earliest_stop : Option ℤ → ℤ → Option ℤ
earliest_stop None x = Some x
earliest_stop (Some y) x = Some (int_min y x)

-- below a WITHIN
abbrev pub within : Bounds → ℕ → Bounds
within above x = record { seconds = least_seconds above.seconds x; start = above.start; stop = above.stop }

-- below a START and STOP
abbrev pub between : Bounds → ℤ → ℤ → Bounds
between above x y = record { seconds = above.seconds; start = latest_start above.start x; stop = earliest_stop above.stop y }
