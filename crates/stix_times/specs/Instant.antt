-- The instants of a timestamp: nanoseconds since 1970-01-01T00:00:00Z in the proleptic Gregorian
-- calendar, with no leap seconds, from the year 0000 to the end of the year 9999.
use Rattle.std.specs.Prelude.{ℤ, pos, neg_ℤ, ◌≤ℤ◌}

-- the number is within the years 0000 to 9999
abbrev pub IsInstant : ℤ → Type 0
IsInstant nanos =
    (neg_ℤ (pos 62_167_219_200_000_000_000) ≤ℤ nanos)
    × (nanos ≤ℤ pos 253_402_300_799_999_999_999)
