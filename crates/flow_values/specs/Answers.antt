-- Facts about results of lookups, whatever is looked up.
use Rattle.std.specs.Prelude.{Option, MatchOption}

-- the result is a value that meets the rule, or none if no value meets it
abbrev pub FindsExactly : {A : Type 0} → (A → Type 0) → Option A → Type 0
FindsExactly {A} Rule found = MatchOption found ((value : A) → Rule value → ⊥) Rule
