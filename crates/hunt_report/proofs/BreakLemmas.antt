-- An object that meets each row of its type breaks no rule, and how properties meet their rows.
use Rattle.std.proofs.Common.{◌≡◌, List, [], ◌∷◌, Option, None, option_map, refl}
use Rattle.std.specs.Prelude.{filter_map}
use Rattle.serde_json.specs.Data.{Data}
use Rattle.stix_objects.specs.declared.rule_break.Break.{Break}
use Rattle.stix_objects.specs.BreakAt.{BreakAt, break_of}
use Rattle.stix_objects.specs.Row.{Row}
use Rattle.stix_objects.specs.Breaks.{ChecksRows, AreBreaksBy}
use Rattle.stix_objects.specs.Sound.{MeetsAll}

abbrev nothing : List Row → List (Option BreakAt)
nothing [] = []
nothing (row ∷ rows) = None ∷ nothing rows

checked : (rows : List Row) (d : Data) → MeetsAll rows d → ChecksRows rows d (nothing rows)
checked [] d meets = tt
checked (row ∷ rows) d meets = (meets.0, checked rows d meets.1)

told : (rows : List Row) → ◌≡◌ {A = List Break} [] (filter_map (option_map break_of) (nothing rows))
told [] = refl
told (row ∷ rows) = told rows

pub no_breaks : (rows : List Row) (d : Data) → MeetsAll rows d → AreBreaksBy rows d []
no_breaks rows d meets = record { outcomes = nothing rows; checked = checked rows d meets; told = told rows }
