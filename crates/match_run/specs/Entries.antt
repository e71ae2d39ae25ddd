-- The log of an input for a pattern: for each observation its times, and a truth for each bracket.
use Rattle.std.specs.Prelude.{◌≡◌, Bool, List, [], ◌∷◌, ◌++◌}
use Rattle.serde_json.specs.Data.{Data}
use Rattle.stix_bundles.specs.declared.observation.Observation.{Observation}
use Rattle.pattern_types.specs.PlainPattern.{PlainPattern}
use Rattle.match_comparisons.specs.Truths.{AreTruths}
use Rattle.match_bindings.specs.declared.log_entry.LogEntry.{LogEntry}
use Rattle.match_input.specs.Reading.{BundleOf}

-- the entries of some observations of a bundle
abbrev pub AreEntriesOf : PlainPattern → List Data → List Observation → List LogEntry → Type 0
AreEntriesOf p objects [] log = log ≡ []
AreEntriesOf p objects (o ∷ observations) log = (truths : List Bool) × (rest : List LogEntry)
    × AreTruths objects o.roots p truths × AreEntriesOf p objects observations rest
    × (log ≡ record { first = o.first; last = o.last; truths = truths } ∷ rest)

-- the entries of the bundles of an input, concatenated
abbrev pub AreEntries : PlainPattern → List BundleOf → List LogEntry → Type 0
AreEntries p [] log = log ≡ []
AreEntries p (bundle ∷ bundles) log = (own rest : List LogEntry) × AreEntriesOf p bundle.objects bundle.observations own
    × AreEntries p bundles rest × (log ≡ own ++ rest)
