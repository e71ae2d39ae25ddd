-- What is hunted can be: it is an indicator, created at a whole number of microseconds, and its pattern is sound and narrow.
use Rattle.std.proofs.Common.{◌≡◌, inl, inr, ℕ, ◌<◌, ◌^◌, ℤ, List, [], sym, ap, subst, ◌∙◌, arith}
use Rattle.std.specs.Prelude.{All, codes}
use Rattle.serde_json.specs.Data.{Data}
use Rattle.stix_ids.specs.declared.id.Id.{Id}
use Rattle.stix_ids.specs.Kind.{IsKind}
use Rattle.stix_times.specs.Reading.{IsMillisTextOf}
use Rattle.stix_times.specs.Writing.{IsWhole}
use Rattle.stix_objects.specs.Breaks.{AreBreaksOf}
use Rattle.stix_objects.specs.Properties.{HasId}
use Rattle.stix_objects.specs.Sound.{IsNamed}
use Rattle.pattern_types.specs.declared.pattern.Pattern.{Pattern}
use Rattle.pattern_types.specs.declared.limit.TheConstants.{MAX_BRACKETS}
use Rattle.pattern_types.specs.Leaves.{leaves}
use Rattle.pattern_types.specs.PlainPattern.{plain_pattern}
use Rattle.pattern_types.specs.Width.{brackets, IsTooWide}
use Rattle.hunt_feed.specs.declared.hunted.Hunted.{Hunted}
use Rattle.hunt_feed.specs.declared.hunted.Skipped.{Skipped}
use Rattle.hunt_feed.specs.Indicators.{IsHunted, IsSkippedIndicator}
use Rattle.hunt_report.proofs.PlaceLemmas.{all_at, less_or_not}
use Rattle.hunt_report.specs.Hunting.{IsHuntable}

-- the laws on objects without breaks, identifiers, times and leaves
abbrev pub Named : Type 0
Named = (value : Data) → AreBreaksOf value [] → IsNamed value

abbrev pub OneId : Type 0
OneId = (object : Data) (first second : Id) → HasId object first → HasId object second → first ≡ second

abbrev pub Whole : Type 0
Whole = (text : List ℕ) (instant : ℤ) → IsMillisTextOf text instant → IsWhole 1000 instant

abbrev pub LeavesAreBrackets : Type 0
LeavesAreBrackets = (pattern : Pattern) → leaves pattern ≡ brackets (plain_pattern pattern)

-- the kind of an object's identifier is its type
kind_is : Named → OneId → (object : Data) (id : Id) → AreBreaksOf object [] → HasId object id → (named : IsNamed object) → id.kind ≡ named.type
kind_is of_value one value id unbroken has named =
    let own : Id = record { kind = named.type; number = named.number } in
    let has_own : HasId value own = record { text = named.text; there = named.named; reads = named.id } in
    ap (λ (i : Id). i.kind) (one value id own has has_own)

few_leaves : LeavesAreBrackets → (pattern : Pattern) → ¬ IsTooWide (plain_pattern pattern) → leaves pattern < 2 ^ 32
few_leaves same pattern narrow = elim (less_or_not MAX_BRACKETS (brackets (plain_pattern pattern))) [
  | inl many ↦ absurd (narrow (inr many))
  | inr few ↦ let count = same pattern in omega (arith, few, count)
]

pub huntable : Named → OneId → Whole → LeavesAreBrackets → (objects : List Data) (moment : ℤ) (indicator : Hunted)
    → All (λ object. AreBreaksOf object []) objects → IsHunted objects moment indicator → IsHuntable indicator
huntable of_value one whole same objects moment indicator unbroken is =
    let current = is.candidate.current in
    let sound = all_at (λ object. AreBreaksOf object []) objects indicator.at is.object unbroken current.there in
    let named = of_value is.object sound in
    let type : named.type ≡ codes "indicator" = (let a = named.typed in let b = current.indicator.typed in cc) in
    record {
      kind = kind_is of_value one is.object indicator.id sound current.has named ∙ type;
      created = whole is.created.text indicator.created is.created.names;
      sound = is.read.meant.meant.sound;
      narrow = few_leaves same indicator.pattern is.read.meant.narrow;
    }

-- what is skipped has an identifier of a kind
pub kind_of_skipped : Named → OneId → (objects : List Data) (moment : ℤ) (skipped : Skipped)
    → All (λ object. AreBreaksOf object []) objects → IsSkippedIndicator objects moment skipped → IsKind skipped.id.kind
kind_of_skipped of_value one objects moment skipped unbroken is =
    let current = is.candidate.current in
    let sound = all_at (λ object. AreBreaksOf object []) objects skipped.at is.object unbroken current.there in
    let named = of_value is.object sound in
    subst IsKind (sym (kind_is of_value one is.object skipped.id sound current.has named)) named.kind
