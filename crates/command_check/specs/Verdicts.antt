-- The verdict on an input, as a bundle.
use Rattle.std.specs.Prelude.{◌≡◌, ◌≢◌, ℕ, List, [], length}
use Rattle.serde_json.specs.Data.{Data}
use Rattle.stix_json.specs.declared.value.Json.{Json}
use Rattle.stix_json.specs.declared.refusal.JsonRefusal.TheVariants as json_refusal
use Rattle.stix_json.specs.DataOf.{data_of}
use Rattle.stix_json.specs.Reading.{IsJsonOf, IsJsonRefusedAs}
use Rattle.stix_bundles.specs.declared.refusal.BundleRefusal.TheVariants.{NotBundle, Breaks, NoMemory}
use Rattle.stix_bundles.specs.Bundle.{IsBundle, IsBundleRefused}
use Rattle.stix_versions.specs.Versions.{AreVersionBreaks}
use Rattle.stix_versions.specs.Markings.{AreMarkingBreaks}
use Rattle.match_input.specs.declared.rule.InputRule.{InputRule}
use Rattle.match_input.specs.declared.rule.InputRule.TheVariants.{LineTooLong, InputTooLong, Json as NoJson, Bundle as NoBundle, Embedded, OutOfOrder}
use Rattle.command_check.specs.declared.verdict.Verdict.{Verdict}
use Rattle.command_check.specs.declared.verdict.Verdict.TheVariants.{Sound, Broken, Unfit, Refused}

-- a value that is no bundle is refused for the first condition that fails
abbrev pub IsNotBundleFor : Data → InputRule → Type 0
IsNotBundleFor d LineTooLong = ⊥
IsNotBundleFor d InputTooLong = ⊥
IsNotBundleFor d (Embedded object) = ⊥
IsNotBundleFor d (OutOfOrder last now) = ⊥
IsNotBundleFor d (NoJson refusal) = ⊥
IsNotBundleFor d (NoBundle (NotBundle path)) = IsBundleRefused d (NotBundle path)
IsNotBundleFor d (NoBundle (Breaks breaks)) = ⊥
IsNotBundleFor d (NoBundle NoMemory) = ⊥

-- for objects that meet the rules of their types: their number, or the violated rules of their
-- versions and markings
abbrev pub AreValidated : List Data → Verdict → Type 0
AreValidated objects (Sound count) = (count ≡ length objects) × AreVersionBreaks objects [] × AreMarkingBreaks objects []
AreValidated objects (Broken breaks) = ⊥
AreValidated objects (Unfit versions markings) = AreVersionBreaks objects versions × AreMarkingBreaks objects markings × (¬ ((versions ≡ []) × (markings ≡ [])))
AreValidated objects (Refused rule) = ⊥

-- a value is a bundle with this verdict, or one with these violations, or no bundle
abbrev pub IsBundleValidated : Data → Verdict → Type 0
IsBundleValidated d (Sound count) = (objects : List Data) × IsBundle d objects × AreValidated objects (Sound count)
IsBundleValidated d (Unfit versions markings) = (objects : List Data) × IsBundle d objects × AreValidated objects (Unfit versions markings)
IsBundleValidated d (Broken breaks) = IsBundleRefused d (Breaks breaks)
IsBundleValidated d (Refused rule) = IsNotBundleFor d rule

-- some bytes are a JSON value with this verdict
abbrev pub HasJson : List ℕ → (Data → Type 0) → Type 0
HasJson bytes P = (value : Json) × IsJsonOf bytes value × P (data_of value)

-- why bytes of an allowed length are refused: they are no JSON value, or the value is no bundle
abbrev pub IsRefusedBundle : List ℕ → InputRule → Type 0
IsRefusedBundle bytes LineTooLong = ⊥
IsRefusedBundle bytes InputTooLong = ⊥
IsRefusedBundle bytes (Embedded object) = ⊥
IsRefusedBundle bytes (OutOfOrder last now) = ⊥
IsRefusedBundle bytes (NoJson refusal) = (refusal ≢ json_refusal.NoMemory) × IsJsonRefusedAs bytes refusal
IsRefusedBundle bytes (NoBundle refusal) = HasJson bytes (λ d. IsNotBundleFor d (NoBundle refusal))

-- the verdict on some bytes
abbrev pub IsValidated : List ℕ → Verdict → Type 0
IsValidated bytes (Sound count) = HasJson bytes (λ d. IsBundleValidated d (Sound count))
IsValidated bytes (Broken breaks) = HasJson bytes (λ d. IsBundleValidated d (Broken breaks))
IsValidated bytes (Unfit versions markings) = HasJson bytes (λ d. IsBundleValidated d (Unfit versions markings))
IsValidated bytes (Refused rule) = IsRefusedBundle bytes rule
