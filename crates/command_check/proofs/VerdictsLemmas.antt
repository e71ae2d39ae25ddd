-- Some bytes have one verdict.
use Rattle.std.proofs.Common.{◌≡◌, ◌≢◌, ◌⊎◌, ℕ, List, [], Option, Some, None, unwrap_or, inl, inr, refl, sym, ap, subst, ◌∙◌}
use Rattle.serde_json.specs.Data.{Data}
use Rattle.stix_json.specs.declared.value.Json.{Json}
use Rattle.stix_json.specs.declared.refusal.JsonRefusal.{JsonRefusal}
use Rattle.stix_json.specs.declared.refusal.JsonRefusal.TheVariants as refused
use Rattle.stix_json.specs.DataOf.{data_of}
use Rattle.stix_json.specs.Refusal.{data_refusal}
use Rattle.stix_json.specs.Reading.{IsValueOf, IsJsonOf, IsJsonRefusedAs}
use Rattle.stix_bundles.specs.declared.refusal.BundleRefusal.{BundleRefusal}
use Rattle.stix_bundles.specs.declared.refusal.BundleRefusal.TheVariants.{NotBundle, Breaks, NoMemory}
use Rattle.stix_bundles.specs.Bundle.{IsBundle, IsBundleRefused}
use Rattle.stix_versions.specs.declared.version_break.VersionBreak.{VersionBreak}
use Rattle.stix_versions.specs.declared.marking_break.MarkingBreak.{MarkingBreak}
use Rattle.stix_versions.specs.Versions.{AreVersionBreaks}
use Rattle.stix_versions.specs.Markings.{AreMarkingBreaks}
use Rattle.match_input.specs.declared.rule.InputRule.{InputRule}
use Rattle.match_input.specs.declared.rule.InputRule.TheVariants.{LineTooLong, InputTooLong, Embedded, OutOfOrder, Json as NoJson, Bundle as NoBundle}
use Rattle.command_check.specs.declared.verdict.Verdict.{Verdict}
use Rattle.command_check.specs.declared.verdict.Verdict.TheVariants.{Sound, Broken, Unfit, Refused}
use Rattle.command_check.specs.Verdicts.{IsNotBundleFor, AreValidated, IsBundleValidated, HasJson, IsValidated}

-- objects have one list of breaks of versions, and of markings
abbrev OneVersions : Type 0
OneVersions = (objects : List Data) (a b : List VersionBreak) → AreVersionBreaks objects a → AreVersionBreaks objects b → a ≡ b

abbrev OneMarkings : Type 0
OneMarkings = (objects : List Data) (a b : List MarkingBreak) → AreMarkingBreaks objects a → AreMarkingBreaks objects b → a ≡ b

-- a value is one bundle, or is refused for one cause
pub record OneReading : Type 0 where
  pub bundle : (value : Data) (a b : List Data) → IsBundle value a → IsBundle value b → a ≡ b
  pub refusal : (value : Data) (a b : BundleRefusal) → IsBundleRefused value a → IsBundleRefused value b → a ≡ b
  pub either : (value : Data) (objects : List Data) (cause : BundleRefusal) → IsBundle value objects → ¬ IsBundleRefused value cause

one_value : (bytes : List ℕ) (d e : Data) → IsValueOf bytes d → IsValueOf bytes e → d ≡ e
one_value bytes d e a b = ap (λ (o : Option Data). unwrap_or o d) (sym a.value ∙ b.value)

fit_once : OneVersions → OneMarkings → (objects : List Data) (a b : Verdict) → AreValidated objects a → AreValidated objects b → a ≡ b
fit_once versions markings objects (Sound n) (Sound m) a b = ap Sound (a.0 ∙ sym b.0)
fit_once versions markings objects (Sound n) (Unfit vs ms) a b = absurd (b.2 (versions objects vs [] b.0 a.1, markings objects ms [] b.1 a.2))
fit_once versions markings objects (Unfit vs ms) (Sound m) a b = absurd (a.2 (versions objects vs [] a.0 b.1, markings objects ms [] a.1 b.2))
fit_once versions markings objects (Unfit vs ms) (Unfit ws ns) a b =
    ap (λ (x : List VersionBreak). Unfit x ms) (versions objects vs ws a.0 b.0) ∙ ap (λ (x : List MarkingBreak). Unfit ws x) (markings objects ms ns a.1 b.1)
fit_once versions markings objects (Sound n) (Broken breaks) a b = absurd b
fit_once versions markings objects (Sound n) (Refused rule) a b = absurd b
fit_once versions markings objects (Unfit vs ms) (Broken breaks) a b = absurd b
fit_once versions markings objects (Unfit vs ms) (Refused rule) a b = absurd b
fit_once versions markings objects (Broken breaks) b x y = absurd x
fit_once versions markings objects (Refused rule) b x y = absurd x

-- a bundle, of which that is found
abbrev IsFit : Data → Verdict → Type 0
IsFit d a = (objects : List Data) × IsBundle d objects × AreValidated objects a

two_fit : OneVersions → OneMarkings → OneReading → (d : Data) (a b : Verdict) → IsFit d a → IsFit d b → a ≡ b
two_fit versions markings one d a b x y =
    let same : x.0 ≡ y.0 = one.bundle d x.0 y.0 x.1 y.1 in
    fit_once versions markings y.0 a b (subst (λ (os : List Data). AreValidated os a) same x.2) y.2

-- why a value is no bundle: for a condition that fails
not_bundle : (d : Data) (rule : InputRule) → IsNotBundleFor d rule → (path : List ℕ) × (rule ≡ NoBundle (NotBundle path)) × IsBundleRefused d (NotBundle path)
not_bundle d LineTooLong why = elim why [ ]
not_bundle d InputTooLong why = elim why [ ]
not_bundle d (Embedded object) why = elim why [ ]
not_bundle d (OutOfOrder last now) why = elim why [ ]
not_bundle d (NoJson refusal) why = elim why [ ]
not_bundle d (NoBundle (NotBundle path)) why = (path, refl, why)
not_bundle d (NoBundle (Breaks breaks)) why = elim why [ ]
not_bundle d (NoBundle NoMemory) why = elim why [ ]

-- a verdict on a value that is no bundle without breaks, as its refusal
refused_as : (d : Data) (a : Verdict) → IsBundleValidated d a → IsFit d a ⊎ ((cause : BundleRefusal) × IsBundleRefused d cause)
refused_as d (Sound n) validated = inl validated
refused_as d (Unfit vs ms) validated = inl validated
refused_as d (Broken breaks) validated = inr (Breaks breaks, validated)
refused_as d (Refused rule) validated = let why = not_bundle d rule validated in inr (NotBundle why.0, why.2)

refused_once : OneReading → (d : Data) (a b : Verdict) → ¬ IsFit d a → ¬ IsFit d b → IsBundleValidated d a → IsBundleValidated d b → a ≡ b
refused_once one d (Sound n) b no_a no_b x y = absurd (no_a x)
refused_once one d (Unfit vs ms) b no_a no_b x y = absurd (no_a x)
refused_once one d (Broken breaks) (Sound n) no_a no_b x y = absurd (no_b y)
refused_once one d (Broken breaks) (Unfit vs ms) no_a no_b x y = absurd (no_b y)
refused_once one d (Refused rule) (Sound n) no_a no_b x y = absurd (no_b y)
refused_once one d (Refused rule) (Unfit vs ms) no_a no_b x y = absurd (no_b y)
refused_once one d (Broken breaks) (Broken others) no_a no_b x y = let same = one.refusal d (Breaks breaks) (Breaks others) x y in cc
refused_once one d (Broken breaks) (Refused rule) no_a no_b x y =
    let why = not_bundle d rule y in let same = one.refusal d (Breaks breaks) (NotBundle why.0) x why.2 in absurd (cc)
refused_once one d (Refused rule) (Broken breaks) no_a no_b x y =
    let why = not_bundle d rule x in let same = one.refusal d (NotBundle why.0) (Breaks breaks) why.2 y in absurd (cc)
refused_once one d (Refused rule) (Refused other) no_a no_b x y =
    let first = not_bundle d rule x in let second = not_bundle d other y in
    let same = one.refusal d (NotBundle first.0) (NotBundle second.0) first.2 second.2 in
    ap Refused (first.1 ∙ ap NoBundle same ∙ sym second.1)

validated_once : OneVersions → OneMarkings → OneReading → (d : Data) (a b : Verdict) → IsBundleValidated d a → IsBundleValidated d b → a ≡ b
validated_once versions markings one d a b x y = elim (refused_as d a x) [
  | inl fit ↦ elim (refused_as d b y) [
    | inl other ↦ two_fit versions markings one d a b fit other
    | inr cause ↦ absurd (one.either d fit.0 cause.0 fit.1 cause.1)
  ]
  | inr cause ↦ elim (refused_as d b y) [
    | inl other ↦ absurd (one.either d other.0 cause.0 other.1 cause.1)
    | inr again ↦ refused_once one d a b (λ fit. one.either d fit.0 cause.0 fit.1 cause.1) (λ fit. one.either d fit.0 again.0 fit.1 again.1) x y
  ]
]

-- bytes that are refused as JSON: they have no value, or it is refused
abbrev IsRefusalOf : List ℕ → JsonRefusal → Type 0
IsRefusalOf bytes refusal = ((refusal ≡ refused.NotJson) × ((d : Data) → ¬ (IsValueOf bytes d)))
    ⊎ ((d : Data) × IsValueOf bytes d × (data_refusal d ≡ Some refusal))

refusal_of_bytes : (bytes : List ℕ) (refusal : JsonRefusal) → refusal ≢ refused.NoMemory → IsJsonRefusedAs bytes refusal → IsRefusalOf bytes refusal
refusal_of_bytes bytes refused.NotJson other why = inl (refl, why)
refusal_of_bytes bytes (refused.TooDeep path) other why = inr why
refusal_of_bytes bytes (refused.NotWhole path) other why = inr why
refusal_of_bytes bytes (refused.Null path) other why = inr why
refusal_of_bytes bytes (refused.OutOfRange path) other why = inr why
refusal_of_bytes bytes refused.NotList other why = elim why [ ]
refusal_of_bytes bytes refused.NoMemory other why = absurd (other refl)

no_json : (bytes : List ℕ) (value : Json) (refusal : JsonRefusal) → IsJsonOf bytes value → ¬ (IsRefusalOf bytes refusal)
no_json bytes value refusal is (inl none) = none.1 (data_of value) is.value
no_json bytes value refusal is (inr some) =
    let same : some.0 ≡ data_of value = one_value bytes some.0 (data_of value) some.1 is.value in
    let clash : Some refusal ≡ None = sym some.2 ∙ ap data_refusal same ∙ is.good in
    cc

one_refusal : (bytes : List ℕ) (r s : JsonRefusal) → IsRefusalOf bytes r → IsRefusalOf bytes s → r ≡ s
one_refusal bytes r s (inl a) (inl b) = a.0 ∙ sym b.0
one_refusal bytes r s (inl a) (inr b) = absurd (a.1 b.0 b.1)
one_refusal bytes r s (inr a) (inl b) = absurd (b.1 a.0 a.1)
one_refusal bytes r s (inr a) (inr b) =
    let same : a.0 ≡ b.0 = one_value bytes a.0 b.0 a.1 b.1 in
    ap (λ (o : Option JsonRefusal). unwrap_or o r) (sym a.2 ∙ ap data_refusal same ∙ b.2)

-- bytes are validated by their value, or have none
record NoJsonFor (bytes : List ℕ) (a : Verdict) : Type 0 where
  refusal : JsonRefusal
  is : a ≡ Refused (NoJson refusal)
  why : IsRefusalOf bytes refusal

by_json : (bytes : List ℕ) (a : Verdict) → IsValidated bytes a → HasJson bytes (λ d. IsBundleValidated d a) ⊎ NoJsonFor bytes a
by_json bytes (Sound n) validated = inl validated
by_json bytes (Broken breaks) validated = inl validated
by_json bytes (Unfit versions markings) validated = inl validated
by_json bytes (Refused LineTooLong) validated = elim validated [ ]
by_json bytes (Refused InputTooLong) validated = elim validated [ ]
by_json bytes (Refused (Embedded object)) validated = elim validated [ ]
by_json bytes (Refused (OutOfOrder last now)) validated = elim validated [ ]
by_json bytes (Refused (NoJson refusal)) validated = inr (record { refusal = refusal; is = refl; why = refusal_of_bytes bytes refusal validated.0 validated.1 })
by_json bytes (Refused (NoBundle refusal)) validated = inl validated

pub one_verdict : OneVersions → OneMarkings → OneReading → (bytes : List ℕ) (a b : Verdict) → IsValidated bytes a → IsValidated bytes b → a ≡ b
one_verdict versions markings one bytes a b first second = elim (by_json bytes a first) [
  | inl x ↦ elim (by_json bytes b second) [
    | inl y ↦
        let same : data_of x.0 ≡ data_of y.0 = one_value bytes (data_of x.0) (data_of y.0) x.1.value y.1.value in
        validated_once versions markings one (data_of y.0) a b (subst (λ (d : Data). IsBundleValidated d a) same x.2) y.2
    | inr y ↦ absurd (no_json bytes x.0 y.refusal x.1 y.why)
  ]
  | inr x ↦ elim (by_json bytes b second) [
    | inl y ↦ absurd (no_json bytes y.0 x.refusal y.1 x.why)
    | inr y ↦ x.is ∙ ap (λ (r : JsonRefusal). Refused (NoJson r)) (one_refusal bytes x.refusal y.refusal x.why y.why) ∙ sym y.is
  ]
]
