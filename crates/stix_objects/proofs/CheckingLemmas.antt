-- A value of the kind that is asked for is checked as such.
use Rattle.std.proofs.Common.{◌≡◌, ℕ, ◌<◌, List, length, drop, get_or, map, Bool, true, false, Option, Some, subst, refl, ap}
use Rattle.std.specs.Option.{MatchOption}
use Rattle.stix_objects.specs.declared.rule.Rule.{Rule}
use Rattle.stix_objects.specs.declared.rule.Rule.TheVariants.{WrongKind}
use Rattle.serde_json.specs.Data.{Data}
use Rattle.serde_json.specs.View.{items_of}
use Rattle.stix_json.specs.declared.value.Json.{Json}
use Rattle.stix_json.specs.DataOf.{data_of}
use Rattle.stix_json.specs.Walk.{index_part}
use Rattle.stix_objects.specs.BreakAt.{BreakAt, break_under}
use Rattle.stix_objects.specs.Checking.{OfKind}
use Rattle.stix_objects.specs.Forms.{ChecksUnder, ChecksValue, ChecksItems}
use Rattle.stix_objects.proofs.ListLemmas.{close_item}

pub of_kind : {A : Type 0} (of : Option A) (value : A) (Checks : A → Option Rule → Type 0) (outcome : Option Rule)
    → Some value ≡ of → Checks value outcome → OfKind of Checks outcome
of_kind {A} of value Checks outcome is checked =
    subst (λ (v : Option A). MatchOption v (outcome ≡ Some WrongKind) (λ a. Checks a outcome)) is checked

pub not_true : (b : Bool) → b ≡ false → b ≡ true → ⊥
not_true b is other = cc

-- a property that is there is checked by its value
pub value_there : (Needed : Type 0) (name : List ℕ) (Checks : Data → Option BreakAt → Type 0) (found : Option Data) (d : Data) (outcome : Option BreakAt)
    → Some d ≡ found → ChecksUnder name (Checks d) outcome → ChecksValue Needed name Checks found outcome
value_there Needed name Checks found d outcome is checked =
    subst (λ (o : Option Data). ChecksValue Needed name Checks o outcome) is checked

-- the item at a place is the first that breaks something
pub first_at : (Checks : Data → Option BreakAt → Type 0) (items : List Json) (i : ℕ) (item : Json) (inner told : BreakAt) → i < length items → item ≡ get_or items i item
    → Checks (data_of item) (Some inner) → told ≡ break_under (index_part i) inner → ChecksItems Checks i (items_of (map data_of (drop i items))) (Some told)
first_at Checks items i item inner told within is checked same =
    close_item (λ ts. ChecksItems Checks i (items_of (map data_of ts)) (Some told)) items i item within is
    (Some (break_under (index_part i) inner), (Some inner, checked, refl), ap Some same)
