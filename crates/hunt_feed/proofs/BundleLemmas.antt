-- The objects of a bundle, one after another.
use Rattle.std.proofs.Common.{◌≡◌, ℕ, zero, suc, ◌+◌, ◌<◌, List, [], ◌∷◌, ◌++◌, length, map, slice_get, slice_index_or, option_map, Option, Some, refl, sym, ap, subst, ◌∙◌}
use Rattle.std.proofs.lemmas.Option.{slice_get-map, slice_get_read}
use Rattle.serde_json.specs.Data.{Data}
use Rattle.stix_json.specs.declared.value.Json.{Json}
use Rattle.stix_json.specs.DataOf.{data_of}
use Rattle.stix_objects.specs.declared.rule_break.Break.{Break}
use Rattle.stix_objects.specs.Breaks.{AreBreaksOf}
use Rattle.stix_bundles.specs.declared.object_break.ObjectBreak.{ObjectBreak}
use Rattle.stix_bundles.specs.Bundle.{AreAllBreaks, break_of_object}
use Rattle.stix_bundles.specs.Objects.{data_in}
use Rattle.hunt_feed.proofs.GrowingLemmas.{same_some}

none_own : (at : ℕ) (own : List Break) (rest : List ObjectBreak) → [] ≡ map (break_of_object at) own ++ rest → own ≡ []
none_own at [] rest is = refl
none_own at (b ∷ bs) rest is = absurd cc

none_rest : (at : ℕ) (own : List Break) (rest : List ObjectBreak) → [] ≡ map (break_of_object at) own ++ rest → rest ≡ []
none_rest at [] rest is = sym is
none_rest at (b ∷ bs) rest is = absurd cc

unbroken_at : (from : ℕ) (ds : List Data) → AreAllBreaks from ds [] → (n : ℕ) (d : Data) → slice_get ds n ≡ Some d → AreBreaksOf d []
unbroken_at from [] all n d there = absurd cc
unbroken_at from (x ∷ xs) all zero d there =
    subst (λ (y : Data). AreBreaksOf y []) (same_some x d there) (subst (AreBreaksOf x) (none_own from all.0 all.1 all.4) all.2)
unbroken_at from (x ∷ xs) all (suc n) d there =
    unbroken_at (from + 1) xs (subst (AreAllBreaks (from + 1) xs) (none_rest from all.0 all.1 all.4) all.3) n d there

-- none of the objects has a break
pub unbroken_object : (values : List Json) (at : ℕ) (value : Json) → AreAllBreaks 0 (data_in values) [] → at < length values → value ≡ slice_index_or values at value
    → AreBreaksOf (data_of value) []
unbroken_object values at value all inside is =
    unbroken_at 0 (data_in values) all at (data_of value)
    (slice_get-map data_of values at ∙ ap (λ (x : Option Json). option_map data_of x) (slice_get_read values (length values) at value refl inside is))
