-- What is known of the objects of a bundle, since none of them breaks a rule.
use Rattle.std.proofs.Common.{◌≡◌, ℕ, zero, suc, ◌+◌, ℤ, List, [], ◌∷◌, ◌++◌, map, slice_get, Some, sym, subst, refl}
use Rattle.serde_json.specs.Data.{Data}
use Rattle.stix_objects.specs.declared.rule_break.Break.{Break}
use Rattle.stix_objects.specs.Breaks.{AreBreaksOf}
use Rattle.stix_objects.specs.Sound.{IsTimed}
use Rattle.stix_objects.specs.declared.form.Precision.TheVariants.{Any}
use Rattle.stix_objects.specs.Properties.{IsTimestampAt}
use Rattle.stix_bundles.specs.declared.object_break.ObjectBreak.{ObjectBreak}
use Rattle.stix_bundles.specs.Bundle.{AreAllBreaks, break_of_object}
use Rattle.stix_bundles.proofs.ObjectsLemmas.{same_some}

none_own : (at : ℕ) (own : List Break) (rest : List ObjectBreak) → [] ≡ map (break_of_object at) own ++ rest → own ≡ []
none_own at [] rest is = refl
none_own at (b ∷ bs) rest is = absurd cc

none_rest : (at : ℕ) (own : List Break) (rest : List ObjectBreak) → [] ≡ map (break_of_object at) own ++ rest → rest ≡ []
none_rest at [] rest is = sym is
none_rest at (b ∷ bs) rest is = absurd cc

pub unbroken_at : (from : ℕ) (ds : List Data) → AreAllBreaks from ds [] → (n : ℕ) (d : Data) → slice_get ds n ≡ Some d → AreBreaksOf d []
unbroken_at from [] all n d there = absurd cc
unbroken_at from (x ∷ xs) all zero d there =
    subst (λ (y : Data). AreBreaksOf y []) (same_some x d there) (subst (AreBreaksOf x) (none_own from all.0 all.1 all.4) all.2)
unbroken_at from (x ∷ xs) all (suc n) d there =
    unbroken_at (from + 1) xs (subst (AreAllBreaks (from + 1) xs) (none_rest from all.0 all.1 all.4) all.3) n d there

pub first_time_of : (first last : List ℕ) (d : Data) → IsTimed first last d → (instant : ℤ) × IsTimestampAt Any first d instant
first_time_of first last d is = (is.from, is.begins)

pub last_time_of_object : (first last : List ℕ) (d : Data) → IsTimed first last d → (instant : ℤ) × IsTimestampAt Any last d instant
last_time_of_object first last d is = (is.to, is.ends)
