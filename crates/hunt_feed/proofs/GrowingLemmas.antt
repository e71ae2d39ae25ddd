-- Objects with one more at the end: what was said of those before stands, and the new one is the only other.
use Rattle.std.proofs.Common.{arith, ◌≡◌, ◌⊎◌, inl, inr, ℕ, zero, suc, ◌<◌, ℤ, List, [], ◌∷◌, ◌++◌, length, slice_get, Option, Some, unwrap_or, refl, sym, ap, subst}
use Rattle.std.proofs.lemmas.Option.{slice_get_within}
use Rattle.serde_json.specs.Data.{Data}
use Rattle.stix_ids.specs.declared.id.Id.{Id}
use Rattle.stix_objects.specs.Properties.{HasId}
use Rattle.stix_bundles.specs.Lookup.{IsModified, IsOf, IsVersionAt, IsLatest}
use Rattle.hunt_feed.specs.Indicators.{Revokes, IsRevokedId, IsCurrent}

pub same_some : {A : Type 0} (x y : A) → Some x ≡ Some y → x ≡ y
same_some {A} x y e = ap (λ (o : Option A). unwrap_or o x) e

pub get_front : {A : Type 0} (xs ys : List A) (k : ℕ) (x : A) → slice_get xs k ≡ Some x → slice_get (xs ++ ys) k ≡ Some x
get_front [] ys k x is = absurd cc
get_front (y ∷ xs) ys zero x is = is
get_front (y ∷ xs) ys (suc k) x is = get_front xs ys k x is

pub get_new : {A : Type 0} (xs : List A) (d : A) → slice_get (xs ++ d ∷ []) (length xs) ≡ Some d
get_new [] d = refl
get_new (y ∷ ys) d = get_new ys d

pub get_cases : {A : Type 0} (xs : List A) (d : A) (k : ℕ) (x : A) → slice_get (xs ++ d ∷ []) k ≡ Some x
    → (slice_get xs k ≡ Some x) ⊎ ((k ≡ length xs) × (d ≡ x))
get_cases [] d zero x is = inr (refl, same_some d x is)
get_cases [] d (suc k) x is = absurd cc
get_cases (y ∷ ys) d zero x is = inl is
get_cases (y ∷ ys) d (suc k) x is =
    elim (get_cases ys d k x is) [ inl before ↦ inl before | inr here ↦ inr (ap suc here.0, here.1) ]

pub get_old : {A : Type 0} (xs : List A) (d : A) (k : ℕ) (x : A) → slice_get xs k ≡ Some x → slice_get (xs ++ d ∷ []) k ≡ Some x
get_old xs d k x is = get_front xs (d ∷ []) k x is

-- the objects with one more
abbrev pub grown : List Data → Data → List Data
grown objects d = objects ++ d ∷ []

pub of_cases : (objects : List Data) (d : Data) (id : Id) (at : ℕ) → IsOf (grown objects d) id at → IsOf objects id at ⊎ HasId d id
of_cases objects d id at is =
    elim (get_cases objects d at is.object is.there) [
      | inl before ↦ inl (record { object = is.object; there = before; has = is.has })
      | inr here ↦ inr (subst (λ (x : Data). HasId x id) (sym here.1) is.has)
    ]

pub version_old : (objects : List Data) (d : Data) (id : Id) (at : ℕ) (when : Option ℤ) → IsVersionAt objects id at when → IsVersionAt (grown objects d) id at when
version_old objects d id at when is =
    record { object = is.object; there = get_old objects d at is.object is.there; has = is.has; when = is.when }

pub version_cases : (objects : List Data) (d : Data) (id : Id) (at : ℕ) (when : Option ℤ) → IsVersionAt (grown objects d) id at when
    → IsVersionAt objects id at when ⊎ ((at ≡ length objects) × HasId d id × IsModified d when)
version_cases objects d id at when is =
    elim (get_cases objects d at is.object is.there) [
      | inl before ↦ inl (record { object = is.object; there = before; has = is.has; when = is.when })
      | inr here ↦ inr (here.0, subst (λ (x : Data). HasId x id) (sym here.1) is.has, subst (λ (x : Data). IsModified x when) (sym here.1) is.when)
    ]

pub of_version : (objects : List Data) (id : Id) (at : ℕ) (when : Option ℤ) → IsVersionAt objects id at when → IsOf objects id at
of_version objects id at when is = record { object = is.object; there = is.there; has = is.has }

pub revoked_old : (objects : List Data) (d : Data) (id : Id) → IsRevokedId objects id → IsRevokedId (grown objects d) id
revoked_old objects d id is =
    record { at = is.at; object = is.object; there = get_old objects d is.at is.object is.there; has = is.has; revokes = is.revokes }

pub revoked_new : (objects : List Data) (d : Data) (id : Id) → HasId d id → Revokes d → IsRevokedId (grown objects d) id
revoked_new objects d id has revokes = record { at = length objects; object = d; there = get_new objects d; has = has; revokes = revokes }

pub revoked_cases : (objects : List Data) (d : Data) (id : Id) → IsRevokedId (grown objects d) id → IsRevokedId objects id ⊎ (HasId d id × Revokes d)
revoked_cases objects d id is =
    elim (get_cases objects d is.at is.object is.there) [
      | inl before ↦ inl (record { at = is.at; object = is.object; there = before; has = is.has; revokes = is.revokes })
      | inr here ↦ inr (subst (λ (x : Data). HasId x id) (sym here.1) is.has, subst Revokes (sym here.1) is.revokes)
    ]

-- what stands before the new one and is the latest now was so before
pub latest_was : (objects : List Data) (d : Data) (id : Id) (at : ℕ) → at < length objects → IsLatest (grown objects d) id at → IsLatest objects id at
latest_was objects d id at before is = record {
  modified = is.modified;
  version = elim (version_cases objects d id at is.modified is.version) [
    | inl old ↦ old
    | inr here ↦ absurd (let e = here.0 in omega arith)
  ];
  latest = λ other when version. is.latest other when (version_old objects d id other when version);
}

pub current_was : (objects : List Data) (d : Data) (at : ℕ) (id : Id) (value : Data) → IsCurrent (grown objects d) at id value
    → IsCurrent objects at id value ⊎ ((at ≡ length objects) × (d ≡ value))
current_was objects d at id value is =
    elim (get_cases objects d at value is.there) [
      | inl before ↦ inl (record {
        there = before;
        has = is.has;
        indicator = is.indicator;
        latest = latest_was objects d id at (slice_get_within objects at value before) is.latest;
        not_revoked = λ revoked. is.not_revoked (revoked_old objects d id revoked);
      })
      | inr here ↦ inr here
    ]
