-- An object has one version or is undated: by the property that tells its time, and by its type.
use Rattle.std.proofs.Common.{◌≡◌, ℕ, ℤ, pos, ◌*ℤ◌, ◌⊎◌, inl, inr, List, Option, Some, None, refl, sym, ap, ◌∙◌, subst, arith}
use Rattle.std.specs.Prelude.{codes}
use Rattle.std.proofs.lemmas.Int.{ints}
use Rattle.flow_values.specs.Answers.{FindsExactly}
use Rattle.serde_json.specs.Data.{Data}
use Rattle.stix_json.specs.Properties.{property_text}
use Rattle.stix_objects.specs.declared.groups.Group.{Group}
use Rattle.stix_objects.specs.declared.groups.Group.TheVariants.{Domain, Marking, Observable, Other}
use Rattle.taxii_rows.specs.declared.type_set.TypeSet.{TypeSet}
use Rattle.taxii_rows.specs.Version.{group_under, IsObservableOf, IsTimeAt, HasNoTimeAt, IsVersionTime, HasVersion, IsUndated}
use Rattle.stix_times.proofs.WholeLemmas.{millis_whole}

-- a time at a property is the only one there
abbrev pub OneTime : Type 0
OneTime = (name : List ℕ) (d : Data) (first second : ℤ) → IsTimeAt name d first → IsTimeAt name d second → first ≡ second

-- an object has one version at most
abbrev pub OneVersion : Type 0
OneVersion = (set : TypeSet) (d : Data) (first second : ℤ) → HasVersion set d first → HasVersion set d second → first ≡ second

-- ---- the time of a version

-- where `modified` is no time, that of `created` is found
pub time_else : (d : Data) (found : Option ℤ) → HasNoTimeAt (codes "modified") d → FindsExactly (IsTimeAt (codes "created") d) found
    → FindsExactly (IsVersionTime d) found
time_else d (Some created) none is = inr (none, is)
time_else d None none is = λ instant time. elim time [ inl modified ↦ none instant modified | inr created ↦ is instant created.1 ]

pub time_whole : (d : Data) (instant : ℤ) → IsVersionTime d instant → (version : ℤ) × (instant ≡ version *ℤ pos 1000)
time_whole d instant (inl modified) = millis_whole modified.text instant modified.names
time_whole d instant (inr created) = millis_whole created.1.text instant created.1.names

one_time : OneTime → (d : Data) (first second : ℤ) → IsVersionTime d first → IsVersionTime d second → first ≡ second
one_time one d first second (inl modified) (inl also) = one (codes "modified") d first second modified also
one_time one d first second (inl modified) (inr created) = absurd (created.0 first modified)
one_time one d first second (inr created) (inl modified) = absurd (created.0 second modified)
one_time one d first second (inr created) (inr also) = one (codes "created") d first second created.1 also.1

-- ---- the version

pub one_version : OneTime → OneVersion
one_version one set d first second has also =
    let same : first *ℤ pos 1000 ≡ second *ℤ pos 1000 = one_time one d (first *ℤ pos 1000) (second *ℤ pos 1000) has.time also.time in
    omega (arith, ints)

pub version_at : (set : TypeSet) (d : Data) (version time : ℤ) → version *ℤ pos 1000 ≡ time → ¬ IsObservableOf set d → IsVersionTime d time
    → HasVersion set d version
version_at set d version time is versioned observable = record { versioned = versioned; time = subst (IsVersionTime d) (sym is) observable }

pub no_version : (set : TypeSet) (d : Data) → FindsExactly (IsVersionTime d) None → (version : ℤ) → ¬ HasVersion set d version
no_version set d none version has = none (version *ℤ pos 1000) has.time

by_group : (set : TypeSet) (d : Data) (kind : List ℕ) (group : Group) → property_text (codes "type") d ≡ Some kind → group_under set kind ≡ group
    → IsObservableOf set d ⊎ (¬ IsObservableOf set d)
by_group set d kind Observable there is = inl (kind, there, is)
by_group set d kind Domain there is = inr (λ own. let same : kind ≡ own.0 = (let e = own.1 in cc) in let other : Domain ≡ Observable = sym is ∙ ap (group_under set) same ∙ own.2 in absurd (cc))
by_group set d kind Marking there is = inr (λ own. let same : kind ≡ own.0 = (let e = own.1 in cc) in let other : Marking ≡ Observable = sym is ∙ ap (group_under set) same ∙ own.2 in absurd (cc))
by_group set d kind Other there is = inr (λ own. let same : kind ≡ own.0 = (let e = own.1 in cc) in let other : Other ≡ Observable = sym is ∙ ap (group_under set) same ∙ own.2 in absurd (cc))

by_type : (set : TypeSet) (d : Data) (type : Option (List ℕ)) → property_text (codes "type") d ≡ type → IsObservableOf set d ⊎ (¬ IsObservableOf set d)
by_type set d (Some kind) is = by_group set d kind (group_under set kind) is refl
by_type set d None is = inr (λ own. let e = own.1 in absurd (cc))

never_timed : (set : TypeSet) (d : Data) → ((version : ℤ) → ¬ HasVersion set d version) → ¬ IsObservableOf set d → (instant : ℤ) → ¬ IsVersionTime d instant
never_timed set d none versioned instant time =
    let whole = time_whole d instant time in none whole.0 (version_at set d whole.0 instant (sym whole.1) versioned time)

no_time : (set : TypeSet) (d : Data) → ((version : ℤ) → ¬ HasVersion set d version) → ¬ IsObservableOf set d
    → HasNoTimeAt (codes "modified") d × HasNoTimeAt (codes "created") d
no_time set d none versioned =
    let unmodified : HasNoTimeAt (codes "modified") d = λ instant time. never_timed set d none versioned instant (inl time) in
    (unmodified, λ instant time. never_timed set d none versioned instant (inr (unmodified, time)))

-- without a version an object is undated
pub undated : (set : TypeSet) (d : Data) → ((version : ℤ) → ¬ HasVersion set d version) → IsUndated set d
undated set d none =
    elim (by_type set d (property_text (codes "type") d) refl) [
      | inl is ↦ inl is
      | inr versioned ↦ inr (no_time set d none versioned)
    ]

pub never_dated : (set : TypeSet) (d : Data) → IsUndated set d → (version : ℤ) → ¬ HasVersion set d version
never_dated set d (inl is) version has = has.versioned is
never_dated set d (inr none) version has =
    elim has.time [ inl modified ↦ none.0 (version *ℤ pos 1000) modified | inr created ↦ none.1 (version *ℤ pos 1000) created.1 ]
