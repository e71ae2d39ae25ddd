-- What a text means, and that it means one place.
use Rattle.std.proofs.Common.{arith, ◌≡◌, inl, inr, ℕ, ℤ, List, Option, Some, None, codes, ap, refl, subst}
use Rattle.std.proofs.lemmas.Int.{ints}
use Rattle.serde_json.specs.Data.{Data}
use Rattle.stix_ids.specs.declared.id.Id.{Id}
use Rattle.stix_ids.specs.Identifier.{IsTextOfId}
use Rattle.stix_objects.specs.declared.form.Precision.{Precision}
use Rattle.stix_objects.specs.declared.form.Precision.TheVariants.{Millis}
use Rattle.stix_objects.specs.Properties.{IsTimestampAt}
use Rattle.stix_bundles.specs.Lookup.{IsModified, IsEarlier, IsOf, IsVersionAt, IsLatest, ResolvesTo}
use Rattle.stix_bundles.specs.inner.Index.{IsPositionOf}

-- a text is one identifier's
abbrev pub OneIdentifier : Type 0
OneIdentifier = (text : List ℕ) (first second : Id) → IsTextOfId text first → IsTextOfId text second → first ≡ second

-- a property is a timestamp of one instant
abbrev pub OneTimestamp : Type 0
OneTimestamp = (precision : Precision) (name : List ℕ) (d : Data) (first second : ℤ) → IsTimestampAt precision name d first → IsTimestampAt precision name d second → first ≡ second

pub modified_once : OneTimestamp → (d : Data) (first second : Option ℤ) → IsModified d first → IsModified d second → first ≡ second
modified_once one d None None is also = refl
modified_once one d None (Some second) is also = absurd (is second also)
modified_once one d (Some first) None is also = absurd (also first is)
modified_once one d (Some first) (Some second) is also = ap Some (one Millis (codes "modified") d first second is also)

pub of_version : (objects : List Data) (id : Id) (at : ℕ) (modified : Option ℤ) → IsVersionAt objects id at modified → IsOf objects id at
of_version objects id at modified is = record { object = is.object; there = is.there; has = is.has }

pub not_both_earlier : (first second : Option ℤ) → IsEarlier first second → IsEarlier second first → ⊥
not_both_earlier None None is also = also
not_both_earlier None (Some second) is also = also
not_both_earlier (Some first) None is also = is
not_both_earlier (Some first) (Some second) is also = omega (arith, ints, is, also)

pub not_earlier_than_itself : (time : Option ℤ) → ¬ IsEarlier time time
not_earlier_than_itself time is = not_both_earlier time time is is

pub one_latest : (objects : List Data) (id : Id) (a b : ℕ) → IsLatest objects id a → IsLatest objects id b → a ≡ b
one_latest objects id a b first second =
    elim (first.latest b second.modified second.version) [
      | inl earlier ↦ elim (second.latest a first.modified first.version) [
        | inl later ↦ absurd (not_both_earlier second.modified first.modified earlier later)
        | inr same ↦ absurd (not_earlier_than_itself second.modified (subst (λ (t : Option ℤ). IsEarlier second.modified t) same.0 earlier))
      ]
      | inr same ↦ elim (second.latest a first.modified first.version) [
        | inl later ↦ absurd (not_earlier_than_itself first.modified (subst (λ (t : Option ℤ). IsEarlier first.modified t) same.0 later))
        | inr also ↦ omega arith
      ]
    ]

pub one_meaning : OneIdentifier → (objects : List Data) (text : List ℕ) (first second : Option ℕ) → ResolvesTo objects text first → ResolvesTo objects text second → first ≡ second
one_meaning one objects text None None is also = refl
one_meaning one objects text None (Some b) is also =
    absurd (is also.0 b also.1 (of_version objects also.0 b also.2.modified also.2.version))
one_meaning one objects text (Some a) None is also =
    absurd (also is.0 a is.1 (of_version objects is.0 a is.2.modified is.2.version))
one_meaning one objects text (Some a) (Some b) is also =
    let same = one text also.0 is.0 also.1 is.1 in
    ap Some (one_latest objects is.0 a b is.2 (subst (λ (id : Id). IsLatest objects id b) same also.2))

pub same_meaning : OneIdentifier → (objects : List Data) (id : Id) (text other : List ℕ) (resolved : Option ℕ) → IsTextOfId text id → IsTextOfId other id
    → ResolvesTo objects text resolved → ResolvesTo objects other resolved
same_meaning one objects id text other None is also means = λ its at reads.
    means its at (subst (λ (i : Id). IsTextOfId text i) (one other id its also reads) is)
same_meaning one objects id text other (Some at) is also means =
    (id, also, subst (λ (i : Id). IsLatest objects i at) (one text means.0 id means.1 is) means.2)

-- what is held for the identifier of a text is what the text means
pub held_is_resolved : OneIdentifier → (objects : List Data) (text : List ℕ) (id : Id) → IsTextOfId text id → (position_of : Option ℕ) → IsPositionOf objects id position_of → ResolvesTo objects text position_of
held_is_resolved one objects text id reads None is = λ its at also of.
    is at (subst (λ (i : Id). IsOf objects i at) (one text its id also reads) of)
held_is_resolved one objects text id reads (Some at) is = (id, reads, is)
