-- A sighting breaks no rule.
use Rattle.std.proofs.Common.{arith, ◌≡◌, ℕ, Bool, true, false, ◌≤◌, ℤ, List, [], None, refl, subst}
use Rattle.std.specs.Prelude.{◌≤ℤ◌, ◌<ℤ◌, ◌%◌, ◌==◌, unsigned_abs, codes, if◌then◌else◌}
use Rattle.std.proofs.lemmas.Int.{ints}
use Rattle.std.proofs.lemmas.Option.{same_Some}
use Rattle.stix_times.specs.Reading.{IsTextOfInstant as IsTimeOf, IsMillisTextOf as IsMillisOf}
use Rattle.stix_ids.specs.declared.id.Id.{Id}
use Rattle.stix_ids.specs.Identifier.{IsTextOfId}
use Rattle.stix_objects.specs.declared.form.Precision.TheVariants.{Any, Millis}
use Rattle.stix_objects.specs.Conditions.{SecondIsEarlier}
use Rattle.stix_objects.specs.Breaks.{AreBreaksOf, rows_for, type_of}
use Rattle.hunt_report.specs.Sightings.{sighting_data, version_digits}
use Rattle.hunt_report.proofs.BreakLemmas.{no_breaks}
use Rattle.hunt_report.proofs.SightingKindLemmas.{sighting_kind}

-- a text names one instant
abbrev pub OneInstant : Type 0
OneInstant = (text : List ℕ) (first second : ℤ) → IsTimeOf text first → IsTimeOf text second → first ≡ second

-- a version has three digits of a second, or six
digits_many : (short : Bool) → 3 ≤ (if short then 3 else 6)
digits_many true = omega arith
digits_many false = omega arith

digits_few : (short : Bool) → (if short then 3 else 6) ≤ 6
digits_few true = omega arith
digits_few false = omega arith

pub many_digits : (instant : ℤ) → 3 ≤ version_digits instant
many_digits instant = digits_many (unsigned_abs instant % 1_000_000 == 0)

pub few_digits : (instant : ℤ) → version_digits instant ≤ 6
few_digits instant = digits_few (unsigned_abs instant % 1_000_000 == 0)

millis_time : (text : List ℕ) (instant : ℤ) → IsMillisOf text instant → IsTimeOf text instant
millis_time text instant h = (h.0, h.1, (h.2.0, h.2.2))

not_earlier : (a b from to : ℤ) → a ≤ℤ b → from ≡ a → to ≡ b → ¬ (to <ℤ from)
not_earlier a b from to order is_from is_to earlier = omega (arith, ints, order, earlier, is_from, is_to)

module _ (one : OneInstant) (count : ℕ) (few : count ≤ 999999999) (created first id last modified of : List ℕ) (created_at modified_at first_at last_at : ℤ) (own : ℕ) (indicator : Id)
    (is_created : IsMillisOf created created_at) (is_modified : IsMillisOf modified modified_at) (in_order : created_at ≤ℤ modified_at)
    (is_first : IsTimeOf first first_at) (is_last : IsTimeOf last last_at) (seen_in_order : first_at ≤ℤ last_at)
    (is_id : IsTextOfId id (record { kind = codes "sighting"; number = own })) (is_of : IsTextOfId of indicator) where
  order : ¬ SecondIsEarlier Millis (codes "created") (codes "modified") (sighting_data count created first id last modified of)
  order early =
      let from = one early.begins.text early.from created_at (millis_time early.begins.text early.from early.begins.names)
      (subst (λ (t : List ℕ). IsTimeOf t created_at) (same_Some created early.begins.text early.begins.there) (millis_time created created_at is_created)) in
      let to = one early.ends.text early.to modified_at (millis_time early.ends.text early.to early.ends.names)
      (subst (λ (t : List ℕ). IsTimeOf t modified_at) (same_Some modified early.ends.text early.ends.there) (millis_time modified modified_at is_modified)) in
      not_earlier created_at modified_at early.from early.to in_order from to early.earlier

  seen_order : ¬ SecondIsEarlier Any (codes "first_seen") (codes "last_seen") (sighting_data count created first id last modified of)
  seen_order early =
      let from = one early.begins.text early.from first_at early.begins.names
      (subst (λ (t : List ℕ). IsTimeOf t first_at) (same_Some first early.begins.text early.begins.there) is_first) in
      let to = one early.ends.text early.to last_at early.ends.names
      (subst (λ (t : List ℕ). IsTimeOf t last_at) (same_Some last early.ends.text early.ends.there) is_last) in
      not_earlier first_at last_at early.from early.to seen_in_order from to early.earlier

  pub breaks_none : AreBreaksOf (sighting_data count created first id last modified of) []
  breaks_none = no_breaks (rows_for (type_of (sighting_data count created first id last modified of))) (sighting_data count created first id last modified of)
      ((None, (None, sighting_kind, refl), refl), ((None, (None, refl, refl), refl), ((None, (None, (own, is_id), refl), refl), ((λ no. no), ((None, (None, (None, (created_at, millis_time created created_at is_created), (created_at, is_created)), refl), refl), ((None, (None, (None, (modified_at, millis_time modified modified_at is_modified), (modified_at, is_modified)), refl), refl), (order, ((λ no. no), ((λ no. no), ((λ no. no), ((λ no. no), ((λ no. no), ((λ no. no), ((λ no. no), ((λ no. no), ((λ no. no), ((λ no. no), ((None, (None, (indicator, is_of), refl), refl), ((None, (None, (omega (arith, ints), omega (arith, ints, few)), refl), refl), ((None, (None, (first_at, is_first), refl), refl), ((None, (None, (last_at, is_last), refl), refl), (seen_order, ((λ no. no), ((λ no. no), ((λ no. no), tt)))))))))))))))))))))))))
