-- The breaks of the first markings of an object, and of the first objects, one more.
use Rattle.std.proofs.Common.{arith, ◌≡◌, ℕ, ◌+◌, ◌<◌, List, [], ◌∷◌, ◌++◌, length, map, take, slice_index_or, Option, option_to_list, append-nil, append_assoc, refl, sym, ap, subst, ◌∙◌}
use Rattle.serde_json.specs.Data.{Data}
use Rattle.stix_json.specs.declared.value.Json.{Json}
use Rattle.stix_json.specs.DataOf.{data_of}
use Rattle.stix_bundles.specs.Objects.{data_in}
use Rattle.stix_versions.specs.declared.marking_break.MarkingRule.{MarkingRule}
use Rattle.stix_versions.specs.declared.marking_break.MarkingBreak.{MarkingBreak}
use Rattle.stix_versions.specs.Markings.{AreBreaksOfMarkings, AreMarkingBreaksFrom, IsBreakOf, break_of_marking}
use Rattle.stix_versions.specs.inner.Selectors.{AreOwnBreaks}
use Rattle.stix_versions.proofs.FirstObjectsLemmas.{taken_more, taken_count}

-- what is told of the marking at the place
abbrev pub told : ℕ → ℕ → Option MarkingRule → List MarkingBreak
told place at found = map (break_of_marking place at) (option_to_list found)

breaks_more : (place : ℕ) (d : Data) (at : ℕ) (ms : List Data) (m : Data) (own : List MarkingBreak) (found : Option MarkingRule) → AreBreaksOfMarkings place d at ms own → IsBreakOf d m found
    → AreBreaksOfMarkings place d at (ms ++ m ∷ []) (own ++ told place (at + length ms) found)
breaks_more place d at [] m own found none is =
    let here : told place (at + 0) found ≡ told place at found = ap (λ n. told place n found) (omega arith) in
    (found, [], is, refl, ap (λ bs. bs ++ told place (at + 0) found) none ∙ here ∙ sym (append-nil (told place at found)))
breaks_more place d at (y ∷ ys) m own found all is =
    let first = told place at all.0 in
    let rest = all.1 in
    let place_is : at + length (y ∷ ys) ≡ at + 1 + length ys = omega arith in
    let here : told place (at + length (y ∷ ys)) found ≡ told place (at + 1 + length ys) found = ap (λ n. told place n found) place_is in (
      all.0,
      rest ++ told place (at + 1 + length ys) found,
      all.2,
      breaks_more place d (at + 1) ys m rest found all.3 is,
      ap (λ bs. bs ++ told place (at + length (y ∷ ys)) found) all.4 ∙ ap (λ bs. (first ++ rest) ++ bs) here
          ∙ append_assoc first rest (told place (at + 1 + length ys) found),
    )

objects_more : (place : ℕ) (ds : List Data) (x : Data) (breaks own : List MarkingBreak) → AreMarkingBreaksFrom place ds breaks → AreOwnBreaks (place + length ds) x own
    → AreMarkingBreaksFrom place (ds ++ x ∷ []) (breaks ++ own)
objects_more place [] x breaks own none is =
    let start : place + 0 ≡ place = omega arith in
    let here = subst (λ n. AreOwnBreaks n x own) start is in
    (here.0, own, [], here.1, here.2, refl, ap (λ bs. bs ++ own) none ∙ sym (append-nil own))
objects_more place (y ∷ ys) x breaks own all is =
    let place_is : place + length (y ∷ ys) ≡ place + 1 + length ys = omega arith in
    let here = subst (λ n. AreOwnBreaks n x own) place_is is in (
      all.0,
      all.1,
      all.2 ++ own,
      all.3,
      all.4,
      objects_more (place + 1) ys x all.2 own all.5 here,
      ap (λ bs. bs ++ own) all.6 ∙ append_assoc all.1 all.2 own,
    )

-- the same in a loop over JSON values
pub breaks_at : (place : ℕ) (d : Data) (values : List Json) (at : ℕ) (value : Json) (own : List MarkingBreak) (found : Option MarkingRule) → at < length values
    → value ≡ slice_index_or values at value → AreBreaksOfMarkings place d 0 (take at (data_in values)) own → IsBreakOf d (data_of value) found
    → AreBreaksOfMarkings place d 0 (take (at + 1) (data_in values)) (own ++ told place at found)
breaks_at place d values at value own found inside is all broken =
    let before = take at (data_in values) in
    let count : 0 + length before ≡ at = omega (arith, taken_count values at (omega arith)) in
    let more = breaks_more place d 0 before (data_of value) own found all broken in
    subst (λ (ys : List Data). AreBreaksOfMarkings place d 0 ys (own ++ told place at found)) (sym (taken_more values at value inside is))
    (subst (λ n. AreBreaksOfMarkings place d 0 (before ++ data_of value ∷ []) (own ++ told place n found)) count more)

pub objects_at : (values : List Json) (at : ℕ) (value : Json) (breaks own : List MarkingBreak) → at < length values → value ≡ slice_index_or values at value
    → AreMarkingBreaksFrom 0 (take at (data_in values)) breaks → AreOwnBreaks at (data_of value) own → AreMarkingBreaksFrom 0 (take (at + 1) (data_in values)) (breaks ++ own)
objects_at values at value breaks own inside is all broken =
    let before = take at (data_in values) in
    let count : at ≡ 0 + length before = omega (arith, taken_count values at (omega arith)) in
    subst (λ (ys : List Data). AreMarkingBreaksFrom 0 ys (breaks ++ own)) (sym (taken_more values at value inside is))
    (objects_more 0 before (data_of value) breaks own all (subst (λ n. AreOwnBreaks n (data_of value) own) count broken))
