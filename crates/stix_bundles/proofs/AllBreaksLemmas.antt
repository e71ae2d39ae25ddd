-- The breaks of all objects, one object more.
use Rattle.std.proofs.Common.{arith, ◌≡◌, ℕ, ◌+◌, ◌<◌, List, [], ◌∷◌, ◌++◌, length, map, take, slice_index_or, append-nil, append_assoc, refl, sym, ap, subst, ◌∙◌}
use Rattle.std.proofs.lemmas.Option.{get_or_from_slice_get}
use Rattle.std.proofs.lemmas.List.{take_more, length-map, length-take-le}
use Rattle.serde_json.specs.Data.{Data}
use Rattle.stix_json.specs.declared.value.Json.{Json}
use Rattle.stix_json.specs.DataOf.{data_of}
use Rattle.stix_objects.specs.declared.rule_break.Break.{Break}
use Rattle.stix_objects.specs.Breaks.{AreBreaksOf}
use Rattle.stix_bundles.specs.declared.object_break.ObjectBreak.{ObjectBreak}
use Rattle.stix_bundles.specs.Objects.{data_in}
use Rattle.stix_bundles.specs.Bundle.{AreAllBreaks, break_of_object}
use Rattle.stix_bundles.proofs.ObjectsLemmas.{data_read}

pub all_breaks_more : (at : ℕ) (xs : List Data) (x : Data) (breaks : List ObjectBreak) (own : List Break)
    → AreAllBreaks at xs breaks → AreBreaksOf x own → AreAllBreaks at (xs ++ x ∷ []) (breaks ++ map (break_of_object (at + length xs)) own)
all_breaks_more at [] x breaks own none is =
    let here : map (break_of_object (at + 0)) own ≡ map (break_of_object at) own = ap (λ n. map (break_of_object n) own) (omega arith) in
    (own, [], is, refl, ap (λ bs. bs ++ map (break_of_object (at + 0)) own) none ∙ here ∙ sym (append-nil (map (break_of_object at) own)))
all_breaks_more at (y ∷ ys) x breaks own all is =
    let first = all.0 in
    let rest = all.1 in
    let place : at + length (y ∷ ys) ≡ at + 1 + length ys = omega arith in
    let here : map (break_of_object (at + length (y ∷ ys))) own ≡ map (break_of_object (at + 1 + length ys)) own = ap (λ n. map (break_of_object n) own) place in (
      first,
      rest ++ map (break_of_object (at + 1 + length ys)) own,
      all.2,
      all_breaks_more (at + 1) ys x rest own all.3 is,
      ap (λ bs. bs ++ map (break_of_object (at + length (y ∷ ys))) own) all.4 ∙ ap (λ bs. (map (break_of_object at) first ++ rest) ++ bs) here
          ∙ append_assoc (map (break_of_object at) first) rest (map (break_of_object (at + 1 + length ys)) own),
    )

-- the same in a loop over JSON values
pub breaks_at : (values : List Json) (at : ℕ) (value : Json) (breaks : List ObjectBreak) (own : List Break) → at < length values
    → value ≡ slice_index_or values at value → AreAllBreaks 0 (take at (data_in values)) breaks → AreBreaksOf (data_of value) own
    → AreAllBreaks 0 (take (at + 1) (data_in values)) (breaks ++ map (break_of_object at) own)
breaks_at values at value breaks own inside is all broken =
    let within : at < length (data_in values) = subst (λ n. at < n) (sym (length-map values data_of)) inside in
    let ds = data_in values in
    let x = data_of value in
    let there = data_read values at value inside is in
    let grown : take (at + 1) ds ≡ take at ds ++ x ∷ [] = take_more ds at x within ∙ ap (λ y. take at ds ++ y ∷ []) (get_or_from_slice_get ds at x x there) in
    let taken : length (take at ds) ≡ at = length-take-le at ds (omega arith) in
    let count : 0 + length (take at ds) ≡ at = omega arith in
    let more = all_breaks_more 0 (take at ds) x breaks own all broken in
    subst (λ (ys : List Data). AreAllBreaks 0 ys (breaks ++ map (break_of_object at) own)) (sym grown)
    (subst (λ n. AreAllBreaks 0 (take at ds ++ x ∷ []) (breaks ++ map (break_of_object n) own)) count more)
