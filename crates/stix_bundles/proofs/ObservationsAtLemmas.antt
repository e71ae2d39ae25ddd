-- The observations at the first last times, one last time more.
use Rattle.std.proofs.Common.{arith, ◌≡◌, ◌⊎◌, inl, inr, ◌+◌, ◌<◌, ℕ, List, [], ◌∷◌, ◌++◌, length, take, get_or, slice_get, Some, length-append, sym, ap, refl, subst, ◌∙◌}
use Rattle.std.proofs.lemmas.Bool.{cases_lt}
use Rattle.std.proofs.lemmas.List.{take_more, map-append, length-map, get_or_append_left, get_or_push, length-take-le}
use Rattle.std.proofs.lemmas.Option.{slice_get_within, slice_get-get_or, get_or_from_slice_get}
use Rattle.serde_json.specs.Data.{Data}
use Rattle.stix_bundles.specs.declared.last_time.LastTime.{LastTime}
use Rattle.stix_bundles.specs.declared.observation.Observation.{Observation}
use Rattle.stix_bundles.specs.Observations.{ObservationAt, IsObservationAt}
use Rattle.stix_bundles.specs.inner.LastTimes.{AreObservationsAt, last_time_of}

pub none_told : (ds : List Data) (first : ℕ) → AreObservationsAt ds first [] []
none_told ds first = record { seen = []; are = refl; at = refl; each = λ k s there. absurd cc }

-- what is in a list with one item more is in the list, or is that item
push_cases : {X : Type 0} (xs : List X) (x : X) (k : ℕ) (y : X) → slice_get (xs ++ x ∷ []) k ≡ Some y → (slice_get xs k ≡ Some y) ⊎ ((k ≡ length xs) × (x ≡ y))
push_cases {X} xs x k y there =
    let inside = slice_get_within (xs ++ x ∷ []) k y there in
    let count = length-append xs (x ∷ []) in
    let reads = get_or_from_slice_get (xs ++ x ∷ []) k y y there in
    elim (cases_lt k (length xs)) [
      | inl within ↦ inl (slice_get-get_or xs k y within ∙ ap Some (sym (get_or_append_left xs (x ∷ []) y k within) ∙ reads))
      | inr past ↦
          let last : length xs ≡ k = omega arith in
          inr (sym last, sym (get_or_push xs x y k last) ∙ reads)
    ]

pub told_more : (ds : List Data) (first : ℕ) (ms : List LastTime) (at : ℕ) (m : LastTime) (list : List Observation) (o : Observation) → at < length ms → get_or ms at m ≡ m
    → AreObservationsAt ds first (take at ms) list → IsObservationAt ds m.at (first + at) o → o.last ≡ m.last → AreObservationsAt ds first (take (at + 1) ms) (list ++ o ∷ [])
told_more ds first ms at m list o inside reads told is last =
    let new : ObservationAt = record { at = m.at; observation = o } in
    let its_moment : last_time_of new ≡ m = ap (λ t. let x : LastTime = record { last = t; at = m.at } in x) last in
    let grown : take (at + 1) ms ≡ take at ms ++ m ∷ [] = take_more ms at m inside ∙ ap (λ (x : LastTime). take at ms ++ x ∷ []) reads in
    let count : length told.seen ≡ at = sym (length-map told.seen last_time_of) ∙ ap (λ (xs : List LastTime). length xs) told.at ∙ length-take-le at ms (omega arith) in
    record {
      seen = told.seen ++ new ∷ [];
      are = ap (λ (os : List Observation). os ++ o ∷ []) told.are ∙ sym (map-append (λ (s : ObservationAt). s.observation) told.seen (new ∷ []));
      at = map-append last_time_of told.seen (new ∷ []) ∙ ap (λ (xs : List LastTime). xs ++ last_time_of new ∷ []) told.at ∙ ap (λ (x : LastTime). take at ms ++ x ∷ []) its_moment ∙ sym grown;
      each = λ k s there. elim (push_cases told.seen new k s there) [
        | inl before ↦ told.each k s before
        | inr here ↦
            let place : at ≡ k = sym count ∙ sym here.0 in
            subst (λ (x : ObservationAt). IsObservationAt ds x.at (first + k) x.observation) here.1 (subst (λ n. IsObservationAt ds m.at (first + n) o) place is)
      ];
    }
