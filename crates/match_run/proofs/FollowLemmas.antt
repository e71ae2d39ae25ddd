-- The observations of a line that may follow: none ends before it begins, and their times don't fall.
use Rattle.std.proofs.Common.{◌≡◌, inl, inr, ℕ, suc, ◌+◌, ◌<◌, ℤ, ◌≤ℤ◌, List, [], ◌∷◌, map, All, Option, None, Some, slice_get, refl, sym, subst, ◌∙◌, arith}
use Rattle.std.proofs.lemmas.Int.{ints}
use Rattle.std.proofs.lemmas.List.Elements.{All-head, All-tail}
use Rattle.serde_json.specs.Data.{Data}
use Rattle.stix_bundles.specs.declared.observation.Observation.{Observation}
use Rattle.stix_bundles.specs.Bundle.{AreAllBreaks}
use Rattle.stix_bundles.specs.Observations.{IsObservationAt, ObservationAt, AreObservations, IsObservedBefore}
use Rattle.match_stream.specs.MatcherState.{Falls}
use Rattle.match_input.specs.Line.{IsInOrderAfter, IsBundleLine}
use Rattle.match_run.specs.Reading.{MayFollow}

-- observations of whole bundles are spans
abbrev pub Spans : Type 0
Spans = (objects : List Data) (number : ℕ) (observations : List Observation) → AreAllBreaks 0 objects []
    → AreObservations objects number observations → All (λ observation. observation.first ≤ℤ observation.last) observations

no_fall : (last : Option ℤ) (o : Observation) (more : List Observation) → IsInOrderAfter last (o ∷ more) → ¬ (Falls last o.last)
no_fall None o more order falls = falls
no_fall (Some last) o more order falls = grind (arith, ints)

next_order : (s t : ObservationAt) → IsObservedBefore s t → s.observation.last ≤ℤ t.observation.last
next_order s t (inl before) = grind (arith, ints)
next_order s t (inr same) = let is = same.0 in grind (arith, ints)

order_behind : (s : ObservationAt) (seen : List ObservationAt) → ((t : ObservationAt) → slice_get seen 0 ≡ Some t → IsObservedBefore s t)
    → IsInOrderAfter (Some s.observation.last) (map (λ s. s.observation) seen)
order_behind s [] before = tt
order_behind s (t ∷ seen) before = next_order s t (before t refl)

follow : (objects : List Data) (last : Option ℤ) (next : ℕ) (seen : List ObservationAt)
    → ((k : ℕ) (s : ObservationAt) → slice_get seen k ≡ Some s → IsObservationAt objects s.at (next + k) s.observation)
    → ((j k : ℕ) (s t : ObservationAt) → j < k → slice_get seen j ≡ Some s → slice_get seen k ≡ Some t → IsObservedBefore s t)
    → All (λ observation. observation.first ≤ℤ observation.last) (map (λ s. s.observation) seen)
    → IsInOrderAfter last (map (λ s. s.observation) seen) → MayFollow last next (map (λ s. s.observation) seen)
follow objects last next [] each before spans order = tt
follow objects last next (s ∷ seen) each before spans order =
    let number : s.observation.number ≡ next = (each 0 s refl).numbered ∙ (let e : next + 0 ≡ next = omega arith in e) in (
      All-head (λ (o : Observation). o.first ≤ℤ o.last) s.observation (map (λ s. s.observation) seen) spans,
      number,
      no_fall last s.observation (map (λ s. s.observation) seen) order,
      follow objects (Some s.observation.last) (next + 1) seen
          (λ k t there. subst (λ (n : ℕ). IsObservationAt objects t.at n t.observation) (let e : next + suc k ≡ (next + 1) + k = omega arith in e) (each (suc k) t there))
          (λ j k a b below first second. before (suc j) (suc k) a b (omega arith) first second)
          (All-tail (λ (o : Observation). o.first ≤ℤ o.last) s.observation (map (λ s. s.observation) seen) spans)
          (order_behind s seen (λ t there. before 0 1 s t (omega arith) refl there)),
    )

pub may_follow : Spans → (last : Option ℤ) (next : ℕ) (bytes : List ℕ) (objects : List Data) (observations : List Observation)
    → IsBundleLine last next bytes objects observations → MayFollow last next observations
may_follow spans last next bytes objects observations line =
    let are = line.are in
    let all = spans objects next observations line.text.bundle.unbroken are in
    subst (λ (os : List Observation). MayFollow last next os) (sym are.are)
    (follow objects last next are.seen are.each are.in_order
    (subst (λ (os : List Observation). All (λ observation. observation.first ≤ℤ observation.last) os) are.are all)
    (subst (λ (os : List Observation). IsInOrderAfter last os) are.are line.in_order))
