-- One thing more, and the order.
use Rattle.std.proofs.Common.{◌≤◌, ◌<◌, List, ◌∷◌, [], length, subst, sym, ◌∙◌, inl, inr, rules, arith}
use Rattle.std.specs.Prelude.{slice_index_or}
use Rattle.std.specs.List.{Contains}
use Rattle.std.proofs.lemmas.Bool.{cases_order}
use Rattle.std.proofs.lemmas.List.Elements.{at_read, Contains-append_left, Contains-push, Contains-push_cases}
use Rattle.std.proofs.lemmas.List.Sorted.{Contains-permutation, IsPermutation-sym}
use Rattle.match_pruning.specs.declared.key.SortKey.{SortKey}
use Rattle.match_pruning.specs.declared.partial_match.PartialMatch.{PartialMatch}
use Rattle.match_pruning.specs.inner.PartialMatches.{partial_match_tree}
use Rattle.match_pruning.specs.inner.SkipIndexes.{HasCommon}
use Rattle.match_pruning.proofs.skip_index.sorted_keys.Goals as goal

pub places-preserved : goal.places-preserved
places-preserved c =
    let candidates = c.args.candidates.now in let at = c.places.place in let before = c.places.invariant in let key = c.in_ok-key.key in
    let old = c.places.keys.items in let more = c.in_ok-push.ensures.items in
    let here : at < length candidates = search rules in
    let candidate : (d : PartialMatch) → HasCommon key.numbers.items key.begin (partial_match_tree (slice_index_or candidates key.place d))
    = subst (λ i. (d : PartialMatch) → HasCommon key.numbers.items key.begin (partial_match_tree (slice_index_or candidates i d))) (sym c.in_ok-key.ensures.place)
    (at_read candidates (λ (p : PartialMatch). HasCommon key.numbers.items key.begin (partial_match_tree p)) at c.index-candidates-place.result here c.index-candidates-place.is c.in_ok-key.ensures.candidate) in
    record {
      each = λ other there. elim (Contains-push_cases old key other (subst (λ (z : List SortKey). Contains z other) more there)) [
        | inl was ↦ before.each other was
        | inr is ↦ subst (λ (k : SortKey). (k.place < length candidates) × ((d : PartialMatch) → HasCommon k.numbers.items k.begin (partial_match_tree (slice_index_or candidates k.place d)))) is
            (subst (λ i. i < length candidates) (sym c.in_ok-key.ensures.place) here, candidate)
      ];
      all = λ place low. elim (cases_order place at) [
        | inl e ↦ (key, subst (λ (z : List SortKey). Contains z key) (sym more) (Contains-push old key), c.in_ok-key.ensures.place ∙ sym e)
        | inr z ↦ elim z [
          | inl lt ↦ (let found = before.all place lt in
              (found.0, subst (λ (y : List SortKey). Contains y found.0) (sym more) (Contains-append_left old (key ∷ []) found.0 found.1), found.2))
          | inr gt ↦ absurd (omega (arith, gt, low))
        ]
      ];
    }

pub returns : goal.returns
returns c =
    let before = c.places.invariant in let moved = c.sort_unstable_by.ensures.permutation in
    let all : length c.args.candidates.now ≤ c.places.place = search rules in
    record {
      each = λ key there. before.each key (Contains-permutation _ _ key (IsPermutation-sym _ _ moved) there);
      all = λ place low. let found = before.all place (omega (arith, low, all)) in (found.0, Contains-permutation _ _ found.0 moved found.1, found.2);
    }
