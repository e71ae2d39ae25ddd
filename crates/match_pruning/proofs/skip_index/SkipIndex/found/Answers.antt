-- Keys that are passed, and one that may be told.
use Rattle.std.proofs.Common.{◌≡◌, ◌≤◌, ◌<◌, ◌⊎◌, ℕ, List, ◌∷◌, [], ◌++◌, length, subst, sym, inl, inr, rules, arith}
use Rattle.std.specs.Prelude.{slice_index_or, true}
use Rattle.std.specs.List.{Contains}
use Rattle.std.proofs.lemmas.Bool.{cases_order}
use Rattle.std.proofs.lemmas.List.Elements.{at_read, AllWithin-more, Contains-append_left, Contains-push, Contains-push_cases}
use Rattle.match_pruning.specs.declared.key.SortKey.{SortKey}
use Rattle.match_pruning.specs.inner.SkipIndexes.{HasCommon, IsExcluded}
use Rattle.match_pruning.proofs.skip_index.SkipIndex.found.Goals as goal
use Rattle.match_pruning.proofs.skip_index.SkipIndex.found.Goals.{then-not-excludes+in_ok-push, else-not-excludes}

pub keys-preserved-then-at-passed : goal.keys-preserved-then-at-passed
keys-preserved-then-at-passed c =
    let before = c.keys.invariant in let at = c.keys.at in
    let told = c.passed-passed.ensures c.if-at-passed.true in
    record {
      others = λ k d low high. elim (cases_order k at) [
        | inl e ↦ (let from : at ≤ k = omega (arith, e) in inr (told.1 k d from high))
        | inr z ↦ elim z [
          | inl lt ↦ before.others k d low lt
          | inr gt ↦ (let from : at ≤ k = omega (arith, gt) in inr (told.1 k d from high))
        ]
      ];
      from = before.from;
    }

pub keys-preserved : goal.keys-preserved
keys-preserved c =
    let before = c.keys.invariant in let at = c.keys.at in let keys = c.args.self.now.keys.items in let key = c.in-Some.key.now in
    let old = c.keys.places.items in let query = c.args.query.now in
    let here : at < length keys = search rules in
    let is : key ≡ slice_index_or keys at key = subst (λ (z : List SortKey). key ≡ slice_index_or z at key) c.deref.ensures.value c.in-Some.ensures.lookup.1 in
    elim c.if-not-excludes.branch [
      | then-not-excludes+in_ok-push w ↦ (
          let more : c.if-not-excludes.places.items ≡ old ++ key.place ∷ [] = search rules in
          let kept : (k : SortKey) → Contains old k.place ⊎ IsExcluded query k → Contains c.if-not-excludes.places.items k.place ⊎ IsExcluded query k
          = λ k told. elim told [
            | inl there ↦ inl (subst (λ (z : List ℕ). Contains z k.place) (sym more) (Contains-append_left old (key.place ∷ []) k.place there))
            | inr passed ↦ inr passed
          ] in
          let pushed : Contains c.if-not-excludes.places.items key.place = subst (λ (z : List ℕ). Contains z key.place) (sym more) (Contains-push old key.place) in
          record {
            others = AllWithin-more (λ (k : SortKey). Contains c.if-not-excludes.places.items k.place ⊎ IsExcluded query k) keys 0 at (λ k d low high. kept (slice_index_or keys k d) (before.others k d low high))
                (at_read keys (λ (k : SortKey). Contains c.if-not-excludes.places.items k.place ⊎ IsExcluded query k) at key here is (inl pushed));
            from = λ place there. elim (Contains-push_cases old key.place place (subst (λ (z : List ℕ). Contains z place) more there)) [
              | inl was ↦ before.from place was
              | inr same ↦ (key, (at, here, sym is), same)
            ];
          })
      | else-not-excludes w ↦ (
          let same : c.if-not-excludes.places.items ≡ old = search rules in
          let yes : c.excludes.result ≡ true = search rules in
          let passed : IsExcluded query key = λ second common. c.excludes.ensures yes second
          (subst (λ (z : List ℕ). HasCommon z key.begin second) (sym c.deref-else-at-passed.ensures.value) common) in
          let kept : (k : SortKey) → Contains old k.place ⊎ IsExcluded query k → Contains c.if-not-excludes.places.items k.place ⊎ IsExcluded query k
          = λ k. subst (λ (z : List ℕ). Contains z k.place ⊎ IsExcluded query k) (sym same) in
          record {
            others = AllWithin-more (λ (k : SortKey). Contains c.if-not-excludes.places.items k.place ⊎ IsExcluded query k) keys 0 at (λ k d low high. kept (slice_index_or keys k d) (before.others k d low high))
                (at_read keys (λ (k : SortKey). Contains c.if-not-excludes.places.items k.place ⊎ IsExcluded query k) at key here is (inr passed));
            from = λ place there. before.from place (subst (λ (z : List ℕ). Contains z place) same there);
          })
    ]

pub returns-clause-others : goal.returns-clause-others
returns-clause-others c = λ key there.
    let all : length c.args.self.now.keys.items ≤ c.keys.at = search rules in
    let told = c.keys.invariant.others there.0 key (omega arith) (omega (arith, there.1, all)) in
    subst (λ (k : SortKey). Contains c.keys.places.items k.place ⊎ IsExcluded c.args.query.now k) there.2 told
