-- Positions split by whether a fact holds of them, one position more, and by one part more of an AND or an OR.
use Rattle.std.proofs.Common.{◌≡◌, ◌↔◌, ◌⊎◌, inl, inr, ℕ, List, [], ◌∷◌, ◌++◌, Bool, true, false, IsTrue, refl, sym, subst}
use Rattle.std.proofs.lemmas.Bool.{false≢true}
use Rattle.std.specs.Prelude.{Contains}
use Rattle.match_comparisons.specs.declared.split.Split.{Split}
use Rattle.match_comparisons.specs.inner.Splits.{SplitsPositions, AddsToSplit}
use Rattle.match_comparisons.proofs.ContainsLemmas.{in_more, in_both}

module _ (Fact : ℕ → Type 0) where
  module _ (asked : List ℕ) (x : ℕ) (old new : Split) (splits : SplitsPositions Fact asked old) where
    one_held : Fact x → new.held.items ≡ old.held.items ++ x ∷ [] → new.failed.items ≡ old.failed.items → SplitsPositions Fact (asked ++ x ∷ []) new
    one_held holds held failed = record {
      held = λ at has. elim ((in_more old.held.items x at).0 (subst (λ (l : List ℕ). Contains l at) held has)) [
        | inl before ↦ let it = splits.held at before in ((in_more asked x at).1 (inl it.0), it.1)
        | inr now ↦ ((in_more asked x at).1 (inr now), subst Fact (sym now) holds)
      ];
      failed = λ at has.
          let it = splits.failed at (subst (λ (l : List ℕ). Contains l at) failed has) in
          ((in_more asked x at).1 (inl it.0), it.1);
      all = λ at has. elim ((in_more asked x at).0 has) [
        | inl before ↦ elim (splits.all at before) [
          | inl is ↦ inl (subst (λ (l : List ℕ). Contains l at) (sym held) ((in_more old.held.items x at).1 (inl is)))
          | inr isnt ↦ inr (subst (λ (l : List ℕ). Contains l at) (sym failed) isnt)
        ]
        | inr now ↦ inl (subst (λ (l : List ℕ). Contains l at) (sym held) ((in_more old.held.items x at).1 (inr now)))
      ];
    }

    one_failed : (¬ Fact x) → new.held.items ≡ old.held.items → new.failed.items ≡ old.failed.items ++ x ∷ [] → SplitsPositions Fact (asked ++ x ∷ []) new
    one_failed fails held failed = record {
      held = λ at has.
          let it = splits.held at (subst (λ (l : List ℕ). Contains l at) held has) in
          ((in_more asked x at).1 (inl it.0), it.1);
      failed = λ at has. elim ((in_more old.failed.items x at).0 (subst (λ (l : List ℕ). Contains l at) failed has)) [
        | inl before ↦ let it = splits.failed at before in ((in_more asked x at).1 (inl it.0), it.1)
        | inr now ↦ ((in_more asked x at).1 (inr now), λ holds. fails (subst Fact now holds))
      ];
      all = λ at has. elim ((in_more asked x at).0 has) [
        | inl before ↦ elim (splits.all at before) [
          | inl is ↦ inl (subst (λ (l : List ℕ). Contains l at) (sym held) is)
          | inr isnt ↦ inr (subst (λ (l : List ℕ). Contains l at) (sym failed) ((in_more old.failed.items x at).1 (inl isnt)))
        ]
        | inr now ↦ inr (subst (λ (l : List ℕ). Contains l at) (sym failed) ((in_more old.failed.items x at).1 (inr now)))
      ];
    }

  pub one_more : (asked : List ℕ) (x : ℕ) (old new : Split) (holds : Bool) → SplitsPositions Fact asked old → IsTrue holds ↔ Fact x → AddsToSplit old new x holds
      → SplitsPositions Fact (asked ++ x ∷ []) new
  one_more asked x old new true splits exact adds = one_held asked x old new splits (exact.0 refl) adds.0 adds.1
  one_more asked x old new false splits exact adds = one_failed asked x old new splits (λ fact. false≢true (exact.1 fact)) adds.0 adds.1

-- Of the positions that are asked for, these still stand where the parts that come hold, and of those the parts fail.
pub record StillHeld (All Rest : ℕ → Type 0) (asked held failed : List ℕ) : Type 0 where
  pub held_is : (at : ℕ) → Contains held at → Contains asked at × (All at ↔ Rest at)
  pub failed_is : (at : ℕ) → Contains failed at → Contains asked at × (¬ All at)
  pub each : (at : ℕ) → Contains asked at → Contains held at ⊎ Contains failed at

-- the same of an OR: of those that still fail the parts that come decide
pub record StillFailed (Some Rest : ℕ → Type 0) (asked held failed : List ℕ) : Type 0 where
  pub held_is : (at : ℕ) → Contains held at → Contains asked at × Some at
  pub failed_is : (at : ℕ) → Contains failed at → Contains asked at × (Some at ↔ Rest at)
  pub each : (at : ℕ) → Contains asked at → Contains held at ⊎ Contains failed at

module _ (Whole Rest Later Part : ℕ → Type 0) (asked held failed held_new failed_new : List ℕ) (one : Split) (splits : SplitsPositions Part held one) where
  -- an AND goes on with those of which the part holds
  pub all_next : ((at : ℕ) → Rest at ↔ (Part at × Later at)) → StillHeld Whole Rest asked held failed
      → held_new ≡ one.held.items → failed_new ≡ failed ++ one.failed.items → StillHeld Whole Later asked held_new failed_new
  all_next cut still is_held is_failed = record {
    held_is = λ at has.
        let it = splits.held at (subst (λ (l : List ℕ). Contains l at) is_held has) in
        let old = still.held_is at it.0 in
        (old.0, (λ whole. ((cut at).0 (old.1.0 whole)).1, λ later. old.1.1 ((cut at).1 (it.1, later))));
    failed_is = λ at has. elim ((in_both failed one.failed.items at).0 (subst (λ (l : List ℕ). Contains l at) is_failed has)) [
      | inl before ↦ still.failed_is at before
      | inr now ↦
          let it = splits.failed at now in
          let old = still.held_is at it.0 in
          (old.0, λ whole. it.1 ((cut at).0 (old.1.0 whole)).0)
    ];
    each = λ at has. elim (still.each at has) [
      | inl stands ↦ elim (splits.all at stands) [
        | inl is ↦ inl (subst (λ (l : List ℕ). Contains l at) (sym is_held) is)
        | inr isnt ↦ inr (subst (λ (l : List ℕ). Contains l at) (sym is_failed) ((in_both failed one.failed.items at).1 (inr isnt)))
      ]
      | inr fell ↦ inr (subst (λ (l : List ℕ). Contains l at) (sym is_failed) ((in_both failed one.failed.items at).1 (inl fell)))
    ];
  }

module _ (Whole Rest Later Part : ℕ → Type 0) (asked held failed held_new failed_new : List ℕ) (one : Split) (splits : SplitsPositions Part failed one) where
  -- an OR goes on with those of which the part doesn't hold
  pub some_next : ((at : ℕ) → Rest at ↔ (Part at ⊎ Later at)) → StillFailed Whole Rest asked held failed
      → failed_new ≡ one.failed.items → held_new ≡ held ++ one.held.items → StillFailed Whole Later asked held_new failed_new
  some_next cut still is_failed is_held = record {
    failed_is = λ at has.
        let it = splits.failed at (subst (λ (l : List ℕ). Contains l at) is_failed has) in
        let old = still.failed_is at it.0 in (
          old.0,
          (
            λ whole. elim ((cut at).0 (old.1.0 whole)) [
              | inl part ↦ absurd (it.1 part)
              | inr later ↦ later
            ],
            λ later. old.1.1 ((cut at).1 (inr later)),
          ),
        );
    held_is = λ at has. elim ((in_both held one.held.items at).0 (subst (λ (l : List ℕ). Contains l at) is_held has)) [
      | inl before ↦ still.held_is at before
      | inr now ↦
          let it = splits.held at now in
          let old = still.failed_is at it.0 in
          (old.0, old.1.1 ((cut at).1 (inl it.1)))
    ];
    each = λ at has. elim (still.each at has) [
      | inl stands ↦ inl (subst (λ (l : List ℕ). Contains l at) (sym is_held) ((in_both held one.held.items at).1 (inl stands)))
      | inr fell ↦ elim (splits.all at fell) [
        | inl is ↦ inl (subst (λ (l : List ℕ). Contains l at) (sym is_held) ((in_both held one.held.items at).1 (inr is)))
        | inr isnt ↦ inr (subst (λ (l : List ℕ). Contains l at) (sym is_failed) isnt)
      ]
    ];
  }

module _ (Whole Rest : ℕ → Type 0) (asked : List ℕ) (split : Split) where
  -- no part comes any more
  pub all_over : ((at : ℕ) → Rest at) → StillHeld Whole Rest asked split.held.items split.failed.items → SplitsPositions Whole asked split
  all_over over still = record {
    held = λ at has. let it = still.held_is at has in (it.0, it.1.1 (over at));
    failed = still.failed_is;
    all = still.each;
  }

  pub some_over : ((at : ℕ) → ¬ Rest at) → StillFailed Whole Rest asked split.held.items split.failed.items → SplitsPositions Whole asked split
  some_over over still = record {
    held = still.held_is;
    failed = λ at has. let it = still.failed_is at has in (it.0, λ whole. over at (it.1.0 whole));
    all = still.each;
  }

-- those of which the fact holds
pub held_are : (Fact : ℕ → Type 0) (asked held : List ℕ) (split : Split) → SplitsPositions Fact asked split → held ≡ split.held.items → (at : ℕ) → Contains held at ↔ (Contains asked at × Fact at)
held_are Fact asked held split splits is at = (
  λ has. splits.held at (subst (λ (l : List ℕ). Contains l at) is has),
  λ both. elim (splits.all at both.0) [
    | inl there ↦ subst (λ (l : List ℕ). Contains l at) (sym is) there
    | inr isnt ↦ absurd ((splits.failed at isnt).1 both.1)
  ],
)
