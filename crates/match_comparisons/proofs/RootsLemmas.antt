-- The roots of some observations as a list and as a set, one root and one observation more.
use Rattle.std.proofs.Common.{◌≡◌, ◌↔◌, ◌⊎◌, inl, inr, ℕ, List, [], ◌∷◌, ◌++◌, Bool, true, false, IsTrue, refl, sym, subst}
use Rattle.std.specs.Prelude.{Contains}
use Rattle.std.proofs.lemmas.Bool.{false≢true}
use Rattle.stix_bundles.specs.declared.observation.Observation.{Observation}
use Rattle.match_comparisons.specs.declared.position_set.PositionSet.{PositionSet}
use Rattle.match_comparisons.specs.inner.PositionSet.{IsInPositions, AreOf}
use Rattle.match_comparisons.specs.inner.Roots.{IsSomeRoot}
use Rattle.match_comparisons.proofs.ContainsLemmas.{none_in, in_more}

pub not_not : (b : Bool) → ¬ (¬ IsTrue b) → IsTrue b
not_not true twice = refl
not_not false twice = absurd (twice (λ yes. false≢true yes))

module _ (roots : List ℕ) (seen more : PositionSet) (x : ℕ) (same : AreOf roots seen)
    (added : (at : ℕ) → IsInPositions more at ↔ (IsInPositions seen at ⊎ (at ≡ x))) where
  pub new_same : AreOf (roots ++ x ∷ []) more
  new_same at = (
    λ is. (in_more roots x at).1 (elim ((added at).0 is) [
      | inl before ↦ inl ((same at).0 before)
      | inr now ↦ inr now
    ]),
    λ has. (added at).1 (elim ((in_more roots x at).0 has) [
      | inl before ↦ inl ((same at).1 before)
      | inr now ↦ inr now
    ]),
  )

  pub old_same : IsInPositions seen x → AreOf roots more
  old_same there at = (
    λ is. elim ((added at).0 is) [
      | inl before ↦ (same at).0 before
      | inr now ↦ (same at).0 (subst (IsInPositions seen) (sym now) there)
    ],
    λ has. (added at).1 (inl ((same at).1 has)),
  )

-- the list holds what it held at the start, and the roots that were gone over
abbrev pub AreAdded : List ℕ → List ℕ → List ℕ → Type 0
AreAdded start gone roots = (at : ℕ) → Contains roots at ↔ (Contains start at ⊎ Contains gone at)

module _ (start gone roots : List ℕ) (x : ℕ) (are : AreAdded start gone roots) where
  pub new_added : AreAdded start (gone ++ x ∷ []) (roots ++ x ∷ [])
  new_added at = (
    λ has. elim ((in_more roots x at).0 has) [
      | inl before ↦ elim ((are at).0 before) [
        | inl old ↦ inl old
        | inr own ↦ inr ((in_more gone x at).1 (inl own))
      ]
      | inr now ↦ inr ((in_more gone x at).1 (inr now))
    ],
    λ some. (in_more roots x at).1 (elim some [
      | inl old ↦ inl ((are at).1 (inl old))
      | inr own ↦ elim ((in_more gone x at).0 own) [
        | inl before ↦ inl ((are at).1 (inr before))
        | inr now ↦ inr now
      ]
    ]),
  )

  pub old_added : Contains roots x → AreAdded start (gone ++ x ∷ []) roots
  old_added there at = (
    λ has. elim ((are at).0 has) [
      | inl old ↦ inl old
      | inr own ↦ inr ((in_more gone x at).1 (inl own))
    ],
    λ some. elim some [
      | inl old ↦ (are at).1 (inl old)
      | inr own ↦ elim ((in_more gone x at).0 own) [
        | inl before ↦ (are at).1 (inr before)
        | inr now ↦ subst (Contains roots) (sym now) there
      ]
    ],
  )

-- at the start there was nothing
pub all_added : (gone roots : List ℕ) → AreAdded [] gone roots → (at : ℕ) → Contains roots at ↔ Contains gone at
all_added gone roots are at = (
  λ has. elim ((are at).0 has) [
    | inl old ↦ absurd (none_in at old)
    | inr own ↦ own
  ],
  λ own. (are at).1 (inr own),
)

-- the roots of some observations, and of one more
pub one_more_seen : (observations : List Observation) (o : Observation) (roots more : List ℕ) → ((at : ℕ) → Contains roots at ↔ IsSomeRoot observations at)
    → AreAdded roots o.roots more → (at : ℕ) → Contains more at ↔ IsSomeRoot (observations ++ o ∷ []) at
one_more_seen observations o roots more are added at = (
  λ has. elim ((added at).0 has) [
    | inl old ↦ let it = (are at).0 old in (it.0, (in_more observations o it.0).1 (inl it.1), it.2)
    | inr own ↦ (o, (in_more observations o o).1 (inr refl), own)
  ],
  λ some. (added at).1 (elim ((in_more observations o some.0).0 some.1) [
    | inl before ↦ inl ((are at).1 (some.0, before, some.2))
    | inr now ↦ inr (subst (λ (it : Observation). Contains it.roots at) now some.2)
  ]),
)
