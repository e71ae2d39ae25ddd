-- Rows of truths, and when a bracket holds for an observation.
use Rattle.std.proofs.Common.{arith, suc, ◌+◌, ◌<◌, take, drop, set, get_or, append_assoc, drop-cons, drop-set-lt, take-suc-set, add-one, take_all, Result, Ok, Err, ◌≡◌, ◌≢◌, ◌≤◌, ◌↔◌, inl, inr, ℕ, List, [], ◌∷◌, ◌++◌, length, map, not, Bool, true, false, IsTrue, refl, sym, ap, subst, ◌∙◌}
use Rattle.std.specs.Prelude.{Contains, OnOk}
use Rattle.std.specs.List.{AllZip}
use Rattle.std.proofs.Math.Seq.{take-append_seam}
use Rattle.std.proofs.lemmas.Bool.{false≢true}
use Rattle.serde_json.specs.Data.{Data}
use Rattle.match_comparisons.proofs.ContainsLemmas.{take_next}
use Rattle.stix_bundles.specs.declared.observation.Observation.{Observation}
use Rattle.pattern_types.specs.PlainLeaf.{PlainLeaf}
use Rattle.match_comparisons.specs.declared.position_set.PositionSet.{PositionSet}
use Rattle.match_comparisons.specs.declared.split.Split.{Split}
use Rattle.match_comparisons.specs.Tests.{HoldsAt, LeafHolds}
use Rattle.match_comparisons.specs.Truths.{AreOfBoth}
use Rattle.match_comparisons.specs.inner.PositionSet.{IsInPositions, AreOf}
use Rattle.match_comparisons.specs.inner.Splits.{SplitsPositions}
use Rattle.match_comparisons.specs.inner.Rows.{AppendsTruths, AddsToEach}

-- one of the roots is among the positions at which the bracket holds
abbrev pub HasSome : PositionSet → List ℕ → Type 0
HasSome position_set roots = (root : ℕ) × Contains roots root × IsInPositions position_set root

-- a bracket holds for an observation where one of its roots is among those at which it was found to hold
pub holds_some : (objects : List Data) (leaf : PlainLeaf) (roots asked : List ℕ) (split : Split) (held : PositionSet)
    → SplitsPositions (λ (at : ℕ). HoldsAt objects at leaf) asked split → AreOf split.held.items held
    → ((at : ℕ) → Contains roots at → Contains asked at) → HasSome held roots ↔ LeafHolds objects roots leaf
holds_some objects leaf roots asked split held splits same among = (
  λ some. (some.0, some.1, (splits.held some.0 ((same some.0).0 some.2)).1),
  λ holds. elim (splits.all holds.0 (among holds.0 holds.1)) [
    | inl is ↦ (holds.0, holds.1, (same holds.0).1 is)
    | inr isnt ↦ absurd ((splits.failed holds.0 isnt).1 holds.2)
  ],
)

-- truths that are added to the row of each observation
module _ (Own : Observation → List Bool → Type 0) where
  -- of one observation more
  pub each_more : (observations : List Observation) (olds news : List (List Bool)) (observation : Observation) (old new : List Bool)
      → AddsToEach Own observations olds news → AppendsTruths (Own observation) old new
      → AddsToEach Own (observations ++ observation ∷ []) (olds ++ old ∷ []) (news ++ new ∷ [])
  each_more [] [] [] observation old new adds one = (one, tt)
  each_more (first ∷ observations) (before ∷ olds) (after ∷ news) observation old new adds one =
      (adds.0, each_more observations olds news observation old new adds.1 one)
  each_more [] [] (after ∷ news) observation old new adds one = absurd adds
  each_more [] (before ∷ olds) news observation old new adds one = absurd adds
  each_more (first ∷ observations) [] news observation old new adds one = absurd adds
  each_more (first ∷ observations) (before ∷ olds) [] observation old new adds one = absurd adds

  -- to rows of none
  pub each_alone : (observations : List Observation) (news : List (List Bool)) → AddsToEach Own observations (map (λ (_ : Observation). []) observations) news → AllZip Own observations news
  each_alone [] [] adds = tt
  each_alone (observation ∷ observations) (new ∷ news) adds =
      (subst (Own observation) (sym adds.0.1) adds.0.2, each_alone observations news adds.1)
  each_alone [] (new ∷ news) adds = absurd adds
  each_alone (observation ∷ observations) [] adds = absurd adds

-- those of both sides, one after the other
module _ (Left Right : Observation → List Bool → Type 0) where
  pub each_both : (observations : List Observation) (olds mids news : List (List Bool)) → AddsToEach Left observations olds mids → AddsToEach Right observations mids news
      → AddsToEach (λ (observation : Observation) (own : List Bool). AreOfBoth (Left observation) (Right observation) own) observations olds news
  each_both [] [] [] [] lefts rights = tt
  each_both (observation ∷ observations) (old ∷ olds) (mid ∷ mids) (new ∷ news) lefts rights =
      let own = lefts.0 in
      let also = rights.0 in (
        (own.0 ++ also.0, also.1 ∙ ap (λ front. front ++ also.0) own.1 ∙ append_assoc old own.0 also.0, (own.0, also.0, own.2, also.2, refl)),
        each_both observations olds mids news lefts.1 rights.1,
      )
  each_both [] [] [] (new ∷ news) lefts rights = absurd rights
  each_both [] [] (mid ∷ mids) news lefts rights = absurd lefts
  each_both [] (old ∷ olds) mids news lefts rights = absurd lefts
  each_both (observation ∷ observations) [] mids news lefts rights = absurd lefts
  each_both (observation ∷ observations) (old ∷ olds) [] news lefts rights = absurd lefts
  each_both (observation ∷ observations) (old ∷ olds) (mid ∷ mids) [] lefts rights = absurd rights

-- one row more, of those that a loop goes along
module _ (Own : Observation → List Bool → Type 0) (observations : List Observation) (olds news : List (List Bool)) (i : ℕ) (observation : Observation) (row new : List Bool) where
  pub row_more : i < length observations → i < length olds → i < length news → observation ≡ get_or observations i observation → row ≡ get_or news i row
      → drop i news ≡ drop i olds → AddsToEach Own (take i observations) (take i olds) (take i news) → AppendsTruths (Own observation) row new
      → AddsToEach Own (take (i + 1) observations) (take (i + 1) olds) (take (i + 1) (set news i new)) × (drop (i + 1) (set news i new) ≡ drop (i + 1) olds)
  row_more in_observations in_olds in_news is row_is same adds one =
      let ahead = drop-cons news i row in_news in
      let before = drop-cons olds i row in_olds in
      let old : row ≡ get_or olds i row = cc (ahead, before, same, row_is) in
      let rest : drop (suc i) news ≡ drop (suc i) olds = cc (ahead, before, same) in
      let of_observations = take_next observations i observation in_observations is in
      let of_olds = take_next olds i row in_olds old in
      let of_news : take (i + 1) (set news i new) ≡ take i news ++ new ∷ [] = rw add-one (take-suc-set news i new in_news) in (
        rw (of_observations, of_olds, of_news) (each_more Own (take i observations) (take i olds) (take i news) observation row new adds one),
        rw add-one (drop-set-lt (suc i) news i new (omega arith) ∙ rest),
      )

pub rows_whole : (Own : Observation → List Bool → Type 0) (observations : List Observation) (olds news : List (List Bool)) (i : ℕ)
    → length observations ≤ i → length olds ≤ i → length news ≤ i → AddsToEach Own (take i observations) (take i olds) (take i news) → AddsToEach Own observations olds news
rows_whole Own observations olds news i observations_end olds_end news_end adds =
    rw (take_all i observations observations_end, take_all i olds olds_end, take_all i news news_end) at adds

-- so many of a list and another are the list
pub whole_front : {A : Type 0} (n : ℕ) (front back : List A) → n ≡ length front → take n (front ++ back) ≡ front
whole_front n front back is = rw is (take-append_seam front back)

pub on_ok : {T E : Type 0} (r : Result T E) {P Q : Type 0} → (P → Q) → OnOk r P → OnOk r Q
on_ok (Ok done) on holds = on holds
on_ok (Err error) on holds = tt

-- some root holds where some position is left of those at which the bracket was found to hold
module _ (objects : List Data) (leaf : PlainLeaf) (roots asked : List ℕ) (split : Split)
    (splits : SplitsPositions (λ (at : ℕ). HoldsAt objects at leaf) asked split) (same : (at : ℕ) → Contains asked at ↔ Contains roots at) where
  held_some : (held : List ℕ) → held ≡ split.held.items → LeafHolds objects roots leaf ↔ (1 ≤ length held)
  held_some held is = (
    λ holds. elim (splits.all holds.0 ((same holds.0).1 holds.1)) [
      | inl found ↦ let there = subst (λ (l : List ℕ). Contains l holds.0) (sym is) found in omega (arith, there.1)
      | inr isnt ↦ absurd ((splits.failed holds.0 isnt).1 holds.2)
    ],
    λ some. first held some is,
  ) where
    first : (held : List ℕ) → 1 ≤ length held → held ≡ split.held.items → LeafHolds objects roots leaf
    first [] some is = absurd (omega (arith, some))
    first (at ∷ held) some is =
        let it = splits.held at (subst (λ (l : List ℕ). Contains l at) is (0, omega arith, refl)) in
        (at, (same at).0 it.0, it.1)

  pub some_held : (empty : Bool) → (IsTrue empty ↔ (length split.held.items ≡ 0)) → IsTrue (not empty) ↔ LeafHolds objects roots leaf
  some_held true is = (λ no. absurd (false≢true no), λ holds. absurd (omega (arith, is.0 refl, (held_some split.held.items refl).0 holds)))
  some_held false is = (λ yes. (held_some split.held.items refl).1 (some_more split.held.items (λ none. false≢true (is.1 none))), λ holds. refl) where
    some_more : (l : List ℕ) → (length l ≢ 0) → 1 ≤ length l
    some_more [] isnt = absurd (isnt refl)
    some_more (at ∷ l) isnt = omega arith
