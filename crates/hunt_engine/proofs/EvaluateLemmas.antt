-- One root more is judged, and what is judged once all are; and the same of the candidates of one root.
use Rattle.std.proofs.Common.{◌≡◌, ℕ, zero, suc, ◌+◌, ◌≤◌, ◌<◌, List, [], ◌∷◌, ◌++◌, length, set, replicate, get_or, refl, sym, ◌∙◌, ap, subst, arith, inl, inr}
use Rattle.std.specs.Prelude.{◌⊎◌, ◌↔◌, Bool, true, false, Some, Contains, slice_get}
use Rattle.std.proofs.lemmas.List.{length-set}
use Rattle.std.proofs.lemmas.Option.{slice_get_within, get_or_from_slice_get}
use Rattle.serde_json.specs.Data.{Data}
use Rattle.pattern_types.specs.PlainLeaf.{PlainLeaf}
use Rattle.match_comparisons.specs.Tests.{HoldsAt, LeafHolds}
use Rattle.match_comparisons.proofs.ContainsLemmas.{none_in, item_in, item_is, in_more}
use Rattle.std.specs.List.Sorted.{IsNonDecreasing}
use Rattle.std.proofs.lemmas.List.Elements.{All-push}
use Rattle.hunt_index.specs.Candidates.{AreCandidates}
use Rattle.hunt_engine.specs.EngineAnswer.{NeverFalls}
use Rattle.hunt_engine.specs.Memo.{AreHeld}
use Rattle.hunt_engine.specs.inner.Evaluation.{AreClear, AreListed, IsEvaluated, MarksMatching, MarkedSoFar, MarksMore, MatchingSoFar, AreOwners, AddsPosition}
use Rattle.hunt_engine.proofs.PositionLemmas.{same_or_other, got, represents, get_set, get_set_other}

-- a number below the next one is below this one or is it
pub below_or_at : (j i : ℕ) → j < i + 1 → (j < i) ⊎ (j ≡ i)
below_or_at zero zero h = inr refl
below_or_at zero (suc i) h = inl (omega arith)
below_or_at (suc j) zero h = absurd (omega arith)
below_or_at (suc j) (suc i) h = up (below_or_at j i (omega arith)) where
  up : (j < i) ⊎ (j ≡ i) → (suc j < suc i) ⊎ (suc j ≡ suc i)
  up (inl k) = inl (omega arith)
  up (inr k) = inr (ap suc k)

-- what a sort leaves in order never falls
pub in_order : (xs : List ℕ) → IsNonDecreasing xs → NeverFalls xs
in_order xs h j k m n less at_j at_k =
    let a : get_or xs j 0 ≡ m = get_or_from_slice_get xs j m 0 at_j in
    let b : get_or xs k 0 ≡ n = get_or_from_slice_get xs k n 0 at_k in
    let between = h j k 0 less (slice_get_within xs k n at_k) in
    omega (arith, a, b, between)

-- ---- the candidates of a root

module _ (objects : List Data) (leaves : List PlainLeaf) (root : ℕ) (candidates : List ℕ) (i : ℕ) (matching : List ℕ)
    (far : MatchingSoFar objects leaves root candidates i matching) (at : ℕ) (at_is : slice_get candidates i ≡ Some at) (leaf : PlainLeaf) (leaf_is : slice_get leaves at ≡ Some leaf) where
  own_leaf : (b : ℕ) (other : PlainLeaf) → b ≡ at → slice_get leaves b ≡ Some other → leaf ≡ other
  own_leaf b other same of_b = let f : slice_get leaves at ≡ Some other = ap (slice_get leaves) (sym same) ∙ of_b in cc

  -- it doesn't hold
  pub left_out : ¬ (HoldsAt objects root leaf) → MatchingSoFar objects leaves root candidates (i + 1) matching
  left_out fails = record {
    there = far.there;
    holds = far.holds;
    all = λ j b other h of_j of_b holds. by j b other of_j of_b holds (below_or_at j i h);
  } where
    by : (j b : ℕ) (other : PlainLeaf) → slice_get candidates j ≡ Some b → slice_get leaves b ≡ Some other → HoldsAt objects root other → (j < i) ⊎ (j ≡ i) → Contains matching b
    by j b other of_j of_b holds (inl h) = far.all j b other h of_j of_b holds
    by j b other of_j of_b holds (inr e) =
        let same : b ≡ at = cc in
        absurd (fails (subst (λ (l : PlainLeaf). HoldsAt objects root l) (sym (own_leaf b other same of_b)) holds))

  -- it holds
  pub matching_with : HoldsAt objects root leaf → MatchingSoFar objects leaves root candidates (i + 1) (matching ++ at ∷ [])
  matching_with met = record {
    there = All-push (λ (position : ℕ). position < length leaves) matching at far.there (slice_get_within leaves at leaf leaf_is);
    holds = λ b other has of_b. holds b other of_b ((in_more matching at b).0 has);
    all = λ j b other h of_j of_b k. all j b other of_j of_b k (below_or_at j i h);
  } where
    holds : (b : ℕ) (other : PlainLeaf) → slice_get leaves b ≡ Some other → Contains matching b ⊎ (b ≡ at) → HoldsAt objects root other
    holds b other of_b (inl h) = far.holds b other h of_b
    holds b other of_b (inr e) = subst (λ (l : PlainLeaf). HoldsAt objects root l) (own_leaf b other e of_b) met

    all : (j b : ℕ) (other : PlainLeaf) → slice_get candidates j ≡ Some b → slice_get leaves b ≡ Some other → HoldsAt objects root other → (j < i) ⊎ (j ≡ i) → Contains (matching ++ at ∷ []) b
    all j b other of_j of_b k (inl h) = (in_more matching at b).1 (inl (far.all j b other h of_j of_b k))
    all j b other of_j of_b k (inr e) = let same : b ≡ at = cc in (in_more matching at b).1 (inr same)

-- a bracket holds at an observation of one root where the root meets it
pub at_one : (objects : List Data) (root : ℕ) (leaf : PlainLeaf) → LeafHolds objects (root ∷ []) leaf → HoldsAt objects root leaf
at_one objects root leaf (own, has, met) = subst (λ (r : ℕ). HoldsAt objects r leaf) (item_is root own has) met

-- after the last candidate: the index left out none that holds
pub matching_all : (objects : List Data) (leaves : List PlainLeaf) (root : ℕ) (candidates matching : List ℕ) → AreCandidates objects (root ∷ []) leaves candidates
    → MatchingSoFar objects leaves root candidates (length candidates) matching → AreHeld objects leaves root matching
matching_all objects leaves root candidates matching are far = record {
  there = far.there;
  hold = λ at leaf of_at. (
    λ has. far.holds at leaf has of_at,
    λ met. let k = got candidates at (are.all at leaf of_at (root, item_in root, met)) in far.all k.0 at leaf (slice_get_within candidates k.0 at k.1) k.1 of_at met,
  );
}

-- ---- the marks

pub more_none : (own : List ℕ) (old : List Bool) (old_positions : List ℕ) → MarksMore own 0 old old_positions old old_positions
more_none own old old_positions = record {
  count = refl;
  kept = λ at mark. mark;
  own_marked = λ j at h of_j. absurd (omega (arith, h));
  no_other = λ at mark. inl mark;
  listed = λ listed. listed;
}

module _ (own : List ℕ) (i : ℕ) (old : List Bool) (old_positions : List ℕ) (marks : List Bool) (positions : List ℕ)
    (far : MarksMore own i old old_positions marks positions) (at : ℕ) (at_is : slice_get own i ≡ Some at) where
  -- the next one is marked
  pub marks_no_more : slice_get marks at ≡ Some true → MarksMore own (i + 1) old old_positions marks positions
  marks_no_more mark = record {
    count = far.count;
    kept = far.kept;
    own_marked = λ j b h of_j. by j b of_j (below_or_at j i h);
    no_other = far.no_other;
    listed = far.listed;
  } where
    by : (j b : ℕ) → slice_get own j ≡ Some b → (j < i) ⊎ (j ≡ i) → slice_get marks b ≡ Some true
    by j b of_j (inl h) = far.own_marked j b h of_j
    by j b of_j (inr e) = let same : at ≡ b = cc in ap (slice_get marks) (sym same) ∙ mark

  -- it is marked now
  pub marks_one_more : at < length marks → MarksMore own (i + 1) old old_positions (set marks at true) (positions ++ at ∷ [])
  marks_one_more inside = record {
    count = length-set marks at true ∙ far.count;
    kept = λ b mark. still b (same_or_other at b) (far.kept b mark);
    own_marked = λ j b h of_j. own_marked j b of_j (below_or_at j i h);
    no_other = λ b mark. no_other b mark (same_or_other at b);
    listed = λ listed b. (λ mark. lists b (far.listed listed) mark (same_or_other at b), λ has. listed_by b (far.listed listed) ((in_more positions at b).0 has) (same_or_other at b));
  } where
    still : (b : ℕ) → (at ≡ b) ⊎ (at ≡ b → ⊥) → slice_get marks b ≡ Some true → slice_get (set marks at true) b ≡ Some true
    still b (inl e) h = ap (slice_get (set marks at true)) (sym e) ∙ get_set marks at true inside
    still b (inr e) h = get_set_other marks at b true e ∙ h

    own_marked : (j b : ℕ) → slice_get own j ≡ Some b → (j < i) ⊎ (j ≡ i) → slice_get (set marks at true) b ≡ Some true
    own_marked j b of_j (inl h) = still b (same_or_other at b) (far.own_marked j b h of_j)
    own_marked j b of_j (inr e) = let same : at ≡ b = cc in ap (slice_get (set marks at true)) (sym same) ∙ get_set marks at true inside

    no_other : (b : ℕ) → slice_get (set marks at true) b ≡ Some true → (at ≡ b) ⊎ (at ≡ b → ⊥) → (slice_get old b ≡ Some true) ⊎ Contains own b
    no_other b mark (inl e) = inr (subst (Contains own) e (represents own i at at_is))
    no_other b mark (inr e) = far.no_other b (sym (get_set_other marks at b true e) ∙ mark)

    lists : (b : ℕ) → AreListed marks positions → slice_get (set marks at true) b ≡ Some true → (at ≡ b) ⊎ (at ≡ b → ⊥) → Contains (positions ++ at ∷ []) b
    lists b listed mark (inl e) = (in_more positions at b).1 (inr (sym e))
    lists b listed mark (inr e) = (in_more positions at b).1 (inl ((listed b).0 (sym (get_set_other marks at b true e) ∙ mark)))

    listed_by : (b : ℕ) → AreListed marks positions → Contains positions b ⊎ (b ≡ at) → (at ≡ b) ⊎ (at ≡ b → ⊥) → slice_get (set marks at true) b ≡ Some true
    listed_by b listed (inl has) which = still b which ((listed b).1 has)
    listed_by b listed (inr e) which = ap (slice_get (set marks at true)) e ∙ get_set marks at true inside

-- no root was looked at
pub marked_none : (objects : List Data) (roots : List ℕ) (leaves : List PlainLeaf) (marks : List Bool) → length marks ≡ length leaves → AreClear marks → MarkedSoFar objects roots leaves 0 marks []
marked_none objects roots leaves marks count clear = record {
  count = count;
  marked = λ at leaf mark of_at. absurd (clear at mark);
  all = λ j root at leaf h of_j of_at met. absurd (omega (arith, h));
  listed = λ at. (λ mark. absurd (clear at mark), λ has. absurd (none_in at has));
}

-- one more was
pub marked_more : (objects : List Data) (roots : List ℕ) (leaves : List PlainLeaf) (i : ℕ) (old : List Bool) (old_positions : List ℕ) (marks : List Bool) (positions own : List ℕ) (root : ℕ)
    → MarkedSoFar objects roots leaves i old old_positions → slice_get roots i ≡ Some root → AreHeld objects leaves root own → MarksMore own (length own) old old_positions marks positions
    → MarkedSoFar objects roots leaves (i + 1) marks positions
marked_more objects roots leaves i old old_positions marks positions own root far root_is matching more = record {
  count = more.count ∙ far.count;
  marked = λ at leaf mark of_at. marked at leaf of_at (more.no_other at mark);
  all = λ j other at leaf h of_j of_at met. all j other at leaf of_j of_at met (below_or_at j i h);
  listed = more.listed far.listed;
} where
  marked : (at : ℕ) (leaf : PlainLeaf) → slice_get leaves at ≡ Some leaf → (slice_get old at ≡ Some true) ⊎ Contains own at → LeafHolds objects roots leaf
  marked at leaf of_at (inl mark) = far.marked at leaf mark of_at
  marked at leaf of_at (inr has) = (root, represents roots i root root_is, (matching.hold at leaf of_at).0 has)

  all : (j other at : ℕ) (leaf : PlainLeaf) → slice_get roots j ≡ Some other → slice_get leaves at ≡ Some leaf → HoldsAt objects other leaf → (j < i) ⊎ (j ≡ i) → slice_get marks at ≡ Some true
  all j other at leaf of_j of_at met (inl h) = more.kept at (far.all j other at leaf h of_j of_at met)
  all j other at leaf of_j of_at met (inr e) =
      let same : other ≡ root = cc in
      let k = got own at ((matching.hold at leaf of_at).1 (subst (λ (r : ℕ). HoldsAt objects r leaf) same met)) in
      more.own_marked k.0 at (slice_get_within own k.0 at k.1) k.1

-- all were, and the positions are in order
pub marks_matching : (objects : List Data) (roots : List ℕ) (leaves : List PlainLeaf) (marks : List Bool) (positions sorted : List ℕ) → MarkedSoFar objects roots leaves (length roots) marks positions
    → ((at : ℕ) → Contains sorted at ↔ Contains positions at) → NeverFalls sorted → MarksMatching objects roots leaves marks sorted
marks_matching objects roots leaves marks positions sorted far same falls = record {
  count = far.count;
  marks_hold = λ at leaf of_at. (
    λ mark. far.marked at leaf mark of_at,
    λ holds. let k = got roots holds.0 holds.1 in far.all k.0 holds.0 at leaf (slice_get_within roots k.0 holds.0 k.1) k.1 of_at holds.2,
  );
  listed = λ at. (λ mark. (same at).1 ((far.listed at).0 mark), λ has. (far.listed at).1 ((same at).0 has));
  in_order = falls;
}

-- and each of them is a bracket's
pub marks_inside : (objects : List Data) (roots : List ℕ) (leaves : List PlainLeaf) (marks : List Bool) (positions : List ℕ) → MarksMatching objects roots leaves marks positions → (at : ℕ) → Contains positions at → at < length leaves
marks_inside objects roots leaves marks positions matching at has =
    let inside = slice_get_within marks at true ((matching.listed at).1 has) in let count = matching.count in omega (arith, inside, count)

-- ---- the owners

pub owners_none : (owners positions : List ℕ) → AreOwners owners positions 0 []
owners_none owners positions = record {
  ascend = λ j k m n less at_j at_k. absurd (cc);
  there = λ j at position h of_j of_at. absurd (omega (arith, h));
  owned = λ k position at. absurd (cc);
}

module _ (owners positions : List ℕ) (i : ℕ) (affected : List ℕ) (far : AreOwners owners positions i affected) (at : ℕ) (at_is : slice_get positions i ≡ Some at) (position : ℕ) (position_is : slice_get owners at ≡ Some position) where
  -- none that is there is after the owner of the next one
  pub least : NeverFalls positions → NeverFalls owners → (k other : ℕ) → slice_get affected k ≡ Some other → other ≤ position
  least in_order falls k other there =
      let o = far.owned k other there in
      let less = o.2 in
      let before = in_order o.0 i o.1 at (omega (arith, less)) o.3 at_is in
      falls o.1 at other position before o.4 position_is

  pub owners_with : (more : List ℕ) → AddsPosition affected position more → AreOwners owners positions (i + 1) more
  owners_with more adds = record {
    ascend = adds.ascend;
    there = λ j b other h of_j of_b. there j b other of_j of_b (below_or_at j i h);
    owned = λ k other h. owned k other (adds.no_other k other h);
  } where
    there : (j b other : ℕ) → slice_get positions j ≡ Some b → slice_get owners b ≡ Some other → (j < i) ⊎ (j ≡ i) → Contains more other
    there j b other of_j of_b (inl h) = adds.stays other (far.there j b other h of_j of_b)
    there j b other of_j of_b (inr e) =
        let same : b ≡ at = cc in
        let own : position ≡ other = (let f : slice_get owners at ≡ Some other = ap (slice_get owners) (sym same) ∙ of_b in cc) in
        subst (Contains more) own adds.there

    owned : (k other : ℕ) → (slice_get affected k ≡ Some other) ⊎ (other ≡ position) → (j b : ℕ) × (j < i + 1) × (slice_get positions j ≡ Some b) × (slice_get owners b ≡ Some other)
    owned k other (inl h) = let o = far.owned k other h in let less = o.2 in (o.0, o.1, omega (arith, less), o.3, o.4)
    owned k other (inr e) = (i, at, omega arith, at_is, position_is ∙ ap Some (sym e))

-- the marks, and the owners of what is marked
pub judged_all : (objects : List Data) (roots : List ℕ) (leaves : List PlainLeaf) (owners : List ℕ) (marks : List Bool) (positions affected : List ℕ)
    → MarksMatching objects roots leaves marks positions → AreOwners owners positions (length positions) affected → IsEvaluated objects roots leaves owners marks affected
judged_all objects roots leaves owners marks positions affected matching own = record {
  count = matching.count;
  marks_hold = matching.marks_hold;
  ascend = own.ascend;
  there = λ at position mark of_at. let k = got positions at ((matching.listed at).0 mark) in own.there k.0 at position (slice_get_within positions k.0 at k.1) k.1 of_at;
  owned = λ k position h. let o = own.owned k position h in (o.1, o.4);
}

-- marks that are made all alike
none_repeated : (n at : ℕ) → slice_get (replicate n false) at ≡ Some true → ⊥
none_repeated zero at is = cc
none_repeated (suc n) zero is = cc
none_repeated (suc n) (suc at) is = none_repeated n at is

pub clear_repeated : (n : ℕ) (marks : List Bool) → marks ≡ replicate n false → AreClear marks
clear_repeated n marks same at is = none_repeated n at (sym (ap (λ (its : List Bool). slice_get its at) same) ∙ is)
