-- Roots of which each bracket is asked at once: which pairs of a bracket and a root there are, and what is known once they were asked.
use Rattle.std.proofs.Common.{◌≡◌, ℕ, ◌<◌, ◌+◌, List, [], ◌∷◌, ◌++◌, length, map, get_or, refl, sym, ◌∙◌, ap, subst, inl, inr, append_assoc, take, arith}
use Rattle.std.specs.Prelude.{◌⊎◌, ◌↔◌, Contains, Option, Some, slice_get}
use Rattle.std.proofs.lemmas.Option.{slice_get_within}
use Rattle.std.proofs.lemmas.List.{map-append, get_or-take, length-take, take_more}
use Rattle.std.proofs.lemmas.List.Elements.{Contains-get_or}
use Rattle.serde_json.specs.Data.{Data}
use Rattle.pattern_types.specs.PlainLeaf.{PlainLeaf}
use Rattle.match_comparisons.specs.Tests.{HoldsAt}
use Rattle.match_comparisons.proofs.ContainsLemmas.{none_in, item_in, item_is, in_more, in_both}
use Rattle.hunt_index.specs.Candidates.{AreCandidates}
use Rattle.hunt_index.specs.Definite.{IsDefinite}
use Rattle.hunt_engine.specs.Memo.{AreHeld, IsSoundMemo}
use Rattle.hunt_engine.specs.inner.Memos.{InsertsEmpty, AddsPositions}
use Rattle.hunt_engine.specs.inner.RootBatches.{IsMetBracket, IsCertain, AreCertain, IsRootBatch, AddsMatching}
use Rattle.hunt_engine.proofs.MemoLemmas.{adds_none, adds_both, adds_same}
use Rattle.hunt_engine.proofs.EvaluateLemmas.{at_one}

-- pairs of some positions with one root
abbrev pub with_root : ℕ → List ℕ → List (ℕ × ℕ)
with_root root positions = map (λ (position : ℕ). (position, root)) positions

-- pairs of one position with some roots
abbrev pub with_position : ℕ → List ℕ → List (ℕ × ℕ)
with_position position roots = map (λ (root : ℕ). (position, root)) roots

-- what is in a list that has a first item
in_first : {A : Type 0} (x : A) (xs : List A) (y : A) → Contains (x ∷ xs) y ↔ ((y ≡ x) ⊎ Contains xs y)
in_first x xs y = (
  λ has. elim ((in_both (x ∷ []) xs y).0 has) [ inl now ↦ inl (item_is x y now) | inr later ↦ inr later ],
  λ some. (in_both (x ∷ []) xs y).1 (elim some [ inl now ↦ inl (subst (Contains (x ∷ [])) (sym now) (item_in x)) | inr later ↦ inr later ]),
)

root_first : (root : ℕ) (positions : List ℕ) (first position other : ℕ) → Contains (with_root root positions) (position, other) ↔ (Contains positions position × (other ≡ root))
    → Contains (with_root root (first ∷ positions)) (position, other) ↔ (Contains (first ∷ positions) position × (other ≡ root))
root_first root positions first position other rest = (
  λ has. elim ((in_first (first, root) (with_root root positions) (position, other)).0 has) [
    | inl is ↦ let same : position ≡ first = ap (λ (p : ℕ × ℕ). p.0) is in ((in_first first positions position).1 (inl same), ap (λ (p : ℕ × ℕ). p.1) is)
    | inr later ↦ let it = rest.0 later in ((in_first first positions position).1 (inr it.0), it.1)
  ],
  λ both. (in_first (first, root) (with_root root positions) (position, other)).1 (elim ((in_first first positions position).0 both.0) [
    | inl is ↦ inl (let same = both.1 in cc)
    | inr later ↦ inr (rest.1 (later, both.1))
  ]),
)

pub in_with_root : (root : ℕ) (positions : List ℕ) (position other : ℕ) → Contains (with_root root positions) (position, other) ↔ (Contains positions position × (other ≡ root))
in_with_root root [] position other = (λ has. absurd (none_in (position, other) has), λ it. absurd (none_in position it.0))
in_with_root root (first ∷ positions) position other = root_first root positions first position other (in_with_root root positions position other)

position_first : (position : ℕ) (roots : List ℕ) (first other root : ℕ) → Contains (with_position position roots) (other, root) ↔ ((other ≡ position) × Contains roots root)
    → Contains (with_position position (first ∷ roots)) (other, root) ↔ ((other ≡ position) × Contains (first ∷ roots) root)
position_first position roots first other root rest = (
  λ has. elim ((in_first (position, first) (with_position position roots) (other, root)).0 has) [
    | inl is ↦ let same : root ≡ first = ap (λ (p : ℕ × ℕ). p.1) is in (ap (λ (p : ℕ × ℕ). p.0) is, (in_first first roots root).1 (inl same))
    | inr later ↦ let it = rest.0 later in (it.0, (in_first first roots root).1 (inr it.1))
  ],
  λ both. (in_first (position, first) (with_position position roots) (other, root)).1 (elim ((in_first first roots root).0 both.1) [
    | inl is ↦ inl (let same = both.0 in cc)
    | inr later ↦ inr (rest.1 (both.0, later))
  ]),
)

pub in_with_position : (position : ℕ) (roots : List ℕ) (other root : ℕ) → Contains (with_position position roots) (other, root) ↔ ((other ≡ position) × Contains roots root)
in_with_position position [] other root = (λ has. absurd (none_in (other, root) has), λ it. absurd (none_in root it.1))
in_with_position position (first ∷ roots) other root = position_first position roots first other root (in_with_position position roots other root)

-- what is in the front of a list
pub in_front : {A : Type 0} (i : ℕ) (xs : List A) (y : A) → Contains (take i xs) y → Contains xs y
in_front i xs y has = let long = length-take i xs in (has.0, omega (arith, long, has.1), sym (get_or-take i xs has.0 y (omega (arith, long, has.1))) ∙ has.2)

-- ---- a root batch

pub root_batch_none : (objects : List Data) (brackets : List PlainLeaf) → IsRootBatch objects brackets [] []
root_batch_none objects brackets = record {
  all = λ root position has met. absurd (none_in root has);
  certain = λ position root bracket has is exact. absurd (none_in (position, root) has);
}

-- of a root more
pub root_batch_more : (objects : List Data) (brackets : List PlainLeaf) (roots : List ℕ) (pairs : List (ℕ × ℕ)) (root : ℕ) (positions : List ℕ) → IsRootBatch objects brackets roots pairs
    → AreCandidates objects (root ∷ []) brackets positions → IsRootBatch objects brackets (roots ++ root ∷ []) (pairs ++ with_root root positions)
root_batch_more objects brackets roots pairs root positions far are = record {
  all = λ other position has met. all other position met ((in_more roots root other).0 has);
  certain = λ position other bracket has is exact. certain position other bracket is exact ((in_both pairs (with_root root positions) (position, other)).0 has);
} where
  all : (other position : ℕ) → IsMetBracket objects brackets other position → Contains roots other ⊎ (other ≡ root) → Contains (pairs ++ with_root root positions) (position, other)
  all other position met (inl has) = (in_both pairs (with_root root positions) (position, other)).1 (inl (far.all other position has met))
  all other position met (inr same) =
      let there = are.all position met.0 met.1 (root, item_in root, subst (λ (r : ℕ). HoldsAt objects r met.0) same met.2) in
      (in_both pairs (with_root root positions) (position, other)).1 (inr ((in_with_root root positions position other).1 (there, same)))

  certain : (position other : ℕ) (bracket : PlainLeaf) → slice_get brackets position ≡ Some bracket → IsDefinite bracket → Contains pairs (position, other) ⊎ Contains (with_root root positions) (position, other)
      → HoldsAt objects other bracket
  certain position other bracket is exact (inl has) = far.certain position other bracket has is exact
  certain position other bracket is exact (inr has) =
      let own = (in_with_root root positions position other).0 has in
      subst (λ (r : ℕ). HoldsAt objects r bracket) (sym own.1) (at_one objects root bracket (are.certain position bracket own.0 is exact))

-- the same pairs in another order
pub root_batch_moved : (objects : List Data) (brackets : List PlainLeaf) (roots : List ℕ) (pairs moved : List (ℕ × ℕ)) → ((pair : ℕ × ℕ) → Contains moved pair ↔ Contains pairs pair)
    → IsRootBatch objects brackets roots pairs → IsRootBatch objects brackets roots moved
root_batch_moved objects brackets roots pairs moved same root_batch = record {
  all = λ root position has met. (same (position, root)).1 (root_batch.all root position has met);
  certain = λ position root bracket has is exact. root_batch.certain position root bracket ((same (position, root)).0 has) is exact;
}

-- ---- one bracket

module _ (objects : List Data) (brackets : List PlainLeaf) (position : ℕ) (roots : List ℕ) (bracket : PlainLeaf) (is : slice_get brackets position ≡ Some bracket) (old new : List (Option (List ℕ))) where
  holds_here : (root : ℕ) → IsMetBracket objects brackets root position → HoldsAt objects root bracket
  holds_here root (own, own_is, met) = let same : own ≡ bracket = cc in subst (λ (b : PlainLeaf). HoldsAt objects root b) same met

  -- one that is exact holds at all of its roots
  pub met_certain : IsCertain objects brackets position roots → IsDefinite bracket → AddsPositions (λ (root added : ℕ). (added ≡ position) × Contains roots root) old new
      → AddsPositions (λ (root added : ℕ). (added ≡ position) × Contains roots root × IsMetBracket objects brackets root position) old new
  met_certain certain exact adds =
      adds_same (λ (root added : ℕ). (added ≡ position) × Contains roots root) (λ (root added : ℕ). (added ≡ position) × Contains roots root × IsMetBracket objects brackets root position) old new
      (λ root added. (λ it. (it.0, it.1, (bracket, is, certain root bracket it.1 is exact)), λ it. (it.0, it.1))) adds

  -- another one at those at which it was found to hold
  pub met_asked : (matching : List ℕ) → ((root : ℕ) → Contains matching root ↔ (Contains roots root × HoldsAt objects root bracket)) → AddsPositions (λ (root added : ℕ). (added ≡ position) × Contains matching root) old new
      → AddsPositions (λ (root added : ℕ). (added ≡ position) × Contains roots root × IsMetBracket objects brackets root position) old new
  met_asked matching are adds =
      adds_same (λ (root added : ℕ). (added ≡ position) × Contains matching root) (λ (root added : ℕ). (added ≡ position) × Contains roots root × IsMetBracket objects brackets root position) old new
      (λ root added. (
        λ it. let own = (are root).0 it.1 in (it.0, own.0, (bracket, is, own.1)),
        λ it. (it.0, (are root).1 (it.1, holds_here root it.2)),
      )) adds

-- ---- asking

-- the first pairs were asked, but for those of the bracket that is asked next
pub record AskedSoFar (objects : List Data) (brackets : List PlainLeaf) (pairs : List (ℕ × ℕ)) (own : ℕ) (roots : List ℕ) (old new : List (Option (List ℕ))) : Type 0 where
  pub asked : List (ℕ × ℕ)
  pub pairs_are : pairs ≡ asked ++ with_position own roots
  pub adds : AddsMatching objects brackets asked old new

module _ (objects : List Data) (brackets : List PlainLeaf) where
  pub asked_none : (own : ℕ) (roots : List ℕ) (memo : List (Option (List ℕ))) → roots ≡ [] → AskedSoFar objects brackets [] own roots memo memo
  asked_none own roots memo none = record {
    asked = [];
    pairs_are = ap (with_position own) (sym none);
    adds = adds_none (λ (root position : ℕ). Contains [] (position, root) × IsMetBracket objects brackets root position) memo (λ root position it. absurd (none_in (position, root) it.0));
  }

  -- the bracket at a position is asked
  pub adds_more : (asked : List (ℕ × ℕ)) (own : ℕ) (roots : List ℕ) (old mid new : List (Option (List ℕ))) → AddsMatching objects brackets asked old mid
      → AddsPositions (λ (root position : ℕ). (position ≡ own) × Contains roots root × IsMetBracket objects brackets root own) mid new
      → AddsMatching objects brackets (asked ++ with_position own roots) old new
  adds_more asked own roots old mid new far adds =
      adds_both (λ (root position : ℕ). Contains asked (position, root) × IsMetBracket objects brackets root position) (λ (root position : ℕ). (position ≡ own) × Contains roots root × IsMetBracket objects brackets root own)
      (λ (root position : ℕ). Contains (asked ++ with_position own roots) (position, root) × IsMetBracket objects brackets root position) old mid new far adds
      (λ root position. (
        λ both. elim ((in_both asked (with_position own roots) (position, root)).0 both.0) [
          | inl has ↦ inl (has, both.1)
          | inr has ↦ let it = (in_with_position own roots position root).0 has in inr (it.0, it.1, subst (IsMetBracket objects brackets root) it.0 both.1)
        ],
        λ some. elim some [
          | inl before ↦ ((in_both asked (with_position own roots) (position, root)).1 (inl before.0), before.1)
          | inr now ↦ (
            (in_both asked (with_position own roots) (position, root)).1 (inr ((in_with_position own roots position root).1 (now.0, now.1))),
            subst (IsMetBracket objects brackets root) (sym now.0) now.2,
          )
        ],
      ))

  -- the next pair is of another bracket
  asks_other : (pairs : List (ℕ × ℕ)) (own : ℕ) (roots : List ℕ) (old mid new : List (Option (List ℕ))) (position root : ℕ) → AskedSoFar objects brackets pairs own roots old mid
      → AddsPositions (λ (root position : ℕ). (position ≡ own) × Contains roots root × IsMetBracket objects brackets root own) mid new
      → AskedSoFar objects brackets (pairs ++ (position, root) ∷ []) position (root ∷ []) old new
  asks_other pairs own roots old mid new position root far adds = record {
    asked = pairs;
    pairs_are = refl;
    adds = subst (λ (asked : List (ℕ × ℕ)). AddsMatching objects brackets asked old new) (sym far.pairs_are) (adds_more far.asked own roots old mid new far.adds adds);
  }

  -- it is of the same one
  asks_same : (pairs : List (ℕ × ℕ)) (own : ℕ) (roots : List ℕ) (old new : List (Option (List ℕ))) (root : ℕ) → AskedSoFar objects brackets pairs own roots old new
      → AskedSoFar objects brackets (pairs ++ (own, root) ∷ []) own (roots ++ root ∷ []) old new
  asks_same pairs own roots old new root far = record {
    asked = far.asked;
    pairs_are = ap (λ (l : List (ℕ × ℕ)). l ++ (own, root) ∷ []) far.pairs_are ∙ append_assoc far.asked (with_position own roots) ((own, root) ∷ []) ∙ ap (λ (l : List (ℕ × ℕ)). far.asked ++ l) (sym (map-append (λ (r : ℕ). (own, r)) roots (root ∷ [])));
    adds = far.adds;
  }

  -- so of the pair at a position of all
  module _ (pairs : List (ℕ × ℕ)) (i own : ℕ) (roots : List ℕ) (old : List (Option (List ℕ))) (below : i < length pairs) (next : ℕ) (next_roots : List ℕ) where
    pub next_other : (mid new : List (Option (List ℕ))) → AskedSoFar objects brackets (take i pairs) own roots old mid
        → AddsPositions (λ (root position : ℕ). (position ≡ own) × Contains roots root × IsMetBracket objects brackets root own) mid new
        → next ≡ (get_or pairs i (0, 0)).0 → next_roots ≡ (get_or pairs i (0, 0)).1 ∷ [] → AskedSoFar objects brackets (take (i + 1) pairs) next next_roots old new
    next_other mid new far adds next_is roots_are =
        let pair = get_or pairs i (0, 0) in
        subst (λ (l : List ℕ). AskedSoFar objects brackets (take (i + 1) pairs) next l old new) (sym roots_are)
        (subst (λ (n : ℕ). AskedSoFar objects brackets (take (i + 1) pairs) n (pair.1 ∷ []) old new) (sym next_is)
        (subst (λ (l : List (ℕ × ℕ)). AskedSoFar objects brackets l pair.0 (pair.1 ∷ []) old new) (sym (take_more pairs i (0, 0) below))
        (asks_other (take i pairs) own roots old mid new pair.0 pair.1 far adds)))

    pub next_same : (new : List (Option (List ℕ))) → AskedSoFar objects brackets (take i pairs) own roots old new → (get_or pairs i (0, 0)).0 ≡ own
        → next ≡ own → next_roots ≡ roots ++ (get_or pairs i (0, 0)).1 ∷ [] → AskedSoFar objects brackets (take (i + 1) pairs) next next_roots old new
    next_same new far same next_is roots_are =
        let pair = get_or pairs i (0, 0) in
        subst (λ (l : List ℕ). AskedSoFar objects brackets (take (i + 1) pairs) next l old new) (sym roots_are)
        (subst (λ (n : ℕ). AskedSoFar objects brackets (take (i + 1) pairs) n (roots ++ pair.1 ∷ []) old new) (sym next_is)
        (subst (λ (l : List (ℕ × ℕ)). AskedSoFar objects brackets l own (roots ++ pair.1 ∷ []) old new) (sym (take_more pairs i (0, 0) below))
        (subst (λ (n : ℕ). AskedSoFar objects brackets (take i pairs ++ (n, pair.1) ∷ []) own (roots ++ pair.1 ∷ []) old new) (sym same)
        (asks_same (take i pairs) own roots old new pair.1 far))))

  -- the roots that are asked next are of the pairs
  pub next_certain : (pairs all : List (ℕ × ℕ)) (own : ℕ) (roots : List ℕ) (old new : List (Option (List ℕ))) → AskedSoFar objects brackets pairs own roots old new
      → ((pair : ℕ × ℕ) → Contains pairs pair → Contains all pair) → AreCertain objects brackets all → IsCertain objects brackets own roots
  next_certain pairs all own roots old new far among certain root bracket has is exact =
      certain own root bracket (among (own, root) (subst (λ (l : List (ℕ × ℕ)). Contains l (own, root)) (sym far.pairs_are)
      ((in_both far.asked (with_position own roots) (own, root)).1 (inr ((in_with_position own roots own root).1 (refl, has)))))) is exact

  -- ---- what is known then

  met_is : (root position : ℕ) (bracket : PlainLeaf) → slice_get brackets position ≡ Some bracket → IsMetBracket objects brackets root position → HoldsAt objects root bracket
  met_is root position bracket is (own, own_is, holds) = let same : own ≡ bracket = cc in subst (λ (b : PlainLeaf). HoldsAt objects root b) same holds

  -- of a root that was known already
  matching_still : (root : ℕ) (before after : List ℕ) (IsAsked : ℕ → Type 0) → AreHeld objects brackets root before
      → ((position : ℕ) → Contains after position ↔ (Contains before position ⊎ (IsAsked position × IsMetBracket objects brackets root position))) → AreHeld objects brackets root after
  matching_still root before after IsAsked matching are = record {
    there = λ k d h. let has = Contains-get_or after k d h in elim ((are (get_or after k d)).0 has) [
      | inl it ↦ subst (λ (position : ℕ). position < length brackets) it.2 (matching.there it.0 (get_or after k d) it.1)
      | inr it ↦ slice_get_within brackets (get_or after k d) it.1.0 it.1.1
    ];
    hold = λ position bracket is. (
      λ has. elim ((are position).0 has) [
        | inl it ↦ (matching.hold position bracket is).0 it
        | inr it ↦ met_is root position bracket is it.1
      ],
      λ holds. (are position).1 (inl ((matching.hold position bracket is).1 holds)),
    );
  }

  -- and of one that is new
  matching_new : (root : ℕ) (after : List ℕ) (pairs : List (ℕ × ℕ)) → ((position : ℕ) → IsMetBracket objects brackets root position → Contains pairs (position, root))
      → ((position : ℕ) → Contains after position ↔ (Contains [] position ⊎ (Contains pairs (position, root) × IsMetBracket objects brackets root position))) → AreHeld objects brackets root after
  matching_new root after pairs all are = record {
    there = λ k d h. let has = Contains-get_or after k d h in elim ((are (get_or after k d)).0 has) [
      | inl it ↦ absurd (none_in (get_or after k d) it)
      | inr it ↦ slice_get_within brackets (get_or after k d) it.1.0 it.1.1
    ];
    hold = λ position bracket is. (
      λ has. elim ((are position).0 has) [
        | inl it ↦ absurd (none_in position it)
        | inr it ↦ met_is root position bracket is it.1
      ],
      λ holds. let met : IsMetBracket objects brackets root position = (bracket, is, holds) in (are position).1 (inr (all position met, met)),
    );
  }

  pub right_learnt : (roots : List ℕ) (pairs : List (ℕ × ℕ)) (old mid new : List (Option (List ℕ))) → IsSoundMemo objects brackets old → IsRootBatch objects brackets roots pairs
      → InsertsEmpty roots old mid → AddsMatching objects brackets pairs mid new → IsSoundMemo objects brackets new
  right_learnt roots pairs old mid new right root_batch opens adds root after at =
      let it = adds.positions root after at in
      elim (opens.no_other root it.0 it.1) [
        | inl before ↦ matching_still root it.0 after (λ (position : ℕ). Contains pairs (position, root)) (right root it.0 before) it.2
        | inr (has, none) ↦ matching_new root after pairs (λ position met. root_batch.all root position has met)
            (subst (λ (l : List ℕ). (position : ℕ) → Contains after position ↔ (Contains l position ⊎ (Contains pairs (position, root) × IsMetBracket objects brackets root position))) none it.2)
      ]
