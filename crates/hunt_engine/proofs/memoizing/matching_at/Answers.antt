-- Each candidate at the root in turn.
use Rattle.std.proofs.Common.{◌≡◌, ◌<◌, ◌+◌, ◌∷◌, [], ℕ, List, length, get_or, arith, ap, sym, ◌∙◌, subst}
use Rattle.std.specs.Prelude.{All, map}
use Rattle.std.proofs.lemmas.List.{length-map}
use Rattle.std.proofs.lemmas.List.Elements.{All-get_or, Contains-get_or}
use Rattle.stix_bundles.specs.Objects.{data_in}
use Rattle.pattern_types.specs.declared.leaf.Leaf.{Leaf}
use Rattle.pattern_types.specs.PlainLeaf.{PlainLeaf, plain_leaf}
use Rattle.pattern_types.specs.Soundness.{IsSoundLeaf}
use Rattle.hunt_index.specs.Candidates.{AreCandidates}
use Rattle.hunt_engine.specs.Memo.{AreHeld}
use Rattle.hunt_engine.specs.inner.Evaluation.{MatchingSoFar}
use Rattle.hunt_engine.proofs.PositionLemmas.{get_map_twice, get_number, all_at}
use Rattle.hunt_engine.proofs.EvaluateLemmas.{left_out, matching_with, matching_all}
use Rattle.hunt_engine.proofs.memoizing.matching_at.Goals as goal
use Rattle.hunt_engine.proofs.memoizing.matching_at.Goals.{then-branch+in_ok-push, else-branch}

-- what the index found, by the brackets that it has
found : (index brackets : List Leaf) (objects : _) (root : ℕ) (candidates items : List ℕ) → index ≡ brackets → items ≡ candidates
    → AreCandidates objects (root ∷ []) (map plain_leaf index) candidates → AreCandidates objects (root ∷ []) (map plain_leaf brackets) items
found index brackets objects root candidates items e f are =
    subst (λ (l : List Leaf). AreCandidates objects (root ∷ []) (map plain_leaf l) items) e
    (subst (λ (l : List ℕ). AreCandidates objects (root ∷ []) (map plain_leaf index) l) (sym f) are)

-- a candidate is one of the brackets
inside : (leaves : List PlainLeaf) (candidates : List ℕ) (i : ℕ) → All (λ (position : ℕ). position < length leaves) candidates → i < length candidates → get_or candidates i 0 < length leaves
inside leaves candidates i all h = All-get_or (λ (position : ℕ). position < length leaves) candidates i 0 h all

pub candidate_holds-requires-clause-sound : goal.candidate_holds-requires-clause-sound
candidate_holds-requires-clause-sound c =
    let i = c.loop-position.position-index in let candidates = c.as_slice-position-items.result.now in let at = get_or candidates i 0 in
    let items = c.args.brackets.now.leaves.items in
    let leaves = map plain_leaf (map (λ leaf. leaf.now) items) in
    let are = found c.args.index.now (map (λ leaf. leaf.now) items) (data_in c.args.bundle.now) c.args.root c.in_ok-candidates.candidates candidates c.requires.index c.as_slice-position-items.ensures c.in_ok-candidates.ensures in
    let h = inside leaves candidates i are.there (omega arith) in
    let long = length-map items (λ leaf. leaf.now) in let long' = length-map (map (λ leaf. leaf.now) items) plain_leaf in
    all_at IsSoundLeaf leaves at (plain_leaf c.index.result.now.now) c.requires.sound
    (get_map_twice items (λ leaf. leaf.now) plain_leaf at c.index.result.now (omega (arith, h, long, long')) c.index.ensures)

pub candidate_holds-requires-clause-certain : goal.candidate_holds-requires-clause-certain
candidate_holds-requires-clause-certain c =
    let i = c.loop-position.position-index in let candidates = c.as_slice-position-items.result.now in let at = get_or candidates i 0 in
    let items = c.args.brackets.now.leaves.items in
    let leaves = map plain_leaf (map (λ leaf. leaf.now) items) in
    let are = found c.args.index.now (map (λ leaf. leaf.now) items) (data_in c.args.bundle.now) c.args.root c.in_ok-candidates.candidates candidates c.requires.index c.as_slice-position-items.ensures c.in_ok-candidates.ensures in
    let h = inside leaves candidates i are.there (omega arith) in
    let long = length-map items (λ leaf. leaf.now) in let long' = length-map (map (λ leaf. leaf.now) items) plain_leaf in
    are.certain at (plain_leaf c.index.result.now.now) (Contains-get_or candidates i 0 (omega arith))
    (get_map_twice items (λ leaf. leaf.now) plain_leaf at c.index.result.now (omega (arith, h, long, long')) c.index.ensures)

pub loop-position-preserved : goal.loop-position-preserved
loop-position-preserved c =
    let i = c.loop-position.position-index in let candidates = c.as_slice-position-items.result.now in let at = get_or candidates i 0 in
    let items = c.args.brackets.now.leaves.items in
    let leaves = map plain_leaf (map (λ leaf. leaf.now) items) in
    let objects = data_in c.args.bundle.now in
    let are = found c.args.index.now (map (λ leaf. leaf.now) items) objects c.args.root c.in_ok-candidates.candidates candidates c.requires.index c.as_slice-position-items.ensures c.in_ok-candidates.ensures in
    let h = inside leaves candidates i are.there (omega arith) in
    let long = length-map items (λ leaf. leaf.now) in let long' = length-map (map (λ leaf. leaf.now) items) plain_leaf in
    let at_is = get_number candidates i (omega arith) in
    let leaf_is = get_map_twice items (λ leaf. leaf.now) plain_leaf at c.index.result.now (omega (arith, h, long, long')) c.index.ensures in
    elim c.if-branch.branch [
      | then-branch+in_ok-push w ↦
          subst (λ (matching : List ℕ). MatchingSoFar objects leaves c.args.root candidates (i + 1) matching) (sym (ap (λ v. v.items) w.matching-is ∙ w.in_ok-push.ensures.items))
          (matching_with objects leaves c.args.root candidates i c.loop-position.matching.items c.loop-position.invariant at at_is (plain_leaf c.index.result.now.now) leaf_is
          (c.in_ok-candidate_holds.ensures.0 w.if-branch.true))
      | else-branch w ↦
          subst (λ (matching : List ℕ). MatchingSoFar objects leaves c.args.root candidates (i + 1) matching) (sym (ap (λ v. v.items) w.matching-is))
          (left_out objects leaves c.args.root candidates i c.loop-position.matching.items c.loop-position.invariant at at_is (plain_leaf c.index.result.now.now) leaf_is
          (λ k. let e = c.in_ok-candidate_holds.ensures.1 k in let f = w.if-branch.false in cc))
    ]

pub returns : goal.returns
returns c =
    let candidates = c.as_slice-position-items.result.now in
    let items = c.args.brackets.now.leaves.items in
    let leaves = map plain_leaf (map (λ leaf. leaf.now) items) in
    let objects = data_in c.args.bundle.now in
    let are = found c.args.index.now (map (λ leaf. leaf.now) items) objects c.args.root c.in_ok-candidates.candidates candidates c.requires.index c.as_slice-position-items.ensures c.in_ok-candidates.ensures in
    let all : c.loop-position.position-index ≡ length candidates = omega arith in
    subst (λ (l : List ℕ). AreHeld objects leaves c.args.root l) (sym c.from_vec.ensures)
    (matching_all objects leaves c.args.root candidates c.loop-position.matching.items are
    (subst (λ (i : ℕ). MatchingSoFar objects leaves c.args.root candidates i c.loop-position.matching.items) all c.loop-position.invariant))
