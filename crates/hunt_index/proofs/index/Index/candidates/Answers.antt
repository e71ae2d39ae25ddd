use Rattle.std.proofs.Common.{◌↔◌, ℕ, List, map, sym, subst}
use Rattle.std.specs.Prelude.{Contains}
use Rattle.stix_bundles.specs.Objects.{data_in}
use Rattle.pattern_types.specs.declared.leaf.Leaf.{Leaf}
use Rattle.pattern_types.specs.PlainLeaf.{plain_leaf}
use Rattle.hunt_index.specs.Candidates.{AreCandidates}
use Rattle.hunt_index.specs.inner.Finding.{FindsPlaces}
use Rattle.hunt_index.proofs.PlacesLemmas.{are_candidates}
use Rattle.hunt_index.proofs.index.Index.candidates.Goals as goal

pub returns : goal.returns
returns c =
    let objects = data_in c.args.bundle.now in
    let roots = c.args.roots.now in
    let brackets = map (λ leaf. leaf.now) c.self.inside.brackets.items in
    let finder = c.self.inside.finder in
    let own = c.sort_dedup-roots.result.items in
    let brackets_found = c.in_ok-brackets_found.brackets_found.items in
    let result = c.sort_dedup.result.items in
    let same_roots = λ (n : ℕ). subst (λ (l : List ℕ). Contains own n ↔ Contains l n) c.in_ok-roots.ensures.items (c.sort_dedup-roots.ensures.same n) in
    let found = subst (λ (l : List ℕ). FindsPlaces finder objects l brackets_found) c.as_slice.ensures.value c.in_ok-brackets_found.ensures in
    let all = are_candidates brackets finder objects roots own brackets_found result c.self.invariant same_roots found c.sort_dedup.ensures.same c.sort_dedup.ensures.ascend in
    let seen = subst (λ (leaves : List Leaf). AreCandidates objects roots (map plain_leaf leaves) result) c.self.view_is all in
    subst (λ (l : List ℕ). AreCandidates objects roots (map plain_leaf c.args.self.now) l) (sym c.from_vec.ensures) seen
