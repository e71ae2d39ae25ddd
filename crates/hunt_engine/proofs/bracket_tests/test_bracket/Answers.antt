use Rattle.std.proofs.Common.{ℕ, List, sym, subst}
use Rattle.std.specs.Prelude.{◌↔◌, Contains, map}
use Rattle.stix_bundles.specs.Objects.{data_in}
use Rattle.pattern_types.specs.PlainLeaf.{plain_leaf}
use Rattle.pattern_types.specs.Soundness.{IsSoundLeaf}
use Rattle.match_comparisons.specs.Tests.{HoldsAt}
use Rattle.match_comparisons.proofs.RowsLemmas.{on_ok}
use Rattle.hunt_engine.proofs.PositionLemmas.{all_at, get_looked}
use Rattle.hunt_engine.proofs.RootBatchLemmas.{met_certain, met_asked}
use Rattle.hunt_engine.proofs.bracket_tests.test_bracket.Goals as goal

pub returns-then-is_definite : goal.returns-then-is_definite
returns-then-is_definite c =
    let items = c.args.brackets.now.leaves.items in
    let leaves = map plain_leaf (map (λ leaf. leaf.now) items) in
    let is = get_looked c.deref.result.now items (λ leaf. leaf.now) plain_leaf c.args.position c.in-Some.leaf.now c.deref.ensures.value c.in-Some.ensures.lookup.0 c.in-Some.ensures.lookup.1 in
    on_ok c.add_to.result
    (met_certain (data_in c.args.bundle.now) leaves c.args.position c.args.roots.now (plain_leaf c.in-Some.leaf.now.now) is c.args.memo.now c.add_to.new.memo c.requires.certain (c.is_definite.ensures.0 c.if-is_definite.true))
    c.add_to.ensures

pub leaf_roots-requires : goal.leaf_roots-requires
leaf_roots-requires c =
    let items = c.args.brackets.now.leaves.items in
    let leaves = map plain_leaf (map (λ leaf. leaf.now) items) in
    let is = get_looked c.deref.result.now items (λ leaf. leaf.now) plain_leaf c.args.position c.in-Some.leaf.now c.deref.ensures.value c.in-Some.ensures.lookup.0 c.in-Some.ensures.lookup.1 in
    all_at IsSoundLeaf leaves c.args.position (plain_leaf c.in-Some.leaf.now.now) c.requires.sound is

pub returns : goal.returns
returns c =
    let items = c.args.brackets.now.leaves.items in
    let objects = data_in c.args.bundle.now in
    let leaves = map plain_leaf (map (λ leaf. leaf.now) items) in
    let bracket = plain_leaf c.in-Some.leaf.now.now in
    let is = get_looked c.deref.result.now items (λ leaf. leaf.now) plain_leaf c.args.position c.in-Some.leaf.now c.deref.ensures.value c.in-Some.ensures.lookup.0 c.in-Some.ensures.lookup.1 in
    on_ok c.add_to-2.result
    (met_asked objects leaves c.args.position c.args.roots.now bracket is c.args.memo.now c.add_to-2.new.memo c.as_slice.result.now
    (λ root. subst (λ (l : List ℕ). Contains l root ↔ (Contains c.args.roots.now root × HoldsAt objects root bracket)) (sym c.as_slice.ensures) (c.in_ok-matching.ensures root)))
    c.add_to-2.ensures
