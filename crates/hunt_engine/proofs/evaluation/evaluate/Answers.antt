-- What is marked, and what that is owned by.
use Rattle.std.proofs.Common.{◌≡◌, ℕ, List, length, get_or, arith, ap, subst}
use Rattle.std.specs.Prelude.{Contains, map}
use Rattle.std.proofs.lemmas.List.{length-map}
use Rattle.std.proofs.lemmas.List.Elements.{Contains-get_or}
use Rattle.stix_bundles.specs.Objects.{data_in}
use Rattle.pattern_types.specs.PlainLeaf.{plain_leaf}
use Rattle.hunt_engine.specs.inner.Evaluation.{AreOwners}
use Rattle.hunt_engine.proofs.EvaluateLemmas.{marks_inside, judged_all}
use Rattle.hunt_engine.proofs.evaluation.evaluate.Goals as goal

pub owners_of-requires-clause-inside : goal.owners_of-requires-clause-inside
owners_of-requires-clause-inside c = λ k d h.
    let items = c.args.brackets.now.leaves.items in
    let long = length-map items (λ leaf. leaf.now) in let long' = length-map (map (λ leaf. leaf.now) items) plain_leaf in
    let owned = c.requires.owned in
    let same : length c.as_slice.result.now ≡ length c.args.brackets.now.owners.items = ap length c.as_slice.ensures.value in
    let below = marks_inside _ _ _ _ _ c.in_ok-matching.ensures.marks (get_or c.as_slice-2.result.now k d)
    (subst (λ (l : List ℕ). Contains l (get_or c.as_slice-2.result.now k d)) c.as_slice-2.ensures.value (Contains-get_or c.as_slice-2.result.now k d h)) in
    omega (arith, below, long, long', owned, same)

pub returns-clause-evaluated : goal.returns-clause-evaluated
returns-clause-evaluated c =
    let owners = c.args.brackets.now.owners.items in
    let matching = c.in_ok-matching.matching.items in
    judged_all (data_in c.args.bundle.now) c.args.roots.now (map plain_leaf (map (λ leaf. leaf.now) c.args.brackets.now.leaves.items)) owners c.mark_matching.new.marks matching c.in_ok-affected.affected.items
    c.in_ok-matching.ensures.marks
    (subst (λ (l : List ℕ). AreOwners owners l (length l) c.in_ok-affected.affected.items) c.as_slice-2.ensures.value
    (subst (λ (o : List ℕ). AreOwners o c.as_slice-2.result.now (length c.as_slice-2.result.now) c.in_ok-affected.affected.items) c.as_slice.ensures.value c.in_ok-affected.ensures))
