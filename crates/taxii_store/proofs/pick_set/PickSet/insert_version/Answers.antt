use Rattle.std.proofs.Common.{◌≡◌, ℤ, true, cond, w64, to_z, of_z, subst, rules}
use Rattle.std.specs.Ordering.{int_cmp, is_eq}
use Rattle.std.specs.BTreeSet.{contains}
use Rattle.std.proofs.lemmas.Int.{to_z-of_z}
use Rattle.taxii_store.proofs.PickLemmas.{with_version}
use Rattle.taxii_store.proofs.pick_set.PickSet.insert_version.Goals as goal

pub returns : goal.returns
returns c = λ picks has.
    let same : to_z w64 (of_z w64 c.args.version) ≡ c.args.version = to_z-of_z w64 c.args.version (search rules) in
    let old = c.args.self.now.versions in
    let updates = subst (λ (key : ℤ). (v : ℤ) → contains int_cmp c.insert.new.self v ≡ cond (is_eq (int_cmp key v)) true (contains int_cmp old v)) same c.in_ok-insert.ensures.updates.0 in
    with_version picks c.args.version c.args.self.now c.insert.new.self has updates
