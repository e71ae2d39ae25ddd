use Rattle.std.proofs.Common.{◌↔◌, List, ℕ, IsTrue, take, get_or, sym, ap, subst}
use Rattle.std.proofs.lemmas.List.{take_more, take_all}
use Rattle.serde_json.specs.Data.{Data}
use Rattle.stix_bundles.specs.Objects.{data_in}
use Rattle.match_comparisons.specs.Tests.{TestHolds}
use Rattle.match_comparisons.specs.inner.Splits.{SplitsPositions}
use Rattle.match_comparisons.proofs.SplitsLemmas.{one_more}
use Rattle.match_comparisons.proofs.split.split_by_test.Goals as goal

pub loop-at-preserved : goal.loop-at-preserved
loop-at-preserved c =
    let i = c.loop-at.at-index in
    let asked = c.args.asked.now in
    let x = get_or asked i 0 in
    let objects = data_in c.args.bundle.now in
    let Fact = λ (at : ℕ). TestHolds objects at c.args.test.now in
    let holds = subst (λ (in_bundle : List Data). IsTrue c.in_ok-holds.holds ↔ TestHolds in_bundle x c.args.test.now)
    (ap (λ (b : _). data_in b.now) c.new-search.ensures.bundle) c.in_ok-holds.ensures.holds in (
      c.in_ok-holds.ensures.right,
      subst (λ (gone : List ℕ). SplitsPositions Fact gone c.add.new.self) (sym (take_more asked i 0 c.loop-at-test.true))
          (one_more Fact (take i asked) x c.loop-at.split c.add.new.self c.in_ok-holds.holds c.loop-at.invariant.1 holds c.in_ok-add.ensures),
    )

pub returns : goal.returns
returns c =
    subst (λ (gone : List ℕ). SplitsPositions (λ (at : ℕ). TestHolds (data_in c.args.bundle.now) at c.args.test.now) gone c.loop-at.split)
    (take_all c.loop-at.at-index c.args.asked.now c.loop-at-test.false) c.loop-at.invariant.1
