use Rattle.std.proofs.Common.{refl, sym, ◌∙◌}
use Rattle.std.specs.declared.cmp.Ordering.TheVariants.{Equal}
use Rattle.std.proofs.lemmas.Bool.{false≢true}
use Rattle.pattern_types.specs.declared.constant.Constant.{Constant}
use Rattle.stix_json.specs.DataOf.{data_of}
use Rattle.match_comparisons.specs.Tests.{Compares}
use Rattle.match_comparisons.proofs.FoundLemmas.{none_next, none_at_all, some_here}
use Rattle.match_comparisons.proofs.check.is_among.Goals as goal

pub returns-then-compares_so : goal.returns-then-compares_so
returns-then-compares_so c = λ last stands.
    let P = λ (constant : Constant). Compares last (data_of c.args.value.now) constant Equal in
    let holds = (c.compares_so.ensures last stands).0 c.if-compares_so.true in
    (λ _. some_here P c.args.constants.now c.loop-constant.constant-index c.constant-item.result c.loop-constant-test.true c.constant-item.is holds, λ _. refl)

pub loop-constant-preserved : goal.loop-constant-preserved
loop-constant-preserved c = λ last stands.
    let P = λ (constant : Constant). Compares last (data_of c.args.value.now) constant Equal in
    let other = λ (holds : P c.constant-item.result). false≢true (sym c.if-compares_so.false ∙ (c.compares_so.ensures last stands).1 holds) in
    none_next P c.args.constants.now c.loop-constant.constant-index c.constant-item.result c.loop-constant-test.true c.constant-item.is (c.loop-constant.invariant last stands) other

pub returns : goal.returns
returns c = λ last stands.
    let P = λ (constant : Constant). Compares last (data_of c.args.value.now) constant Equal in
    let none = none_at_all P c.args.constants.now c.loop-constant.constant-index c.loop-constant-test.false (c.loop-constant.invariant last stands) in
    (λ yes. absurd (false≢true yes), λ some. absurd (none some))
