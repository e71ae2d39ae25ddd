use Rattle.std.proofs.Common.{List, refl, sym, subst}
use Rattle.std.specs.Prelude.{Contains}
use Rattle.pattern_types.specs.declared.constant.Constant.{Constant}
use Rattle.match_comparisons.proofs.ContainsLemmas.{take_whole}
use Rattle.hunt_index.specs.declared.index_key.IndexKey.{IndexKey}
use Rattle.hunt_index.proofs.IndexKeyLemmas.{keyed_next, by_next}
use Rattle.hunt_index.proofs.key_selection.index_keys_by_value.Goals as goal

pub loop-constant-preserved : goal.loop-constant-preserved
loop-constant-preserved c =
    let index_key : IndexKey = record { kind = c.args.kind; steps = c.args.steps; key = c.key_of.result } in (
      keyed_next c.args.kind.now c.args.steps.now c.args.constants.now c.loop-constant.constant-index c.constant-item.result c.loop-constant.index_keys c.push.new.self
          index_key c.loop-constant-test.true c.constant-item.is c.in_ok-push.ensures.ok refl refl c.key_of.ensures.stands c.loop-constant.invariant.0,
      by_next c.args.kind.now c.args.steps.now c.args.constants.now c.loop-constant.constant-index c.constant-item.result c.loop-constant.index_keys c.push.new.self
          index_key c.loop-constant-test.true c.constant-item.is c.in_ok-push.ensures.ok refl refl c.key_of.ensures.answers c.loop-constant.invariant.1,
    )

pub returns-clause-has : goal.returns-clause-has
returns-clause-has c = λ constant has.
    c.loop-constant.invariant.0 constant
    (subst (λ (l : List Constant). Contains l constant) (sym (take_whole c.args.constants.now c.loop-constant.constant-index c.loop-constant-test.false)) has)
