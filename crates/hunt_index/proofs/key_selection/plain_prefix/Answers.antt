use Rattle.std.proofs.Common.{drop, subst, sym, ◌∙◌}
use Rattle.std.proofs.lemmas.Bool.{false≢true}
use Rattle.std.proofs.lemmas.List.Elements.{All-more}
use Rattle.match_comparisons.proofs.ContainsLemmas.{take_whole}
use Rattle.hunt_index.specs.Definite.{IsPlain, ArePlain}
use Rattle.hunt_index.proofs.IndexKeyLemmas.{split_at, plain_unless}
use Rattle.hunt_index.proofs.key_selection.plain_prefix.Goals.{in-Each, in_default}
use Rattle.hunt_index.proofs.key_selection.plain_prefix.Goals as goal

pub returns-then-matches-clause-front : goal.returns-then-matches-clause-front
returns-then-matches-clause-front c = (drop c.loop-at.at c.args.steps.now, split_at c.loop-at.at c.args.steps.now)

pub loop-at-preserved : goal.loop-at-preserved
loop-at-preserved c =
    let step = c.index-steps-at.result in
    let plain : IsPlain step = elim c.match-matches.branch [
      | in-Each w ↦ absurd (false≢true (sym c.if-matches.false ∙ w.matches-is))
      | in_default w ↦ plain_unless step w.in_default.not-Each
    ] in
    All-more IsPlain c.args.steps.now c.loop-at.at step c.loop-at-test.true c.loop-at.invariant (subst IsPlain c.index-steps-at.is plain)

pub returns-clause-plain : goal.returns-clause-plain
returns-clause-plain c = subst ArePlain (take_whole c.args.steps.now c.loop-at.at c.loop-at-test.false) c.loop-at.invariant
