use Rattle.std.proofs.Common.{◌∙◌}
use Rattle.taxii_routes.proofs.ReadsLemmas.{pair_answers}
use Rattle.taxii_routes.proofs.query.Query.add_pair.Goals as goal

pub returns-in-Some-clause-ok : goal.returns-in-Some-clause-ok
returns-in-Some-clause-ok c =
    (pair_answers c.args.name.now c.args.value.now c.in-Some.param c.as_str.result.now c.as_str-in-Some.result.now c.args.self.now c.add.new.self c.add.result
    (c.as_str.ensures.value ∙ c.in_ok-name.ensures.value.2) (c.as_str-in-Some.ensures.value ∙ c.in_ok-value-in-Some.ensures.value.2) c.in-Some.ensures (c.add.ensures.ok, c.add.ensures.err)).0

pub returns-in-Some-clause-err : goal.returns-in-Some-clause-err
returns-in-Some-clause-err c =
    (pair_answers c.args.name.now c.args.value.now c.in-Some.param c.as_str.result.now c.as_str-in-Some.result.now c.args.self.now c.add.new.self c.add.result
    (c.as_str.ensures.value ∙ c.in_ok-name.ensures.value.2) (c.as_str-in-Some.ensures.value ∙ c.in_ok-value-in-Some.ensures.value.2) c.in-Some.ensures (c.add.ensures.ok, c.add.ensures.err)).1
