use Rattle.std.specs.Prelude.{codes}
use Rattle.pattern_writer.specs.Path.{IsPathText}
use Rattle.pattern_writer.specs.Check.{operator_text, IsSetLiteralText}
use Rattle.pattern_writer.proofs.AddingLemmas.{ok_sides}
use Rattle.pattern_writer.proofs.checks.write_among.Goals as goal

pub returns : goal.returns
returns c = ok_sides c.write_list.result (IsPathText c.args.test.now.path) (IsSetLiteralText c.args.values.now) (operator_text c.args.test.now.negated (codes "IN")) c.args.out.now c.write_path.new.out c.write_operator.new.out c.write_list.new.out c.in_ok-write_path.ensures c.in_ok-write_operator.ensures c.write_list.ensures
