use Rattle.pattern_writer.specs.Path.{IsPathText}
use Rattle.pattern_writer.specs.Constant.{IsConstantText}
use Rattle.pattern_writer.specs.Check.{operator_text}
use Rattle.pattern_writer.proofs.AddingLemmas.{ok_sides}
use Rattle.pattern_writer.proofs.checks.write_comparison.Goals as goal

pub returns : goal.returns
returns c = ok_sides c.write_constant.result (IsPathText c.args.test.now.path) (IsConstantText c.args.value.now) (operator_text c.args.test.now.negated c.args.operator.now) c.args.out.now c.write_path.new.out c.write_operator.new.out c.write_constant.new.out c.in_ok-write_path.ensures c.in_ok-write_operator.ensures c.write_constant.ensures
