use Rattle.pattern_writer.specs.Path.{IsPathText}
use Rattle.pattern_writer.specs.Check.{operator_text, AreWords}
use Rattle.pattern_writer.proofs.AddingLemmas.{ok_sides}
use Rattle.pattern_writer.proofs.checks.write_textual.Goals as goal

pub returns : goal.returns
returns c = ok_sides c.write_words.result (IsPathText c.args.test.now.path) (AreWords c.args.words.now) (operator_text c.args.test.now.negated c.args.operator.now) c.args.out.now c.write_path.new.out c.write_operator.new.out c.write_words.new.out c.in_ok-write_path.ensures c.in_ok-write_operator.ensures c.write_words.ensures
