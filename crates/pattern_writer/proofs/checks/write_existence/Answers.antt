use Rattle.std.proofs.Common.{◌++◌}
use Rattle.std.specs.Prelude.{codes}
use Rattle.pattern_writer.specs.Path.{IsPathText}
use Rattle.pattern_writer.specs.Check.{not_text}
use Rattle.pattern_writer.proofs.AddingLemmas.{two_added, ok_after}
use Rattle.pattern_writer.proofs.checks.write_existence.Goals as goal

pub returns : goal.returns
returns c =
    let negated = not_text c.args.test.now.negated in
    let led = two_added c.args.out.now c.push.new.self c.push-2.new.self negated (codes "EXISTS ") (rw c.not_word.ensures at c.in_ok-push.ensures.ok) c.in_ok-push-2.ensures.ok in
    ok_after c.write_path.result (IsPathText c.args.test.now.path) (negated ++ codes "EXISTS ") c.args.out.now c.push-2.new.self c.write_path.new.out led c.write_path.ensures
