use Rattle.std.specs.Prelude.{codes}
use Rattle.pattern_writer.specs.Path.{IsNameText}
use Rattle.pattern_writer.proofs.AddingLemmas.{ok_after}
use Rattle.pattern_writer.proofs.paths.write_step.Goals as goal

pub returns-in_ok-push-in-Name : goal.returns-in_ok-push-in-Name
returns-in_ok-push-in-Name c =
    rw (c.in-Name.is, ← c.as_str.ensures)
    (ok_after c.write_name.result (IsNameText c.as_str.result.now) (codes ".") c.args.out.now c.push.new.self c.write_name.new.out c.in_ok-push-in-Name.ensures.ok c.write_name.ensures)
