use Rattle.std.specs.Prelude.{codes}
use Rattle.pattern_writer.specs.Parts.{IsAfterText}
use Rattle.pattern_writer.specs.Constant.{IsTimeText}
use Rattle.pattern_writer.proofs.AddingLemmas.{adds_after, ok_sides}
use Rattle.pattern_writer.proofs.limits.write_span.Goals as goal

pub returns : goal.returns
returns c =
    let start = adds_after (IsTimeText c.args.begins) (codes "START ") c.args.out.now c.push.new.self c.write_time.new.out c.in_ok-push.ensures.ok c.in_ok-write_time.ensures in
    ok_sides c.write_time-2.result (IsAfterText (codes "START ") (IsTimeText c.args.begins)) (IsTimeText c.args.ends) (codes " STOP ") c.args.out.now c.write_time.new.out c.push-2.new.self c.write_time-2.new.out start c.in_ok-push-2.ensures.ok c.write_time-2.ensures
