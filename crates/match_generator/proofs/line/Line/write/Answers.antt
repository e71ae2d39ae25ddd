use Rattle.std.proofs.lemmas.List.{append_assoc}
use Rattle.match_generator.specs.GeneratedLog.{line_text}
use Rattle.match_generator.proofs.line.Line.write.Goals as goal

pub returns : goal.returns
unfolding line_text
returns c =
    simp (c.push-5.ensures, c.push-4.ensures, c.push-3.ensures, c.push_time-2.ensures, c.push-2.ensures, c.push_time.ensures, c.push.ensures, c.clear.ensures, append_assoc)
