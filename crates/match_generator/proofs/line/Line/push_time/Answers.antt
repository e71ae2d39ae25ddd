use Rattle.std.proofs.lemmas.List.{append_assoc}
use Rattle.match_generator.specs.GeneratedLog.{time_text}
use Rattle.match_generator.proofs.line.Line.push_time.Goals as goal

pub returns : goal.returns
unfolding time_text
returns c =
    simp (c.push-5.ensures, c.push_pair-4.ensures, c.push-4.ensures, c.push_pair-3.ensures, c.push-3.ensures, c.push_pair-2.ensures, c.push-2.ensures, c.push_pair.ensures, c.push.ensures, append_assoc)
