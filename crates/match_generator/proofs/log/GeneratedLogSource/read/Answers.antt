use Rattle.std.proofs.Common.{◌≡◌, ◌≤◌, Some, length, take, drop, rules, ap, arith}
use Rattle.std.proofs.lemmas.Grind.{common_steps}
use Rattle.match_generator.specs.GeneratedLog.{events, lines_text}
use Rattle.match_generator.proofs.LinesTextLemmas.{StandsIn, in_next, in_last, in_same, given, rest, end}
use Rattle.match_generator.proofs.log.GeneratedLogSource.read.Goals as goal
use Rattle.match_generator.proofs.log.GeneratedLogSource.read.Goals.{then-self-len+then-self-gt0, else-self-len, else-self-len-via-then-self-len+else-self-gt0, else-self-len-via-else-self-len}

pub returns : goal.returns
returns c =
    let old = c.self.inside in
    let log = c.if-self-len.self-inside in
    let n = c.min-count.result in
    let stands : StandsIn c.args.self.now log.line log.at (lines_text log.seconds (events log.generator.state log.lines_to_come)) =
    elim c.if-self-len.branch [
      | then-self-len+then-self-gt0 w ↦
          let first = w.draw.ensures in
          let second = w.draw-then-self-gt0.ensures in
          rw w.self-inside-is (in_next _ old.line _ old.at old.seconds old.generator.state old.lines_to_come _ _ _ _ c.self.view_is (omega arith) (omega arith) first.state first.number second.state second.number w.write.ensures)
      | else-self-len w ↦ rw w.self-inside-is (elim w.else-self-len.branch [
        | else-self-len-via-then-self-len+else-self-gt0 w' ↦ in_last _ _ _ _ _ _ c.self.view_is (omega arith) (omega arith)
        | else-self-len-via-else-self-len w' ↦ in_same _ _ _ _ c.self.view_is (omega arith)
      ])
    ] in
    let few : n ≤ length (drop log.at log.line) = grind (arith, common_steps) in
    let copied : c.copy_from_slice.new.self ≡ take n (drop log.at log.line) = grind (arith, common_steps) in
    record {
      within = search rules;
      given = given _ _ _ _ _ _ _ stands few copied;
      rest = ap Some (rest _ _ _ _ _ stands few);
      end = λ none. end _ _ _ _ n (length c.args.buffer.now) stands (grind (arith, common_steps)) c.requires.room (cc);
      err = search rules;
      causes = search rules;
      fails = search rules;
      behind = grind (arith, common_steps);
    }
