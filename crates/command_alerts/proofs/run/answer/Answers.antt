use Rattle.std.proofs.Common.{rules, ◌≢◌, refl}
use Rattle.pattern_reader.specs.declared.pattern_refusal.PatternRefusal.TheVariants as refused
use Rattle.command_alerts.proofs.run.answer.Goals as goal

pub returns-in-Err : goal.returns-in-Err
returns-in-Err g c =
    let other : c.in-Err.refusal ≢ refused.NoMemory = search rules in
    let why = c.in-Err.ensures.err other in record {
      end = (record { unread = λ pattern read. c.none_refused.ensures _ pattern _ read why; why = why }, refl);
      untouched = search rules;
      input = search rules;
      output = search rules;
    }
