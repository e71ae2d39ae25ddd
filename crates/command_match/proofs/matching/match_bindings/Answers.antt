use Rattle.std.proofs.Common.{rules, ◌≢◌, refl}
use Rattle.pattern_reader.specs.declared.pattern_refusal.PatternRefusal.TheVariants as refused
use Rattle.command_match.proofs.matching.match_bindings.Goals as goal

pub returns-in-Err-clause-end : goal.returns-in-Err-clause-end
returns-in-Err-clause-end g c =
    let other : c.in-Err.refusal ≢ refused.NoMemory = search rules in
    (record { unread = λ pattern read. c.none_refused.ensures _ pattern _ read (c.in-Err.ensures.err other); why = c.in-Err.ensures.err other }, refl)
