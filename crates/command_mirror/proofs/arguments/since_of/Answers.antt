use Rattle.std.proofs.Common.{ℕ, List, Option, IfNone, subst, sym}
use Rattle.command_mirror.specs.Arguments.{IsSinceOf}
use Rattle.command_mirror.proofs.ArgumentLemmas.{two_arguments}
use Rattle.command_mirror.proofs.arguments.since_of.Goals as goal

pub returns-in-len2-clause-none : goal.returns-in-len2-clause-none
returns-in-len2-clause-none c =
    subst (λ (arguments : List (List ℕ)). IfNone c.time_behind.result ((since : Option (List ℕ)) → ¬ IsSinceOf arguments since))
    (sym (two_arguments c.args.last.now c.flag-item.result c.time-item.result _ _ c.in-len2.len_at_least c.in-len2.len_below c.flag-item.is c.time-item.is c.as_str.ensures.value c.as_str-in-len2.ensures.value))
    c.time_behind.ensures.none
