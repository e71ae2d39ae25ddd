use Rattle.std.proofs.Common.{◌≡◌, true, refl, ap, ◌∙◌, subst}
use Rattle.std.proofs.lemmas.Result.{IfOk-weaker}
use Rattle.clap.specs.Words.{App, FailsBy, fault_of, is_simple, is_simple_and_free, subcommand_of}
use Rattle.command_line.specs.CommandLines.{argument_texts}
use Rattle.command_line.specs.inner.Forms.{program_app}
use Rattle.command_line.proofs.parser.parse.Goals as goal

simple : is_simple program_app ≡ true
simple = refl

simple_and_free : is_simple_and_free program_app ≡ true
simple_and_free = refl

pub returns-clause-matches : goal.returns-clause-matches
returns-clause-matches c =
    IfOk-weaker c.try_get_matches_from.result _ _
    (λ m has. (has (ap is_simple c.in_ok-program.ensures ∙ simple)).1 ∙ ap (λ (app : App). subcommand_of app (argument_texts c.args.arguments.now)) c.in_ok-program.ensures)
    c.try_get_matches_from.ensures.matches

pub returns-clause-exact : goal.returns-clause-exact
returns-clause-exact c =
    subst (λ (app : App). FailsBy (fault_of app (argument_texts c.args.arguments.now)) c.try_get_matches_from.result) c.in_ok-program.ensures
    (c.try_get_matches_from.ensures.kinds (ap is_simple_and_free c.in_ok-program.ensures ∙ simple_and_free))
