use Rattle.std.proofs.Common.{◌≡◌, List, [], ◌∷◌, ◌++◌, sym, ap, ◌∙◌, subst}
use Rattle.std.specs.List.{AllZip}
use Rattle.std.proofs.lemmas.Slice.Zip.{all_zipped_more}
use Rattle.clap.specs.Words.{App, app_of}
use Rattle.clap.specs.declared.builder.command.Command.{Command}
use Rattle.command_line.specs.inner.Forms.{app_with, IsCommandOf}
use Rattle.command_line.proofs.MakingLemmas.{made_with, with_rules}
use Rattle.command_line.proofs.parser.add_command.Goals as goal

pub returns : goal.returns
returns c = λ rules apps of_args before.
    let command = c.in_ok-command.command in
    let app = app_with c.args.name.now rules in
    let made = made_with c.new.result command c.args.args.items rules c.in_ok-command.ensures of_args c.new.ensures.local in
    let is : app_of command ≡ app = made.0 ∙ ap (λ (bare : App). with_rules bare rules) c.new.ensures.app in
    subst (λ (commands : List Command). AllZip IsCommandOf commands (apps ++ app ∷ [])) (sym c.in_ok-push.ensures.items)
    (all_zipped_more IsCommandOf c.args.commands.now.items apps command app before (is, made.1))
