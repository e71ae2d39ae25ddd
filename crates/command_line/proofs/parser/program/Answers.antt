use Rattle.std.proofs.Common.{List, [], ◌∷◌, sym, ap, ◌∙◌, subst}
use Rattle.std.specs.List.{AllZip}
use Rattle.std.proofs.lemmas.Result.{IfOk-weaker}
use Rattle.clap.specs.Words.{App}
use Rattle.clap.specs.declared.builder.command.Command.{Command}
use Rattle.command_line.specs.inner.Forms.{IsCommandOf, command_of, match_form, check_form, show_form, make_form, serve_form}
use Rattle.command_line.proofs.MakingLemmas.{joined, with_apps}
use Rattle.command_line.proofs.parser.program.Goals as goal

abbrev subs : List App
subs = command_of match_form ∷ command_of check_form ∷ command_of show_form ∷ command_of make_form ∷ command_of serve_form ∷ []

pub returns : goal.returns
returns c =
    let none = subst (λ (commands : List Command). AllZip IsCommandOf commands []) (sym c.new-commands.ensures.items) tt in
    let one = c.in_ok-add_match.ensures [] none in
    let two = c.in_ok-add_check.ensures _ one in
    let three = c.in_ok-add_show.ensures _ two in
    let four = c.in_ok-add_make.ensures _ three in
    let five = c.in_ok-add_serve.ensures _ four in
    IfOk-weaker c.subcommands.result _ _
    (λ made adds. joined c.bare_program.result made _ subs adds five ∙ ap (λ (bare : App). with_apps bare subs) c.bare_program.ensures)
    c.subcommands.ensures
