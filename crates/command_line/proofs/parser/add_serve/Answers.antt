use Rattle.std.proofs.Common.{List, [], ◌∷◌, map, sym, subst}
use Rattle.std.specs.List.{AllZip}
use Rattle.clap.specs.Words.{Rule}
use Rattle.clap.specs.declared.builder.arg.Arg.{Arg}
use Rattle.command_line.specs.inner.Forms.{option_rule, HasRule, rules_of_form, serve_form}
use Rattle.command_line.specs.CommandLines.{serve_options}
use Rattle.command_line.proofs.parser.add_serve.Goals as goal

abbrev options : List Rule
options = map option_rule serve_options.valued

pub returns : goal.returns
returns c = λ apps before.
    let each : AllZip HasRule (c.option.result ∷ c.option-2.result ∷ c.option-3.result ∷ c.option-4.result ∷ []) options = (
      (c.option.ensures.rule, c.option.ensures.local),
      (
        (c.option-2.ensures.rule, c.option-2.ensures.local),
        ((c.option-3.ensures.rule, c.option-3.ensures.local), ((c.option-4.ensures.rule, c.option-4.ensures.local), tt)),
      ),
    ) in
    let made : AllZip HasRule c.in_ok-args.args.items options = subst (λ (args : List Arg). AllZip HasRule args options) (sym c.in_ok-args.ensures.items) each in
    c.add_command.ensures (rules_of_form serve_form) apps (c.in_ok-add_free_positions.ensures options made) before
