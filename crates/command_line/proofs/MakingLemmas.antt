-- What `clap` makes of options, positions and commands that it is given in turn.
use Rattle.std.proofs.Common.{◌≡◌, false, ◌||◌, List, [], ◌∷◌, ◌++◌, append_assoc, append-nil, sym, ap, ◌∙◌, subst}
use Rattle.std.specs.List.{AllZip}
use Rattle.clap.specs.Simple.{on_top}
use Rattle.clap.specs.Words.{AddsArg, AddsInTurn, AddsSubcommand, App, Rule, app_of, with_rule, with_subcommand}
use Rattle.clap.specs.declared.builder.arg.Arg.{Arg}
use Rattle.clap.specs.declared.builder.command.Command.{Command}
use Rattle.clap.specs.declared.builder.command.Command.TheViews.{out-Command as fields_of}
use Rattle.command_line.specs.inner.Forms.{HasRule, IsCommandOf}

abbrev set_rules : App → List Rule → App
set_rules app rules = on_top (λ shape. record shape { rules = rules }) app

abbrev pub with_rules : App → List Rule → App
with_rules app rules = set_rules app (app.top.rules ++ rules)

-- options and positions, one after another
pub made_with : (start made : Command) (args : List Arg) (rules : List Rule) → AddsInTurn AddsArg start args made → AllZip HasRule args rules
    → (fields_of start).has_globals ≡ false → IsCommandOf made (with_rules (app_of start) rules)
made_with start made [] [] h z l = (
  ap app_of (sym h) ∙ ap (set_rules (app_of start)) (sym (append-nil (app_of start).top.rules)),
  subst (λ (command : Command). (fields_of command).has_globals ≡ false) h l,
)
made_with start made [] (rule ∷ rules) h z l = absurd z
made_with start made (arg ∷ args) [] h z l = absurd z
made_with start made (arg ∷ args) (rule ∷ rules) h z l =
    let local : (fields_of h.0).has_globals ≡ false = h.1.globals ∙ ap (λ b. b || arg.global) l ∙ z.0.1 in
    let rest = made_with h.0 made args rules h.2 z.1 local in
    let first : app_of h.0 ≡ with_rule (app_of start) rule = h.1.shape z.0.1 ∙ ap (with_rule (app_of start)) z.0.0 in (
      rest.0
          ∙ ap (λ (app : App). with_rules app rules) first
          ∙ ap (set_rules (app_of start)) (append_assoc (app_of start).top.rules (rule ∷ []) rules),
      rest.1,
    )

abbrev pub with_apps : App → List App → App
with_apps app [] = app
with_apps app (sub ∷ subs) = with_apps (with_subcommand app sub.top) subs

-- commands, one after another
pub joined : (start made : Command) (commands : List Command) (apps : List App) → AddsInTurn AddsSubcommand start commands made
    → AllZip IsCommandOf commands apps → app_of made ≡ with_apps (app_of start) apps
joined start made [] [] h z = ap app_of (sym h)
joined start made [] (app ∷ apps) h z = absurd z
joined start made (command ∷ commands) [] h z = absurd z
joined start made (command ∷ commands) (app ∷ apps) h z =
    joined h.0 made commands apps h.2 z.1
    ∙ ap (λ (whole : App). with_apps whole apps) (h.1.shape z.0.1 ∙ ap (λ (sub : App). with_subcommand (app_of start) sub.top) z.0.0)
