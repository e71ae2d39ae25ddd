-- The grammar of each command, and the program as a `clap` command.
use Rattle.std.specs.Prelude.{◌≡◌, ℕ, List, [], ◌∷◌, ◌++◌, map, Bool, true, false, Some, codes}
use Rattle.clap.specs.Words.{App, Rule, app_of, new_app, new_rule, rule_of, with_subcommand}
use Rattle.clap.specs.declared.builder.arg.Arg.{Arg}
use Rattle.clap.specs.declared.builder.command.Command.{Command}
use Rattle.clap.specs.declared.builder.command.Command.TheViews.{out-Command as fields_of}
use Rattle.clap.specs.Simple.{Shape, new_shape, on_top}
use Rattle.clap.specs.declared.builder.action.ArgAction.TheVariants.{SetTrue}
use Rattle.command_line.specs.Parts.{Options}
use Rattle.command_line.specs.CommandLines.{match_options, no_options, serve_options}
use Rattle.command_line.specs.declared.serve.TheConstants.{COLLECTION_NAMES}

-- a command: its name, its options, its positional arguments, and whether these are required
pub record CommandForm : Type 0 where
  pub name : List ℕ
  pub options : Options
  pub positions : List (List ℕ)
  pub needs_all : Bool

-- a flag
abbrev pub flag_rule : List ℕ → Rule
flag_rule name = record (new_rule name) { long = Some name; action = Some SetTrue }

-- an option with a value
abbrev pub option_rule : List ℕ → Rule
option_rule name = record (new_rule name) { long = Some name }

-- a positional argument, and whether it is required
abbrev pub position_rule : Bool → List ℕ → Rule
position_rule needed name = record (new_rule name) { required = needed }

-- optional positional arguments
abbrev pub free_rules : List (List ℕ) → List Rule
free_rules names = map (position_rule false) names

abbrev pub rules_of_form : CommandForm → List Rule
rules_of_form form = map flag_rule form.options.flags ++ (map option_rule form.options.valued ++ map (position_rule form.needs_all) form.positions)

-- a command with this name and these rules
abbrev pub app_with : List ℕ → List Rule → App
app_with name rules = record { top = record (new_shape name) { rules = rules }; subs = [] }

-- the command as `clap` has it
abbrev pub command_of : CommandForm → App
command_of form = app_with form.name (rules_of_form form)

-- the option or positional argument has the rule, and is not global
abbrev pub HasRule : Arg → Rule → Type 0
HasRule arg rule = (rule_of arg ≡ rule) × (arg.global ≡ false)

-- the command is this one, and none of its options is global
abbrev pub IsCommandOf : Command → App → Type 0
IsCommandOf command app = (app_of command ≡ app) × ((fields_of command).has_globals ≡ false)

-- no help, no version, no program name among the arguments, and a command is required
abbrev pub without_extras : Shape → Shape
without_extras shape = record shape {
  no_binary_name = true;
  disable_help_flag = true;
  disable_help_subcommand = true;
  disable_version_flag = true;
  subcommand_required = true;
}

abbrev pub match_form : CommandForm
match_form = record { name = codes "match"; options = match_options; positions = codes "pattern" ∷ []; needs_all = true }

abbrev pub check_form : CommandForm
check_form = record { name = codes "check"; options = no_options; positions = []; needs_all = true }

abbrev pub show_form : CommandForm
show_form = record { name = codes "show"; options = no_options; positions = codes "pattern" ∷ []; needs_all = true }

abbrev pub make_form : CommandForm
make_form = record { name = codes "make"; options = no_options; positions = codes "seed" ∷ codes "count" ∷ []; needs_all = true }

-- the positional arguments of `serve`: a collection each
abbrev pub collection_names : List (List ℕ)
collection_names = map (λ name. name.now) COLLECTION_NAMES

abbrev pub serve_form : CommandForm
serve_form = record { name = codes "serve"; options = serve_options; positions = collection_names; needs_all = false }

-- the program with no command yet
abbrev pub bare_app : App
bare_app = on_top without_extras (new_app (codes "stix_command"))

abbrev pub with_form : App → CommandForm → App
with_form app form = with_subcommand app (command_of form).top

-- the program with its commands
abbrev pub program_app : App
program_app = with_form (with_form (with_form (with_form (with_form bare_app match_form) check_form) show_form) make_form) serve_form
