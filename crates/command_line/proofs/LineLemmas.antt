-- The command line whole: its first argument is a command, and `clap` takes it just where it takes the arguments after the command.
use Rattle.std.proofs.Common.{◌≡◌, ℕ, Bool, true, false, List, [], ◌∷◌, ◌++◌, fold, find, Some, None, IsUtf8, codes, bytes_eq, append_assoc, append-nil, refl, sym, ap, ◌∙◌, subst}
use Rattle.clap.specs.Lexer.{long_of, short_of}
use Rattle.clap.specs.Kinds.{Kinds, or_else}
use Rattle.clap.specs.Faults.{defaults_fault, fault_of, flags_fault, turn_fault, walk_fault}
use Rattle.clap.specs.Simple.{Shape, built, label_of, names_of, subcommand_of}
use Rattle.clap.specs.Walk.{Names, Walk, answers_to, idle, nothing_held, subcommand_met, walk, walk_from, walked}
use Rattle.command_line.specs.inner.Forms.{CommandForm, check_form, program_app, make_form, match_form, serve_form, show_form}
use Rattle.command_line.proofs.HasLemmas.{Text, same_text}
use Rattle.command_line.proofs.FormLemmas.{is_sound_form}
use Rattle.command_line.proofs.LexerLemmas.{Look, look, dashes, alone, with_value, short, plain, plain_argument_is}
use Rattle.command_line.proofs.RowsLemmas.{both_quiet}
use Rattle.command_line.proofs.StepLemmas.{first_char, leaf}
use Rattle.command_line.proofs.CutLemmas.{AreUtf8}
use Rattle.command_line.proofs.LevelLemmas.{command_fault, command_rows}

-- the commands of the program
pub data Known : CommandForm → Type 0 where
  is_match : Known match_form
  is_check : Known check_form
  is_show : Known show_form
  is_make : Known make_form
  is_serve : Known serve_form

pub sound_of : {form : CommandForm} → Known form → is_sound_form form ≡ true
sound_of is_match = refl
sound_of is_check = refl
sound_of is_show = refl
sound_of is_make = refl
sound_of is_serve = refl

abbrev program_shape : Shape
program_shape = (built program_app).top

abbrev program_names : Names
program_names = names_of (built program_app)

-- where the walk stands once it met a command, and arguments after it
abbrev met : Text → List Text → Walk
met name arguments = record { held = nothing_held; waiting = idle; position = 1; is_trailing = false; stopped = Some (name, arguments) }

record IsCommand (form : CommandForm) : Type 0 where
  goes : walked [] program_names (walk_from nothing_held) form.name ≡ met form.name []
  quiet : turn_fault program_shape program_names (walk_from nothing_held) form.name ≡ []
  found : find (λ s. answers_to form.name (label_of s)) (built program_app).subs ≡ Some (leaf form)

known_command : {form : CommandForm} → Known form → IsCommand form
unfolding walked
known_command is_match = record { goes = refl; quiet = refl; found = refl }
known_command is_check = record { goes = refl; quiet = refl; found = refl }
known_command is_show = record { goes = refl; quiet = refl; found = refl }
known_command is_make = record { goes = refl; quiet = refl; found = refl }
known_command is_serve = record { goes = refl; quiet = refl; found = refl }

-- the arguments after a command are kept for it
met_quiet : (name : Text) (before arguments : List Text) → walk_fault program_shape program_names (met name before) arguments ≡ []
unfolding walked walk_fault
met_quiet name before [] = refl
met_quiet name before (argument ∷ arguments) = met_quiet name (before ++ argument ∷ []) arguments

met_all : (name : Text) (before arguments : List Text) → fold (walked [] program_names) (met name before) arguments ≡ met name (before ++ arguments)
unfolding walked
met_all name before [] = ap (met name) (sym (append-nil before))
met_all name before (argument ∷ arguments) = met_all name (before ++ argument ∷ []) arguments ∙ ap (met name) (append_assoc before (argument ∷ []) arguments)

module _ (form : CommandForm) (known : Known form) (arguments : List Text) where
  walks_to : walk [] program_names nothing_held (form.name ∷ arguments) ≡ met form.name arguments
  walks_to = ap (λ (w : Walk). fold (walked [] program_names) w arguments) (known_command known).goes ∙ met_all form.name [] arguments

  walk_quiet : walk_fault program_shape program_names (walk_from nothing_held) (form.name ∷ arguments) ≡ []
  unfolding walk_fault
  walk_quiet = (both_quiet _ _).1 ((known_command known).quiet, subst (λ (w : Walk). walk_fault program_shape program_names w arguments ≡ []) (sym (known_command known).goes) (met_quiet form.name [] arguments))

  -- the rows of the command
  pub line_rows : subcommand_of program_app (form.name ∷ arguments) ≡ Some (form.name, command_rows form arguments)
  line_rows = rw (walks_to, (known_command known).found) refl

  -- the mistakes are those after the command
  pub line_fault : fault_of program_app (form.name ∷ arguments) ≡ command_fault form arguments
  unfolding defaults_fault
  line_fault = rw (walk_quiet, walks_to, (known_command known).found) (alone_left (command_fault form arguments))
    where
      alone_left : (ks : Kinds) → or_else ks [] ≡ ks
      alone_left [] = refl
      alone_left (k ∷ ks) = refl

-- `--` first leaves the command out
dashes_first : (arguments : List Text) → fault_of program_app ((45 ∷ 45 ∷ []) ∷ arguments) ≡ [] → ⊥
unfolding walked walk_fault defaults_fault
dashes_first [] h = absurd (cc)
dashes_first (argument ∷ arguments) h = absurd (cc)

-- `-` with more first
short_first : (x : ℕ) (xs : Text) → IsUtf8 (45 ∷ x ∷ xs) → bytes_eq (45 ∷ x ∷ xs) (45 ∷ 45 ∷ []) ≡ false → long_of (45 ∷ x ∷ xs) ≡ None → short_of (45 ∷ x ∷ xs) ≡ Some (x ∷ xs)
    → subcommand_met program_names idle (45 ∷ x ∷ xs) ≡ None → turn_fault program_shape program_names (walk_from nothing_held) (45 ∷ x ∷ xs) ≡ [] → ⊥
unfolding flags_fault
short_first x xs utf8 d l s m q =
    let first = first_char x xs utf8 in
    let bad = rw (m, d, l, s, first.1) at q in absurd (cc)

-- a first argument that is no command
module _ (argument : Text) (arguments : List Text) (no_match : bytes_eq (codes "match") argument ≡ false) (no_check : bytes_eq (codes "check") argument ≡ false)
    (no_show : bytes_eq (codes "show") argument ≡ false) (no_make : bytes_eq (codes "make") argument ≡ false)
    (no_serve : bytes_eq (codes "serve") argument ≡ false) where
  none_met : subcommand_met program_names idle argument ≡ None
  none_met = rw (no_match, no_check, no_show, no_make, no_serve) refl

  abbrev Turn : Type 0
  Turn = turn_fault program_shape program_names (walk_from nothing_held) argument ≡ []

  no_command : IsUtf8 argument → Look argument → fault_of program_app (argument ∷ arguments) ≡ [] → ⊥
  unfolding walk_fault
  no_command utf8 l h = go l (((both_quiet _ _).0 ((both_quiet _ _).0 h).0).0)
    where
      go : Look argument → Turn → ⊥
      go (dashes is) q = dashes_first arguments (subst (λ (w : Text). fault_of program_app (w ∷ arguments) ≡ []) is h)
      go (alone name is d l) q = let bad = rw (none_met, d, l) at q in absurd (cc)
      go (with_value name value is d l) q = let bad = rw (none_met, d, l) at q in absurd (cc)
      go (short x xs is d l s) q = short_first x xs (rw is at utf8) (rw is at d) (rw is at l) (rw is at s) (rw is at none_met) (rw is at q)
      go (plain p) q =
          let w = plain_argument_is argument p in
          let bad = rw (none_met, w.not_dashes, w.not_long, w.not_short) at q in absurd (cc)

-- arguments that the program takes begin with a command
pub record Called (arguments : List Text) : Type 0 where
  pub form : CommandForm
  pub known : Known form
  pub rest : List Text
  pub utf8 : AreUtf8 rest
  pub line : arguments ≡ form.name ∷ rest
  pub quiet : command_fault form rest ≡ []
  pub rows : subcommand_of program_app arguments ≡ Some (form.name, command_rows form rest)

called_as : (form : CommandForm) (known : Known form) (argument : Text) (arguments : List Text) → AreUtf8 arguments → bytes_eq form.name argument ≡ true → fault_of program_app (argument ∷ arguments) ≡ [] → Called (argument ∷ arguments)
called_as form known argument arguments utf8 t h =
    let is : argument ≡ form.name = sym (same_text form.name argument t) in
    record {
      form = form;
      known = known;
      rest = arguments;
      utf8 = utf8;
      line = ap (λ (w : Text). w ∷ arguments) is;
      quiet = sym (line_fault form known arguments) ∙ (rw is at h);
      rows = ap (λ (w : Text). subcommand_of program_app (w ∷ arguments)) is ∙ line_rows form known arguments;
    }

pub called_of : (arguments : List Text) → AreUtf8 arguments → fault_of program_app arguments ≡ [] → Called arguments
unfolding walked walk_fault defaults_fault
called_of [] utf8 h = absurd (cc)
called_of (argument ∷ arguments) utf8 h =
    go (bytes_eq (codes "match") argument) (bytes_eq (codes "check") argument) (bytes_eq (codes "show") argument) (bytes_eq (codes "make") argument) (bytes_eq (codes "serve") argument) refl refl refl refl refl
  where
    go : (a b c d e : Bool) → bytes_eq (codes "match") argument ≡ a → bytes_eq (codes "check") argument ≡ b → bytes_eq (codes "show") argument ≡ c → bytes_eq (codes "make") argument ≡ d
        → bytes_eq (codes "serve") argument ≡ e → Called (argument ∷ arguments)
    go true b c d e p q r s t = called_as match_form is_match argument arguments utf8.1 p h
    go false true c d e p q r s t = called_as check_form is_check argument arguments utf8.1 q h
    go false false true d e p q r s t = called_as show_form is_show argument arguments utf8.1 r h
    go false false false true e p q r s t = called_as make_form is_make argument arguments utf8.1 s h
    go false false false false true p q r s t = called_as serve_form is_serve argument arguments utf8.1 t h
    go false false false false false p q r s t = absurd (no_command argument arguments p q r s t utf8.0 (look argument) h)
