-- Command lines and what `clap` finds in their arguments: that the arguments ask for a request is that `clap` takes them and its rows ask for it.
use Rattle.std.proofs.lemmas.Bool.{false≢true}
use Rattle.std.proofs.Common.{◌≡◌, ◌≤◌, ℕ, Bool, true, false, ◌||◌, if◌then◌else◌, List, [], ◌∷◌, length, Option, Some, None, unwrap_or, slice_get, String, codes, bytes_eq, inl, inr, refl, sym, ap, ◌∙◌, subst, arith}
use Rattle.std.specs.declared.alloc.Global.{Global}
use Rattle.std.proofs.lemmas.Str.{IsUtf8-string_bytes}
use Rattle.clap.specs.Faults.{fault_of}
use Rattle.clap.specs.Kinds.{HasKind, IsAmong, Kinds}
use Rattle.clap.specs.Values.{kind_of}
use Rattle.clap.specs.declared.error.Error.{Error}
use Rattle.clap.specs.declared.error.kind.ErrorKind.TheVariants.{OutOfMemory}
use Rattle.clap.specs.Simple.{subcommand_of}
use Rattle.clap.specs.Walk.{Row, first_of, one_of}
use Rattle.command_line.specs.Parts.{ArgumentPart, positions}
use Rattle.command_line.specs.CommandLines.{AreCollectionsOf, Check, IsBase, IsCalledWith, IsCommandLine, IsFile, IsFlag, IsNumberIn, IsNumberOf, IsNumberOr, IsServeLine, IsValueOrNone, Make, Match, PlainRequest, PlainService, Serve, Show, flags_of, argument_texts, option_values}
use Rattle.match_generator.specs.declared.log.TheConstants.{MAX_SEED, MAX_COUNT}
use Rattle.command_line.specs.declared.numbers.TheConstants.{DEFAULT_RETAINED_LIMIT, MAX_RETAINED_LIMIT, MAX_CONNECTIONS, MAX_PORT}
use Rattle.command_line.specs.inner.Forms.{CommandForm, check_form, collection_names, program_app, make_form, match_form, serve_form, show_form}
use Rattle.command_line.specs.inner.Rows.{command_name, IsAskedBy, IsAskedIn, IsRetainedLimitText, IsFlagText, IsMatchIn, IsPresentNumberText, IsServeIn, IsTextOrNone, arguments_at}
use Rattle.command_line.proofs.HasLemmas.{Text, differ, has, or_false, same_text}
use Rattle.command_line.proofs.PartRowsLemmas.{argument_rows}
use Rattle.command_line.proofs.CutLemmas.{AreUtf8}
use Rattle.command_line.proofs.LevelLemmas.{Fits, IsTaken, Tells, command_rows, flag_text, level_from, level_to}
use Rattle.command_line.proofs.LineLemmas.{Known, called_of, is_check, is_make, is_match, is_serve, is_show, line_fault, line_rows, sound_of}
use Rattle.command_line.proofs.CollectionLemmas.{as_many, same_collections}
use Rattle.command_line.proofs.ArgumentsLemmas.{arguments_back, arguments_same}
use Rattle.command_line.proofs.FormLemmas.{positions_distinct}

-- the arguments of a program are UTF-8
pub texts_utf8 : (arguments : List (String Global)) → AreUtf8 (argument_texts arguments)
texts_utf8 [] = tt
texts_utf8 (argument ∷ arguments) = (IsUtf8-string_bytes argument, texts_utf8 arguments)

one_name : (x name : Text) → has name (x ∷ []) ≡ true → name ≡ x
one_name x name h = sym (same_text x name (sym (or_false (bytes_eq x name)) ∙ h))

no_name : {A : Type 0} (name : Text) → has name [] ≡ true → A
no_name name h = absurd (false≢true h)

flag_once : (flags : List Text) (given : Bool) → IsFlag flags given → length flags ≤ 1
flag_once [] given h = omega arith
flag_once (flag ∷ []) given h = omega arith
flag_once (flag ∷ other ∷ flags) given h = absurd h

number_once : (usual least most : ℕ) (values : List Text) (number : ℕ) → IsNumberOr usual least most values number → length values ≤ 1
number_once usual least most [] number h = omega arith
number_once usual least most (value ∷ []) number h = omega arith
number_once usual least most (value ∷ other ∷ values) number h = absurd h

-- what the flags of a name and their text say
abbrev text_of : Bool → Text
text_of given = if given then codes "true" else codes "false"

flag_to : (flags : List Text) (given : Bool) (o : Option Text) → length flags ≤ 1 → o ≡ Some (flag_text flags) → IsFlagText o given → IsFlag flags given
flag_to [] given o few e t = t.1 e
flag_to (flag ∷ []) given o few e t = t.0 e
flag_to (flag ∷ other ∷ flags) given o few e t = absurd (omega arith)

flag_from : (flags : List Text) (given : Bool) → IsFlag flags given → flag_text flags ≡ text_of given
flag_from [] given h = rw h refl
flag_from (flag ∷ []) given h = rw h refl
flag_from (flag ∷ other ∷ flags) given h = absurd h

text_says : (o : Option Text) (given : Bool) → o ≡ Some (text_of given) → IsFlagText o given
text_says o true e = (λ t. refl, λ f. let bad : Some (codes "true") ≡ Some (codes "false") = sym e ∙ f in absurd (cc))
text_says o false e = (λ t. let bad : Some (codes "false") ≡ Some (codes "true") = sym e ∙ t in absurd (cc), λ f. refl)

retained_limit_to : (values : List Text) (retained_limit : ℕ) (o : Option Text) → length values ≤ 1 → o ≡ slice_get values 0 → IsRetainedLimitText o retained_limit → IsNumberOr DEFAULT_RETAINED_LIMIT 1 MAX_RETAINED_LIMIT values retained_limit
retained_limit_to [] retained_limit o few e h = subst (λ (t : Option Text). IsRetainedLimitText t retained_limit) e h
retained_limit_to (value ∷ []) retained_limit o few e h = subst (λ (t : Option Text). IsRetainedLimitText t retained_limit) e h
retained_limit_to (value ∷ other ∷ values) retained_limit o few e h = absurd (omega arith)

retained_limit_from : (values : List Text) (retained_limit : ℕ) (o : Option Text) → o ≡ slice_get values 0 → IsNumberOr DEFAULT_RETAINED_LIMIT 1 MAX_RETAINED_LIMIT values retained_limit → IsRetainedLimitText o retained_limit
retained_limit_from [] retained_limit o e h = subst (λ (t : Option Text). IsRetainedLimitText t retained_limit) (sym e) h
retained_limit_from (value ∷ []) retained_limit o e h = subst (λ (t : Option Text). IsRetainedLimitText t retained_limit) (sym e) h
retained_limit_from (value ∷ other ∷ values) retained_limit o e h = absurd h

-- one position, and two
pattern_to : (arguments : List Text) (pattern : Text) → length arguments ≡ 1 → first_of (codes "pattern") (argument_rows (codes "pattern" ∷ []) arguments) ≡ Some pattern → arguments ≡ pattern ∷ []
pattern_to [] pattern few e = absurd (omega arith)
pattern_to (argument ∷ []) pattern few e = let same : argument ≡ pattern = cc in ap (λ (w : Text). w ∷ []) same
pattern_to (argument ∷ other ∷ arguments) pattern few e = absurd (omega arith)

pattern_from : (arguments : List Text) (pattern : Text) → arguments ≡ pattern ∷ [] → first_of (codes "pattern") (argument_rows (codes "pattern" ∷ []) arguments) ≡ Some pattern
pattern_from arguments pattern e = rw e refl

-- the argument_texts of a seed and a count
record Both (arguments : List Text) : Type 0 where
  seed : Text
  count : Text
  both : arguments ≡ seed ∷ count ∷ []
  seed_is : first_of (codes "seed") (argument_rows (codes "seed" ∷ codes "count" ∷ []) arguments) ≡ Some seed
  count_is : first_of (codes "count") (argument_rows (codes "seed" ∷ codes "count" ∷ []) arguments) ≡ Some count

both_of : (arguments : List Text) → length arguments ≡ 2 → Both arguments
both_of [] few = absurd (omega arith)
both_of (a ∷ []) few = absurd (omega arith)
both_of (a ∷ b ∷ []) few = record { seed = a; count = b; both = refl; seed_is = refl; count_is = refl }
both_of (a ∷ b ∷ c ∷ arguments) few = absurd (omega arith)

number_text : (least most : ℕ) (o : Option Text) (text : Text) (number : ℕ) → o ≡ Some text → IsPresentNumberText least most o number → IsNumberIn least most text number
number_text least most o text number e h = subst (λ (t : Option Text). IsPresentNumberText least most t number) e h

-- a number and a text that an option names
of_once : (least most : ℕ) (values : List Text) (number : ℕ) → IsNumberOf least most values number → length values ≤ 1
of_once least most [] number h = absurd h
of_once least most (value ∷ []) number h = omega arith
of_once least most (value ∷ other ∷ values) number h = absurd h

of_to : (least most : ℕ) (values : List Text) (number : ℕ) (o : Option Text) → length values ≤ 1 → o ≡ slice_get values 0 → IsPresentNumberText least most o number → IsNumberOf least most values number
of_to least most [] number o few e h = subst (λ (t : Option Text). IsPresentNumberText least most t number) e h
of_to least most (value ∷ []) number o few e h = subst (λ (t : Option Text). IsPresentNumberText least most t number) e h
of_to least most (value ∷ other ∷ values) number o few e h = absurd (omega arith)

of_from : (least most : ℕ) (values : List Text) (number : ℕ) (o : Option Text) → o ≡ slice_get values 0 → IsNumberOf least most values number → IsPresentNumberText least most o number
of_from least most [] number o e h = absurd h
of_from least most (value ∷ []) number o e h = subst (λ (t : Option Text). IsPresentNumberText least most t number) (sym e) h
of_from least most (value ∷ other ∷ values) number o e h = absurd h

module _ (IsForm : Text → Type 0) where
  value_once : (values : List Text) (given : Option Text) → IsValueOrNone IsForm values given → length values ≤ 1
  value_once [] given h = omega arith
  value_once (value ∷ []) given h = omega arith
  value_once (value ∷ other ∷ values) given h = absurd h

  value_to : (values : List Text) (given o : Option Text) → length values ≤ 1 → o ≡ slice_get values 0 → IsTextOrNone IsForm o given → IsValueOrNone IsForm values given
  value_to [] given o few e h = subst (λ (t : Option Text). IsTextOrNone IsForm t given) e h
  value_to (value ∷ []) given o few e h = subst (λ (t : Option Text). IsTextOrNone IsForm t given) e h
  value_to (value ∷ other ∷ values) given o few e h = absurd (omega arith)

  value_from : (values : List Text) (given o : Option Text) → o ≡ slice_get values 0 → IsValueOrNone IsForm values given → IsTextOrNone IsForm o given
  value_from [] given o e h = subst (λ (t : Option Text). IsTextOrNone IsForm t given) (sym e) h
  value_from (value ∷ []) given o e h = subst (λ (t : Option Text). IsTextOrNone IsForm t given) (sym e) h
  value_from (value ∷ other ∷ values) given o e h = absurd h

-- the arguments of the collections
arguments_are : (parts : List ArgumentPart) (rows : List Row) → Tells serve_form parts rows → length (positions parts) ≤ length collection_names → arguments_at collection_names rows ≡ positions parts
arguments_are parts rows tells few =
    arguments_same collection_names rows (argument_rows collection_names (positions parts)) tells.arguments
    ∙ arguments_back collection_names (positions parts) (positions_distinct serve_form (sound_of is_serve)) few

abbrev pub Found : Type 0
Found = Option (Text × List Row)

abbrev pub found_as : Text → List Row → Found
found_as command rows = Some (command, rows)

same_pair : (a b : Text) (rows more : List Row) → found_as a rows ≡ found_as b more → (a ≡ b) × (rows ≡ more)
same_pair a b rows more e =
    let first : Text × List Row = (a, rows) in
    (ap (λ (o : Found). (unwrap_or o first).0) e, ap (λ (o : Found). (unwrap_or o first).1) e)

-- from what `clap` found to the line
line_of : (form : CommandForm) → Known form → (arguments rest : List Text) (parts : List ArgumentPart) (rows : List Row) → arguments ≡ form.name ∷ rest → IsTaken form rest parts → Tells form parts rows
    → (request : PlainRequest) → IsAskedIn form.name rows request → IsCommandLine arguments request
line_of _ is_match arguments rest parts rows line taken tells (Match whole most pattern) asked = record {
  parts = parts;
  called = record { rest = rest; line = line; are_parts = taken.are_parts };
  whole_is = flag_to (flags_of (codes "whole") parts) whole (one_of (codes "whole") rows) (taken.fits.flags (codes "whole") refl) (tells.flags (codes "whole") refl) asked.1.whole_is;
  retained_limit_is = retained_limit_to (option_values (codes "cap") parts) most (first_of (codes "cap") rows) (taken.fits.valued (codes "cap") refl) (tells.valued (codes "cap") refl) asked.1.retained_limit_is;
  pattern_is = pattern_to (positions parts) pattern taken.fits.all (sym (tells.arguments (codes "pattern") refl) ∙ asked.1.pattern_is);
}
line_of _ is_check arguments rest parts rows line taken tells Check asked = record {
  parts = parts;
  called = record { rest = rest; line = line; are_parts = taken.are_parts };
  alone = none_from (positions parts) taken.fits.all;
}
  where
    none_from : (ws : List Text) → length ws ≡ 0 → ws ≡ []
    none_from [] e = refl
    none_from (w ∷ ws) e = absurd (omega arith)
line_of _ is_show arguments rest parts rows line taken tells (Show pattern) asked = record {
  parts = parts;
  called = record { rest = rest; line = line; are_parts = taken.are_parts };
  pattern_is = pattern_to (positions parts) pattern taken.fits.all (sym (tells.arguments (codes "pattern") refl) ∙ asked.1);
}
line_of _ is_make arguments rest parts rows line taken tells (Make seed count) asked =
    let two = both_of (positions parts) taken.fits.all in
    record {
      parts = parts;
      called = record { rest = rest; line = line; are_parts = taken.are_parts };
      seed_text = two.seed;
      count_text = two.count;
      both = two.both;
      seed_is = number_text 0 MAX_SEED (first_of (codes "seed") rows) two.seed seed (tells.arguments (codes "seed") refl ∙ two.seed_is) asked.1.seed_is;
      count_is = number_text 1 MAX_COUNT (first_of (codes "count") rows) two.count count (tells.arguments (codes "count") refl ∙ two.count_is) asked.1.count_is;
    }
line_of _ is_serve arguments rest parts rows line taken tells (Serve service) asked =
    let serve : IsServeIn rows service = asked.1 in
    let named = arguments_are parts rows tells taken.fits.all in
    let all : AreCollectionsOf (positions parts) service.collections = subst (λ (ws : List Text). AreCollectionsOf ws service.collections) named serve.collections_are in
    record {
      parts = parts;
      called = record { rest = rest; line = line; are_parts = taken.are_parts };
      port_is = of_to 1 MAX_PORT (option_values (codes "port") parts) service.port (first_of (codes "port") rows) (taken.fits.valued (codes "port") refl) (tells.valued (codes "port") refl) serve.port_is;
      connections_is = of_to 1 MAX_CONNECTIONS (option_values (codes "connections") parts) service.connections (first_of (codes "connections") rows) (taken.fits.valued (codes "connections") refl)
          (tells.valued (codes "connections") refl) serve.connections_is;
      store_is = value_to IsFile (option_values (codes "store") parts) service.store (first_of (codes "store") rows) (taken.fits.valued (codes "store") refl) (tells.valued (codes "store") refl) serve.store_is;
      base_is = value_to IsBase (option_values (codes "base") parts) service.base (first_of (codes "base") rows) (taken.fits.valued (codes "base") refl) (tells.valued (codes "base") refl) serve.base_is;
      collections_are = all;
      some = serve.some;
      few = omega (arith, as_many (positions parts) service.collections all, taken.fits.all);
      differ = serve.differ;
    }
line_of form known arguments rest parts rows line taken tells request asked = differ form.name (command_name request) refl asked.0

pub asked_to : (arguments : List Text) → AreUtf8 arguments → fault_of program_app arguments ≡ [] → (command : Text) (rows : List Row) → subcommand_of program_app arguments ≡ Some (command, rows)
    → (request : PlainRequest) → IsAskedIn command rows request → IsCommandLine arguments request
asked_to arguments utf8 quiet command rows found request asked =
    let called = called_of arguments utf8 quiet in
    let form = called.form in
    let sound = sound_of called.known in
    let taken = level_to form sound called.rest called.utf8 called.quiet in
    let tells = (level_from form sound called.rest taken.0 taken.1).1 in
    let same = same_pair command form.name rows (command_rows form called.rest) (sym found ∙ called.rows) in
    line_of form called.known arguments called.rest taken.0 (command_rows form called.rest) called.line taken.1 tells request
    (subst (λ (rs : List Row). IsAskedIn form.name rs request) same.1 (subst (λ (c : Text). IsAskedIn c rows request) same.0 asked))

-- and back
abbrev WholeIs : List Row → PlainRequest → Type 0
WholeIs rows (Match whole retained_limit pattern) = one_of (codes "whole") rows ≡ Some (text_of whole)
WholeIs rows request = Unit {0}

pub record Asked (arguments : List Text) (request : PlainRequest) : Type 0 where
  pub quiet : fault_of program_app arguments ≡ []
  pub rows : List Row
  pub found : subcommand_of program_app arguments ≡ Some (command_name request, rows)
  pub asked : IsAskedBy rows request
  pub whole : WholeIs rows request

record Taken (form : CommandForm) (arguments : List Text) (parts : List ArgumentPart) : Type 0 where
  quiet : fault_of program_app arguments ≡ []
  rows : List Row
  found : subcommand_of program_app arguments ≡ Some (form.name, rows)
  tells : Tells form parts rows

taken_by : (form : CommandForm) → Known form → (arguments : List Text) (parts : List ArgumentPart) → IsCalledWith form.name form.options arguments parts → Fits form parts → Taken form arguments parts
taken_by form known arguments parts called fits =
    let level = level_from form (sound_of known) called.rest parts (record { are_parts = called.are_parts; fits = fits }) in
    record {
      quiet = rw called.line (line_fault form known called.rest ∙ level.0);
      rows = command_rows form called.rest;
      found = rw called.line (line_rows form known called.rest);
      tells = level.1;
    }

-- no option of a `serve` is repeated
serve_once : {arguments : List Text} {service : PlainService} (line : IsServeLine arguments service) (name : Text) → has name serve_form.options.valued ≡ true → length (option_values name line.parts) ≤ 1
serve_once {arguments} {service} line name h = go (bytes_eq (codes "port") name) (bytes_eq (codes "connections") name) (bytes_eq (codes "store") name) (bytes_eq (codes "base") name) refl refl refl refl h
  where
    at : (other : Text) → bytes_eq other name ≡ true → length (option_values other line.parts) ≤ 1 → length (option_values name line.parts) ≤ 1
    at other t once = subst (λ (n : Text). length (option_values n line.parts) ≤ 1) (same_text other name t) once

    go : (a b c d : Bool) → bytes_eq (codes "port") name ≡ a → bytes_eq (codes "connections") name ≡ b → bytes_eq (codes "store") name ≡ c → bytes_eq (codes "base") name ≡ d
        → (a || (b || (c || (d || false)))) ≡ true → length (option_values name line.parts) ≤ 1
    go true b c d p q r s h = at (codes "port") p (of_once 1 MAX_PORT (option_values (codes "port") line.parts) service.port line.port_is)
    go false true c d p q r s h = at (codes "connections") q (of_once 1 MAX_CONNECTIONS (option_values (codes "connections") line.parts) service.connections line.connections_is)
    go false false true d p q r s h = at (codes "store") r (value_once IsFile (option_values (codes "store") line.parts) service.store line.store_is)
    go false false false true p q r s h = at (codes "base") s (value_once IsBase (option_values (codes "base") line.parts) service.base line.base_is)
    go false false false false p q r s h = absurd (false≢true h)

pub asked_from : (arguments : List Text) (request : PlainRequest) → IsCommandLine arguments request → Asked arguments request
asked_from arguments (Match whole most pattern) line =
    let fits : Fits match_form line.parts = record {
      flags = λ name h. rw (one_name (codes "whole") name h) (flag_once (flags_of (codes "whole") line.parts) whole line.whole_is);
      valued = λ name h. rw (one_name (codes "cap") name h) (number_once DEFAULT_RETAINED_LIMIT 1 MAX_RETAINED_LIMIT (option_values (codes "cap") line.parts) most line.retained_limit_is);
      all = ap length line.pattern_is;
    } in
    let taken = taken_by match_form is_match arguments line.parts line.called fits in
    let whole_text = taken.tells.flags (codes "whole") refl ∙ ap (λ (t : Text). Some t) (flag_from (flags_of (codes "whole") line.parts) whole line.whole_is) in
    record {
      quiet = taken.quiet;
      rows = taken.rows;
      found = taken.found;
      asked = record {
        whole_is = text_says (one_of (codes "whole") taken.rows) whole whole_text;
        retained_limit_is = retained_limit_from (option_values (codes "cap") line.parts) most (first_of (codes "cap") taken.rows) (taken.tells.valued (codes "cap") refl) line.retained_limit_is;
        pattern_is = taken.tells.arguments (codes "pattern") refl ∙ pattern_from (positions line.parts) pattern line.pattern_is;
      };
      whole = whole_text;
    }
asked_from arguments Check line =
    let fits : Fits check_form line.parts = record { flags = λ name h. no_name name h; valued = λ name h. no_name name h; all = ap length line.alone } in
    let taken = taken_by check_form is_check arguments line.parts line.called fits in
    record { quiet = taken.quiet; rows = taken.rows; found = taken.found; asked = tt; whole = tt }
asked_from arguments (Show pattern) line =
    let fits : Fits show_form line.parts = record { flags = λ name h. no_name name h; valued = λ name h. no_name name h; all = ap length line.pattern_is } in
    let taken = taken_by show_form is_show arguments line.parts line.called fits in
    record {
      quiet = taken.quiet;
      rows = taken.rows;
      found = taken.found;
      asked = taken.tells.arguments (codes "pattern") refl ∙ pattern_from (positions line.parts) pattern line.pattern_is;
      whole = tt;
    }
asked_from arguments (Make seed count) line =
    let fits : Fits make_form line.parts = record { flags = λ name h. no_name name h; valued = λ name h. no_name name h; all = ap length line.both } in
    let taken = taken_by make_form is_make arguments line.parts line.called fits in
    let seed_text : first_of (codes "seed") taken.rows ≡ Some line.seed_text = taken.tells.arguments (codes "seed") refl ∙ rw line.both refl in
    let count_text : first_of (codes "count") taken.rows ≡ Some line.count_text = taken.tells.arguments (codes "count") refl ∙ rw line.both refl in
    record {
      quiet = taken.quiet;
      rows = taken.rows;
      found = taken.found;
      asked = record {
        seed_is = subst (λ (t : Option Text). IsPresentNumberText 0 MAX_SEED t seed) (sym seed_text) line.seed_is;
        count_is = subst (λ (t : Option Text). IsPresentNumberText 1 MAX_COUNT t count) (sym count_text) line.count_is;
      };
      whole = tt;
    }
asked_from arguments (Serve service) line =
    let counted = as_many (positions line.parts) service.collections line.collections_are in
    let few : length (positions line.parts) ≤ length collection_names = omega (arith, counted, line.few) in
    let fits : Fits serve_form line.parts = record { flags = λ name h. no_name name h; valued = λ name h. serve_once line name h; all = few } in
    let taken = taken_by serve_form is_serve arguments line.parts line.called fits in
    let named = arguments_are line.parts taken.rows taken.tells few in
    record {
      quiet = taken.quiet;
      rows = taken.rows;
      found = taken.found;
      asked = record {
        port_is = of_from 1 MAX_PORT (option_values (codes "port") line.parts) service.port (first_of (codes "port") taken.rows) (taken.tells.valued (codes "port") refl) line.port_is;
        connections_is = of_from 1 MAX_CONNECTIONS (option_values (codes "connections") line.parts) service.connections (first_of (codes "connections") taken.rows)
            (taken.tells.valued (codes "connections") refl) line.connections_is;
        store_is = value_from IsFile (option_values (codes "store") line.parts) service.store (first_of (codes "store") taken.rows) (taken.tells.valued (codes "store") refl) line.store_is;
        base_is = value_from IsBase (option_values (codes "base") line.parts) service.base (first_of (codes "base") taken.rows) (taken.tells.valued (codes "base") refl) line.base_is;
        collections_are = subst (λ (ws : List Text). AreCollectionsOf ws service.collections) (sym named) line.collections_are;
        some = line.some;
        differ = line.differ;
      };
      whole = tt;
    }

-- what some rows ask for is one thing
same_flag : (a b : Bool) → text_of a ≡ text_of b → a ≡ b
same_flag true true e = refl
same_flag false false e = refl
same_flag true false e = absurd (cc)
same_flag false true e = absurd (cc)

same_text_of : (a b : Bool) → Some (text_of a) ≡ Some (text_of b) → text_of a ≡ text_of b
same_text_of a b e = cc

same_retained_limit : (o : Option Text) (a b : ℕ) → IsRetainedLimitText o a → IsRetainedLimitText o b → a ≡ b
same_retained_limit None a b h g = h ∙ sym g
same_retained_limit (Some text) a b h g = sym h.value ∙ g.value

same_number : (least most : ℕ) (o : Option Text) (a b : ℕ) → IsPresentNumberText least most o a → IsPresentNumberText least most o b → a ≡ b
same_number least most None a b h g = absurd h
same_number least most (Some text) a b h g = sym h.value ∙ g.value

same_given : (IsForm : Text → Type 0) (o a b : Option Text) → IsTextOrNone IsForm o a → IsTextOrNone IsForm o b → a ≡ b
same_given IsForm None a b h g = h ∙ sym g
same_given IsForm (Some text) a b h g = h.0 ∙ sym g.0

same_service : (rows : List Row) (a b : PlainService) → IsServeIn rows a → IsServeIn rows b → a ≡ b
same_service rows a b h g =
    let ports = same_number 1 MAX_PORT (first_of (codes "port") rows) a.port b.port h.port_is g.port_is in
    let connections = same_number 1 MAX_CONNECTIONS (first_of (codes "connections") rows) a.connections b.connections h.connections_is g.connections_is in
    let stores = same_given IsFile (first_of (codes "store") rows) a.store b.store h.store_is g.store_is in
    let bases = same_given IsBase (first_of (codes "base") rows) a.base b.base h.base_is g.base_is in
    let collections = same_collections (arguments_at collection_names rows) a.collections b.collections h.collections_are g.collections_are in
    λ i. record { port = ports i; connections = connections i; store = stores i; base = bases i; collections = collections i }

same_request : (rows : List Row) (a b : PlainRequest) → command_name a ≡ command_name b → IsAskedBy rows a → IsAskedBy rows b → WholeIs rows a → WholeIs rows b → a ≡ b
same_request rows (Match whole most pattern) (Match whole' most' pattern') e h g w v =
    let texts_same : text_of whole ≡ text_of whole' = same_text_of whole whole' (sym w ∙ v) in
    let flags_same = same_flag whole whole' texts_same in
    let caps_same = same_retained_limit (first_of (codes "cap") rows) most most' h.retained_limit_is g.retained_limit_is in
    let patterns : Some pattern ≡ Some pattern' = sym h.pattern_is ∙ g.pattern_is in
    cc
same_request rows Check Check e h g w v = refl
same_request rows (Show pattern) (Show pattern') e h g w v = let patterns : Some pattern ≡ Some pattern' = sym h ∙ g in cc
same_request rows (Make seed count) (Make seed' count') e h g w v =
    let seeds_same = same_number 0 MAX_SEED (first_of (codes "seed") rows) seed seed' h.seed_is g.seed_is in
    let counts_same = same_number 1 MAX_COUNT (first_of (codes "count") rows) count count' h.count_is g.count_is in
    cc
same_request rows (Serve service) (Serve service') e h g w v = ap Serve (same_service rows service service' h g)
same_request rows a b e h g w v = differ (command_name a) (command_name b) refl e

pub one_request : (arguments : List Text) (first second : PlainRequest) → IsCommandLine arguments first → IsCommandLine arguments second → first ≡ second
one_request arguments first second one two =
    let a = asked_from arguments first one in
    let b = asked_from arguments second two in
    let same = same_pair (command_name first) (command_name second) a.rows b.rows (sym a.found ∙ b.found) in
    same_request a.rows first second same.0 a.asked (subst (λ (rs : List Row). IsAskedBy rs second) (sym same.1) b.asked) a.whole
    (subst (λ (rs : List Row). WholeIs rs second) (sym same.1) b.whole)

-- a command whose rows ask for nothing
pub no_match : (command : Text) (rows : List Row) → command ≡ codes "match" → ((whole : Bool) (most : ℕ) (pattern : Text) → ¬ IsMatchIn rows whole most pattern)
    → (request : PlainRequest) → ¬ IsAskedIn command rows request
no_match command rows is none (Match whole most pattern) asked = none whole most pattern asked.1
no_match command rows is none request asked = differ (codes "match") (command_name request) refl (sym is ∙ asked.0)

-- a request is refused only where the arguments ask for none
pub none_asked : (arguments : List Text) (command : Text) (rows : List Row) → subcommand_of program_app arguments ≡ Some (command, rows)
    → ((request : PlainRequest) → ¬ IsAskedIn command rows request) → (request : PlainRequest) → ¬ IsCommandLine arguments request
none_asked arguments command rows found none request line =
    let asked = asked_from arguments request line in
    let same = same_pair command (command_name request) rows asked.rows (sym found ∙ asked.found) in
    none request (same.0, subst (λ (rs : List Row). IsAskedBy rs request) (sym same.1) asked.asked)

-- and an error is no want of memory only where they ask for none
pub failed : (arguments : List Text) (e : Error) → HasKind (fault_of program_app arguments) e → ¬ (kind_of e ≡ OutOfMemory) → (request : PlainRequest) → ¬ IsCommandLine arguments request
failed arguments e (inl memory) other request line = other memory
failed arguments e (inr among) other request line =
    subst (λ (ks : Kinds). IsAmong (kind_of e) ks) (asked_from arguments request line).quiet among
