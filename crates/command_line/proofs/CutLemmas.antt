-- Arguments over which `clap`'s walk makes no mistake: they have parts that fit.
use Rattle.std.proofs.Common.{◌≡◌, ◌≤◌, ◌+◌, ℕ, suc, Bool, true, false, List, [], ◌∷◌, ◌++◌, map, drop, length, Some, None, bytes_eq, IsUtf8, refl, ◌∙◌, subst, arith}
use Rattle.clap.specs.Lexer.{long_of}
use Rattle.clap.specs.Faults.{turn_fault, walk_fault}
use Rattle.clap.specs.Walk.{Row, Waiting, Walk, has_row, idle, option, used, walked}
use Rattle.command_line.specs.Parts.{ArgumentPart, Flag, Valued, Position, Options, AreArgumentParts, none, flag, joined, apart, position, rest, IsNoOption, positions}
use Rattle.command_line.specs.inner.Forms.{CommandForm}
use Rattle.command_line.proofs.HasLemmas.{Text, has, has_to}
use Rattle.command_line.proofs.FormLemmas.{built_flag, built_option, built_rules, is_sound_form, option_no_flag}
use Rattle.command_line.proofs.LexerLemmas.{Look, look, dashes, alone, with_value, short, plain, plain_argument_is}
use Rattle.command_line.proofs.RowsLemmas.{Fresh, both_quiet, part_rows, used_flag, used_option}
use Rattle.command_line.proofs.StepLemmas.{Pending, Settles, flag_with_value, leaf, no_position, no_trailing, rows_with, short_option, stands, step_apart, step_dashes, step_flag, step_joined, step_position, step_trailing, step_value, unknown_option, unsettled, waiting_dashes, waiting_long, waiting_short}
use Rattle.command_line.proofs.QuietLemmas.{Quiet, left_is, none_left, option_found, option_rows, option_settles, position_rows, position_settles, quiet_first, turn_of}

-- each argument is UTF-8
abbrev pub AreUtf8 : List Text → Type 0
AreUtf8 [] = Unit {0}
AreUtf8 (argument ∷ arguments) = IsUtf8 argument × AreUtf8 arguments

-- parts of arguments whose first is known
flag_parts : (options : Options) (name argument : Text) (arguments : List Text) (parts : List ArgumentPart) → argument ≡ 45 ∷ 45 ∷ name → has name options.flags ≡ true
    → AreArgumentParts options arguments parts → AreArgumentParts options (argument ∷ arguments) (Flag name ∷ parts)
flag_parts options name argument arguments parts is h d = rw is (flag (has_to options.flags name h) d)

joined_parts : (options : Options) (name value argument : Text) (arguments : List Text) (parts : List ArgumentPart) → argument ≡ 45 ∷ 45 ∷ (name ++ 61 ∷ value) → has name options.valued ≡ true
    → AreArgumentParts options arguments parts → AreArgumentParts options (argument ∷ arguments) (Valued name value ∷ parts)
joined_parts options name value argument arguments parts is h d = rw is (joined (has_to options.valued name h) d)

apart_parts : (options : Options) (name value argument : Text) (arguments after : List Text) (parts : List ArgumentPart) → argument ≡ 45 ∷ 45 ∷ name → arguments ≡ value ∷ after
    → has name options.valued ≡ true → IsNoOption value → AreArgumentParts options after parts → AreArgumentParts options (argument ∷ arguments) (Valued name value ∷ parts)
apart_parts options name value argument arguments after parts is are h p d = rw (is, are) (apart (has_to options.valued name h) p d)

module _ (form : CommandForm) (sound : is_sound_form form ≡ true) where
  pub record Trailed (rows : List Row) (pending : Pending) (arguments : List Text) (left : List Text) : Type 0 where
    pub settles : Settles form rows pending
    pub fits : length (positions (map Position arguments)) ≤ length left
    pub fresh : Fresh (rows_with form rows pending) (part_rows left (map Position arguments))

  pub trail_to : (arguments : List Text) (rows : List Row) (pending : Pending) (waiting : Waiting) (k : ℕ) (left : List Text) → drop k form.positions ≡ left
      → Quiet form (stands rows pending waiting (1 + k) true) arguments → Trailed rows pending arguments left
  trail_to [] rows pending waiting k left e q = record { settles = q.1; fits = omega arith; fresh = tt }
  trail_to (argument ∷ arguments) rows pending waiting k [] e q =
      absurd (no_trailing form rows pending waiting (1 + k) argument (none_left form sound k e) (turn_of form (stands rows pending waiting (1 + k) true) argument arguments q))
  trail_to (argument ∷ arguments) rows pending waiting k (name ∷ left) e q =
      let l = left_is form sound k name left e in
      let now = rows_with form rows pending in
      let two = quiet_first form (stands rows pending waiting (1 + k) true) (stands now (Some (name, argument ∷ [])) idle (1 + suc k) true) argument arguments (Settles form rows pending)
      (step_trailing form rows pending k l.few name l.next waiting argument) q in
      let rec = trail_to arguments now (Some (name, argument ∷ [])) idle (suc k) left l.after two.1 in
      let new : has_row name now ≡ false = (position_settles form sound now name argument l.stands_there).0 rec.settles in
      record {
        settles = two.0;
        fits = omega (arith, rec.fits);
        fresh = (new, subst (λ (rs : List Row). Fresh rs (part_rows left (map Position arguments))) (position_rows form sound now name argument l.stands_there new) rec.fresh);
      }

  -- parts of the arguments that fit, from a state on
  pub record Cut (rows : List Row) (pending : Pending) (arguments left : List Text) : Type 0 where
    pub parts : List ArgumentPart
    pub are_parts : AreArgumentParts form.options arguments parts
    pub settles : Settles form rows pending
    pub fits : length (positions parts) ≤ length left
    pub fresh : Fresh (rows_with form rows pending) (part_rows left parts)

  -- and from a state in which an option waits for its value, which is the first argument
  record CutValue (rows : List Row) (name : Text) (arguments left : List Text) : Type 0 where
    value : Text
    after : List Text
    arguments_are : arguments ≡ value ∷ after
    plain_value : IsNoOption value
    cut : Cut rows (Some (name, value ∷ [])) after left

  record Claims (arguments : List Text) : Type 0 where
    from_idle : (rows : List Row) (pending : Pending) (k : ℕ) (left : List Text) → drop k form.positions ≡ left
        → Quiet form (stands rows pending idle (1 + k) false) arguments → Cut rows pending arguments left
    from_waiting : (rows : List Row) (name : Text) (k : ℕ) (left : List Text) → drop k form.positions ≡ left → has name form.options.valued ≡ true
        → Quiet form (stands rows (Some (name, [])) (option name) (1 + k) false) arguments → CutValue rows name arguments left

  waiting_step : (argument : Text) (arguments : List Text) → IsUtf8 argument → Claims arguments → Look argument → (rows : List Row) (name : Text) (k : ℕ) (left : List Text)
      → drop k form.positions ≡ left → has name form.options.valued ≡ true
      → Quiet form (stands rows (Some (name, [])) (option name) (1 + k) false) (argument ∷ arguments) → CutValue rows name (argument ∷ arguments) left
  unfolding walk_fault
  waiting_step argument arguments utf8 claims (dashes is) rows name k left e h q =
      let from = stands rows (Some (name, [])) (option name) (1 + k) false in
      let q' : Quiet form (walked (built_rules form) [] from argument) arguments = (((both_quiet _ _).0 q.0).1, q.1) in
      let goes : walked (built_rules form) [] from argument ≡ stands rows (Some (name, [])) (option name) (1 + k) true = rw is (waiting_dashes form rows (Some (name, [])) (1 + k) name) in
      let t = trail_to arguments rows (Some (name, [])) (option name) k left e (subst (λ (w : Walk). Quiet form w arguments) goes q') in
      absurd (unsettled form rows name (option_found form sound name h) t.settles)
  waiting_step argument arguments utf8 claims (alone other is d l) rows name k left e h q =
      let from = stands rows (Some (name, [])) (option name) (1 + k) false in
      absurd (unsettled form rows name (option_found form sound name h) (waiting_long form rows (Some (name, [])) (1 + k) name other argument None d l (turn_of form from argument arguments q)))
  waiting_step argument arguments utf8 claims (with_value other value is d l) rows name k left e h q =
      let from = stands rows (Some (name, [])) (option name) (1 + k) false in
      absurd (unsettled form rows name (option_found form sound name h) (waiting_long form rows (Some (name, [])) (1 + k) name other argument (Some value) d l (turn_of form from argument arguments q)))
  waiting_step argument arguments utf8 claims (short x xs is d l s) rows name k left e h q =
      let from = stands rows (Some (name, [])) (option name) (1 + k) false in
      absurd (waiting_short form rows (Some (name, [])) (1 + k) name x xs (rw is at utf8) (rw is at d) (rw is at l) (rw is at s) (rw is at (turn_of form from argument arguments q)))
  waiting_step argument arguments utf8 claims (plain p) rows name k left e h q =
      let from = stands rows (Some (name, [])) (option name) (1 + k) false in
      let two = quiet_first form from (stands rows (Some (name, argument ∷ [])) idle (1 + k) false) argument arguments (Unit {0})
      (step_value form rows (1 + k) name argument (option_found form sound name h) (plain_argument_is argument p)) q in
      record { value = argument; after = arguments; arguments_are = refl; plain_value = p; cut = claims.from_idle rows (Some (name, argument ∷ [])) k left e two.1 }

  module _ (argument : Text) (arguments : List Text) (utf8 : IsUtf8 argument) (claims : Claims arguments) (rows : List Row) (pending : Pending) (k : ℕ) (left : List Text)
      (e : drop k form.positions ≡ left) (q : Quiet form (stands rows pending idle (1 + k) false) (argument ∷ arguments)) where
    here : turn_fault (leaf form) [] (stands rows pending idle (1 + k) false) argument ≡ []
    here = turn_of form (stands rows pending idle (1 + k) false) argument arguments q

    flag_cut : (name : Text) → argument ≡ 45 ∷ 45 ∷ name → bytes_eq argument (45 ∷ 45 ∷ []) ≡ false → long_of argument ≡ Some (name, None) → has name form.options.flags ≡ true
        → Cut rows pending (argument ∷ arguments) left
    flag_cut name is d l h =
        let now = rows_with form rows pending in
        let next = used (built_flag name) [] now in
        let two = quiet_first form (stands rows pending idle (1 + k) false) (stands next None idle (1 + k) false) argument arguments (Settles form rows pending × (has_row name now ≡ false))
        (step_flag form rows pending (1 + k) name argument h d l) q in
        let cut = claims.from_idle next None k left e two.1 in
        record {
          parts = Flag name ∷ cut.parts;
          are_parts = flag_parts form.options name argument arguments cut.parts is h cut.are_parts;
          settles = two.0.0;
          fits = cut.fits;
          fresh = (two.0.1, subst (λ (rs : List Row). Fresh rs (part_rows left cut.parts)) (used_flag name now two.0.1) cut.fresh);
        }

    joined_cut : (name value : Text) → argument ≡ 45 ∷ 45 ∷ (name ++ 61 ∷ value) → bytes_eq argument (45 ∷ 45 ∷ []) ≡ false → long_of argument ≡ Some (name, Some value)
        → has name form.options.valued ≡ true → Cut rows pending (argument ∷ arguments) left
    joined_cut name value is d l h =
        let now = rows_with form rows pending in
        let next = used (built_option name) (value ∷ []) now in
        let two = quiet_first form (stands rows pending idle (1 + k) false) (stands next None idle (1 + k) false) argument arguments (Settles form rows pending × (has_row name now ≡ false))
        (step_joined form rows pending (1 + k) name value argument (option_no_flag form sound name h) h d l) q in
        let cut = claims.from_idle next None k left e two.1 in
        record {
          parts = Valued name value ∷ cut.parts;
          are_parts = joined_parts form.options name value argument arguments cut.parts is h cut.are_parts;
          settles = two.0.0;
          fits = cut.fits;
          fresh = (two.0.1, subst (λ (rs : List Row). Fresh rs (part_rows left cut.parts)) (used_option name value now two.0.1) cut.fresh);
        }

    apart_cut : (name : Text) → argument ≡ 45 ∷ 45 ∷ name → bytes_eq argument (45 ∷ 45 ∷ []) ≡ false → long_of argument ≡ Some (name, None) → has name form.options.valued ≡ true
        → Cut rows pending (argument ∷ arguments) left
    apart_cut name is d l h =
        let now = rows_with form rows pending in
        let two = quiet_first form (stands rows pending idle (1 + k) false) (stands now (Some (name, [])) (option name) (1 + k) false) argument arguments (Settles form rows pending)
        (step_apart form rows pending (1 + k) name argument (option_no_flag form sound name h) h d l) q in
        let found = claims.from_waiting now name k left e h two.1 in
        let cut = found.cut in
        let new : has_row name now ≡ false = (option_settles form sound now name found.value h).0 cut.settles in
        record {
          parts = Valued name found.value ∷ cut.parts;
          are_parts = apart_parts form.options name found.value argument arguments found.after cut.parts is found.arguments_are h found.plain_value cut.are_parts;
          settles = two.0;
          fits = cut.fits;
          fresh = (new, subst (λ (rs : List Row). Fresh rs (part_rows left cut.parts)) (option_rows form sound now name found.value h new) cut.fresh);
        }

    position_cut : IsNoOption argument → (left' : List Text) → left ≡ left' → Cut rows pending (argument ∷ arguments) left
    position_cut p [] none' = absurd (no_position form rows pending (1 + k) argument (none_left form sound k (e ∙ none')) (plain_argument_is argument p) here)
    position_cut p (name ∷ after) some' =
        let l = left_is form sound k name after (e ∙ some') in
        let now = rows_with form rows pending in
        let two = quiet_first form (stands rows pending idle (1 + k) false) (stands now (Some (name, argument ∷ [])) idle (1 + suc k) false) argument arguments (Settles form rows pending)
        (step_position form rows pending k l.few name l.next argument (plain_argument_is argument p)) q in
        let cut = claims.from_idle now (Some (name, argument ∷ [])) (suc k) after l.after two.1 in
        let new : has_row name now ≡ false = (position_settles form sound now name argument l.stands_there).0 cut.settles in
        rw some' (record {
          parts = Position argument ∷ cut.parts;
          are_parts = position p cut.are_parts;
          settles = two.0;
          fits = omega (arith, cut.fits);
          fresh = (new, subst (λ (rs : List Row). Fresh rs (part_rows after cut.parts)) (position_rows form sound now name argument l.stands_there new) cut.fresh);
        })

    dashes_cut : argument ≡ 45 ∷ 45 ∷ [] → Cut rows pending (argument ∷ arguments) left
    dashes_cut is =
        let step = step_dashes form rows pending (1 + k) in
        let q' : Quiet form (stands rows pending idle (1 + k) false) ((45 ∷ 45 ∷ []) ∷ arguments) = subst (λ (w : Text). Quiet form (stands rows pending idle (1 + k) false) (w ∷ arguments)) is q in
        let two = quiet_first form (stands rows pending idle (1 + k) false) (stands rows pending idle (1 + k) true) (45 ∷ 45 ∷ []) arguments (Unit {0}) step q' in
        let t = trail_to arguments rows pending idle k left e two.1 in
        record { parts = map Position arguments; are_parts = rw is rest; settles = t.settles; fits = t.fits; fresh = t.fresh }

    idle_step : Look argument → Cut rows pending (argument ∷ arguments) left
    idle_step (dashes is) = dashes_cut is
    idle_step (alone name is d l) = go (has name form.options.flags) (has name form.options.valued) refl refl
      where
        go : (a b : Bool) → has name form.options.flags ≡ a → has name form.options.valued ≡ b → Cut rows pending (argument ∷ arguments) left
        go true b h g = flag_cut name is d l h
        go false true h g = apart_cut name is d l g
        go false false h g = absurd (unknown_option form rows pending (1 + k) name argument None h g d l here)
    idle_step (with_value name value is d l) = go (has name form.options.flags) (has name form.options.valued) refl refl
      where
        go : (a b : Bool) → has name form.options.flags ≡ a → has name form.options.valued ≡ b → Cut rows pending (argument ∷ arguments) left
        go true b h g = absurd (flag_with_value form rows pending (1 + k) name value argument h d l here)
        go false true h g = joined_cut name value is d l g
        go false false h g = absurd (unknown_option form rows pending (1 + k) name argument (Some value) h g d l here)
    idle_step (short x xs is d l s) =
        absurd (short_option form rows pending (1 + k) x xs (rw is at utf8) (rw is at d) (rw is at l) (rw is at s) (rw is at here))
    idle_step (plain p) = position_cut p left refl

  claims_of : (arguments : List Text) → AreUtf8 arguments → Claims arguments
  unfolding walk_fault
  claims_of [] utf8 = record {
    from_idle = λ rows pending k left e q. record { parts = []; are_parts = none; settles = q.1; fits = omega arith; fresh = tt };
    from_waiting = λ rows name k left e h q. absurd (unsettled form rows name (option_found form sound name h) q.1);
  }
  claims_of (argument ∷ arguments) utf8 =
      let claims = claims_of arguments utf8.1 in
      record {
        from_idle = λ rows pending k left e q. idle_step argument arguments utf8.0 claims rows pending k left e q (look argument);
        from_waiting = λ rows name k left e h q. waiting_step argument arguments utf8.0 claims (look argument) rows name k left e h q;
      }

  -- arguments at which the walk makes no mistake
  pub walk_to : (arguments : List Text) → AreUtf8 arguments → Quiet form (stands [] None idle 1 false) arguments → Cut [] None arguments form.positions
  walk_to arguments utf8 q = (claims_of arguments utf8).from_idle [] None 0 form.positions refl q
