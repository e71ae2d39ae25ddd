-- `clap`'s walk over arguments that have parts that fit: it makes no mistake, and keeps a row for each part.
use Rattle.std.proofs.Common.{◌≡◌, ◌≤◌, ◌+◌, ℕ, suc, true, false, List, [], ◌∷◌, ◌++◌, map, drop, length, Some, None, append-nil, refl, sym, arith}
use Rattle.clap.specs.Faults.{walk_fault}
use Rattle.clap.specs.Walk.{Row, Waiting, has_row, idle, option, used}
use Rattle.command_line.specs.Parts.{ArgumentPart, Position, AreArgumentParts, none, flag, joined, apart, position, rest, positions}
use Rattle.command_line.specs.inner.Forms.{CommandForm}
use Rattle.command_line.proofs.HasLemmas.{Text, has_from}
use Rattle.command_line.proofs.FormLemmas.{built_flag, built_option, is_sound_form, flag_name, option_name, option_no_flag}
use Rattle.command_line.proofs.LexerLemmas.{plain_argument_is, long_alone, long_joined, named_is_long, joined_is_long}
use Rattle.command_line.proofs.RowsLemmas.{Fresh, fresh_with, flag_row, part_rows, used_flag, used_option, value_row}
use Rattle.command_line.proofs.StepLemmas.{Pending, Settles, rows_with, stands, step_apart, step_dashes, step_flag, step_joined, step_position, step_trailing, step_value}
use Rattle.command_line.proofs.QuietLemmas.{Done, done_first, done_with, left_is, option_found, option_rows, option_settles, position_rows, position_settles}

module _ (form : CommandForm) (sound : is_sound_form form ≡ true) where
  -- after `--`
  pub trail_from : (arguments : List Text) (rows : List Row) (pending : Pending) (waiting : Waiting) (k : ℕ) (left : List Text) → drop k form.positions ≡ left
      → Settles form rows pending → length (positions (map Position arguments)) ≤ length left → Fresh (rows_with form rows pending) (part_rows left (map Position arguments))
      → Done form (stands rows pending waiting (1 + k) true) arguments (rows_with form rows pending ++ part_rows left (map Position arguments))
  unfolding walk_fault
  trail_from [] rows pending waiting k left e settles fits fresh = record { quiet = (refl, settles); ends = sym (append-nil (rows_with form rows pending)) }
  trail_from (argument ∷ arguments) rows pending waiting k [] e settles fits fresh = absurd (omega arith)
  trail_from (argument ∷ arguments) rows pending waiting k (name ∷ left) e settles fits fresh =
      let l = left_is form sound k name left e in
      let now = rows_with form rows pending in
      let same = position_rows form sound now name argument l.stands_there fresh.0 in
      let few : length (positions (map Position arguments)) ≤ length left = omega arith in
      done_with form (stands rows pending waiting (1 + k) true) (stands now (Some (name, argument ∷ [])) idle (1 + suc k) true) argument arguments (Settles form rows pending)
      (step_trailing form rows pending k l.few name l.next waiting argument) settles now (rows_with form now (Some (name, argument ∷ []))) (part_rows left (map Position arguments)) (value_row name argument) same
      (trail_from arguments now (Some (name, argument ∷ [])) idle (suc k) left l.after ((position_settles form sound now name argument l.stands_there).1 fresh.0) few (fresh_with _ _ _ _ same fresh.1))

  -- arguments that have parts that fit
  pub walk_from : {arguments : List Text} {parts : List ArgumentPart} → AreArgumentParts form.options arguments parts → (rows : List Row) (pending : Pending) (k : ℕ) (left : List Text)
      → drop k form.positions ≡ left → Settles form rows pending → length (positions parts) ≤ length left → Fresh (rows_with form rows pending) (part_rows left parts)
      → Done form (stands rows pending idle (1 + k) false) arguments (rows_with form rows pending ++ part_rows left parts)
  unfolding walk_fault
  walk_from none rows pending k left e settles fits fresh = record { quiet = (refl, settles); ends = sym (append-nil (rows_with form rows pending)) }
  walk_from (flag {name} {arguments} {parts} c d) rows pending k left e settles fits fresh =
      let h = has_from form.options.flags name c in
      let is = flag_name form sound name h in
      let now = rows_with form rows pending in
      let next = used (built_flag name) [] now in
      let same = used_flag name now fresh.0 in
      done_with form (stands rows pending idle (1 + k) false) (stands next None idle (1 + k) false) (45 ∷ 45 ∷ name) arguments (Settles form rows pending × (has_row name now ≡ false))
      (step_flag form rows pending (1 + k) name (45 ∷ 45 ∷ name) h (named_is_long name is) (long_alone name is)) (settles, fresh.0) now next (part_rows left parts) (flag_row name) same
      (walk_from d next None k left e refl fits (fresh_with _ _ _ _ same fresh.1))
  walk_from (joined {name} {value} {arguments} {parts} c d) rows pending k left e settles fits fresh =
      let h = has_from form.options.valued name c in
      let is = option_name form sound name h in
      let now = rows_with form rows pending in
      let next = used (built_option name) (value ∷ []) now in
      let same = used_option name value now fresh.0 in
      let argument = 45 ∷ 45 ∷ (name ++ 61 ∷ value) in
      done_with form (stands rows pending idle (1 + k) false) (stands next None idle (1 + k) false) argument arguments (Settles form rows pending × (has_row name now ≡ false))
      (step_joined form rows pending (1 + k) name value argument (option_no_flag form sound name h) h (joined_is_long name value is) (long_joined name value is)) (settles, fresh.0)
      now next (part_rows left parts) (value_row name value) same
      (walk_from d next None k left e refl fits (fresh_with _ _ _ _ same fresh.1))
  walk_from (apart {name} {value} {arguments} {parts} c p d) rows pending k left e settles fits fresh =
      let h = has_from form.options.valued name c in
      let is = option_name form sound name h in
      let now = rows_with form rows pending in
      let same = option_rows form sound now name value h fresh.0 in
      let waits = stands now (Some (name, [])) (option name) (1 + k) false in
      done_first form (stands rows pending idle (1 + k) false) waits (45 ∷ 45 ∷ name) (value ∷ arguments) (Settles form rows pending)
      (step_apart form rows pending (1 + k) name (45 ∷ 45 ∷ name) (option_no_flag form sound name h) h (named_is_long name is) (long_alone name is)) settles
      (now ++ (value_row name value ∷ part_rows left parts))
      (done_with form waits (stands now (Some (name, value ∷ [])) idle (1 + k) false) value arguments (Unit {0})
      (step_value form now (1 + k) name value (option_found form sound name h) (plain_argument_is value p)) tt
      now (rows_with form now (Some (name, value ∷ []))) (part_rows left parts) (value_row name value) same
      (walk_from d now (Some (name, value ∷ [])) k left e ((option_settles form sound now name value h).1 fresh.0) fits (fresh_with _ _ _ _ same fresh.1)))
  walk_from (position {argument} {arguments} {parts} p d) rows pending k [] e settles fits fresh = absurd (omega arith)
  walk_from (position {argument} {arguments} {parts} p d) rows pending k (name ∷ left) e settles fits fresh =
      let l = left_is form sound k name left e in
      let now = rows_with form rows pending in
      let same = position_rows form sound now name argument l.stands_there fresh.0 in
      let few : length (positions parts) ≤ length left = omega arith in
      done_with form (stands rows pending idle (1 + k) false) (stands now (Some (name, argument ∷ [])) idle (1 + suc k) false) argument arguments (Settles form rows pending)
      (step_position form rows pending k l.few name l.next argument (plain_argument_is argument p)) settles now (rows_with form now (Some (name, argument ∷ []))) (part_rows left parts) (value_row name argument) same
      (walk_from d now (Some (name, argument ∷ [])) (suc k) left l.after ((position_settles form sound now name argument l.stands_there).1 fresh.0) few (fresh_with _ _ _ _ same fresh.1))
  walk_from (rest {arguments}) rows pending k left e settles fits fresh =
      done_first form (stands rows pending idle (1 + k) false) (stands rows pending idle (1 + k) true) (45 ∷ 45 ∷ []) arguments (Unit {0})
      (step_dashes form rows pending (1 + k)) tt _ (trail_from arguments rows pending idle k left e settles fits fresh)
