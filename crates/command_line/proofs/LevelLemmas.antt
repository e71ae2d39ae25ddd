-- One command of the line: `clap` takes the arguments after it just where they have parts that fit, and then its rows say what the parts say.
use Rattle.std.proofs.lemmas.Bool.{false≢true}
use Rattle.std.proofs.Common.{◌≡◌, ◌↔◌, ◌≤◌, ℕ, Bool, true, false, not, ◌&&◌, ◌||◌, if◌then◌else◌, List, [], ◌∷◌, map, length, fold, Option, Some, None, option_and_then, slice_get, codes, bytes_eq, refl, sym, ap, ◌∙◌, subst, arith, le_antisymm}
use Rattle.std.specs.List.{list_any}
use Rattle.std.proofs.lemmas.List.{length-map}
use Rattle.clap.specs.Kinds.{Kinds, or_else}
use Rattle.clap.specs.Faults.{check_fault, level_fault}
use Rattle.std.specs.Option.{option_map_or}
use Rattle.clap.specs.Facts.{explicit_source}
use Rattle.clap.specs.Takes.{is_given}
use Rattle.clap.specs.Walk.{Row, first_of, has_row, nothing_held, one_of, row_text, rows_after, with_default}
use Rattle.clap.specs.declared.error.kind.ErrorKind.TheVariants.{MissingRequiredArgument}
use Rattle.command_line.specs.Parts.{ArgumentPart, AreArgumentParts, positions}
use Rattle.command_line.specs.CommandLines.{flags_of, option_values}
use Rattle.command_line.specs.inner.Forms.{CommandForm}
use Rattle.command_line.proofs.HasLemmas.{Text, has}
use Rattle.command_line.proofs.FormLemmas.{built_rules, flag_no_option, flag_no_position, is_sound_form, option_no_flag, option_no_position, position_no_flag, position_no_option, positions_distinct}
use Rattle.command_line.proofs.RowsLemmas.{Fresh, both_quiet, flag_row, part_rows, value_row}
use Rattle.command_line.proofs.StepLemmas.{leaf}
use Rattle.command_line.proofs.WalkLemmas.{walk_from}
use Rattle.command_line.proofs.CutLemmas.{AreUtf8, walk_to}
use Rattle.command_line.proofs.PartRowsLemmas.{AreNamed, first_named, fresh_from, fresh_once, has_named, named_of, row_at, rows_named, rows_of_flags, rows_of_values, rows_of_arguments, argument_once, argument_rows}
use Rattle.command_line.proofs.DefaultsLemmas.{all_given_from, all_given_to, any_same, default_row, fold_rules, no_defaults_fault, row_with_defaults, wants_rules}

-- so many arguments are positions of the command: all, or as many as there are at most
abbrev pub AreCounted : Bool → ℕ → ℕ → Type 0
AreCounted true count wanted = count ≡ wanted
AreCounted false count wanted = count ≤ wanted

counted_few : (needed : Bool) (count wanted : ℕ) → AreCounted needed count wanted → count ≤ wanted
counted_few true count wanted h = omega (arith, h)
counted_few false count wanted h = h

-- no option is repeated, and no position is missing or surplus
pub record Fits (form : CommandForm) (parts : List ArgumentPart) : Type 0 where
  pub flags : (name : Text) → has name form.options.flags ≡ true → length (flags_of name parts) ≤ 1
  pub valued : (name : Text) → has name form.options.valued ≡ true → length (option_values name parts) ≤ 1
  pub all : AreCounted form.needs_all (length (positions parts)) (length form.positions)

-- a flag's text
abbrev pub flag_text : List Text → Text
flag_text [] = codes "false"
flag_text (flag ∷ flags) = codes "true"

-- the rows say what the parts say
pub record Tells (form : CommandForm) (parts : List ArgumentPart) (rows : List Row) : Type 0 where
  pub flags : (name : Text) → has name form.options.flags ≡ true → one_of name rows ≡ Some (flag_text (flags_of name parts))
  pub valued : (name : Text) → has name form.options.valued ≡ true → first_of name rows ≡ slice_get (option_values name parts) 0
  pub arguments : (name : Text) → has name form.positions ≡ true → first_of name rows ≡ first_of name (argument_rows form.positions (positions parts))

no_row_from : (name : Text) (rows : List Row) → rows_named name rows ≡ [] → has_row name rows ≡ false
no_row_from name rows e = go (has_row name rows) refl
  where
    go : (t : Bool) → has_row name rows ≡ t → has_row name rows ≡ false
    go true t = let some' = has_named name rows t in absurd (omega (arith, ap length e))
    go false t = t

some_row_from : (name : Text) (rows : List Row) (r : Row) (rs : List Row) → rows_named name rows ≡ r ∷ rs → has_row name rows ≡ true
some_row_from name rows r rs e = go (has_row name rows) refl
  where
    none_named : (xs : List Row) → has_row name xs ≡ false → rows_named name xs ≡ []
    none_named [] h = refl
    none_named (x ∷ xs) h = part (bytes_eq x.id name) refl h (none_named xs)
      where
        part : (t : Bool) → bytes_eq x.id name ≡ t → (t || has_row name xs) ≡ false → (has_row name xs ≡ false → rows_named name xs ≡ []) → rows_named name (x ∷ xs) ≡ []
        part true t h rec = absurd (false≢true (sym h))
        part false t h rec = rw t (rec h)

    go : (t : Bool) → has_row name rows ≡ t → has_row name rows ≡ true
    go true t = t
    go false t = let none' = none_named rows t in absurd (cc)

module _ (form : CommandForm) (sound : is_sound_form form ≡ true) (parts : List ArgumentPart) (named : AreNamed form.options parts) where
  abbrev own : List Row
  own = part_rows form.positions parts

  abbrev final : List Row
  final = fold with_default own (built_rules form)

  row_final : (name : Text) → row_at name final ≡ (if has_row name own then row_at name own else (if has name form.options.flags then Some (default_row name) else None))
  row_final name = ap (row_at name) (fold_rules form own) ∙ row_with_defaults name form.options.flags own

  flag_rows : (name : Text) → has name form.options.flags ≡ true → rows_named name own ≡ map flag_row (flags_of name parts)
  flag_rows name h = rows_of_flags form.options name (flag_no_option form sound name h) parts named form.positions (flag_no_position form sound name h)

  value_rows : (name : Text) → has name form.options.valued ≡ true → rows_named name own ≡ map (value_row name) (option_values name parts)
  value_rows name h = rows_of_values form.options name (option_no_flag form sound name h) parts named form.positions (option_no_position form sound name h)

  other_rows : (name : Text) → has name form.options.flags ≡ false → has name form.options.valued ≡ false → rows_named name own ≡ rows_named name (argument_rows form.positions (positions parts))
  other_rows name not_flag not_valued = rows_of_arguments form.options name not_flag not_valued parts named form.positions

  tells_flag : (name : Text) → has name form.options.flags ≡ true → (flags : List Text) → flags_of name parts ≡ flags → one_of name final ≡ Some (flag_text (flags_of name parts))
  tells_flag name h [] e =
      let none' : rows_named name own ≡ [] = flag_rows name h ∙ ap (map flag_row) e in
      let row : row_at name final ≡ Some (default_row name) = row_final name ∙ rw (no_row_from name own none', h) refl in
      ap (option_and_then row_text) row ∙ rw e refl
  tells_flag name h (flag ∷ flags) e =
      let some' : rows_named name own ≡ flag_row flag ∷ map flag_row flags = flag_rows name h ∙ ap (map flag_row) e in
      let first : row_at name own ≡ Some (flag_row flag) = first_named name own ∙ ap (λ (rs : List Row). slice_get rs 0) some' in
      let row : row_at name final ≡ Some (flag_row flag) = row_final name ∙ rw (some_row_from name own _ _ some', first) refl in
      ap (option_and_then row_text) row ∙ rw e refl

  tells_value : (name : Text) → has name form.options.valued ≡ true → (values : List Text) → option_values name parts ≡ values → first_of name final ≡ slice_get (option_values name parts) 0
  tells_value name h [] e =
      let none' : rows_named name own ≡ [] = value_rows name h ∙ ap (map (value_row name)) e in
      let row : row_at name final ≡ None = row_final name ∙ rw (no_row_from name own none', option_no_flag form sound name h) refl in
      ap (option_and_then (λ r. slice_get r.values 0)) row ∙ rw e refl
  tells_value name h (value ∷ values) e =
      let some' : rows_named name own ≡ value_row name value ∷ map (value_row name) values = value_rows name h ∙ ap (map (value_row name)) e in
      let first : row_at name own ≡ Some (value_row name value) = first_named name own ∙ ap (λ (rs : List Row). slice_get rs 0) some' in
      let row : row_at name final ≡ Some (value_row name value) = row_final name ∙ rw (some_row_from name own _ _ some', first) refl in
      ap (option_and_then (λ r. slice_get r.values 0)) row ∙ rw e refl

  -- a position's row is that of its argument
  row_of_argument : (name : Text) → has name form.positions ≡ true → row_at name final ≡ row_at name (argument_rows form.positions (positions parts))
  row_of_argument name h = row_final name ∙ go (rows_named name own) refl
    where
      not_flag : has name form.options.flags ≡ false
      not_flag = position_no_flag form sound name h

      arguments : List Row
      arguments = argument_rows form.positions (positions parts)

      same : rows_named name own ≡ rows_named name (argument_rows form.positions (positions parts))
      same = other_rows name not_flag (position_no_option form sound name h)

      first : row_at name own ≡ row_at name (argument_rows form.positions (positions parts))
      first = first_named name own ∙ ap (λ (rs : List Row). slice_get rs 0) same ∙ sym (first_named name (argument_rows form.positions (positions parts)))

      go : (rs : List Row) → rows_named name own ≡ rs
          → (if has_row name own then row_at name own else (if has name form.options.flags then Some (default_row name) else None)) ≡ row_at name (argument_rows form.positions (positions parts))
      go [] e = rw (no_row_from name own e, not_flag) (sym (first_named name (argument_rows form.positions (positions parts)) ∙ ap (λ (rs : List Row). slice_get rs 0) (sym same ∙ e)))
      go (r ∷ rs) e = rw (some_row_from name own r rs e) first

  tells : Tells form parts final
  tells = record {
    flags = λ name h. tells_flag name h (flags_of name parts) refl;
    valued = λ name h. tells_value name h (option_values name parts) refl;
    arguments = λ name h. ap (option_and_then (λ r. slice_get r.values 0)) (row_of_argument name h);
  }

  -- which positions are missing
  missing : list_any (λ a. a.required && not (is_given a.id final)) (built_rules form) ≡ (form.needs_all && list_any (λ name. not (is_given name (argument_rows form.positions (positions parts)))) form.positions)
  missing = wants_rules form final ∙ ap (λ (b : Bool). form.needs_all && b) (any_same (λ name. not (is_given name final)) (λ name. not (is_given name (argument_rows form.positions (positions parts)))) form.positions
      (λ name h. ap (λ (o : Option Row). not (option_map_or (λ r. explicit_source r.source) o false)) (row_of_argument name h)))

  fits_from : Fresh [] own → AreCounted form.needs_all (length (positions parts)) (length form.positions) → Fits form parts
  fits_from fresh all = record {
    flags = λ name h. omega (arith, (fresh_once name [] own fresh).0, ap length (flag_rows name h), length-map (flags_of name parts) flag_row);
    valued = λ name h. omega (arith, (fresh_once name [] own fresh).0, ap length (value_rows name h), length-map (option_values name parts) (value_row name));
    all = all;
  }

  fresh_of : Fits form parts → Fresh [] own
  fresh_of fits = fresh_from [] own (λ name. go name (has name form.options.flags) (has name form.options.valued) refl refl)
    where
      go : (name : Text) (a b : Bool) → has name form.options.flags ≡ a → has name form.options.valued ≡ b → length (rows_named name own) ≤ 1
      go name true b h g = omega (arith, fits.flags name h, ap length (flag_rows name h), length-map (flags_of name parts) flag_row)
      go name false true h g = omega (arith, fits.valued name g, ap length (value_rows name g), length-map (option_values name parts) (value_row name))
      go name false false h g = omega (arith, ap length (other_rows name h g), argument_once name form.positions (positions parts) (positions_distinct form sound))

  -- the last checks
  check_quiet : (check_fault (leaf form) final false ≡ []) ↔ ((form.needs_all && list_any (λ name. not (is_given name (argument_rows form.positions (positions parts)))) form.positions) ≡ false)
  check_quiet = rw missing (last _)
    where
      last : (b : Bool) → ((if b then MissingRequiredArgument ∷ [] else []) ≡ []) ↔ (b ≡ false)
      last true = (λ h. absurd (cc), λ h. absurd (false≢true (sym h)))
      last false = (λ h. refl, λ h. refl)

  all_to : check_fault (leaf form) final false ≡ [] → length (positions parts) ≤ length form.positions → AreCounted form.needs_all (length (positions parts)) (length form.positions)
  all_to quiet few = go form.needs_all (check_quiet.0 quiet)
    where
      go : (needed : Bool) → (needed && list_any (λ name. not (is_given name (argument_rows form.positions (positions parts)))) form.positions) ≡ false
          → AreCounted needed (length (positions parts)) (length form.positions)
      go true given = le_antisymm few (all_given_to form.positions (positions parts) (positions_distinct form sound) given)
      go false given = few

  all_from : AreCounted form.needs_all (length (positions parts)) (length form.positions) → check_fault (leaf form) final false ≡ []
  all_from all = check_quiet.1 (go form.needs_all all)
    where
      go : (needed : Bool) → AreCounted needed (length (positions parts)) (length form.positions)
          → (needed && list_any (λ name. not (is_given name (argument_rows form.positions (positions parts)))) form.positions) ≡ false
      go true all = all_given_from form.positions (positions parts) (positions_distinct form sound) (omega (arith, all))
      go false all = refl

-- the mistakes of a command in the arguments after it
abbrev pub command_fault : CommandForm → List Text → Kinds
command_fault form arguments = level_fault (leaf form) [] nothing_held arguments false []

abbrev pub command_rows : CommandForm → List Text → List Row
command_rows form arguments = rows_after (built_rules form) [] arguments

level_quiet : (a b c d : Kinds) → (or_else a (or_else [] (or_else b (or_else c d))) ≡ []) ↔ ((a ≡ []) × (b ≡ []) × (c ≡ []) × (d ≡ []))
level_quiet a b c d = (
  λ h.
      let first = (both_quiet a (or_else b (or_else c d))).0 h in
      let second = (both_quiet b (or_else c d)).0 first.1 in
      let third = (both_quiet c d).0 second.1 in
      (first.0, second.0, third.0, third.1),
  λ h. (both_quiet a (or_else b (or_else c d))).1 (h.0, (both_quiet b (or_else c d)).1 (h.1, (both_quiet c d).1 (h.2, h.3))),
)

-- arguments with parts that fit
pub record IsTaken (form : CommandForm) (arguments : List Text) (parts : List ArgumentPart) : Type 0 where
  pub are_parts : AreArgumentParts form.options arguments parts
  pub fits : Fits form parts

module _ (form : CommandForm) (sound : is_sound_form form ≡ true) (arguments : List Text) where
  pub level_from : (parts : List ArgumentPart) → IsTaken form arguments parts → (command_fault form arguments ≡ []) × Tells form parts (command_rows form arguments)
  level_from parts taken =
      let named = named_of form.options taken.are_parts in
      let done = walk_from form sound taken.are_parts [] None 0 form.positions refl refl (counted_few form.needs_all _ _ taken.fits.all) (fresh_of form sound parts named taken.fits) in
      let rows : command_rows form arguments ≡ fold with_default (part_rows form.positions parts) (built_rules form)
      = ap (λ (rs : List Row). fold with_default rs (built_rules form)) done.ends in (
        (level_quiet _ _ _ _).1 (
          done.quiet.0,
          done.quiet.1,
          no_defaults_fault form _,
          subst (λ (rs : List Row). check_fault (leaf form) rs false ≡ []) (sym rows) (all_from form sound parts named taken.fits.all),
        ),
        subst (λ (rs : List Row). Tells form parts rs) (sym rows) (tells form sound parts named),
      )

  pub level_to : AreUtf8 arguments → command_fault form arguments ≡ [] → (parts : List ArgumentPart) × IsTaken form arguments parts
  level_to utf8 quiet =
      let four = (level_quiet _ _ _ _).0 quiet in
      let cut = walk_to form sound arguments utf8 (four.0, four.1) in
      let named = named_of form.options cut.are_parts in
      let done = walk_from form sound cut.are_parts [] None 0 form.positions refl refl cut.fits cut.fresh in
      let rows : command_rows form arguments ≡ fold with_default (part_rows form.positions cut.parts) (built_rules form)
      = ap (λ (rs : List Row). fold with_default rs (built_rules form)) done.ends in
      let last = subst (λ (rs : List Row). check_fault (leaf form) rs false ≡ []) rows four.3 in (
        cut.parts,
        record {
          are_parts = cut.are_parts;
          fits = fits_from form sound cut.parts named cut.fresh (all_to form sound cut.parts named last cut.fits);
        },
      )
