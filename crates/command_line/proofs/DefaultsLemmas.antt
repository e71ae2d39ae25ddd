-- What `clap` does at the end of a command's arguments: a flag that wasn't given gets a default, and a position must have its row.
use Rattle.std.proofs.lemmas.Bool.{false≢true}
use Rattle.std.proofs.lemmas.List.Sums.{fold-append}
use Rattle.std.proofs.Common.{◌≡◌, ◌≤◌, ℕ, suc, Bool, true, false, not, ◌&&◌, ◌||◌, cond, if◌then◌else◌, List, [], ◌∷◌, ◌++◌, map, length, fold, Some, None, codes, bytes_eq, refl, sym, ap, ◌∙◌, subst, arith}
use Rattle.std.specs.List.{list_any}
use Rattle.clap.specs.Faults.{default_fault, defaults_fault}
use Rattle.clap.specs.Takes.{is_given}
use Rattle.clap.specs.Walk.{Row, Rule, has_row, more_values, with_default}
use Rattle.clap.specs.declared.builder.value_parser.Reading.TheVariants.{AsWritten}
use Rattle.clap.specs.declared.parser.matches.ValueSource.TheVariants.{DefaultValue}
use Rattle.command_line.specs.inner.Forms.{CommandForm}
use Rattle.command_line.proofs.HasLemmas.{Text, are_distinct, and_left, and_right, eq_self, has, not_true, or_right, same_text}
use Rattle.command_line.proofs.FormLemmas.{built_flag, built_option, built_position, built_positions, built_rules}
use Rattle.command_line.proofs.RowsLemmas.{at_absent, value_row}
use Rattle.command_line.proofs.PartRowsLemmas.{has-append, row_at, argument_rows}

-- the row of a flag that wasn't given
abbrev pub default_row : Text → Row
default_row name = record { id = name; values = codes "false" ∷ []; count = None; source = Some DefaultValue; reading = AsWritten }

same_both : {A : Type 0} (b : Bool) (x : A) → (if b then x else x) ≡ x
same_both true x = refl
same_both false x = refl

-- only a flag has a default
fold_options : (names : List Text) (rest : List Rule) (rows : List Row) → fold with_default rows (map built_option names ++ rest) ≡ fold with_default rows rest
fold_options [] rest rows = refl
fold_options (name ∷ names) rest rows =
    ap (λ (rs : List Row). fold with_default rs (map built_option names ++ rest)) (same_both (has_row name rows) rows) ∙ fold_options names rest rows

fold_positions : (needed : Bool) (n : ℕ) (names : List Text) (rows : List Row) → fold with_default rows (built_positions needed n names) ≡ rows
fold_positions needed n [] rows = refl
fold_positions needed n (name ∷ names) rows =
    ap (λ (rs : List Row). fold with_default rs (built_positions needed (suc n) names)) (same_both (has_row name rows) rows) ∙ fold_positions needed (suc n) names rows

pub fold_rules : (form : CommandForm) (rows : List Row) → fold with_default rows (built_rules form) ≡ fold with_default rows (map built_flag form.options.flags)
fold_rules form rows =
    fold-append with_default rows (map built_flag form.options.flags) (map built_option form.options.valued ++ built_positions form.needs_all 1 form.positions)
    ∙ fold_options form.options.valued (built_positions form.needs_all 1 form.positions) (fold with_default rows (map built_flag form.options.flags))
    ∙ fold_positions form.needs_all 1 form.positions (fold with_default rows (map built_flag form.options.flags))

-- a flag's default, where it has a row and where it has none
flag_kept : (name : Text) (rows : List Row) → has_row name rows ≡ true → with_default rows (built_flag name) ≡ rows
flag_kept name rows h = rw h refl

flag_added : (name : Text) (rows : List Row) → has_row name rows ≡ false → with_default rows (built_flag name) ≡ rows ++ default_row name ∷ []
flag_added name rows h = rw h (at_absent name (more_values DefaultValue (codes "false" ∷ [])) (default_row name ∷ []) rows h)

find-append : (name : Text) (rows more : List Row) → row_at name (rows ++ more) ≡ (if has_row name rows then row_at name rows else row_at name more)
find-append name [] more = refl
find-append name (r ∷ rows) more = go (bytes_eq r.id name) (find-append name rows more)
  where
    go : (t : Bool) → row_at name (rows ++ more) ≡ (if has_row name rows then row_at name rows else row_at name more)
        → cond t (Some r) (row_at name (rows ++ more)) ≡ (if (t || has_row name rows) then (cond t (Some r) (row_at name rows)) else row_at name more)
    go true rec = refl
    go false rec = rec

-- the first row of a name once the flags have their defaults
pub row_with_defaults : (name : Text) (names : List Text) (rows : List Row) → row_at name (fold with_default rows (map built_flag names))
    ≡ (if has_row name rows then row_at name rows else (if has name names then Some (default_row name) else None))
row_with_defaults name [] rows = none_else (has_row name rows) refl
  where
    no_row : (xs : List Row) → has_row name xs ≡ false → row_at name xs ≡ None
    no_row [] h = refl
    no_row (r ∷ xs) h = go (bytes_eq r.id name) h (no_row xs)
      where
        go : (t : Bool) → (t || has_row name xs) ≡ false → (has_row name xs ≡ false → row_at name xs ≡ None) → cond t (Some r) (row_at name xs) ≡ None
        go true h rec = absurd (false≢true (sym h))
        go false h rec = rec h

    none_else : (b : Bool) → has_row name rows ≡ b → row_at name rows ≡ (if has_row name rows then row_at name rows else None)
    none_else true e = rw e refl
    none_else false e = rw e (no_row rows e)
row_with_defaults name (x ∷ names) rows = go (has_row x rows) refl (row_with_defaults name names rows) (row_with_defaults name names (rows ++ default_row x ∷ []))
  where
    kept : has_row x rows ≡ true → (t b : Bool) → bytes_eq x name ≡ t → has_row name rows ≡ b
        → row_at name (fold with_default rows (map built_flag names)) ≡ (if has_row name rows then row_at name rows else (if has name names then Some (default_row name) else None))
        → row_at name (fold with_default rows (map built_flag names)) ≡ (if has_row name rows then row_at name rows else (if (bytes_eq x name || has name names) then Some (default_row name) else None))
    kept h true true t b rec = rec ∙ rw b refl
    kept h true false t b rec = absurd (false≢true (sym b ∙ subst (λ (y : Text). has_row y rows ≡ true) (same_text x name t) h))
    kept h false b' t b rec = rec ∙ rw t refl

    added : (t b : Bool) → bytes_eq x name ≡ t → has_row name rows ≡ b
        → row_at name (fold with_default (rows ++ default_row x ∷ []) (map built_flag names))
        ≡ (if has_row name (rows ++ default_row x ∷ []) then row_at name (rows ++ default_row x ∷ []) else (if has name names then Some (default_row name) else None))
        → row_at name (fold with_default (rows ++ default_row x ∷ []) (map built_flag names))
        ≡ (if has_row name rows then row_at name rows else (if (bytes_eq x name || has name names) then Some (default_row name) else None))
    added true true t b rec = rec ∙ rw (has-append name rows (default_row x ∷ []), find-append name rows (default_row x ∷ []), b) refl
    added true false t b rec = rec ∙ rw (has-append name rows (default_row x ∷ []), find-append name rows (default_row x ∷ []), b, t) (ap (λ (y : Text). Some (default_row y)) (same_text x name t))
    added false true t b rec = rec ∙ rw (has-append name rows (default_row x ∷ []), find-append name rows (default_row x ∷ []), b) refl
    added false false t b rec = rec ∙ rw (has-append name rows (default_row x ∷ []), find-append name rows (default_row x ∷ []), b, t) refl

    go : (h : Bool) → has_row x rows ≡ h
        → row_at name (fold with_default rows (map built_flag names)) ≡ (if has_row name rows then row_at name rows else (if has name names then Some (default_row name) else None))
        → row_at name (fold with_default (rows ++ default_row x ∷ []) (map built_flag names))
        ≡ (if has_row name (rows ++ default_row x ∷ []) then row_at name (rows ++ default_row x ∷ []) else (if has name names then Some (default_row name) else None))
        → row_at name (fold with_default (with_default rows (built_flag x)) (map built_flag names))
        ≡ (if has_row name rows then row_at name rows else (if (bytes_eq x name || has name names) then Some (default_row name) else None))
    go true h rec more = ap (λ (rs : List Row). row_at name (fold with_default rs (map built_flag names))) (flag_kept x rows h) ∙ kept h (bytes_eq x name) (has_row name rows) refl refl rec
    go false h rec more = ap (λ (rs : List Row). row_at name (fold with_default rs (map built_flag names))) (flag_added x rows h) ∙ added (bytes_eq x name) (has_row name rows) refl refl more

-- no default is a mistake
quiet_defaults : (f : Text → Rule) → ((rows : List Row) (x : Text) → default_fault rows (f x) ≡ []) → (names : List Text) (rest : List Rule)
    → ((rows : List Row) → defaults_fault rows rest ≡ []) → (rows : List Row) → defaults_fault rows (map f names ++ rest) ≡ []
unfolding defaults_fault
quiet_defaults f each [] rest after rows = after rows
quiet_defaults f each (x ∷ names) rest after rows = rw (each rows x) (quiet_defaults f each names rest after (with_default rows (f x)))

quiet_positions : (needed : Bool) (n : ℕ) (names : List Text) (rows : List Row) → defaults_fault rows (built_positions needed n names) ≡ []
unfolding defaults_fault
quiet_positions needed n [] rows = refl
quiet_positions needed n (x ∷ names) rows = rw (position_default (has_row x rows)) (quiet_positions needed (suc n) names (with_default rows (built_position needed n x)))
  where
    position_default : (b : Bool) → default_fault rows (built_position needed n x) ≡ []
    position_default b = same_both _ []

pub no_defaults_fault : (form : CommandForm) (rows : List Row) → defaults_fault rows (built_rules form) ≡ []
no_defaults_fault form rows =
    quiet_defaults built_flag (λ rs x. same_both _ []) form.options.flags (map built_option form.options.valued ++ built_positions form.needs_all 1 form.positions)
    (λ rs. quiet_defaults built_option (λ ss x. same_both _ []) form.options.valued (built_positions form.needs_all 1 form.positions) (λ ss. quiet_positions form.needs_all 1 form.positions ss) rs) rows

-- what is wanted: each position, or none
abbrev wants : List Row → Rule → Bool
wants rows a = a.required && not (is_given a.id rows)

wants_flags : (rows : List Row) (names : List Text) (rest : List Rule) → list_any (wants rows) (map built_flag names ++ rest) ≡ list_any (wants rows) rest
wants_flags rows [] rest = refl
wants_flags rows (x ∷ names) rest = wants_flags rows names rest

wants_options : (rows : List Row) (names : List Text) (rest : List Rule) → list_any (wants rows) (map built_option names ++ rest) ≡ list_any (wants rows) rest
wants_options rows [] rest = refl
wants_options rows (x ∷ names) rest = wants_options rows names rest

wants_needed : (rows : List Row) (n : ℕ) (names : List Text) → list_any (wants rows) (built_positions true n names) ≡ list_any (λ name. not (is_given name rows)) names
wants_needed rows n [] = refl
wants_needed rows n (x ∷ names) = ap (λ (b : Bool). not (is_given x rows) || b) (wants_needed rows (suc n) names)

wants_free : (rows : List Row) (n : ℕ) (names : List Text) → list_any (wants rows) (built_positions false n names) ≡ false
wants_free rows n [] = refl
wants_free rows n (x ∷ names) = wants_free rows (suc n) names

wants_positions : (needed : Bool) (rows : List Row) (n : ℕ) (names : List Text) → list_any (wants rows) (built_positions needed n names) ≡ (needed && list_any (λ name. not (is_given name rows)) names)
wants_positions true rows n names = wants_needed rows n names
wants_positions false rows n names = wants_free rows n names

pub wants_rules : (form : CommandForm) (rows : List Row) → list_any (wants rows) (built_rules form) ≡ (form.needs_all && list_any (λ name. not (is_given name rows)) form.positions)
wants_rules form rows =
    wants_flags rows form.options.flags (map built_option form.options.valued ++ built_positions form.needs_all 1 form.positions)
    ∙ wants_options rows form.options.valued (built_positions form.needs_all 1 form.positions)
    ∙ wants_positions form.needs_all rows 1 form.positions

pub any_same : (f g : Text → Bool) (names : List Text) → ((x : Text) → has x names ≡ true → f x ≡ g x) → list_any f names ≡ list_any g names
any_same f g [] same = refl
any_same f g (x ∷ names) same =
    ap (λ (b : Bool). b || list_any f names) (same x (ap (λ (b : Bool). b || has x names) (eq_self x)))
    ∙ ap (λ (b : Bool). g x || b) (any_same f g names (λ y h. same y (or_right (bytes_eq x y) (has y names) h)))

-- the arguments give each position just where there are as many
given_rest : (p argument : Text) (left arguments : List Text) → are_distinct (p ∷ left) ≡ true
    → list_any (λ name. not (is_given name (value_row p argument ∷ argument_rows left arguments))) left ≡ list_any (λ name. not (is_given name (argument_rows left arguments))) left
given_rest p argument left arguments d = any_same (λ name. not (is_given name (value_row p argument ∷ argument_rows left arguments))) (λ name. not (is_given name (argument_rows left arguments))) left (λ x h. other x h)
  where
    other : (x : Text) → has x left ≡ true → not (is_given x (value_row p argument ∷ argument_rows left arguments)) ≡ not (is_given x (argument_rows left arguments))
    other x h = go (bytes_eq p x) refl
      where
        go : (t : Bool) → bytes_eq p x ≡ t → not (is_given x (value_row p argument ∷ argument_rows left arguments)) ≡ not (is_given x (argument_rows left arguments))
        go true t = absurd (false≢true (sym (not_true _ (and_left _ _ d)) ∙ subst (λ (y : Text). has y left ≡ true) (sym (same_text p x t)) h))
        go false t = rw t refl

given_first : (p argument : Text) (left arguments : List Text) → is_given p (value_row p argument ∷ argument_rows left arguments) ≡ true
given_first p argument left arguments = rw (eq_self p) refl

pub all_given_to : (left arguments : List Text) → are_distinct left ≡ true → list_any (λ name. not (is_given name (argument_rows left arguments))) left ≡ false → length left ≤ length arguments
all_given_to [] arguments d h = omega arith
all_given_to (p ∷ left) [] d h = absurd (false≢true (sym h))
all_given_to (p ∷ left) (argument ∷ arguments) d h =
    let rest' : list_any (λ name. not (is_given name (value_row p argument ∷ argument_rows left arguments))) left ≡ false = rw (given_first p argument left arguments) at h in
    omega (arith, all_given_to left arguments (and_right _ _ d) (sym (given_rest p argument left arguments d) ∙ rest'))

pub all_given_from : (left arguments : List Text) → are_distinct left ≡ true → length left ≤ length arguments → list_any (λ name. not (is_given name (argument_rows left arguments))) left ≡ false
all_given_from [] arguments d h = refl
all_given_from (p ∷ left) [] d h = absurd (omega arith)
all_given_from (p ∷ left) (argument ∷ arguments) d h =
    rw (given_first p argument left arguments) (given_rest p argument left arguments d ∙ all_given_from left arguments (and_right _ _ d) (omega arith))
