-- One argument of `clap`'s walk over the arguments after a command of flags, options with a value and positions.
use Rattle.std.proofs.Common.{◌≡◌, ◌↔◌, ◌<◌, ◌+◌, ℕ, suc, Bool, true, false, min, if◌then◌else◌, List, [], ◌∷◌, Option, Some, None, slice_get, bytes_eq, chars, encode_utf8_all, is_some, IsUtf8, refl, sym, ap, ◌∙◌, arith}
use Rattle.std.proofs.lemmas.Str.{IsUtf8-drop, IsCharBoundary-after_ascii, encodes-chars}
use Rattle.clap.specs.declared.error.kind.ErrorKind.TheVariants.{TooManyValues}
use Rattle.clap.specs.Lexer.{long_of, short_of, usize_max}
use Rattle.clap.specs.Kinds.{Kinds, or_else}
use Rattle.clap.specs.Faults.{flags_fault, long_fault, option_fault, react_fault, settle_fault, turn_fault}
use Rattle.clap.specs.Simple.{Shape, new_shape}
use Rattle.clap.specs.Walk.{Held, Row, Rule, Waiting, Walk, arg_by_id, arg_by_index, arg_by_long, has_row, idle, is_pending, option, settled_rows, takes_values, used, walked}
use Rattle.command_line.specs.inner.Forms.{CommandForm}
use Rattle.command_line.proofs.HasLemmas.{Text, has, and_false, eq_self}
use Rattle.command_line.proofs.FormLemmas.{built_flag, built_option, built_position, built_rules, long_flag, long_option, long_none, no_short}
use Rattle.command_line.proofs.LexerLemmas.{IsPlainArgument}
use Rattle.command_line.proofs.RowsLemmas.{both_quiet, flag_quiet, option_quiet}

-- the command once it is built below the command line
abbrev pub leaf : CommandForm → Shape
leaf form = record (new_shape form.name) {
  rules = built_rules form;
  no_binary_name = true;
  disable_help_flag = true;
  disable_help_subcommand = true;
  disable_version_flag = true;
  is_built = true;
}

abbrev pub Pending : Type 0
Pending = Option (Text × List Text)

abbrev pub held : List Row → Pending → Held
held rows pending = record { rows = rows; pending = pending; skip = 0 }

-- where the walk stands
abbrev pub stands : List Row → Pending → Waiting → ℕ → Bool → Walk
stands rows pending waiting position is_trailing = record {
  held = held rows pending;
  waiting = waiting;
  position = position;
  is_trailing = is_trailing;
  stopped = None;
}

module _ (form : CommandForm) where
  -- what is pending may be used
  abbrev pub Settles : List Row → Pending → Type 0
  Settles rows pending = settle_fault (built_rules form) false (held rows pending) ≡ []

  -- the rows once what is pending is used
  abbrev pub rows_with : List Row → Pending → List Row
  rows_with rows pending = settled_rows (built_rules form) pending rows

  -- the argument leads from one state to the next, and is no mistake just where that holds
  pub record Steps (from : Walk) (argument : Text) (to : Walk) (quiet : Type 0) : Type 0 where
    pub walks : walked (built_rules form) [] from argument ≡ to
    pub quiet_when : (turn_fault (leaf form) [] from argument ≡ []) ↔ quiet

first_of_two : (a : Kinds) → (or_else a [] ≡ []) ↔ (a ≡ [])
first_of_two [] = (λ h. refl, λ h. refl)
first_of_two (k ∷ ks) = (λ h. absurd (cc), λ h. absurd (cc))

-- what is pending is used, and then the word's own
both_then : (a b : Kinds) (P : Type 0) → (b ≡ []) ↔ P → (or_else (or_else a b) [] ≡ []) ↔ ((a ≡ []) × P)
both_then a b P used_when = (
  λ h. let two = (both_quiet a b).0 ((first_of_two (or_else a b)).0 h) in (two.0, used_when.0 two.1),
  λ h. (first_of_two (or_else a b)).1 ((both_quiet a b).1 (h.0, used_when.1 h.1)),
)

module _ (form : CommandForm) (rows : List Row) (pending : Pending) (n : ℕ) where
  pub step_flag : (name argument : Text) → has name form.options.flags ≡ true → bytes_eq argument (45 ∷ 45 ∷ []) ≡ false → long_of argument ≡ Some (name, None)
      → Steps form (stands rows pending idle n false) argument (stands (used (built_flag name) [] (rows_with form rows pending)) None idle n false)
      (Settles form rows pending × (has_row name (rows_with form rows pending) ≡ false))
  unfolding walked
  step_flag name argument h d l = record {
    walks = rw (d, l, long_flag form name h) refl;
    quiet_when = rw (d, l, long_flag form name h) (both_then _ _ _ (flag_quiet name (rows_with form rows pending)));
  }

  pub step_joined : (name value argument : Text) → has name form.options.flags ≡ false → has name form.options.valued ≡ true
      → bytes_eq argument (45 ∷ 45 ∷ []) ≡ false → long_of argument ≡ Some (name, Some value)
      → Steps form (stands rows pending idle n false) argument (stands (used (built_option name) (value ∷ []) (rows_with form rows pending)) None idle n false)
      (Settles form rows pending × (has_row name (rows_with form rows pending) ≡ false))
  unfolding walked
  step_joined name value argument not_flag h d l = record {
    walks = rw (d, l, long_option form name not_flag h) refl;
    quiet_when = rw (d, l, long_option form name not_flag h) (both_then _ _ _ (option_quiet name value (rows_with form rows pending)));
  }

  pub step_apart : (name argument : Text) → has name form.options.flags ≡ false → has name form.options.valued ≡ true
      → bytes_eq argument (45 ∷ 45 ∷ []) ≡ false → long_of argument ≡ Some (name, None)
      → Steps form (stands rows pending idle n false) argument (stands (rows_with form rows pending) (Some (name, [])) (option name) n false) (Settles form rows pending)
  unfolding walked
  step_apart name argument not_flag h d l = record {
    walks = rw (d, l, long_option form name not_flag h) refl;
    quiet_when = rw (d, l, long_option form name not_flag h) (first_of_two _);
  }

  pub step_dashes : Steps form (stands rows pending idle n false) (45 ∷ 45 ∷ []) (stands rows pending idle n true) (Unit {0})
  unfolding walked
  step_dashes = record { walks = refl; quiet_when = (λ h. tt, λ h. refl) }

-- an index that fits
index_fits : (k : ℕ) → k < 1000 → min (1 + k + 1) usize_max ≡ 1 + suc k
index_fits k few = omega arith

-- an argument after `--`, or one that is no option
module _ (form : CommandForm) (rows : List Row) (pending : Pending) (k : ℕ) (few : k < 1000) (name : Text)
    (next : arg_by_index (built_rules form) (1 + k) ≡ Some (built_position form.needs_all (1 + k) name)) where
  pub step_trailing : (waiting : Waiting) (argument : Text)
      → Steps form (stands rows pending waiting (1 + k) true) argument (stands (rows_with form rows pending) (Some (name, argument ∷ [])) idle (1 + suc k) true) (Settles form rows pending)
  unfolding walked
  step_trailing waiting argument = record {
    walks = rw (next, and_false (is_pending (built_position form.needs_all (1 + k) name) pending), index_fits k few) refl;
    quiet_when = rw (next, and_false (is_pending (built_position form.needs_all (1 + k) name) pending)) (λ h. h, λ h. h);
  }

  pub step_position : (argument : Text) → IsPlainArgument argument
      → Steps form (stands rows pending idle (1 + k) false) argument (stands (rows_with form rows pending) (Some (name, argument ∷ [])) idle (1 + suc k) false) (Settles form rows pending)
  unfolding walked
  step_position argument p = record {
    walks = rw (p.not_dashes, p.not_long, p.not_short, next, and_false (is_pending (built_position form.needs_all (1 + k) name) pending), index_fits k few) refl;
    quiet_when = rw (p.not_dashes, p.not_long, p.not_short, next, and_false (is_pending (built_position form.needs_all (1 + k) name) pending)) (λ h. h, λ h. h);
  }

-- the value of an option whose name stood alone
pub step_value : (form : CommandForm) (rows : List Row) (n : ℕ) (name argument : Text) → arg_by_id (built_rules form) name ≡ Some (built_option name) → IsPlainArgument argument
    → Steps form (stands rows (Some (name, [])) (option name) n false) argument (stands rows (Some (name, argument ∷ [])) idle n false) (Unit {0})
unfolding walked
step_value form rows n name argument found p = record {
  walks = rw (p.not_dashes, p.not_long, p.not_short, found, eq_self name) refl;
  quiet_when = rw (p.not_dashes, p.not_long, p.not_short) (λ h. tt, λ h. refl);
}

-- a step that is a mistake: no position is left
pub no_trailing : (form : CommandForm) (rows : List Row) (pending : Pending) (waiting : Waiting) (n : ℕ) (argument : Text) → arg_by_index (built_rules form) n ≡ None
    → turn_fault (leaf form) [] (stands rows pending waiting n true) argument ≡ [] → ⊥
no_trailing form rows pending waiting n argument none h = let bad = rw none at h in absurd (cc)

pub no_position : (form : CommandForm) (rows : List Row) (pending : Pending) (n : ℕ) (argument : Text) → arg_by_index (built_rules form) n ≡ None → IsPlainArgument argument
    → turn_fault (leaf form) [] (stands rows pending idle n false) argument ≡ [] → ⊥
no_position form rows pending n argument none p h = let bad = rw (p.not_dashes, p.not_long, p.not_short, none) at h in absurd (cc)

-- an option that the command doesn't have
pub unknown_option : (form : CommandForm) (rows : List Row) (pending : Pending) (n : ℕ) (name argument : Text) (value : Option Text)
    → has name form.options.flags ≡ false → has name form.options.valued ≡ false → bytes_eq argument (45 ∷ 45 ∷ []) ≡ false → long_of argument ≡ Some (name, value)
    → turn_fault (leaf form) [] (stands rows pending idle n false) argument ≡ [] → ⊥
unknown_option form rows pending n name argument value not_flag nor d l h =
    let bad = rw (d, l, long_none form name not_flag nor) at h in absurd (cc)

-- a flag with a value
pub flag_with_value : (form : CommandForm) (rows : List Row) (pending : Pending) (n : ℕ) (name value argument : Text)
    → has name form.options.flags ≡ true → bytes_eq argument (45 ∷ 45 ∷ []) ≡ false → long_of argument ≡ Some (name, Some value)
    → turn_fault (leaf form) [] (stands rows pending idle n false) argument ≡ [] → ⊥
flag_with_value form rows pending n name value argument is_flag d l h =
    let bad = rw (d, l, long_flag form name is_flag) at h in absurd (cc)

-- `-` with more: no option of a command is named so
pub first_char : (x : ℕ) (xs : Text) → IsUtf8 (45 ∷ x ∷ xs) → (y : ℕ) × (slice_get (chars (x ∷ xs)) 0 ≡ Some y)
first_char x xs utf8 = go (chars (x ∷ xs)) refl
  where
    rest : IsUtf8 (x ∷ xs)
    rest = IsUtf8-drop (45 ∷ x ∷ xs) 1 utf8 (IsCharBoundary-after_ascii (45 ∷ x ∷ xs) 0 utf8 (omega arith) (omega arith))

    go : (cs : List ℕ) → chars (x ∷ xs) ≡ cs → (y : ℕ) × (slice_get (chars (x ∷ xs)) 0 ≡ Some y)
    go [] e = let none : x ∷ xs ≡ [] = sym (encodes-chars (x ∷ xs) rest) ∙ ap encode_utf8_all e in absurd (cc)
    go (c ∷ cs) e = (c, ap (λ (ds : List ℕ). slice_get ds 0) e)

pub short_option : (form : CommandForm) (rows : List Row) (pending : Pending) (n : ℕ) (x : ℕ) (xs : Text) → IsUtf8 (45 ∷ x ∷ xs)
    → bytes_eq (45 ∷ x ∷ xs) (45 ∷ 45 ∷ []) ≡ false → long_of (45 ∷ x ∷ xs) ≡ None → short_of (45 ∷ x ∷ xs) ≡ Some (x ∷ xs)
    → turn_fault (leaf form) [] (stands rows pending idle n false) (45 ∷ x ∷ xs) ≡ [] → ⊥
unfolding flags_fault
short_option form rows pending n x xs utf8 d l s h =
    let first = first_char x xs utf8 in
    let bad = rw (d, l, s, first.1, no_short form first.0) at h in absurd (cc)

-- an option whose value is missing
pub unsettled : (form : CommandForm) (rows : List Row) (name : Text) → arg_by_id (built_rules form) name ≡ Some (built_option name) → Settles form rows (Some (name, [])) → ⊥
unsettled form rows name found h = let bad = rw found at h in absurd (cc)

long_settles : (c : List Rule) (a : Option Rule) (value : Option Text) (h : Held) → long_fault c false a value h ≡ [] → settle_fault c false h ≡ []
long_settles c None value h q = absurd (cc)
long_settles c (Some a) value h q = go (takes_values a) value q
  where
    go : (t : Bool) (value : Option Text) → (if t then option_fault c false a value h else (if is_some value then TooManyValues ∷ [] else react_fault c false a [] h)) ≡ []
        → settle_fault c false h ≡ []
    go true None q = q
    go true (Some v) q = ((both_quiet _ _).0 q).0
    go false None q = ((both_quiet _ _).0 q).0
    go false (Some v) q = absurd (cc)

pub waiting_long : (form : CommandForm) (rows : List Row) (pending : Pending) (n : ℕ) (name other argument : Text) (value : Option Text)
    → bytes_eq argument (45 ∷ 45 ∷ []) ≡ false → long_of argument ≡ Some (other, value)
    → turn_fault (leaf form) [] (stands rows pending (option name) n false) argument ≡ [] → Settles form rows pending
waiting_long form rows pending n name other argument value d l h =
    long_settles (built_rules form) (arg_by_long (built_rules form) other) value (held rows pending) ((both_quiet _ _).0 (rw (d, l) at h)).0

pub waiting_short : (form : CommandForm) (rows : List Row) (pending : Pending) (n : ℕ) (name : Text) (x : ℕ) (xs : Text) → IsUtf8 (45 ∷ x ∷ xs)
    → bytes_eq (45 ∷ x ∷ xs) (45 ∷ 45 ∷ []) ≡ false → long_of (45 ∷ x ∷ xs) ≡ None → short_of (45 ∷ x ∷ xs) ≡ Some (x ∷ xs)
    → turn_fault (leaf form) [] (stands rows pending (option name) n false) (45 ∷ x ∷ xs) ≡ [] → ⊥
unfolding flags_fault
waiting_short form rows pending n name x xs utf8 d l s h =
    let first = first_char x xs utf8 in
    let bad = rw (d, l, s, first.1, no_short form first.0) at h in absurd (cc)

pub waiting_dashes : (form : CommandForm) (rows : List Row) (pending : Pending) (n : ℕ) (name : Text)
    → walked (built_rules form) [] (stands rows pending (option name) n false) (45 ∷ 45 ∷ []) ≡ stands rows pending (option name) n true
unfolding walked
waiting_dashes form rows pending n name = refl
