-- The rows of some parts: those of a name, and that no name has two just where no part is repeated.
use Rattle.std.proofs.lemmas.Bool.{false≢true}
use Rattle.std.proofs.Common.{◌≡◌, ◌≤◌, ◌+◌, suc, Bool, true, false, ◌||◌, cond, List, [], ◌∷◌, ◌++◌, map, length, filter, find, Option, Some, slice_get, bytes_eq, append_assoc, length-append, refl, sym, ap, ◌∙◌, subst, arith}
use Rattle.clap.specs.Walk.{Row, has_row}
use Rattle.command_line.specs.Parts.{ArgumentPart, Flag, Valued, Position, Options, AreArgumentParts, none, flag, joined, apart, position, rest, positions}
use Rattle.command_line.specs.CommandLines.{flags_of, option_values}
use Rattle.command_line.proofs.HasLemmas.{Text, are_distinct, and_left, and_right, eq_self, has, has_from, not_true, or_right, same_text}
use Rattle.command_line.proofs.RowsLemmas.{Fresh, flag_row, part_rows, value_row}

-- the rows of a name
abbrev pub rows_named : Text → List Row → List Row
rows_named name rows = filter (λ r. bytes_eq r.id name) rows

-- the first of them
abbrev pub row_at : Text → List Row → Option Row
row_at name rows = find (λ r. bytes_eq r.id name) rows

-- the rows of some arguments, each at the next position
abbrev pub argument_rows : List Text → List Text → List Row
argument_rows [] arguments = []
argument_rows (name ∷ left) [] = []
argument_rows (name ∷ left) (argument ∷ arguments) = value_row name argument ∷ argument_rows left arguments

-- each option among the parts is one of the command
abbrev pub AreNamed : Options → List ArgumentPart → Type 0
AreNamed options [] = Unit {0}
AreNamed options (Flag name ∷ parts) = (has name options.flags ≡ true) × AreNamed options parts
AreNamed options (Valued name value ∷ parts) = (has name options.valued ≡ true) × AreNamed options parts
AreNamed options (Position argument ∷ parts) = AreNamed options parts

arguments_named : (options : Options) (arguments : List Text) → AreNamed options (map Position arguments)
arguments_named options [] = tt
arguments_named options (argument ∷ arguments) = arguments_named options arguments

pub named_of : (options : Options) {arguments : List Text} {parts : List ArgumentPart} → AreArgumentParts options arguments parts → AreNamed options parts
named_of options none = tt
named_of options (flag {name} c d) = (has_from options.flags name c, named_of options d)
named_of options (joined {name} {value} c d) = (has_from options.valued name c, named_of options d)
named_of options (apart {name} {value} c p d) = (has_from options.valued name c, named_of options d)
named_of options (position p d) = named_of options d
named_of options (rest {arguments}) = arguments_named options arguments

-- names of which one stands in a list and the other doesn't
apart_names : (a b : Text) (names : List Text) → has a names ≡ true → has b names ≡ false → bytes_eq a b ≡ false
apart_names a b names yes' no' = go (bytes_eq a b) refl
  where
    go : (t : Bool) → bytes_eq a b ≡ t → bytes_eq a b ≡ false
    go true t = absurd (false≢true (sym no' ∙ (subst (λ (x : Text). has x names ≡ true) (same_text a b t) yes')))
    go false t = t

absent_first : (p name : Text) (left : List Text) → has name (p ∷ left) ≡ false → bytes_eq p name ≡ false
absent_first p name left h = go (bytes_eq p name) h
  where
    go : (t : Bool) → (t || has name left) ≡ false → t ≡ false
    go true h = h
    go false h = refl

absent_rest : (p name : Text) (left : List Text) → has name (p ∷ left) ≡ false → has name left ≡ false
absent_rest p name left h = go (bytes_eq p name) h
  where
    go : (t : Bool) → (t || has name left) ≡ false → has name left ≡ false
    go true h = absurd (false≢true (sym h))
    go false h = h

-- the rows of an option with a value
pub rows_of_values : (options : Options) (name : Text) → has name options.flags ≡ false → (parts : List ArgumentPart) → AreNamed options parts → (left : List Text) → has name left ≡ false
    → rows_named name (part_rows left parts) ≡ map (value_row name) (option_values name parts)
rows_of_values options name not_flag [] named left h = refl
rows_of_values options name not_flag (Flag other ∷ parts) named left h =
    rw (apart_names other name options.flags named.0 not_flag) (rows_of_values options name not_flag parts named.1 left h)
rows_of_values options name not_flag (Valued other value ∷ parts) named left h = go (bytes_eq other name) refl (rows_of_values options name not_flag parts named.1 left h)
  where
    go : (t : Bool) → bytes_eq other name ≡ t → rows_named name (part_rows left parts) ≡ map (value_row name) (option_values name parts)
        → rows_named name (part_rows left (Valued other value ∷ parts)) ≡ map (value_row name) (option_values name (Valued other value ∷ parts))
    go true t rec = rw t (ap (λ (x : Text). value_row x value ∷ rows_named name (part_rows left parts)) (same_text other name t) ∙ ap (λ (rs : List Row). value_row name value ∷ rs) rec)
    go false t rec = rw t rec
rows_of_values options name not_flag (Position argument ∷ parts) named [] h = rows_of_values options name not_flag parts named [] h
rows_of_values options name not_flag (Position argument ∷ parts) named (p ∷ left) h =
    rw (absent_first p name left h) (rows_of_values options name not_flag parts named left (absent_rest p name left h))

-- the rows of a flag
pub rows_of_flags : (options : Options) (name : Text) → has name options.valued ≡ false → (parts : List ArgumentPart) → AreNamed options parts → (left : List Text) → has name left ≡ false
    → rows_named name (part_rows left parts) ≡ map flag_row (flags_of name parts)
rows_of_flags options name not_valued [] named left h = refl
rows_of_flags options name not_valued (Flag other ∷ parts) named left h = go (bytes_eq other name) refl (rows_of_flags options name not_valued parts named.1 left h)
  where
    go : (t : Bool) → bytes_eq other name ≡ t → rows_named name (part_rows left parts) ≡ map flag_row (flags_of name parts)
        → rows_named name (part_rows left (Flag other ∷ parts)) ≡ map flag_row (flags_of name (Flag other ∷ parts))
    go true t rec = rw t (ap (λ (rs : List Row). flag_row other ∷ rs) rec)
    go false t rec = rw t rec
rows_of_flags options name not_valued (Valued other value ∷ parts) named left h =
    rw (apart_names other name options.valued named.0 not_valued) (rows_of_flags options name not_valued parts named.1 left h)
rows_of_flags options name not_valued (Position argument ∷ parts) named [] h = rows_of_flags options name not_valued parts named [] h
rows_of_flags options name not_valued (Position argument ∷ parts) named (p ∷ left) h =
    rw (absent_first p name left h) (rows_of_flags options name not_valued parts named left (absent_rest p name left h))

-- and those of a position, which are those of the arguments
pub rows_of_arguments : (options : Options) (name : Text) → has name options.flags ≡ false → has name options.valued ≡ false → (parts : List ArgumentPart) → AreNamed options parts → (left : List Text)
    → rows_named name (part_rows left parts) ≡ rows_named name (argument_rows left (positions parts))
rows_of_arguments options name not_flag not_valued [] named [] = refl
rows_of_arguments options name not_flag not_valued [] named (p ∷ left) = refl
rows_of_arguments options name not_flag not_valued (Flag other ∷ parts) named left =
    rw (apart_names other name options.flags named.0 not_flag) (rows_of_arguments options name not_flag not_valued parts named.1 left)
rows_of_arguments options name not_flag not_valued (Valued other value ∷ parts) named left =
    rw (apart_names other name options.valued named.0 not_valued) (rows_of_arguments options name not_flag not_valued parts named.1 left)
rows_of_arguments options name not_flag not_valued (Position argument ∷ parts) named [] = rows_of_arguments options name not_flag not_valued parts named []
rows_of_arguments options name not_flag not_valued (Position argument ∷ parts) named (p ∷ left) =
    ap (λ (rs : List Row). cond (bytes_eq p name) (value_row p argument ∷ rs) rs) (rows_of_arguments options name not_flag not_valued parts named left)

pub argument_absent : (name : Text) (left arguments : List Text) → has name left ≡ false → rows_named name (argument_rows left arguments) ≡ []
argument_absent name [] arguments h = refl
argument_absent name (p ∷ left) [] h = refl
argument_absent name (p ∷ left) (argument ∷ arguments) h = rw (absent_first p name left h) (argument_absent name left arguments (absent_rest p name left h))

pub argument_once : (name : Text) (left arguments : List Text) → are_distinct left ≡ true → length (rows_named name (argument_rows left arguments)) ≤ 1
argument_once name [] arguments d = omega arith
argument_once name (p ∷ left) [] d = omega arith
argument_once name (p ∷ left) (argument ∷ arguments) d = go (bytes_eq p name) refl (argument_once name left arguments (and_right _ _ d))
  where
    go : (t : Bool) → bytes_eq p name ≡ t → length (rows_named name (argument_rows left arguments)) ≤ 1
        → length (cond (bytes_eq p name) (value_row p argument ∷ rows_named name (argument_rows left arguments)) (rows_named name (argument_rows left arguments))) ≤ 1
    go true t rec =
        let other : has name left ≡ false = subst (λ (x : Text). has x left ≡ false) (same_text p name t) (not_true _ (and_left _ _ d)) in
        let none' = argument_absent name left arguments other in
        rw (t, none') (omega arith)
    go false t rec = rw t rec

-- rows at an end
named-append : (name : Text) (rows more : List Row) → rows_named name (rows ++ more) ≡ rows_named name rows ++ rows_named name more
named-append name [] more = refl
named-append name (r ∷ rows) more = go (bytes_eq r.id name) refl (named-append name rows more)
  where
    go : (t : Bool) → bytes_eq r.id name ≡ t → rows_named name (rows ++ more) ≡ rows_named name rows ++ rows_named name more
        → cond (bytes_eq r.id name) (r ∷ rows_named name (rows ++ more)) (rows_named name (rows ++ more))
        ≡ cond (bytes_eq r.id name) (r ∷ rows_named name rows) (rows_named name rows) ++ rows_named name more
    go true t rec = rw t (ap (λ (rs : List Row). r ∷ rs) rec)
    go false t rec = rw t rec

pub has-append : (name : Text) (rows more : List Row) → has_row name (rows ++ more) ≡ (has_row name rows || has_row name more)
has-append name [] more = refl
has-append name (r ∷ rows) more = go (bytes_eq r.id name) (has-append name rows more)
  where
    go : (t : Bool) → has_row name (rows ++ more) ≡ (has_row name rows || has_row name more) → (t || has_row name (rows ++ more)) ≡ ((t || has_row name rows) || has_row name more)
    go true rec = refl
    go false rec = rec

-- a name has a row just where it has a first one
pub has_named : (name : Text) (rows : List Row) → has_row name rows ≡ true → 1 ≤ length (rows_named name rows)
has_named name [] h = absurd (false≢true h)
has_named name (r ∷ rows) h = go (bytes_eq r.id name) refl h (has_named name rows)
  where
    go : (t : Bool) → bytes_eq r.id name ≡ t → (t || has_row name rows) ≡ true → (has_row name rows ≡ true → 1 ≤ length (rows_named name rows))
        → 1 ≤ length (cond (bytes_eq r.id name) (r ∷ rows_named name rows) (rows_named name rows))
    go true t h rec = rw t (omega arith)
    go false t h rec = rw t (rec h)

pub first_named : (name : Text) (rows : List Row) → row_at name rows ≡ slice_get (rows_named name rows) 0
first_named name [] = refl
first_named name (r ∷ rows) = go (bytes_eq r.id name) (first_named name rows)
  where
    go : (t : Bool) → row_at name rows ≡ slice_get (rows_named name rows) 0 → cond t (Some r) (row_at name rows) ≡ slice_get (cond t (r ∷ rows_named name rows) (rows_named name rows)) 0
    go true rec = refl
    go false rec = rec

-- fresh rows name each name once
pub fresh_once : (name : Text) (rows more : List Row) → Fresh rows more → (length (rows_named name more) ≤ 1) × (has_row name rows ≡ true → rows_named name more ≡ [])
fresh_once name rows [] fresh = (omega arith, λ h. refl)
fresh_once name rows (r ∷ more) fresh = go (bytes_eq r.id name) refl (fresh_once name (rows ++ r ∷ []) more fresh.1)
  where
    has_now : has_row name (rows ++ r ∷ []) ≡ (has_row name rows || (bytes_eq r.id name || false))
    has_now = has-append name rows (r ∷ [])

    go : (t : Bool) → bytes_eq r.id name ≡ t → (length (rows_named name more) ≤ 1) × (has_row name (rows ++ r ∷ []) ≡ true → rows_named name more ≡ [])
        → (length (rows_named name (r ∷ more)) ≤ 1) × (has_row name rows ≡ true → rows_named name (r ∷ more) ≡ [])
    go true t rec =
        let now : has_row name (rows ++ r ∷ []) ≡ true = has_now ∙ ap (λ (b : Bool). has_row name rows || (b || false)) t ∙ or_right (has_row name rows) true refl in
        let none' = rec.1 now in
        (rw (t, none') (omega arith), λ h. absurd (false≢true (sym (subst (λ (x : Text). has_row x rows ≡ false) (same_text r.id name t) fresh.0) ∙ h)))
    go false t rec =
        (rw t rec.0, λ h. rw t (rec.1 (has_now ∙ ap (λ (b : Bool). b || (bytes_eq r.id name || false)) h)))

pub fresh_from : (rows more : List Row) → ((name : Text) → length (rows_named name (rows ++ more)) ≤ 1) → Fresh rows more
fresh_from rows [] once = tt
fresh_from rows (r ∷ more) once = (
  go (has_row r.id rows) refl,
  fresh_from (rows ++ r ∷ []) more (λ name. subst (λ (rs : List Row). length (rows_named name rs) ≤ 1) (sym (append_assoc rows (r ∷ []) more)) (once name)),
)
  where
    go : (t : Bool) → has_row r.id rows ≡ t → has_row r.id rows ≡ false
    go true t =
        let some' = has_named r.id rows t in
        let self : bytes_eq r.id r.id ≡ true = eq_self r.id in
        let second : rows_named r.id (r ∷ more) ≡ r ∷ rows_named r.id more = rw self refl in
        let all : length (rows_named r.id (rows ++ r ∷ more)) ≡ length (rows_named r.id rows) + suc (length (rows_named r.id more))
        = ap length (named-append r.id rows (r ∷ more)) ∙ length-append (rows_named r.id rows) (rows_named r.id (r ∷ more))
        ∙ ap (λ (rs : List Row). length (rows_named r.id rows) + length rs) second in
        absurd (omega (arith, once r.id))
    go false t = t
