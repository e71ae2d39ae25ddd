-- The arguments that stand at the positions of a command, as they are read back from its rows.
use Rattle.std.proofs.lemmas.Bool.{false≢true}
use Rattle.std.proofs.lemmas.List.{map-append, take-append-drop, take_more}
use Rattle.std.proofs.Common.{◌≡◌, ◌≤◌, ◌<◌, ◌+◌, ℕ, suc, Bool, true, false, ◌||◌, List, [], ◌∷◌, ◌++◌, map, take, drop, drop-cons, get_or, length, Bor, Option, Some, None, bytes_eq, refl, sym, ap, ◌∙◌, subst, arith}
use Rattle.clap.specs.Walk.{Row, first_of}
use Rattle.command_line.specs.inner.Rows.{with_argument, arguments_at}
use Rattle.command_line.proofs.HasLemmas.{Text, and_left, and_right, are_distinct, eq_self, has, not_true, or_right, same_text}
use Rattle.command_line.proofs.PartRowsLemmas.{argument_rows}
use Rattle.command_line.proofs.RowsLemmas.{value_row}

-- rows that say the same at those names
pub arguments_same : (names : List Text) (rows more : List Row) → ((name : Text) → has name names ≡ true → first_of name rows ≡ first_of name more) → arguments_at names rows ≡ arguments_at names more
arguments_same [] rows more same = refl
arguments_same (name ∷ names) rows more same =
    ap (λ (o : Option Text). with_argument o (arguments_at names rows)) (same name (ap (λ (b : Bool). b || has name names) (eq_self name)))
    ∙ ap (with_argument (first_of name more)) (arguments_same names rows more (λ other h. same other (or_right (bytes_eq name other) (has other names) h)))

none_at : (names : List Text) → arguments_at names [] ≡ []
none_at [] = refl
none_at (name ∷ names) = none_at names

-- each position gives its argument back
pub arguments_back : (names arguments : List Text) → are_distinct names ≡ true → length arguments ≤ length names → arguments_at names (argument_rows names arguments) ≡ arguments
arguments_back [] [] d few = refl
arguments_back [] (argument ∷ arguments) d few = absurd (omega arith)
arguments_back (name ∷ names) [] d few = none_at names
arguments_back (name ∷ names) (argument ∷ arguments) d few =
    let first : first_of name (value_row name argument ∷ argument_rows names arguments) ≡ Some argument = rw (eq_self name) refl in
    ap (λ (o : Option Text). with_argument o (arguments_at names (value_row name argument ∷ argument_rows names arguments))) first
    ∙ ap (λ (ws : List Text). argument ∷ ws) (arguments_same names (value_row name argument ∷ argument_rows names arguments) (argument_rows names arguments) other
    ∙ arguments_back names arguments (and_right _ _ d) (omega arith))
  where
    other : (x : Text) → has x names ≡ true → first_of x (value_row name argument ∷ argument_rows names arguments) ≡ first_of x (argument_rows names arguments)
    other x h = go (bytes_eq name x) refl
      where
        go : (t : Bool) → bytes_eq name x ≡ t → first_of x (value_row name argument ∷ argument_rows names arguments) ≡ first_of x (argument_rows names arguments)
        go true t = absurd (false≢true (sym (not_true _ (and_left _ _ d)) ∙ subst (λ (y : Text). has y names ≡ true) (sym (same_text name x t)) h))
        go false t = rw t refl

-- the arguments of more positions
pub arguments_at-append : (names more : List Text) (rows : List Row) → arguments_at (names ++ more) rows ≡ arguments_at names rows ++ arguments_at more rows
arguments_at-append [] more rows = refl
arguments_at-append (name ∷ names) more rows = go (first_of name rows) (arguments_at-append names more rows)
  where
    go : (o : Option Text) → arguments_at (names ++ more) rows ≡ arguments_at names rows ++ arguments_at more rows → with_argument o (arguments_at (names ++ more) rows) ≡ with_argument o (arguments_at names rows) ++ arguments_at more rows
    go None same = same
    go (Some argument) same = ap (λ (ws : List Text). argument ∷ ws) same

abbrev pub texts_of : List (Bor Text) → List Text
texts_of names = map (λ name. name.now) names

abbrev pub no_text : Bor Text
no_text = record { ref_ptr = (0, 0); now = [] }

-- the argument at the next position
pub one_more_argument : (names : List (Bor Text)) (i : ℕ) (rows : List Row) → i < length names
    → arguments_at (texts_of (take (i + 1) names)) rows ≡ arguments_at (texts_of (take i names)) rows ++ with_argument (first_of (get_or names i no_text).now rows) []
one_more_argument names i rows inside =
    let here = get_or names i no_text in
    ap (λ (ns : List (Bor Text)). arguments_at (texts_of ns) rows) (take_more names i no_text inside)
    ∙ ap (λ (ns : List Text). arguments_at ns rows) (map-append (λ (name : Bor Text). name.now) (take i names) (here ∷ []))
    ∙ arguments_at-append (texts_of (take i names)) (here.now ∷ []) rows

-- the arguments, with that at a position
pub arguments_around : (names : List (Bor Text)) (i : ℕ) (rows : List Row) → i < length names
    → arguments_at (texts_of names) rows ≡ arguments_at (texts_of (take i names)) rows ++ with_argument (first_of (get_or names i no_text).now rows) (arguments_at (texts_of (drop (suc i) names)) rows)
arguments_around names i rows inside =
    let here = get_or names i no_text in
    ap (λ (ns : List (Bor Text)). arguments_at (texts_of ns) rows) (sym (take-append-drop i names) ∙ ap (λ (ns : List (Bor Text)). take i names ++ ns) (drop-cons names i no_text inside))
    ∙ ap (λ (ns : List Text). arguments_at ns rows) (map-append (λ (name : Bor Text). name.now) (take i names) (here ∷ drop (suc i) names))
    ∙ arguments_at-append (texts_of (take i names)) (here.now ∷ texts_of (drop (suc i) names)) rows
