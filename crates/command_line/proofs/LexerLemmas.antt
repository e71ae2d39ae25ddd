-- What an argument is: an option's name with or without a value, `--`, or no option.
use Rattle.std.proofs.lemmas.Bool.{false≢true}
use Rattle.std.proofs.Common.{◌≡◌, ◌+◌, ◌==◌, ℕ, suc, Bool, true, false, ◌||◌, [], ◌∷◌, ◌++◌, Some, None, bytes_eq, inl, inr, refl, sym, ap, ◌∙◌, subst, arith}
use Rattle.std.specs.List.{before_first, after_first, position_or_len}
use Rattle.std.proofs.lemmas.Bool.Decides.{Decides-eqb}
use Rattle.clap.specs.Lexer.{has_byte, long_of, long_of_rest, name_and_value, short_of}
use Rattle.command_line.specs.Parts.{IsNoOption}
use Rattle.command_line.proofs.HasLemmas.{Text, and_right, not_true}
use Rattle.command_line.proofs.FormLemmas.{is_name}

abbrev is_equals : ℕ → Bool
is_equals x = x == 61

-- a text up to its first `=`, where it has none and where it has one
before_all : (xs : Text) → has_byte 61 xs ≡ false → before_first is_equals xs ≡ xs
before_all [] h = refl
before_all (x ∷ xs) h = go (x == 61) refl h (before_all xs)
  where
    go : (t : Bool) → (x == 61) ≡ t → (t || has_byte 61 xs) ≡ false → (has_byte 61 xs ≡ false → before_first is_equals xs ≡ xs) → before_first is_equals (x ∷ xs) ≡ x ∷ xs
    go true t h rec = absurd (false≢true (sym h))
    go false t h rec =
        let next : 1 + position_or_len is_equals xs ≡ suc (position_or_len is_equals xs) = omega arith in
        rw (t, next) (ap (λ (ys : Text). x ∷ ys) (rec h))

has_joined : (xs ys : Text) → has_byte 61 (xs ++ 61 ∷ ys) ≡ true
has_joined [] ys = refl
has_joined (x ∷ xs) ys = go (x == 61) (has_joined xs ys)
  where
    go : (t : Bool) → has_byte 61 (xs ++ 61 ∷ ys) ≡ true → (t || has_byte 61 (xs ++ 61 ∷ ys)) ≡ true
    go true h = refl
    go false h = h

before_joined : (xs ys : Text) → has_byte 61 xs ≡ false → before_first is_equals (xs ++ 61 ∷ ys) ≡ xs
before_joined [] ys h = refl
before_joined (x ∷ xs) ys h = go (x == 61) refl h (before_joined xs ys)
  where
    go : (t : Bool) → (x == 61) ≡ t → (t || has_byte 61 xs) ≡ false → (has_byte 61 xs ≡ false → before_first is_equals (xs ++ 61 ∷ ys) ≡ xs)
        → before_first is_equals (x ∷ (xs ++ 61 ∷ ys)) ≡ x ∷ xs
    go true t h rec = absurd (false≢true (sym h))
    go false t h rec =
        let next : 1 + position_or_len is_equals (xs ++ 61 ∷ ys) ≡ suc (position_or_len is_equals (xs ++ 61 ∷ ys)) = omega arith in
        rw (t, next) (ap (λ (zs : Text). x ∷ zs) (rec h))

after_joined : (xs ys : Text) → has_byte 61 xs ≡ false → after_first is_equals (xs ++ 61 ∷ ys) ≡ ys
after_joined [] ys h = refl
after_joined (x ∷ xs) ys h = go (x == 61) refl h (after_joined xs ys)
  where
    go : (t : Bool) → (x == 61) ≡ t → (t || has_byte 61 xs) ≡ false → (has_byte 61 xs ≡ false → after_first is_equals (xs ++ 61 ∷ ys) ≡ ys)
        → after_first is_equals (x ∷ (xs ++ 61 ∷ ys)) ≡ ys
    go true t h rec = absurd (false≢true (sym h))
    go false t h rec =
        let next : 1 + position_or_len is_equals (xs ++ 61 ∷ ys) + 1 ≡ suc (position_or_len is_equals (xs ++ 61 ∷ ys) + 1) = omega arith in
        rw (t, next) (rec h)

joined_again : (xs : Text) → has_byte 61 xs ≡ true → xs ≡ before_first is_equals xs ++ 61 ∷ after_first is_equals xs
joined_again [] h = absurd (false≢true h)
joined_again (x ∷ xs) h = go (x == 61) refl h (joined_again xs)
  where
    go : (t : Bool) → (x == 61) ≡ t → (t || has_byte 61 xs) ≡ true → (has_byte 61 xs ≡ true → xs ≡ before_first is_equals xs ++ 61 ∷ after_first is_equals xs)
        → x ∷ xs ≡ before_first is_equals (x ∷ xs) ++ 61 ∷ after_first is_equals (x ∷ xs)
    go true t h rec = let is : x ≡ 61 = (Decides-eqb x 61).0 t in rw t (ap (λ (y : ℕ). y ∷ xs) is)
    go false t h rec =
        let next : 1 + position_or_len is_equals xs ≡ suc (position_or_len is_equals xs) = omega arith in
        let last : suc (position_or_len is_equals xs) + 1 ≡ suc (position_or_len is_equals xs + 1) = omega arith in
        rw (t, next, last) (ap (λ (ys : Text). x ∷ ys) (rec h))

-- a name has a first byte
some_name : (name : Text) → is_name name ≡ true → long_of_rest name ≡ Some (name_and_value name)
some_name [] h = absurd (false≢true h)
some_name (x ∷ xs) h = refl

pub no_equals : (name : Text) → is_name name ≡ true → has_byte 61 name ≡ false
no_equals name h = not_true _ (and_right _ _ h)

pub long_alone : (name : Text) → is_name name ≡ true → long_of (45 ∷ 45 ∷ name) ≡ Some (name, None)
long_alone name h = some_name name h ∙ rw (before_all name (no_equals name h), no_equals name h) refl

pub long_joined : (name value : Text) → is_name name ≡ true → long_of (45 ∷ 45 ∷ (name ++ 61 ∷ value)) ≡ Some (name, Some value)
long_joined name value h = first name h
    ∙ rw (before_joined name value (no_equals name h), has_joined name value, after_joined name value (no_equals name h)) refl
  where
    first : (xs : Text) → is_name xs ≡ true → long_of_rest (xs ++ 61 ∷ value) ≡ Some (name_and_value (xs ++ 61 ∷ value))
    first [] h = absurd (false≢true h)
    first (x ∷ xs) h = refl

pub named_is_long : (name : Text) → is_name name ≡ true → bytes_eq (45 ∷ 45 ∷ name) (45 ∷ 45 ∷ []) ≡ false
named_is_long [] h = absurd (false≢true h)
named_is_long (x ∷ xs) h = refl

pub joined_is_long : (name value : Text) → is_name name ≡ true → bytes_eq (45 ∷ 45 ∷ (name ++ 61 ∷ value)) (45 ∷ 45 ∷ []) ≡ false
joined_is_long [] value h = absurd (false≢true h)
joined_is_long (x ∷ xs) value h = refl

-- what an argument is: `--`, `--NAME`, `--NAME=VALUE`, `-` with more, or no option
pub data Look (argument : Text) : Type 0 where
  dashes : argument ≡ 45 ∷ 45 ∷ [] → Look argument
  alone : (name : Text) → argument ≡ 45 ∷ 45 ∷ name → bytes_eq argument (45 ∷ 45 ∷ []) ≡ false → long_of argument ≡ Some (name, None) → Look argument
  with_value : (name value : Text) → argument ≡ 45 ∷ 45 ∷ (name ++ 61 ∷ value) → bytes_eq argument (45 ∷ 45 ∷ []) ≡ false → long_of argument ≡ Some (name, Some value) → Look argument
  short : (x : ℕ) (xs : Text) → argument ≡ 45 ∷ x ∷ xs → bytes_eq argument (45 ∷ 45 ∷ []) ≡ false → long_of argument ≡ None → short_of argument ≡ Some (x ∷ xs) → Look argument
  plain : IsNoOption argument → Look argument

-- and what `clap` sees of an argument that is no option
pub record IsPlainArgument (argument : Text) : Type 0 where
  pub not_dashes : bytes_eq argument (45 ∷ 45 ∷ []) ≡ false
  pub not_long : long_of argument ≡ None
  pub not_short : short_of argument ≡ None

pub plain_argument_is : (argument : Text) → IsNoOption argument → IsPlainArgument argument
plain_argument_is argument (inl e) = subst IsPlainArgument (sym e) (record { not_dashes = refl; not_long = refl; not_short = refl })
plain_argument_is [] (inr n) = record { not_dashes = refl; not_long = refl; not_short = refl }
plain_argument_is (x ∷ xs) (inr n) = go (x == 45) refl
  where
    go : (t : Bool) → (x == 45) ≡ t → IsPlainArgument (x ∷ xs)
    go true t = absurd (n (ap (λ (y : ℕ). Some y) ((Decides-eqb x 45).0 t)))
    go false t = record { not_dashes = rw t refl; not_long = rw t refl; not_short = rw t refl }

look_long : (x : ℕ) (xs : Text) → Look (45 ∷ 45 ∷ x ∷ xs)
look_long x xs = go (has_byte 61 (x ∷ xs)) refl
  where
    go : (t : Bool) → has_byte 61 (x ∷ xs) ≡ t → Look (45 ∷ 45 ∷ x ∷ xs)
    go true t =
        with_value (before_first is_equals (x ∷ xs)) (after_first is_equals (x ∷ xs)) (ap (λ (ys : Text). 45 ∷ 45 ∷ ys) (joined_again (x ∷ xs) t)) refl (rw t refl)
    go false t = alone (x ∷ xs) refl refl (rw (before_all (x ∷ xs) t, t) refl)

pub look : (argument : Text) → Look argument
look [] = plain (inr (λ e. absurd (cc)))
look (x ∷ xs) = go (x == 45) refl
  where
    after : (ys : Text) → Look (45 ∷ ys)
    after [] = plain (inl refl)
    after (y ∷ ys) = second (y == 45) refl
      where
        second : (t : Bool) → (y == 45) ≡ t → Look (45 ∷ y ∷ ys)
        second true t = subst (λ (z : ℕ). Look (45 ∷ z ∷ ys)) (sym ((Decides-eqb y 45).0 t)) (third ys)
          where
            third : (zs : Text) → Look (45 ∷ 45 ∷ zs)
            third [] = dashes refl
            third (z ∷ zs) = look_long z zs
        second false t = short y ys refl (rw t refl) (rw t refl) (rw t refl)

    go : (t : Bool) → (x == 45) ≡ t → Look (x ∷ xs)
    go true t = subst (λ (z : ℕ). Look (z ∷ xs)) (sym ((Decides-eqb x 45).0 t)) (after xs)
    go false t = plain (inr (λ e. absurd (not-some t e)))
      where
        not-some : (x == 45) ≡ false → Some x ≡ Some 45 → ⊥
        not-some f e = let is : x ≡ 45 = cc in false≢true (sym f ∙ (Decides-eqb x 45).1 is)
