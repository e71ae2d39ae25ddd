-- The rules of a command once `clap` has filled them in, and what it finds among them.
use Rattle.std.proofs.lemmas.Bool.{false≢true}
use Rattle.std.proofs.Common.{ltb-true, is_some, ◌≡◌, ◌<◌, ◌+◌, ◌==◌, ℕ, zero, suc, Bool, true, false, not, ◌&&◌, ◌||◌, cond, List, [], ◌∷◌, ◌++◌, map, drop, length, nat_lt, Some, None, option_map, slice_get, bytes_eq, refl, sym, ap, ◌∙◌, subst, arith}
use Rattle.std.specs.List.{list_all}
use Rattle.std.specs.Option.{option_map_or}
use Rattle.std.proofs.lemmas.Bool.Decides.{Decides-eqb, nat_tests}
use Rattle.clap.specs.Lexer.{has_byte}
use Rattle.clap.specs.Walk.{Rule, arg_by_id, arg_by_index, arg_by_long, arg_by_short, has_long, has_short, is_empty}
use Rattle.clap.specs.Simple.{filled, with_index}
use Rattle.command_line.specs.inner.Forms.{CommandForm, flag_rule, option_rule, position_rule}
use Rattle.command_line.proofs.HasLemmas.{Text, has, are_distinct, same_text, or_false, and_left, and_right, not_true, all_has, found_in, passed_in, passed_all}

abbrev pub built_flag : Text → Rule
built_flag name = filled (flag_rule name)

abbrev pub built_option : Text → Rule
built_option name = filled (option_rule name)

abbrev pub built_position : Bool → ℕ → Text → Rule
built_position needed n name = with_index n (filled (position_rule needed name))

-- positions, numbered from n
abbrev pub built_positions : Bool → ℕ → List Text → List Rule
built_positions needed n [] = []
built_positions needed n (name ∷ names) = built_position needed n name ∷ built_positions needed (suc n) names

abbrev pub built_rules : CommandForm → List Rule
built_rules form = map built_flag form.options.flags ++ (map built_option form.options.valued ++ built_positions form.needs_all 1 form.positions)

-- a name that `--NAME=VALUE` gives back
abbrev pub is_name : Text → Bool
is_name name = not (is_empty name) && not (has_byte 61 name)

-- the names of the options are names, and no name is used twice
abbrev pub is_sound_form : CommandForm → Bool
is_sound_form form =
    list_all (λ name. is_name name && (not (has name form.options.valued) && not (has name form.positions))) form.options.flags
    && (list_all (λ name. is_name name && not (has name form.positions)) form.options.valued
    && (are_distinct form.positions && nat_lt (length form.positions) 1000))

-- what is looked for among the positions
id_in_positions : (needed : Bool) (name : Text) (n : ℕ) (names : List Text) → has name names ≡ true → (m : ℕ) × (arg_by_id (built_positions needed n names) name ≡ Some (built_position needed m name))
id_in_positions needed name n [] h = absurd (false≢true h)
id_in_positions needed name n (x ∷ xs) h = go (bytes_eq x name) refl h (id_in_positions needed name (suc n) xs)
  where
    go : (t : Bool) → bytes_eq x name ≡ t → (t || has name xs) ≡ true
        → (has name xs ≡ true → (m : ℕ) × (arg_by_id (built_positions needed (suc n) xs) name ≡ Some (built_position needed m name)))
        → (m : ℕ) × (cond (bytes_eq x name) (Some (built_position needed n x)) (arg_by_id (built_positions needed (suc n) xs) name) ≡ Some (built_position needed m name))
    go true t h rec = (n, rw t (ap (λ (y : Text). Some (built_position needed n y)) (same_text x name t)))
    go false t h rec = let found = rec h in (found.0, rw t found.1)

long_in_positions : (needed : Bool) (name : Text) (n : ℕ) (names : List Text) → arg_by_long (built_positions needed n names) name ≡ None
long_in_positions needed name n [] = refl
long_in_positions needed name n (x ∷ xs) = long_in_positions needed name (suc n) xs

short_in_positions : (needed : Bool) (c : ℕ) (n : ℕ) (names : List Text) → arg_by_short (built_positions needed n names) c ≡ None
short_in_positions needed c n [] = refl
short_in_positions needed c n (x ∷ xs) = short_in_positions needed c (suc n) xs

index_in_positions : (needed : Bool) (n k : ℕ) (names : List Text) → arg_by_index (built_positions needed n names) (n + k) ≡ option_map (built_position needed (n + k)) (slice_get (drop k names) 0)
index_in_positions needed n zero [] = refl
index_in_positions needed n (suc k) [] = refl
index_in_positions needed n zero (x ∷ xs) =
    let here : (n == n + 0) ≡ true = (Decides-eqb n (n + 0)).1 (omega arith) in
    let same : n ≡ n + 0 = omega arith in
    rw here (ap (λ (m : ℕ). Some (built_position needed m x)) same)
index_in_positions needed n (suc k) (x ∷ xs) =
    let other : (n == n + suc k) ≡ false = grind (arith, nat_tests) in
    let next : n + suc k ≡ suc n + k = omega arith in
    let At : ℕ → Type 0 = λ m. arg_by_index (built_positions needed (suc n) xs) m ≡ option_map (built_position needed m) (slice_get (drop k xs) 0) in
    rw other (subst At (sym next) (index_in_positions needed (suc n) k xs))

abbrev long_test : Text → Rule → Bool
long_test name a = not (is_some a.index) && has_long a name

abbrev id_test : Text → Rule → Bool
id_test name a = bytes_eq a.id name

module _ (form : CommandForm) where
  pub long_flag : (name : Text) → has name form.options.flags ≡ true → arg_by_long (built_rules form) name ≡ Some (built_flag name)
  long_flag name h = found_in (long_test name) built_flag name (λ x. or_false (bytes_eq x name)) form.options.flags (map built_option form.options.valued ++ built_positions form.needs_all 1 form.positions) h

  pub long_option : (name : Text) → has name form.options.flags ≡ false → has name form.options.valued ≡ true → arg_by_long (built_rules form) name ≡ Some (built_option name)
  long_option name not_flag h =
      passed_in (long_test name) built_flag name (λ x. or_false (bytes_eq x name)) form.options.flags (map built_option form.options.valued ++ built_positions form.needs_all 1 form.positions) not_flag
      ∙ found_in (long_test name) built_option name (λ x. or_false (bytes_eq x name)) form.options.valued (built_positions form.needs_all 1 form.positions) h

  pub long_none : (name : Text) → has name form.options.flags ≡ false → has name form.options.valued ≡ false → arg_by_long (built_rules form) name ≡ None
  long_none name not_flag nor =
      passed_in (long_test name) built_flag name (λ x. or_false (bytes_eq x name)) form.options.flags (map built_option form.options.valued ++ built_positions form.needs_all 1 form.positions) not_flag
      ∙ passed_in (long_test name) built_option name (λ x. or_false (bytes_eq x name)) form.options.valued (built_positions form.needs_all 1 form.positions) nor
      ∙ long_in_positions form.needs_all name 1 form.positions

  pub id_option : (name : Text) → has name form.options.flags ≡ false → has name form.options.valued ≡ true → arg_by_id (built_rules form) name ≡ Some (built_option name)
  id_option name not_flag h =
      passed_in (id_test name) built_flag name (λ x. refl) form.options.flags (map built_option form.options.valued ++ built_positions form.needs_all 1 form.positions) not_flag
      ∙ found_in (id_test name) built_option name (λ x. refl) form.options.valued (built_positions form.needs_all 1 form.positions) h

  pub id_position : (name : Text) → has name form.options.flags ≡ false → has name form.options.valued ≡ false → has name form.positions ≡ true
      → (m : ℕ) × (arg_by_id (built_rules form) name ≡ Some (built_position form.needs_all m name))
  id_position name not_flag nor h =
      let found = id_in_positions form.needs_all name 1 form.positions h in (
        found.0,
        passed_in (id_test name) built_flag name (λ x. refl) form.options.flags (map built_option form.options.valued ++ built_positions form.needs_all 1 form.positions) not_flag
            ∙ passed_in (id_test name) built_option name (λ x. refl) form.options.valued (built_positions form.needs_all 1 form.positions) nor
            ∙ found.1,
      )

  pub no_short : (c : ℕ) → arg_by_short (built_rules form) c ≡ None
  no_short c =
      passed_all (λ a. not (is_some a.index) && has_short a c) built_flag (λ x. refl) form.options.flags (map built_option form.options.valued ++ built_positions form.needs_all 1 form.positions)
      ∙ passed_all (λ a. not (is_some a.index) && has_short a c) built_option (λ x. refl) form.options.valued (built_positions form.needs_all 1 form.positions)
      ∙ short_in_positions form.needs_all c 1 form.positions

  -- after k positions the next is the first of those that are left
  pub index_after : (k : ℕ) → arg_by_index (built_rules form) (1 + k) ≡ option_map (built_position form.needs_all (1 + k)) (slice_get (drop k form.positions) 0)
  index_after k =
      passed_all (λ a. option_map_or (λ i. i == (1 + k)) a.index false) built_flag (λ x. refl) form.options.flags (map built_option form.options.valued ++ built_positions form.needs_all 1 form.positions)
      ∙ passed_all (λ a. option_map_or (λ i. i == (1 + k)) a.index false) built_option (λ x. refl) form.options.valued (built_positions form.needs_all 1 form.positions)
      ∙ index_in_positions form.needs_all 1 k form.positions

module _ (form : CommandForm) (sound : is_sound_form form ≡ true) where
  private_flags : list_all (λ name. is_name name && (not (has name form.options.valued) && not (has name form.positions))) form.options.flags ≡ true
  private_flags = and_left _ _ sound

  of_flag : (name : Text) → has name form.options.flags ≡ true → (is_name name && (not (has name form.options.valued) && not (has name form.positions))) ≡ true
  of_flag name h = all_has (λ other. is_name other && (not (has other form.options.valued) && not (has other form.positions))) form.options.flags name private_flags h

  of_rest : (list_all (λ name. is_name name && not (has name form.positions)) form.options.valued && (are_distinct form.positions && nat_lt (length form.positions) 1000)) ≡ true
  of_rest = and_right _ _ sound

  of_option : (name : Text) → has name form.options.valued ≡ true → (is_name name && not (has name form.positions)) ≡ true
  of_option name h = all_has (λ other. is_name other && not (has other form.positions)) form.options.valued name (and_left _ _ of_rest) h

  pub flag_name : (name : Text) → has name form.options.flags ≡ true → is_name name ≡ true
  flag_name name h = and_left _ _ (of_flag name h)

  pub option_name : (name : Text) → has name form.options.valued ≡ true → is_name name ≡ true
  option_name name h = and_left _ _ (of_option name h)

  pub flag_no_option : (name : Text) → has name form.options.flags ≡ true → has name form.options.valued ≡ false
  flag_no_option name h = not_true _ (and_left _ _ (and_right _ _ (of_flag name h)))

  pub flag_no_position : (name : Text) → has name form.options.flags ≡ true → has name form.positions ≡ false
  flag_no_position name h = not_true _ (and_right _ _ (and_right _ _ (of_flag name h)))

  pub option_no_position : (name : Text) → has name form.options.valued ≡ true → has name form.positions ≡ false
  option_no_position name h = not_true _ (and_right _ _ (of_option name h))

  pub option_no_flag : (name : Text) → has name form.options.valued ≡ true → has name form.options.flags ≡ false
  option_no_flag name h = go (has name form.options.flags) refl
    where
      go : (b : Bool) → has name form.options.flags ≡ b → has name form.options.flags ≡ false
      go true e = absurd (false≢true (sym (flag_no_option name e) ∙ h))
      go false e = e

  pub position_no_flag : (name : Text) → has name form.positions ≡ true → has name form.options.flags ≡ false
  position_no_flag name h = go (has name form.options.flags) refl
    where
      go : (b : Bool) → has name form.options.flags ≡ b → has name form.options.flags ≡ false
      go true e = absurd (false≢true (sym (flag_no_position name e) ∙ h))
      go false e = e

  pub position_no_option : (name : Text) → has name form.positions ≡ true → has name form.options.valued ≡ false
  position_no_option name h = go (has name form.options.valued) refl
    where
      go : (b : Bool) → has name form.options.valued ≡ b → has name form.options.valued ≡ false
      go true e = absurd (false≢true (sym (option_no_position name e) ∙ h))
      go false e = e

  pub positions_distinct : are_distinct form.positions ≡ true
  positions_distinct = and_left _ _ (and_right _ _ of_rest)

  pub few_positions : length form.positions < 1000
  few_positions = ltb-true (length form.positions) 1000 (and_right _ _ (and_right _ _ of_rest))
