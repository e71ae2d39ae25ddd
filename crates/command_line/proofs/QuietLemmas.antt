-- A walk without a mistake, argument by argument, and what is pending in it: an option's value or a position, which is used with the next argument.
use Rattle.std.proofs.Common.{◌≡◌, ◌↔◌, ◌<◌, ◌+◌, ℕ, zero, suc, Bool, true, false, ◌||◌, List, [], ◌∷◌, ◌++◌, drop, length, fold, Some, None, option_map, slice_get, bytes_eq, append_assoc, sym, ap, ◌∙◌, subst, arith}
use Rattle.clap.specs.Faults.{settle_fault, turn_fault, walk_fault}
use Rattle.clap.specs.Walk.{Row, Walk, arg_by_id, arg_by_index, has_row, settled, walked}
use Rattle.command_line.specs.inner.Forms.{CommandForm}
use Rattle.command_line.proofs.HasLemmas.{Text, eq_self, has, or_right}
use Rattle.command_line.proofs.FormLemmas.{built_option, built_position, built_rules, id_option, id_position, index_after, is_sound_form, option_no_flag, few_positions, position_no_flag, position_no_option}
use Rattle.command_line.proofs.RowsLemmas.{both_quiet, position_quiet, option_quiet, used_option, used_position, value_row}
use Rattle.command_line.proofs.StepLemmas.{Settles, Steps, leaf, rows_with}

-- no mistake from a state on, to the end of the arguments
abbrev pub Quiet : CommandForm → Walk → List Text → Type 0
Quiet form from arguments = (walk_fault (leaf form) [] from arguments ≡ []) × (settle_fault (built_rules form) false (fold (walked (built_rules form) []) from arguments).held ≡ [])

-- the rows at the end of the arguments
abbrev pub end_rows : CommandForm → Walk → List Text → List Row
end_rows form from arguments = (settled (built_rules form) (fold (walked (built_rules form) []) from arguments).held).rows

pub record Done (form : CommandForm) (from : Walk) (arguments : List Text) (rows : List Row) : Type 0 where
  pub quiet : Quiet form from arguments
  pub ends : end_rows form from arguments ≡ rows

module _ (form : CommandForm) (from to : Walk) (argument : Text) (arguments : List Text) (P : Type 0) (step : Steps form from argument to P) where
  pub quiet_first : Quiet form from (argument ∷ arguments) → P × Quiet form to arguments
  unfolding walk_fault
  quiet_first q =
      let two = (both_quiet _ _).0 q.0 in
      (step.quiet_when.0 two.0, subst (λ (w : Walk). Quiet form w arguments) step.walks (two.1, q.1))

  pub done_first : P → (rows : List Row) → Done form to arguments rows → Done form from (argument ∷ arguments) rows
  unfolding walk_fault
  done_first p rows done =
      let done_here = subst (λ (w : Walk). Done form w arguments rows) (sym step.walks) done in
      record {
        quiet = ((both_quiet _ _).1 (step.quiet_when.1 p, done_here.quiet.0), done_here.quiet.1);
        ends = done_here.ends;
      }

  -- with one more row, as the word's own
  pub done_with : P → (now grown more : List Row) (r : Row) → grown ≡ now ++ r ∷ [] → Done form to arguments (grown ++ more) → Done form from (argument ∷ arguments) (now ++ (r ∷ more))
  done_with p now grown more r same done =
      done_first p (now ++ (r ∷ more)) (subst (λ (rs : List Row). Done form to arguments rs) (ap (λ (rs : List Row). rs ++ more) same ∙ append_assoc now (r ∷ []) more) done)

pub turn_of : (form : CommandForm) (from : Walk) (argument : Text) (arguments : List Text) → Quiet form from (argument ∷ arguments) → turn_fault (leaf form) [] from argument ≡ []
unfolding walk_fault
turn_of form from argument arguments q = ((both_quiet _ _).0 q.0).0

-- the first position that is left
drop_first : (xs : List Text) (k : ℕ) (x : Text) (left : List Text) → drop k xs ≡ x ∷ left → (k < length xs) × (drop (suc k) xs ≡ left) × (has x xs ≡ true)
drop_first [] zero x left e = absurd (cc)
drop_first [] (suc k) x left e = absurd (cc)
drop_first (y ∷ ys) zero x left e =
    let same : y ≡ x = cc in
    let others : ys ≡ left = cc in
    let here : bytes_eq y x ≡ true = rw same (eq_self x) in
    (omega arith, others, ap (λ (b : Bool). b || has x ys) here)
drop_first (y ∷ ys) (suc k) x left e =
    let rec = drop_first ys k x left e in
    (omega (arith, rec.0), rec.1, or_right (bytes_eq y x) (has x ys) rec.2)

module _ (form : CommandForm) (sound : is_sound_form form ≡ true) where
  -- what is left of the positions after k of them
  pub record Left (k : ℕ) (name : Text) (left : List Text) : Type 0 where
    pub few : k < 1000
    pub next : arg_by_index (built_rules form) (1 + k) ≡ Some (built_position form.needs_all (1 + k) name)
    pub after : drop (suc k) form.positions ≡ left
    pub stands_there : has name form.positions ≡ true

  pub left_is : (k : ℕ) (name : Text) (left : List Text) → drop k form.positions ≡ name ∷ left → Left k name left
  left_is k name left e =
      let first = drop_first form.positions k name left e in
      record {
        few = omega (arith, first.0, few_positions form sound);
        next = index_after form k ∙ ap (λ (l : List Text). option_map (built_position form.needs_all (1 + k)) (slice_get l 0)) e;
        after = first.1;
        stands_there = first.2;
      }

  pub none_left : (k : ℕ) → drop k form.positions ≡ [] → arg_by_index (built_rules form) (1 + k) ≡ None
  none_left k e = index_after form k ∙ ap (λ (l : List Text). option_map (built_position form.needs_all (1 + k)) (slice_get l 0)) e

  pub position_settles : (rows : List Row) (name argument : Text) → has name form.positions ≡ true → Settles form rows (Some (name, argument ∷ [])) ↔ (has_row name rows ≡ false)
  position_settles rows name argument h =
      let found = id_position form name (position_no_flag form sound name h) (position_no_option form sound name h) h in
      rw found.1 (position_quiet form.needs_all found.0 name argument rows)

  pub position_rows : (rows : List Row) (name argument : Text) → has name form.positions ≡ true → has_row name rows ≡ false
      → rows_with form rows (Some (name, argument ∷ [])) ≡ rows ++ value_row name argument ∷ []
  position_rows rows name argument h fresh =
      let found = id_position form name (position_no_flag form sound name h) (position_no_option form sound name h) h in
      rw found.1 (used_position form.needs_all found.0 name argument rows fresh)

  pub option_found : (name : Text) → has name form.options.valued ≡ true → arg_by_id (built_rules form) name ≡ Some (built_option name)
  option_found name h = id_option form name (option_no_flag form sound name h) h

  pub option_settles : (rows : List Row) (name argument : Text) → has name form.options.valued ≡ true → Settles form rows (Some (name, argument ∷ [])) ↔ (has_row name rows ≡ false)
  option_settles rows name argument h = rw (option_found name h) (option_quiet name argument rows)

  pub option_rows : (rows : List Row) (name argument : Text) → has name form.options.valued ≡ true → has_row name rows ≡ false
      → rows_with form rows (Some (name, argument ∷ [])) ≡ rows ++ value_row name argument ∷ []
  option_rows rows name argument h fresh = rw (option_found name h) (used_option name argument rows fresh)
