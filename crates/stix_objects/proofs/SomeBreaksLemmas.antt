-- No judgement is without an outcome.
use Rattle.std.proofs.Common.{◌≡◌, ℕ, ◌+◌, List, [], ◌∷◌, Option, Some, None, option_map, filter_map, codes, refl}
use Rattle.std.specs.Option.{MatchOption}
use Rattle.serde_json.specs.Data.{Data, Items, no_items, item}
use Rattle.serde_json.specs.Find.{get, as_str, as_bool, as_object, as_array}
use Rattle.stix_json.specs.Walk.{index_part}
use Rattle.stix_objects.specs.declared.rule.Rule.{Rule}
use Rattle.stix_objects.specs.declared.rule.Rule.TheVariants.{NotObject}
use Rattle.stix_objects.specs.declared.form.Precision.{Precision}
use Rattle.stix_objects.specs.declared.form.Precision.TheVariants.{Any, Millis}
use Rattle.stix_objects.specs.declared.rule_break.Break.{Break}
use Rattle.stix_objects.specs.BreakAt.{BreakAt, here, break_under, break_of}
use Rattle.stix_objects.specs.Form.{Single, any_text, kind, version, one_of, timestamp, any_reference, reference, any_boolean, integer_in, texts_by_name, Part, must, may, some_of, Form, one, list, records}
use Rattle.stix_objects.specs.Form as forms
use Rattle.stix_objects.specs.Row.{Row, required, optional, required_where, own_id, order, strict_order, needs_one_of, excludes, statement, colour, colour_id}
use Rattle.stix_objects.specs.Checking.{Requires, Forbids, ChecksInTurn, OfKind}
use Rattle.stix_objects.specs.Singles.{integer_of, ChecksTimestamp, ChecksSingle, ChecksOwnId}
use Rattle.stix_objects.specs.Forms.{ChecksHere, ChecksUnder, ChecksItems, ChecksList, ChecksValue, ChecksPart, ChecksParts, OfList, ChecksForm}
use Rattle.stix_json.specs.Properties.{property_text}
use Rattle.stix_objects.specs.Rows.{ChecksOwn, Checks}
use Rattle.stix_objects.specs.Breaks.{ChecksRows, AreBreaksBy, rows_for, type_of, AreBreaksOf}

-- not every outcome fails
abbrev HasOutcome : {A : Type 0} → (Option A → Type 0) → Type 0
HasOutcome {A} Judges' = ¬ ((outcome : Option A) → ¬ Judges' outcome)

met_some : {A : Type 0} (told : Option A) → HasOutcome (λ outcome. outcome ≡ told)
met_some told = λ none. none told refl

asks_some : {A : Type 0} (P : Type 0) (told : A) → HasOutcome (Requires P told)
asks_some P told = λ none. none (Some told) ((λ p. none None p), refl)

forbids_some : {A : Type 0} (P : Type 0) (told : A) → HasOutcome (Forbids P told)
forbids_some P told = λ none. none None (λ p. none (Some told) (p, refl))

match_some : {A B : Type 0} (o : Option B) (P : Option A → Type 0) (Q : B → Option A → Type 0) → HasOutcome P → ((x : B) → HasOutcome (Q x))
    → HasOutcome (λ outcome. MatchOption o (P outcome) (λ x. Q x outcome))
match_some None P Q p q = p
match_some (Some x) P Q p q = q x

in_turn_some : {A : Type 0} (First Next : Option A → Type 0) → HasOutcome First → HasOutcome Next → HasOutcome (ChecksInTurn First Next)
in_turn_some {A} First Next p q = λ none. p (λ first is.
    match_some first Next (λ found outcome. outcome ≡ Some found) q (λ found. met_some (Some found)) (λ outcome next. none outcome (first, is, next)))

of_kind_some : {A : Type 0} (of : Option A) (J : A → Option Rule → Type 0) → ((x : A) → HasOutcome (J x)) → HasOutcome (OfKind of J)
of_kind_some of J q = match_some of _ J (met_some _) q

timestamp_some : (precision : Precision) (s : List ℕ) → HasOutcome (ChecksTimestamp precision s)
timestamp_some Any s = asks_some _ _
timestamp_some Millis s = in_turn_some _ _ (asks_some _ _) (asks_some _ _)

single_some : (single : Single) (d : Data) → HasOutcome (ChecksSingle single d)
single_some any_text d = of_kind_some (as_str d) _ (λ s. met_some None)
single_some kind d = of_kind_some (as_str d) _ (λ s. asks_some _ _)
single_some version d = of_kind_some (as_str d) _ (λ s. asks_some _ _)
single_some (one_of known) d = of_kind_some (as_str d) _ (λ s. asks_some _ _)
single_some (timestamp precision) d = of_kind_some (as_str d) _ (timestamp_some precision)
single_some any_reference d = of_kind_some (as_str d) _ (λ s. asks_some _ _)
single_some (reference kinds) d = of_kind_some (as_str d) _ (λ s. in_turn_some _ _ (asks_some _ _) (asks_some _ _))
single_some any_boolean d = of_kind_some (as_bool d) _ (λ b. met_some None)
single_some (integer_in least most) d = of_kind_some (integer_of d) _ (λ z. asks_some _ _)
single_some forms.object d = of_kind_some (as_object d) _ (λ ms. met_some None)
single_some texts_by_name d = of_kind_some (as_object d) _ (λ ms. in_turn_some _ _ (asks_some _ _) (asks_some _ _))

told_some : {A : Type 0} (J : Option A → Type 0) (tell : A → BreakAt) → HasOutcome J
    → HasOutcome (λ outcome. (inner : Option A) × J inner × (outcome ≡ option_map tell inner))
told_some J tell p = λ none. p (λ inner is. none (option_map tell inner) (inner, is, refl))

here_some : (single : Single) (d : Data) → HasOutcome (ChecksHere single d)
here_some single d = told_some (ChecksSingle single d) here (single_some single d)

under_some : (part : List ℕ) (J : Option BreakAt → Type 0) → HasOutcome J → HasOutcome (ChecksUnder part J)
under_some part J p = told_some J (break_under part) p

items_some : (J : Data → Option BreakAt → Type 0) → ((d : Data) → HasOutcome (J d)) → (at : ℕ) (ds : Items) → HasOutcome (ChecksItems J at ds)
items_some J p at no_items = met_some None
items_some J p at (item d ds) = in_turn_some _ _ (under_some (index_part at) (J d) (p d)) (items_some J p (at + 1) ds)

filled_some : (J : Data → Option BreakAt → Type 0) → ((d : Data) → HasOutcome (J d)) → (ds : Items) → HasOutcome (ChecksList J ds)
filled_some J p no_items = met_some _
filled_some J p (item d ds) = items_some J p 0 (item d ds)

value_some : (Needed : Type 0) (name : List ℕ) (J : Data → Option BreakAt → Type 0) → ((d : Data) → HasOutcome (J d)) → (o : Option Data) → HasOutcome (ChecksValue Needed name J o)
value_some Needed name J p None = forbids_some _ _
value_some Needed name J p (Some d) = under_some name (J d) (p d)

part_some : (part : Part) (d : Data) → HasOutcome (ChecksPart part d)
part_some (must name single) d = value_some _ name _ (here_some single) (get name d)
part_some (may name single) d = value_some _ name _ (here_some single) (get name d)
part_some (some_of names) d = forbids_some _ _

parts_some : (parts : List Part) (d : Data) → HasOutcome (ChecksParts parts d)
parts_some [] d = met_some None
parts_some (part ∷ parts) d = in_turn_some _ _ (part_some part d) (parts_some parts d)

of_list_some : (J : Items → Option BreakAt → Type 0) → ((ds : Items) → HasOutcome (J ds)) → (d : Data) → HasOutcome (OfList J d)
of_list_some J p d = match_some (as_array d) _ J (met_some _) p

form_some : (form : Form) (d : Data) → HasOutcome (ChecksForm form d)
form_some (one single) d = here_some single d
form_some (list single) d = of_list_some _ (filled_some _ (here_some single)) d
form_some (records parts) d =
    of_list_some _ (λ ds. in_turn_some _ _ (filled_some _ (here_some forms.object) ds) (items_some _ (parts_some parts) 0 ds)) d

own_some : (own : Option (List ℕ)) (d : Data) → HasOutcome (ChecksOwnId own d)
own_some own d = of_kind_some (as_str d) _ (λ s. asks_some _ _)

row_some : (row : Row) (d : Data) → HasOutcome (Checks row d)
row_some (required name form) d = value_some _ name _ (form_some form) (get name d)
row_some (optional name form) d = value_some _ name _ (form_some form) (get name d)
row_some (required_where name form condition) d = value_some _ name _ (form_some form) (get name d)
row_some own_id d =
    let own = property_text (codes "type") d in
    value_some (Unit {0}) (codes "id") (ChecksOwn own) (λ v. told_some (ChecksOwnId own v) here (own_some own v)) (get (codes "id") d)
row_some (order precision first second) d = forbids_some _ _
row_some (strict_order precision first second) d = forbids_some _ _
row_some (needs_one_of parts names) d = forbids_some _ _
row_some (excludes name conditions) d = forbids_some _ _
row_some statement d = forbids_some _ _
row_some colour d = forbids_some _ _
row_some colour_id d = forbids_some _ _

-- nor are some rows without their outcomes
all_some : (rows : List Row) (d : Data) → ¬ ((outcomes : List (Option BreakAt)) → ¬ ChecksRows rows d outcomes)
all_some [] d = λ none. none [] tt
all_some (row ∷ rows) d = λ none. row_some row d (λ outcome is. all_some rows d (λ outcomes are. none (outcome ∷ outcomes) (is, are)))

breaks_some : (rows : List Row) (d : Data) → ¬ ((breaks : List Break) → ¬ AreBreaksBy rows d breaks)
breaks_some rows d = λ none. all_some rows d (λ outcomes checked.
    none (filter_map (option_map break_of) outcomes) (record { outcomes = outcomes; checked = checked; told = refl }))

-- of a value that may be an object, by what it is
list_some : {A B : Type 0} (o : Option B) (none : A) (J : A → Type 0) → ¬ ((a : A) → ¬ J a) → ¬ ((a : A) → ¬ MatchOption o (a ≡ none) (λ b. J a))
list_some None none J p = λ fails. fails none refl
list_some (Some b) none J p = p

-- no value is without its list of breaks
pub some_list : (value : Data) → ¬ ((breaks : List Break) → ¬ AreBreaksOf value breaks)
some_list value =
    list_some (as_object value) (break_of (here NotObject) ∷ []) (AreBreaksBy (rows_for (type_of value)) value) (breaks_some (rows_for (type_of value)) value)
