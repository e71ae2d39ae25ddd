-- Each judgement has one outcome.
use Rattle.std.proofs.Common.{◌≡◌, ℕ, ◌+◌, List, [], ◌∷◌, Option, Some, None, option_map, filter_map, codes, refl, sym, ap, ◌∙◌, subst}
use Rattle.std.specs.Option.{MatchOption}
use Rattle.serde_json.specs.Data.{Data, Items, no_items, item}
use Rattle.serde_json.specs.Find.{get, as_str, as_bool, as_object, as_array}
use Rattle.stix_json.specs.Walk.{index_part}
use Rattle.stix_objects.specs.declared.rule.Rule.{Rule}
use Rattle.stix_objects.specs.declared.form.Precision.{Precision}
use Rattle.stix_objects.specs.declared.form.Precision.TheVariants.{Any, Millis}
use Rattle.stix_objects.specs.declared.rule_break.Break.{Break}
use Rattle.stix_objects.specs.BreakAt.{BreakAt, here, break_under, break_of}
use Rattle.stix_objects.specs.Form.{Single, any_text, kind, version, one_of, timestamp, any_reference, reference, any_boolean, integer_in, texts_by_name, Part, must, may, some_of, Form, one, list, records}
use Rattle.stix_objects.specs.Form as forms
use Rattle.stix_objects.specs.Row.{Row, required, optional, required_where, own_id, order, strict_order, needs_one_of, excludes, statement, colour, colour_id}
use Rattle.stix_objects.specs.Checking.{Requires, Forbids, ChecksInTurn, OfKind}
use Rattle.stix_objects.specs.Singles.{integer_of, ChecksTimestamp, ChecksSingle, ChecksOwnId}
use Rattle.stix_objects.specs.Forms.{ChecksHere, ChecksUnder, ChecksItems, ChecksList, ChecksValue, ChecksPart, ChecksParts, OfList, ChecksForm}
use Rattle.stix_json.specs.Properties.{property_text}
use Rattle.stix_objects.specs.Rows.{ChecksOwn, Checks}
use Rattle.stix_objects.specs.Breaks.{ChecksRows, AreBreaksBy}

-- any two outcomes of a judgement are equal
abbrev pub IsOne : {A : Type 0} → (Option A → Type 0) → Type 0
IsOne {A} Judges' = (a b : Option A) → Judges' a → Judges' b → a ≡ b

met_one : {A : Type 0} (told : Option A) → IsOne (λ outcome. outcome ≡ told)
met_one told a b first second = first ∙ sym second

asks_one : {A : Type 0} (P : Type 0) (told : A) → IsOne (Requires P told)
asks_one P told None None first second = refl
asks_one P told None (Some b) first second = absurd (second.0 first)
asks_one P told (Some a) None first second = absurd (first.0 second)
asks_one P told (Some a) (Some b) first second = ap Some (first.1 ∙ sym second.1)

forbids_one : {A : Type 0} (P : Type 0) (told : A) → IsOne (Forbids P told)
forbids_one P told None None first second = refl
forbids_one P told None (Some b) first second = absurd (first second.0)
forbids_one P told (Some a) None first second = absurd (second first.0)
forbids_one P told (Some a) (Some b) first second = ap Some (first.1 ∙ sym second.1)

match_one : {A B : Type 0} (o : Option B) (P : Option A → Type 0) (Q : B → Option A → Type 0) → IsOne P → ((x : B) → IsOne (Q x))
    → IsOne (λ outcome. MatchOption o (P outcome) (λ x. Q x outcome))
match_one None P Q p q a b first second = p a b first second
match_one (Some x) P Q p q a b first second = q x a b first second

in_turn_one : {A : Type 0} (First Next : Option A → Type 0) → IsOne First → IsOne Next → IsOne (ChecksInTurn First Next)
in_turn_one {A} First Next p q a b first second =
    match_one first.0 Next (λ found outcome. outcome ≡ Some found) q (λ found. met_one (Some found)) a b first.2
    (subst (λ (o : Option A). MatchOption o (Next b) (λ found. b ≡ Some found)) (p second.0 first.0 second.1 first.1) second.2)

of_kind_one : {A : Type 0} (of : Option A) (J : A → Option Rule → Type 0) → ((x : A) → IsOne (J x)) → IsOne (OfKind of J)
of_kind_one of J q = match_one of _ J (met_one _) q

timestamp_one : (precision : Precision) (s : List ℕ) → IsOne (ChecksTimestamp precision s)
timestamp_one Any s = asks_one _ _
timestamp_one Millis s = in_turn_one _ _ (asks_one _ _) (asks_one _ _)

single_one : (single : Single) (d : Data) → IsOne (ChecksSingle single d)
single_one any_text d = of_kind_one (as_str d) _ (λ s. met_one None)
single_one kind d = of_kind_one (as_str d) _ (λ s. asks_one _ _)
single_one version d = of_kind_one (as_str d) _ (λ s. asks_one _ _)
single_one (one_of known) d = of_kind_one (as_str d) _ (λ s. asks_one _ _)
single_one (timestamp precision) d = of_kind_one (as_str d) _ (timestamp_one precision)
single_one any_reference d = of_kind_one (as_str d) _ (λ s. asks_one _ _)
single_one (reference kinds) d = of_kind_one (as_str d) _ (λ s. in_turn_one _ _ (asks_one _ _) (asks_one _ _))
single_one any_boolean d = of_kind_one (as_bool d) _ (λ b. met_one None)
single_one (integer_in least most) d = of_kind_one (integer_of d) _ (λ z. asks_one _ _)
single_one forms.object d = of_kind_one (as_object d) _ (λ ms. met_one None)
single_one texts_by_name d = of_kind_one (as_object d) _ (λ ms. in_turn_one _ _ (asks_one _ _) (asks_one _ _))

told_one : {A : Type 0} (J : Option A → Type 0) (tell : A → BreakAt) → IsOne J
    → IsOne (λ outcome. (inner : Option A) × J inner × (outcome ≡ option_map tell inner))
told_one J tell p a b first second = first.2 ∙ ap (option_map tell) (p first.0 second.0 first.1 second.1) ∙ sym second.2

here_one : (single : Single) (d : Data) → IsOne (ChecksHere single d)
here_one single d = told_one (ChecksSingle single d) here (single_one single d)

under_one : (part : List ℕ) (J : Option BreakAt → Type 0) → IsOne J → IsOne (ChecksUnder part J)
under_one part J p = told_one J (break_under part) p

items_one : (J : Data → Option BreakAt → Type 0) → ((d : Data) → IsOne (J d)) → (at : ℕ) (ds : Items) → IsOne (ChecksItems J at ds)
items_one J p at no_items = met_one None
items_one J p at (item d ds) = in_turn_one _ _ (under_one (index_part at) (J d) (p d)) (items_one J p (at + 1) ds)

filled_one : (J : Data → Option BreakAt → Type 0) → ((d : Data) → IsOne (J d)) → (ds : Items) → IsOne (ChecksList J ds)
filled_one J p no_items = met_one _
filled_one J p (item d ds) = items_one J p 0 (item d ds)

value_one : (Needed : Type 0) (name : List ℕ) (J : Data → Option BreakAt → Type 0) → ((d : Data) → IsOne (J d)) → (o : Option Data) → IsOne (ChecksValue Needed name J o)
value_one Needed name J p None = forbids_one _ _
value_one Needed name J p (Some d) = under_one name (J d) (p d)

part_one : (part : Part) (d : Data) → IsOne (ChecksPart part d)
part_one (must name single) d = value_one _ name _ (here_one single) (get name d)
part_one (may name single) d = value_one _ name _ (here_one single) (get name d)
part_one (some_of names) d = forbids_one _ _

parts_one : (parts : List Part) (d : Data) → IsOne (ChecksParts parts d)
parts_one [] d = met_one None
parts_one (part ∷ parts) d = in_turn_one _ _ (part_one part d) (parts_one parts d)

of_list_one : (J : Items → Option BreakAt → Type 0) → ((ds : Items) → IsOne (J ds)) → (d : Data) → IsOne (OfList J d)
of_list_one J p d = match_one (as_array d) _ J (met_one _) p

pub form_one : (form : Form) (d : Data) → IsOne (ChecksForm form d)
form_one (one single) d = here_one single d
form_one (list single) d = of_list_one _ (filled_one _ (here_one single)) d
form_one (records parts) d =
    of_list_one _ (λ ds. in_turn_one _ _ (filled_one _ (here_one forms.object) ds) (items_one _ (parts_one parts) 0 ds)) d

own_one : (own : Option (List ℕ)) (d : Data) → IsOne (ChecksOwnId own d)
own_one own d = of_kind_one (as_str d) _ (λ s. asks_one _ _)

row_one : (row : Row) (d : Data) → IsOne (Checks row d)
row_one (required name form) d = value_one _ name _ (form_one form) (get name d)
row_one (optional name form) d = value_one _ name _ (form_one form) (get name d)
row_one (required_where name form condition) d = value_one _ name _ (form_one form) (get name d)
row_one own_id d =
    let own = property_text (codes "type") d in
    value_one (Unit {0}) (codes "id") (ChecksOwn own) (λ v. told_one (ChecksOwnId own v) here (own_one own v)) (get (codes "id") d)
row_one (order precision first second) d = forbids_one _ _
row_one (strict_order precision first second) d = forbids_one _ _
row_one (needs_one_of parts names) d = forbids_one _ _
row_one (excludes name conditions) d = forbids_one _ _
row_one statement d = forbids_one _ _
row_one colour d = forbids_one _ _
row_one colour_id d = forbids_one _ _

all_one : (rows : List Row) (d : Data) (xs ys : List (Option BreakAt)) → ChecksRows rows d xs → ChecksRows rows d ys → xs ≡ ys
all_one [] d [] [] first second = refl
all_one [] d [] (y ∷ ys) first second = absurd second
all_one [] d (x ∷ xs) ys first second = absurd first
all_one (row ∷ rows) d [] ys first second = absurd first
all_one (row ∷ rows) d (x ∷ xs) [] first second = absurd second
all_one (row ∷ rows) d (x ∷ xs) (y ∷ ys) first second =
    let same : x ≡ y = row_one row d x y first.0 second.0 in
    let rest : xs ≡ ys = all_one rows d xs ys first.1 second.1 in
    cc

pub breaks_one : (rows : List Row) (d : Data) (first second : List Break) → AreBreaksBy rows d first → AreBreaksBy rows d second → first ≡ second
breaks_one rows d first second by other =
    by.told ∙ ap (filter_map (option_map break_of)) (all_one rows d by.outcomes other.outcomes by.checked other.checked) ∙ sym other.told

-- of a value that may be an object, by what it is
pub list_one : {A B : Type 0} (o : Option B) (none : A) (J : A → Type 0) → ((first second : A) → J first → J second → first ≡ second)
    → (first second : A) → MatchOption o (first ≡ none) (λ b. J first) → MatchOption o (second ≡ none) (λ b. J second) → first ≡ second
list_one None none J p first second h k = h ∙ sym k
list_one (Some b) none J p first second h k = p first second h k
