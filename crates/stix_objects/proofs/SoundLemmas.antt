-- What follows for an object from the rows that it meets.
use Rattle.std.proofs.Common.{◌≡◌, ℕ, ℤ, ◌<ℤ◌, List, [], ◌∷◌, ◌++◌, Option, Some, None, IsSome, option_map, option_and_then, filter_map, codes, refl, ap, ◌∙◌, subst}
use Rattle.std.specs.Option.{MatchOption}
use Rattle.std.proofs.lemmas.Int.{by_lt_z}
use Rattle.serde_json.specs.Data.{Data}
use Rattle.serde_json.specs.Find.{get, as_str, as_object}
use Rattle.stix_ids.specs.Kind.{IsKind}
use Rattle.stix_objects.specs.declared.groups.Group.{Group}
use Rattle.stix_objects.specs.declared.groups.Group.TheVariants.{Domain, Marking, Observable, Other}
use Rattle.stix_objects.specs.declared.rule.Rule.{Rule}
use Rattle.stix_objects.specs.declared.rule.Rule.TheVariants.{BadWord, BadTime, BadId, NotObject}
use Rattle.stix_objects.specs.declared.form.Precision.TheVariants.{Any}
use Rattle.stix_objects.specs.BreakAt.{BreakAt, here, break_under, break_of}
use Rattle.stix_objects.specs.Form.{kind, timestamp, one, time}
use Rattle.stix_objects.specs.Row.{Row, required, own_id, order}
use Rattle.stix_objects.specs.CommonRows.{common_rows}
use Rattle.stix_objects.specs.DomainTypes.{observed_data}
use Rattle.stix_objects.specs.Types.{type_named, group_in, own_rows}
use Rattle.stix_objects.specs.Checking.{Requires, OfKind}
use Rattle.stix_objects.specs.Singles.{IsTimestamp, NamesOwn, ChecksSingle, ChecksOwnId}
use Rattle.stix_objects.specs.Forms.{ChecksValue, ChecksForm}
use Rattle.stix_objects.specs.Properties.{IsTimestampAt}
use Rattle.stix_json.specs.Properties.{property_text}
use Rattle.stix_objects.specs.Rows.{Checks, ChecksOwn}
use Rattle.stix_objects.specs.Breaks.{applicable, rows_for, type_of, ChecksRows, AreBreaksBy, AreBreaksOf}
use Rattle.stix_objects.specs.Sound.{MeetsAll, IsNamed, IsTimed}

meets_all : (rows : List Row) (d : Data) (outcomes : List (Option BreakAt)) → ChecksRows rows d outcomes → [] ≡ filter_map (option_map break_of) outcomes → MeetsAll rows d
meets_all [] d outcomes checked told = tt
meets_all (row ∷ rows) d [] checked told = absurd checked
meets_all (row ∷ rows) d (None ∷ outcomes) checked told = (checked.0, meets_all rows d outcomes checked.1 told)
meets_all (row ∷ rows) d (Some found ∷ outcomes) checked told = absurd (cc)

-- a value without breaks is an object that meets its rows
pub record IsMet (d : Data) : Type 0 where
  pub object : IsSome (as_object d)
  pub rows : MeetsAll (rows_for (type_of d)) d

met_object : {B : Type 0} (o : Option B) (d : Data) → MatchOption o ([] ≡ break_of (here NotObject) ∷ []) (λ b. AreBreaksBy (rows_for (type_of d)) d [])
    → IsSome o × MeetsAll (rows_for (type_of d)) d
met_object None d breaks = absurd (cc)
met_object (Some b) d breaks = (refl, meets_all (rows_for (type_of d)) d breaks.outcomes breaks.checked breaks.told)

pub is_met : (d : Data) → AreBreaksOf d [] → IsMet d
is_met d breaks = let met = met_object (as_object d) d breaks in record { object = met.0; rows = met.1 }

own_met : (first rest : List Row) (d : Data) → MeetsAll (first ++ rest) d → MeetsAll rest d
own_met [] rest d met = met
own_met (row ∷ rows) rest d met = own_met rows rest d met.1

-- each group has the rows of the type and of the identifier
common_met : (group : Group) (own : List Row) (d : Data) → MeetsAll (filter_map (applicable group own) common_rows ++ own) d
    → Checks (required (codes "type") (one kind)) d None × Checks own_id d None
common_met Domain own d met = (met.0, met.1.1.0)
common_met Marking own d met = (met.0, met.1.1.0)
common_met Observable own d met = (met.0, met.1.1.0)
common_met Other own d met = (met.0, met.1.1.0)

met_inside : {A : Type 0} (o : Option A) (tell : A → BreakAt) → None ≡ option_map tell o → o ≡ None
met_inside None tell is = refl
met_inside (Some a) tell is = absurd (cc)

-- a required property that is met is there and meets its form
met_value : (name : List ℕ) (J : Data → Option BreakAt → Type 0) (o : Option Data) → ChecksValue (Unit {0}) name J o None → (v : Data) × (o ≡ Some v) × J v None
met_value name J None checked = absurd (checked tt)
met_value name J (Some v) checked =
    (v, refl, subst (λ (o : Option BreakAt). J v o) (met_inside checked.0 (break_under name) checked.2) checked.1)

met_here : (J : Option Rule → Type 0) → ((rule : Option Rule) × J rule × (None ≡ option_map here rule)) → J None
met_here J checked = subst (λ (o : Option Rule). J o) (met_inside checked.0 here checked.2) checked.1

met_kind : {A : Type 0} (of : Option A) (J : A → Option Rule → Type 0) → OfKind of J None → (a : A) × (of ≡ Some a) × J a None
met_kind None J checked = absurd (cc)
met_kind (Some a) J checked = (a, refl, checked)

text_there : (name : List ℕ) (d v : Data) (s : List ℕ) → get name d ≡ Some v → as_str v ≡ Some s → property_text name d ≡ Some s
text_there name d v s there is = ap (option_and_then as_str) there ∙ is

met_time : (name : List ℕ) (d : Data) → Checks (required name time) d None → (i : ℤ) × IsTimestampAt Any name d i
met_time name d checked =
    let v = met_value name (ChecksForm time) (get name d) checked in
    let s = met_kind (as_str v.0) (λ s. Requires (IsTimestamp Any s) BadTime) (met_here (ChecksSingle (timestamp Any) v.0) v.2) in
    (s.2.0, record { text = s.0; there = text_there name d v.0 s.0 v.1 s.1; names = s.2.1 })

named_met : (d : Data) → IsSome (as_object d) → Checks (required (codes "type") (one kind)) d None → Checks own_id d None → IsNamed d
named_met d object typed owned =
    let t = met_value (codes "type") (ChecksForm (one kind)) (get (codes "type") d) typed in
    let s = met_kind (as_str t.0) (λ s. Requires (IsKind s) BadWord) (met_here (ChecksSingle kind t.0) t.2) in
    let type_is : property_text (codes "type") d ≡ Some s.0 = text_there (codes "type") d t.0 s.0 t.1 s.1 in
    let own = property_text (codes "type") d in
    let i = met_value (codes "id") (ChecksOwn own) (get (codes "id") d) owned in
    let n = met_kind (as_str i.0) (λ s. Requires (NamesOwn own s) BadId) (met_here (ChecksOwnId own i.0) i.2) in
    let id = subst (λ (o : Option (List ℕ)). NamesOwn o n.0) type_is n.2 in
    record {
      object = object;
      type = s.0;
      typed = type_is;
      kind = s.2;
      text = n.0;
      named = text_there (codes "id") d i.0 n.0 i.1 n.1;
      number = id.0;
      id = id.1;
    }

pub is_named : (d : Data) → IsMet d → IsNamed d
is_named d met =
    let type = type_of d in
    let common = common_met (group_in type) (own_rows type) d met.rows in
    named_met d met.object common.0 common.1

timed : (first second : List ℕ) (d : Data) → Checks (required first time) d None → Checks (required second time) d None → Checks (order Any first second) d None → IsTimed first second d
timed first second d begins ends ordered =
    let from = met_time first d begins in
    let to = met_time second d ends in
    let not_earlier : ¬ (to.0 <ℤ from.0) = (λ earlier. ordered (record { from = from.0; to = to.0; begins = from.1; ends = to.1; earlier = earlier })) in
    record {
      from = from.0;
      to = to.0;
      begins = from.1;
      ends = to.1;
      ordered = by_lt_z to.0 from.0 (λ earlier. absurd (not_earlier earlier)) (λ later. later);
    }

-- an observed-data has its own rows
observed_rows : (d : Data) → property_text (codes "type") d ≡ Some (codes "observed-data") → own_rows (type_of d) ≡ observed_data
observed_rows d is = ap (λ name. own_rows (option_and_then type_named name)) is

pub is_timed : (d : Data) → IsMet d → property_text (codes "type") d ≡ Some (codes "observed-data") → IsTimed (codes "first_observed") (codes "last_observed") d
is_timed d met is =
    let type = type_of d in
    let own = own_met (filter_map (applicable (group_in type) (own_rows type)) common_rows) (own_rows type) d met.rows in
    let rows = subst (λ (rows : List Row). MeetsAll rows d) (observed_rows d is) own in
    timed (codes "first_observed") (codes "last_observed") d rows.0 rows.1.0 rows.1.1.0
