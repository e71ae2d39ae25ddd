-- What an indicator tells that meets the rows of its type.
use Rattle.std.proofs.Common.{◌≡◌, ℕ, ℤ, List, [], ◌∷◌, ◌++◌, Option, Some, None, option_map, option_and_then, filter_map, codes, refl, ap, ◌∙◌, subst}
use Rattle.std.specs.Option.{MatchOption}
use Rattle.serde_json.specs.Data.{Data}
use Rattle.serde_json.specs.Find.{get, as_str}
use Rattle.stix_ids.specs.declared.id.Id.{Id}
use Rattle.stix_ids.specs.Identifier.{IsTextOfId}
use Rattle.stix_json.specs.Properties.{property_text}
use Rattle.stix_objects.specs.declared.groups.Group.TheVariants.{Domain}
use Rattle.stix_objects.specs.declared.rule.Rule.{Rule}
use Rattle.stix_objects.specs.declared.form.Precision.TheVariants.{Any, Millis}
use Rattle.stix_objects.specs.BreakAt.{BreakAt, here, break_under}
use Rattle.stix_objects.specs.Form.{timestamp, time, millis, text, any_text}
use Rattle.stix_objects.specs.Row.{Row, required}
use Rattle.stix_objects.specs.CommonRows.{common_rows}
use Rattle.stix_objects.specs.DomainTypes.{indicator}
use Rattle.stix_objects.specs.Types.{type_named}
use Rattle.stix_objects.specs.Checking.{OfKind}
use Rattle.stix_objects.specs.Singles.{IsTimestamp, ChecksTimestamp, ChecksSingle}
use Rattle.stix_objects.specs.Forms.{ChecksValue, ChecksForm}
use Rattle.stix_objects.specs.Properties.{IsTimestampAt, HasId}
use Rattle.stix_objects.specs.Rows.{Checks}
use Rattle.stix_objects.specs.Breaks.{applicable, rows_for, type_of}
use Rattle.stix_objects.specs.Sound.{MeetsAll, IsNamed}
use Rattle.hunt_feed.specs.Gathering.{indicator_id}
use Rattle.hunt_feed.specs.inner.Adding.{IsIndicator, HasFields}

own_met : (first rest : List Row) (d : Data) → MeetsAll (first ++ rest) d → MeetsAll rest d
own_met [] rest d met = met
own_met (row ∷ rows) rest d met = own_met rows rest d met.1

met_inside : {A : Type 0} (o : Option A) (tell : A → BreakAt) → None ≡ option_map tell o → o ≡ None
met_inside None tell is = refl
met_inside (Some a) tell is = absurd (cc)

-- a required property that is met is there and meets its form
met_value : (name : List ℕ) (J : Data → Option BreakAt → Type 0) (o : Option Data) → ChecksValue (Unit {0}) name J o None → (v : Data) × (o ≡ Some v) × J v None
met_value name J None checked = absurd (checked tt)
met_value name J (Some v) checked =
    (v, refl, subst (λ (o : Option BreakAt). J v o) (met_inside checked.0 (break_under name) checked.2) checked.1)

met_here : (J : Option Rule → Type 0) → ((rule : Option Rule) × J rule × (None ≡ option_map here rule)) → J None
met_here J checked = subst (λ (o : Option Rule). J o) (met_inside checked.0 here checked.2) checked.1

met_kind : {A : Type 0} (of : Option A) (J : A → Option Rule → Type 0) → OfKind of J None → (a : A) × (of ≡ Some a) × J a None
met_kind None J checked = absurd (cc)
met_kind (Some a) J checked = (a, refl, checked)

met_second : (first : Option Rule) (P : Type 0) → MatchOption first P (λ found. None ≡ Some found) → P
met_second None P met = met
met_second (Some found) P met = absurd (cc)

text_there : (name : List ℕ) (d v : Data) (s : List ℕ) → get name d ≡ Some v → as_str v ≡ Some s → property_text name d ≡ Some s
text_there name d v s there is = ap (option_and_then as_str) there ∙ is

met_text : (name : List ℕ) (d : Data) → Checks (required name text) d None → (s : List ℕ) × (property_text name d ≡ Some s)
met_text name d checked =
    let v = met_value name (ChecksForm text) (get name d) checked in
    let s = met_kind (as_str v.0) (λ s (o : Option Rule). o ≡ None) (met_here (ChecksSingle any_text v.0) v.2) in
    (s.0, text_there name d v.0 s.0 v.1 s.1)

met_time : (name : List ℕ) (d : Data) → Checks (required name time) d None → (i : ℤ) × IsTimestampAt Any name d i
met_time name d checked =
    let v = met_value name (ChecksForm time) (get name d) checked in
    let s = met_kind (as_str v.0) (ChecksTimestamp Any) (met_here (ChecksSingle (timestamp Any) v.0) v.2) in
    (s.2.0, record { text = s.0; there = text_there name d v.0 s.0 v.1 s.1; names = s.2.1 })

met_millis : (name : List ℕ) (d : Data) → Checks (required name millis) d None → (i : ℤ) × IsTimestampAt Millis name d i
met_millis name d checked =
    let v = met_value name (ChecksForm millis) (get name d) checked in
    let s = met_kind (as_str v.0) (ChecksTimestamp Millis) (met_here (ChecksSingle (timestamp Millis) v.0) v.2) in
    let is = met_second s.2.0 (IsTimestamp Millis s.0) s.2.2 in
    (is.0, record { text = s.0; there = text_there name d v.0 s.0 v.1 s.1; names = is.1 })

-- the rows of the two times that all domain objects tell
dated_met : (own : List Row) (d : Data) → MeetsAll (filter_map (applicable Domain own) common_rows ++ own) d
    → Checks (required (codes "created") millis) d None × Checks (required (codes "modified") millis) d None
dated_met own d met = (met.1.1.1.1.0, met.1.1.1.1.1.0)

named_id : (d : Data) → IsIndicator d → IsNamed d → (number : ℕ) × HasId d (indicator_id number)
named_id d is named =
    let kind : named.type ≡ codes "indicator" = (let told = named.typed in cc) in (
      named.number,
      record {
        text = named.text;
        there = named.named;
        reads = subst (λ (k : List ℕ). let id : Id = record { kind = k; number = named.number } in IsTextOfId named.text id) kind named.id;
      },
    )

pub told : (d : Data) → IsIndicator d → IsNamed d → MeetsAll (rows_for (type_of d)) d → HasFields d
told d is named met =
    let rows : MeetsAll (rows_for (type_named (codes "indicator"))) d = subst (λ (o : Option (List ℕ)). MeetsAll (rows_for (option_and_then type_named o)) d) is met in
    let dated = dated_met indicator d rows in
    let own : MeetsAll indicator d = own_met (filter_map (applicable Domain indicator) common_rows) indicator d rows in
    let created = met_millis (codes "created") d dated.0 in
    let modified = met_millis (codes "modified") d dated.1 in
    let pattern = met_text (codes "pattern") d own.0 in
    let from = met_time (codes "valid_from") d own.1.1.0 in
    let id = named_id d is named in
    record {
      number = id.0;
      has = id.1;
      created = created.0;
      created_is = created.1;
      modified = modified.0;
      modified_is = modified.1;
      from = from.0;
      from_is = from.1;
      pattern = pattern.0;
      pattern_is = pattern.1;
    }
