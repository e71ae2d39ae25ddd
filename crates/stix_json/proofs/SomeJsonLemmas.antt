-- A value in which nothing is refused is that of some Json, and so no bytes are without a Json or a refusal.
use Rattle.std.proofs.Common.{rules, ◌≡◌, ◌≢◌, ◌⊎◌, inl, inr, ℕ, zero, suc, ◌+◌, ◌<◌, ℤ, pos, negsuc, neg_ℤ, Bool, true, false, ◌&&◌, ◌==◌, cond, ltb, drop, slice_index, List, [], ◌∷◌, map, Option, Some, None, option_map, option_and_then, Ordering, Less, Equal, Greater, nat_cmp, refl, sym, ap, ◌∙◌, arith}
use Rattle.std.specs.Prelude.{⊤, IsUtf8}
use Rattle.std.specs.Str.{is_utf8}
use Rattle.std.specs.Ordering.{match_ordering}
use Rattle.std.specs.Cmp.Lexicographic.{slice_cmp}
use Rattle.std.proofs.lemmas.Bool.{false≢true, ltb-true}
use Rattle.std.proofs.lemmas.Str.{IsUtf8-from_is_utf8, is_utf8-from_IsUtf8}
use Rattle.std.specs.Float.Numeral.{Parts, minus, scan_numeral, numeral_digits as digits_of}
use Rattle.json.specs.Lex.{tokens}
use Rattle.json.specs.Json as json
use Rattle.serde_json.specs.Data.{Num, unsigned, negative, float, Data, null, boolean, number, string, array, object, Items, no_items, item, Members, no_members, member, put}
use Rattle.serde_json.specs.Find.{of_integer}
use Rattle.serde_json.specs.Read.{of_json, of_items, of_members, number_of, number_from, float_of, read, max_depth}
use Rattle.serde_json.specs.View.{items_of}
use Rattle.stix_json.specs.declared.value.Json.{Json, the_lemmas}
use Rattle.stix_json.specs.declared.value.Json.TheVariants as value
use Rattle.stix_json.specs.declared.value.Field.{Field}
use Rattle.stix_json.specs.declared.value.Json.TheViews.{roll-Field}
use Rattle.stix_json.specs.declared.limits.TheConstants.{MAX_LEVELS}
use Rattle.stix_json.specs.declared.location.Location.{Location}
use Rattle.stix_json.specs.declared.value_error.ValueError.{ValueError}
use Rattle.stix_json.specs.declared.refusal.JsonRefusal.{JsonRefusal}
use Rattle.stix_json.specs.declared.refusal.JsonRefusal.TheVariants.{NotJson, TooDeep, NotWhole, Null, OutOfRange, NotList, NoMemory}
use Rattle.stix_json.specs.DataOf.{Member, members_of, data_of, field_data}
use Rattle.stix_json.specs.Ordered.{IsOrdered}
use Rattle.stix_json.specs.Walk.{index_part}
use Rattle.stix_json.specs.Reading.{IsValueOf, HasNoValue, IsJsonAs, IsRefusalOf, IsJsonOf, IsJsonRefusedAs}
use Rattle.stix_json.specs.inner.ValueErrors.{location_path, value_error_under, refusal_at, number_value_error, value_error_here, first_value_error, items_value_error, members_value_error, too_deep}
use Rattle.stix_json.proofs.ValueErrorsLemmas.{data_of-Object, same_member, option_or_none, option_map_none}
use Rattle.stix_json.proofs.OrderedLemmas.{On, json_of, value_ordered}
use Rattle.stix_json.proofs.WalkLemmas.{deep_refused, value_error_refused, nothing_refused}

-- ---- the numbers that are read

-- what stands as below zero is below zero
abbrev IsTrueToSign : Num → Type 0
IsTrueToSign (unsigned n) = ⊤
IsTrueToSign (negative (pos n)) = ⊥
IsTrueToSign (negative (negsuc n)) = ⊤
IsTrueToSign (float x) = ⊤

abbrev mutual
  HasTrueSigns : Data → Type 0
  HasTrueSigns null = ⊤
  HasTrueSigns (boolean b) = ⊤
  HasTrueSigns (number n) = IsTrueToSign n
  HasTrueSigns (string s) = ⊤
  HasTrueSigns (array ds) = ItemsHaveTrueSigns ds
  HasTrueSigns (object ms) = MembersHaveTrueSigns ms

  ItemsHaveTrueSigns : Items → Type 0
  ItemsHaveTrueSigns no_items = ⊤
  ItemsHaveTrueSigns (item d ds) = HasTrueSigns d × ItemsHaveTrueSigns ds

  MembersHaveTrueSigns : Members → Type 0
  MembersHaveTrueSigns no_members = ⊤
  MembersHaveTrueSigns (member k d ms) = HasTrueSigns d × MembersHaveTrueSigns ms

on_cond : {A : Type 0} (P : A → Type 0) (b : Bool) (x y : Option A) → (b ≡ true → On P x) → On P y → On P (cond b x y)
on_cond P true x y first other = first refl
on_cond P false x y first other = other

on_map : {A B : Type 0} (P : A → Type 0) (Q : B → Type 0) (f : A → B) → ((a : A) → P a → Q (f a)) → (o : Option A) → On P o → On Q (option_map f o)
on_map P Q f each None h = tt
on_map P Q f each (Some a) h = each a h

on_then : {A B : Type 0} (P : A → Type 0) (Q : B → Type 0) (f : A → Option B) → ((a : A) → P a → On Q (f a)) → (o : Option A) → On P o → On Q (option_and_then f o)
on_then P Q f each None h = tt
on_then P Q f each (Some a) h = each a h

middle : (a b c : Bool) → (a && b && c) ≡ true → b ≡ true
middle true true c h = refl
middle true false c h = absurd cc
middle false b c h = absurd cc

below_zero : (n : ℕ) → 0 < n → IsTrueToSign (negative (neg_ℤ (pos n)))
below_zero zero some = absurd (omega arith)
below_zero (suc n) some = tt

float_true : (sign : Bool) (p : Parts) → On IsTrueToSign (float_of sign p)
float_true sign p = on_cond IsTrueToSign _ (Some (float _)) None (λ finite. tt) tt

number_from_true : (sign : Bool) (p : Parts) → On IsTrueToSign (number_from sign p)
number_from_true false p = on_cond IsTrueToSign _ (Some (unsigned (digits_of p))) (float_of false p) (λ whole. tt) (float_true false p)
number_from_true true p =
    on_cond IsTrueToSign _ (Some (negative (neg_ℤ (pos (digits_of p))))) (float_of true p)
    (λ whole. below_zero (digits_of p) (ltb-true 0 (digits_of p) (middle _ (ltb 0 (digits_of p)) _ whole))) (float_true true p)

number_of_true : (text : List ℕ) → On IsTrueToSign (number_of text)
unfolding number_of
number_of_true text =
    on_cond IsTrueToSign (slice_index text 0 == minus) (number_from true (scan_numeral (drop 1 text))) (number_from false (scan_numeral text))
    (λ below. number_from_true true (scan_numeral (drop 1 text))) (number_from_true false (scan_numeral text))

insert_by : (k l : List ℕ) (d e : Data) (ms more : Members) → HasTrueSigns d → MembersHaveTrueSigns (member l e ms) → MembersHaveTrueSigns more → (o : Ordering)
    → MembersHaveTrueSigns (match_ordering o (member k d (member l e ms)) (member l d ms) (member l e more))
insert_by k l d e ms more its are rest Less = (its, are)
insert_by k l d e ms more its are rest Equal = (its, are.1)
insert_by k l d e ms more its are rest Greater = (are.0, rest)

insert_true : (k : List ℕ) (d : Data) (ms : Members) → HasTrueSigns d → MembersHaveTrueSigns ms → MembersHaveTrueSigns (put k d ms)
insert_true k d no_members its are = (its, tt)
insert_true k d (member l e ms) its are = insert_by k l d e ms (put k d ms) its are (insert_true k d ms its are.1) (slice_cmp nat_cmp k l)

mutual
  json_true : (j : json.Json) → On HasTrueSigns (of_json j)
  json_true json.null = tt
  json_true (json.boolean b) = tt
  json_true (json.number s) = on_map IsTrueToSign HasTrueSigns number (λ n is. is) (number_of s) (number_of_true s)
  json_true (json.string s) = tt
  json_true (json.array js) = on_map ItemsHaveTrueSigns HasTrueSigns array (λ ds are. are) (of_items js) (items_true js)
  json_true (json.object ms) = on_map MembersHaveTrueSigns HasTrueSigns object (λ found are. are) (of_members ms no_members) (members_true ms no_members tt)

  items_true : (js : json.Items) → On ItemsHaveTrueSigns (of_items js)
  items_true json.no_items = tt
  items_true (json.item j js) =
      on_then HasTrueSigns ItemsHaveTrueSigns (λ d. option_map (item d) (of_items js))
      (λ d its. on_map ItemsHaveTrueSigns ItemsHaveTrueSigns (item d) (λ ds are. (its, are)) (of_items js) (items_true js)) (of_json j) (json_true j)

  members_true : (ms : json.Members) (found : Members) → MembersHaveTrueSigns found → On MembersHaveTrueSigns (of_members ms found)
  members_true json.no_members found are = are
  members_true (json.member k j ms) found are =
      on_then HasTrueSigns MembersHaveTrueSigns (λ d. of_members ms (put k d found)) (λ d its. members_true ms (put k d found) (insert_true k d found its are)) (of_json j) (json_true j)

on_some : {A : Type 0} (P : A → Type 0) (o : Option A) (a : A) → o ≡ Some a → On P o → P a
on_some P o a is h = rw is at h

whole_true : (o : Option json.Json) → On HasTrueSigns (option_and_then of_json o)
whole_true None = tt
whole_true (Some j) = json_true j

read_true : (text : List ℕ) (d : Data) → read text ≡ Some d → HasTrueSigns d
read_true text d is = on_some HasTrueSigns (read text) d is (whole_true (option_and_then (λ p. json.if_last p.0 p.1) (json.value max_depth (tokens text))))

-- ---- the Json of a value

data_of-Bool : (truth : Bool) → data_of (value.Bool truth) ≡ boolean truth
data_of-Bool truth = search (rules, the_lemmas)

data_of-Integer : (whole : ℤ) → data_of (value.Integer whole) ≡ number (of_integer whole)
data_of-Integer whole = search (rules, the_lemmas)

data_of-String : (text : List ℕ) → data_of (value.String text) ≡ string text
data_of-String text = search (rules, the_lemmas)

data_of-Array : (values : List Json) → data_of (value.Array values) ≡ array (items_of (map data_of values))
data_of-Array values = search (rules, the_lemmas)

-- some Json is that value
abbrev HasJson : Data → Type 0
HasJson d = (json : Json) × (data_of json ≡ d)

some_number : (n : Num) → IsTrueToSign n → value_error_here (number_value_error n) ≡ None → HasJson (number n)
some_number (unsigned n) signed good = (value.Integer (pos n), data_of-Integer (pos n))
some_number (negative (pos n)) signed good = absurd signed
some_number (negative (negsuc n)) signed good = (value.Integer (negsuc n), data_of-Integer (negsuc n))
some_number (float x) signed good = absurd cc

mutual
  some_json : (d : Data) → HasTrueSigns d → first_value_error d ≡ None → HasJson d
  some_json null signed good = absurd cc
  some_json (boolean b) signed good = (value.Bool b, data_of-Bool b)
  some_json (number n) signed good = some_number n signed good
  some_json (string s) signed good = (value.String s, data_of-String s)
  some_json (array ds) signed good =
      let values = some_items 0 ds signed good in
      (value.Array values.0, data_of-Array values.0 ∙ ap array values.1)
  some_json (object ms) signed good =
      let fields = some_members ms signed good in
      (value.Object fields.0, data_of-Object fields.0 ∙ ap object fields.1)

  some_items : (at : ℕ) (ds : Items) → ItemsHaveTrueSigns ds → items_value_error at ds ≡ None → (values : List Json) × (items_of (map data_of values) ≡ ds)
  some_items at no_items signed good = ([], refl)
  some_items at (item d ds) signed good =
      let parts = option_or_none (option_map (value_error_under (index_part at)) (first_value_error d)) (items_value_error (at + 1) ds) good in
      let first = some_json d signed.0 (option_map_none (value_error_under (index_part at)) (first_value_error d) parts.0) in
      let rest = some_items (at + 1) ds signed.1 parts.1 in
      (first.0 ∷ rest.0, ap (λ (e : Data). item e (items_of (map data_of rest.0))) first.1 ∙ ap (item d) rest.1)

  some_members : (ms : Members) → MembersHaveTrueSigns ms → members_value_error ms ≡ None → (fields : List Field) × (members_of (map field_data fields) ≡ ms)
  some_members no_members signed good = ([], refl)
  some_members (member k d ms) signed good =
      let parts = option_or_none (option_map (value_error_under k) (first_value_error d)) (members_value_error ms) good in
      let first = some_json d signed.0 (option_map_none (value_error_under k) (first_value_error d) parts.0) in
      let rest = some_members ms signed.1 parts.1 in (
        roll-Field (record { name = k; value = first.0 }) ∷ rest.0,
        ap (λ (m : Member). member m.name m.value (members_of (map field_data rest.0))) (same_member {name = k} {bytes = k} first.0 refl first.1) ∙ ap (member k d) rest.1,
      )

-- ---- a value, and bytes

-- a value is a Json's, or is refused
abbrev IsChecked : Data → Type 0
IsChecked d = ((json : Json) × IsJsonAs d json) ⊎ ((refusal : JsonRefusal) × IsRefusalOf d refusal)

by_value_error : (d : Data) → IsOrdered d → HasTrueSigns d → too_deep MAX_LEVELS d ≡ None → (found : Option ValueError) → first_value_error d ≡ found → IsChecked d
by_value_error d ordered signed shallow None is =
    let json = some_json d signed is in
    inl (json.0, record { same = json.1; good = nothing_refused d shallow is; ordered = ordered })
by_value_error d ordered signed shallow (Some value_error) is = inr (refusal_at value_error, value_error_refused d value_error shallow is)

by_depth : (d : Data) → IsOrdered d → HasTrueSigns d → (deep : Option Location) → too_deep MAX_LEVELS d ≡ deep → IsChecked d
by_depth d ordered signed None is = by_value_error d ordered signed is (first_value_error d) refl
by_depth d ordered signed (Some location) is = inr (TooDeep (location_path location), deep_refused d (location_path location) (sym (ap (option_map location_path) is)))

refused_as : (bytes : List ℕ) (d : Data) (refusal : JsonRefusal) → IsValueOf bytes d → IsRefusalOf d refusal → (refusal ≢ NoMemory) × IsJsonRefusedAs bytes refusal
refused_as bytes d NotJson value is = absurd is
refused_as bytes d (TooDeep path) value is = ((λ e. absurd cc), (d, value, is))
refused_as bytes d (NotWhole path) value is = ((λ e. absurd cc), (d, value, is))
refused_as bytes d (Null path) value is = ((λ e. absurd cc), (d, value, is))
refused_as bytes d (OutOfRange path) value is = ((λ e. absurd cc), (d, value, is))
refused_as bytes d NotList value is = absurd is
refused_as bytes d NoMemory value is = absurd is

-- bytes have a Json or a refusal
abbrev AreRead : List ℕ → Type 0
AreRead bytes = ((json : Json) × IsJsonOf bytes json) ⊎ ((refusal : JsonRefusal) × (refusal ≢ NoMemory) × IsJsonRefusedAs bytes refusal)

checked_read : (bytes : List ℕ) (d : Data) → IsValueOf bytes d → IsChecked d → AreRead bytes
checked_read bytes d value (inl (json, is)) = inl (json, json_of bytes d json value is)
checked_read bytes d value (inr (refusal, is)) = let told = refused_as bytes d refusal value is in inr (refusal, told.0, told.1)

none_read : (bytes : List ℕ) → HasNoValue bytes → AreRead bytes
none_read bytes none = inr (NotJson, (λ e. absurd cc), none)

by_value : (bytes : List ℕ) → IsUtf8 bytes → (found : Option Data) → read bytes ≡ found → AreRead bytes
by_value bytes utf8 None is = none_read bytes (λ d its. let value = its.value in absurd cc)
by_value bytes utf8 (Some d) is =
    let value : IsValueOf bytes d = record { text = utf8; value = is } in
    checked_read bytes d value (by_depth d (value_ordered bytes d value) (read_true bytes d is) (too_deep MAX_LEVELS d) refl)

by_text : (bytes : List ℕ) (utf8 : Bool) → is_utf8 bytes ≡ utf8 → AreRead bytes
by_text bytes false is = none_read bytes (λ d its. false≢true (sym is ∙ is_utf8-from_IsUtf8 bytes its.text))
by_text bytes true is = by_value bytes (IsUtf8-from_is_utf8 bytes is) (read bytes) refl

pub value_or_refusal : (bytes : List ℕ) → AreRead bytes
value_or_refusal bytes = by_text bytes (is_utf8 bytes) refl
