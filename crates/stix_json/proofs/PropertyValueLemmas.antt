-- The properties of an object as they come, and what the first token of a value says of it.
use Rattle.std.proofs.Common.{◌≡◌, ◌≢◌, ℕ, zero, suc, List, [], ◌∷◌, ◌++◌, length, Bool, true, false, bytes_eq, cond, true≢false, Option, Some, None, option_map, refl, sym, ap, subst, ◌∙◌}
use Rattle.std.proofs.lemmas.Slice.Eq.{bytes_eq-Decides}
use Rattle.json.specs.Token.{Token}
use Rattle.json.specs.Json as json
use Rattle.json.specs.Json.{Parse, parse_map, value_with, items, members, value}
use Rattle.serde_json.specs.Data.{Num, Data, null, boolean, number, string, array, object, Items, Members, no_members, put}
use Rattle.serde_json.specs.Find.{get_member}
use Rattle.serde_json.specs.Read.{of_json, of_items, of_members, converted, number_of}
use Rattle.serde_json.specs.View.{items_of}
use Rattle.serde_json.proofs.Views.{get_member-put, get_member-put_other}
use Rattle.stix_json.specs.declared.entry.Entry.{Entry}
use Rattle.stix_json.specs.declared.property_value.Property.{Property}
use Rattle.stix_json.specs.Entries.{AreEntriesFor}
use Rattle.stix_json.specs.Reading.{IsEntryFor}
use Rattle.stix_json.specs.inner.PropertyValue.{IsPropertyValue, MayBePropertyValue, HoldsProperties, property_name, is_begin_array, is_begin_object}
use Rattle.stix_json.specs.inner.Insertion.{last_named}
use Rattle.stix_json.proofs.InsertionLemmas.{last_pushed}
use Rattle.stix_json.proofs.TokensLemmas.{converted_some}

-- ---- entries

pub entries_pushed : (done : List Data) (d : Data) (es : List Entry) (e : Entry) → AreEntriesFor (items_of done) es → IsEntryFor d e → AreEntriesFor (items_of (done ++ d ∷ [])) (es ++ e ∷ [])
entries_pushed [] d [] e all one = (one, tt)
entries_pushed [] d (f ∷ es) e all one = absurd all
entries_pushed (x ∷ done) d [] e all one = absurd all
entries_pushed (x ∷ done) d (f ∷ es) e all one = (all.0, entries_pushed done d es e all.1 one)

-- ---- properties

pub holds_none : HoldsProperties no_members []
holds_none q = tt

pushed_by : (k q : List ℕ) (d : Data) (found : Members) (ps : List Property) (p : Property) → HoldsProperties found ps → p.name ≡ k → IsPropertyValue d p.property_value → (same : Bool) → bytes_eq p.name q ≡ same
    → MayBePropertyValue (get_member q (put k d found)) (cond same (Some p) (last_named property_name q ps))
pushed_by k q d found ps p holds named property_value true test =
    let one : k ≡ q = sym named ∙ (bytes_eq-Decides p.name q).0 test in
    subst (λ (o : Option Data). MayBePropertyValue o (Some p)) (sym (subst (λ (n : List ℕ). get_member n (put k d found) ≡ Some d) one (get_member-put k d found))) property_value
pushed_by k q d found ps p holds named property_value false test =
    let other : q ≡ k → ⊥ = λ same. true≢false (sym ((bytes_eq-Decides p.name q).1 (named ∙ sym same)) ∙ test) in
    subst (λ (o : Option Data). MayBePropertyValue o (last_named property_name q ps)) (sym (get_member-put_other q k d found other)) (holds q)

-- a property more
pub holds_insert : (k : List ℕ) (d : Data) (found : Members) (ps : List Property) (p : Property) → HoldsProperties found ps → p.name ≡ k → IsPropertyValue d p.property_value → HoldsProperties (put k d found) (ps ++ p ∷ [])
holds_insert k d found ps p holds named property_value q =
    subst (λ (o : Option Property). MayBePropertyValue (get_member q (put k d found)) o) (sym (last_pushed property_name q ps p)) (pushed_by k q d found ps p holds named property_value (bytes_eq p.name q) refl)

-- ---- the first token

a_list : (x : Option (json.Items × List Token)) (j : json.Json) (s : List Token) → parse_map json.array x ≡ Some (j, s) → (js : json.Items) × (j ≡ json.array js)
a_list None j s e = absurd cc
a_list (Some p) j s e = let same : Path (json.Json × List Token) (json.array p.0, p.1) (j, s) = cc in (p.0, sym (ap (λ q. q.0) same))

an_object : (x : Option (json.Members × List Token)) (j : json.Json) (s : List Token) → parse_map json.object x ≡ Some (j, s) → (js : json.Members) × (j ≡ json.object js)
an_object None j s e = absurd cc
an_object (Some p) j s e = let same : Path (json.Json × List Token) (json.object p.0, p.1) (j, s) = cc in (p.0, sym (ap (λ q. q.0) same))

array_data : (x : Option Items) (d : Data) → option_map array x ≡ Some d → (ds : Items) × (d ≡ array ds)
array_data None d e = absurd cc
array_data (Some ds) d e = let same : array ds ≡ d = cc in (ds, sym same)

object_data : (x : Option Members) (d : Data) → option_map object x ≡ Some d → (ms : Members) × (d ≡ object ms)
object_data None d e = absurd cc
object_data (Some ms) d e = let same : object ms ≡ d = cc in (ms, sym same)

number_data : (x : Option Num) (d : Data) → option_map number x ≡ Some d → (n : Num) × (d ≡ number n)
number_data None d e = absurd cc
number_data (Some n) d e = let same : number n ≡ d = cc in (n, sym same)

-- what a value is by its first token
abbrev Begun : Token → Data → Type 0
Begun Token.begin_object d = (ms : Members) × (d ≡ object ms)
Begun Token.end_object d = ⊥
Begun Token.begin_array d = (ds : Items) × (d ≡ array ds)
Begun Token.end_array d = ⊥
Begun (Token.key s) d = ⊥
Begun (Token.string s) d = d ≡ string s
Begun (Token.number s) d = (n : Num) × (d ≡ number n)
Begun (Token.boolean b) d = d ≡ boolean b
Begun Token.null d = d ≡ null
Begun Token.bad d = ⊥

begun_by : (a : Parse json.Items) (o : Parse json.Members) (t : Token) (r s : List Token) (d : Data) (j : json.Json) → value_with a o (t ∷ r) ≡ Some (j, s) → of_json j ≡ Some d → Begun t d
begun_by a o Token.begin_object r s d j is of = let all = an_object (o r) j s is in object_data (of_members all.0 no_members) d (ap of_json (sym all.1) ∙ of)
begun_by a o Token.end_object r s d j is of = absurd cc
begun_by a o Token.begin_array r s d j is of = let all = a_list (a r) j s is in array_data (of_items all.0) d (ap of_json (sym all.1) ∙ of)
begun_by a o Token.end_array r s d j is of = absurd cc
begun_by a o (Token.key w) r s d j is of = absurd cc
begun_by a o (Token.string w) r s d j is of = let pair : Path (json.Json × List Token) (json.string w, r) (j, s) = cc in let same : json.string w ≡ j = ap (λ q. q.0) pair in let both : Some (string w) ≡ Some d = ap of_json same ∙ of in let one : string w ≡ d = cc in sym one
begun_by a o (Token.number w) r s d j is of = let pair : Path (json.Json × List Token) (json.number w, r) (j, s) = cc in let same : json.number w ≡ j = ap (λ q. q.0) pair in number_data (number_of w) d (ap of_json same ∙ of)
begun_by a o (Token.boolean b) r s d j is of = let pair : Path (json.Json × List Token) (json.boolean b, r) (j, s) = cc in let same : json.boolean b ≡ j = ap (λ q. q.0) pair in let both : Some (boolean b) ≡ Some d = ap of_json same ∙ of in let one : boolean b ≡ d = cc in sym one
begun_by a o Token.null r s d j is of = let pair : Path (json.Json × List Token) (json.null, r) (j, s) = cc in let same : json.null ≡ j = ap (λ q. q.0) pair in let both : Some null ≡ Some d = ap of_json same ∙ of in let one : null ≡ d = cc in sym one
begun_by a o Token.bad r s d j is of = absurd cc

begun : (n : ℕ) (t : Token) (r s : List Token) (d : Data) → converted of_json (value n (t ∷ r)) ≡ Some (d, s) → Begun t d
unfolding value
begun zero t r s d e = let j = converted_some of_json (value zero (t ∷ r)) d s e in begun_by (λ ts. None) (λ ts. None) t r s d j.0 j.1 j.2
begun (suc n) t r s d e =
    let j = converted_some of_json (value (suc n) (t ∷ r)) d s e in
    begun_by (λ ts. items (value n) (length ts) ts) (λ ts. members (value n) (length ts) ts) t r s d j.0 j.1 j.2

list_by : (t : Token) (d : Data) (ds : Items) → Begun t d → d ≡ array ds → t ≡ Token.begin_array
list_by Token.begin_object d ds is same = let both : object is.0 ≡ array ds = sym is.1 ∙ same in absurd cc
list_by Token.end_object d ds is same = absurd is
list_by Token.begin_array d ds is same = refl
list_by Token.end_array d ds is same = absurd is
list_by (Token.key w) d ds is same = absurd is
list_by (Token.string w) d ds is same = let both : string w ≡ array ds = sym is ∙ same in absurd cc
list_by (Token.number w) d ds is same = let both : number is.0 ≡ array ds = sym is.1 ∙ same in absurd cc
list_by (Token.boolean b) d ds is same = let both : boolean b ≡ array ds = sym is ∙ same in absurd cc
list_by Token.null d ds is same = let both : null ≡ array ds = sym is ∙ same in absurd cc
list_by Token.bad d ds is same = absurd is

object_by : (t : Token) (d : Data) (ms : Members) → Begun t d → d ≡ object ms → t ≡ Token.begin_object
object_by Token.begin_object d ms is same = refl
object_by Token.end_object d ms is same = absurd is
object_by Token.begin_array d ms is same = let both : array is.0 ≡ object ms = sym is.1 ∙ same in absurd cc
object_by Token.end_array d ms is same = absurd is
object_by (Token.key w) d ms is same = absurd is
object_by (Token.string w) d ms is same = let both : string w ≡ object ms = sym is ∙ same in absurd cc
object_by (Token.number w) d ms is same = let both : number is.0 ≡ object ms = sym is.1 ∙ same in absurd cc
object_by (Token.boolean b) d ms is same = let both : boolean b ≡ object ms = sym is ∙ same in absurd cc
object_by Token.null d ms is same = let both : null ≡ object ms = sym is ∙ same in absurd cc
object_by Token.bad d ms is same = absurd is

pub opens_array : (t : Token) → true ≡ is_begin_array t → t ≡ Token.begin_array
opens_array Token.begin_object is = absurd (true≢false is)
opens_array Token.end_object is = absurd (true≢false is)
opens_array Token.begin_array is = refl
opens_array Token.end_array is = absurd (true≢false is)
opens_array (Token.key w) is = absurd (true≢false is)
opens_array (Token.string w) is = absurd (true≢false is)
opens_array (Token.number w) is = absurd (true≢false is)
opens_array (Token.boolean b) is = absurd (true≢false is)
opens_array Token.null is = absurd (true≢false is)
opens_array Token.bad is = absurd (true≢false is)

pub opens_members : (t : Token) → true ≡ is_begin_object t → t ≡ Token.begin_object
opens_members Token.begin_object is = refl
opens_members Token.end_object is = absurd (true≢false is)
opens_members Token.begin_array is = absurd (true≢false is)
opens_members Token.end_array is = absurd (true≢false is)
opens_members (Token.key w) is = absurd (true≢false is)
opens_members (Token.string w) is = absurd (true≢false is)
opens_members (Token.number w) is = absurd (true≢false is)
opens_members (Token.boolean b) is = absurd (true≢false is)
opens_members Token.null is = absurd (true≢false is)
opens_members Token.bad is = absurd (true≢false is)

-- a value that doesn't begin as a list or an object is none
pub no_list : (n : ℕ) (t : Token) (r s : List Token) (d : Data) → false ≡ is_begin_array t → converted of_json (value n (t ∷ r)) ≡ Some (d, s) → (ds : Items) → d ≢ array ds
no_list n t r s d other e ds same = true≢false (sym (other ∙ ap is_begin_array (list_by t d ds (begun n t r s d e) same)))

pub no_object : (n : ℕ) (t : Token) (r s : List Token) (d : Data) → false ≡ is_begin_object t → converted of_json (value n (t ∷ r)) ≡ Some (d, s) → (ms : Members) → d ≢ object ms
no_object n t r s d other e ms same = true≢false (sym (other ∙ ap is_begin_object (object_by t d ms (begun n t r s d e) same)))
