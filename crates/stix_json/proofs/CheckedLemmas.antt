-- Checked on lists and objects that grow by one, and on whole ones.
use Rattle.std.proofs.Common.{◌≡◌, ℕ, zero, suc, ◌+◌, ◌-◌, ◌<◌, Result, Ok, Err, IfErr, List, [], ◌∷◌, ◌++◌, length, length-append, map, Option, Some, None, option_map, Ordering, Less, Equal, Greater, nat_cmp, is_eq, refl, sym, ap, subst, ◌∙◌, arith}
use Rattle.std.proofs.lemmas.Slice.Eq.{bytes_eq-Decides}
use Rattle.std.proofs.lemmas.Map.Text.{is_eq-slice_cmp}
use Rattle.std.proofs.lemmas.Result.{IfErr-weaker}
use Rattle.json.specs.Token.{Token}
use Rattle.json.specs.Json.{parse_map}
use Rattle.serde_json.specs.Read.{number_of}
use Rattle.std.specs.Cmp.Lexicographic.{slice_cmp}
use Rattle.std.specs.Ordering.{match_ordering}
use Rattle.serde_json.specs.Data.{Num, Data, number, array, object, Items, Members, no_members, member, put}
use Rattle.serde_json.specs.View.{items_of}
use Rattle.stix_json.specs.declared.first_error.FirstError.{FirstError}
use Rattle.stix_json.specs.declared.first_error.FirstError.TheVariants.{TooDeep as Deep, InvalidValue}
use Rattle.stix_json.specs.declared.fields.Fields.{Fields}
use Rattle.stix_json.specs.declared.raw_members.RawMember.{RawMember}
use Rattle.stix_json.specs.declared.elements.Elements.{Elements}
use Rattle.stix_json.specs.declared.value.Json.{Json}
use Rattle.stix_json.specs.declared.value.Json.TheVariants as value
use Rattle.stix_json.specs.declared.location.Location.TheVariants.{Here}
use Rattle.stix_json.specs.declared.read_error.ReadError.{ReadError}
use Rattle.stix_json.specs.declared.read_error.ReadError.TheVariants.{NotJson, NoMemory}
use Rattle.stix_json.specs.declared.checked.Checked.{Checked}
use Rattle.stix_json.specs.declared.checked.Checked.TheVariants.{Good, Bad}
use Rattle.stix_json.specs.declared.value.Field.{Field}
use Rattle.stix_json.specs.DataOf.{Member, members_of, data_of, field_data}
use Rattle.stix_json.specs.Walk.{index_part}
use Rattle.stix_json.specs.inner.FirstErrors.{first_error_under, deciding_error, first_error, items_first_error, members_first_error}
use Rattle.stix_json.specs.inner.Insertion.{insert_named}
use Rattle.stix_json.specs.inner.Checking.{IsCheckedAs, AreElements, AreFields, AreRawMembers, IsReadError, member_name}
use Rattle.stix_json.proofs.FirstErrorLemmas.{sooner_none, list_first_error_push, members_first_error_push}
use Rattle.stix_json.proofs.ValueErrorsLemmas.{map_pushed, data_of-Array, data_of-Object}

still_some : (a : Option FirstError) (f : FirstError) → deciding_error a (Some f) ≡ None → ⊥
still_some None f is = cc
still_some (Some (Deep location)) f is = cc
still_some (Some (InvalidValue value_error)) (Deep location) is = cc
still_some (Some (InvalidValue value_error)) (InvalidValue later) is = cc

-- ---- lists

counted : (done : List Data) (d : Data) → length (done ++ d ∷ []) ≡ length done + 1
counted done d = length-append done (d ∷ [])

-- an item more against which nothing stands
pub elements_good : (levels : ℕ) (done : List Data) (d : Data) (old new : Elements) (item : Json) → AreElements levels done old → first_error levels d ≡ None → data_of item ≡ d
    → new.first_error ≡ old.first_error → new.len ≡ old.len + 1 → (old.first_error ≡ None → new.items.items ≡ old.items.items ++ item ∷ []) → AreElements levels (done ++ d ∷ []) new
elements_good levels done d old new item is good same kept len items = record {
  found = kept ∙ is.found ∙ sym (list_first_error_push levels done d ∙ ap (λ (o : Option FirstError). deciding_error (items_first_error levels 0 (items_of done)) (option_map (first_error_under (index_part (length done))) o)) good ∙ sooner_none (items_first_error levels 0 (items_of done)));
  good = λ none.
      let before : old.first_error ≡ None = sym kept ∙ none in
      ap (map data_of) (items before) ∙ map_pushed data_of old.items.items item ∙ ap (λ (ds : List Data). ds ++ data_of item ∷ []) (is.good before) ∙ ap (λ (e : Data). done ++ e ∷ []) same;
  count = len ∙ ap (λ (n : ℕ). n + 1) is.count ∙ sym (counted done d);
}

-- an item more against which this stands first
pub elements_bad : (levels : ℕ) (done : List Data) (d : Data) (old new : Elements) (f : FirstError) → AreElements levels done old → first_error levels d ≡ Some f
    → new.first_error ≡ deciding_error old.first_error (Some (first_error_under (index_part old.len) f)) → new.len ≡ old.len + 1 → AreElements levels (done ++ d ∷ []) new
elements_bad levels done d old new f is bad noted len = record {
  found = noted ∙ ap (λ (n : ℕ). deciding_error old.first_error (Some (first_error_under (index_part n) f))) is.count ∙ ap (λ (o : Option FirstError). deciding_error o (Some (first_error_under (index_part (length done)) f))) is.found
      ∙ sym (list_first_error_push levels done d ∙ ap (λ (o : Option FirstError). deciding_error (items_first_error levels 0 (items_of done)) (option_map (first_error_under (index_part (length done))) o)) bad);
  good = λ none. absurd (still_some old.first_error (first_error_under (index_part old.len) f) (sym noted ∙ none));
  count = len ∙ ap (λ (n : ℕ). n + 1) is.count ∙ sym (counted done d);
}

-- ---- objects

pub fields_good : (levels : ℕ) (done : List Member) (d : Data) (name : List ℕ) (old new : Fields) (field : Field) → AreFields levels done old → first_error levels d ≡ None
    → field_data field ≡ record { name = name; value = d } → new.first_error ≡ old.first_error → (old.first_error ≡ None → new.fields.items ≡ old.fields.items ++ field ∷ [])
    → AreFields levels (done ++ record { name = name; value = d } ∷ []) new
fields_good levels done d name old new field are good same kept fields =
    let m : Member = record { name = name; value = d } in record {
      found = kept ∙ are.found ∙ sym (members_first_error_push levels done m ∙ ap (λ (o : Option FirstError). deciding_error (members_first_error levels (members_of done)) (option_map (first_error_under name) o)) good ∙ sooner_none (members_first_error levels (members_of done)));
      good = λ none.
          let before : old.first_error ≡ None = sym kept ∙ none in
          ap (map field_data) (fields before) ∙ map_pushed field_data old.fields.items field ∙ ap (λ (ms : List Member). ms ++ field_data field ∷ []) (are.good before) ∙ ap (λ (n : Member). done ++ n ∷ []) same;
    }

pub fields_bad : (levels : ℕ) (done : List Member) (d : Data) (name : List ℕ) (old new : Fields) (f : FirstError) → AreFields levels done old → first_error levels d ≡ Some f
    → new.first_error ≡ deciding_error old.first_error (Some (first_error_under name f)) → AreFields levels (done ++ record { name = name; value = d } ∷ []) new
fields_bad levels done d name old new f are bad noted =
    let m : Member = record { name = name; value = d } in record {
      found = noted ∙ ap (λ (o : Option FirstError). deciding_error o (Some (first_error_under name f))) are.found
          ∙ sym (members_first_error_push levels done m ∙ ap (λ (o : Option FirstError). deciding_error (members_first_error levels (members_of done)) (option_map (first_error_under name) o)) bad);
      good = λ none. absurd (still_some old.first_error (first_error_under name f) (sym noted ∙ none));
    }

-- ---- members that are inserted among others

insert_by : (levels : ℕ) (o : Ordering) (k l : List ℕ) (d e : Data) (ms more : Members) (g h : RawMember) (gs news : List RawMember)
    → g.name ≡ k → IsCheckedAs levels d g.checked → AreRawMembers levels (member l e ms) (h ∷ gs) → AreRawMembers levels more news
    → (o ≡ Equal → k ≡ l)
    → AreRawMembers levels (match_ordering o (member k d (member l e ms)) (member l d ms) (member l e more)) (match_ordering o (g ∷ h ∷ gs) (g ∷ gs) (h ∷ news))
insert_by levels Less k l d e ms more g h gs news named its are rest same = (named, its, are)
insert_by levels Equal k l d e ms more g h gs news named its are rest same = (named ∙ same refl, its, are.2)
insert_by levels Greater k l d e ms more g h gs news named its are rest same = (are.0, are.1, rest)

equal_names : (k l : List ℕ) → slice_cmp nat_cmp k l ≡ Equal → k ≡ l
equal_names k l is = (bytes_eq-Decides k l).0 (sym (is_eq-slice_cmp k l) ∙ ap is_eq is)

insert_at : (levels : ℕ) (k l : List ℕ) (d e : Data) (ms : Members) (g h : RawMember) (gs : List RawMember) → g.name ≡ k → h.name ≡ l → IsCheckedAs levels d g.checked
    → AreRawMembers levels (member l e ms) (h ∷ gs) → AreRawMembers levels (put k d ms) (insert_named member_name g gs)
    → AreRawMembers levels (put k d (member l e ms)) (insert_named member_name g (h ∷ gs))
insert_at levels k l d e ms g h gs named called its are rest =
    subst (λ (o : Ordering). AreRawMembers levels (put k d (member l e ms)) (match_ordering o (g ∷ h ∷ gs) (g ∷ gs) (h ∷ insert_named member_name g gs)))
    (ap (λ (n : List ℕ). slice_cmp nat_cmp n l) (sym named) ∙ ap (λ (n : List ℕ). slice_cmp nat_cmp g.name n) (sym called))
    (insert_by levels (slice_cmp nat_cmp k l) k l d e ms (put k d ms) g h gs (insert_named member_name g gs) named its are rest (equal_names k l))

-- a member more
pub gathered_insert : (levels : ℕ) (k : List ℕ) (d : Data) (ms : Members) (g : RawMember) (gs : List RawMember) → g.name ≡ k → IsCheckedAs levels d g.checked
    → AreRawMembers levels ms gs → AreRawMembers levels (put k d ms) (insert_named member_name g gs)
gathered_insert levels k d no_members g [] named its are = (named, its, tt)
gathered_insert levels k d no_members g (h ∷ gs) named its are = absurd are
gathered_insert levels k d (member l e ms) g [] named its are = absurd are
gathered_insert levels k d (member l e ms) g (h ∷ gs) named its are = insert_at levels k l d e ms g h gs named are.0 its are (gathered_insert levels k d ms g gs named its are.2)

-- ---- whole lists and objects

-- a whole list against which nothing stands
pub elements_whole : (levels : ℕ) (done : List Data) (elements : Elements) (row : List Json) → AreElements levels done elements → elements.first_error ≡ None → row ≡ elements.items.items
    → IsCheckedAs (suc levels) (array (items_of done)) (Good (value.Array row))
elements_whole levels done elements row is none same =
    (sym is.found ∙ none, data_of-Array row ∙ ap (λ (ds : List Data). array (items_of ds)) (ap (map data_of) same ∙ is.good none))

pub fields_whole : (levels : ℕ) (done : List Member) (fields : Fields) → AreFields levels done fields → fields.first_error ≡ None
    → IsCheckedAs (suc levels) (object (members_of done)) (Good (value.Object fields.fields.items))
fields_whole levels done fields are none =
    (sym are.found ∙ none, data_of-Object fields.fields.items ∙ ap (λ (ms : List Member). object (members_of ms)) (are.good none))

-- the members in a row
abbrev pub listed : Members → List Member
listed no_members = []
listed (member k d ms) = record { name = k; value = d } ∷ listed ms

pub listed_again : (ms : Members) → members_of (listed ms) ≡ ms
listed_again no_members = refl
listed_again (member k d ms) = ap (member k d) (listed_again ms)

-- the last of these and those before it
pub gathered_split : (levels : ℕ) (all : List Member) (gs : List RawMember) (g : RawMember) → AreRawMembers levels (members_of all) (gs ++ g ∷ [])
    → (done : List Member) × (d : Data) × (all ≡ done ++ record { name = g.name; value = d } ∷ []) × AreRawMembers levels (members_of done) gs × IsCheckedAs levels d g.checked
gathered_split levels [] [] g are = absurd are
gathered_split levels [] (h ∷ gs) g are = absurd are
gathered_split levels (m ∷ []) [] g are = ([], m.value, ap (λ (n : List ℕ). record { name = n; value = m.value } ∷ []) (sym are.0), tt, are.1)
gathered_split levels (m ∷ n ∷ all) [] g are = absurd are.2
gathered_split levels (m ∷ all) (h ∷ gs) g are =
    let rest = gathered_split levels all gs g are.2 in
    (m ∷ rest.0, rest.1, ap (λ (ms : List Member). m ∷ ms) rest.2, (are.0, are.1, rest.3), rest.4)

pub none_gathered : (levels : ℕ) (all : List Member) → AreRawMembers levels (members_of all) [] → all ≡ []
none_gathered levels [] are = refl
none_gathered levels (m ∷ all) are = absurd are

-- ---- lists and objects with those around them

pub list_within : (levels : ℕ) (ds : Items) (inside whole : Checked) → IsCheckedAs (suc (levels - 1)) (array ds) inside → (levels ≡ 0 → whole ≡ Bad (Deep Here)) → (0 < levels → whole ≡ inside)
    → IsCheckedAs levels (array ds) whole
list_within zero ds inside whole its deep same = subst (IsCheckedAs 0 (array ds)) (sym (deep refl)) refl
list_within (suc levels) ds inside whole its deep same = subst (IsCheckedAs (suc levels) (array ds)) (sym (same (omega arith))) (subst (λ (n : ℕ). IsCheckedAs (suc n) (array ds) inside) (omega arith) its)

pub object_within : (levels : ℕ) (ms : Members) (inside whole : Checked) → IsCheckedAs (suc (levels - 1)) (object ms) inside → (levels ≡ 0 → whole ≡ Bad (Deep Here)) → (0 < levels → whole ≡ inside)
    → IsCheckedAs levels (object ms) whole
object_within zero ms inside whole its deep same = subst (IsCheckedAs 0 (object ms)) (sym (deep refl)) refl
object_within (suc levels) ms inside whole its deep same = subst (IsCheckedAs (suc levels) (object ms)) (sym (same (omega arith))) (subst (λ (n : ℕ). IsCheckedAs (suc n) (object ms) inside) (omega arith) its)

-- ---- what isn't read

read_error_by : {A B : Type 0} (o : Option A) (p : Option B) → (o ≡ None → p ≡ None) → (read_error : ReadError) → IsReadError o read_error → IsReadError p read_error
read_error_by o p none NotJson is = none is
read_error_by o p none NoMemory is = tt

-- where nothing is read of a part, nothing is of the whole
pub read_error_since : {A B X : Type 0} (r : Result X ReadError) (o : Option A) (p : Option B) → (o ≡ None → p ≡ None) → IfErr r (λ read_error. IsReadError o read_error) → IfErr r (λ read_error. IsReadError p read_error)
read_error_since r o p none told = IfErr-weaker r (IsReadError o) (IsReadError p) (read_error_by o p none) told

pub read_error_under : {A B X : Type 0} (r : Result X ReadError) (f : A → B) (o : Option (A × List Token)) (p : Option (B × List Token)) → p ≡ parse_map f o
    → IfErr r (λ read_error. IsReadError o read_error) → IfErr r (λ read_error. IsReadError p read_error)
read_error_under r f o p is told = read_error_since r o p (λ none. is ∙ ap (parse_map f) none) told

pub no_number : {X : Type 0} (r : Result X ReadError) (text : List ℕ) (rest : List Token) (o : Option (Data × List Token))
    → o ≡ option_map {U = Data × List Token} (λ (d : Data). (d, rest)) (option_map number (number_of text)) → IfErr r (λ read_error. IsReadError (number_of text) read_error) → IfErr r (λ read_error. IsReadError o read_error)
no_number r text rest o is told = read_error_since r (number_of text) o (λ none. is ∙ ap (λ (n : Option Num). option_map {U = Data × List Token} (λ (d : Data). (d, rest)) (option_map number n)) none) told

-- no fields yet
pub no_fields : (levels : ℕ) (done : List Member) (fields : Fields) → AreRawMembers levels (members_of done) [] → fields.fields.items ≡ [] → fields.first_error ≡ None → AreFields levels done fields
no_fields levels done fields are empty none =
    subst (λ (ms : List Member). AreFields levels ms fields) (sym (none_gathered levels done are)) (record { found = none; good = λ known. ap (map field_data) empty })

-- where nothing is read, that is why
read_error_here : {A : Type 0} (o : Option A) → o ≡ None → (read_error : ReadError) → IsReadError o read_error
read_error_here o none NotJson = none
read_error_here o none NoMemory = tt

pub read_error_at : {A X : Type 0} (r : Result X ReadError) (o : Option A) → o ≡ None → IfErr r (λ read_error. IsReadError o read_error)
read_error_at (Ok x) o none = tt
read_error_at (Err read_error) o none = read_error_here o none read_error

pub none_left : {A : Type 0} (xs : List A) → length xs ≡ 0 → xs ≡ []
none_left [] none = refl
none_left (x ∷ xs) none = absurd (omega (arith, none))
