-- The index of some rows after one more is added, the last one is taken out, or those of some dates are.
use Rattle.std.proofs.Common.{nat_eq, None, refl, ◌≡◌, ℕ, List, [], ◌∷◌, ◌++◌, map, filter, not, sym, ap, ◌∙◌, subst, All, Result, Ok, Err, OnOk, OnErr}
use Rattle.std.specs.List.{Contains}
use Rattle.std.specs.BTreeSet.{BTreeSet}
use Rattle.std.proofs.lemmas.Bool.{both_ways, eq-eqb}
use Rattle.std.proofs.lemmas.List.{map-append}
use Rattle.std.proofs.lemmas.List.Elements.{All-filter, All-push, All-contains, All-weaker, All-contains_itself, Contains-append_left}
use Rattle.taxii_rows.specs.declared.stored_row.StoredRow.{StoredRow}
use Rattle.taxii_rows.specs.Keeper.{row_at, is_date_in}
use Rattle.taxii_rows.specs.StoreState.{dates_of, AscendFrom}
use Rattle.taxii_index.specs.declared.row_index.RowIndex.{RowIndex}
use Rattle.taxii_index.specs.declared.keys.Keys.{Keys}
use Rattle.taxii_index.specs.Keys.{Key, IsIn64Bits, HasKeys, HasKeysBut, IsUniqueIn}
use Rattle.taxii_index.specs.Index.{version_key, text_key, IsIndexOf, IsIndexBut, IsAbsent}
use Rattle.taxii_index.proofs.ListLemmas.{Contains-from_map, filter-map}
use Rattle.taxii_index.proofs.KeyLemmas.{all_yet, those_left, none_less}
use Rattle.taxii_index.proofs.RowLemmas.{one_row, find_nothing}

-- the keys of the rows and of one more
pushed : (key_of : StoredRow → Key) (rows : List StoredRow) (row : StoredRow) → map key_of (rows ++ row ∷ []) ≡ map key_of rows ++ key_of row ∷ []
pushed key_of rows row = map-append key_of rows (row ∷ [])

pub has_pushed : (key_of : StoredRow → Key) (rows : List StoredRow) (row : StoredRow) (key : Key) (set : BTreeSet Key) → key ≡ key_of row
    → HasKeys (map key_of rows ++ key ∷ []) set → HasKeys (map key_of (rows ++ row ∷ [])) set
has_pushed key_of rows row key set is has =
    subst (λ (keys : List Key). HasKeys keys set) (ap (λ (k : Key). map key_of rows ++ k ∷ []) is ∙ sym (pushed key_of rows row)) has

pub has_unpushed : (key_of : StoredRow → Key) (rows : List StoredRow) (row : StoredRow) (key : Key) (set : BTreeSet Key) → key ≡ key_of row
    → HasKeys (map key_of (rows ++ row ∷ [])) set → HasKeys (map key_of rows ++ key ∷ []) set
has_unpushed key_of rows row key set is has =
    subst (λ (keys : List Key). HasKeys keys set) (pushed key_of rows row ∙ ap (λ (k : Key). map key_of rows ++ k ∷ []) (sym is)) has

-- the key of a row whose date no other has is no other's
pub own_key : (key_of : StoredRow → Key) → ((row : StoredRow) → (key_of row).2 ≡ row.date) → (rows : List StoredRow) (row : StoredRow) (key : Key) → key ≡ key_of row
    → IsAbsent row.date rows → ¬ Contains (map key_of rows) key
own_key key_of dated rows row key is absent here =
    let found = Contains-from_map key_of rows key here in
    All-contains (λ (other : StoredRow). ¬ (other.date ≡ row.date)) rows found.0 absent found.1
    (sym (dated found.0) ∙ ap (λ (k : Key). k.2) (found.2 ∙ is) ∙ dated row)

-- the key of one of the rows is alone of its date
pub alone_in : (key_of : StoredRow → Key) → ((row : StoredRow) → (key_of row).2 ≡ row.date) → (rows : List StoredRow) (row : StoredRow) (key : Key) → key ≡ key_of row
    → AscendFrom 1 (dates_of rows) → Contains rows row → IsUniqueIn (map key_of rows) key
alone_in key_of dated rows row key is ascend here other there same =
    let found = Contains-from_map key_of rows other there in
    let date : found.0.date ≡ row.date = sym (dated found.0) ∙ ap (λ (k : Key). k.2) found.2 ∙ same ∙ ap (λ (k : Key). k.2) is ∙ dated row in
    sym found.2 ∙ ap key_of (one_row rows found.0 row ascend found.1 here date) ∙ sym is

-- no key is of a date that no row has
pub none_of_date : (key_of : StoredRow → Key) → ((row : StoredRow) → (key_of row).2 ≡ row.date) → (rows : List StoredRow) (date : ℕ) → row_at date rows ≡ None
    → (other : Key) → Contains (map key_of rows) other → ¬ (other.2 ≡ date)
none_of_date key_of dated rows date none other there same =
    let found = Contains-from_map key_of rows other there in
    let its : found.0.date ≡ date = sym (dated found.0) ∙ ap (λ (k : Key). k.2) found.2 ∙ same in
    both_ways (nat_eq found.0.date date) (find_nothing (λ (row : StoredRow). nat_eq row.date date) rows found.0 none found.1) (eq-eqb found.0.date date its)

pub index_yet : (rows : List StoredRow) (index : RowIndex) → IsIndexOf rows index → IsIndexBut [] rows index
index_yet rows index is = record {
  versions = all_yet (map (version_key index.secret) rows) index.by_version.keys is.versions;
  texts = all_yet (map (text_key index.secret) rows) index.by_text.keys is.texts;
  bits = is.bits;
}

left_of : (key_of : StoredRow → Key) (dates : List ℕ) (rows : List StoredRow) (set : BTreeSet Key)
    → map key_of (filter (λ row. not (is_date_in dates (key_of row).2)) rows) ≡ map key_of (filter (λ row. not (is_date_in dates row.date)) rows)
    → HasKeysBut dates (map key_of rows) set → HasKeys (map key_of (filter (λ row. not (is_date_in dates row.date)) rows)) set
left_of key_of dates rows set same has =
    subst (λ (keys : List Key). HasKeys keys set) (filter-map (λ (key : Key). not (is_date_in dates key.2)) key_of rows ∙ same) (those_left dates (map key_of rows) set has)

pub index_left : (dates : List ℕ) (rows : List StoredRow) (index : RowIndex) → IsIndexBut dates rows index → IsIndexOf (filter (λ row. not (is_date_in dates row.date)) rows) index
index_left dates rows index is = record {
  versions = left_of (version_key index.secret) dates rows index.by_version.keys refl is.versions;
  texts = left_of (text_key index.secret) dates rows index.by_text.keys refl is.texts;
  bits = All-filter (λ (row : StoredRow). not (is_date_in dates row.date)) (λ (row : StoredRow). IsIn64Bits (version_key index.secret row)) rows is.bits;
}

pub index_same : (dates : List ℕ) (date : ℕ) (rows : List StoredRow) (index : RowIndex) → row_at date rows ≡ None → IsIndexBut dates rows index
    → IsIndexBut (dates ++ date ∷ []) rows index
index_same dates date rows index none is = record {
  versions = none_less dates date (map (version_key index.secret) rows) index.by_version.keys (none_of_date (version_key index.secret) (λ _. refl) rows date none) is.versions;
  texts = none_less dates date (map (text_key index.secret) rows) index.by_text.keys (none_of_date (text_key index.secret) (λ _. refl) rows date none) is.texts;
  bits = is.bits;
}

-- ---- what an answer says, and what follows from it

pub on_ok : {A B : Type 0} {P Q : Type 0} (answer : Result A B) → OnOk answer P → (P → Q) → OnOk answer Q
on_ok (Ok value) says follows = follows says
on_ok (Err error) says follows = tt

pub on_err : {A B : Type 0} {P Q : Type 0} (answer : Result A B) → OnErr answer P → (P → Q) → OnErr answer Q
on_err (Ok value) says follows = tt
on_err (Err error) says follows = follows says

-- ---- the whole index

pub index_with : (rows : List StoredRow) (row : StoredRow) (old : RowIndex) (by_version by_text : Keys) → IsIndexOf rows old → IsIn64Bits (version_key old.secret row)
    → HasKeys (map (version_key old.secret) (rows ++ row ∷ [])) by_version.keys → HasKeys (map (text_key old.secret) (rows ++ row ∷ [])) by_text.keys
    → IsIndexOf (rows ++ row ∷ []) (record { secret = old.secret; by_version = by_version; by_text = by_text })
index_with rows row old by_version by_text index bits versions texts = record {
  versions = versions;
  texts = texts;
  bits = All-push (λ (row : StoredRow). IsIn64Bits (version_key old.secret row)) rows row index.bits bits;
}

pub all_but_last : (Rule : StoredRow → Type 0) (rows : List StoredRow) (row : StoredRow) → All Rule (rows ++ row ∷ []) → All Rule rows
all_but_last Rule rows row all =
    All-weaker (Contains rows) Rule (λ other here. All-contains Rule (rows ++ row ∷ []) other all (Contains-append_left rows (row ∷ []) other here)) rows
    (All-contains_itself rows)
