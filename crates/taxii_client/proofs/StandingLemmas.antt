-- Objects that stand in a store after an addition, and rows of which none stands twice.
use Rattle.std.proofs.Common.{◌≡◌, ◌≢◌, ℕ, ℤ, pos, ◌+◌, List, [], ◌∷◌, ◌++◌, Bool, true, false, Option, Some, None, MatchOption, All, is_some, unwrap_or, bytes_eq, refl, sym, ap, subst, ◌∙◌, append_assoc}
use Rattle.std.specs.Prelude.{◌&&◌}
use Rattle.std.specs.List.{Contains}
use Rattle.std.specs.Ordering.{int_eq, is_eq}
use Rattle.std.specs.Cmp.Lexicographic.{bytes_decides}
use Rattle.std.proofs.lemmas.Bool.{and_from, false≢true}
use Rattle.std.proofs.lemmas.Cmp.{int_cmp_total, tied_itself}
use Rattle.std.proofs.lemmas.List.{append-nil}
use Rattle.std.proofs.lemmas.List.Elements.{All-cons, All-nil, All-weaker, Contains-append_left, Contains-push, All-contains_itself}
use Rattle.taxii_rows.specs.declared.stored_row.StoredRow.{StoredRow}
use Rattle.taxii_rows.specs.declared.described.Described.{Described}
use Rattle.taxii_rows.specs.Described.{stored_row_of}
use Rattle.taxii_rows.specs.Identity.{is_row_of}
use Rattle.taxii_index.specs.Presence.{agrees, is_duplicate, duplicate_of}
use Rattle.taxii_index.proofs.ListLemmas.{first, later}
use Rattle.taxii_index.proofs.NameLemmas.{of_object}
use Rattle.taxii_index.proofs.RowLemmas.{find_passes, find_nothing}
use Rattle.taxii_store.specs.declared.add_outcome.AddOutcome.{AddOutcome}
use Rattle.taxii_store.specs.declared.add_outcome.AddOutcome.TheVariants.{Added, Present}
use Rattle.taxii_store.specs.Addition.{AddsObjects}
use Rattle.taxii_client.specs.Standing.{IsStored, AreApart, AreStoredOnce}

-- ---- the row of an object

int_itself : (version : ℤ) → int_eq version version ≡ true
int_itself version = ap is_eq (tied_itself int_cmp_total version)

text_itself : (body : List ℕ) → bytes_eq body body ≡ true
text_itself body = (bytes_decides body body).1 refl

agrees_itself : (observable : Option ℤ) (body : List ℕ) (row : StoredRow) → row.dated ≡ is_some observable → row.version ≡ unwrap_or observable row.version → row.body ≡ body
    → agrees observable body row ≡ true
agrees_itself (Some version) body row dated its same =
    and_from row.dated (int_eq row.version version) dated (ap (λ (v : ℤ). int_eq v version) its ∙ int_itself version)
agrees_itself None body row dated its same = ap (λ (b : List ℕ). bytes_eq b body) same ∙ text_itself body

unwrapped : (observable : Option ℤ) (date : ℕ) → unwrap_or observable (pos date) ≡ unwrap_or observable (unwrap_or observable (pos date))
unwrapped None date = refl
unwrapped (Some version) date = refl

-- the row that an object becomes makes it present
row_same : (object : Described) (date collection : ℕ) → is_duplicate collection object (stored_row_of object date collection) ≡ true
row_same object date collection =
    let row = stored_row_of object date collection in
    and_from (is_row_of collection object.id row) (agrees object.version object.body row) (of_object collection object.id row refl refl)
    (agrees_itself object.version object.body row refl (unwrapped object.version date) refl)

-- ---- what stands

pub stands_behind : (collection : ℕ) (object : Described) (rows more : List StoredRow) → IsStored collection object rows → IsStored collection object (rows ++ more)
stands_behind collection object rows more stands = record { row = stands.row; among = Contains-append_left rows more stands.row stands.among; same = stands.same }

stands_found : (collection : ℕ) (object : Described) (rows : List StoredRow) (row : StoredRow) → duplicate_of collection object rows ≡ Some row → IsStored collection object rows
stands_found collection object rows row found =
    let passes = find_passes (is_duplicate collection object) rows row found in record { row = row; among = passes.0; same = passes.1 }

stands_added : (collection date : ℕ) (object : Described) (rows : List StoredRow) → IsStored collection object (rows ++ stored_row_of object date collection ∷ [])
stands_added collection date object rows = record {
  row = stored_row_of object date collection;
  among = Contains-push rows (stored_row_of object date collection);
  same = row_same object date collection;
}

-- what an object becomes, by the row that makes it present
abbrev Next : ℕ → ℕ → List StoredRow → Described → List Described → List AddOutcome → List StoredRow → Option StoredRow → Type 0
Next collection date rows object objects outcomes new found = MatchOption found
    ((others : List AddOutcome) × (more : List StoredRow)
    × (outcomes ≡ Added date ∷ others) × (new ≡ stored_row_of object date collection ∷ more)
    × AddsObjects collection (date + 1) (rows ++ stored_row_of object date collection ∷ []) objects others more)
    (λ row. (others : List AddOutcome) × (outcomes ≡ Present row.date ∷ others) × AddsObjects collection date rows objects others new)

abbrev AllStand : ℕ → List Described → List StoredRow → Type 0
AllStand collection objects rows = All (λ object. IsStored collection object rows) objects

-- each object of an addition stands after it
pub added_stand : (collection date : ℕ) (rows : List StoredRow) (objects : List Described) (outcomes : List AddOutcome) (new : List StoredRow)
    → AddsObjects collection date rows objects outcomes new → AllStand collection objects (rows ++ new)
added_stand collection date rows [] outcomes new adds = All-nil (λ object. IsStored collection object (rows ++ new))
added_stand collection date rows (object ∷ objects) outcomes new adds =
    go (duplicate_of collection object rows) refl adds (λ others. added_stand collection date rows objects others new)
    (λ others more. added_stand collection (date + 1) (rows ++ row ∷ []) objects others more)
  where
    row : StoredRow
    row = stored_row_of object date collection

    go : (found : Option StoredRow) → duplicate_of collection object rows ≡ found → Next collection date rows object objects outcomes new found
        → ((others : List AddOutcome) → AddsObjects collection date rows objects others new → AllStand collection objects (rows ++ new))
        → ((others : List AddOutcome) (more : List StoredRow) → AddsObjects collection (date + 1) (rows ++ row ∷ []) objects others more
        → AllStand collection objects ((rows ++ row ∷ []) ++ more))
        → AllStand collection (object ∷ objects) (rows ++ new)
    go (Some held) found (others, out, rest) again behind =
        All-cons (λ one. IsStored collection one (rows ++ new)) object objects
        (stands_behind collection object rows new (stands_found collection object rows held found)) (again others rest)
    go None found (others, more, out, is, rest) again behind =
        let joined : (rows ++ row ∷ []) ++ more ≡ rows ++ new = append_assoc rows (row ∷ []) more ∙ ap (λ (rs : List StoredRow). rows ++ rs) (sym is) in
        subst (AllStand collection (object ∷ objects)) joined
        (All-cons (λ one. IsStored collection one ((rows ++ row ∷ []) ++ more)) object objects
        (stands_behind collection object (rows ++ row ∷ []) more (stands_added collection date object rows)) (behind others more rest))

not_none : (collection : ℕ) (object : Described) (rows : List StoredRow) → IsStored collection object rows → duplicate_of collection object rows ≡ None → ⊥
not_none collection object rows stands none =
    false≢true (sym (find_nothing (is_duplicate collection object) rows stands.row none stands.among) ∙ stands.same)

-- where each object stands already no row is new
pub none_new : (collection date : ℕ) (rows : List StoredRow) (objects : List Described) (outcomes : List AddOutcome) (new : List StoredRow)
    → ((object : Described) → Contains objects object → IsStored collection object rows) → AddsObjects collection date rows objects outcomes new → new ≡ []
none_new collection date rows [] outcomes new stand adds = adds.1
none_new collection date rows (object ∷ objects) outcomes new stand adds =
    go (duplicate_of collection object rows) refl adds
    (λ others. none_new collection date rows objects others new (λ one here. stand one (later object one objects here)))
  where
    go : (found : Option StoredRow) → duplicate_of collection object rows ≡ found → Next collection date rows object objects outcomes new found
        → ((others : List AddOutcome) → AddsObjects collection date rows objects others new → new ≡ []) → new ≡ []
    go (Some held) found (others, out, rest) again = again others rest
    go None found (others, more, out, is, rest) again = absurd (not_none collection object rows (stand object (first object objects)) found)

-- ---- rows that stand once

version_apart : (object : Described) (date collection : ℕ) (observable : Option ℤ) (row : StoredRow) → agrees observable object.body row ≡ false → observable ≡ object.version
    → row.dated ≡ true → is_some object.version ≡ true → (stored_row_of object date collection).version ≢ row.version
version_apart object date collection None row differs is dated observable same = absurd (false≢true (ap is_some is ∙ observable))
version_apart object date collection (Some version) row differs is dated observable same =
    let its : version ≡ row.version = ap (λ (o : Option ℤ). unwrap_or o (pos date)) is ∙ same in
    false≢true (sym differs ∙ and_from row.dated (int_eq row.version version) dated (ap (λ (v : ℤ). int_eq row.version v) its ∙ int_itself row.version))

text_apart : (object : Described) (observable : Option ℤ) (row : StoredRow) → agrees observable object.body row ≡ false → observable ≡ object.version
    → is_some object.version ≡ false → object.body ≢ row.body
text_apart object None row differs is none same =
    false≢true (sym differs ∙ ap (λ (b : List ℕ). bytes_eq row.body b) same ∙ text_itself row.body)
text_apart object (Some version) row differs is none same = absurd (false≢true (sym none ∙ sym (ap is_some is)))

-- the row that an object becomes is apart from a row that doesn't make it present
apart_from : (collection date : ℕ) (object : Described) (row : StoredRow) → is_duplicate collection object row ≡ false → AreApart (stored_row_of object date collection) row
apart_from collection date object row other = record {
  dated = λ one id its dated. version_apart object date collection object.version row (differs (sym one) (sym id)) refl dated its;
  undated = λ one id its undated. text_apart object object.version row (differs (sym one) (sym id)) refl its;
}
  where
    differs : row.collection ≡ collection → row.id ≡ object.id → agrees object.version object.body row ≡ false
    differs one id =
        sym (ap (λ (b : Bool). b && agrees object.version object.body row) (of_object collection object.id row one id)) ∙ other

-- the new rows of an addition stand once
pub added_once : (collection date : ℕ) (rows : List StoredRow) (objects : List Described) (outcomes : List AddOutcome) (new : List StoredRow)
    → AddsObjects collection date rows objects outcomes new → AreStoredOnce rows new
added_once collection date rows [] outcomes new adds = subst (AreStoredOnce rows) (sym adds.1) tt
added_once collection date rows (object ∷ objects) outcomes new adds =
    go (duplicate_of collection object rows) refl adds (λ others. added_once collection date rows objects others new)
    (λ others more. added_once collection (date + 1) (rows ++ row ∷ []) objects others more)
  where
    row : StoredRow
    row = stored_row_of object date collection

    go : (found : Option StoredRow) → duplicate_of collection object rows ≡ found → Next collection date rows object objects outcomes new found
        → ((others : List AddOutcome) → AddsObjects collection date rows objects others new → AreStoredOnce rows new)
        → ((others : List AddOutcome) (more : List StoredRow) → AddsObjects collection (date + 1) (rows ++ row ∷ []) objects others more → AreStoredOnce (rows ++ row ∷ []) more)
        → AreStoredOnce rows new
    go (Some held) found (others, out, rest) again behind = again others rest
    go None found (others, more, out, is, rest) again behind =
        subst (AreStoredOnce rows) (sym is) (
          All-weaker (Contains rows) (AreApart row) (λ one here. apart_from collection date object one (find_nothing (is_duplicate collection object) rows one found here)) rows (All-contains_itself rows),
          behind others more rest,
        )

pub once_behind : (rows new more : List StoredRow) → AreStoredOnce rows new → AreStoredOnce (rows ++ new) more → AreStoredOnce rows (new ++ more)
once_behind rows [] more once behind = subst (λ (rs : List StoredRow). AreStoredOnce rs more) (append-nil rows) behind
once_behind rows (row ∷ new) more once behind = (
  once.0,
  once_behind (rows ++ row ∷ []) new more once.1
      (subst (λ (rs : List StoredRow). AreStoredOnce rs more) (sym (append_assoc rows (row ∷ []) new)) behind),
)
