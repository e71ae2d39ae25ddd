-- Rows of one object have one name, and rows of one text of it have one.
use Rattle.std.proofs.Common.{◌≡◌, ℕ, List, true, refl, sym, ap, ◌∙◌, subst, bytes_eq}
use Rattle.std.specs.Cmp.Lexicographic.{same_text, bytes_decides}
use Rattle.std.proofs.lemmas.Bool.{and_parts, and_from, eqb-true, eq-eqb}
use Rattle.stix_ids.specs.declared.id.Id.{Id}
use Rattle.taxii_rows.specs.declared.stored_row.StoredRow.{StoredRow}
use Rattle.taxii_rows.specs.Identity.{is_id, is_row_of}
use Rattle.taxii_index.specs.Names.{name_of, text_name_of}

one_id : (id other : Id) → is_id id other ≡ true → id ≡ other
one_id id other holds =
    let parts = and_parts _ (bytes_eq id.kind other.kind) holds in
    let kind : id.kind ≡ other.kind = same_text id.kind other.kind (sym parts.1) in
    let number : id.number ≡ other.number = eqb-true id.number other.number parts.0 in
    ap (λ (k : List ℕ). let made : Id = record { kind = k; number = id.number } in made) kind
    ∙ ap (λ (n : ℕ). let made : Id = record { kind = other.kind; number = n } in made) number

pub one_object : (collection : ℕ) (id : Id) (row : StoredRow) → is_row_of collection id row ≡ true → (row.collection ≡ collection) × (row.id ≡ id)
one_object collection id row holds =
    let parts = and_parts _ (is_id row.id id) holds in (eqb-true row.collection collection parts.0, one_id row.id id parts.1)

-- a row is of its own object
pub itself : (row : StoredRow) → is_row_of row.collection row.id row ≡ true
itself row = and_from _ _ (eq-eqb row.collection row.collection refl)
    (and_from _ _ (eq-eqb row.id.number row.id.number refl) ((bytes_decides row.id.kind row.id.kind).1 refl))

pub of_object : (collection : ℕ) (id : Id) (row : StoredRow) → row.collection ≡ collection → row.id ≡ id → is_row_of collection id row ≡ true
of_object collection id row its one =
    subst (λ (c : ℕ). is_row_of c id row ≡ true) its (subst (λ (i : Id). is_row_of row.collection i row ≡ true) one (itself row))

pub one_name : (secret collection : ℕ) (id : Id) (row : StoredRow) → is_row_of collection id row ≡ true → name_of secret row.collection row.id ≡ name_of secret collection id
one_name secret collection id row holds =
    let same = one_object collection id row holds in ap (λ (c : ℕ). name_of secret c row.id) same.0 ∙ ap (name_of secret collection) same.1

pub one_text_name : (secret collection : ℕ) (id : Id) (body : List ℕ) (row : StoredRow) → is_row_of collection id row ≡ true → bytes_eq row.body body ≡ true
    → text_name_of secret row.collection row.id row.body ≡ text_name_of secret collection id body
one_text_name secret collection id body row holds text =
    let same = one_object collection id row holds in
    ap (λ (c : ℕ). text_name_of secret c row.id row.body) same.0 ∙ ap (λ (i : Id). text_name_of secret collection i row.body) same.1
    ∙ ap (text_name_of secret collection id) (same_text row.body body (sym text))
