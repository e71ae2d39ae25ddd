-- Among which rows those stand that meet a query: after where a page may begin, or among an object's.
use Rattle.std.proofs.Common.{◌≡◌, ◌↔◌, ℕ, ◌+◌, ◌<◌, ◌≤◌, List, [], ◌∷◌, ◌++◌, true, length, get_or, Option, Some, IfSome, codes, inl, inr, refl, sym, subst, arith}
use Rattle.std.specs.List.{Contains}
use Rattle.std.specs.Cmp.Lexicographic.{bytes_decides}
use Rattle.std.proofs.lemmas.Bool.{and_from, eq-eqb}
use Rattle.std.proofs.lemmas.List.Elements.{All-contains, Contains-append_right, Contains-append_cases}
use Rattle.stix_ids.specs.declared.id.Id.{Id}
use Rattle.taxii_rows.specs.declared.stored_row.StoredRow.{StoredRow}
use Rattle.taxii_rows.specs.StoreState.{dates_of, AscendFrom}
use Rattle.taxii_rows.specs.Identity.{is_row_of}
use Rattle.taxii_routes.specs.declared.query.Query.{Query}
use Rattle.taxii_store.specs.Meeting.{MeetsQuery}
use Rattle.taxii_index.specs.Index.{AreRowsOf}
use Rattle.taxii_store.specs.inner.Candidates.{IsAddedAfter, CanMeet, AreCandidateRows, AreChosen}
use Rattle.taxii_store.proofs.CutLemmas.{at_least}
use Rattle.taxii_store.proofs.PageLemmas.{from_earlier}

can_meet : (rows : List StoredRow) (collection : ℕ) (only : Option Id) (query : Query) (row : StoredRow) → MeetsQuery rows collection only query row → CanMeet query row
can_meet rows collection only query row meets = record {
  behind = record { added = meets.asked.added; next = meets.asked.next };
  specs = meets.asked.specs;
}

ascend_behind : (passed later : List StoredRow) (least : ℕ) → AscendFrom least (dates_of (passed ++ later)) → AscendFrom least (dates_of later)
ascend_behind [] later least ascend = ascend
ascend_behind (row ∷ passed) later least ascend = from_earlier least (row.date + 1) later (omega (arith, ascend.0)) (ascend_behind passed later (row.date + 1) ascend.1)

-- after the rows that can't meet it
pub chosen_behind : (rows : List StoredRow) (collection : ℕ) (only : Option Id) (query : Query) (candidates : List StoredRow) → AscendFrom 1 (dates_of rows)
    → AreCandidateRows query rows candidates → AreChosen rows collection only query candidates
chosen_behind rows collection only query candidates ascend are = record {
  ascend = ascend_behind are.passed candidates 1 (subst (λ (all : List StoredRow). AscendFrom 1 (dates_of all)) are.all ascend);
  own = λ row here. subst (λ (all : List StoredRow). Contains all row) (sym are.all) (Contains-append_right are.passed candidates row here);
  every = λ row here meets.
      elim (Contains-append_cases are.passed candidates row (subst (λ (all : List StoredRow). Contains all row) are.all here)) [
        | inl before ↦ absurd (All-contains (λ row. ¬ CanMeet query row) are.passed row are.before before (can_meet rows collection only query row meets))
        | inr behind ↦ behind
      ];
}

-- ---- an object's

of_object : (collection : ℕ) (id : Id) (row : StoredRow) → row.collection ≡ collection → row.id ≡ id → is_row_of collection id row ≡ true
of_object collection id row its one = subst (λ (c : ℕ). is_row_of c id row ≡ true) its (subst (λ (i : Id). is_row_of row.collection i row ≡ true) one
    (and_from _ _ (eq-eqb row.collection row.collection refl) (and_from _ _ (eq-eqb row.id.number row.id.number refl) ((bytes_decides row.id.kind row.id.kind).1 refl))))

pub chosen_of_object : (rows : List StoredRow) (collection : ℕ) (id : Id) (query : Query) (found : List StoredRow) → AreRowsOf collection id rows found
    → AreChosen rows collection (Some id) query found
chosen_of_object rows collection id query found are = record {
  ascend = are.ascend;
  own = λ row here. ((are.each row).0 here).0;
  every = λ row here meets. (are.each row).1 (here, of_object collection id row meets.asked.its meets.asked.one);
}

pub none_chosen : (rows : List StoredRow) (collection : ℕ) (only : Option Id) (query : Query) → ¬ IfSome query.specs (λ specs. Contains specs (codes "2.1"))
    → AreChosen rows collection only query []
none_chosen rows collection only query never = record {
  ascend = tt;
  own = λ row here. absurd (omega (arith, here.1));
  every = λ row here meets. absurd (never meets.asked.specs);
}

-- ---- what can meet a query

dated : (rows : List StoredRow) (i : ℕ) (row : StoredRow) → AscendFrom 1 (dates_of rows) → i < length rows → row ≡ get_or rows i row → 0 < row.date
dated rows i row ascend within is =
    let least = at_least 1 rows i row ascend within in subst (λ (r : StoredRow). 0 < r.date) (sym is) (omega (arith, least))

-- a candidate can
pub candidate_can : (query : Query) (rows candidates : List StoredRow) (i : ℕ) (row : StoredRow) → AreCandidateRows query rows candidates
    → i < length candidates → row ≡ get_or candidates i row → CanMeet query row
candidate_can query rows candidates i row are within is = All-contains (CanMeet query) candidates row are.each (i, within, sym is)

-- of an object's rows those can that were added after where the query begins
pub own_can : (query : Query) (after : ℕ) (rows : List StoredRow) (i : ℕ) (row : StoredRow) → AscendFrom 1 (dates_of rows) → i < length rows → row ≡ get_or rows i row
    → ((date : ℕ) → 0 < date → (after < date) ↔ IsAddedAfter query date) → IfSome query.specs (λ specs. Contains specs (codes "2.1")) → after < row.date → CanMeet query row
own_can query after rows i row ascend within is begins version later = record {
  behind = (begins row.date (dated rows i row ascend within is)).0 later;
  specs = version;
}

-- and no other meets it
pub own_never : (store : List StoredRow) (collection : ℕ) (only : Option Id) (query : Query) (after : ℕ) (rows : List StoredRow) (i : ℕ) (row : StoredRow)
    → AscendFrom 1 (dates_of rows) → i < length rows → row ≡ get_or rows i row → ((date : ℕ) → 0 < date → (after < date) ↔ IsAddedAfter query date)
    → row.date ≤ after → ¬ MeetsQuery store collection only query row
own_never store collection only query after rows i row ascend within is begins early meets =
    let later = (begins row.date (dated rows i row ascend within is)).1 (can_meet store collection only query row meets).behind in omega (arith, early, later)
