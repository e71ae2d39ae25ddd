-- The dates that a deletion takes of an object's rows.
use Rattle.std.proofs.Common.{◌≡◌, ◌⊎◌, inl, inr, ℕ, zero, suc, ◌+◌, ◌<◌, ◌≤◌, List, [], ◌∷◌, ◌++◌, length, take, get_or, All, sym, ap, subst, ◌∙◌, arith}
use Rattle.std.specs.List.{Contains}
use Rattle.std.proofs.Math.Seq.{take-suc}
use Rattle.std.proofs.lemmas.List.Elements.{All-head, All-tail, All-weaker, All-contains_itself, Contains-append_left, Contains-append_cases, Contains-push, Contains-push_cases}
use Rattle.stix_ids.specs.declared.id.Id.{Id}
use Rattle.stix_ids.specs.declared.pick.Pick.{Pick}
use Rattle.taxii_rows.specs.declared.stored_row.StoredRow.{StoredRow}
use Rattle.taxii_rows.specs.StoreState.{dates_of, AscendFrom}
use Rattle.taxii_index.specs.Index.{AreRowsOf}
use Rattle.taxii_store.specs.Deleting.{IsDeletedRow, AreDatesTaken}

-- of these rows of a store, these are the dates of those that are taken
pub record AreTakenFrom (rows : List StoredRow) (collection : ℕ) (id : Id) (picks : List Pick) (first : List StoredRow) (dates : List ℕ) : Type 0 where
  pub ascend : AscendFrom 1 dates
  pub before : (date : ℕ) → Contains dates date → (row : StoredRow) × Contains first row × IsDeletedRow rows collection id picks row × (row.date ≡ date)
  pub all : (row : StoredRow) → Contains first row → IsDeletedRow rows collection id picks row → Contains dates row.date

pub none_taken : (rows : List StoredRow) (collection : ℕ) (id : Id) (picks : List Pick) (dates : List ℕ) → dates ≡ [] → AreTakenFrom rows collection id picks [] dates
none_taken rows collection id picks dates empty = subst (AreTakenFrom rows collection id picks []) (sym empty) (record {
  ascend = tt;
  before = λ date there. absurd (omega (arith, there.1));
  all = λ row there its_taken. absurd (omega (arith, there.1));
})

-- ---- one row more

in_cases : (x : StoredRow) (xs : List StoredRow) (r : StoredRow) → Contains (x ∷ xs) r → (x ≡ r) ⊎ Contains xs r
in_cases x xs r h = elim (Contains-append_cases (x ∷ []) xs r h) [
  | inl one ↦ elim (Contains-push_cases [] x r one) [
    | inl none ↦ absurd (omega (arith, none.1))
    | inr same ↦ inl same
  ]
  | inr rest ↦ inr rest
]

at_least : (n : ℕ) (rows : List StoredRow) (i : ℕ) (d : StoredRow) → AscendFrom n (dates_of rows) → i < length rows → n ≤ (get_or rows i d).date
at_least n [] i d ascend within = absurd (omega (arith, within))
at_least n (row ∷ rows) zero d ascend within = ascend.0
at_least n (row ∷ rows) (suc i) d ascend within =
    let rest = at_least (row.date + 1) rows i d ascend.1 (omega (arith, within)) in omega (arith, rest, ascend.0)

later_date : (n : ℕ) (rows : List StoredRow) (i : ℕ) (d row : StoredRow) → AscendFrom n (dates_of rows) → i < length rows → Contains (take i rows) row
    → row.date < (get_or rows i d).date
later_date n [] i d row ascend within there = absurd (omega (arith, within))
later_date n (first ∷ rows) zero d row ascend within there = absurd (omega (arith, there.1))
later_date n (first ∷ rows) (suc i) d row ascend within there = go (in_cases first (take i rows) row there)
    (at_least (first.date + 1) rows i d ascend.1 (omega (arith, within)))
    (λ rest. later_date (first.date + 1) rows i d row ascend.1 (omega (arith, within)) rest)
  where
    go : (first ≡ row) ⊎ Contains (take i rows) row → first.date + 1 ≤ (get_or rows i d).date
        → (Contains (take i rows) row → row.date < (get_or rows i d).date) → row.date < (get_or rows i d).date
    go (inl same) least rest = subst (λ (r : StoredRow). r.date < (get_or rows i d).date) same (omega (arith, least))
    go (inr there_too) least rest = rest there_too

dates_pushed : (n date : ℕ) (dates : List ℕ) → AscendFrom n dates → n ≤ date → All (λ one. one < date) dates → AscendFrom n (dates ++ date ∷ [])
dates_pushed n date [] ascend from before = (from, tt)
dates_pushed n date (first ∷ dates) ascend from before =
    let here = All-head (λ one. one < date) first dates before in
    (ascend.0, dates_pushed (first + 1) date dates ascend.1 (omega (arith, here)) (All-tail (λ one. one < date) first dates before))

all_from : (P : ℕ → Type 0) (dates : List ℕ) → ((date : ℕ) → Contains dates date → P date) → All P dates
all_from P dates each = All-weaker (Contains dates) P each dates (All-contains_itself dates)

pub taken_more : (rows walked : List StoredRow) (collection : ℕ) (id : Id) (picks : List Pick) (i : ℕ) (row : StoredRow) (dates : List ℕ)
    → AscendFrom 1 (dates_of walked) → i < length walked → row ≡ get_or walked i row → AreTakenFrom rows collection id picks (take i walked) dates
    → IsDeletedRow rows collection id picks row → AreTakenFrom rows collection id picks (take (suc i) walked) (dates ++ row.date ∷ [])
taken_more rows walked collection id picks i row dates ascend within its taken here =
    let more = take-suc walked i row within ∙ ap (λ (r : StoredRow). take i walked ++ r ∷ []) (sym its) in
    let earlier = λ (date : ℕ) (there : Contains dates date).
    let (held, among, _, is) = taken.before date there in
    subst (λ (n : ℕ). n < row.date) is (subst (λ (r : StoredRow). held.date < r.date) (sym its) (later_date 1 walked i row held ascend within among)) in record {
      ascend = dates_pushed 1 row.date dates taken.ascend
          (subst (λ (r : StoredRow). 1 ≤ r.date) (sym its) (at_least 1 walked i row ascend within))
          (all_from (λ one. one < row.date) dates earlier);
      before = λ date there. elim (Contains-push_cases dates row.date date there) [
        | inl held ↦
            let (one, among, its_taken, is) = taken.before date held in
            (one, subst (λ (rs : List StoredRow). Contains rs one) (sym more) (Contains-append_left (take i walked) (row ∷ []) one among), its_taken, is)
        | inr same ↦ (row, subst (λ (rs : List StoredRow). Contains rs row) (sym more) (Contains-push (take i walked) row), here, same)
      ];
      all = λ one there its_taken. elim (Contains-push_cases (take i walked) row one (subst (λ (rs : List StoredRow). Contains rs one) more there)) [
        | inl held ↦ Contains-append_left dates (row.date ∷ []) one.date (taken.all one held its_taken)
        | inr same ↦ subst (λ (r : StoredRow). Contains (dates ++ row.date ∷ []) r.date) same (Contains-push dates row.date)
      ];
    }

pub taken_same : (rows walked : List StoredRow) (collection : ℕ) (id : Id) (picks : List Pick) (i : ℕ) (row : StoredRow) (dates : List ℕ)
    → i < length walked → row ≡ get_or walked i row → AreTakenFrom rows collection id picks (take i walked) dates
    → ¬ IsDeletedRow rows collection id picks row → AreTakenFrom rows collection id picks (take (suc i) walked) dates
taken_same rows walked collection id picks i row dates within its taken never =
    let more = take-suc walked i row within ∙ ap (λ (r : StoredRow). take i walked ++ r ∷ []) (sym its) in record {
      ascend = taken.ascend;
      before = λ date there.
          let (one, among, its_taken, is) = taken.before date there in
          (one, subst (λ (rs : List StoredRow). Contains rs one) (sym more) (Contains-append_left (take i walked) (row ∷ []) one among), its_taken, is);
      all = λ one there its_taken. elim (Contains-push_cases (take i walked) row one (subst (λ (rs : List StoredRow). Contains rs one) more there)) [
        | inl held ↦ taken.all one held its_taken
        | inr same ↦ absurd (never (subst (IsDeletedRow rows collection id picks) (sym same) its_taken))
      ];
    }

-- where these are all rows of the object, the dates are those that the deletion takes
pub all_taken : (rows walked : List StoredRow) (collection : ℕ) (id : Id) (picks : List Pick) (dates : List ℕ) → AreRowsOf collection id rows walked
    → AreTakenFrom rows collection id picks walked dates → AreDatesTaken rows collection id picks dates
all_taken rows walked collection id picks dates are taken = record {
  ascend = taken.ascend;
  each = λ date. (
    λ there. let (row, among, its_taken, is) = taken.before date there in (row, ((are.each row).0 among).0, its_taken, is),
    λ row. subst (Contains dates) row.3 (taken.all row.0 ((are.each row.0).1 (row.1, row.2.its)) row.2),
  );
}
