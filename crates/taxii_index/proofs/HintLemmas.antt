-- Hints: what they tell stays so where rows come, and of the rows that stay where others go.
use Rattle.std.proofs.Common.{◌≡◌, ◌≢◌, ℕ, zero, suc, ◌+◌, ◌<◌, List, [], ◌∷◌, ◌++◌, Bool, true, false, cond, not, All, filter, take, length, get_or, leb, inl, inr, refl, sym, ap, ◌∙◌, subst, arith}
use Rattle.std.specs.List.{Contains}
use Rattle.std.proofs.lemmas.Bool.{cases_Bool, leb-false, not-true, not_from_false}
use Rattle.std.proofs.lemmas.List.Elements.{All-weaker, All-contains, All-contains_itself, All-map, Contains-append_left}
use Rattle.stix_ids.specs.declared.id.Id.{Id}
use Rattle.stix_ids.specs.declared.pick.Pick.TheVariants.{Last, First}
use Rattle.taxii_rows.specs.declared.stored_row.StoredRow.{StoredRow}
use Rattle.taxii_rows.specs.StoreState.{dates_of, AscendFrom}
use Rattle.taxii_rows.specs.Keeper.{is_date_in}
use Rattle.taxii_rows.specs.Identity.{is_row_of}
use Rattle.taxii_rows.specs.Picking.{IsPickedBy}
use Rattle.taxii_index.specs.declared.hints.Hint.{Hint}
use Rattle.taxii_index.specs.Index.{IsBefore}
use Rattle.taxii_index.specs.Hints.{ComesBefore, IsTrueOf, AreTrueOf, forgotten, hints_without}
use Rattle.taxii_index.proofs.ListLemmas.{nothing, first, later, cons_cases, same_element, Contains-filter, Contains-from_filter}
use Rattle.taxii_index.proofs.NameLemmas.{one_object, itself}
use Rattle.taxii_index.proofs.RowLemmas.{one_row, least_row}
use Rattle.taxii_index.proofs.LookUpLemmas.{never_both_ways}

all_of : {X : Type 0} (P : X → Type 0) (xs : List X) → ((x : X) → Contains xs x → P x) → All P xs
all_of P xs each = All-weaker (Contains xs) P each xs (All-contains_itself xs)

-- ---- among other rows

pub before_among : (rows others : List StoredRow) (d e : ℕ) (before : ComesBefore rows d e) → Contains others before.row → Contains others before.other → ComesBefore others d e
before_among rows others d e before row other = record {
  row = before.row;
  other = before.other;
  row_here = row;
  other_here = other;
  row_date = before.row_date;
  other_date = before.other_date;
  its = before.its;
  before = before.before;
}

grown : (rows more : List StoredRow) (d e : ℕ) → ComesBefore rows d e → ComesBefore (rows ++ more) d e
grown rows more d e before =
    before_among rows (rows ++ more) d e before (Contains-append_left rows more before.row before.row_here) (Contains-append_left rows more before.other before.other_here)

-- more rows
pub true_of_more : (rows more : List StoredRow) (hints : List Hint) → AreTrueOf rows hints → AreTrueOf (rows ++ more) hints
true_of_more rows more hints are = All-weaker (IsTrueOf rows) (IsTrueOf (rows ++ more))
    (λ hint is. record {
      later = λ some. grown rows more hint.date hint.later (is.later some);
      earlier = λ some. grown rows more hint.earlier hint.date (is.earlier some);
    }) hints are

-- ---- fewer rows

not_gone : (gone : ℕ → Bool) (date : ℕ) → cond (gone date) 0 date ≢ 0 → (gone date ≡ false) × (cond (gone date) 0 date ≡ date)
not_gone gone date some = elim (cases_Bool (gone date)) [
  | inl holds ↦ absurd (some (ap (λ (b : Bool). cond b 0 date) holds))
  | inr fails ↦ (fails, ap (λ (b : Bool). cond b 0 date) fails)
]

kept_before : (gone : ℕ → Bool) (rows kept : List StoredRow) (d e : ℕ) → ((row : StoredRow) → Contains rows row → gone row.date ≡ false → Contains kept row)
    → gone d ≡ false → gone e ≡ false → ComesBefore rows d e → ComesBefore kept d e
kept_before gone rows kept d e stays first second before = before_among rows kept d e before
    (stays before.row before.row_here (ap gone before.row_date ∙ first))
    (stays before.other before.other_here (ap gone before.other_date ∙ second))

forgotten_true : (gone : ℕ → Bool) (rows kept : List StoredRow) (hint : Hint) → ((row : StoredRow) → Contains rows row → gone row.date ≡ false → Contains kept row)
    → gone hint.date ≡ false → IsTrueOf rows hint → IsTrueOf kept (forgotten gone hint)
forgotten_true gone rows kept hint stays own is = record {
  later = λ some.
      let other = not_gone gone hint.later some in
      subst (ComesBefore kept hint.date) (sym other.1)
      (kept_before gone rows kept hint.date hint.later stays own other.0 (is.later (λ none. some (other.1 ∙ none))));
  earlier = λ some.
      let other = not_gone gone hint.earlier some in
      subst (λ (d : ℕ). ComesBefore kept d hint.date) (sym other.1)
      (kept_before gone rows kept hint.earlier hint.date stays other.0 own (is.earlier (λ none. some (other.1 ∙ none))));
}

-- the hints of the rows that stay
pub true_of_kept : (gone : ℕ → Bool) (rows kept : List StoredRow) (hints : List Hint) → ((row : StoredRow) → Contains rows row → gone row.date ≡ false → Contains kept row)
    → AreTrueOf rows hints → AreTrueOf kept (hints_without gone hints)
true_of_kept gone rows kept hints stays are =
    let left = filter (λ (hint : Hint). not (gone hint.date)) hints in
    All-map (IsTrueOf kept) (forgotten gone) left (all_of (λ hint. IsTrueOf kept (forgotten gone hint)) left (λ hint here.
    let found = Contains-from_filter (λ (m : Hint). not (gone m.date)) hints hint here in
    forgotten_true gone rows kept hint stays (not-true (gone hint.date) found.1) (All-contains (IsTrueOf rows) hints hint are found.0)))

-- ---- what they tell of the row of a date

pub not_last : (rows : List StoredRow) (row : StoredRow) (later : ℕ) → AscendFrom 1 (dates_of rows) → Contains rows row → ComesBefore rows row.date later → IsPickedBy Last rows row → ⊥
not_last rows row later ascend here before picked =
    let same : before.row ≡ row = one_row rows before.row row ascend before.row_here here before.row_date in
    let its = subst (λ (r : StoredRow). is_row_of r.collection r.id before.other ≡ true) same before.its in
    never_both_ways row before.other (picked before.other before.other_here its) (subst (λ (r : StoredRow). IsBefore r before.other) same before.before)

turned : (row other : StoredRow) → is_row_of row.collection row.id other ≡ true → is_row_of other.collection other.id row ≡ true
turned row other its =
    let same = one_object row.collection row.id other its in
    subst (λ (c : ℕ). is_row_of c other.id row ≡ true) (sym same.0) (subst (λ (id : Id). is_row_of row.collection id row ≡ true) (sym same.1) (itself row))

pub not_first : (rows : List StoredRow) (row : StoredRow) (earlier : ℕ) → AscendFrom 1 (dates_of rows) → Contains rows row → ComesBefore rows earlier row.date → IsPickedBy First rows row → ⊥
not_first rows row earlier ascend here before picked =
    let same : before.other ≡ row = one_row rows before.other row ascend before.other_here here before.other_date in
    let its = subst (λ (r : StoredRow). is_row_of r.collection r.id before.row ≡ true) same (turned before.row before.other before.its) in
    never_both_ways before.row row (picked before.row before.row_here its) (subst (λ (r : StoredRow). IsBefore before.row r) same before.before)

-- ---- the rows in front of a position are those before its date

kept_front : (least : ℕ) (rows : List StoredRow) (at : ℕ) (d row : StoredRow) → AscendFrom least (dates_of rows) → at < length rows → Contains rows row
    → leb (get_or rows at d).date row.date ≡ false → Contains (take at rows) row
kept_front least [] at d row ascend within here before = absurd (nothing row here)
kept_front least (one ∷ rows) zero d row ascend within here before =
    let less : row.date < one.date = leb-false one.date row.date before in
    elim (cons_cases one row rows here) [
      | inl same ↦ absurd (omega (arith, less, ap (λ (r : StoredRow). r.date) same))
      | inr rest ↦ absurd (omega (arith, less, least_row (one.date + 1) rows row ascend.1 rest))
    ]
kept_front least (one ∷ rows) (suc at) d row ascend within here before = elim (cons_cases one row rows here) [
  | inl same ↦ same_element one row (one ∷ take at rows) same (first one (take at rows))
  | inr rest ↦ later one row (take at rows) (kept_front (one.date + 1) rows at d row ascend.1 (omega (arith, within)) rest before)
]

pub stays_in_front : (rows : List StoredRow) (at : ℕ) (d : StoredRow) → AscendFrom 1 (dates_of rows) → at < length rows
    → (row : StoredRow) → Contains rows row → leb (get_or rows at d).date row.date ≡ false → Contains (take at rows) row
stays_in_front rows at d ascend within row here before = kept_front 1 rows at d row ascend within here before

pub stays_without : (dates : List ℕ) (rows : List StoredRow) → (row : StoredRow) → Contains rows row → is_date_in dates row.date ≡ false
    → Contains (filter (λ (row : StoredRow). not (is_date_in dates row.date)) rows) row
stays_without dates rows row here apart =
    Contains-filter (λ (row : StoredRow). not (is_date_in dates row.date)) rows row here (not_from_false (is_date_in dates row.date) apart)

-- ---- an element is found again

pub get_or_again : {X : Type 0} (xs : List X) (i : ℕ) (d : X) → get_or xs i d ≡ get_or xs i (get_or xs i d)
get_or_again [] i d = refl
get_or_again (x ∷ xs) zero d = refl
get_or_again (x ∷ xs) (suc i) d = get_or_again xs i d
