-- What is told of an addition is one text.
use Rattle.std.proofs.Common.{◌≡◌, ◌⊎◌, inl, inr, ℕ, ◌+◌, ◌≤◌, List, [], ◌∷◌, sym, ap, subst, ◌∙◌, arith}
use Rattle.std.specs.Prelude.{take}
use Rattle.std.specs.List.{Contains}
use Rattle.std.proofs.lemmas.List.Elements.{Contains-append_cases, Contains-push_cases}
use Rattle.serde_json.specs.Written.{compact_text}
use Rattle.taxii_rows.specs.declared.stored_row.StoredRow.{StoredRow}
use Rattle.taxii_rows.specs.StoreState.{dates_of, AscendFrom}
use Rattle.taxii_store.specs.declared.add_outcome.AddOutcome.{AddOutcome}
use Rattle.taxii_bodies.specs.declared.details.Detail.{Detail}
use Rattle.taxii_bodies.specs.declared.status.StatusReport.{StatusReport}
use Rattle.taxii_bodies.specs.Details.{IsSuccessOf}
use Rattle.taxii_bodies.specs.Status.{status_data, IsStatus}
use Rattle.taxii_service.specs.declared.posted.Posted.{Posted}
use Rattle.taxii_service.specs.declared.posted.TheConstants.{MAX_DETAILS}
use Rattle.taxii_service.specs.Adding.{IsSuccess, IsStatusReport}
use Rattle.taxii_theorems.proofs.BodyLemmas.{OneText, one_each, one_version}
use Rattle.taxii_theorems.proofs.EntryLemmas.{IsSamePosted, one_moment, same_detail}

-- ---- rows by date

in_cases : (first : StoredRow) (rows : List StoredRow) (row : StoredRow) → Contains (first ∷ rows) row → (first ≡ row) ⊎ Contains rows row
in_cases first rows row held = elim (Contains-append_cases (first ∷ []) rows row held) [
  | inl one ↦ elim (Contains-push_cases [] first row one) [
    | inl none ↦ absurd (none_held row none)
    | inr same ↦ inl same
  ]
  | inr rest ↦ inr rest
]
  where
    none_held : (row : StoredRow) → Contains [] row → ⊥
    none_held row none = omega (arith, none.1)

least : (from : ℕ) (rows : List StoredRow) (row : StoredRow) → AscendFrom from (dates_of rows) → Contains rows row → from ≤ row.date
least from [] row ascend held = absurd (omega (arith, held.1))
least from (first ∷ rows) row ascend held = elim (in_cases first rows row held) [
  | inl same ↦ subst (λ (r : StoredRow). from ≤ r.date) same ascend.0
  | inr rest ↦ let later = least (first.date + 1) rows row ascend.1 rest in omega (arith, later, ascend.0)
]

-- one row has a date
one_row : (from : ℕ) (rows : List StoredRow) (row other : StoredRow) → AscendFrom from (dates_of rows) → Contains rows row → Contains rows other → row.date ≡ other.date → row ≡ other
one_row from [] row other ascend held also same = absurd (omega (arith, held.1))
one_row from (first ∷ rows) row other ascend held also same = go (in_cases first rows row held) (in_cases first rows other also) (λ its too. one_row (first.date + 1) rows row other ascend.1 its too same)
  where
    go : (first ≡ row) ⊎ Contains rows row → (first ≡ other) ⊎ Contains rows other → (Contains rows row → Contains rows other → row ≡ other) → row ≡ other
    go (inl is) (inl too) behind = sym is ∙ too
    go (inl is) (inr too) behind =
        let later = least (first.date + 1) rows other ascend.1 too in
        let date = ap (λ (r : StoredRow). r.date) is in absurd (omega (arith, later, date, same))
    go (inr is) (inl too) behind =
        let later = least (first.date + 1) rows row ascend.1 is in
        let date = ap (λ (r : StoredRow). r.date) too in absurd (omega (arith, later, date, same))
    go (inr is) (inr too) behind = behind is too

-- ---- the report

one_success : OneText → (rows : List StoredRow) → AscendFrom 1 (dates_of rows) → (outcome : AddOutcome) (first second : Detail) → IsSuccess rows outcome first → IsSuccess rows outcome second
    → first ≡ second
one_success one rows ascend outcome first second (row, held, date, its) (row_too, held_too, date_too, also) =
    let same : row ≡ row_too = one_row 1 rows row row_too ascend held held_too (date ∙ sym date_too) in
    let here : IsSuccessOf row_too first = subst (λ (r : StoredRow). IsSuccessOf r first) same its in
    same_detail first second (here.id ∙ sym also.id) (here.message ∙ sym also.message) (one_version one row_too first.version second.version here.version also.version)

same_report : (a b : StatusReport) → a.number ≡ b.number → a.moment ≡ b.moment → a.successes ≡ b.successes → a.failures ≡ b.failures
    → a.success_count ≡ b.success_count → a.failure_count ≡ b.failure_count → a ≡ b
same_report a b number moment successes failures success_count failure_count =
    let one : record { number = a.number; moment = a.moment; successes = a.successes; failures = a.failures; success_count = a.success_count; failure_count = a.failure_count }
    ≡ record { number = b.number; moment = b.moment; successes = b.successes; failures = b.failures; success_count = b.success_count; failure_count = b.failure_count } =
    cc (number, moment, successes, failures, success_count, failure_count) in one

one_report : OneText → (number moment : ℕ) (posted posted_too : Posted) (outcomes : List AddOutcome) (rows : List StoredRow) (first second : StatusReport) → AscendFrom 1 (dates_of rows)
    → IsSamePosted posted posted_too → IsStatusReport number moment posted outcomes rows first → IsStatusReport number moment posted_too outcomes rows second → first ≡ second
one_report one number moment posted posted_too outcomes rows first second ascend same its also = same_report first second
    (its.number_is ∙ sym also.number_is)
    (its.moment_is ∙ sym also.moment_is)
    (one_each (IsSuccess rows) (one_success one rows ascend) (take MAX_DETAILS outcomes) first.successes second.successes its.successes also.successes)
    (its.failures ∙ same.failures ∙ sym also.failures)
    (its.success_count ∙ sym also.success_count)
    (its.failure_count ∙ same.count ∙ sym also.failure_count)

one_status : OneText → (report : StatusReport) (first second : List ℕ) → IsStatus report first → IsStatus report second → first ≡ second
one_status one report first second its also =
    its.text_is ∙ ap (λ (m : List ℕ). compact_text (status_data report m)) (one_moment one report.moment its.moment also.moment its.moment_is also.moment_is) ∙ sym also.text_is

pub one_text_of_report : OneText → (number moment : ℕ) (posted posted_too : Posted) (outcomes : List AddOutcome) (rows : List StoredRow) (first second : StatusReport) (text other : List ℕ)
    → AscendFrom 1 (dates_of rows) → IsSamePosted posted posted_too → IsStatusReport number moment posted outcomes rows first → IsStatusReport number moment posted_too outcomes rows second
    → IsStatus first text → IsStatus second other → text ≡ other
one_text_of_report one number moment posted posted_too outcomes rows first second text other ascend same its also told told_too =
    let report : first ≡ second = one_report one number moment posted posted_too outcomes rows first second ascend same its also in
    one_status one second text other (subst (λ (r : StatusReport). IsStatus r text) report told) told_too
