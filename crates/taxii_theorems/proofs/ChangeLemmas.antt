-- A POST and a DELETE do one thing, or are refused for one cause.
use Rattle.std.proofs.Common.{◌≡◌, ◌⊎◌, inl, inr, ℕ, ◌+◌, ◌≤◌, List, [], ◌∷◌, ◌++◌, Bool, true, false, refl, sym, ap, subst, ◌∙◌, arith}
use Rattle.std.specs.Prelude.{codes, bytes_eq}
use Rattle.std.specs.List.{Contains}
use Rattle.std.proofs.lemmas.Slice.Eq.{bytes_eq-Decides}
use Rattle.std.proofs.lemmas.List.Elements.{Contains-append_left, Contains-append_right, Contains-append_cases, Contains-push, Contains-push_cases}
use Rattle.stix_ids.specs.declared.id.Id.{Id}
use Rattle.stix_ids.specs.declared.pick.Pick.{Pick}
use Rattle.http_messages.specs.declared.status.Status.TheVariants.{Accepted}
use Rattle.taxii_exchange.specs.declared.answer.Answer.{Answer}
use Rattle.taxii_routes.specs.declared.query.Query.{Query}
use Rattle.taxii_rows.specs.declared.stored_row.StoredRow.{StoredRow}
use Rattle.taxii_rows.specs.StoreState.{StoreState, dates_of, AscendFrom}
use Rattle.taxii_store.specs.Addition.{IsAddition}
use Rattle.taxii_store.specs.Deleting.{AreDatesTaken}
use Rattle.taxii_exchange.specs.declared.refusal.Refusal.{Refusal}
use Rattle.taxii_exchange.specs.AnswersToRequests.{body_answer}
use Rattle.taxii_service.specs.declared.state.State.{State}
use Rattle.taxii_exchange.specs.Statuses.{next_number}
use Rattle.taxii_service.specs.Posted.{IsNotJson, HasNoObjects, IsUnreadableBody, IsPosted}
use Rattle.taxii_service.specs.Adding.{IsAdding, CannotAdd, IsStatusReport, with_added}
use Rattle.taxii_service.specs.Deleting.{deleted_picks, AllowsStandard, AreDeleted, without_dates}
use Rattle.taxii_service.specs.Operation.{AddsBody, RemovesObject}
use Rattle.taxii_store.specs.History.{IsDated}
use Rattle.taxii_theorems.proofs.EntryLemmas.{Laws, IsSamePosted, one_posted, list_or_none}
use Rattle.taxii_theorems.proofs.AdditionLemmas.{one_addition, dates_left}
use Rattle.taxii_theorems.proofs.ReportLemmas.{one_text_of_report}

-- one answer, and one state
abbrev pub IsOne : Answer → Answer → State → State → Type 0
IsOne answer other first second = (answer ≡ other) × (first ≡ second)

-- ---- an addition

one_adding : Laws → (before : State) (collection moment : ℕ) (body : List ℕ) (new new_too : List StoredRow) (text other : List ℕ)
    → AscendFrom 1 (dates_of (before.library.rows ++ new_too)) → IsAdding before collection moment body new text → IsAdding before collection moment body new_too other
    → (new ≡ new_too) × (text ≡ other)
one_adding laws before collection moment body new new_too text other ascend its also =
    let posted : IsSamePosted its.posted also.posted = one_posted laws body moment its.posted also.posted its.posted_is also.posted_is in
    let addition = one_addition before.library collection moment also.posted.objects.items its.outcomes also.outcomes new new_too
    (subst (λ objects. IsAddition before.library collection moment objects its.outcomes new) posted.objects its.addition) also.addition in
    let here : IsStatusReport (next_number before.statuses) moment its.posted also.outcomes (before.library.rows ++ new_too) its.report =
    subst (λ outcomes. IsStatusReport (next_number before.statuses) moment its.posted outcomes (before.library.rows ++ new_too) its.report) addition.0
    (subst (λ (rows : List StoredRow). IsStatusReport (next_number before.statuses) moment its.posted its.outcomes (before.library.rows ++ rows) its.report) addition.1 its.report_is) in (
      addition.1,
      one_text_of_report laws.text (next_number before.statuses) moment its.posted also.posted also.outcomes (before.library.rows ++ new_too) its.report also.report text other
          ascend posted here also.report_is its.text_is also.text_is,
    )

ascends_after : (before after : State) (new : List StoredRow) (text : List ℕ) → IsDated after.library → after ≡ with_added new text before → AscendFrom 1 (dates_of (before.library.rows ++ new))
ascends_after before after new text dated same =
    subst (λ (rows : List StoredRow). AscendFrom 1 (dates_of rows)) (ap (λ (state : State). state.library.rows) same) dated.ascend

pub one_post : Laws → (before first second : State) (moment : ℕ) (body : List ℕ) (collection : ℕ) (answer other : Answer) → IsDated second.library
    → AddsBody before moment body collection answer first → AddsBody before moment body collection other second → IsOne answer other first second
one_post laws before first second moment body collection answer other dated its also =
    let one = one_adding laws before collection moment body its.new also.new its.text also.text (ascends_after before second also.new also.text dated also.after_is)
    its.adding also.adding in (
      its.answer_is ∙ ap (body_answer Accepted) one.1 ∙ sym also.answer_is,
      its.after_is ∙ ap (λ (rows : List StoredRow). with_added rows its.text before) one.0 ∙ ap (λ (t : List ℕ). with_added also.new t before) one.1 ∙ sym also.after_is,
    )

-- ---- why nothing is added

-- a body with no value, or no list, holds nothing
no_value : (body : List ℕ) (moment : ℕ) (posted : _) → IsNotJson body → IsPosted body moment posted → ⊥
no_value body moment posted none its = none its.entries_are.whole its.entries_are.value

no_list : (body : List ℕ) (moment : ℕ) (posted : _) → HasNoObjects body → IsPosted body moment posted → ⊥
no_list body moment posted none its = list_or_none body (codes "objects") its.entries its.entries_are none

one_unreadable : (body : List ℕ) (first second : Refusal) → IsUnreadableBody body first → IsUnreadableBody body second → first ≡ second
one_unreadable body first second (inl its) (inl also) = its.0 ∙ sym also.0
one_unreadable body first second (inl its) (inr also) = absurd (its.1 also.1.whole also.1.value)
one_unreadable body first second (inr its) (inl also) = absurd (also.1 its.1.whole its.1.value)
one_unreadable body first second (inr its) (inr also) = its.0 ∙ sym also.0

unreadable_posted : (body : List ℕ) (moment : ℕ) (posted : _) (refusal : Refusal) → IsUnreadableBody body refusal → IsPosted body moment posted → ⊥
unreadable_posted body moment posted refusal (inl none) its = no_value body moment posted none.1 its
unreadable_posted body moment posted refusal (inr none) its = no_list body moment posted none.1 its

pub one_lack : (before : State) (collection moment : ℕ) (body : List ℕ) (first second : Refusal) → CannotAdd before collection moment body first → CannotAdd before collection moment body second
    → first ≡ second
one_lack before collection moment body first second (inl its) (inl also) = one_unreadable body first second its also
one_lack before collection moment body first second (inl its) (inr also) = absurd (unreadable_posted body moment also.1.posted first its also.1.posted_is)
one_lack before collection moment body first second (inr its) (inl also) = absurd (unreadable_posted body moment its.1.posted second also its.1.posted_is)
one_lack before collection moment body first second (inr its) (inr also) = its.0 ∙ sym also.0

adds_or_lacks : Laws → (before : State) (collection moment : ℕ) (body : List ℕ) (new : List StoredRow) (text : List ℕ) (refusal : Refusal) → IsAdding before collection moment body new text
    → CannotAdd before collection moment body refusal → ⊥
adds_or_lacks laws before collection moment body new text refusal its (inl none) = unreadable_posted body moment its.posted refusal none its.posted_is
adds_or_lacks laws before collection moment body new text refusal its (inr (is, lack)) =
    let posted = one_posted laws body moment its.posted lack.posted its.posted_is lack.posted_is in
    dates_left before.library collection moment lack.posted.objects.items its.outcomes new
    (subst (λ objects. IsAddition before.library collection moment objects its.outcomes new) posted.objects its.addition) lack.lacks

pub posts_or_cannot : Laws → (before after : State) (moment : ℕ) (body : List ℕ) (collection : ℕ) (answer : Answer) (refusal : Refusal)
    → AddsBody before moment body collection answer after → CannotAdd before collection moment body refusal → ⊥
posts_or_cannot laws before after moment body collection answer refusal its other =
    adds_or_lacks laws before collection moment body its.new its.text refusal its.adding other

-- ---- a deletion

in_dates : (first : ℕ) (dates : List ℕ) (date : ℕ) → Contains (first ∷ dates) date → (first ≡ date) ⊎ Contains dates date
in_dates first dates date held = elim (Contains-append_cases (first ∷ []) dates date held) [
  | inl one ↦ elim (Contains-push_cases [] first date one) [
    | inl none ↦ absurd (omega (arith, none.1))
    | inr same ↦ inl same
  ]
  | inr rest ↦ inr rest
]

first_held : (first : ℕ) (dates : List ℕ) → Contains (first ∷ dates) first
first_held first dates = Contains-append_left (first ∷ []) dates first (Contains-push [] first)

rest_held : (first : ℕ) (dates : List ℕ) (date : ℕ) → Contains dates date → Contains (first ∷ dates) date
rest_held first dates date held = Contains-append_right (first ∷ []) dates date held

earliest : (from : ℕ) (dates : List ℕ) (date : ℕ) → AscendFrom from dates → Contains dates date → from ≤ date
earliest from [] date ascend held = absurd (omega (arith, held.1))
earliest from (first ∷ dates) date ascend held = elim (in_dates first dates date held) [
  | inl same ↦ subst (λ (d : ℕ). from ≤ d) same ascend.0
  | inr rest ↦ let later = earliest (first + 1) dates date ascend.1 rest in omega (arith, later, ascend.0)
]

abbrev Within : List ℕ → List ℕ → Type 0
Within dates others = (date : ℕ) → Contains dates date → Contains others date

behind : (first : ℕ) (dates others : List ℕ) → AscendFrom (first + 1) dates → Within (first ∷ dates) (first ∷ others) → Within dates others
behind first dates others ascend within date held = elim (in_dates first others date (within date (rest_held first dates date held))) [
  | inl same ↦ let later = earliest (first + 1) dates date ascend held in absurd (omega (arith, later, same))
  | inr there ↦ there
]

first_date : (first second : ℕ) (dates others : List ℕ) → AscendFrom (first + 1) dates → AscendFrom (second + 1) others → Within (first ∷ dates) (second ∷ others)
    → Within (second ∷ others) (first ∷ dates) → first ≡ second
first_date first second dates others ascend ascend_too to from =
    go (in_dates second others first (to first (first_held first dates))) (in_dates first dates second (from second (first_held second others)))
  where
    go : (second ≡ first) ⊎ Contains others first → (first ≡ second) ⊎ Contains dates second → first ≡ second
    go (inl same) other = sym same
    go (inr later) (inl same) = same
    go (inr later) (inr too) =
        let one = earliest (second + 1) others first ascend_too later in
        let two = earliest (first + 1) dates second ascend too in absurd (omega (arith, one, two))

same_dates : (n m : ℕ) (dates others : List ℕ) → AscendFrom n dates → AscendFrom m others → Within dates others → Within others dates → dates ≡ others
same_dates n m [] [] ascend ascend_too to from = refl
same_dates n m [] (o ∷ os) ascend ascend_too to from = let none = from o (first_held o os) in absurd (omega (arith, none.1))
same_dates n m (d ∷ ds) [] ascend ascend_too to from = let none = to d (first_held d ds) in absurd (omega (arith, none.1))
same_dates n m (d ∷ ds) (o ∷ os) ascend ascend_too to from =
    let same : d ≡ o = first_date d o ds os ascend.1 ascend_too.1 to from in
    let ascend_here : AscendFrom (o + 1) ds = subst (λ (x : ℕ). AscendFrom (x + 1) ds) same ascend.1 in
    let to_here : Within (o ∷ ds) (o ∷ os) = subst (λ (x : ℕ). Within (x ∷ ds) (o ∷ os)) same to in
    let from_here : Within (o ∷ os) (o ∷ ds) = subst (λ (x : ℕ). Within (o ∷ os) (x ∷ ds)) same from in
    ap (λ (x : ℕ). x ∷ ds) same
    ∙ ap (λ (xs : List ℕ). o ∷ xs) (same_dates (o + 1) (o + 1) ds os ascend_here ascend_too.1 (behind o ds os ascend_here to_here) (behind o os ds ascend_too.1 from_here))

one_taken : (rows : List StoredRow) (collection : ℕ) (id : Id) (picks : List Pick) (first second : List ℕ) → AreDatesTaken rows collection id picks first
    → AreDatesTaken rows collection id picks second → first ≡ second
one_taken rows collection id picks first second its also =
    same_dates 1 1 first second its.ascend also.ascend (λ date held. (also.each date).1 ((its.each date).0 held)) (λ date held. (its.each date).1 ((also.each date).0 held))

-- lists that don't differ are the same
not_apart : (first second : List ℕ) → ((first ≡ second → ⊥) → ⊥) → first ≡ second
not_apart first second never = go (bytes_eq first second) refl
  where
    go : (same : Bool) → bytes_eq first second ≡ same → first ≡ second
    go true is = (bytes_eq-Decides first second).0 is
    go false is = absurd (never (λ same. let yes : bytes_eq first second ≡ true = (bytes_eq-Decides first second).1 same in absurd (cc (is, yes))))

one_deleted : (store : StoreState) (collection : ℕ) (id : Id) (query : Query) (first second : List ℕ) → AreDeleted store collection id query first
    → AreDeleted store collection id query second → first ≡ second
one_deleted store collection id query first second its also = not_apart first second (λ apart.
    let not : AllowsStandard query → ⊥ = λ allows. apart (one_taken store.rows collection id (deleted_picks query) first second (its.taken allows) (also.taken allows)) in
    apart (its.none not ∙ sym (also.none not)))

pub one_delete : (before first second : State) (collection : ℕ) (id : Id) (query : Query) (answer other : Answer)
    → RemovesObject before collection id query answer first → RemovesObject before collection id query other second → IsOne answer other first second
one_delete before first second collection id query answer other its also =
    let all : its.dates ≡ also.dates = one_deleted before.library collection id query its.dates also.dates its.deleted also.deleted in
    (its.answer_is ∙ sym also.answer_is, its.after_is ∙ ap (λ (ds : List ℕ). without_dates ds before) all ∙ sym also.after_is)
