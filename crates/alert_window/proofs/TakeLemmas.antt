-- What a watch answers to a row.
use Rattle.std.proofs.Common.{◌≡◌, inl, inr, ◌↔◌, ℕ, ◌+◌, ◌≤◌, ◌*◌, ℤ, pos, ◌+ℤ◌, ◌<ℤ◌, ◌≤ℤ◌, Bool, true, false, List, [], ◌∷◌, ◌++◌, length, refl, sym, ◌∙◌, ap, subst, arith}
use Rattle.std.specs.Prelude.{Some, None, IsSomeAnd, IsTrue, if◌then◌else◌, count_by}
use Rattle.std.specs.declared.cmp.Ordering.TheVariants.{Less}
use Rattle.std.specs.Ordering.{is_lt, int_cmp}
use Rattle.std.specs.BTreeSet.{insert_key}
use Rattle.std.proofs.lemmas.Bool.{cases_lt, lt-ltb, le-ltb, false≢true}
use Rattle.std.proofs.lemmas.Int.{ints}
use Rattle.match_bindings.specs.declared.log_entry.LogEntry.{LogEntry}
use Rattle.match_bindings.specs.Log.{IsInOrder}
use Rattle.match_bindings.specs.Span.{later_by}
use Rattle.alert_window.specs.declared.matching_row.MatchingRow.{MatchingRow}
use Rattle.alert_window.specs.MatchingRows.{matching_rows, row_cmp, AreLastRows}
use Rattle.alert_window.specs.WatchState.{WatchState, window_end, WatchRepresents, with_window_row, AnswersAlertRow}
use Rattle.alert_window.specs.inner.Kept.{keep, earliest_if_full, IsCountReached}
use Rattle.alert_window.proofs.OrderLemmas.{FullFrom, enough_is_full}
use Rattle.alert_window.proofs.KeptLemmas.{row_order, begins_later, is_last, matching_apart, row_at, kept_more, kept_same}
use Rattle.alert_window.proofs.AlertLemmas.{begins_within, lt_from_test, test_from_lt, alert_at_last, length_more}

-- ---- a log and a row more

order_more : (log : List LogEntry) (row : LogEntry) → IsInOrder log → row.first ≤ℤ row.last → ((before : ℤ) → window_end log ≡ Some before → before ≤ℤ row.last) → IsInOrder (log ++ row ∷ [])
order_more [] row order span after = span
order_more (r ∷ []) row order span after = (order, after r.last refl, span)
order_more (r ∷ s ∷ log) row order span after = (order.0, order.1, order_more (s ∷ log) row order.2 span after)

last_more : (log : List LogEntry) (row : LogEntry) → window_end (log ++ row ∷ []) ≡ Some row.last
last_more [] row = refl
last_more (r ∷ []) row = refl
last_more (r ∷ s ∷ log) row = last_more (s ∷ log) row

-- ---- whether the kept rows are full, and begin late enough

full_of : (n x : ℕ) (t : ℤ) (kept : List MatchingRow) → FullFrom (begins_within x t) n kept → IsSomeAnd (earliest_if_full n kept) (λ e. t <ℤ later_by x e)
full_of n x t [] h = absurd h
full_of n x t (r ∷ kept) h =
    let long = le-ltb (length (r ∷ kept)) n h.0 in
    subst (λ (b : Bool). IsSomeAnd (if b then None else Some r.first) (λ e. t <ℤ later_by x e)) (sym long) (lt_from_test t (later_by x r.first) h.1)

full_from : (n x : ℕ) (t : ℤ) (kept : List MatchingRow) → IsSomeAnd (earliest_if_full n kept) (λ e. t <ℤ later_by x e) → FullFrom (begins_within x t) n kept
full_from n x t [] h = absurd h
full_from n x t (r ∷ kept) h =
    elim (cases_lt (length (r ∷ kept)) n) [
      | inl short ↦
          absurd (subst (λ (b : Bool). IsSomeAnd (if b then None else Some r.first) (λ e. t <ℤ later_by x e)) (lt-ltb (length (r ∷ kept)) n short) h)
      | inr long ↦
          let near = subst (λ (b : Bool). IsSomeAnd (if b then None else Some r.first) (λ e. t <ℤ later_by x e)) (le-ltb (length (r ∷ kept)) n long) h in
          (long, test_from_lt t (later_by x r.first) near)
    ]

within_later : (t e d : ℤ) (n : ℕ) → e ≤ℤ d → t <ℤ (e +ℤ pos n) → t <ℤ (d +ℤ pos n)
within_later t e d n h k = omega (arith, ints)

within_continues : (x : ℕ) (t : ℤ) (r s : MatchingRow) → row_cmp r s ≡ Less → begins_within x t r ≡ true → begins_within x t s ≡ true
within_continues x t r s h k =
    test_from_lt t (later_by x s.first) (
    within_later t r.first s.first (1_000_000_000 * x) (begins_later r s h) (lt_from_test t (later_by x r.first) k)
    )

-- n matching rows begin late enough exactly where the kept ones are full and do
enough_is_kept : (n x : ℕ) (t : ℤ) (log : List LogEntry) (kept : List MatchingRow) → 1 ≤ n → AreLastRows n (matching_rows log) kept
    → (n ≤ count_by (begins_within x t) (matching_rows log)) ↔ IsSomeAnd (earliest_if_full n kept) (λ e. t <ℤ later_by x e)
enough_is_kept n x t log kept some h =
    let full = enough_is_full row_order (begins_within x t) (within_continues x t) n (matching_rows log) kept some (matching_apart 1 log) (is_last n (matching_rows log) kept h) in
    (λ enough. full_of n x t kept (full.0 enough), λ reached. full.1 (full_from n x t kept reached))

-- what isn't less is no earlier
pub not_later : (t b : ℤ) → false ≡ is_lt (int_cmp t b) → b ≤ℤ t
not_later t b h = grind (arith, ints)

-- ---- the answer

-- what becomes of a watch at a row
pub record Follows (before after : WatchState) (last : ℤ) : Type 0 where
  pub n : after.n ≡ before.n
  pub rows : after.rows ≡ before.rows + 1
  pub last_is : after.last ≡ Some last

represents : (before after : WatchState) (log : List LogEntry) (row : LogEntry) → WatchRepresents before log → Follows before after row.last → AreLastRows before.n (matching_rows (log ++ row ∷ [])) after.kept → WatchRepresents after (log ++ row ∷ [])
represents before after log row h follows kept =
    let long = length_more log row in
    let was = h.rows in
    let grows = follows.rows in
    record {
      rows = omega arith;
      last = follows.last_is ∙ sym (last_more log row);
      kept = subst (λ (n : ℕ). AreLastRows n (matching_rows (log ++ row ∷ [])) after.kept) (sym follows.n) kept;
    }

pub answer_matching : (before after : WatchState) (log : List LogEntry) (first last : ℤ) (answer : Bool) → 1 ≤ before.n → WatchRepresents before log → IsInOrder log → first ≤ℤ last → ((b : ℤ) → before.last ≡ Some b → b ≤ℤ last)
    → Follows before after last → after.kept ≡ keep before.n (insert_key row_cmp before.kept (record { first = first; number = before.rows + 1 })) → IsTrue answer ↔ IsCountReached before.n before.x after.kept first last → AnswersAlertRow before after (with_window_row log first last true) answer
answer_matching before after log first last answer some h order span later follows kept_is reached =
    let row : LogEntry = record { first = first; last = last; truths = true ∷ [] } in
    let n = before.n in
    let number : length log + 1 ≡ before.rows + 1 = let e = h.rows in omega arith in
    let kept_here : keep n (insert_key row_cmp before.kept (row_at (length log + 1) row)) ≡ after.kept =
    ap (λ (k : ℕ). keep n (insert_key row_cmp before.kept (row_at k row))) number ∙ sym kept_is
    in
    let kept : AreLastRows n (matching_rows (log ++ row ∷ [])) after.kept =
    subst (λ (rows : List MatchingRow). AreLastRows n (matching_rows (log ++ row ∷ [])) rows) kept_here (kept_more n log row before.kept refl h.kept)
    in
    let ordered : IsInOrder (log ++ row ∷ []) = order_more log row order span (λ b e. later b (h.last ∙ e)) in
    let enough = enough_is_kept n before.x last (log ++ row ∷ []) after.kept some kept in
    let alert = alert_at_last n before.x log row some ordered in
    record {
      represents = represents before after log row h follows kept;
      order = ordered;
      alert = (
        λ yes. let at = reached.0 yes in alert.1 (refl, at.1, enough.1 at.0),
        λ is. let at = alert.0 is in reached.1 (enough.0 at.2, at.1),
      );
    }

pub answer_other : (before after : WatchState) (log : List LogEntry) (first last : ℤ) → 1 ≤ before.n → WatchRepresents before log → IsInOrder log → first ≤ℤ last → ((b : ℤ) → before.last ≡ Some b → b ≤ℤ last)
    → Follows before after last → after.kept ≡ before.kept → AnswersAlertRow before after (with_window_row log first last false) false
answer_other before after log first last some h order span later follows kept_is =
    let row : LogEntry = record { first = first; last = last; truths = false ∷ [] } in
    let kept : AreLastRows before.n (matching_rows (log ++ row ∷ [])) after.kept =
    subst (λ (rows : List MatchingRow). AreLastRows before.n (matching_rows (log ++ row ∷ [])) rows) (sym kept_is) (kept_same before.n log row before.kept refl h.kept)
    in
    let ordered : IsInOrder (log ++ row ∷ []) = order_more log row order span (λ b e. later b (h.last ∙ e)) in
    let alert = alert_at_last before.n before.x log row some ordered in
    record {
      represents = represents before after log row h follows kept;
      order = ordered;
      alert = (λ yes. absurd (false≢true yes), λ is. absurd (false≢true (alert.0 is).0));
    }
