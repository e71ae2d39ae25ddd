-- The matching rows of a log, and the last of them.
use Rattle.std.proofs.Common.{◌≡◌, inl, inr, ◌↔◌, ℕ, zero, suc, ◌+◌, ◌<◌, ◌≤◌, ℤ, ◌<ℤ◌, ◌≤ℤ◌, true, false, cond, List, [], ◌∷◌, ◌++◌, length, refl, sym, ◌∙◌, ap, subst, arith}
use Rattle.std.specs.Prelude.{Option, Some, None, IfSome, IsSome, Contains}
use Rattle.std.specs.declared.cmp.Ordering.{Ordering}
use Rattle.std.specs.declared.cmp.Ordering.TheVariants.{Less, Equal, Greater}
use Rattle.std.specs.Cmp.{IsTotalOrder}
use Rattle.std.specs.Ordering.{nat_cmp, int_cmp, ordering_then, ordering_reverse, MatchOrdering}
use Rattle.std.specs.List.{AllByRecursion}
use Rattle.std.specs.List.Sorted.{IsStrictlySortedBy}
use Rattle.std.specs.BTreeSet.{insert_key}
use Rattle.std.proofs.lemmas.Bool.{cases_Bool, false≢true}
use Rattle.std.proofs.lemmas.Cmp.{then_total, on_total, int_cmp_total, nat_cmp_total, tied_itself, ranked, int_ranked}
use Rattle.std.proofs.lemmas.Int.{ints}
use Rattle.std.proofs.lemmas.List.{append-nil, append_assoc}
use Rattle.match_bindings.specs.declared.log_entry.LogEntry.{LogEntry}
use Rattle.match_bindings.specs.Log.{truth}
use Rattle.alert_window.specs.declared.matching_row.MatchingRow.{MatchingRow}
use Rattle.alert_window.specs.MatchingRows.{matching_row, matching_from, matching_rows, row_cmp, AreLastRows}
use Rattle.alert_window.specs.inner.Kept.{keep}
use Rattle.alert_window.proofs.OrderLemmas.{In, Apart, IsOrder, Ascend, IsLast, last_continues, keep_tail}

-- ---- the order of rows

row_total : IsTotalOrder row_cmp
row_total = then_total (on_total (λ (r : MatchingRow). r.first) int_cmp_total) (on_total (λ (r : MatchingRow). r.number) nat_cmp_total)

one_row : (r s : MatchingRow) → r.first ≡ s.first → r.number ≡ s.number → r ≡ s
one_row r s e f =
    let first : r ≡ record { first = s.first; number = r.number } = ap (λ (a : ℤ). record { first = a; number = r.number }) e in
    let number : record { first = s.first; number = r.number } ≡ s = ap (λ (n : ℕ). record { first = s.first; number = n }) f in
    first ∙ number

both_equal : (o p : Ordering) → ordering_then o p ≡ Equal → (o ≡ Equal) × (p ≡ Equal)
both_equal Less p h = absurd (cc)
both_equal Equal p h = (refl, h)
both_equal Greater p h = absurd (cc)

int_same : (a b : ℤ) → int_cmp a b ≡ Equal → a ≡ b
int_same a b h = subst (λ o. MatchOrdering o (a <ℤ b) (a ≡ b) (b <ℤ a)) h (int_ranked a b (int_cmp a b) refl)

nat_same : (a b : ℕ) → nat_cmp a b ≡ Equal → a ≡ b
nat_same a b h = subst (λ o. MatchOrdering o (a < b) (a ≡ b) (b < a)) h (ranked a b (nat_cmp a b) refl)

same_row : (r s : MatchingRow) → row_cmp r s ≡ Equal → r ≡ s
same_row r s h =
    let both = both_equal (int_cmp r.first s.first) (nat_cmp r.number s.number) h in
    one_row r s (int_same r.first s.first both.0) (nat_same r.number s.number both.1)

reversed : (o : Ordering) → ordering_reverse o ≡ Greater → o ≡ Less
reversed Less h = refl
reversed Equal h = absurd (cc)
reversed Greater h = absurd (cc)

pub row_order : IsOrder row_cmp
row_order = record {
  flip = λ x y h. reversed (row_cmp y x) (sym (row_total.antisymm x y) ∙ h);
  trans = λ x y z h k. row_total.trans x y z h k;
  same = same_row;
  self = λ x. tied_itself row_total x;
}

first_less : (a b : ℤ) (o p : Ordering) → int_cmp a b ≡ o → ordering_then o p ≡ Less → a ≤ℤ b
first_less a b Less p e h = let less : a <ℤ b = subst (λ o. MatchOrdering o (a <ℤ b) (a ≡ b) (b <ℤ a)) e (int_ranked a b (int_cmp a b) refl) in omega (arith, ints)
first_less a b Equal p e h = let same = int_same a b e in omega (arith, ints)
first_less a b Greater p e h = absurd (cc)

-- what stands after a row doesn't begin before it
pub begins_later : (r s : MatchingRow) → row_cmp r s ≡ Less → r.first ≤ℤ s.first
begins_later r s h = first_less r.first s.first (int_cmp r.first s.first) (nat_cmp r.number s.number) refl h

-- ---- lists as contracts see them

pub in_from_contains : {K : Type 0} (y : K) (xs : List K) → Contains xs y → In y xs
in_from_contains y [] (i, inside, e) = absurd (omega arith)
in_from_contains y (x ∷ xs) (zero, inside, e) = inl e
in_from_contains y (x ∷ xs) (suc i, inside, e) = inr (in_from_contains y xs (i, omega arith, e))

pub contains_from_in : {K : Type 0} (y : K) (xs : List K) → In y xs → Contains xs y
contains_from_in y [] h = absurd h
contains_from_in y (x ∷ xs) (inl e) = (zero, omega arith, e)
contains_from_in y (x ∷ xs) (inr i) = let there = contains_from_in y xs i in (suc there.0, omega arith, there.2)

all_in : {K : Type 0} (P : K → Type 0) (xs : List K) → AllByRecursion P xs → (y : K) → In y xs → P y
all_in P [] all y h = absurd h
all_in P (x ∷ xs) all y (inl e) = subst P e all.0
all_in P (x ∷ xs) all y (inr i) = all_in P xs all.1 y i

all_from : {K : Type 0} (P : K → Type 0) (xs : List K) → ((y : K) → In y xs → P y) → AllByRecursion P xs
all_from P [] h = tt
all_from P (x ∷ xs) h = (h x (inl refl), all_from P xs (λ y i. h y (inr i)))

ascend_from_sorted : (rows : List MatchingRow) → IsStrictlySortedBy row_cmp rows → Ascend row_cmp rows
unfolding IsStrictlySortedBy
ascend_from_sorted [] up = tt
ascend_from_sorted (r ∷ rows) up = (all_in (λ s. row_cmp r s ≡ Less) rows up.0, ascend_from_sorted rows up.1)

sorted_from_ascend : (rows : List MatchingRow) → Ascend row_cmp rows → IsStrictlySortedBy row_cmp rows
unfolding IsStrictlySortedBy
sorted_from_ascend [] up = tt
sorted_from_ascend (r ∷ rows) up = (all_from (λ s. row_cmp r s ≡ Less) rows up.0, sorted_from_ascend rows up.1)

pub is_last : (n : ℕ) (rows last : List MatchingRow) → AreLastRows n rows last → IsLast row_cmp n rows last
is_last n rows last h = record {
  ascend = ascend_from_sorted last h.order;
  from = λ y i. let at = (h.each y).0 (contains_from_in y last i) in (in_from_contains y rows at.0, at.1);
  all = λ y i few. in_from_contains y last ((h.each y).1 (contains_from_in y rows i, few));
}

are_last : (n : ℕ) (rows last : List MatchingRow) → IsLast row_cmp n rows last → AreLastRows n rows last
are_last n rows last h = record {
  order = sorted_from_ascend last h.ascend;
  each = λ y. (
    λ i. let at = h.from y (in_from_contains y last i) in (contains_from_in y rows at.0, at.1),
    λ i. contains_from_in y last (h.all y (in_from_contains y rows i.0) i.1),
  );
}

-- ---- matching rows

-- a row at which the bracket holds, by its number
abbrev pub row_at : ℕ → LogEntry → MatchingRow
row_at number row = record { first = row.first; number = number }

pub matching_row_holds : (number : ℕ) (row : LogEntry) → truth (Some row) 0 ≡ true → matching_row number row ≡ row_at number row ∷ []
matching_row_holds number row h = ap (λ b. cond b (row_at number row ∷ []) []) h

pub matching_row_fails : (number : ℕ) (row : LogEntry) → truth (Some row) 0 ≡ false → matching_row number row ≡ []
matching_row_fails number row h = ap (λ b. cond b (row_at number row ∷ []) []) h

pub matching_push : (number : ℕ) (log : List LogEntry) (row : LogEntry) → matching_from number (log ++ row ∷ []) ≡ matching_from number log ++ matching_row (number + length log) row
matching_push number [] row =
    let at : number ≡ number + 0 = omega arith in
    append-nil (matching_row number row) ∙ ap (λ (k : ℕ). matching_row k row) at
matching_push number (r ∷ log) row =
    let at : (number + 1) + length log ≡ number + length (r ∷ log) = omega arith in
    let deeper = matching_push (number + 1) log row ∙ ap (λ (k : ℕ). matching_from (number + 1) log ++ matching_row k row) at in
    ap (λ (rows : List MatchingRow). matching_row number r ++ rows) deeper
    ∙ sym (append_assoc (matching_row number r) (matching_from (number + 1) log) (matching_row (number + length (r ∷ log)) row))

-- the matching rows of a log and a row more
pub matching_more : (log : List LogEntry) (row : LogEntry) → truth (Some row) 0 ≡ true → matching_rows (log ++ row ∷ []) ≡ matching_rows log ++ row_at (length log + 1) row ∷ []
matching_more log row h =
    let at : 1 + length log ≡ length log + 1 = omega arith in
    matching_push 1 log row
    ∙ ap (λ (rows : List MatchingRow). matching_rows log ++ rows) (matching_row_holds (1 + length log) row h)
    ∙ ap (λ (k : ℕ). matching_rows log ++ row_at k row ∷ []) at

pub matching_same : (log : List LogEntry) (row : LogEntry) → truth (Some row) 0 ≡ false → matching_rows (log ++ row ∷ []) ≡ matching_rows log
matching_same log row h =
    matching_push 1 log row
    ∙ ap (λ (rows : List MatchingRow). matching_rows log ++ rows) (matching_row_fails (1 + length log) row h)
    ∙ append-nil (matching_rows log)

pub matching_numbers : (number : ℕ) (log : List LogEntry) (y : MatchingRow) → In y (matching_from number log) → (number ≤ y.number) × (y.number < number + length log)
matching_numbers number [] y h = absurd h
matching_numbers number (r ∷ log) y h =
    let later : In y (matching_from (number + 1) log) → (number ≤ y.number) × (y.number < number + length (r ∷ log)) = λ i.
    let deeper = matching_numbers (number + 1) log y i in (omega arith, omega arith)
    in
    elim (cases_Bool (truth (Some r) 0)) [
      | inl holds ↦
          elim (subst (λ (rows : List MatchingRow). In y (rows ++ matching_from (number + 1) log)) (matching_row_holds number r holds) h) [
            | inl e ↦ let same = ap (λ (s : MatchingRow). s.number) e in (omega arith, omega arith)
            | inr i ↦ later i
          ]
      | inr fails ↦ later (subst (λ (rows : List MatchingRow). In y (rows ++ matching_from (number + 1) log)) (matching_row_fails number r fails) h)
    ]

pub matching_apart : (number : ℕ) (log : List LogEntry) → Apart (matching_from number log)
matching_apart number [] = tt
matching_apart number (r ∷ log) =
    let rest = matching_apart (number + 1) log in
    elim (cases_Bool (truth (Some r) 0)) [
      | inl holds ↦
          subst (λ (rows : List MatchingRow). Apart (rows ++ matching_from (number + 1) log)) (sym (matching_row_holds number r holds)) (
            λ i. let later = matching_numbers (number + 1) log (row_at number r) i in absurd (omega arith),
            rest,
          )
      | inr fails ↦ subst (λ (rows : List MatchingRow). Apart (rows ++ matching_from (number + 1) log)) (sym (matching_row_fails number r fails)) rest
    ]

new_row : (log : List LogEntry) (row : LogEntry) → ¬ (In (row_at (length log + 1) row) (matching_rows log))
new_row log row i = let at = matching_numbers 1 log (row_at (length log + 1) row) i in absurd (omega arith)

-- ---- the last n over a log and a row more

pub kept_more : (n : ℕ) (log : List LogEntry) (row : LogEntry) (kept : List MatchingRow) → truth (Some row) 0 ≡ true → AreLastRows n (matching_rows log) kept → AreLastRows n (matching_rows (log ++ row ∷ [])) (keep n (insert_key row_cmp kept (row_at (length log + 1) row)))
kept_more n log row kept holds h =
    let r : MatchingRow = row_at (length log + 1) row in
    let more = last_continues row_order n r (matching_rows log) kept (matching_apart 1 log) (new_row log row) (is_last n (matching_rows log) kept h) in
    are_last n (matching_rows (log ++ row ∷ [])) (keep n (insert_key row_cmp kept r)) (
    subst (λ (rows : List MatchingRow). IsLast row_cmp n rows (keep n (insert_key row_cmp kept r))) (sym (matching_more log row holds)) more
    )

pub kept_same : (n : ℕ) (log : List LogEntry) (row : LogEntry) (kept : List MatchingRow) → truth (Some row) 0 ≡ false → AreLastRows n (matching_rows log) kept → AreLastRows n (matching_rows (log ++ row ∷ [])) kept
kept_same n log row kept fails h = subst (λ (rows : List MatchingRow). AreLastRows n rows kept) (sym (matching_same log row fails)) h

pub popped : {K : Type 0} (n : ℕ) (xs ys : List K) (r : Option K) → IfSome r (λ x. xs ≡ x ∷ ys) → (IsSome r ↔ (0 < length xs)) → length xs ≡ n + 1 → keep n xs ≡ ys
popped n xs ys None removal some long = absurd (false≢true (some.1 (omega arith)))
popped n xs ys (Some x) removal some long =
    let e = ap (λ zs. length zs) removal in ap (λ zs. keep n zs) removal ∙ keep_tail n x ys (omega arith)
