-- Alerts of a log and of a longer one.
use Rattle.std.proofs.Common.{◌≡◌, ℕ, zero, suc, ◌<◌, ◌≤◌, ◌↔◌, max, ℤ, ◌<ℤ◌, true, List, [], ◌∷◌, ◌++◌, length, slice_get, refl, sym, ◌∙◌, ap, subst, arith}
use Rattle.std.proofs.lemmas.Bool.{false≢true}
use Rattle.match_bindings.specs.declared.log_entry.LogEntry.{LogEntry}
use Rattle.match_bindings.specs.NumberedPattern.{Leaf}
use Rattle.match_bindings.specs.BindTree.{BindTree, One, Single, More, greatest}
use Rattle.match_bindings.specs.Log.{Observed, observed_in, numbered_row, first_time, last_time, truth}
use Rattle.match_bindings.specs.Span.{earliest, latest, later_by}
use Rattle.match_bindings.specs.Binding.{AreRepeats, IsBinding}
use Rattle.alert_window.specs.Alert.{IsAlert}

-- ---- an alert is a row

holds_at_end : (o : Observed) (n : ℕ) (b : BindTree) → AreRepeats (IsBinding o (Leaf 0)) n b → o.holds 0 (greatest b) ≡ true
holds_at_end o (suc zero) (Single (One g)) h = h
holds_at_end o (suc (suc j)) (More m (One g)) h =
    let ascend : greatest m < g = h.3 in
    let last : max (greatest m) g ≡ g = omega arith in
    subst (λ k. o.holds 0 k ≡ true) (sym last) h.1
holds_at_end o (suc (suc j)) (More m a) h = absurd h.1
holds_at_end o n b h = absurd h

inside : (log : List LogEntry) (i : ℕ) → truth (slice_get log i) 0 ≡ true → i < length log
inside [] i h = absurd (false≢true h)
inside (row ∷ log) zero h = omega arith
inside (row ∷ log) (suc i) h = let deeper = inside log i h in omega arith

row_inside : (log : List LogEntry) (i : ℕ) → truth (numbered_row log i) 0 ≡ true → (1 ≤ i) × (i ≤ length log)
row_inside log zero h = absurd (false≢true h)
row_inside log (suc i) h = let there = inside log i h in (omega arith, omega arith)

pub alert_is_row : (n x number : ℕ) (log : List LogEntry) → IsAlert n x log number → (1 ≤ number) × (number ≤ length log)
alert_is_row n x number log alert =
    row_inside log number (subst (λ k. truth (numbered_row log k) 0 ≡ true) alert.2 (holds_at_end (observed_in log) n alert.0 alert.1.0))

-- ---- where two logs agree up to a number

record AgreeUpto (o z : Observed) (number : ℕ) : Type 0 where
  holds : (i : ℕ) → i ≤ number → o.holds 0 i ≡ true → z.holds 0 i ≡ true
  first : (i : ℕ) → i ≤ number → o.first i ≡ z.first i
  last : (i : ℕ) → i ≤ number → o.last i ≡ z.last i

module _ (o z : Observed) (number : ℕ) (agree : AgreeUpto o z number) where
  repeats_stay : (n : ℕ) (b : BindTree) → greatest b ≤ number → AreRepeats (IsBinding o (Leaf 0)) n b
      → AreRepeats (IsBinding z (Leaf 0)) n b × (earliest o.first b ≡ earliest z.first b) × (latest o.last b ≡ latest z.last b)
  repeats_stay (suc zero) (Single (One g)) upto h = (agree.holds g upto h, agree.first g upto, agree.last g upto)
  repeats_stay (suc (suc j)) (More m (One g)) upto h =
      let before = repeats_stay (suc j) m (omega arith) h.0 in
      let at : g ≤ number = omega arith in
      let e = before.1 in let e' = agree.first g at in let l = before.2 in let l' = agree.last g at in
      ((before.0, agree.holds g at h.1, h.2, h.3), rw (e, e') refl, rw (l, l') refl)
  repeats_stay (suc (suc j)) (More m a) upto h = absurd h.1
  repeats_stay n b upto h = absurd h

alert_moves : (o z : Observed) (n x number : ℕ) → AgreeUpto o z number
    → (b : BindTree) × (AreRepeats (IsBinding o (Leaf 0)) n b × (latest o.last b <ℤ later_by x (earliest o.first b))) × (greatest b ≡ number)
    → (b : BindTree) × (AreRepeats (IsBinding z (Leaf 0)) n b × (latest z.last b <ℤ later_by x (earliest z.first b))) × (greatest b ≡ number)
alert_moves o z n x number agree alert =
    let b = alert.0 in
    let e = alert.2 in
    let stays = repeats_stay o z number agree n b (omega arith) alert.1.0 in
    let near = subst (λ (t : ℤ). t <ℤ later_by x (earliest z.first b)) stays.2 (subst (λ (t : ℤ). latest o.last b <ℤ later_by x t) stays.1 alert.1.1) in
    (b, (stays.0, near), e)

get_stays : (log more : List LogEntry) (i : ℕ) → i < length log → slice_get (log ++ more) i ≡ slice_get log i
get_stays [] more i h = absurd (omega arith)
get_stays (r ∷ log) more zero h = refl
get_stays (r ∷ log) more (suc i) h = get_stays log more i (omega arith)

row_stays : (log more : List LogEntry) (i : ℕ) → i ≤ length log → numbered_row (log ++ more) i ≡ numbered_row log i
row_stays log more zero h = refl
row_stays log more (suc i) h = get_stays log more i (omega arith)

pub alert_stays : (n x number : ℕ) (log more : List LogEntry) → number ≤ length log → IsAlert n x (log ++ more) number ↔ IsAlert n x log number
alert_stays n x number log more upto = (
  λ alert. alert_moves (observed_in (log ++ more)) (observed_in log) n x number shorter alert,
  λ alert. alert_moves (observed_in log) (observed_in (log ++ more)) n x number longer alert,
) where
  same : (i : ℕ) → i ≤ number → numbered_row (log ++ more) i ≡ numbered_row log i
  same i h = row_stays log more i (omega arith)

  shorter : AgreeUpto (observed_in (log ++ more)) (observed_in log) number
  shorter = record {
    holds = λ i h k. ap (λ r. truth r 0) (sym (same i h)) ∙ k;
    first = λ i h. ap first_time (same i h);
    last = λ i h. ap last_time (same i h);
  }

  longer : AgreeUpto (observed_in log) (observed_in (log ++ more)) number
  longer = record {
    holds = λ i h k. ap (λ r. truth r 0) (same i h) ∙ k;
    first = λ i h. ap first_time (sym (same i h));
    last = λ i h. ap last_time (sym (same i h));
  }
