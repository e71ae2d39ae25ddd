-- A log's own facts, and what stays in a longer log.
use Rattle.std.proofs.Common.{◌≡◌, ℕ, zero, suc, ◌≤◌, ◌<◌, List, [], ◌∷◌, ◌++◌, length, refl, sym, ◌∙◌, ap, subst, arith, ℤ, ◌<ℤ◌, ◌≤ℤ◌}
use Rattle.std.specs.Prelude.{true, slice_get}
use Rattle.match_bindings.specs.declared.log_entry.LogEntry.{LogEntry}
use Rattle.match_bindings.specs.NumberedPattern.{NumberedPattern, Leaf, Both, Then, Either, Within, Between, Repeats}
use Rattle.match_bindings.specs.BindTree.{BindTree, One, Pair, First, Second, Single, More}
use Rattle.match_bindings.specs.Log.{numbered_row, first_time, last_time, truth, Observed, observed_in}
use Rattle.match_bindings.specs.Span.{earliest, latest, later_by}
use Rattle.match_bindings.specs.Binding.{AreRepeats, IsBinding}
use Rattle.match_bindings.proofs.CandidatesLemmas.{Rows}

inside : (log : List LogEntry) (k i : ℕ) → truth (slice_get log i) k ≡ true → i < length log
inside [] k i h = absurd (cc)
inside (r ∷ log) k zero h = omega arith
inside (r ∷ log) k (suc i) h = let deeper : i < length log = inside log k i h in omega arith

-- leaves hold only for the observations of the log
pub rows_of : (log : List LogEntry) → Rows (observed_in log) (length log)
rows_of log = record { from = from; upto = upto } where
  from : (k i : ℕ) → truth (numbered_row log i) k ≡ true → 0 < i
  from k zero h = absurd (cc)
  from k (suc i) h = omega arith

  upto : (k i : ℕ) → truth (numbered_row log i) k ≡ true → i ≤ length log
  upto k zero h = absurd (cc)
  upto k (suc i) h = let at : i < length log = inside log k i h in omega arith

get_stays : (log more : List LogEntry) (i : ℕ) → i < length log → slice_get (log ++ more) i ≡ slice_get log i
get_stays [] more i h = absurd (omega arith)
get_stays (r ∷ log) more zero h = refl
get_stays (r ∷ log) more (suc i) h = get_stays log more i (omega arith)

row_stays : (log more : List LogEntry) (k i : ℕ) → truth (numbered_row log i) k ≡ true → numbered_row (log ++ more) i ≡ numbered_row log i
row_stays log more k zero h = absurd (cc)
row_stays log more k (suc i) h = get_stays log more i (inside log k i h)

-- a binding stays one, over the same span of time
abbrev Stays : Observed → Observed → (BindTree → Type 0) → BindTree → Type 0
Stays o z Binds x = Binds x × (earliest o.first x ≡ earliest z.first x) × (latest o.last x ≡ latest z.last x)

-- where what holds goes on to hold, at the same times
record Continues (o z : Observed) : Type 0 where
  stays : (k i : ℕ) → o.holds k i ≡ true → (z.holds k i ≡ true) × (o.first i ≡ z.first i) × (o.last i ≡ z.last i)

repeats_stay : (o z : Observed) (A B : BindTree → Type 0) → ((x : BindTree) → A x → Stays o z B x) → (n : ℕ) (x : BindTree) → AreRepeats A n x → Stays o z (AreRepeats B n) x
repeats_stay o z A B stay zero x h = absurd h
repeats_stay o z A B stay (suc zero) (Single a) h = stay a h
repeats_stay o z A B stay (suc (suc j)) (More m a) h =
    let sets = repeats_stay o z A B stay (suc j) m h.0 in
    let last = stay a h.1 in
    let e = sets.1 in let e' = last.1 in let l = sets.2 in let l' = last.2 in
    ((sets.0, last.0, h.2, h.3), rw (e, e') refl, rw (l, l') refl)
repeats_stay o z A B stay n x h = absurd h

binding_stays : (o z : Observed) → Continues o z → (p : NumberedPattern) (x : BindTree) → IsBinding o p x → Stays o z (IsBinding z p) x
binding_stays o z g (Leaf k) (One i) h = g.stays k i h
binding_stays o z g (Both p q) (Pair a b) h =
    let left = binding_stays o z g p a h.0 in let right = binding_stays o z g q b h.1 in
    let e = left.1 in let e' = right.1 in let l = left.2 in let l' = right.2 in
    ((left.0, right.0, h.2), rw (e, e') refl, rw (l, l') refl)
binding_stays o z g (Then p q) (Pair a b) h =
    let left = binding_stays o z g p a h.0 in let right = binding_stays o z g q b h.1 in
    let e = left.1 in let e' = right.1 in let l = left.2 in let l' = right.2 in (
      (left.0, right.0, h.2, subst (λ (t : ℤ). t ≤ℤ earliest z.first b) l (subst (λ (t : ℤ). latest o.last a ≤ℤ t) e' h.3)),
      rw (e, e') refl,
      rw (l, l') refl,
    )
binding_stays o z g (Either p q) (First a) h = binding_stays o z g p a h
binding_stays o z g (Either p q) (Second b) h = binding_stays o z g q b h
binding_stays o z g (Within p n) x h =
    let part = binding_stays o z g p x h.0 in (
      (part.0, subst (λ (t : ℤ). t <ℤ later_by n (earliest z.first x)) part.2 (subst (λ (t : ℤ). latest o.last x <ℤ later_by n t) part.1 h.1)),
      part.1,
      part.2,
    )
binding_stays o z g (Between p start stop) x h =
    let part = binding_stays o z g p x h.0 in (
      (part.0, subst (λ (t : ℤ). start ≤ℤ t) part.1 h.1, subst (λ (t : ℤ). t <ℤ stop) part.2 h.2),
      part.1,
      part.2,
    )
binding_stays o z g (Repeats p n) x h = repeats_stay o z (IsBinding o p) (IsBinding z p) (λ y k. binding_stays o z g p y k) n x h
binding_stays o z g p x h = absurd h

continues : (log more : List LogEntry) → Continues (observed_in log) (observed_in (log ++ more))
continues log more = record {
  stays = λ k i h.
      let same = sym (row_stays log more k i h) in
      (ap (λ r. truth r k) (sym same) ∙ h, ap first_time same, ap last_time same);
}

pub bindings_persist : (log more : List LogEntry) (p : NumberedPattern) (x : BindTree) → IsBinding (observed_in log) p x → IsBinding (observed_in (log ++ more)) p x
bindings_persist log more p x h = (binding_stays (observed_in log) (observed_in (log ++ more)) (continues log more) p x h).0
