-- Where bindings of so many repeats within so many seconds end.
use Rattle.std.proofs.Common.{◌≡◌, inl, inr, ◌↔◌, ℕ, zero, suc, ◌+◌, ◌*◌, ◌<◌, ◌≤◌, max, ℤ, pos, ◌<ℤ◌, ◌≤ℤ◌, ◌+ℤ◌, Bool, true, false, cond, ◌&&◌, List, [], ◌∷◌, ◌++◌, length, slice_get, refl, sym, ◌∙◌, ap, subst, arith}
use Rattle.std.specs.Prelude.{Option, Some, count_by, int_lt}
use Rattle.std.specs.Int.{int_min, int_max}
use Rattle.std.proofs.lemmas.Bool.{cases_Bool, and_parts, and_from, or_cases, cases_order, eqb-true, ne_eqb, false≢true}
use Rattle.std.proofs.lemmas.Int.{ints, clamps}
use Rattle.match_bindings.specs.declared.log_entry.LogEntry.{LogEntry}
use Rattle.match_bindings.specs.NumberedPattern.{Leaf}
use Rattle.match_bindings.specs.BindTree.{BindTree, One, Pair, First, Second, Empty, Single, More, has, AreDisjoint, greatest}
use Rattle.match_bindings.specs.Log.{Observed, observed_in, IsInOrder, numbered_row, first_time, last_time, truth}
use Rattle.match_bindings.specs.Span.{earliest, latest, later_by}
use Rattle.match_bindings.specs.Binding.{AreRepeats, IsBinding}
use Rattle.alert_window.specs.declared.matching_row.MatchingRow.{MatchingRow}
use Rattle.alert_window.specs.MatchingRows.{matching_row, matching_from, matching_rows}
use Rattle.alert_window.specs.Alert.{repeats_within, IsAlert}
use Rattle.alert_window.proofs.KeptLemmas.{row_at, matching_row_holds, matching_row_fails}
use Rattle.alert_window.proofs.OrderLemmas.{count_cons}

-- how many of the numbers from 1 to one pass a test
abbrev pub count_upto : (ℕ → Bool) → ℕ → ℕ
count_upto hit zero = 0
count_upto hit (suc m) = count_upto hit m + cond (hit (suc m)) 1 0

-- one observation that passes
abbrev pub IsHit : (ℕ → Bool) → BindTree → Type 0
IsHit hit (One g) = hit g ≡ true
IsHit hit _ = ⊥

has_at_most : (n : ℕ) (b : BindTree) → has n b ≡ true → n ≤ greatest b
has_at_most n (One m) h = let e = eqb-true n m h in omega arith
has_at_most n (Pair a b) h =
    elim (or_cases (has n a) (has n b) h) [
      | inl i ↦ let at = has_at_most n a i in omega arith
      | inr i ↦ let at = has_at_most n b i in omega arith
    ]
has_at_most n (First a) h = has_at_most n a h
has_at_most n (Second a) h = has_at_most n a h
has_at_most n Empty h = absurd (false≢true h)
has_at_most n (Single a) h = has_at_most n a h
has_at_most n (More m a) h =
    elim (or_cases (has n m) (has n a) h) [
      | inl i ↦ let at = has_at_most n m i in omega arith
      | inr i ↦ let at = has_at_most n a i in omega arith
    ]

apart_from_later : (m : BindTree) (g : ℕ) → greatest m < g → AreDisjoint m (One g)
apart_from_later m g later n h = let at = has_at_most n m h in ne_eqb n g (λ e. omega arith)

module _ (hit : ℕ → Bool) (none : hit 0 ≡ false) where
  count_hit_at : (m : ℕ) → hit (suc m) ≡ true → count_upto hit (suc m) ≡ count_upto hit m + 1
  count_hit_at m h = ap (λ b. count_upto hit m + cond b 1 0) h

  count_miss_at : (m : ℕ) → hit (suc m) ≡ false → count_upto hit (suc m) ≡ count_upto hit m
  count_miss_at m h = let e : count_upto hit (suc m) ≡ count_upto hit m + 0 = ap (λ b. count_upto hit m + cond b 1 0) h in omega arith

  count_step : (m : ℕ) → count_upto hit m ≤ count_upto hit (suc m)
  count_step m =
      elim (cases_Bool (hit (suc m))) [
        | inl h ↦ let e = count_hit_at m h in omega arith
        | inr h ↦ let e = count_miss_at m h in omega arith
      ]

  count_grows : (k m : ℕ) → k ≤ m → count_upto hit k ≤ count_upto hit m
  count_grows k zero h = let e : k ≡ 0 = omega arith in subst (λ j. count_upto hit j ≤ 0) (sym e) (omega arith)
  count_grows k (suc m) h =
      elim (cases_order k (suc m)) [
        | inl e ↦ subst (λ j. count_upto hit j ≤ count_upto hit (suc m)) (sym e) (omega arith)
        | inr (inl below) ↦ let rest = count_grows k m (omega arith) in let step = count_step m in omega arith
        | inr (inr above) ↦ absurd (omega arith)
      ]

  -- a chain of so many passing observations, up to one
  chain_count : (n : ℕ) (b : BindTree) → AreRepeats (IsHit hit) n b → (n ≤ count_upto hit (greatest b)) × (hit (greatest b) ≡ true)
  chain_count (suc zero) (Single (One zero)) h = absurd (false≢true (sym none ∙ h))
  chain_count (suc zero) (Single (One (suc g))) h = let e = count_hit_at g h in (omega arith, h)
  chain_count (suc (suc j)) (More m (One zero)) h = absurd (false≢true (sym none ∙ h.1))
  chain_count (suc (suc j)) (More m (One (suc g))) h =
      let before = chain_count (suc j) m h.0 in
      let e = count_hit_at g h.1 in
      let ascend : greatest m < suc g = h.3 in
      let grows = count_grows (greatest m) g (omega arith) in
      let last : max (greatest m) (suc g) ≡ suc g = omega arith in (
        subst (λ k. suc (suc j) ≤ count_upto hit k) (sym last) (omega arith),
        subst (λ k. hit k ≡ true) (sym last) h.1,
      )
  chain_count (suc (suc j)) (More m a) h = absurd h.1
  chain_count n b h = absurd h

  -- the last number that passes
  last_hit : (m : ℕ) → 1 ≤ count_upto hit m → (g : ℕ) × (g ≤ m) × (hit g ≡ true) × (count_upto hit g ≡ count_upto hit m)
  last_hit zero some = absurd (omega arith)
  last_hit (suc m) some =
      elim (cases_Bool (hit (suc m))) [
        | inl h ↦ (suc m, omega arith, h, refl)
        | inr h ↦
            let e = count_miss_at m h in
            let before = last_hit m (omega arith) in
            (before.0, omega arith, before.2, before.3 ∙ sym e)
      ]

  chain_from : (n g : ℕ) → 1 ≤ n → hit g ≡ true → n ≤ count_upto hit g → (b : BindTree) × AreRepeats (IsHit hit) n b × (greatest b ≡ g)
  chain_from zero g some h enough = absurd (omega arith)
  chain_from (suc zero) g some h enough = (Single (One g), h, refl)
  chain_from (suc (suc j)) zero some h enough = absurd (false≢true (sym none ∙ h))
  chain_from (suc (suc j)) (suc g) some h enough =
      let e = count_hit_at g h in
      let f = last_hit g (omega arith) in
      let before = chain_from (suc j) f.0 (omega arith) f.2 (omega arith) in
      let m = before.0 in
      let ascend : greatest m < suc g = omega arith in
      (More m (One (suc g)), (before.1, h, apart_from_later m (suc g) ascend, ascend), omega arith)

-- ---- within so many seconds of a time

within_left : (t e d : ℤ) (n : ℕ) → t <ℤ (int_min e d +ℤ pos n) → t <ℤ (e +ℤ pos n)
within_left t e d n h = omega (arith, ints, clamps)

within_right : (t e d : ℤ) (n : ℕ) → t <ℤ (int_min e d +ℤ pos n) → t <ℤ (d +ℤ pos n)
within_right t e d n h = omega (arith, ints, clamps)

within_both : (t e d : ℤ) (n : ℕ) → t <ℤ (e +ℤ pos n) → t <ℤ (d +ℤ pos n) → t <ℤ (int_min e d +ℤ pos n)
within_both t e d n h k = omega (arith, ints, clamps)

upto_both : (t e d : ℤ) → e ≤ℤ t → d ≤ℤ t → int_max e d ≤ℤ t
upto_both t e d h k = omega (arith, ints, clamps)

upto_right : (e d : ℤ) → d ≤ℤ int_max e d
upto_right e d = omega (arith, ints, clamps)

within_earlier : (t u z : ℤ) → t ≤ℤ u → u <ℤ z → t <ℤ z
within_earlier t u z h k = omega (arith, ints)

pub lt_from_test : (a b : ℤ) → int_lt a b ≡ true → a <ℤ b
lt_from_test a b h = grind (arith, ints)

pub test_from_lt : (a b : ℤ) → a <ℤ b → int_lt a b ≡ true
test_from_lt a b h = grind (arith, ints)

module _ (o : Observed) (x : ℕ) (t : ℤ) where
  -- the bracket holds at an observation, which began less than x seconds before the time
  abbrev pub recent : ℕ → Bool
  recent i = o.holds 0 i && int_lt t (later_by x (o.first i))

  recent_parts : (i : ℕ) → recent i ≡ true → (o.holds 0 i ≡ true) × (t <ℤ later_by x (o.first i))
  recent_parts i h =
      let both = and_parts (o.holds 0 i) (int_lt t (later_by x (o.first i))) h in
      (both.0, lt_from_test t (later_by x (o.first i)) both.1)

  recent_from : (i : ℕ) → o.holds 0 i ≡ true → t <ℤ later_by x (o.first i) → recent i ≡ true
  recent_from i h k = and_from (o.holds 0 i) (int_lt t (later_by x (o.first i))) h (test_from_lt t (later_by x (o.first i)) k)

  hits_of : (n : ℕ) (b : BindTree) → AreRepeats (IsBinding o (Leaf 0)) n b → t <ℤ later_by x (earliest o.first b) → AreRepeats (IsHit recent) n b
  hits_of (suc zero) (Single (One g)) h near = recent_from g h near
  hits_of (suc (suc j)) (More m (One g)) h near =
      let before = within_left t (earliest o.first m) (o.first g) (1_000_000_000 * x) near in
      let here = within_right t (earliest o.first m) (o.first g) (1_000_000_000 * x) near in
      (hits_of (suc j) m h.0 before, recent_from g h.1 here, h.2, h.3)
  hits_of (suc (suc j)) (More m a) h near = absurd h.1
  hits_of n b h near = absurd h

  binds_of : (n : ℕ) (b : BindTree) → AreRepeats (IsHit recent) n b → AreRepeats (IsBinding o (Leaf 0)) n b × (t <ℤ later_by x (earliest o.first b))
  binds_of (suc zero) (Single (One g)) h = recent_parts g h
  binds_of (suc (suc j)) (More m (One g)) h =
      let before = binds_of (suc j) m h.0 in
      let here = recent_parts g h.1 in
      ((before.0, here.0, h.2, h.3), within_both t (earliest o.first m) (o.first g) (1_000_000_000 * x) before.1 here.1)
  binds_of (suc (suc j)) (More m a) h = absurd h.1
  binds_of n b h = absurd h

  -- the last of a chain ends no later than all of it
  last_upto_latest : (n : ℕ) (b : BindTree) → AreRepeats (IsBinding o (Leaf 0)) n b → o.last (greatest b) ≤ℤ latest o.last b
  last_upto_latest (suc zero) (Single (One g)) h = omega (arith, ints)
  last_upto_latest (suc (suc j)) (More m (One g)) h =
      let ascend : greatest m < g = h.3 in
      let last : max (greatest m) g ≡ g = omega arith in
      subst (λ k. o.last k ≤ℤ int_max (latest o.last m) (o.last g)) (sym last) (upto_right (latest o.last m) (o.last g))
  last_upto_latest (suc (suc j)) (More m a) h = absurd h.1
  last_upto_latest n b h = absurd h

  latest_upto : ((i : ℕ) → o.holds 0 i ≡ true → o.last i ≤ℤ t) → (n : ℕ) (b : BindTree) → AreRepeats (IsBinding o (Leaf 0)) n b → latest o.last b ≤ℤ t
  latest_upto all (suc zero) (Single (One g)) h = all g h
  latest_upto all (suc (suc j)) (More m (One g)) h = upto_both t (latest o.last m) (o.last g) (latest_upto all (suc j) m h.0) (all g h.1)
  latest_upto all (suc (suc j)) (More m a) h = absurd h.1
  latest_upto all n b h = absurd h

  -- where t is the last time of an observation, and none ends later: bindings that end there
  pub ends_where_enough : (n number : ℕ) → 1 ≤ n → o.holds 0 0 ≡ false → t ≡ o.last number → ((i : ℕ) → o.holds 0 i ≡ true → o.last i ≤ℤ t)
      → ((b : BindTree) × IsBinding o (repeats_within n x) b × (greatest b ≡ number)) ↔ ((recent number ≡ true) × (n ≤ count_upto recent number))
  ends_where_enough n number some none here all = (
    λ ends.
        let b = ends.0 in
        let upto = subst (λ (u : ℤ). u ≤ℤ latest o.last b) (ap o.last ends.2 ∙ sym here) (last_upto_latest n b ends.1.0) in
        let near = within_earlier t (latest o.last b) (later_by x (earliest o.first b)) upto ends.1.1 in
        let counted = chain_count recent not_zero n b (hits_of n b ends.1.0 near) in
        (subst (λ k. recent k ≡ true) ends.2 counted.1, subst (λ k. n ≤ count_upto recent k) ends.2 counted.0),
    λ enough.
        let chain = chain_from recent not_zero n number some enough.0 enough.1 in
        let b = chain.0 in
        let binds = binds_of n b chain.1 in
        (b, (binds.0, within_earlier (latest o.last b) t (later_by x (earliest o.first b)) (latest_upto all n b binds.0) binds.1), chain.2),
  ) where
    not_zero : recent 0 ≡ false
    not_zero = ap (λ z. z && int_lt t (later_by x (o.first 0))) none

-- ---- over a log

-- the same of a row, where there is one
abbrev recent_row : ℕ → ℤ → Option LogEntry → Bool
recent_row x t row = truth row 0 && int_lt t (later_by x (first_time row))

-- the same of a matching row
abbrev pub begins_within : ℕ → ℤ → MatchingRow → Bool
begins_within x t row = int_lt t (later_by x row.first)

-- how many of so many numbers after one pass
abbrev count_after : (ℕ → Bool) → ℕ → ℕ → ℕ
count_after hit i zero = 0
count_after hit i (suc m) = cond (hit (suc i)) 1 0 + count_after hit (suc i) m

count_joined : (hit : ℕ → Bool) (i m : ℕ) → count_upto hit (i + m) ≡ count_upto hit i + count_after hit i m
count_joined hit i zero = let at : i + 0 ≡ i = omega arith in let e = ap (λ k. count_upto hit k) at in omega arith
count_joined hit i (suc m) =
    let at : i + suc m ≡ suc i + m = omega arith in
    let rest = count_joined hit (suc i) m in
    let joined = ap (λ k. count_upto hit k) at ∙ rest in
    omega arith

count_matching : (x : ℕ) (t : ℤ) (hit : ℕ → Bool) (i : ℕ) (log : List LogEntry) → ((k : ℕ) → hit (suc (i + k)) ≡ recent_row x t (slice_get log k)) → count_by (begins_within x t) (matching_from (suc i) log) ≡ count_after hit i (length log)
count_matching x t hit i [] same = refl
count_matching x t hit i (row ∷ log) same =
    let zeroth : suc (i + 0) ≡ suc i = omega arith in
    let first : hit (suc i) ≡ recent_row x t (Some row) = ap hit (sym zeroth) ∙ same 0 in
    let later : (k : ℕ) → hit (suc (suc i + k)) ≡ recent_row x t (slice_get log k) = λ k.
    let at : suc (suc i + k) ≡ suc (i + suc k) = omega arith in ap hit at ∙ same (suc k)
    in
    let w = begins_within x t in
    let r : MatchingRow = row_at (suc i) row in
    let rows : List MatchingRow = matching_from (suc i + 1) log in
    let next : suc (suc i) ≡ suc i + 1 = omega arith in
    let rest : count_by w rows ≡ count_after hit (suc i) (length log) =
    subst (λ k. count_by w (matching_from k log) ≡ count_after hit (suc i) (length log)) next (count_matching x t hit (suc i) log later)
    in
    elim (cases_Bool (truth (Some row) 0)) [
      | inl holds ↦
          let listed : count_by w (matching_row (suc i) row ++ rows) ≡ count_by w (r ∷ rows) =
          ap (λ (ms : List MatchingRow). count_by w (ms ++ rows)) (matching_row_holds (suc i) row holds)
          in
          let counted = count_cons w r rows in
          let hits : hit (suc i) ≡ w r = first ∙ ap (λ b. b && int_lt t (later_by x row.first)) holds in
          let same_bit : cond {A = ℕ} (hit (suc i)) 1 0 ≡ cond {A = ℕ} (w r) 1 0 = ap (λ b. cond {A = ℕ} b 1 0) hits in
          omega arith
      | inr fails ↦
          let listed : count_by w (matching_row (suc i) row ++ rows) ≡ count_by w rows =
          ap (λ (ms : List MatchingRow). count_by w (ms ++ rows)) (matching_row_fails (suc i) row fails)
          in
          let misses : hit (suc i) ≡ false = first ∙ ap (λ b. b && int_lt t (later_by x row.first)) fails in
          let no_bit : cond {A = ℕ} (hit (suc i)) 1 0 ≡ 0 = ap (λ b. cond {A = ℕ} b 1 0) misses in
          omega arith
    ]

numbered_at : (log : List LogEntry) (i : ℕ) → numbered_row log (suc (0 + i)) ≡ slice_get log i
numbered_at log i = let at : 0 + i ≡ i = omega arith in ap (λ k. slice_get log k) at

-- the recent ones among the matching rows are the recent numbers
pub count_recent : (x : ℕ) (t : ℤ) (log : List LogEntry) → count_by (begins_within x t) (matching_rows log) ≡ count_upto (recent (observed_in log) x t) (length log)
count_recent x t log =
    let hit = recent (observed_in log) x t in
    let all = count_matching x t hit 0 log (λ k. ap (recent_row x t) (numbered_at log k)) in
    let joined = count_joined hit 0 (length log) in
    let at : 0 + length log ≡ length log = omega arith in
    let counted = ap (λ k. count_upto hit k) at in
    omega arith

-- ---- the last row of a log

last_number : (log : List LogEntry) (row : LogEntry) → slice_get (log ++ row ∷ []) (length log) ≡ Some row
last_number [] row = refl
last_number (r ∷ log) row = last_number log row

pub length_more : (log : List LogEntry) (row : LogEntry) → length (log ++ row ∷ []) ≡ suc (length log)
length_more [] row = refl
length_more (r ∷ log) row = ap suc (length_more log row)

pub last_row : (log : List LogEntry) (row : LogEntry) → numbered_row (log ++ row ∷ []) (length (log ++ row ∷ [])) ≡ Some row
last_row log row = ap (λ k. numbered_row (log ++ row ∷ []) k) (length_more log row) ∙ last_number log row

-- in a log in order no row ends after the last one
first_upto_last : (r : LogEntry) (log : List LogEntry) (row : LogEntry) → IsInOrder (r ∷ (log ++ row ∷ [])) → r.last ≤ℤ row.last
first_upto_last r [] row order = order.1
first_upto_last r (s ∷ log) row order = let rest = first_upto_last s log row order.2 in let step : r.last ≤ℤ s.last = order.1 in omega (arith, ints)

tail_in_order : (r : LogEntry) (log : List LogEntry) (row : LogEntry) → IsInOrder (r ∷ (log ++ row ∷ [])) → IsInOrder (log ++ row ∷ [])
tail_in_order r [] row order = order.2
tail_in_order r (s ∷ log) row order = order.2

none_later : (log : List LogEntry) (row : LogEntry) → IsInOrder (log ++ row ∷ []) → (i leaf : ℕ) → truth (slice_get (log ++ row ∷ []) i) leaf ≡ true → last_time (slice_get (log ++ row ∷ []) i) ≤ℤ row.last
none_later [] row order zero leaf h = omega (arith, ints)
none_later [] row order (suc i) leaf h = absurd (false≢true h)
none_later (r ∷ log) row order zero leaf h = first_upto_last r log row order
none_later (r ∷ log) row order (suc i) leaf h = none_later log row (tail_in_order r log row order) i leaf h

-- the last row is an alert where the bracket holds and n matching rows, it among them, began less than x seconds before its end
pub alert_at_last : (n x : ℕ) (log : List LogEntry) (row : LogEntry) → 1 ≤ n → IsInOrder (log ++ row ∷ []) →
    IsAlert n x (log ++ row ∷ []) (length (log ++ row ∷ [])) ↔ ((truth (Some row) 0 ≡ true) × (row.last <ℤ later_by x row.first) × (n ≤ count_by (begins_within x row.last) (matching_rows (log ++ row ∷ []))))
alert_at_last n x log row some order =
    let more : List LogEntry = log ++ row ∷ [] in
    let o = observed_in more in
    let number = length more in
    let t = row.last in
    let there : numbered_row more number ≡ Some row = last_row log row in
    let here : t ≡ o.last number = ap last_time (sym there) in
    let later : (i : ℕ) → o.holds 0 i ≡ true → o.last i ≤ℤ t = λ i h. none_later_at i h in
    let ends = ends_where_enough o x t n number some refl here later in
    let count = count_recent x t more in (
      λ alert.
          let enough = ends.0 alert in
          let parts = recent_parts o x t number enough.0 in (
            ap (λ r. truth r 0) (sym there) ∙ parts.0,
            subst (λ (r : Option LogEntry). t <ℤ later_by x (first_time r)) there parts.1,
            omega arith,
          ),
      λ enough.
          let holds : o.holds 0 number ≡ true = ap (λ r. truth r 0) there ∙ enough.0 in
          let near = subst (λ (r : Option LogEntry). t <ℤ later_by x (first_time r)) (sym there) enough.1 in
          ends.1 (recent_from o x t number holds near, omega arith),
    ) where
      none_later_at : (i : ℕ) → truth (numbered_row (log ++ row ∷ []) i) 0 ≡ true → last_time (numbered_row (log ++ row ∷ []) i) ≤ℤ row.last
      none_later_at zero h = absurd (false≢true h)
      none_later_at (suc i) h = none_later log row order i 0 h
