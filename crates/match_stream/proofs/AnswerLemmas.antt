-- What ends at a row, sorted, is the answer; and how much is retained.
use Rattle.std.proofs.Common.{◌≡◌, ℕ, suc, ◌+◌, ◌≤◌, ◌<◌, List, [], ◌∷◌, ◌++◌, length, refl, sym, ◌∙◌, ap, arith}
use Rattle.std.specs.Prelude.{Bool, true, false, ◌&&◌, nat_eq, cond}
use Rattle.std.specs.List.Sorted.{IsSortedBy}
use Rattle.std.proofs.lemmas.Bool.{eqb-true, eq-eqb, ne_eqb}
use Rattle.std.proofs.lemmas.List.{length-map}
use Rattle.match_bindings.specs.declared.log_entry.LogEntry.{LogEntry}
use Rattle.match_bindings.specs.Bounds.{no_bounds}
use Rattle.match_bindings.specs.NumberedPattern.{NumberedPattern}
use Rattle.match_bindings.specs.BindTree.{BindTree, has, greatest}
use Rattle.match_bindings.specs.Log.{Observed, observed_in}
use Rattle.match_bindings.specs.Test.{is_binding}
use Rattle.match_bindings.specs.Once.{bit, is_same_tree, count}
use Rattle.match_bindings.specs.Flat.{comes_before, Ascends}
use Rattle.match_pruning.specs.PartialMatchTree.{PartialMatchTree, trees_in}
use Rattle.match_stream.specs.Answer.{EndsAtLast, IsAnswer}
use Rattle.match_bindings.proofs.OnceLemmas.{same_is, same_self}
use Rattle.match_pruning.proofs.NumberLemmas.{has_greatest, greatest_binding, old_binding}
use Rattle.match_stream.proofs.StoreLemmas.{AreHeld}
use Rattle.match_stream.proofs.StepLemmas.{ends}
use Rattle.match_stream.proofs.LogLemmas.{holds_inside, length_more}
use Rattle.match_stream.proofs.ShapeLemmas.{Rule, trees_held}

-- bindings of one pattern, none of them twice, ascend where they are sorted
abbrev pub Ascend : Type 0
Ascend = (o : Observed) (p : NumberedPattern) (xs : List BindTree) → ((x : BindTree) → count x xs ≤ bit (is_binding o p x)) → IsSortedBy comes_before xs → Ascends xs

-- a binding has the last row's number exactly where that is its greatest
pub ends_at : (o : Observed) (n : ℕ) → ((k i : ℕ) → o.holds k i ≡ true → i ≤ n) → (p : NumberedPattern) (x : BindTree) →
    (is_binding o p x && has n x) ≡ (is_binding o p x && nat_eq (greatest x) n)
ends_at o n counted p x = by_test (is_binding o p x) (has n x) refl refl where
  by_test : (b u : Bool) → is_binding o p x ≡ b → has n x ≡ u → (is_binding o p x && has n x) ≡ (is_binding o p x && nat_eq (greatest x) n)
  by_test false u hb hu = rw hb refl
  by_test true true hb hu =
      let above : n ≤ greatest x = has_greatest n x hu in
      let below : greatest x ≤ n = greatest_binding o n counted p x hb in
      let yes_it_is : nat_eq (greatest x) n ≡ true = eq-eqb (greatest x) n (omega arith) in
      rw (hb, hu, yes_it_is) refl
  by_test true false hb hu =
      let below : greatest x < n = old_binding o n counted p x hb hu in
      let it_isnt : nat_eq (greatest x) n ≡ false = ne_eqb (greatest x) n (λ e. omega arith) in
      rw (hb, hu, it_isnt) refl

pub and_true : (b h : Bool) → ((b && true) && h) ≡ (b && h)
and_true true h = refl
and_true false h = refl

bit_and_most : (b c : Bool) → bit (b && c) ≤ bit b
bit_and_most true true = omega arith
bit_and_most true false = omega arith
bit_and_most false c = omega arith

-- the trees of what is held stand there as often as the test says
pub held_counts : (o : Observed) (f : BindTree → Bool) (held : List PartialMatchTree) → AreHeld o f held → (x : BindTree) → count x (trees_in held) ≡ bit (f x)
held_counts o f held (xs, is, each) x = ap (count x) (ap trees_in is ∙ trees_held o xs) ∙ each x

-- what ends at the last row of a log
pub answer_law : Rule → Ascend → (p : NumberedPattern) (log : List LogEntry) (r : LogEntry) (new : List PartialMatchTree) (xs : List BindTree) →
    AreHeld (observed_in (log ++ r ∷ [])) (ends (observed_in (log ++ r ∷ [])) (suc (length log)) r.last no_bounds p) new →
    ((x : BindTree) → count x xs ≡ count x (trees_in new)) → IsSortedBy comes_before xs → IsAnswer p (log ++ r ∷ []) xs
answer_law rule sift_up p log r new xs held is_same_tree sorted = record {
  each_once = λ x h. each x ∙ ap bit (yes_it_is x h);
  no_other = λ x h. each x ∙ ap bit (no_it_isnt x h (is_binding o p x) (nat_eq (greatest x) n) refl refl);
  ascends = sift_up o p xs (λ x. let e = each x in let most = bit_and_most (is_binding o p x) (nat_eq (greatest x) n) in omega arith) sorted;
} where
  o : Observed
  o = observed_in (log ++ r ∷ [])

  n : ℕ
  n = suc (length log)

  long : length (log ++ r ∷ []) ≡ suc (length log)
  long = length_more log r

  counted : (k i : ℕ) → (observed_in (log ++ r ∷ [])).holds k i ≡ true → i ≤ suc (length log)
  counted k i h = let within_log : i ≤ length (log ++ r ∷ []) = holds_inside (log ++ r ∷ []) k i h in omega (arith, long)

  each : (x : BindTree) → count x xs ≡ bit (is_binding (observed_in (log ++ r ∷ [])) p x && nat_eq (greatest x) (suc (length log)))
  each x =
      is_same_tree x ∙ held_counts (observed_in (log ++ r ∷ [])) (ends (observed_in (log ++ r ∷ [])) (suc (length log)) r.last no_bounds p) new held x
      ∙ ap bit (and_true (is_binding (observed_in (log ++ r ∷ [])) p x) (has (suc (length log)) x))
      ∙ ap bit (ends_at (observed_in (log ++ r ∷ [])) (suc (length log)) counted p x)

  yes_it_is : (x : BindTree) → EndsAtLast p (log ++ r ∷ []) x → (is_binding (observed_in (log ++ r ∷ [])) p x && nat_eq (greatest x) (suc (length log))) ≡ true
  yes_it_is x h =
      let b : is_binding (observed_in (log ++ r ∷ [])) p x ≡ true = (rule (observed_in (log ++ r ∷ [])) p x).1 h.0 in
      let g : nat_eq (greatest x) (suc (length log)) ≡ true = eq-eqb (greatest x) (suc (length log)) (h.1 ∙ long) in
      rw (b, g) refl

  no_it_isnt : (x : BindTree) → (EndsAtLast p (log ++ r ∷ []) x → ⊥) → (b c : Bool) → is_binding (observed_in (log ++ r ∷ [])) p x ≡ b → nat_eq (greatest x) (suc (length log)) ≡ c →
      (is_binding (observed_in (log ++ r ∷ [])) p x && nat_eq (greatest x) (suc (length log))) ≡ false
  no_it_isnt x h false c eb ec = rw eb refl
  no_it_isnt x h true false eb ec = rw (eb, ec) refl
  no_it_isnt x h true true eb ec = absurd (h ((rule (observed_in (log ++ r ∷ [])) p x).0 eb, eqb-true (greatest x) (suc (length log)) ec ∙ sym long))

-- ---- lists with the is_same_tree counts are as long as each other

-- without one such tree
abbrev drop_one : BindTree → List BindTree → List BindTree
drop_one x [] = []
drop_one x (y ∷ ys) = cond (is_same_tree x y) ys (y ∷ drop_one x ys)

dropped_count : (x : BindTree) (ys : List BindTree) → 0 < count x ys → (z : BindTree) → count z ys ≡ bit (is_same_tree z x) + count z (drop_one x ys)
dropped_count x [] h z = absurd (omega arith)
dropped_count x (y ∷ ys) h z = by (is_same_tree x y) refl (λ k. dropped_count x ys k z) where
  by : (b : Bool) → is_same_tree x y ≡ b → (0 < count x ys → count z ys ≡ bit (is_same_tree z x) + count z (drop_one x ys)) →
      bit (is_same_tree z y) + count z ys ≡ bit (is_same_tree z x) + count z (cond (is_same_tree x y) ys (y ∷ drop_one x ys))
  by true e ih = rw e (ap (λ w. bit (is_same_tree z w) + count z ys) (sym (same_is x y e)))
  by false e ih =
      let more : 0 < bit (is_same_tree x y) + count x ys = h in
      let more' : 0 < bit false + count x ys = rw e at more in
      let rest : count z ys ≡ bit (is_same_tree z x) + count z (drop_one x ys) = ih (omega arith) in
      rw e (omega (arith, rest))

dropped_length : (x : BindTree) (ys : List BindTree) → 0 < count x ys → length ys ≡ suc (length (drop_one x ys))
dropped_length x [] h = absurd (omega arith)
dropped_length x (y ∷ ys) h = by (is_same_tree x y) refl (λ k. dropped_length x ys k) where
  by : (b : Bool) → is_same_tree x y ≡ b → (0 < count x ys → length ys ≡ suc (length (drop_one x ys))) → suc (length ys) ≡ suc (length (cond (is_same_tree x y) ys (y ∷ drop_one x ys)))
  by true e ih = rw e refl
  by false e ih =
      let more : 0 < bit (is_same_tree x y) + count x ys = h in
      let more' : 0 < bit false + count x ys = rw e at more in
      let rest : length ys ≡ suc (length (drop_one x ys)) = ih (omega arith) in
      rw e (ap suc rest)

pub same_length : (xs ys : List BindTree) → ((x : BindTree) → count x xs ≡ count x ys) → length xs ≡ length ys
same_length [] [] h = refl
same_length [] (y ∷ ys) h =
    let e : 0 ≡ bit (is_same_tree y y) + count y ys = h y in
    let e' : 0 ≡ 1 + count y ys = rw (same_self y) at e in
    absurd (omega arith)
same_length (x ∷ xs) ys h =
    let e : bit (is_same_tree x x) + count x xs ≡ count x ys = h x in
    let e' : 1 + count x xs ≡ count x ys = rw (same_self x) at e in
    let some : 0 < count x ys = omega arith in
    let rest : length xs ≡ length (drop_one x ys) = same_length xs (drop_one x ys) (λ z.
    let k : bit (is_same_tree z x) + count z xs ≡ count z ys = h z in
    let d : count z ys ≡ bit (is_same_tree z x) + count z (drop_one x ys) = dropped_count x ys some z in
    omega arith) in
    ap suc rest ∙ sym (dropped_length x ys some)

pub trees_length : (held : List PartialMatchTree) → length (trees_in held) ≡ length held
trees_length held = length-map held (λ h. h.tree)
