-- Leaves in a chain of ORs: what is new at them, that they stay as they are, and hold nothing.
use Rattle.std.proofs.Common.{◌≡◌, ℕ, zero, suc, ◌+◌, ◌-◌, ◌<◌, ℤ, List, [], ◌∷◌, ◌++◌, refl, sym, ◌∙◌, ap, arith, append-nil}
use Rattle.std.specs.Prelude.{Bool, true, false, ◌&&◌, map, Option, Some, None, nat_eq}
use Rattle.std.specs.Ordering.{int_eq}
use Rattle.std.specs.Cmp.{booleans_Decides}
use Rattle.std.specs.Option.{option_eq}
use Rattle.std.proofs.Math.Bool.{beq}
use Rattle.std.proofs.lemmas.Bool.{eqb-true, and_parts}
use Rattle.std.proofs.lemmas.Bool.Decides.{Decides-int_eq}
use Rattle.match_bindings.specs.BindTree.{First, Second, firsts}
use Rattle.match_pruning.specs.declared.window.Window.{Window}
use Rattle.match_pruning.specs.declared.row.Row.{Row}
use Rattle.match_pruning.specs.PartialMatchTree.{PartialMatchTree}
use Rattle.match_stream.specs.RetainedPart.{held_count}
use Rattle.match_pruning.specs.inner.Retains.{retains}
use Rattle.match_pruning.specs.inner.Steps.{a_leaf, a_choice, held_with, truth_at, row_alone, new_at_leaf, leaves_state, step_new, step_state, contents_of, expired}
use Rattle.match_pruning.specs.inner.Needed.{PendingLeftTrees, is_needed, needed}
use Rattle.match_stream.specs.inner.Totals.{held_after}
use Rattle.match_pruning.specs.inner.UpToOrder.{IsSameUpToOrder}
use Rattle.match_stream.proofs.TotalLemmas.{either_needed}
use Rattle.match_stream.proofs.UnderFirstsLemmas.{under_none, choice_under}

-- one more is on the right of them all
pub one_more : (first n : ℕ) (w : Window) → leaves_state first (n + 1) w ≡ a_choice (leaves_state first n w) (a_leaf (first + n + 1) w)
one_more first n w = let e : n + 1 ≡ suc n = omega arith in ap (λ k. leaves_state first k w) e

-- and one alone is a leaf
pub one_alone : (first n : ℕ) (w : Window) → n ≡ 0 → a_leaf first w ≡ leaves_state first n w
one_alone first n w none = sym (ap (λ k. leaves_state first k w) none)

-- ---- they stay, and hold nothing

pub leaves_stay : (row : Row) (truths : List Bool) (first n : ℕ) (w : Window) → step_state row truths (leaves_state first n w) ≡ leaves_state first n w
leaves_stay row truths first zero w = refl
leaves_stay row truths first (suc n) w = ap (λ z. a_choice z (a_leaf (first + n + 1) w)) (leaves_stay row truths first n w)

pub leaves_hold_nothing : (first n : ℕ) (w : Window) → contents_of (leaves_state first n w) ≡ []
leaves_hold_nothing first zero w = refl
leaves_hold_nothing first (suc n) w = append-nil (contents_of (leaves_state first n w)) ∙ leaves_hold_nothing first n w

pub leaves_count : (row : Row) (truths : List Bool) (first n : ℕ) (w : Window) → held_after row truths (leaves_state first n w) ≡ 0
leaves_count row truths first n w =
    ap (λ z. held_count (contents_of z)) (leaves_stay row truths first n w) ∙ ap held_count (leaves_hold_nothing first n w)

pub leaves_arranged : (now : ℤ) (first n : ℕ) (w : Window) → IsSameUpToOrder (expired now (leaves_state first n w)) (leaves_state first n w)
leaves_arranged now first zero w = refl
leaves_arranged now first (suc n) w = (leaves_arranged now first n w, refl)

-- ---- what is new at them

-- with one more, under n ORs more
pub new_with_one : (row : Row) (truths : List Bool) (first at n : ℕ) (w : Window) →
    map (held_with (firsts n)) (step_new row truths (leaves_state first (at + 1) w))
    ≡ map (held_with (firsts (n + 1))) (step_new row truths (leaves_state first at w))
    ++ map (held_with (firsts n)) (map (held_with Second) (new_at_leaf row truths (first + at + 1) w))
new_with_one row truths first at n w =
    ap (λ z. map (held_with (firsts n)) (step_new row truths z)) (one_more first at w)
    ∙ sym (choice_under n (step_new row truths (leaves_state first at w)) (new_at_leaf row truths (first + at + 1) w))

-- a leaf that holds has the row alone where it retains, and one that doesn't nothing
pub leaf_holds : (row : Row) (truths : List Bool) (k : ℕ) (w : Window) → truth_at truths k ≡ true → retains w row.first row.last ≡ true →
    new_at_leaf row truths k w ≡ row_alone row ∷ []
leaf_holds row truths k w holds retained = rw (holds, retained) refl

pub leaf_off : (row : Row) (truths : List Bool) (k : ℕ) (w : Window) → truth_at truths k ≡ false → new_at_leaf row truths k w ≡ []
leaf_off row truths k w off = rw off refl

-- what is made after one leaf more of so many
pub made_more : (row : Row) (truths : List Bool) (first at more : ℕ) (w : Window) (made new one : List PartialMatchTree) → at < more →
    made ≡ map (held_with (firsts (more - at))) (step_new row truths (leaves_state first at w)) → new_at_leaf row truths (first + at + 1) w ≡ one →
    new ≡ made ++ map (held_with (firsts (more - at - 1))) (map (held_with Second) one) →
    new ≡ map (held_with (firsts (more - (at + 1)))) (step_new row truths (leaves_state first (at + 1) w))
made_more row truths first at more w made new one inside before leaf is =
    let n = more - at - 1 in
    let up : more - at ≡ n + 1 = omega (arith, inside) in
    let same : more - (at + 1) ≡ n = omega (arith, inside) in
    is
    ∙ ap (λ z. z ++ map (held_with (firsts n)) (map (held_with Second) one)) (before ∙ ap (λ k. map (held_with (firsts k)) (step_new row truths (leaves_state first at w))) up)
    ∙ ap (λ z. map (held_with (firsts (n + 1))) (step_new row truths (leaves_state first at w)) ++ map (held_with (firsts n)) (map (held_with Second) z)) (sym leaf)
    ∙ sym (new_with_one row truths first at n w)
    ∙ ap (λ k. map (held_with (firsts k)) (step_new row truths (leaves_state first (at + 1) w))) (sym same)

-- and after all
pub made_all : (row : Row) (truths : List Bool) (first at more : ℕ) (w : Window) (made : List PartialMatchTree) → at ≡ more →
    made ≡ map (held_with (firsts (more - at))) (step_new row truths (leaves_state first at w)) → made ≡ step_new row truths (leaves_state first more w)
made_all row truths first at more w made all is =
    let none : more - at ≡ 0 = omega (arith, all) in
    is ∙ ap (λ k. map (held_with (firsts k)) (step_new row truths (leaves_state first at w))) none ∙ under_none (step_new row truths (leaves_state first at w))
    ∙ ap (λ k. step_new row truths (leaves_state first k w)) all

-- nothing where the row doesn't retained
pub none_retains : (row : Row) (truths : List Bool) (first n : ℕ) (w : Window) → retains w row.first row.last ≡ false → step_new row truths (leaves_state first n w) ≡ []
none_retains row truths first n w dead = each n where
  leaf : (k : ℕ) → new_at_leaf row truths k w ≡ []
  leaf k = by (truth_at truths k) refl where
    by : (a : Bool) → truth_at truths k ≡ a → new_at_leaf row truths k w ≡ []
    by false is = rw is refl
    by true is = rw (is, dead) refl

  each : (n : ℕ) → step_new row truths (leaves_state first n w) ≡ []
  each zero = leaf first
  each (suc n) =
      ap (λ z. map (held_with First) z ++ map (held_with Second) (new_at_leaf row truths (first + n + 1) w)) (each n)
      ∙ ap (map (held_with Second)) (leaf (first + n + 1))

-- all is needed where the row alone is, and nothing where it isn't
module _ (row : Row) (truths : List Bool) (ahead : List PendingLeftTrees) (w : Window) where
  leaf_needed : is_needed row.last ahead (row_alone row) ≡ true → (k : ℕ) → needed row.last ahead (new_at_leaf row truths k w) ≡ new_at_leaf row truths k w
  leaf_needed is k = by (truth_at truths k && retains w row.first row.last) refl where
    by : (a : Bool) → (truth_at truths k && retains w row.first row.last) ≡ a → needed row.last ahead (new_at_leaf row truths k w) ≡ new_at_leaf row truths k w
    by false at = rw at refl
    by true at = rw (at, is) refl

  leaf_unwanted : is_needed row.last ahead (row_alone row) ≡ false → (k : ℕ) → needed row.last ahead (new_at_leaf row truths k w) ≡ []
  leaf_unwanted is k = by (truth_at truths k && retains w row.first row.last) refl where
    by : (a : Bool) → (truth_at truths k && retains w row.first row.last) ≡ a → needed row.last ahead (new_at_leaf row truths k w) ≡ []
    by false at = rw at refl
    by true at = rw (at, is) refl

  pub all_needed : is_needed row.last ahead (row_alone row) ≡ true → (first n : ℕ) →
      needed row.last ahead (step_new row truths (leaves_state first n w)) ≡ step_new row truths (leaves_state first n w)
  all_needed is first zero = leaf_needed is first
  all_needed is first (suc n) =
      sym (either_needed row.last ahead (step_new row truths (leaves_state first n w)) (new_at_leaf row truths (first + n + 1) w))
      ∙ ap (λ z. map (held_with First) z ++ map (held_with Second) (needed row.last ahead (new_at_leaf row truths (first + n + 1) w))) (all_needed is first n)
      ∙ ap (λ z. map (held_with First) (step_new row truths (leaves_state first n w)) ++ map (held_with Second) z) (leaf_needed is (first + n + 1))

  pub none_needed : is_needed row.last ahead (row_alone row) ≡ false → (first n : ℕ) → needed row.last ahead (step_new row truths (leaves_state first n w)) ≡ []
  none_needed is first zero = leaf_unwanted is first
  none_needed is first (suc n) =
      sym (either_needed row.last ahead (step_new row truths (leaves_state first n w)) (new_at_leaf row truths (first + n + 1) w))
      ∙ ap (λ z. map (held_with First) z ++ map (held_with Second) (needed row.last ahead (new_at_leaf row truths (first + n + 1) w))) (none_needed is first n)
      ∙ ap (map (held_with Second)) (leaf_unwanted is (first + n + 1))

-- ---- windows that `==` finds alike

option_is : {T : Type 0} (E : T → T → Bool) → ((a b : T) → E a b ≡ true → a ≡ b) → (a b : Option T) → option_eq E a b ≡ true → a ≡ b
option_is E each None None h = refl
option_is E each (Some a) (Some b) h = ap Some (each a b h)
option_is E each None (Some b) h = absurd (cc)
option_is E each (Some a) None h = absurd (cc)

bool_is : (a b : Bool) → beq a b ≡ true → a ≡ b
bool_is a b = (booleans_Decides a b).0

int_is : (a b : ℤ) → int_eq a b ≡ true → a ≡ b
int_is a b = (Decides-int_eq a b).0

pub window_is : (a b : Window) →
    (option_eq nat_eq a.seconds b.seconds && (option_eq int_eq a.start b.start && (option_eq int_eq a.stop b.stop && beq a.after_left b.after_left))) ≡ true → a ≡ b
window_is a b h =
    let one = and_parts (option_eq nat_eq a.seconds b.seconds) (option_eq int_eq a.start b.start && (option_eq int_eq a.stop b.stop && beq a.after_left b.after_left)) h in
    let two = and_parts (option_eq int_eq a.start b.start) (option_eq int_eq a.stop b.stop && beq a.after_left b.after_left) one.1 in
    let three = and_parts (option_eq int_eq a.stop b.stop) (beq a.after_left b.after_left) two.1 in
    let e = option_is nat_eq eqb-true a.seconds b.seconds one.0 in let f = option_is int_eq int_is a.start b.start two.0 in
    let g = option_is int_eq int_is a.stop b.stop three.0 in let k = bool_is a.after_left b.after_left three.1 in
    λ i. record { seconds = e i; start = f i; stop = g i; after_left = k i }
