-- A greedy completion that takes one thing more.
use Rattle.std.proofs.Common.{Greater, ◌≡◌, ℕ, ℤ, ◌≤ℤ◌, refl, sym, ◌∙◌, ap, subst, inl, inr}
use Rattle.std.specs.Prelude.{Bool, true, false, int_le}
use Rattle.std.specs.Cmp.{int_cmp_is}
use Rattle.std.specs.List.{Contains}
use Rattle.std.specs.Ordering.{is_le, int_cmp}
use Rattle.std.proofs.lemmas.Bool.{and_from, or_cases}
use Rattle.match_bindings.specs.BindTree.{has}
use Rattle.match_bindings.proofs.IsBindingLemmas.{apart_from, le_true, true_le}
use Rattle.match_pruning.specs.declared.join.Join.TheVariants as join
use Rattle.match_pruning.specs.declared.greedy_completion.GreedyCompletion.{GreedyCompletion}
use Rattle.match_pruning.specs.PartialMatchTree.{PartialMatchTree}
use Rattle.match_pruning.specs.inner.CompletionBounds.{IsGreedyCompletion}
use Rattle.match_pruning.specs.inner.Steps.{joined_matches, may_join}
use Rattle.match_pruning.proofs.RetainsLemmas.{le_false}
use Rattle.match_pruning.proofs.CompletionBoundLemmas.{join_begins}

pub le_before : (a b : ℤ) → is_le (int_cmp a b) ≡ true → a ≤ℤ b
le_before a b h = by (int_le a b) refl where
  by : (c : Bool) → int_le a b ≡ c → a ≤ℤ b
  by true is = le_true a b is
  by false is = absurd (let e : true ≡ false = sym h ∙ ap is_le (sym (int_cmp_is a b Greater (le_false a b is))) in cc)

-- it ends before the greedy completion, and none of its numbers is there
pub taken : (old new : GreedyCompletion) (left partial_match : PartialMatchTree) → IsGreedyCompletion old partial_match → left.earliest ≤ℤ left.latest → {time : ℤ} → left.latest ≤ℤ time → time ≡ old.earliest →
    new.earliest ≡ left.earliest → ((n : ℕ) → has n left.tree ≡ true → ¬ (Contains old.numbers.items n)) → ((n : ℕ) → has n left.tree ≡ true → Contains new.numbers.items n) →
    ((n : ℕ) → Contains old.numbers.items n → Contains new.numbers.items n) → (may_join join.Then left partial_match ≡ true) × IsGreedyCompletion new (joined_matches join.Then left partial_match)
taken old new left partial_match s span before same begins other added kept =
    let order : left.latest ≤ℤ partial_match.earliest = subst (λ (t : ℤ). left.latest ≤ℤ t) (same ∙ sym s.begins) before in
    let may : may_join join.Then left partial_match ≡ true
    = and_from _ _ (true_le left.latest partial_match.earliest order) (apart_from left.tree partial_match.tree (λ n h. out n h (has n partial_match.tree) refl)) in (
      may,
      record {
        begins = (join_begins partial_match left span may).0 ∙ sym begins;
        numbers = λ n h. elim (or_cases (has n left.tree) (has n partial_match.tree) h) [
          | inl l ↦ added n l
          | inr p ↦ kept n (s.numbers n p)
        ];
      },
    ) where
      out : (n : ℕ) → has n left.tree ≡ true → (b : Bool) → has n partial_match.tree ≡ b → has n partial_match.tree ≡ false
      out n h false is = is
      out n h true is = absurd (other n h (s.numbers n is))
