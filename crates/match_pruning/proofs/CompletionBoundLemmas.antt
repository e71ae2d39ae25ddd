-- What bounds the sequences that join a new thing to one thing held on the left of each FOLLOWEDBY.
use Rattle.std.proofs.Common.{◌≡◌, ℕ, zero, suc, ℤ, ◌≤ℤ◌, ◌<ℤ◌, List, [], ◌∷◌, refl, sym, ◌∙◌, subst, arith, inl, inr}
use Rattle.std.specs.Prelude.{Bool, true, false, int_lt, nat_eq, Option, Some, IfSome}
use Rattle.std.specs.List.{Contains, IsDistinct, list_any}
use Rattle.std.proofs.lemmas.Bool.{and_parts, and_from, or_right, or_cases}
use Rattle.std.proofs.lemmas.Int.{ints, clamps}
use Rattle.match_bindings.specs.BindTree.{has}
use Rattle.match_bindings.proofs.IsBindingLemmas.{apart_to, apart_from, lt_true, le_true, true_le}
use Rattle.match_pruning.specs.declared.join.Join.TheVariants as join
use Rattle.match_pruning.specs.declared.partial_match.PartialMatch.{PartialMatch}
use Rattle.match_pruning.specs.declared.completion_bound.CompletionBound.{CompletionBound}
use Rattle.match_pruning.specs.PartialMatchTree.{PartialMatchTree}
use Rattle.match_pruning.specs.inner.PartialMatches.{partial_match_trees}
use Rattle.match_pruning.specs.inner.Steps.{joined_matches, may_join}
use Rattle.match_pruning.specs.inner.Retains.{retains}
use Rattle.match_pruning.specs.inner.Numbers.{numbers}
use Rattle.match_pruning.specs.inner.Needed.{PendingLeftTrees, is_needed}
use Rattle.match_pruning.specs.inner.Picks.{HasPerfectMatching}
use Rattle.match_pruning.specs.inner.CompletionBounds.{may_precede, IsReachedCompletion}
use Rattle.match_pruning.proofs.RetainsLemmas.{le_trans, le_both, lt_false}
use Rattle.match_pruning.proofs.OldestLemmas.{retains_later}

-- what may be joined_matches with a greedy completion may go before it
pub join_precedes : (p : PartialMatchTree) (r : CompletionBound) (greedy_completion left : PartialMatchTree) → IsReachedCompletion p r greedy_completion → may_join join.Then left greedy_completion ≡ true → may_precede left r.earliest p ≡ true
join_precedes p r greedy_completion left h may =
    let parts = and_parts _ _ may in
    let apart = apart_to left.tree greedy_completion.tree parts.1 in
    and_from _ _ (true_le left.latest r.earliest (le_trans left.latest greedy_completion.earliest r.earliest (le_true left.latest greedy_completion.earliest parts.0) h.bound))
    (apart_from left.tree p.tree (λ n has_left. not_it n (has n p.tree) refl (apart n has_left))) where
      not_it : (n : ℕ) (b : Bool) → has n p.tree ≡ b → has n greedy_completion.tree ≡ false → has n p.tree ≡ false
      not_it n false is not_there = is
      not_it n true is not_there = absurd (let e : false ≡ true = sym not_there ∙ h.has_partial_match n is in cc)

-- where a thing begins that may be joined_matches with a greedy completion, the two begin together
pub join_begins : (greedy_completion left : PartialMatchTree) → left.earliest ≤ℤ left.latest → may_join join.Then left greedy_completion ≡ true →
    ((joined_matches join.Then left greedy_completion).earliest ≡ left.earliest) × (left.earliest ≤ℤ greedy_completion.earliest)
join_begins greedy_completion left span may =
    let before = le_true left.latest greedy_completion.earliest (and_parts _ _ may).0 in
    let order = le_trans left.earliest left.latest greedy_completion.earliest span before in
    (omega (arith, ints, clamps, order), order)

-- ---- sequences that go on

-- by something, where the sequences begin no later
pub continues : (p : PartialMatchTree) (old new : CompletionBound) (greedy_completion left : PartialMatchTree) → IsReachedCompletion p old greedy_completion → may_join join.Then left greedy_completion ≡ true → left.earliest ≤ℤ left.latest →
    left.earliest ≤ℤ new.earliest → (left.earliest ≡ new.earliest → HasPerfectMatching new.matching.list.items (joined_matches join.Then left greedy_completion).tree) →
    IsReachedCompletion p new (joined_matches join.Then left greedy_completion)
continues p old new greedy_completion left h may span bound picks =
    let begins = join_begins greedy_completion left span may in
    record {
      has_partial_match = λ n k. or_right (has n left.tree) (has n greedy_completion.tree) (h.has_partial_match n k);
      bound = subst (λ t. t ≤ℤ new.earliest) (sym begins.0) bound;
      picks = λ e. picks (sym begins.0 ∙ e);
    }

-- what is held ends no sooner than it begins, and has each number once
pub held_span : (held : List PartialMatch) (left : PartialMatchTree) → Contains (partial_match_trees held) left → left.earliest ≤ℤ left.latest
held_span [] left (k, l, is) = absurd (omega (arith, l))
held_span (x ∷ held) left (zero, l, is) = subst (λ (p : PartialMatchTree). p.earliest ≤ℤ p.latest) is x.span
held_span (x ∷ held) left (suc k, l, is) = held_span held left (k, omega (arith, l), is)

pub held_once : (held : List PartialMatch) (left : PartialMatchTree) → Contains (partial_match_trees held) left → IsDistinct nat_eq (numbers left.tree)
held_once [] left (k, l, is) = absurd (omega (arith, l))
held_once (x ∷ held) left (zero, l, is) = subst (λ (p : PartialMatchTree). IsDistinct nat_eq (numbers p.tree)) is x.once
held_once (x ∷ held) left (suc k, l, is) = held_once held left (k, omega (arith, l), is)

-- by something that lies wholly where they begin
pub at_same : (p : PartialMatchTree) (old : CompletionBound) (greedy_completion left : PartialMatchTree) (held : List PartialMatch) → IsReachedCompletion p old greedy_completion → Contains (partial_match_trees held) left →
    may_join join.Then left greedy_completion ≡ true → left.earliest ≡ old.earliest → HasPerfectMatching old.matching.list.items greedy_completion.tree
at_same p old greedy_completion left held h there may here =
    let begins = join_begins greedy_completion left (held_span held left there) may in
    h.picks (le_both greedy_completion.earliest old.earliest h.bound (subst (λ (t : ℤ). t ≤ℤ greedy_completion.earliest) here begins.1))

pub stays : (p : PartialMatchTree) (old new : CompletionBound) (greedy_completion left : PartialMatchTree) (held : List PartialMatch) → IsReachedCompletion p old greedy_completion → Contains (partial_match_trees held) left →
    may_join join.Then left greedy_completion ≡ true → new.earliest ≡ old.earliest →
    (left.earliest ≡ old.earliest → HasPerfectMatching old.matching.list.items greedy_completion.tree → HasPerfectMatching new.matching.list.items (joined_matches join.Then left greedy_completion).tree) →
    IsReachedCompletion p new (joined_matches join.Then left greedy_completion)
stays p old new greedy_completion left held h there may same picks =
    let span = held_span held left there in let begins = join_begins greedy_completion left span may in
    continues p old new greedy_completion left h may span (subst (λ (t : ℤ). left.earliest ≤ℤ t) (sym same) (le_trans left.earliest greedy_completion.earliest old.earliest begins.1 h.bound))
    (λ e. let here = e ∙ same in picks here (at_same p old greedy_completion left held h there may here))

-- what begins no later than the sequences, and not with them, begins before
pub begins_before : (p : PartialMatchTree) (old : CompletionBound) (greedy_completion left : PartialMatchTree) (held : List PartialMatch) → IsReachedCompletion p old greedy_completion → Contains (partial_match_trees held) left →
    may_join join.Then left greedy_completion ≡ true → (left.earliest ≡ old.earliest → ⊥) → left.earliest <ℤ old.earliest
begins_before p old greedy_completion left held h there may apart =
    by (int_lt left.earliest old.earliest) refl where
      order : left.earliest ≤ℤ old.earliest
      order = le_trans left.earliest greedy_completion.earliest old.earliest (join_begins greedy_completion left (held_span held left there) may).1 h.bound

      by : (b : Bool) → int_lt left.earliest old.earliest ≡ b → left.earliest <ℤ old.earliest
      by true is = lt_true left.earliest old.earliest is
      by false is = absurd (apart (le_both left.earliest old.earliest order (lt_false left.earliest old.earliest is)))

-- ---- what an option holds

pub of_some : {X : Type 0} (P : X → Type 0) (r : Option X) (x : X) → IfSome r P → r ≡ Some x → P x
of_some P r x h is = subst (λ o. IfSome o P) is h

-- ---- what is needed is reached

pub any_item : (f : PartialMatchTree → Bool) (xs : List PartialMatchTree) → list_any f xs ≡ true → (x : PartialMatchTree) × Contains xs x × (f x ≡ true)
any_item f [] h = absurd (cc)
any_item f (x ∷ xs) h = elim (or_cases (f x) (list_any f xs) h) [
  | inl here ↦ (x, (zero, omega arith, refl), here)
  | inr more ↦ (let found = any_item f xs more in (found.0, (suc found.1.0, omega (arith, found.1.1), found.1.2), found.2))
]

-- what is needed of a greedy completion that is kept nowhere goes on by something held on the left
pub needed_by_one : (now : ℤ) (x : PendingLeftTrees) (above : List PendingLeftTrees) (p greedy_completion : PartialMatchTree) (r : CompletionBound) → IsReachedCompletion p r greedy_completion → retains x.window r.earliest now ≡ false →
    is_needed now (x ∷ above) greedy_completion ≡ true →
    (left : PartialMatchTree) × Contains x.left left × (may_join join.Then left greedy_completion ≡ true) × (is_needed now above (joined_matches join.Then left greedy_completion) ≡ true)
needed_by_one now x above p greedy_completion r h gone wants = elim (or_cases _ _ wants) [
  | inl retained ↦ absurd (let e : false ≡ true = sym gone ∙ retains_later x.window greedy_completion.earliest r.earliest now h.bound retained in cc)
  | inr any ↦ (let found = any_item _ x.left any in let parts = and_parts _ _ found.2 in (found.0, found.1, parts.0, parts.1))
]
