-- A pattern of one bracket: what ends at a row is the row, where the bracket holds.
use Rattle.std.proofs.Common.{◌≡◌, ℕ, suc, ◌+◌, ℤ, List, [], ◌∷◌, length, refl, sym, ◌∙◌, ap, subst, arith}
use Rattle.std.specs.Prelude.{Bool, true, false, Some}
use Rattle.match_bindings.specs.declared.log_entry.LogEntry.{LogEntry}
use Rattle.match_bindings.specs.NumberedPattern.{Leaf}
use Rattle.match_bindings.specs.BindTree.{BindTree, One, Pair, First, Second, Empty, Single, More}
use Rattle.match_bindings.specs.Log.{truth, observed_in}
use Rattle.match_bindings.specs.Once.{is_same_tree, count}
use Rattle.match_stream.specs.MatcherState.{with_log_row}
use Rattle.match_stream.specs.Answer.{EndsAtLast, IsAnswer, IsRetainedCount}
use Rattle.match_stream.proofs.LogLemmas.{get_seam, length_more}
use Rattle.match_bindings.proofs.OnceLemmas.{same_is, same_self}
use Rattle.match_stream.proofs.TakeLemmas.{entry}
use Rattle.hunt_engine.specs.inner.Following.{single_bracket_at}

-- the bracket holds at the row
holds_is : (log : List LogEntry) (first last : ℤ) (truths : List Bool) → (observed_in (with_log_row log first last truths)).holds 0 (suc (length log)) ≡ truth (Some (entry first last truths)) 0
holds_is log first last truths = ap (λ z. truth z 0) (get_seam log (entry first last truths))

-- a binding of one bracket that ends there is the row
is_the_row : (log : List LogEntry) (first last : ℤ) (truths : List Bool) (x : BindTree) → EndsAtLast (Leaf 0) (with_log_row log first last truths) x →
    (x ≡ One (suc (length log))) × (truth (Some (entry first last truths)) 0 ≡ true)
is_the_row log first last truths (One i) e =
    let at : i ≡ suc (length log) = e.1 ∙ length_more log (entry first last truths) in
    (ap One at, sym (holds_is log first last truths) ∙ subst (λ (n : ℕ). (observed_in (with_log_row log first last truths)).holds 0 n ≡ true) at e.0)
is_the_row log first last truths (Pair a b) e = absurd e.0
is_the_row log first last truths (First a) e = absurd e.0
is_the_row log first last truths (Second a) e = absurd e.0
is_the_row log first last truths Empty e = absurd e.0
is_the_row log first last truths (Single a) e = absurd e.0
is_the_row log first last truths (More m a) e = absurd e.0

-- the row is one where the bracket holds
row_ends : (log : List LogEntry) (first last : ℤ) (truths : List Bool) → truth (Some (entry first last truths)) 0 ≡ true →
    EndsAtLast (Leaf 0) (with_log_row log first last truths) (One (suc (length log)))
row_ends log first last truths h = (holds_is log first last truths ∙ h, sym (length_more log (entry first last truths)))

no_single_bracket : (log : List LogEntry) (first last : ℤ) (truths : List Bool) → truth (Some (entry first last truths)) 0 ≡ false → IsAnswer (Leaf 0) (with_log_row log first last truths) []
no_single_bracket log first last truths h = record {
  each_once = λ x e. absurd (let k = (is_the_row log first last truths x e).1 in cc);
  no_other = λ x _. refl;
  ascends = tt;
}

one_single_bracket : (log : List LogEntry) (first last : ℤ) (truths : List Bool) → truth (Some (entry first last truths)) 0 ≡ true →
    IsAnswer (Leaf 0) (with_log_row log first last truths) (One (suc (length log)) ∷ [])
one_single_bracket log first last truths h = record {
  each_once = λ x e. let at = (is_the_row log first last truths x e).0 in rw at (let me = same_self (One (suc (length log))) in rw me refl);
  no_other = λ x none. by x none (is_same_tree x (One (suc (length log)))) refl;
  ascends = tt;
} where
  by : (x : BindTree) → ¬ (EndsAtLast (Leaf 0) (with_log_row log first last truths) x) → (b : Bool) → is_same_tree x (One (suc (length log))) ≡ b → count x (One (suc (length log)) ∷ []) ≡ 0
  by x none true e = absurd (none (subst (λ (y : BindTree). EndsAtLast (Leaf 0) (with_log_row log first last truths) y) (sym (same_is x (One (suc (length log))) e)) (row_ends log first last truths h)))
  by x none false e = rw e refl

pub single_bracket_answer : (log : List LogEntry) (first last : ℤ) (truths : List Bool) → IsAnswer (Leaf 0) (with_log_row log first last truths) (single_bracket_at (suc (length log)) truths)
single_bracket_answer log first last [] = no_single_bracket log first last [] refl
single_bracket_answer log first last (true ∷ truths) = one_single_bracket log first last (true ∷ truths) refl
single_bracket_answer log first last (false ∷ truths) = no_single_bracket log first last (false ∷ truths) refl

pub single_bracket_count : (log : List LogEntry) (first last : ℤ) (truths : List Bool) → IsRetainedCount (Leaf 0) (with_log_row log first last truths) (length (single_bracket_at (suc (length log)) truths))
single_bracket_count log first last truths = record {
  contents = [];
  answer = single_bracket_at (suc (length log)) truths;
  retained = tt;
  ending = single_bracket_answer log first last truths;
  sum = let e : length (single_bracket_at (suc (length log)) truths) ≡ 0 + length (single_bracket_at (suc (length log)) truths) = omega arith in e;
}
