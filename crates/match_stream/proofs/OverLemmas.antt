-- How much is retained after a row whose answer isn't made: there is an answer, and it is as long as what ends there.
use Rattle.std.proofs.Common.{◌≡◌, ℕ, suc, ◌+◌, ◌*◌, ◌≤◌, ℤ, List, length, refl, sym, ◌∙◌, ap, arith}
use Rattle.std.specs.Prelude.{Bool, true, false, ◌&&◌, nat_eq, filter}
use Rattle.std.proofs.lemmas.Bool.{eqb-true, eq-eqb}
use Rattle.match_bindings.specs.declared.log_entry.LogEntry.{LogEntry}
use Rattle.match_bindings.specs.Bounds.{no_bounds}
use Rattle.match_bindings.specs.NumberedPattern.{NumberedPattern}
use Rattle.match_bindings.specs.BindTree.{BindTree, has, greatest}
use Rattle.match_bindings.specs.Log.{observed_in}
use Rattle.match_bindings.specs.Listing.{IsListing}
use Rattle.match_bindings.specs.Test.{is_binding}
use Rattle.match_bindings.specs.Once.{bit, count}
use Rattle.match_bindings.proofs.OnceLemmas.{count_filter}
use Rattle.match_stream.specs.declared.run.Run.{Run}
use Rattle.match_pruning.specs.PartialMatchTree.{trees_in}
use Rattle.match_stream.specs.RetainedPart.{held_count}
use Rattle.match_stream.specs.MatcherState.{with_log_row}
use Rattle.match_stream.specs.Answer.{EndsAtLast, IsAnswer, IsRetainedCount}
use Rattle.match_pruning.specs.inner.Steps.{step_new, step_state, contents_of}
use Rattle.match_stream.specs.inner.Nodes.{node_state}
use Rattle.match_stream.specs.inner.Runs.{next_row, retained_after}
use Rattle.match_stream.proofs.StepLemmas.{ends}
use Rattle.match_stream.proofs.LogLemmas.{holds_inside, length_more}
use Rattle.match_stream.proofs.ShapeLemmas.{Rule}
use Rattle.match_stream.proofs.AnswerLemmas.{ends_at, and_true, held_counts, same_length, trees_length}
use Rattle.match_stream.proofs.CountLemmas.{answer_counts}
use Rattle.match_stream.proofs.ListingLemmas.{ByTest}
use Rattle.match_stream.proofs.PrefixLemmas.{Ordered, ascends_filter}
use Rattle.match_stream.proofs.TakeLemmas.{Goes, entry, both_laws, retained_then}

-- each log has a listing
abbrev pub Listed : Type 0
Listed = (log : List LogEntry) (p : NumberedPattern) → (xs : List BindTree) × IsListing (observed_in log) p xs

-- what of it ends at the last row
abbrev last_of_it : List LogEntry → List BindTree → List BindTree
last_of_it log xs = filter (λ x. nat_eq (greatest x) (length log)) xs

answer_is : Rule → ByTest → Ordered → (p : NumberedPattern) (log : List LogEntry) (xs : List BindTree) → IsListing (observed_in log) p xs → IsAnswer p log (last_of_it log xs)
answer_is rule test ordered p log xs listing = record {
  each_once = λ x h. each x ∙ (let b = (rule (observed_in log) p x).1 h.0 in let g = eq-eqb (greatest x) (length log) h.1 in rw (b, g) refl);
  no_other = λ x h. each x ∙ by x h (is_binding (observed_in log) p x) (nat_eq (greatest x) (length log)) refl refl;
  ascends = ascends_filter ordered (λ x. nat_eq (greatest x) (length log)) xs ((test (observed_in log) p xs).0 listing).1;
} where
  each : (x : BindTree) → count x (last_of_it log xs) ≡ bit (nat_eq (greatest x) (length log)) * bit (is_binding (observed_in log) p x)
  each x = count_filter x (λ x. nat_eq (greatest x) (length log)) xs ∙ ap (λ n. bit (nat_eq (greatest x) (length log)) * n) (((test (observed_in log) p xs).0 listing).0 x)

  by : (x : BindTree) → (EndsAtLast p log x → ⊥) → (b c : Bool) → is_binding (observed_in log) p x ≡ b → nat_eq (greatest x) (length log) ≡ c →
      bit (nat_eq (greatest x) (length log)) * bit (is_binding (observed_in log) p x) ≡ 0
  by x h true true eb ec = absurd (h ((rule (observed_in log) p x).0 eb, eqb-true (greatest x) (length log) ec))
  by x h true false eb ec = rw (eb, ec) refl
  by x h false true eb ec = rw (eb, ec) refl
  by x h false false eb ec = rw (eb, ec) refl

pub count_over : Rule → ByTest → Ordered → Listed → (run : Run) (p : NumberedPattern) (log : List LogEntry) (first last : ℤ) (truths : List Bool) →
    Goes p (node_state run.node) run.rows log last →
    IsRetainedCount p (with_log_row log first last truths) (retained_after run (next_row run.rows first last) truths)
count_over rule test ordered listed run p log first last truths g =
    let longer = with_log_row log first last truths in
    let new = step_new (next_row run.rows first last) truths (node_state run.node) in
    let contents = contents_of (step_state (next_row run.rows first last) truths (node_state run.node)) in
    let listing = listed longer p in
    let xs = last_of_it longer listing.0 in
    let answer = answer_is rule test ordered p longer listing.0 listing.1 in
    let long = length_more log (entry first last truths) in
    let held = (both_laws rule p (node_state run.node) run.rows log first last truths g).0 in
    let inside : (k i : ℕ) → (observed_in longer).holds k i ≡ true → i ≤ suc (length log) = λ k i h. (let within_log = holds_inside longer k i h in let most : i ≤ suc (length log) = omega (arith, within_log, long) in most) in
    let many : length xs ≡ length new = same_length xs (trees_in new) (λ x.
    answer_counts rule p longer xs answer x
    ∙ ap (λ n. bit (is_binding (observed_in longer) p x && nat_eq (greatest x) n)) long
    ∙ sym (held_counts (observed_in longer) (ends (observed_in longer) (suc (length log)) last no_bounds p) new held x
    ∙ ap bit (and_true (is_binding (observed_in longer) p x) (has (suc (length log)) x))
    ∙ ap bit (ends_at (observed_in longer) (suc (length log)) inside p x))) ∙ trees_length new in
    record {
      contents = contents;
      answer = xs;
      retained = retained_then rule p (node_state run.node) run.rows log first last truths g;
      ending = answer;
      sum = (let e : length new + held_count contents ≡ held_count contents + length xs = omega (arith, many) in e);
    }
