-- A row of a matcher that stands for a log.
use Rattle.std.proofs.Common.{◌≡◌, ℕ, suc, ◌+◌, ℤ, List, length, refl, sym, ◌∙◌, ap, subst, arith}
use Rattle.std.specs.Prelude.{Bool, true, ◌||◌, Option, None, Some, is_some, Result, Err}
use Rattle.match_bindings.specs.declared.log_entry.LogEntry.{LogEntry}
use Rattle.match_bindings.specs.Bounds.{no_bounds}
use Rattle.match_bindings.specs.NumberedPattern.{NumberedPattern}
use Rattle.match_bindings.specs.BindTree.{BindTree}
use Rattle.match_bindings.specs.Log.{LastIsBy, IsInOrder, observed_in}
use Rattle.match_stream.specs.declared.ending.Ending.{Ending}
use Rattle.match_stream.specs.declared.ending.MatchRefusal.{MatchRefusal}
use Rattle.match_stream.specs.declared.ending.MatchRefusal.TheVariants as refusal
use Rattle.match_pruning.specs.declared.row.Row.{Row}
use Rattle.match_stream.specs.declared.run.Run.{Run}
use Rattle.match_pruning.specs.PartialMatchTree.{trees_in}
use Rattle.match_stream.specs.RetainedPart.{IsRetainedPart, held_count, time_of}
use Rattle.match_stream.specs.Answer.{IsAnswer, IsRetainedCount}
use Rattle.match_stream.specs.MatcherState.{with_log_row, Falls, log_end}
use Rattle.match_pruning.specs.inner.Steps.{State, step_new, step_state, contents_of, expired}
use Rattle.match_stream.specs.inner.Nodes.{node_state}
use Rattle.match_stream.specs.inner.Shape.{state_fits}
use Rattle.match_pruning.specs.inner.UpToOrder.{IsSameUpToOrder}
use Rattle.match_stream.specs.inner.Runs.{next_row, AreSteps, retained_after}
use Rattle.match_pruning.proofs.RetainsLemmas.{le_self}
use Rattle.match_stream.proofs.StoreLemmas.{AreHeld}
use Rattle.match_stream.proofs.StepLemmas.{Stands, all_of, ends}
use Rattle.match_stream.proofs.LogLemmas.{not_falls, row_after, early_stands, take_from}
use Rattle.match_stream.proofs.ShapeLemmas.{Rule, stands_from, retained_from}
use Rattle.match_stream.proofs.ArrangedLemmas.{cleared_stands, cleared_fits}
use Rattle.match_stream.proofs.AnswerLemmas.{Ascend, answer_law, same_length, trees_length}

abbrev pub entry : ℤ → ℤ → List Bool → LogEntry
entry first last truths = record { first = first; last = last; truths = truths }

pub runs_fits : (ended : Option Ending) (b : Bool) → ended ≡ None → (is_some ended || b) ≡ true → b ≡ true
runs_fits ended b e h = subst (λ (z : Option Ending). (is_some z || b) ≡ true) e h

pub stays_made : (ended : Option Ending) (b b' : Bool) → (b ≡ true → b' ≡ true) → (is_some ended || b) ≡ true → (is_some ended || b') ≡ true
stays_made None b b' h k = h k
stays_made (Some e) b b' h k = refl

-- a matcher while it runs, its node made for its pattern, and a log that it stands for at the time of the row that is next
pub record Goes (p : NumberedPattern) (z : State) (rows : ℕ) (log : List LogEntry) (last : ℤ) : Type 0 where
  pub made : state_fits no_bounds p z ≡ true
  pub count : rows ≡ length log
  pub represents : Stands (observed_in log) (all_of (observed_in log)) last no_bounds p z
  pub order : IsInOrder log
  pub after : LastIsBy log last

-- so it is once what has expired is taken out
pub cleared_goes : Rule → (p : NumberedPattern) (z z' : State) (rows : ℕ) (before : Option ℤ) (log : List LogEntry) (last : ℤ) → state_fits no_bounds p z ≡ true → rows ≡ length log →
    before ≡ log_end log → IsRetainedPart p log (contents_of z) → IsInOrder log → (Falls before last → ⊥) → IsSameUpToOrder (expired last z) z' → Goes p z' rows log last
cleared_goes rule p z z' rows before log last made count time retained order after same =
    let by = not_falls log last (λ k. after (subst (λ (t : Option ℤ). Falls t last) (sym time) k)) in
    let early = early_stands log last p no_bounds z by (stands_from rule (observed_in log) (time_of log) p no_bounds z made retained) in
    record {
      made = cleared_fits p last z z' same made;
      count = count;
      represents = cleared_stands (observed_in log) (all_of (observed_in log)) early.0 last early.1 no_bounds p z z' early.2 same;
      order = order;
      after = by;
    }

next_is : (rows : ℕ) (log : List LogEntry) (first last : ℤ) (truths : List Bool) → rows ≡ length log → next_row rows first last ≡ row_after log (entry first last truths)
next_is rows log first last truths e = ap (λ n. record { number = n; first = first; last = last }) (let f : rows + 1 ≡ suc (length log) = omega (arith, e) in f)

pub both_laws : Rule → (p : NumberedPattern) (z : State) (rows : ℕ) (log : List LogEntry) (first last : ℤ) (truths : List Bool) → Goes p z rows log last →
    AreHeld (observed_in (with_log_row log first last truths)) (ends (observed_in (with_log_row log first last truths)) (suc (length log)) last no_bounds p) (step_new (next_row rows first last) truths z)
    × Stands (observed_in (with_log_row log first last truths)) (all_of (observed_in (with_log_row log first last truths))) (time_of (with_log_row log first last truths)) no_bounds p (step_state (next_row rows first last) truths z)
both_laws rule p z rows log first last truths g =
    subst (λ (row : Row).
    AreHeld (observed_in (with_log_row log first last truths)) (ends (observed_in (with_log_row log first last truths)) (suc (length log)) last no_bounds p) (step_new row truths z)
    × Stands (observed_in (with_log_row log first last truths)) (all_of (observed_in (with_log_row log first last truths))) (time_of (with_log_row log first last truths)) no_bounds p (step_state row truths z))
    (sym (next_is rows log first last truths g.count))
    (take_from p log (entry first last truths) last z g.order g.after (le_self last) g.represents)

-- the stores then hold the retained part of the longer log
pub retained_then : Rule → (p : NumberedPattern) (z : State) (rows : ℕ) (log : List LogEntry) (first last : ℤ) (truths : List Bool) → Goes p z rows log last →
    IsRetainedPart p (with_log_row log first last truths) (contents_of (step_state (next_row rows first last) truths z))
retained_then rule p z rows log first last truths g =
    retained_from rule (observed_in (with_log_row log first last truths)) (time_of (with_log_row log first last truths)) p no_bounds (step_state (next_row rows first last) truths z)
    (both_laws rule p z rows log first last truths g).1

-- and what ends at the row is its answer
pub answer_then : Rule → Ascend → (run : Run) (p : NumberedPattern) (log : List LogEntry) (first last : ℤ) (truths : List Bool) → Goes p (node_state run.node) run.rows log last →
    (xs : List BindTree) → AreSteps run (next_row run.rows first last) truths xs → IsAnswer p (with_log_row log first last truths) xs
answer_then rule sift_up run p log first last truths g xs steps =
    answer_law rule sift_up p log (entry first last truths) (step_new (next_row run.rows first last) truths (node_state run.node)) xs
    (both_laws rule p (node_state run.node) run.rows log first last truths g).0 steps.counts steps.sorted

-- so much is retained then
pub count_then : Rule → Ascend → (run : Run) (p : NumberedPattern) (log : List LogEntry) (first last : ℤ) (truths : List Bool) → Goes p (node_state run.node) run.rows log last →
    (xs : List BindTree) → AreSteps run (next_row run.rows first last) truths xs → IsRetainedCount p (with_log_row log first last truths) (retained_after run (next_row run.rows first last) truths)
count_then rule sift_up run p log first last truths g xs steps =
    let new = step_new (next_row run.rows first last) truths (node_state run.node) in
    let contents = contents_of (step_state (next_row run.rows first last) truths (node_state run.node)) in
    let many : length xs ≡ length new = same_length xs (trees_in new) steps.counts ∙ trees_length new in
    record {
      contents = contents;
      answer = xs;
      retained = retained_then rule p (node_state run.node) run.rows log first last truths g;
      ending = answer_then rule sift_up run p log first last truths g xs steps;
      sum = (let e : length new + held_count contents ≡ held_count contents + length xs = omega (arith, many) in e);
    }

-- ---- endings

pub stopped_same : (T : Type 0) (a b : Ending) → ◌≡◌ {A = Result T MatchRefusal} (Err (refusal.Stopped a)) (Err (refusal.Stopped b)) → a ≡ b
stopped_same T a b e = cc

pub same_stopped : (T : Type 0) (a b : Ending) → ◌≡◌ {A = Result T Ending} (Err a) (Err b) → ◌≡◌ {A = Result T MatchRefusal} (Err (refusal.Stopped a)) (Err (refusal.Stopped b))
same_stopped T a b e = let f : a ≡ b = cc in ap (λ z. Err (refusal.Stopped z)) f

pub same_err : (T : Type 0) (a b : Ending) → a ≡ b → ◌≡◌ {A = Result T Ending} (Err a) (Err b)
same_err T a b e = ap (λ z. Err z) e

pub err_same : (T : Type 0) (a b : Ending) → ◌≡◌ {A = Result T Ending} (Err a) (Err b) → a ≡ b
err_same T a b e = cc

pub stopped_from : (T : Type 0) (a b : Ending) → a ≡ b → ◌≡◌ {A = Result T MatchRefusal} (Err (refusal.Stopped a)) (Err (refusal.Stopped b))
stopped_from T a b e = ap (λ z. Err (refusal.Stopped z)) e
