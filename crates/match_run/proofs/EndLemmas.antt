-- How a run ends where the matcher does.
use Rattle.std.proofs.Common.{◌≡◌, ℕ, ℤ, ◌<ℤ◌, Bool, List, [], ◌∷◌, ◌++◌, Option, None, Some, Result, Err, refl, sym, subst, arith, length-append}
use Rattle.serde_json.specs.Data.{Data}
use Rattle.stix_bundles.specs.declared.observation.Observation.{Observation}
use Rattle.pattern_types.specs.PlainPattern.{plain_pattern}
use Rattle.match_comparisons.specs.Truths.{AreTruths}
use Rattle.match_bindings.specs.declared.bind.Bind.{Bind}
use Rattle.match_bindings.specs.declared.log_entry.LogEntry.{LogEntry}
use Rattle.match_bindings.specs.NumberedPattern.{numbered_pattern}
use Rattle.match_stream.specs.declared.ending.Ending.{Ending}
use Rattle.match_stream.specs.declared.ending.Ending.TheVariants as ending
use Rattle.match_stream.specs.declared.ending.MatchRefusal.{MatchRefusal}
use Rattle.match_stream.specs.declared.ending.MatchRefusal.TheVariants as refusal
use Rattle.match_stream.specs.MatcherState.{MatcherState, Falls}
use Rattle.match_stream.specs.Answer.{IsOverLimit, IsOverLimitAtRow}
use Rattle.match_run.specs.inner.MatchEnds.{MayEndMatching, end_of_match}
use Rattle.match_run.specs.inner.Rows.{log_row, EndsAtRow}

-- the matcher answered so
abbrev Answers : MatchRefusal → MatchRefusal → Type 0
Answers one other = ◌≡◌ {A = Result (List Bind) MatchRefusal} (Err one) (Err other)

pub may_end : (why : MatchRefusal) (state : MatcherState) (now : ℤ) → state.ended ≡ None → ¬ (Falls state.last now)
    → ((before time : ℤ) → Answers why (refusal.Stopped (ending.OutOfOrder before time)) → (state.ended ≡ None) × (state.last ≡ Some before) × (time ≡ now) × (time <ℤ before))
    → ((e : Ending) → Answers why (refusal.Ended e) → state.ended ≡ Some e) → MayEndMatching why
may_end (refusal.Stopped (ending.OverLimit number retained_limit)) state now runs order fallen ended = tt
may_end (refusal.Stopped (ending.OutOfOrder before time)) state now runs order fallen ended =
    let is = fallen before time refl in
    order (subst (λ (l : Option ℤ). Falls l now) (sym is.1) (subst (λ (t : ℤ). t <ℤ before) is.2 is.3))
may_end (refusal.Stopped ending.NoMemory) state now runs order fallen ended = tt
may_end (refusal.Ended e) state now runs order fallen ended = let some = ended e refl in cc

pub ends_row : (objects : List Data) (o : Observation) (log : List LogEntry) (state after : MatcherState)
    (truths : List Bool) (why : MatchRefusal) → AreTruths objects o.roots (plain_pattern state.pattern) truths
    → ((number named : ℕ) → Answers why (refusal.Stopped (ending.OverLimit number named)) → IsOverLimitAtRow state (log ++ log_row o truths ∷ []) number named)
    → ((e : Ending) → Answers why (refusal.Stopped e) → (state.ended ≡ None) × (after.ended ≡ Some e))
    → EndsAtRow state.pattern state.retained_limit objects o log after (end_of_match why)
ends_row objects o log state after truths (refusal.Stopped (ending.OverLimit number named)) are over_limit stopped =
    let is = over_limit number named refl in
    let end = stopped (ending.OverLimit number named) refl in
    record {
      truths = truths;
      are = are;
      numbered = omega (arith, is.numbered, length-append log (log_row o truths ∷ []));
      retained_limit_is = is.retained_limit_is;
      over_limit = subst (λ (n : ℕ). IsOverLimit (numbered_pattern state.pattern) (log ++ log_row o truths ∷ []) n) is.retained_limit_is is.over_limit;
      ended = subst (λ (n : ℕ). after.ended ≡ Some (ending.OverLimit number n)) is.retained_limit_is end.1;
    }
ends_row objects o log state after truths (refusal.Stopped (ending.OutOfOrder before time)) are over_limit stopped = tt
ends_row objects o log state after truths (refusal.Stopped ending.NoMemory) are over_limit stopped = tt
ends_row objects o log state after truths (refusal.Ended e) are over_limit stopped = tt
