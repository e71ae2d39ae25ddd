-- What the observations of one bundle add.
use Rattle.std.proofs.Common.{◌≡◌, inl, inr, ℕ, suc, ◌+◌, ◌^◌, ◌≤◌, ◌<◌, ℤ, Bool, List, [], ◌∷◌, ◌++◌, length, Option, Some, None, Result, Ok, Err, OnOk, IfErr, IsErrAnd, refl, sym, ap, subst, ◌∙◌, append_assoc, length-append, take, drop, get_or, drop-cons, arith}
use Rattle.std.specs.Prelude.{slice_get, MatchOption, IsSomeAnd}
use Rattle.std.proofs.lemmas.List.{append-nil, take_more, take-append-drop}
use Rattle.std.proofs.lemmas.Option.{slice_get_read, slice_get_within}
use Rattle.std.proofs.lemmas.Slice.Zip.{AllZip-left}
use Rattle.serde_json.specs.Data.{Data}
use Rattle.stix_bundles.specs.declared.observation.Observation.{Observation}
use Rattle.pattern_types.specs.declared.pattern.Pattern.{Pattern}
use Rattle.pattern_types.specs.PlainPattern.{PlainPattern, plain_pattern}
use Rattle.match_comparisons.specs.Truths.{AreTruths, AreTruthsOfEach}
use Rattle.match_bindings.specs.declared.log_entry.LogEntry.{LogEntry}
use Rattle.match_bindings.specs.NumberedPattern.{numbered_pattern}
use Rattle.match_bindings.specs.BindTree.{BindTree}
use Rattle.match_bindings.specs.Log.{IsInOrder}
use Rattle.match_stream.specs.MatcherState.{MatcherState, MatcherRepresents}
use Rattle.match_stream.specs.Answer.{IsAnswer, IsWithinLimit, joined_answers}
use Rattle.match_input.specs.Reading.{BundleOf}
use Rattle.match_run.specs.Listing.{listing_text, last_number}
use Rattle.match_run.specs.inner.Rows.{with_bindings, last_counted, IsAfterLog, Progress, so_far, IsAt, IsAtSome, log_row, AddsRow, EndsAtRow, AddsRows, IsPartBuffered, ListsFirst, WritesListingPrefix, IsOverLimitAt, StopsAmong, EndsAmong, TakesObservation, StopsAtRow, TakesObservations, GoesThrough, StopsAtOne, WritesBundle, StopsInBundleRows}
use Rattle.match_run.specs.Reading.{MayFollow}
use Rattle.match_run.specs.inner.MatchEnds.{CutsLines, HasCutLines}
use Rattle.flow_edges.specs.Flow.{written_with, WritesPrefix}
use Rattle.match_run.specs.declared.match_end.MatchEnd.{MatchEnd}
use Rattle.match_run.specs.declared.match_end.MatchEnd.TheVariants.{Done, Input, ReadFault, WriteFault, OverLimit, NoMemory}
use Rattle.match_run.specs.declared.tally.Tally.{Tally}
use Rattle.match_stream.proofs.LogLemmas.{last_of_more}
use Rattle.match_run.proofs.PendingLemmas.{way-start, way-written, way-cut, way-stopped}
use Rattle.match_run.proofs.LogLemmas.{joined_answers-one, listing_text-append, answers-more, entries_of-more, never_over_limit-more, ends_at, last_number-more}

-- the matcher took a row, and its answer was with_bindings
pub behind-more : (p : Pattern) (retained_limit : ℕ) (state after : MatcherState) (tally : Tally) (log : List LogEntry) (answers : List (List BindTree))
    (o : Observation) (truths : List Bool) (answer : List BindTree) → IsAfterLog p retained_limit state tally log answers
    → o.number ≡ state.rows + 1 → length answer ≤ 2 ^ 64
    → MatcherRepresents after (log ++ log_row o truths ∷ []) → IsInOrder (log ++ log_row o truths ∷ []) → IsAnswer (numbered_pattern p) (log ++ log_row o truths ∷ []) answer
    → IsWithinLimit (numbered_pattern p) (log ++ log_row o truths ∷ []) retained_limit
    → IsAfterLog p retained_limit after (with_bindings tally o.number (length answer)) (log ++ log_row o truths ∷ []) (answers ++ answer ∷ [])
behind-more p retained_limit state after tally log answers o truths answer b number few represents order is within_limit =
    let row = log_row o truths in
    let rows : length (log ++ row ∷ []) ≡ length log + 1 = length-append log (row ∷ []) in
    let joined = joined_answers-one answers answer in
    let at : (x : BindTree) → _ = ends_at (numbered_pattern p) (log ++ row ∷ []) answer is in
    let same : length (log ++ row ∷ []) ≡ o.number = omega (arith, rows, number, b.represents.rows) in
    let last = last_number-more (joined_answers answers) answer o.number (λ x there. at x there ∙ same) in
    record {
      rows = record {
        order = order;
        within_limit = never_over_limit-more p retained_limit log row b.rows.within_limit within_limit;
        answers_are = answers-more (numbered_pattern p) [] log row answers answer b.rows.answers_are is;
      };
      represents = represents;
      observations_are = omega (arith, rows, b.observations_are);
      bindings_are = omega (arith, b.bindings_are, ap length joined, length-append (joined_answers answers) answer);
      few = omega (arith, b.few, few, rows);
      last_is = ap (λ (n : ℕ). last_counted n o.number (length answer)) b.last_is ∙ sym last ∙ sym (ap last_number joined);
    }

-- how many rows the matcher has after it then, and their last time
pub rows-more : (p : Pattern) (retained_limit : ℕ) (state after : MatcherState) (tally later : Tally) (log : List LogEntry) (answers more : List (List BindTree))
    (row : LogEntry) → IsAfterLog p retained_limit state tally log answers → IsAfterLog p retained_limit after later (log ++ row ∷ []) more → after.rows ≡ state.rows + 1
rows-more p retained_limit state after tally later log answers more row b c = omega (arith, b.represents.rows, c.represents.rows, length-append log (row ∷ []))

pub last-more : (p : Pattern) (retained_limit : ℕ) (after : MatcherState) (later : Tally) (log : List LogEntry) (more : List (List BindTree))
    (row : LogEntry) → IsAfterLog p retained_limit after later (log ++ row ∷ []) more → after.last ≡ Some row.last
last-more p retained_limit after later log more row c = c.represents.last ∙ last_of_more log row

-- what may follow after the row
pub follow-more : (p : Pattern) (retained_limit : ℕ) (objects : List Data) (o : Observation) (state after : MatcherState) (tally later : Tally) (log : List LogEntry)
    (answers : List (List BindTree)) (answer : List BindTree) (observations : List Observation) → IsAfterLog p retained_limit state tally log answers
    → AddsRow p retained_limit objects o log answers after later answer → MayFollow (Some o.last) ((state.rows + 1) + 1) observations
    → MayFollow after.last (after.rows + 1) observations
follow-more p retained_limit objects o state after tally later log answers answer observations b adds follow =
    let row = log_row o adds.truths in
    let last = last-more p retained_limit after later log (answers ++ answer ∷ []) row adds.behind in
    let rows = rows-more p retained_limit state after tally later log answers (answers ++ answer ∷ []) row b adds.behind in
    subst (λ (l : Option ℤ). MayFollow l (after.rows + 1) observations) (sym last)
    (subst (λ (n : ℕ). MayFollow (Some o.last) (n + 1) observations) (sym rows) follow)

-- one more observation
pub adds-more : (p : Pattern) (retained_limit : ℕ) (objects : List Data) (observations : List Observation) (o : Observation) (log : List LogEntry)
    (answers : List (List BindTree)) (state after : MatcherState) (tally later : Tally) (text : List ℕ) (answer : List BindTree)
    → (adds : AddsRows p retained_limit objects observations log answers state tally text)
    → AddsRow p retained_limit objects o (log ++ adds.own) (answers ++ adds.own_answers) after later answer
    → AddsRows p retained_limit objects (observations ++ o ∷ []) log answers after later (text ++ listing_text answer)
adds-more p retained_limit objects observations o log answers state after tally later text answer adds one =
    let row = log_row o one.truths in
    record {
      own = adds.own ++ row ∷ [];
      own_answers = adds.own_answers ++ answer ∷ [];
      entries = entries_of-more (plain_pattern p) objects observations adds.own o one.truths adds.entries one.are;
      behind = subst (λ (l : List LogEntry). IsAfterLog p retained_limit after later l (answers ++ (adds.own_answers ++ answer ∷ []))) (append_assoc log adds.own (row ∷ []))
          (subst (λ (a : List (List BindTree)). IsAfterLog p retained_limit after later ((log ++ adds.own) ++ row ∷ []) a) (append_assoc answers adds.own_answers (answer ∷ [])) one.behind);
      text_is = ap (λ (t : List ℕ). t ++ listing_text answer) adds.text_is
          ∙ sym (listing_text-append (joined_answers adds.own_answers) answer)
          ∙ sym (ap listing_text (joined_answers-one adds.own_answers answer));
    }

-- all of some observations are the first of them
pub first-all : (p : Pattern) (retained_limit : ℕ) (objects : List Data) (seen later : List Observation) (log : List LogEntry)
    (answers : List (List BindTree)) (state : MatcherState) (tally : Tally) (text : List ℕ)
    → AddsRows p retained_limit objects seen log answers state tally text → ListsFirst p retained_limit objects (seen ++ later) log answers text
first-all p retained_limit objects seen later log answers state tally text adds = record {
  seen = seen;
  later = later;
  observations_are = refl;
  own = adds.own;
  own_answers = adds.own_answers;
  entries = adds.entries;
  rows = adds.behind.rows;
  text_is = adds.text_is;
}

-- too much is live at the next one
pub stops-next : (p : Pattern) (retained_limit : ℕ) (objects : List Data) (seen rest : List Observation) (o : Observation) (log : List LogEntry)
    (answers : List (List BindTree)) (state after : MatcherState) (tally : Tally) (text : List ℕ) (number named : ℕ)
    → (adds : AddsRows p retained_limit objects seen log answers state tally text)
    → IsOverLimitAt p retained_limit objects o (log ++ adds.own) after number named
    → StopsAmong p retained_limit objects (seen ++ o ∷ rest) log answers after text number named
unfolding first-all
stops-next p retained_limit objects seen rest o log answers state after tally text number named adds over_limit = record {
  first = first-all p retained_limit objects seen (o ∷ rest) log answers state tally text adds;
  o = o;
  rest = rest;
  later_are = refl;
  over_limit = over_limit;
}

-- an item, and what stands before and after it
pub drop_here : (xs : List Observation) (i : ℕ) (x : Observation) → i < length xs → x ≡ get_or xs i x → drop i xs ≡ x ∷ drop (i + 1) xs
drop_here xs i x within is =
    let next : suc i ≡ i + 1 = omega arith in
    drop-cons xs i x within ∙ ap (λ (y : Observation). y ∷ drop (suc i) xs) (sym is) ∙ ap (λ (n : ℕ). x ∷ drop n xs) next

pub take_here : (xs : List Observation) (i : ℕ) (x : Observation) → i < length xs → x ≡ get_or xs i x → take (i + 1) xs ≡ take i xs ++ x ∷ []
take_here xs i x within is = take_more xs i x within ∙ ap (λ (y : Observation). take i xs ++ y ∷ []) (sym is)

pub all_here : (xs : List Observation) (i : ℕ) (x : Observation) → i < length xs → x ≡ get_or xs i x → xs ≡ take i xs ++ x ∷ drop (i + 1) xs
all_here xs i x within is = sym (take-append-drop i xs) ∙ ap (λ (r : List Observation). take i xs ++ r) (drop_here xs i x within is)

-- the lines of the observations that were seen are cut
pub cut-rows : (objects : List Data) (seen rest : List Observation) (first now : Progress) (text : List ℕ) (begun written : Option (List ℕ))
    → TakesObservations objects seen first now text → WritesPrefix text begun written
    → (log : List LogEntry) (answers : List (List BindTree)) → IsAt first log answers
    → WritesListingPrefix first.matcher.pattern first.matcher.retained_limit objects (seen ++ rest) log answers begun written
cut-rows objects seen rest first now text begun written rows prefix log answers b =
    (text, first-all first.matcher.pattern first.matcher.retained_limit objects seen rest log answers now.matcher now.tally text (rows log answers b), prefix)

-- ---- one turn of the loop over the observations, at a pattern and a retained limit that stay the same

module _ (objects : List Data) (seen : List Observation) (o : Observation) (first : Progress)
    (state after : MatcherState) (tally later : Tally) (text : List ℕ) (same_p : state.pattern ≡ first.matcher.pattern) (same_retained_limit : state.retained_limit ≡ first.matcher.retained_limit)
    (rows : TakesObservations objects seen first (so_far state tally) text) where
  pub turn-rows : (answer : List BindTree) → TakesObservation objects o (so_far state tally) (so_far after later) answer
      → TakesObservations objects (seen ++ o ∷ []) first (so_far after later) (text ++ listing_text answer)
  turn-rows answer row log answers b =
      let adds = rows log answers b in
      let at_p = subst (λ (q : Pattern). (log : List LogEntry) (answers : List (List BindTree)) → IsAfterLog q state.retained_limit state tally log answers
      → AddsRow q state.retained_limit objects o log answers after later answer) same_p row in
      let at_retained_limit = subst (λ (c : ℕ). (log : List LogEntry) (answers : List (List BindTree)) → IsAfterLog first.matcher.pattern c state tally log answers
      → AddsRow first.matcher.pattern c objects o log answers after later answer) same_retained_limit at_p in
      adds-more first.matcher.pattern first.matcher.retained_limit objects seen o log answers state after tally later text answer adds
      (at_retained_limit (log ++ adds.own) (answers ++ adds.own_answers) adds.behind)

  module _ (rest : List Observation) (pending : List ℕ) (begun written : Option (List ℕ)) (way : IsPartBuffered text pending begun written) where
    ends-turn : (end : MatchEnd) (log : List LogEntry) (answers : List (List BindTree)) → IsAt first log answers
        → (adds : AddsRows first.matcher.pattern first.matcher.retained_limit objects seen log answers state tally text)
        → EndsAtRow first.matcher.pattern first.matcher.retained_limit objects o (log ++ adds.own) after end
        → EndsAmong first.matcher.pattern first.matcher.retained_limit objects (seen ++ o ∷ rest) log answers after pending begun written end
    ends-turn (Done observations bindings last) log answers b adds ends = absurd ends
    ends-turn (Input line why) log answers b adds ends = absurd ends
    ends-turn ReadFault log answers b adds ends = absurd ends
    ends-turn WriteFault log answers b adds ends = absurd ends
    ends-turn (OverLimit number named) log answers b adds ends =
        (text, stops-next first.matcher.pattern first.matcher.retained_limit objects seen rest o log answers state after tally text number named adds ends, way)
    ends-turn NoMemory log answers b adds ends = cut-rows objects seen (o ∷ rest) first (so_far state tally) text begun written rows (way-stopped text pending begun written way) log answers b

    pub turn-end : (end : MatchEnd) → StopsAtRow objects o (so_far state tally) after end → StopsAtOne objects (seen ++ o ∷ rest) first after pending begun written end
    turn-end end ends log answers b =
        let adds = rows log answers b in
        let at_p = subst (λ (q : Pattern). (log : List LogEntry) (answers : List (List BindTree)) → IsAfterLog q state.retained_limit state tally log answers
        → EndsAtRow q state.retained_limit objects o log after end) same_p ends in
        let at_retained_limit = subst (λ (c : ℕ). (log : List LogEntry) (answers : List (List BindTree)) → IsAfterLog first.matcher.pattern c state tally log answers
        → EndsAtRow first.matcher.pattern c objects o log after end) same_retained_limit at_p in
        ends-turn end log answers b adds (at_retained_limit (log ++ adds.own) (answers ++ adds.own_answers) adds.behind)

-- an end in the middle of lines
pub ends-cut : (p : Pattern) (retained_limit : ℕ) (objects : List Data) (observations : List Observation) (log : List LogEntry) (answers : List (List BindTree))
    (state : MatcherState) (pending : List ℕ) (first written : Option (List ℕ)) (end : MatchEnd) → CutsLines end
    → WritesListingPrefix p retained_limit objects observations log answers first written → EndsAmong p retained_limit objects observations log answers state pending first written end
ends-cut p retained_limit objects observations log answers state pending first written end (inl memory) cut =
    subst (EndsAmong p retained_limit objects observations log answers state pending first written) (sym memory) cut
ends-cut p retained_limit objects observations log answers state pending first written end (inr fault) cut =
    subst (EndsAmong p retained_limit objects observations log answers state pending first written) (sym fault) cut

pub turn-behind : (objects : List Data) (o : Observation) (state after : MatcherState) (tally later : Tally) (answer : List BindTree)
    → after.pattern ≡ state.pattern → after.retained_limit ≡ state.retained_limit → IsAtSome (so_far state tally)
    → TakesObservation objects o (so_far state tally) (so_far after later) answer → IsAtSome (so_far after later)
turn-behind objects o state after tally later answer same_p same_retained_limit some row =
    let adds = row some.0 some.1 some.2 in
    let log = some.0 ++ log_row o adds.truths ∷ [] in
    let answers = some.1 ++ answer ∷ [] in (
      log,
      answers,
      subst (λ (p : Pattern). IsAfterLog p after.retained_limit after later log answers) (sym same_p)
          (subst (λ (c : ℕ). IsAfterLog state.pattern c after later log answers) (sym same_retained_limit) adds.behind),
    )

pub turn-follow : (objects : List Data) (o : Observation) (state after : MatcherState) (tally later : Tally) (answer : List BindTree)
    (rest : List Observation) → IsAtSome (so_far state tally) → TakesObservation objects o (so_far state tally) (so_far after later) answer
    → MayFollow state.last (state.rows + 1) (o ∷ rest) → MayFollow after.last (after.rows + 1) rest
turn-follow objects o state after tally later answer rest some row follow =
    follow-more state.pattern state.retained_limit objects o state after tally later some.0 some.1 answer rest some.2 (row some.0 some.1 some.2) follow.3

-- ---- a bundle

-- no observation is seen yet
pub none-seen : (objects : List Data) (run : Progress) → TakesObservations objects [] run run []
none-seen objects run log answers b = record {
  own = [];
  own_answers = [];
  entries = refl;
  behind = subst (λ (l : List LogEntry). IsAfterLog run.matcher.pattern run.matcher.retained_limit run.matcher run.tally l (answers ++ [])) (sym (append-nil log))
      (subst (λ (a : List (List BindTree)). IsAfterLog run.matcher.pattern run.matcher.retained_limit run.matcher run.tally log a) (sym (append-nil answers)) b);
  text_is = refl;
}

-- memory ran out before the first row
pub ends-none : (objects : List Data) (run : Progress) (observations : List Observation) (state : MatcherState) (pending : List ℕ) (w : Option (List ℕ))
    (answer : Result (Unit {0}) MatchEnd) → IsErrAnd answer (λ end. end ≡ NoMemory) → IfErr answer (StopsAtOne objects observations run state pending w w)
ends-none objects run observations state pending w (Ok done) is = absurd is
ends-none objects run observations state pending w (Err end) is = λ log answers b.
    ends-cut run.matcher.pattern run.matcher.retained_limit objects observations log answers state pending w w end (inl is)
    (cut-rows objects [] observations run run [] w w (none-seen objects run) (way-stopped [] [] w w (way-start w)) log answers b)

module _ (bundle : BundleOf) (run after : Progress) (pending : List ℕ) (first written : Option (List ℕ)) where
  -- what was written of a bundle whose rows all were added, where what is pending is written
  pub batch-rows : (written_after : Option (List ℕ)) → GoesThrough bundle.objects bundle.observations run after pending first written
      → written_after ≡ written_with pending written → WritesBundle bundle run after first written_after
  batch-rows written_after goes is log answers b =
      (goes.0, goes.1 log answers b, way-written goes.0 pending first written written_after goes.2 is)

  -- where writing it fails
  pub batch-cut : (answer : Result (Unit {0}) MatchEnd) (written_after : Option (List ℕ))
      → OnOk answer (GoesThrough bundle.objects bundle.observations run after pending first written)
      → IfErr answer (StopsAtOne bundle.objects bundle.observations run after.matcher pending first written) → ¬ HasCutLines answer
      → WritesPrefix pending written written_after
      → (log : List LogEntry) (answers : List (List BindTree)) → IsAt run log answers
      → WritesListingPrefix run.matcher.pattern run.matcher.retained_limit bundle.objects bundle.observations log answers first written_after
  batch-cut (Ok done) written_after goes ends uncut prefix log answers b = (
    goes.0,
    subst (λ (os : List Observation). ListsFirst run.matcher.pattern run.matcher.retained_limit bundle.objects os log answers goes.0) (append-nil bundle.observations)
        (first-all run.matcher.pattern run.matcher.retained_limit bundle.objects bundle.observations [] log answers after.matcher after.tally goes.0 (goes.1 log answers b)),
    way-cut goes.0 pending first written written_after goes.2 prefix,
  )
  batch-cut (Err (Done seen bindings last)) written_after goes ends uncut prefix log answers b = absurd (ends log answers b)
  batch-cut (Err (Input line why)) written_after goes ends uncut prefix log answers b = absurd (ends log answers b)
  batch-cut (Err ReadFault) written_after goes ends uncut prefix log answers b = absurd (ends log answers b)
  batch-cut (Err WriteFault) written_after goes ends uncut prefix log answers b = absurd (uncut (inr refl))
  batch-cut (Err (OverLimit number named)) written_after goes ends uncut prefix log answers b =
      let end = ends log answers b in (end.0, end.1.first, way-cut end.0 pending first written written_after end.2 prefix)
  batch-cut (Err NoMemory) written_after goes ends uncut prefix log answers b = absurd (uncut (inl refl))

  -- an end in the bundle, where what is pending is written
  pub batch-end : (end : MatchEnd) (written_after : Option (List ℕ))
      → StopsAtOne bundle.objects bundle.observations run after.matcher pending first written end → ¬ HasCutLines (Err end)
      → written_after ≡ written_with pending written → StopsInBundleRows bundle run after.matcher first written_after end
  batch-end (Done seen bindings last) written_after ends uncut is log answers b = absurd (ends log answers b)
  batch-end (Input line why) written_after ends uncut is log answers b = absurd (ends log answers b)
  batch-end ReadFault written_after ends uncut is log answers b = absurd (ends log answers b)
  batch-end WriteFault written_after ends uncut is log answers b = absurd (uncut (inr refl))
  batch-end (OverLimit number named) written_after ends uncut is log answers b =
      let end = ends log answers b in (end.0, end.1, way-written end.0 pending first written written_after end.2 is)
  batch-end NoMemory written_after ends uncut is log answers b = absurd (uncut (inl refl))

  -- the same of an answer
  pub batch-ends : (answer : Result (Unit {0}) MatchEnd) (written_after : Option (List ℕ))
      → IfErr answer (StopsAtOne bundle.objects bundle.observations run after.matcher pending first written) → ¬ HasCutLines answer
      → written_after ≡ written_with pending written → IfErr answer (StopsInBundleRows bundle run after.matcher first written_after)
  batch-ends (Ok done) written_after ends uncut is = tt
  batch-ends (Err end) written_after ends uncut is = batch-end end written_after ends uncut is

-- a write failed
pub batch-fault : (bundle : BundleOf) (run : Progress) (state : MatcherState) (first written_after : Option (List ℕ)) (answer : Result (Unit {0}) MatchEnd) (end : MatchEnd)
    → IsErrAnd answer (λ e. e ≡ end) → end ≡ WriteFault
    → ((log : List LogEntry) (answers : List (List BindTree)) → IsAt run log answers
    → WritesListingPrefix run.matcher.pattern run.matcher.retained_limit bundle.objects bundle.observations log answers first written_after)
    → IfErr answer (StopsInBundleRows bundle run state first written_after)
batch-fault bundle run state first written_after (Ok done) end is fault cut = absurd is
batch-fault bundle run state first written_after (Err e) end is fault cut =
    subst (λ (e : MatchEnd). StopsInBundleRows bundle run state first written_after e) (sym (is ∙ fault)) cut

-- the truths that were found for the observation at a place
module _ (objects : List Data) (p : PlainPattern) (observations : List Observation) (rows : List (List Bool)) (i : ℕ) (o : Observation)
    (found : AreTruthsOfEach objects observations p rows) (below : i < length observations) (here : o ≡ get_or observations i o) where
  pub some_row : IsSomeAnd (slice_get rows i) (λ (row : List Bool). AreTruths objects o.roots p row)
  some_row =
      let R = λ (it : Observation) (row : List Bool). AreTruths objects it.roots p row in
      subst (λ (it : Option Observation). MatchOption it (Unit {0}) (λ x. IsSomeAnd (slice_get rows i) (R x)))
      (slice_get_read observations (length observations) i o refl below here) (AllZip-left R observations rows found i)

  pub row_below : i < length rows
  row_below = below_of (slice_get rows i) refl some_row where
    below_of : (it : Option (List Bool)) → slice_get rows i ≡ it → IsSomeAnd it (λ (row : List Bool). AreTruths objects o.roots p row) → i < length rows
    below_of None is nothing = absurd nothing
    below_of (Some row) is holds = slice_get_within rows i row is

  pub own_truths : (row : List Bool) → row ≡ get_or rows i row → AreTruths objects o.roots p row
  own_truths row at =
      subst (λ (it : Option (List Bool)). IsSomeAnd it (λ (r : List Bool). AreTruths objects o.roots p r))
      (slice_get_read rows (length rows) i row refl row_below at) some_row

-- the same of the lists that are lent
pub found_in : (objects : List Data) (p : Pattern) (items : List Observation) (truths rows : List (List Bool)) → rows ≡ truths
    → AreTruthsOfEach objects items (plain_pattern p) truths → AreTruthsOfEach objects items (plain_pattern p) rows
found_in objects p items truths rows lent found = subst (AreTruthsOfEach objects items (plain_pattern p)) (sym lent) found

pub truths_of : (objects : List Data) (p q : Pattern) (items : List Observation) (rows : List (List Bool)) (i : ℕ) (o : Observation) (row lent : List Bool)
    → AreTruthsOfEach objects items (plain_pattern p) rows → i < length items → o ≡ get_or items i o → row ≡ get_or rows i row → lent ≡ row → p ≡ q
    → AreTruths objects o.roots (plain_pattern q) lent
truths_of objects p q items rows i o row lent found below here at same pattern =
    subst (λ (it : Pattern). AreTruths objects o.roots (plain_pattern it) lent) pattern
    (subst (AreTruths objects o.roots (plain_pattern p)) (sym same) (own_truths objects (plain_pattern p) items rows i o found below here row at))
