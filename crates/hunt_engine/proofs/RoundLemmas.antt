-- All lazy matchers at one row: each pattern's log with the row is followed, affected or not, and what was found for it ends there.
use Rattle.std.proofs.Common.{◌≡◌, ℕ, zero, suc, ◌+◌, ◌<◌, List, [], ◌∷◌, ◌++◌, length, get_or, sym, ◌∙◌, ap, subst, arith, inl, inr, length-append}
use Rattle.std.specs.Prelude.{◌⊎◌, Bool, false, Some, None, map, slice_get}
use Rattle.std.specs.Option.{option_map}
use Rattle.std.proofs.lemmas.Bool.{cases_order}
use Rattle.std.proofs.lemmas.List.{length-map}
use Rattle.std.proofs.lemmas.Option.{slice_get-map, slice_get_within, get_or_from_slice_get}
use Rattle.pattern_types.specs.declared.pattern.Pattern.{Pattern}
use Rattle.pattern_types.specs.PlainLeaf.{PlainLeaf}
use Rattle.pattern_types.specs.PlainPattern.{PlainPattern, plain_pattern}
use Rattle.match_bindings.specs.declared.log_entry.LogEntry.{LogEntry}
use Rattle.match_bindings.specs.NumberedPattern.{numbered_pattern}
use Rattle.match_bindings.specs.BindTree.{BindTree}
use Rattle.match_stream.specs.Answer.{IsAnswer}
use Rattle.match_stream.specs.Passing.{IsNonmatching}
use Rattle.match_stream.proofs.ShapeLemmas.{Rule}
use Rattle.serde_json.specs.Data.{Data}
use Rattle.hunt_engine.specs.declared.found.Hit.{Hit}
use Rattle.hunt_engine.specs.declared.next_row.NextRow.{NextRow}
use Rattle.hunt_engine.specs.declared.brackets.BracketRange.{BracketRange}
use Rattle.hunt_engine.specs.EngineLog.{ObservationRow, IsEntry, IsLogOf, last_of_rows}
use Rattle.hunt_engine.specs.LazyMatcherState.{LazyMatcherState, Follows}
use Rattle.hunt_engine.specs.EngineState.{EngineState, FollowsRows, EngineRepresents}
use Rattle.hunt_engine.specs.EngineAnswer.{binds_at, ReportsRow, IsFirstOverLimit}
use Rattle.hunt_engine.specs.inner.Following.{EndsLogAt, FollowsLastRow, log_with, ContinuesRows}
use Rattle.hunt_engine.specs.inner.Table.{part_of, IsTable}
use Rattle.hunt_engine.specs.inner.Evaluation.{IsEvaluated}
use Rattle.hunt_feed.specs.Indicators.{IsAscending}
use Rattle.hunt_engine.specs.inner.Round.{AllFollow, TookSome, CrowdsAt, StillFollow}
use Rattle.hunt_engine.proofs.PositionLemmas.{same_or_other, got, there}
use Rattle.hunt_engine.proofs.NonmatchingLemmas.{nonmatching_answer}
use Rattle.hunt_engine.proofs.FollowLemmas.{order_more, nonmatching_follows}
use Rattle.hunt_engine.proofs.RowLemmas.{log_length, log_last, log_more, last_more}
use Rattle.hunt_engine.proofs.TruthLemmas.{part_truths, no_truth}

-- ---- lists

-- where a number stands in a list, if it does
abbrev pub Stands : List ℕ → ℕ → Type 0
Stands xs n = ((k : ℕ) × (slice_get xs k ≡ Some n)) ⊎ ((k : ℕ) → slice_get xs k ≡ Some n → ⊥)

not_here : (xs : List ℕ) (x n : ℕ) → (x ≡ n → ⊥) → ((k : ℕ) → slice_get xs k ≡ Some n → ⊥) → (k : ℕ) → slice_get (x ∷ xs) k ≡ Some n → ⊥
not_here xs x n apart none zero h = let same : x ≡ n = cc in apart same
not_here xs x n apart none (suc k) h = none k h

find_more : (xs : List ℕ) (x n : ℕ) → (x ≡ n) ⊎ (x ≡ n → ⊥) → Stands xs n → Stands (x ∷ xs) n
find_more xs x n (inl e) rest = inl (0, ap Some e)
find_more xs x n (inr apart) (inl found) = inl (suc found.0, found.1)
find_more xs x n (inr apart) (inr none) = inr (not_here xs x n apart none)

pub find : (xs : List ℕ) (n : ℕ) → Stands xs n
find [] n = inr (λ k h. cc)
find (x ∷ xs) n = find_more xs x n (same_or_other x n) (find xs n)

-- what stands before another number in an ascending list is less
pub stands_before : (xs : List ℕ) (i k m n : ℕ) → IsAscending xs → slice_get xs i ≡ Some n → slice_get xs k ≡ Some m → m < n → k < i
stands_before xs i k m n ascend at_i at_k less = elim (cases_order i k) [ inl same ↦ one same | inr other ↦ elim other [ inl h ↦ after h | inr h ↦ h ] ] where
  one : i ≡ k → k < i
  one same = absurd (let here : slice_get xs i ≡ Some m = ap (slice_get xs) same ∙ at_k in let e : m ≡ n = (let f : Some m ≡ Some n = sym here ∙ at_i in cc) in omega (arith, e, less))

  after : i < k → k < i
  after h = absurd (let more = ascend i k n m h at_i at_k in omega (arith, more, less))

-- ---- one lazy matcher

-- what is given at a row: the lazy matchers followed the rows before it, were swept, and the brackets were judged
pub record AtRow (patterns : List Pattern) (retained_limit : ℕ) (rows : List ObservationRow) (r : ObservationRow) (row : NextRow) (leaves : List PlainLeaf) (owners : List ℕ) (bracket_ranges : List BracketRange) (marks : List Bool) (affected : List ℕ) (old swept : List LazyMatcherState) : Type 0 where
  pub each : (position : ℕ) (p : Pattern) (lazy_matcher : LazyMatcherState) → slice_get patterns position ≡ Some p → slice_get old position ≡ Some lazy_matcher → FollowsRows p retained_limit rows lazy_matcher
  pub count : length old ≡ length patterns
  pub rows_are : row.rows ≡ length rows
  pub before_is : row.before ≡ last_of_rows rows
  pub first_is : row.first ≡ r.observation.first
  pub last_is : row.last ≡ r.observation.last
  pub goes : ContinuesRows row
  pub still : StillFollow retained_limit row.rows row.before old swept
  pub table : IsTable (map plain_pattern patterns) leaves owners bracket_ranges
  pub evaluated : IsEvaluated r.objects r.observation.roots leaves owners marks affected

-- a log that was followed to the row before
pub record Before (p : Pattern) (retained_limit : ℕ) (rows : List ObservationRow) (row : NextRow) (bracket_ranges : List BracketRange) (swept : List LazyMatcherState) (position : ℕ) : Type 0 where
  pub bracket_range : BracketRange
  pub stretch_is : slice_get bracket_ranges position ≡ Some bracket_range
  pub before : LazyMatcherState
  pub before_is : slice_get swept position ≡ Some before
  pub log : List LogEntry
  pub is_log : IsLogOf (plain_pattern p) rows log
  pub follows : Follows p retained_limit log before
  pub ends : EndsLogAt log row.rows row.before

module _ (rule : Rule) (patterns : List Pattern) (retained_limit : ℕ) (rows : List ObservationRow) (r : ObservationRow) (row : NextRow) (leaves : List PlainLeaf) (owners : List ℕ) (bracket_ranges : List BracketRange) (marks : List Bool) (affected : List ℕ) (old swept : List LazyMatcherState)
    (at : AtRow patterns retained_limit rows r row leaves owners bracket_ranges marks affected old swept) where
  abbrev entry_of : BracketRange → LogEntry
  entry_of bracket_range = record { first = row.first; last = row.last; truths = part_of bracket_range marks }

  -- the row as it is to a pattern
  is_entry : (position : ℕ) (p : Pattern) (bracket_range : BracketRange) → slice_get patterns position ≡ Some p → slice_get bracket_ranges position ≡ Some bracket_range → IsEntry (plain_pattern p) r (entry_of bracket_range)
  is_entry position p bracket_range of_p of_stretch = record {
    first = at.first_is;
    last = at.last_is;
    truths = part_truths r.objects r.observation.roots leaves marks (plain_pattern p) bracket_range at.evaluated.count at.evaluated.marks_hold
        (at.table.brackets position (plain_pattern p) bracket_range (slice_get-map plain_pattern patterns position ∙ ap (option_map plain_pattern) of_p) of_stretch);
  }

  before_at : (position : ℕ) (p : Pattern) → slice_get patterns position ≡ Some p → Before p retained_limit rows row bracket_ranges swept position
  before_at position p of_p =
      let inside : position < length patterns = slice_get_within patterns position p of_p in
      let first = there old position (let e = at.count in omega (arith, inside, e)) in
      let mid = there swept position (let e = at.count in let f = at.still.count in omega (arith, inside, e, f)) in
      let told = at.table.told in
      let bracket_range = there bracket_ranges position (let l = length-map patterns plain_pattern in omega (arith, inside, told, l)) in
      let follows = at.each position p first.0 of_p first.1 in
      let ends : EndsLogAt follows.0 row.rows row.before = record {
        rows_are = log_length (plain_pattern p) rows follows.0 follows.1 ∙ sym at.rows_are;
        last_is = log_last (plain_pattern p) rows follows.0 follows.1 ∙ sym at.before_is;
      } in
      record {
        bracket_range = bracket_range.0;
        stretch_is = bracket_range.1;
        before = mid.0;
        before_is = mid.1;
        log = follows.0;
        is_log = follows.1;
        follows = at.still.follow position first.0 mid.0 p follows.0 first.1 mid.1 follows.2 ends;
        ends = ends;
      }

  -- no bracket of a position that isn't affected is marked
  nonmatching_at : (position : ℕ) (bracket_range : BracketRange) → slice_get bracket_ranges position ≡ Some bracket_range → ((k : ℕ) → slice_get affected k ≡ Some position → ⊥) → IsNonmatching (entry_of bracket_range)
  nonmatching_at position bracket_range of_stretch none =
      no_truth bracket_range marks (λ b low high marked. let k = got affected position (at.evaluated.there b position marked (at.table.owner_of position b bracket_range of_stretch low high)) in none k.0 k.1)

  -- each pattern's log with the row
  settle_from : (i : ℕ) (new : List LazyMatcherState) (found : List Hit) → TookSome row retained_limit bracket_ranges marks affected i swept new found →
      (position : ℕ) (p : Pattern) (b : Before p retained_limit rows row bracket_ranges swept position) → ((k : ℕ) → slice_get affected k ≡ Some position → k < i) →
      (after : LazyMatcherState) → slice_get new position ≡ Some after → Stands affected position → FollowsLastRow p retained_limit (log_with row (part_of b.bracket_range marks) b.log) after (binds_at position found)
  settle_from i new found took position p b reach after of_after (inl (k, is)) = took.took k position b.bracket_range b.before after (reach k is) is b.stretch_is b.before_is of_after p b.log b.follows b.ends
  settle_from i new found took position p b reach after of_after (inr none) =
      let others = took.others position (λ k h is. none k is) in
      let same : b.before ≡ after = (let e : Some b.before ≡ Some after = sym b.before_is ∙ sym others.0 ∙ of_after in cc) in
      let nonmatching = nonmatching_at position b.bracket_range b.stretch_is none in
      record {
        follows = subst (λ (f : LazyMatcherState). Follows p retained_limit (log_with row (part_of b.bracket_range marks) b.log) f) same
            (nonmatching_follows rule p retained_limit b.log (entry_of b.bracket_range) b.before nonmatching (order_more row b.log (part_of b.bracket_range marks) b.follows.order b.ends at.goes) b.follows);
        answers = subst (λ (xs : List BindTree). IsAnswer (numbered_pattern p) (log_with row (part_of b.bracket_range marks) b.log) xs) (sym others.1)
            (nonmatching_answer rule (numbered_pattern p) b.log (entry_of b.bracket_range) nonmatching);
      }

  settle : (i : ℕ) (new : List LazyMatcherState) (found : List Hit) → TookSome row retained_limit bracket_ranges marks affected i swept new found →
      (position : ℕ) (p : Pattern) → slice_get patterns position ≡ Some p → ((k : ℕ) → slice_get affected k ≡ Some position → k < i) →
      (after : LazyMatcherState) → slice_get new position ≡ Some after →
      (log : List LogEntry) × IsLogOf (plain_pattern p) (rows ++ r ∷ []) log × FollowsLastRow p retained_limit log after (binds_at position found)
  settle i new found took position p of_p reach after of_after =
      let b = before_at position p of_p in (
        log_with row (part_of b.bracket_range marks) b.log,
        log_more (plain_pattern p) rows r b.log (entry_of b.bracket_range) b.is_log (is_entry position p b.bracket_range of_p b.stretch_is),
        settle_from i new found took position p b reach after of_after (find affected position),
      )

  -- a position that is affected is that of a pattern
  inside_at : (k position : ℕ) → slice_get affected k ≡ Some position → position < length patterns
  inside_at k position is =
      let o = at.evaluated.owned k position is in let v = at.table.valid o.0 position o.1 in omega (arith, v, length-map patterns plain_pattern)

  -- the first over limit one
  pub first_over_limit : (position number named : ℕ) → CrowdsAt row retained_limit bracket_ranges marks affected swept position number named → IsFirstOverLimit patterns retained_limit (rows ++ r ∷ []) position number named
  first_over_limit position number named crowds =
      let here = there patterns position (inside_at crowds.at position crowds.at_is) in
      let b = before_at position here.0 here.1 in
      record {
        pattern = here.0;
        pattern_is = here.1;
        over_limit = (
          log_with row (part_of b.bracket_range marks) b.log,
          log_more (plain_pattern here.0) rows r b.log (entry_of b.bracket_range) b.is_log (is_entry position here.0 b.bracket_range here.1 b.stretch_is),
          crowds.crowds b.bracket_range b.before b.stretch_is b.before_is here.0 b.log b.follows b.ends,
        );
        before = λ earlier p less of_p.
            let mid = before_at earlier p of_p in
            let now = there crowds.now earlier (let e = slice_get_within patterns earlier p of_p in let f = crowds.took.count in let g = at.still.count in let h = at.count in omega (arith, e, f, g, h)) in
            let settled = settle crowds.at crowds.now crowds.found crowds.took earlier p of_p (λ k is. stands_before affected crowds.at k earlier position at.evaluated.ascend crowds.at_is is less) now.0 now.1 in
            (settled.0, settled.1, settled.2.follows.within_limit);
        numbered = let e = crowds.number_is in let f = at.rows_are in (let g : number ≡ length (rows ++ r ∷ []) = omega (arith, e, f, length-append rows (r ∷ [])) in g);
        retained_limit_is = crowds.retained_limit_is;
      }

  -- all of them
  pub all_settle : (new : List LazyMatcherState) (found : List Hit) → TookSome row retained_limit bracket_ranges marks affected (length affected) swept new found →
      (position : ℕ) (p : Pattern) → slice_get patterns position ≡ Some p → (after : LazyMatcherState) → slice_get new position ≡ Some after →
      (log : List LogEntry) × IsLogOf (plain_pattern p) (rows ++ r ∷ []) log × FollowsLastRow p retained_limit log after (binds_at position found)
  all_settle new found took position p of_p after of_after =
      settle (length affected) new found took position p of_p (λ k is. slice_get_within affected k position is) after of_after

  -- what is told of the row
  pub row_tells : (new : List LazyMatcherState) (found : List Hit) → TookSome row retained_limit bracket_ranges marks affected (length affected) swept new found → ReportsRow patterns (rows ++ r ∷ []) found
  row_tells new found took = record {
    answers = λ position p of_p.
        let after = there new position (let e = slice_get_within patterns position p of_p in let f = took.count in let g = at.still.count in let h = at.count in omega (arith, e, f, g, h)) in
        let settled = all_settle new found took position p of_p after.0 after.1 in
        (settled.0, settled.1, settled.2.answers);
    no_other = λ position none. (took.others position (λ k h is. let e = there patterns position (inside_at k position is) in let f : None ≡ Some e.0 = sym none ∙ e.1 in cc)).1;
    ascend = took.ascend;
  }

  -- who follows the log with the row
  pub row_follows : (new : List LazyMatcherState) (found : List Hit) → TookSome row retained_limit bracket_ranges marks affected (length affected) swept new found →
      (position : ℕ) (p : Pattern) (lazy_matcher : LazyMatcherState) → slice_get patterns position ≡ Some p → slice_get new position ≡ Some lazy_matcher → FollowsRows p retained_limit (rows ++ r ∷ []) lazy_matcher
  row_follows new found took position p lazy_matcher of_p of_f =
      let settled = all_settle new found took position p of_p lazy_matcher of_f in (settled.0, settled.1, settled.2.follows)

-- ---- the engine's own words

-- each lazy matcher of an engine follows some log of its rows
pub all_follow : (state : EngineState) (rows : List ObservationRow) (row : NextRow) → EngineRepresents state rows → row.rows ≡ state.rows → row.before ≡ state.last → AllFollow state.retained_limit row state.lazy_matchers
all_follow state rows row st e f position lazy_matcher of_f =
    let inside = slice_get_within state.lazy_matchers position lazy_matcher of_f in let count = st.count in
    let p = there state.patterns position (omega (arith, inside, count)) in
    let follows = st.each position p.0 lazy_matcher p.1 of_f in (
      p.0,
      follows.0,
      follows.2,
      record {
        rows_are = log_length (plain_pattern p.0) rows follows.0 follows.1 ∙ sym st.rows_are ∙ sym e;
        last_is = log_last (plain_pattern p.0) rows follows.0 follows.1 ∙ sym st.last_is ∙ sym f;
      },
    )

-- and so when they were swept
pub still_all : (retained_limit : ℕ) (row : NextRow) (old new : List LazyMatcherState) → StillFollow retained_limit row.rows row.before old new → AllFollow retained_limit row old → AllFollow retained_limit row new
still_all retained_limit row old new still all position lazy_matcher of_f =
    let inside = slice_get_within new position lazy_matcher of_f in let count = still.count in
    let f = there old position (omega (arith, inside, count)) in
    let some = all position f.0 f.1 in
    (some.0, some.1, still.follow position f.0 lazy_matcher some.0 some.1 f.1 of_f some.2 some.3, some.3)

-- the positions that are affected are those of lazy matchers
pub affected_inside : (patterns : List PlainPattern) (leaves : List PlainLeaf) (owners : List ℕ) (bracket_ranges : List BracketRange) (objects : List Data) (roots : List ℕ) (marks : List Bool) (affected : List ℕ) (n : ℕ) →
    IsTable patterns leaves owners bracket_ranges → IsEvaluated objects roots leaves owners marks affected → length patterns ≡ n → (k d : ℕ) → k < length affected → get_or affected k d < n
affected_inside patterns leaves owners bracket_ranges objects roots marks affected n table evaluated e k d h =
    let t = there affected k h in let o = evaluated.owned k t.0 t.1 in let v = table.valid o.0 t.0 o.1 in
    let same = get_or_from_slice_get affected k t.0 d t.1 in omega (arith, v, same, e)

-- what is given at a row
pub at_row : (state : EngineState) (rows : List ObservationRow) (r : ObservationRow) (row : NextRow) (leaves : List PlainLeaf) (owners : List ℕ) (bracket_ranges : List BracketRange) (marks : List Bool) (affected : List ℕ) (swept : List LazyMatcherState) →
    EngineRepresents state rows → row.rows ≡ state.rows → row.before ≡ state.last → row.first ≡ r.observation.first → row.last ≡ r.observation.last → ContinuesRows row →
    StillFollow state.retained_limit row.rows row.before state.lazy_matchers swept → IsTable (map plain_pattern state.patterns) leaves owners bracket_ranges → IsEvaluated r.objects r.observation.roots leaves owners marks affected →
    AtRow state.patterns state.retained_limit rows r row leaves owners bracket_ranges marks affected state.lazy_matchers swept
at_row state rows r row leaves owners bracket_ranges marks affected swept st e f g h goes still table evaluated = record {
  each = st.each;
  count = st.count;
  rows_are = e ∙ st.rows_are;
  before_is = f ∙ st.last_is;
  first_is = g;
  last_is = h;
  goes = goes;
  still = still;
  table = table;
  evaluated = evaluated;
}

-- the engine with the row
pub stands_with : (state after : EngineState) (rows : List ObservationRow) (r : ObservationRow) → EngineRepresents state rows → after.ended ≡ false → after.rows ≡ state.rows + 1 → after.last ≡ Some r.observation.last →
    length after.lazy_matchers ≡ length after.patterns →
    ((position : ℕ) (p : Pattern) (lazy_matcher : LazyMatcherState) → slice_get after.patterns position ≡ Some p → slice_get after.lazy_matchers position ≡ Some lazy_matcher → FollowsRows p after.retained_limit (rows ++ r ∷ []) lazy_matcher) →
    EngineRepresents after (rows ++ r ∷ [])
stands_with state after rows r st runs count last many each = record {
  runs = runs;
  rows_are = let e = st.rows_are in (let g : after.rows ≡ length (rows ++ r ∷ []) = omega (arith, e, count, length-append rows (r ∷ [])) in g);
  last_is = last ∙ sym (last_more rows r);
  count = many;
  each = each;
}
