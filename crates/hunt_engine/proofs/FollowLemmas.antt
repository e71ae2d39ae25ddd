-- A lazy matcher at a row: where no bracket holds it follows the log with the row untouched.
use Rattle.std.proofs.Common.{◌≡◌, ℕ, suc, ◌+◌, ◌-◌, ◌≤◌, ◌<◌, ℤ, List, [], ◌∷◌, ◌++◌, length, refl, sym, ◌∙◌, ap, subst, arith, append_assoc, append-nil, length-append}
use Rattle.std.specs.Prelude.{Bool, Option, Some, None}
use Rattle.pattern_types.specs.declared.pattern.Pattern.{Pattern}
use Rattle.match_bindings.specs.declared.log_entry.LogEntry.{LogEntry}
use Rattle.match_bindings.specs.NumberedPattern.{NumberedPattern, Leaf, numbered_pattern}
use Rattle.match_bindings.specs.BindTree.{BindTree}
use Rattle.match_bindings.specs.Log.{IsInOrder}
use Rattle.match_bindings.proofs.LogLemmas.{in_order_more}
use Rattle.match_stream.specs.MatcherState.{MatcherState, MatcherRepresents, Falls, log_end}
use Rattle.match_stream.specs.Answer.{IsAnswer, IsRetainedCount, IsWithinLimit, IsOverLimit, AnswersRow}
use Rattle.match_stream.specs.Passing.{IsNonmatching, AreNonmatching, ContinuesWithoutMatch}
use Rattle.match_stream.proofs.ShapeLemmas.{Rule}
use Rattle.match_stream.proofs.LogLemmas.{not_falls}
use Rattle.hunt_engine.specs.declared.next_row.NextRow.{NextRow}
use Rattle.hunt_engine.specs.LazyMatcherState.{LazyMatcherState, LagsBehind, MatchesFor, Follows}
use Rattle.hunt_engine.specs.inner.Following.{EndsLogAt, IsCaughtUp, CatchesUp, FollowsLastRow, log_with, ContinuesRows, single_bracket_at}
use Rattle.hunt_engine.proofs.NonmatchingLemmas.{nonmatching_within_limit, within_limit_at_first}
use Rattle.hunt_engine.proofs.SingleBracketLemmas.{single_bracket_answer, single_bracket_count}

nonmatching_more : (rows : List LogEntry) (r : LogEntry) → AreNonmatching rows → IsNonmatching r → AreNonmatching (rows ++ r ∷ [])
nonmatching_more [] r rows_are r_is = (r_is, tt)
nonmatching_more (q ∷ rows) r rows_are r_is = (rows_are.0, nonmatching_more rows r rows_are.1 r_is)

-- the matcher has one row more to pass
lags_more : (log : List LogEntry) (r : LogEntry) (seen : ℕ) (matcher : MatcherState) → IsNonmatching r → LagsBehind log seen matcher → LagsBehind (log ++ r ∷ []) seen matcher
lags_more log r seen matcher nonmatching lags = record {
  before = lags.before;
  nonmatching = lags.nonmatching ++ r ∷ [];
  log_is = ap (λ l. l ++ r ∷ []) lags.log_is ∙ append_assoc lags.before lags.nonmatching (r ∷ []);
  none_holds = nonmatching_more lags.nonmatching r lags.none_holds nonmatching;
  count = lags.count;
  represents = lags.represents;
}

matches_more : (p : Pattern) (retained_limit : ℕ) (log : List LogEntry) (r : LogEntry) (seen : ℕ) (matcher : Option MatcherState) → IsNonmatching r → MatchesFor p retained_limit log seen matcher → MatchesFor p retained_limit (log ++ r ∷ []) seen matcher
matches_more p retained_limit log r seen None nonmatching is = is
matches_more p retained_limit log r seen (Some matcher) nonmatching is = (is.0, is.1, lags_more log r seen matcher nonmatching is.2)

-- the row goes on after the log in order
pub order_more : (row : NextRow) (log : List LogEntry) (truths : List Bool) → IsInOrder log → EndsLogAt log row.rows row.before → ContinuesRows row →
    IsInOrder (log ++ record { first = row.first; last = row.last; truths = truths } ∷ [])
order_more row log truths order ends goes =
    in_order_more log (record { first = row.first; last = row.last; truths = truths }) order goes.span
    (not_falls log row.last (λ k. goes.order (subst (λ (t : Option ℤ). Falls t row.last) ends.last_is k)))

pub nonmatching_follows : Rule → (p : Pattern) (retained_limit : ℕ) (log : List LogEntry) (r : LogEntry) (lazy_matcher : LazyMatcherState) → IsNonmatching r → IsInOrder (log ++ r ∷ []) → Follows p retained_limit log lazy_matcher → Follows p retained_limit (log ++ r ∷ []) lazy_matcher
nonmatching_follows rule p retained_limit log r lazy_matcher nonmatching order follows = record {
  order = order;
  within_limit = nonmatching_within_limit rule (numbered_pattern p) log r retained_limit nonmatching order follows.within_limit;
  matcher = matches_more p retained_limit log r lazy_matcher.seen lazy_matcher.matcher nonmatching follows.matcher;
}

-- what is retained after a log is what a matcher that stands for it holds
pub represents_all : (p : Pattern) (retained_limit : ℕ) (log : List LogEntry) (lazy_matcher : LazyMatcherState) → Follows p retained_limit log lazy_matcher →
    (matcher : MatcherState) × (matcher.pattern ≡ p) × (matcher.retained_limit ≡ retained_limit) × MatcherRepresents matcher log
represents_all p retained_limit log lazy_matcher follows = (
  record { pattern = p; retained_limit = retained_limit; ended = None; rows = length log; last = log_end log; contents = follows.within_limit.1.contents },
  refl,
  refl,
  record { runs = refl; rows = refl; last = refl; retained = follows.within_limit.1.retained },
)

-- ---- catching up

nothing_behind : (before nonmatching : List LogEntry) → length (before ++ nonmatching) ≤ length before → nonmatching ≡ []
nothing_behind before [] h = refl
nothing_behind before (q ∷ nonmatching) h = absurd (omega (arith, h, length-append before (q ∷ nonmatching)))

-- a matcher that saw all rows stands for the log
pub saw_all : (log : List LogEntry) (seen : ℕ) (matcher : MatcherState) → LagsBehind log seen matcher → length log ≤ seen → MatcherRepresents matcher log × (seen ≡ length log)
saw_all log seen matcher lags h =
    let count = lags.count in
    let same : length log ≡ length (lags.before ++ lags.nonmatching) = ap length lags.log_is in
    let none : lags.nonmatching ≡ [] = nothing_behind lags.before lags.nonmatching (omega (arith, count, same, h)) in
    let whole : lags.before ≡ log = sym (append-nil lags.before) ∙ ap (λ l. lags.before ++ l) (sym none) ∙ sym lags.log_is in
    (subst (λ (l : List LogEntry). MatcherRepresents matcher l) whole lags.represents, count ∙ ap length whole)

last_behind : (before : List LogEntry) (q : LogEntry) (nonmatching : List LogEntry) → log_end (before ++ q ∷ nonmatching) ≡ log_end (q ∷ nonmatching)
last_behind [] q nonmatching = refl
last_behind (x ∷ []) q nonmatching = refl
last_behind (x ∷ y ∷ before) q nonmatching = last_behind (y ∷ before) q nonmatching

last_of_nonmatching : (before nonmatching : List LogEntry) (last : ℤ) → 1 ≤ length nonmatching → log_end (before ++ nonmatching) ≡ Some last → log_end nonmatching ≡ Some last
last_of_nonmatching before [] last h e = absurd (omega (arith, h))
last_of_nonmatching before (q ∷ nonmatching) last h e = sym (last_behind before q nonmatching) ∙ e

-- the rows that a matcher missed are nonmatching, and go on after those that it saw
pub missed : (log : List LogEntry) (seen : ℕ) (matcher : MatcherState) (rows : ℕ) (last : ℤ) (lags : LagsBehind log seen matcher) → IsInOrder log → EndsLogAt log rows (Some last) → seen < rows →
    ContinuesWithoutMatch lags.before lags.nonmatching (rows - seen) last
missed log seen matcher rows last lags order ends h =
    let count = lags.count in
    let same : length log ≡ length (lags.before ++ lags.nonmatching) = ap length lags.log_is in
    let whole = ends.rows_are in
    let many : length lags.nonmatching ≡ rows - seen = omega (arith, count, same, whole, h, length-append lags.before lags.nonmatching) in
    record {
      count = many;
      none_holds = lags.none_holds;
      order = subst IsInOrder lags.log_is order;
      last_is = last_of_nonmatching lags.before lags.nonmatching last (omega (arith, many, h)) (ap log_end (sym lags.log_is) ∙ ends.last_is);
    }

-- a log without a last time has no rows
no_rows : (log : List LogEntry) → log_end log ≡ None → length log ≡ 0
no_rows [] e = refl
no_rows (x ∷ []) e = absurd (cc)
no_rows (x ∷ y ∷ log) e = absurd (let k = no_rows (y ∷ log) e in omega (arith, k))

-- a matcher that stands for the log lags after by nothing
stands_lags : (log : List LogEntry) (seen : ℕ) (matcher : MatcherState) → MatcherRepresents matcher log → seen ≡ length log → LagsBehind log seen matcher
stands_lags log seen matcher represents e = record { before = log; nonmatching = []; log_is = sym (append-nil log); none_holds = tt; count = e; represents = represents }

-- nothing was missed
pub up_to_date : (p : Pattern) (retained_limit : ℕ) (log : List LogEntry) (lazy_matcher : LazyMatcherState) (matcher : MatcherState) → lazy_matcher.matcher ≡ Some matcher → Follows p retained_limit log lazy_matcher → length log ≤ lazy_matcher.seen → CatchesUp p retained_limit log lazy_matcher
up_to_date p retained_limit log lazy_matcher matcher is follows h = record {
  follows = follows;
  caught_up = subst (λ (m : Option MatcherState). IsCaughtUp log lazy_matcher m) (sym is)
      (saw_all log lazy_matcher.seen matcher (subst (λ (m : Option MatcherState). MatchesFor p retained_limit log lazy_matcher.seen m) is follows.matcher).2 h);
}

-- what was missed was passed
pub passed : (p : Pattern) (retained_limit : ℕ) (log : List LogEntry) (before : LazyMatcherState) (old new : MatcherState) (rows : ℕ) → Follows p retained_limit log before → before.matcher ≡ Some old →
    (new.pattern ≡ old.pattern) × (new.retained_limit ≡ old.retained_limit) → MatcherRepresents new log → rows ≡ length log → CatchesUp p retained_limit log (record { matcher = Some new; seen = rows })
passed p retained_limit log before old new rows follows is kept represents e =
    let matches = subst (λ (m : Option MatcherState). MatchesFor p retained_limit log before.seen m) is follows.matcher in
    record {
      follows = record {
        order = follows.order;
        within_limit = follows.within_limit;
        matcher = (kept.0 ∙ matches.0, kept.1 ∙ matches.1, stands_lags log rows new represents e);
      };
      caught_up = (represents, e);
    }

-- ---- the row

-- a matcher took it
pub takes_matched : (p : Pattern) (retained_limit : ℕ) (log more : List LogEntry) (before : LazyMatcherState) (old new : MatcherState) (seen : ℕ) (xs : List BindTree) → Follows p retained_limit log before → before.matcher ≡ Some old →
    (new.pattern ≡ old.pattern) × (new.retained_limit ≡ old.retained_limit) → AnswersRow old new more xs → seen ≡ length more → FollowsLastRow p retained_limit more (record { matcher = Some new; seen = seen }) xs
takes_matched p retained_limit log more before old new seen xs follows is kept answers e =
    let matches = subst (λ (m : Option MatcherState). MatchesFor p retained_limit log before.seen m) is follows.matcher in
    record {
      follows = record {
        order = answers.order;
        within_limit = subst (λ (c : ℕ). IsWithinLimit (numbered_pattern p) more c) matches.1 (subst (λ (q : Pattern). IsWithinLimit (numbered_pattern q) more old.retained_limit) matches.0 answers.within_limit);
        matcher = (kept.0 ∙ matches.0, kept.1 ∙ matches.1, stands_lags more seen new answers.represents e);
      };
      answers = subst (λ (q : Pattern). IsAnswer (numbered_pattern q) more xs) matches.0 answers.answers;
    }

-- it is over limit
pub crowds_matched : (p : Pattern) (retained_limit : ℕ) (log more : List LogEntry) (before : LazyMatcherState) (old : MatcherState) → Follows p retained_limit log before → before.matcher ≡ Some old →
    IsOverLimit (numbered_pattern old.pattern) more old.retained_limit → IsOverLimit (numbered_pattern p) more retained_limit
crowds_matched p retained_limit log more before old follows is over_limit =
    let matches = subst (λ (m : Option MatcherState). MatchesFor p retained_limit log before.seen m) is follows.matcher in
    subst (λ (c : ℕ). IsOverLimit (numbered_pattern p) more c) matches.1 (subst (λ (q : Pattern). IsOverLimit (numbered_pattern q) more old.retained_limit) matches.0 over_limit)

-- a pattern of one bracket took it
pub takes_single_bracket : (p : Pattern) (retained_limit : ℕ) (log : List LogEntry) (row : NextRow) (truths : List Bool) (lazy_matcher : LazyMatcherState) (number : ℕ) (xs : List BindTree) → Follows p retained_limit log lazy_matcher → lazy_matcher.matcher ≡ None →
    EndsLogAt log row.rows row.before → ContinuesRows row → number ≡ row.rows + 1 → xs ≡ single_bracket_at number truths → length xs ≤ retained_limit → FollowsLastRow p retained_limit (log_with row truths log) lazy_matcher xs
takes_single_bracket p retained_limit log row truths lazy_matcher number xs follows is ends goes e same room =
    let matches = subst (λ (m : Option MatcherState). MatchesFor p retained_limit log lazy_matcher.seen m) is follows.matcher in
    let one : numbered_pattern p ≡ Leaf 0 = ap numbered_pattern matches.1 in
    let rows = ends.rows_are in
    let at : suc (length log) ≡ number = omega (arith, rows, e) in
    let told : single_bracket_at (suc (length log)) truths ≡ xs = ap (λ n. single_bracket_at n truths) at ∙ sym same in
    record {
      follows = record {
        order = order_more row log truths follows.order ends goes;
        within_limit = subst (λ (q : NumberedPattern). IsWithinLimit q (log_with row truths log) retained_limit) (sym one)
            (length xs, subst (λ (l : List BindTree). IsRetainedCount (Leaf 0) (log_with row truths log) (length l)) told (single_bracket_count log row.first row.last truths), room);
        matcher = subst (λ (m : Option MatcherState). MatchesFor p retained_limit (log_with row truths log) lazy_matcher.seen m) (sym is) matches;
      };
      answers = subst (λ (q : NumberedPattern). IsAnswer q (log_with row truths log) xs) (sym one)
          (subst (λ (l : List BindTree). IsAnswer (Leaf 0) (log_with row truths log) l) told (single_bracket_answer log row.first row.last truths));
    }

pub crowds_single_bracket : (p : Pattern) (retained_limit : ℕ) (log : List LogEntry) (row : NextRow) (truths : List Bool) (lazy_matcher : LazyMatcherState) (number : ℕ) → Follows p retained_limit log lazy_matcher → lazy_matcher.matcher ≡ None →
    EndsLogAt log row.rows row.before → number ≡ row.rows + 1 → retained_limit < length (single_bracket_at number truths) → IsOverLimit (numbered_pattern p) (log_with row truths log) retained_limit
crowds_single_bracket p retained_limit log row truths lazy_matcher number follows is ends e over =
    let matches = subst (λ (m : Option MatcherState). MatchesFor p retained_limit log lazy_matcher.seen m) is follows.matcher in
    let one : numbered_pattern p ≡ Leaf 0 = ap numbered_pattern matches.1 in
    let rows = ends.rows_are in
    let at : suc (length log) ≡ number = omega (arith, rows, e) in
    subst (λ (q : NumberedPattern). IsOverLimit q (log_with row truths log) retained_limit) (sym one)
    (length (single_bracket_at (suc (length log)) truths), single_bracket_count log row.first row.last truths, subst (λ (n : ℕ). retained_limit < length (single_bracket_at n truths)) (sym at) over)

-- before any row
pub follows_first : Rule → (p : Pattern) (retained_limit : ℕ) (matcher : Option MatcherState) → MatchesFor p retained_limit [] 0 matcher → Follows p retained_limit [] (record { matcher = matcher; seen = 0 })
follows_first rule p retained_limit matcher matches = record { order = tt; within_limit = within_limit_at_first rule (numbered_pattern p) retained_limit; matcher = matches }

-- the law of a pass, at whatever rows were missed
pub pass_law : (p : Pattern) (retained_limit : ℕ) (log : List LogEntry) (before : LazyMatcherState) (old new : MatcherState) (rows : ℕ) (last : ℤ) → Follows p retained_limit log before → before.matcher ≡ Some old →
    EndsLogAt log rows (Some last) → before.seen < rows → ((l q : List LogEntry) → MatcherRepresents old l → ContinuesWithoutMatch l q (rows - before.seen) last → MatcherRepresents new (l ++ q)) →
    (new.pattern ≡ old.pattern) × (new.retained_limit ≡ old.retained_limit) → CatchesUp p retained_limit log (record { matcher = Some new; seen = rows })
pass_law p retained_limit log before old new rows last follows is ends less law kept =
    let lags = (subst (λ (m : Option MatcherState). MatchesFor p retained_limit log before.seen m) is follows.matcher).2 in
    let represents = law lags.before lags.nonmatching lags.represents (missed log before.seen old rows last lags follows.order ends less) in
    passed p retained_limit log before old new rows follows is kept (subst (λ (l : List LogEntry). MatcherRepresents new l) (sym lags.log_is) represents) (sym ends.rows_are)

-- nothing is missed where there is no last time
pub no_last : (p : Pattern) (retained_limit : ℕ) (log : List LogEntry) (lazy_matcher : LazyMatcherState) (matcher : MatcherState) (rows : ℕ) → lazy_matcher.matcher ≡ Some matcher → Follows p retained_limit log lazy_matcher → EndsLogAt log rows None → CatchesUp p retained_limit log lazy_matcher
no_last p retained_limit log lazy_matcher matcher rows is follows ends = up_to_date p retained_limit log lazy_matcher matcher is follows (let none = no_rows log ends.last_is in omega (arith, none))

-- what is caught up stands for the log
pub stands_now : (p : Pattern) (retained_limit : ℕ) (log : List LogEntry) (lazy_matcher : LazyMatcherState) (matcher : MatcherState) → CatchesUp p retained_limit log lazy_matcher → lazy_matcher.matcher ≡ Some matcher → MatcherRepresents matcher log × (lazy_matcher.seen ≡ length log)
stands_now p retained_limit log lazy_matcher matcher up is = subst (λ (m : Option MatcherState). IsCaughtUp log lazy_matcher m) is up.caught_up
