-- What a matcher answers to a row: the bindings that end there.
use Rattle.std.specs.Prelude.{◌≡◌, ℕ, ◌+◌, ◌≤◌, ◌<◌, ⊤, List, [], ◌∷◌, ◌++◌, length}
use Rattle.match_bindings.specs.declared.log_entry.LogEntry.{LogEntry}
use Rattle.match_bindings.specs.NumberedPattern.{NumberedPattern, numbered_pattern}
use Rattle.match_bindings.specs.BindTree.{BindTree, greatest}
use Rattle.match_bindings.specs.Log.{IsInOrder, observed_in}
use Rattle.match_bindings.specs.Binding.{IsBinding}
use Rattle.match_bindings.specs.Once.{count}
use Rattle.match_bindings.specs.Flat.{Ascends}
use Rattle.match_pruning.specs.PartialMatchTree.{PartialMatchTree}
use Rattle.match_stream.specs.RetainedPart.{IsRetainedPart, held_count}
use Rattle.match_stream.specs.MatcherState.{MatcherState, MatcherRepresents}

-- a binding whose greatest observation number is the last row's
abbrev pub EndsAtLast : NumberedPattern → List LogEntry → BindTree → Type 0
EndsAtLast p log x = IsBinding (observed_in log) p x × (greatest x ≡ length log)

-- all of these, each once, and nothing else, in the order of flat lists
pub record IsAnswer (p : NumberedPattern) (log : List LogEntry) (xs : List BindTree) : Type 0 where
  pub each_once : (x : BindTree) → EndsAtLast p log x → count x xs ≡ 1
  pub no_other : (x : BindTree) → ¬ (EndsAtLast p log x) → count x xs ≡ 0
  pub ascends : Ascends xs

-- the retained count: how many partial matches the stores hold, plus how many bindings end at the
-- last row
pub record IsRetainedCount (p : NumberedPattern) (log : List LogEntry) (n : ℕ) : Type 0 where
  pub contents : List (List PartialMatchTree)
  pub answer : List BindTree
  pub retained : IsRetainedPart p log contents
  pub ending : IsAnswer p log answer
  pub sum : n ≡ held_count contents + length answer

-- the retained count exceeds the limit
abbrev pub IsOverLimit : NumberedPattern → List LogEntry → ℕ → Type 0
IsOverLimit p log retained_limit = (n : ℕ) × IsRetainedCount p log n × (retained_limit < n)

-- the retained count doesn't exceed the limit
abbrev pub IsWithinLimit : NumberedPattern → List LogEntry → ℕ → Type 0
IsWithinLimit p log retained_limit = (n : ℕ) × IsRetainedCount p log n × (n ≤ retained_limit)

-- a matcher answers the last row of a log: it then represents the log, whose rows are in order, and
-- the retained count is within its limit
pub record AnswersRow (before after : MatcherState) (log : List LogEntry) (answer : List BindTree) : Type 0 where
  pub represents : MatcherRepresents after log
  pub order : IsInOrder log
  pub answers : IsAnswer (numbered_pattern before.pattern) log answer
  pub within_limit : IsWithinLimit (numbered_pattern before.pattern) log before.retained_limit

-- the limit is exceeded at the last row, whose number is reported
pub record IsOverLimitAtRow (before : MatcherState) (log : List LogEntry) (number retained_limit : ℕ) : Type 0 where
  pub order : IsInOrder log
  pub numbered : number ≡ length log
  pub retained_limit_is : retained_limit ≡ before.retained_limit
  pub over_limit : IsOverLimit (numbered_pattern before.pattern) log retained_limit

-- an answer for each row of a log, after the rows `before`
abbrev pub AnswersAfter : NumberedPattern → List LogEntry → List LogEntry → List (List BindTree) → Type 0
AnswersAfter p before [] [] = ⊤
AnswersAfter p before (row ∷ log) (xs ∷ answers) = IsAnswer p (before ++ row ∷ []) xs × AnswersAfter p (before ++ row ∷ []) log answers
AnswersAfter p before _ _ = ⊥

-- the answers to all rows of a log
abbrev pub AreAnswers : NumberedPattern → List LogEntry → List (List BindTree) → Type 0
AreAnswers p log answers = AnswersAfter p [] log answers

-- answers, concatenated
abbrev pub joined_answers : List (List BindTree) → List BindTree
joined_answers [] = []
joined_answers (xs ∷ answers) = xs ++ joined_answers answers
