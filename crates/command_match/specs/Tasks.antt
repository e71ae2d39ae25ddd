-- The task of a `match`, from the code's request.
use Rattle.std.specs.Prelude.{ℕ, List, Bool, true, false}
use Rattle.match_input.specs.declared.mode.Mode.{Mode}
use Rattle.match_input.specs.declared.mode.Mode.TheVariants.{Lines, Whole}
use Rattle.command_line.specs.declared.request.MatchRequest.{MatchRequest}

-- how the input is split into bundles: `--whole` says that it is one
abbrev pub mode_of : Bool → Mode
mode_of true = Whole
mode_of false = Lines

-- the task of a `match`: how the input is split, the limit on retained partial matches, and the
-- pattern
pub record MatchTask : Type 0 where
  pub mode : Mode
  pub retained_limit : ℕ
  pub pattern : List ℕ

-- the task of a request
abbrev pub match_task : MatchRequest → MatchTask
match_task request = record { mode = mode_of request.whole; retained_limit = request.retained_limit; pattern = request.pattern.now }
