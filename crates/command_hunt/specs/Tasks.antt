-- The arguments [--indicators FILE] TIME [CAP], the option before or after the others.
use Rattle.std.specs.Prelude.{◌≡◌, ◌≢◌, ◌⊎◌, ℕ, ℤ, List, [], ◌∷◌, ◌++◌, Option, Some, None, option_map, codes}
use Rattle.stix_times.specs.Reading.{IsTextOfInstant}
use Rattle.command_line.specs.CommandLines.{IsNumberOr}
use Rattle.command_line.specs.declared.numbers.TheConstants.{DEFAULT_RETAINED_LIMIT, MAX_RETAINED_LIMIT}
use Rattle.command_hunt.specs.declared.arguments.HuntRequest.{HuntRequest}

-- a hunt at a moment, with a limit on the retained partial matches of a pattern; and the name of
-- the indicator file, if given
pub record HuntTask : Type 0 where
  pub file : Option (List ℕ)
  pub moment : ℤ
  pub retained_limit : ℕ

-- what is requested
abbrev pub hunt_task : HuntRequest → HuntTask
hunt_task request = record { file = option_map (λ name. name.now) request.file; moment = request.moment; retained_limit = request.retained_limit }

-- the arguments are TIME, or TIME CAP
pub record ArePositions (arguments : List (List ℕ)) (moment : ℤ) (retained_limit : ℕ) : Type 0 where
  pub time : List ℕ
  pub caps : List (List ℕ)
  pub arguments_are : arguments ≡ time ∷ caps
  pub time_is : IsTextOfInstant time moment
  pub retained_limit_is : IsNumberOr DEFAULT_RETAINED_LIMIT 1 MAX_RETAINED_LIMIT caps retained_limit

-- an argument is the option, the next one names a file, and the others are positional
pub record AreWithOption (option name : List ℕ) (others : List (List ℕ)) (task : HuntTask) : Type 0 where
  pub option_is : option ≡ codes "--indicators"
  pub named : name ≢ []
  pub file_is : task.file ≡ Some name
  pub positions : ArePositions others task.moment task.retained_limit

-- the option is before the positional arguments, or after them
pub record OptionBefore (arguments : List (List ℕ)) (task : HuntTask) : Type 0 where
  pub option : List ℕ
  pub name : List ℕ
  pub others : List (List ℕ)
  pub arguments_are : arguments ≡ option ∷ name ∷ others
  pub are : AreWithOption option name others task

pub record OptionAfter (arguments : List (List ℕ)) (task : HuntTask) : Type 0 where
  pub option : List ℕ
  pub name : List ℕ
  pub others : List (List ℕ)
  pub arguments_are : arguments ≡ others ++ option ∷ name ∷ []
  pub are : AreWithOption option name others task

-- the arguments request this: positional arguments alone, or with the option
abbrev pub AskForHunt : List (List ℕ) → HuntTask → Type 0
AskForHunt arguments task = ((task.file ≡ None) × ArePositions arguments task.moment task.retained_limit) ⊎ OptionBefore arguments task ⊎ OptionAfter arguments task

-- the arguments are no command line
abbrev pub AskForNoHunt : List (List ℕ) → Type 0
AskForNoHunt arguments = (task : HuntTask) → ¬ AskForHunt arguments task
