-- The arguments PATTERN N SECONDS.
use Rattle.std.specs.Prelude.{◌≡◌, ℕ, ◌≤◌, List, [], ◌∷◌}
use Rattle.pattern_types.specs.declared.pattern.Pattern.{Pattern}
use Rattle.pattern_types.specs.PlainLeaf.{PlainLeaf}
use Rattle.pattern_types.specs.PlainPattern.{a_leaf, plain_pattern}
use Rattle.pattern_reader.specs.Read.{IsReadAs}
use Rattle.command_line.specs.CommandLines.{IsNumberIn}
use Rattle.command_alerts.specs.declared.arguments.AlertRequest.{AlertRequest}
use Rattle.command_alerts.specs.declared.arguments.TheConstants.{MAX_N, MAX_SECONDS}

-- the alerts of a pattern, for n matches within a window of seconds
pub record AlertTask : Type 0 where
  pub pattern : List ℕ
  pub n : ℕ
  pub seconds : ℕ

-- what is requested
abbrev pub alert_task : AlertRequest → AlertTask
alert_task request = record { pattern = request.pattern.now; n = request.n; seconds = request.seconds }

-- the arguments are PATTERN N SECONDS
pub record AskForAlerts (arguments : List (List ℕ)) (task : AlertTask) : Type 0 where
  pub n_text : List ℕ
  pub seconds_text : List ℕ
  pub arguments_are : arguments ≡ task.pattern ∷ n_text ∷ seconds_text ∷ []
  pub n_is : IsNumberIn 1 MAX_N n_text task.n
  pub seconds_is : IsNumberIn 1 MAX_SECONDS seconds_text task.seconds

-- the arguments are nothing of the kind
abbrev pub AskForNoAlerts : List (List ℕ) → Type 0
AskForNoAlerts arguments = (task : AlertTask) → ¬ AskForAlerts arguments task

-- the numbers are such as may be asked for
abbrev pub IsInRange : AlertTask → Type 0
IsInRange task = (1 ≤ task.n) × (task.n ≤ MAX_N) × (1 ≤ task.seconds)

-- the pattern is one observation expression
abbrev pub IsOneLeaf : Pattern → Type 0
IsOneLeaf pattern = (leaf : PlainLeaf) × (plain_pattern pattern ≡ a_leaf leaf)

-- the text is read as that pattern, which is one observation expression
abbrev pub IsReadAsLeaf : List ℕ → Pattern → Type 0
IsReadAsLeaf text pattern = IsReadAs text pattern × IsOneLeaf pattern

-- the text is read as a pattern that is more than one observation expression
abbrev pub IsReadAsMore : List ℕ → Type 0
IsReadAsMore text = (pattern : Pattern) × IsReadAs text pattern × ¬ IsOneLeaf pattern

-- the text is read as no such pattern
abbrev pub IsReadAsNoLeaf : List ℕ → Type 0
IsReadAsNoLeaf text = (pattern : Pattern) → ¬ IsReadAsLeaf text pattern
