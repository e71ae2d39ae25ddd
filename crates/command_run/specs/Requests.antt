-- The request of the arguments, by command.
use Rattle.std.specs.Prelude.{◌≡◌, ◌⊎◌, ℕ, List, Bool}
use Rattle.command_match.specs.Tasks.{MatchTask, mode_of}
use Rattle.command_line.specs.CommandLines.{PlainService, Match, Check, Show, Make, Serve, IsCommandLine}

-- match [--whole] [--cap N] PATTERN
pub record IsMatchRequest (arguments : List (List ℕ)) (request : MatchTask) : Type 0 where
  pub whole : Bool
  pub mode_is : request.mode ≡ mode_of whole
  pub line : IsCommandLine arguments (Match whole request.retained_limit request.pattern)

-- check
abbrev pub IsCheckRequest : List (List ℕ) → Type 0
IsCheckRequest arguments = IsCommandLine arguments Check

-- show PATTERN
abbrev pub IsShowRequest : List (List ℕ) → List ℕ → Type 0
IsShowRequest arguments pattern = IsCommandLine arguments (Show pattern)

-- make SEED COUNT
abbrev pub IsMakeRequest : List (List ℕ) → ℕ → ℕ → Type 0
IsMakeRequest arguments seed count = IsCommandLine arguments (Make seed count)

-- serve --port P --connections N [--store FILE] [--base URL] COLLECTION...
abbrev pub IsServeRequest : List (List ℕ) → PlainService → Type 0
IsServeRequest arguments service = IsCommandLine arguments (Serve service)

-- the arguments request a server
abbrev pub AskToServe : List (List ℕ) → Type 0
AskToServe arguments = (service : PlainService) × IsServeRequest arguments service

-- the arguments are a command that reads no input
abbrev pub AskForNoInput : List (List ℕ) → Type 0
AskForNoInput arguments = ((pattern : List ℕ) × IsShowRequest arguments pattern) ⊎ ((seed : ℕ) × (count : ℕ) × IsMakeRequest arguments seed count) ⊎ AskToServe arguments
