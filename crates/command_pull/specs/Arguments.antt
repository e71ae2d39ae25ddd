-- The arguments HOST PORT ROOT COLLECTION and the optional LIMIT.
use Rattle.std.specs.Prelude.{◌≡◌, ℕ, List, [], ◌∷◌, None}
use Rattle.command_line.specs.CommandLines.{IsNumberIn}
use Rattle.taxii_client.specs.declared.target.Target.{Target}
use Rattle.command_peer.specs.Arguments.{IsPeerTarget}
use Rattle.command_peer.specs.Arguments as peer
use Rattle.command_pull.specs.declared.arguments.TheConstants.{MAX_LIMIT}
use Rattle.command_pull.specs.declared.arguments.PullRequest.{PullRequest}

-- the fifth argument is the page size; the default is the largest one
abbrev pub IsPageLimit : List (List ℕ) → ℕ → Type 0
IsPageLimit [] limit = limit ≡ MAX_LIMIT
IsPageLimit (text ∷ []) limit = IsNumberIn 1 MAX_LIMIT text limit
IsPageLimit (text ∷ other ∷ more) limit = ⊥

-- the arguments are HOST PORT ROOT COLLECTION or HOST PORT ROOT COLLECTION LIMIT, and ask for all
-- objects of the collection
pub record AskForPull (arguments : List (List ℕ)) (target : Target) : Type 0 where
  pub host : List ℕ
  pub port : List ℕ
  pub root : List ℕ
  pub collection : List ℕ
  pub more : List (List ℕ)
  pub arguments_are : arguments ≡ host ∷ port ∷ root ∷ collection ∷ more
  pub target_is : IsPeerTarget host port root collection target
  pub limit_is : IsPageLimit more target.limit
  pub all : target.since ≡ None

-- the arguments are nothing of the kind
abbrev pub AskForNoPull : List (List ℕ) → Type 0
AskForNoPull arguments = (target : Target) → ¬ AskForPull arguments target

-- the target of a request
abbrev pub pull_target : PullRequest → Target
pull_target request = peer.peer_target request.peer request.limit None
