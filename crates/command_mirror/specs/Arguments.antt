-- The arguments HOST PORT ROOT COLLECTION FILE TRIES, optionally with `--since TIME` after them.
use Rattle.std.specs.Prelude.{◌≡◌, ◌≢◌, ℕ, ℤ, List, [], ◌∷◌, Option, Some, None, option_map, codes}
use Rattle.stix_times.specs.Reading.{IsTextOfInstant}
use Rattle.command_line.specs.CommandLines.{IsNumberIn}
use Rattle.taxii_client.specs.Copying.{Copying}
use Rattle.command_peer.specs.Arguments.{IsPeerTarget, peer_target}
use Rattle.command_mirror.specs.declared.arguments.TheConstants.{LIMIT, MAX_TRIES}
use Rattle.command_mirror.specs.declared.arguments.MirrorRequest.{MirrorRequest}

-- a text that names an instant
abbrev pub IsInstantText : List ℕ → Type 0
IsInstantText text = (instant : ℤ) × IsTextOfInstant text instant

-- the last arguments are `--since` and a timestamp, or there are none
abbrev pub IsSinceOf : List (List ℕ) → Option (List ℕ) → Type 0
IsSinceOf [] since = since ≡ None
IsSinceOf (flag ∷ []) since = ⊥
IsSinceOf (flag ∷ time ∷ []) since = (flag ≡ codes "--since") × IsInstantText time × (since ≡ Some time)
IsSinceOf (flag ∷ time ∷ other ∷ more) since = ⊥

-- the fifth argument is the file, whose name is not empty, the sixth the number of tries, and then
-- the optional start time
abbrev pub AreStoreArguments : List (List ℕ) → List ℕ → ℕ → Option (List ℕ) → Type 0
AreStoreArguments [] file tries since = ⊥
AreStoreArguments (name ∷ []) file tries since = ⊥
AreStoreArguments (name ∷ number ∷ last) file tries since = (file ≡ name) × (name ≢ []) × IsNumberIn 1 MAX_TRIES number tries × IsSinceOf last since

-- the arguments are HOST PORT ROOT COLLECTION FILE TRIES [--since TIME]; a page has 100 objects at
-- most
pub record AskForCopy (arguments : List (List ℕ)) (asked : Copying) : Type 0 where
  pub host : List ℕ
  pub port : List ℕ
  pub root : List ℕ
  pub collection : List ℕ
  pub more : List (List ℕ)
  pub arguments_are : arguments ≡ host ∷ port ∷ root ∷ collection ∷ more
  pub target_is : IsPeerTarget host port root collection asked.target
  pub limit_is : asked.target.limit ≡ LIMIT
  pub more_are : AreStoreArguments more asked.file asked.tries asked.target.since

-- the arguments are nothing of the kind
abbrev pub AskForNoCopy : List (List ℕ) → Type 0
AskForNoCopy arguments = (asked : Copying) → ¬ AskForCopy arguments asked

-- what a request asks for
abbrev pub copying_of : MirrorRequest → Copying
copying_of request = record {
  target = peer_target request.peer LIMIT (option_map (λ time. time.now) request.store.since);
  file = request.store.file.now;
  tries = request.store.tries;
}
