-- The arguments that name a collection of a peer: HOST PORT ROOT COLLECTION.
use Rattle.std.specs.Prelude.{◌≡◌, ◌⊎◌, ℕ, ◌≤◌, List, ◌++◌, length, All, Option, codes}
use Rattle.std.specs.Char.{IsAsciiAlphanumeric}
use Rattle.flow_links.specs.declared.dial.TheConstants.{MAX_HOST}
use Rattle.stix_ids.specs.Uuid.{IsUuidOf}
use Rattle.command_line.specs.CommandLines.{IsNumberIn}
use Rattle.command_line.specs.declared.numbers.TheConstants.{MAX_PORT}
use Rattle.taxii_client.specs.declared.target.Target.{Target}
use Rattle.command_peer.specs.declared.forms.TheConstants.{MAX_ROOT}
use Rattle.command_peer.specs.declared.arguments.PeerArguments.{PeerArguments}

-- a letter, a digit, `.` or `-`
abbrev pub IsHostByte : ℕ → Type 0
IsHostByte byte = IsAsciiAlphanumeric byte ⊎ (byte ≡ 46) ⊎ (byte ≡ 45)

-- a host's name or address
pub record IsHost (text : List ℕ) : Type 0 where
  pub some : 1 ≤ length text
  pub short : length text ≤ MAX_HOST
  pub bytes : All IsHostByte text

-- a letter, a digit, `-`, `_`, `.` or `/`
abbrev pub IsRootByte : ℕ → Type 0
IsRootByte byte = IsAsciiAlphanumeric byte ⊎ (byte ≡ 45) ⊎ (byte ≡ 95) ⊎ (byte ≡ 46) ⊎ (byte ≡ 47)

-- the path of an API root: it begins with `/`, and ends in it
pub record IsApiRoot (text : List ℕ) : Type 0 where
  pub first : (rest : List ℕ) × (text ≡ codes "/" ++ rest)
  pub last : (front : List ℕ) × (text ≡ front ++ codes "/")
  pub short : length text ≤ MAX_ROOT
  pub bytes : All IsRootByte text

-- the four arguments name the target's collection
pub record IsPeerTarget (host port root collection : List ℕ) (target : Target) : Type 0 where
  pub host_is : target.host ≡ host
  pub host_form : IsHost host
  pub port_is : IsNumberIn 1 MAX_PORT port target.port
  pub root_is : target.root ≡ root
  pub root_form : IsApiRoot root
  pub collection_is : IsUuidOf collection target.collection

-- the collection of the arguments with a page size, and only what was added after a time, if given
abbrev pub peer_target : PeerArguments → ℕ → Option (List ℕ) → Target
peer_target peer limit since = record {
  host = peer.host.now;
  port = peer.port;
  root = peer.root.now;
  collection = peer.collection;
  limit = limit;
  since = since;
}
