-- What a command asks for, by the rows that `clap` found for it.
use Rattle.std.specs.Prelude.{◌≡◌, ◌≤◌, ℕ, List, [], ◌∷◌, map, length, Bool, true, false, Option, Some, None, codes, nat_eq}
use Rattle.std.specs.List.{IsDistinct}
use Rattle.clap.specs.Words.{Row, first_of, found_of, one_of, rows_of}
use Rattle.clap.specs.declared.parser.matches.ArgMatches.{ArgMatches}
use Rattle.command_line.specs.CommandLines.{AreCollectionsOf, IsBase, IsFile, IsNumberIn, PlainRequest, PlainService, Match, Check, Show, Make, Serve}
use Rattle.match_generator.specs.declared.log.TheConstants.{MAX_SEED, MAX_COUNT}
use Rattle.command_line.specs.declared.numbers.TheConstants.{DEFAULT_RETAINED_LIMIT, MAX_RETAINED_LIMIT, MAX_CONNECTIONS, MAX_PORT}
use Rattle.command_line.specs.inner.Forms.{collection_names}

-- the rows that a parse found
abbrev pub parsed_rows : ArgMatches → List Row
parsed_rows matches = rows_of (found_of matches)

-- a flag's text says whether it was given
abbrev pub IsFlagText : Option (List ℕ) → Bool → Type 0
IsFlagText text given = (text ≡ Some (codes "true") → given ≡ true) × (text ≡ Some (codes "false") → given ≡ false)

-- the limit that `--cap` gives, or the default
abbrev pub IsRetainedLimitText : Option (List ℕ) → ℕ → Type 0
IsRetainedLimitText None retained_limit = retained_limit ≡ DEFAULT_RETAINED_LIMIT
IsRetainedLimitText (Some text) retained_limit = IsNumberIn 1 MAX_RETAINED_LIMIT text retained_limit

-- a number of a text that is there
abbrev pub IsPresentNumberText : ℕ → ℕ → Option (List ℕ) → ℕ → Type 0
IsPresentNumberText least most None number = ⊥
IsPresentNumberText least most (Some text) number = IsNumberIn least most text number

pub record IsMatchIn (rows : List Row) (whole : Bool) (retained_limit : ℕ) (pattern : List ℕ) : Type 0 where
  pub whole_is : IsFlagText (one_of (codes "whole") rows) whole
  pub retained_limit_is : IsRetainedLimitText (first_of (codes "cap") rows) retained_limit
  pub pattern_is : first_of (codes "pattern") rows ≡ Some pattern

pub record IsMakeIn (rows : List Row) (seed count : ℕ) : Type 0 where
  pub seed_is : IsPresentNumberText 0 MAX_SEED (first_of (codes "seed") rows) seed
  pub count_is : IsPresentNumberText 1 MAX_COUNT (first_of (codes "count") rows) count

-- a well-formed text, or none
abbrev pub IsTextOrNone : (List ℕ → Type 0) → Option (List ℕ) → Option (List ℕ) → Type 0
IsTextOrNone IsForm None given = given ≡ None
IsTextOrNone IsForm (Some text) given = (given ≡ Some text) × IsForm text

-- the argument, if present, and then the others
abbrev pub with_argument : Option (List ℕ) → List (List ℕ) → List (List ℕ)
with_argument None arguments = arguments
with_argument (Some argument) arguments = argument ∷ arguments

-- the values of these positional arguments, in order
abbrev pub arguments_at : List (List ℕ) → List Row → List (List ℕ)
arguments_at [] rows = []
arguments_at (name ∷ names) rows = with_argument (first_of name rows) (arguments_at names rows)

pub record IsServeIn (rows : List Row) (service : PlainService) : Type 0 where
  pub port_is : IsPresentNumberText 1 MAX_PORT (first_of (codes "port") rows) service.port
  pub connections_is : IsPresentNumberText 1 MAX_CONNECTIONS (first_of (codes "connections") rows) service.connections
  pub store_is : IsTextOrNone IsFile (first_of (codes "store") rows) service.store
  pub base_is : IsTextOrNone IsBase (first_of (codes "base") rows) service.base
  pub collections_are : AreCollectionsOf (arguments_at collection_names rows) service.collections
  pub some : 1 ≤ length service.collections
  pub differ : IsDistinct nat_eq (map (λ collection. collection.id) service.collections)

-- the command of a request
abbrev pub command_name : PlainRequest → List ℕ
command_name (Match whole retained_limit pattern) = codes "match"
command_name Check = codes "check"
command_name (Show pattern) = codes "show"
command_name (Make seed count) = codes "make"
command_name (Serve service) = codes "serve"

-- these rows ask for it
abbrev pub IsAskedBy : List Row → PlainRequest → Type 0
IsAskedBy rows (Match whole retained_limit pattern) = IsMatchIn rows whole retained_limit pattern
IsAskedBy rows Check = Unit {0}
IsAskedBy rows (Show pattern) = first_of (codes "pattern") rows ≡ Some pattern
IsAskedBy rows (Make seed count) = IsMakeIn rows seed count
IsAskedBy rows (Serve service) = IsServeIn rows service

-- that command, with these rows, asks for it
abbrev pub IsAskedIn : List ℕ → List Row → PlainRequest → Type 0
IsAskedIn command rows request = (command ≡ command_name request) × IsAskedBy rows request
