-- The grammar of the command line: for each command, which arguments request it with which values.
use Rattle.std.specs.Prelude.{◌≡◌, ◌≢◌, ◌≤◌, ◌⊎◌, ⊤, ℕ, List, [], ◌∷◌, ◌++◌, length, map, codes, Bool, true, false, Option, Some, None, String, string_bytes, bytes_eq, nat_eq, if◌then◌else◌}
use Rattle.std.specs.List.{IsDistinct}
use Rattle.std.specs.Str.Parse.{IsNumeral, digits_value}
use Rattle.std.specs.declared.alloc.Global.{Global}
use Rattle.command_line.specs.Parts.{ArgumentPart, Flag, Valued, Position, Options, AreArgumentParts, positions}
use Rattle.match_generator.specs.declared.log.TheConstants.{MAX_SEED, MAX_COUNT}
use Rattle.stix_ids.specs.Uuid.{IsUuidOf}
use Rattle.command_line.specs.declared.numbers.TheConstants.{DEFAULT_RETAINED_LIMIT, MAX_RETAINED_LIMIT, MAX_PORT, MAX_CONNECTIONS}
use Rattle.command_line.specs.declared.collections.TheConstants.{MAX_COLLECTIONS, MAX_TITLE}
use Rattle.command_line.specs.declared.base.TheConstants.{MAX_BASE}

-- the argument_texts of the arguments
abbrev pub argument_texts : List (String Global) → List (List ℕ)
argument_texts arguments = map string_bytes arguments

-- the flags of that name
abbrev pub flags_of : List ℕ → List ArgumentPart → List (List ℕ)
flags_of name [] = []
flags_of name (Flag other ∷ parts) = if bytes_eq other name then other ∷ flags_of name parts else flags_of name parts
flags_of name (Valued other value ∷ parts) = flags_of name parts
flags_of name (Position argument ∷ parts) = flags_of name parts

-- the values that are given to the option of that name, in order
abbrev pub option_values : List ℕ → List ArgumentPart → List (List ℕ)
option_values name [] = []
option_values name (Flag other ∷ parts) = option_values name parts
option_values name (Valued other value ∷ parts) = if bytes_eq other name then value ∷ option_values name parts else option_values name parts
option_values name (Position argument ∷ parts) = option_values name parts

-- a flag occurs once, or not at all
abbrev pub IsFlag : List (List ℕ) → Bool → Type 0
IsFlag [] given = given ≡ false
IsFlag (flag ∷ []) given = given ≡ true
IsFlag (flag ∷ other ∷ flags) given = ⊥

-- a number of that text: one to ten decimal digits, and a value in the range
pub record IsNumberIn (least most : ℕ) (text : List ℕ) (number : ℕ) : Type 0 where
  pub numeral : IsNumeral 10 text
  pub short : length text ≤ 10
  pub value : digits_value 10 text ≡ number
  pub at_least : least ≤ number
  pub at_most : number ≤ most

-- the number that an option gives, or the default if it is absent
abbrev pub IsNumberOr : ℕ → ℕ → ℕ → List (List ℕ) → ℕ → Type 0
IsNumberOr usual least most [] number = number ≡ usual
IsNumberOr usual least most (text ∷ []) number = IsNumberIn least most text number
IsNumberOr usual least most (text ∷ other ∷ argument_texts) number = ⊥

-- the command, and then arguments that consist of these parts
pub record IsCalledWith (command : List ℕ) (options : Options) (arguments : List (List ℕ)) (parts : List ArgumentPart) : Type 0 where
  pub rest : List (List ℕ)
  pub line : arguments ≡ command ∷ rest
  pub are_parts : AreArgumentParts options rest parts

abbrev pub match_options : Options
match_options = record { flags = codes "whole" ∷ []; valued = codes "cap" ∷ [] }

abbrev pub no_options : Options
no_options = record { flags = []; valued = [] }

-- match [--whole] [--cap N] PATTERN
pub record IsMatchLine (arguments : List (List ℕ)) (whole : Bool) (retained_limit : ℕ) (pattern : List ℕ) : Type 0 where
  pub parts : List ArgumentPart
  pub called : IsCalledWith (codes "match") match_options arguments parts
  pub whole_is : IsFlag (flags_of (codes "whole") parts) whole
  pub retained_limit_is : IsNumberOr DEFAULT_RETAINED_LIMIT 1 MAX_RETAINED_LIMIT (option_values (codes "cap") parts) retained_limit
  pub pattern_is : positions parts ≡ pattern ∷ []

-- check
pub record IsCheckLine (arguments : List (List ℕ)) : Type 0 where
  pub parts : List ArgumentPart
  pub called : IsCalledWith (codes "check") no_options arguments parts
  pub alone : positions parts ≡ []

-- show PATTERN
pub record IsShowLine (arguments : List (List ℕ)) (pattern : List ℕ) : Type 0 where
  pub parts : List ArgumentPart
  pub called : IsCalledWith (codes "show") no_options arguments parts
  pub pattern_is : positions parts ≡ pattern ∷ []

-- make SEED COUNT
pub record IsMakeLine (arguments : List (List ℕ)) (seed count : ℕ) : Type 0 where
  pub parts : List ArgumentPart
  pub called : IsCalledWith (codes "make") no_options arguments parts
  pub seed_text : List ℕ
  pub count_text : List ℕ
  pub both : positions parts ≡ seed_text ∷ count_text ∷ []
  pub seed_is : IsNumberIn 0 MAX_SEED seed_text seed
  pub count_is : IsNumberIn 1 MAX_COUNT count_text count

-- the number that an option names, which may not be missing
abbrev pub IsNumberOf : ℕ → ℕ → List (List ℕ) → ℕ → Type 0
IsNumberOf least most [] number = ⊥
IsNumberOf least most (text ∷ []) number = IsNumberIn least most text number
IsNumberOf least most (text ∷ other ∷ argument_texts) number = ⊥

-- the well-formed value of an option, or none if it is absent
abbrev pub IsValueOrNone : (List ℕ → Type 0) → List (List ℕ) → Option (List ℕ) → Type 0
IsValueOrNone IsForm [] given = given ≡ None
IsValueOrNone IsForm (value ∷ []) given = (given ≡ Some value) × IsForm value
IsValueOrNone IsForm (value ∷ other ∷ values) given = ⊥

-- a file's name
abbrev pub IsFile : List ℕ → Type 0
IsFile name = name ≢ []

-- an absolute URL, as `http://localhost:8080`, without a trailing `/`
pub record IsBase (url : List ℕ) : Type 0 where
  pub scheme : (rest : List ℕ) × ((url ≡ codes "http://" ++ rest) ⊎ (url ≡ codes "https://" ++ rest))
  pub short : length url ≤ MAX_BASE
  pub open_ended : (front : List ℕ) → url ≢ front ++ codes "/"

-- what a client may do with a collection: `r`, read its objects; `w`, add objects; `rw`, both
abbrev pub AreRights : List ℕ → Bool → Bool → Type 0
AreRights text true false = text ≡ codes "r"
AreRights text false true = text ≡ codes "w"
AreRights text true true = text ≡ codes "rw"
AreRights text false false = ⊥

-- a collection that is to be served
pub record PlainCollection : Type 0 where
  pub id : ℕ
  pub can_read : Bool
  pub can_write : Bool
  pub title : List ℕ

-- UUID:RIGHTS:TITLE
pub record IsCollectionOf (argument : List ℕ) (collection : PlainCollection) : Type 0 where
  pub uuid : List ℕ
  pub rights : List ℕ
  pub argument_is : argument ≡ uuid ++ (codes ":" ++ (rights ++ (codes ":" ++ collection.title)))
  pub id_is : IsUuidOf uuid collection.id
  pub rights_are : AreRights rights collection.can_read collection.can_write
  pub titled : 1 ≤ length collection.title
  pub short : length collection.title ≤ MAX_TITLE

-- each argument is the collection at its index
abbrev pub AreCollectionsOf : List (List ℕ) → List PlainCollection → Type 0
AreCollectionsOf [] [] = ⊤
AreCollectionsOf [] (collection ∷ collections) = ⊥
AreCollectionsOf (argument ∷ arguments) [] = ⊥
AreCollectionsOf (argument ∷ arguments) (collection ∷ collections) = IsCollectionOf argument collection × AreCollectionsOf arguments collections

-- the service: port, number of connections, file, base URL, and collections
pub record PlainService : Type 0 where
  pub port : ℕ
  pub connections : ℕ
  pub store : Option (List ℕ)
  pub base : Option (List ℕ)
  pub collections : List PlainCollection

abbrev pub serve_options : Options
serve_options = record { flags = []; valued = codes "port" ∷ codes "connections" ∷ codes "store" ∷ codes "base" ∷ [] }

-- serve --port P --connections N [--store FILE] [--base URL] COLLECTION...
pub record IsServeLine (arguments : List (List ℕ)) (service : PlainService) : Type 0 where
  pub parts : List ArgumentPart
  pub called : IsCalledWith (codes "serve") serve_options arguments parts
  pub port_is : IsNumberOf 1 MAX_PORT (option_values (codes "port") parts) service.port
  pub connections_is : IsNumberOf 1 MAX_CONNECTIONS (option_values (codes "connections") parts) service.connections
  pub store_is : IsValueOrNone IsFile (option_values (codes "store") parts) service.store
  pub base_is : IsValueOrNone IsBase (option_values (codes "base") parts) service.base
  pub collections_are : AreCollectionsOf (positions parts) service.collections
  pub some : 1 ≤ length service.collections
  pub few : length service.collections ≤ MAX_COLLECTIONS
  pub differ : IsDistinct nat_eq (map (λ collection. collection.id) service.collections)

-- the request of a command line, without references
pub data PlainRequest : Type 0 where
  Match : (whole : Bool) (retained_limit : ℕ) (pattern : List ℕ) → PlainRequest
  Check : PlainRequest
  Show : (pattern : List ℕ) → PlainRequest
  Make : (seed count : ℕ) → PlainRequest
  Serve : (service : PlainService) → PlainRequest

-- the arguments are a command line, and ask for that
abbrev pub IsCommandLine : List (List ℕ) → PlainRequest → Type 0
IsCommandLine arguments (Match whole retained_limit pattern) = IsMatchLine arguments whole retained_limit pattern
IsCommandLine arguments Check = IsCheckLine arguments
IsCommandLine arguments (Show pattern) = IsShowLine arguments pattern
IsCommandLine arguments (Make seed count) = IsMakeLine arguments seed count
IsCommandLine arguments (Serve service) = IsServeLine arguments service
