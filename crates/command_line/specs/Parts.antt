-- The parts of a command's arguments: options with and without a value, and positional arguments.
use Rattle.std.specs.Prelude.{◌≡◌, ◌≢◌, ◌⊎◌, ℕ, List, [], ◌∷◌, ◌++◌, Contains, map, Some, slice_get, codes}

-- the parts of a command's arguments, one by one
pub data ArgumentPart : Type 0 where
  -- a flag, by its name
  Flag : (name : List ℕ) → ArgumentPart
  -- an option with its value
  Valued : (name value : List ℕ) → ArgumentPart
  -- any other argument
  Position : (argument : List ℕ) → ArgumentPart

-- the options that a command has, by their names
pub record Options : Type 0 where
  pub flags : List (List ℕ)
  pub valued : List (List ℕ)

-- an argument that is no option: `-` itself, or one that does not begin with `-` (45)
abbrev pub IsNoOption : List ℕ → Type 0
IsNoOption argument = (argument ≡ codes "-") ⊎ (slice_get argument 0 ≢ Some 45)

-- these are the parts of the arguments, in order
pub data AreArgumentParts (options : Options) : List (List ℕ) → List ArgumentPart → Type 0 where
  none : AreArgumentParts options [] []
  -- --NAME
  flag : {name : List ℕ} {arguments : List (List ℕ)} {parts : List ArgumentPart} → Contains options.flags name
      → AreArgumentParts options arguments parts → AreArgumentParts options ((codes "--" ++ name) ∷ arguments) (Flag name ∷ parts)
  -- --NAME=VALUE
  joined : {name value : List ℕ} {arguments : List (List ℕ)} {parts : List ArgumentPart} → Contains options.valued name
      → AreArgumentParts options arguments parts → AreArgumentParts options ((codes "--" ++ (name ++ (codes "=" ++ value))) ∷ arguments) (Valued name value ∷ parts)
  -- --NAME VALUE
  apart : {name value : List ℕ} {arguments : List (List ℕ)} {parts : List ArgumentPart} → Contains options.valued name → IsNoOption value
      → AreArgumentParts options arguments parts → AreArgumentParts options ((codes "--" ++ name) ∷ value ∷ arguments) (Valued name value ∷ parts)
  position : {argument : List ℕ} {arguments : List (List ℕ)} {parts : List ArgumentPart} → IsNoOption argument
      → AreArgumentParts options arguments parts → AreArgumentParts options (argument ∷ arguments) (Position argument ∷ parts)
  -- after the first `--`, which is no part itself, each argument is positional
  rest : {arguments : List (List ℕ)} → AreArgumentParts options (codes "--" ∷ arguments) (map Position arguments)

-- the positional arguments among the parts, in order
abbrev pub positions : List ArgumentPart → List (List ℕ)
positions [] = []
positions (Position argument ∷ parts) = argument ∷ positions parts
positions (Flag name ∷ parts) = positions parts
positions (Valued name value ∷ parts) = positions parts
