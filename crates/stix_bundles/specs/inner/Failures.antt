-- For private clauses: the first failure that the code finds, in terms of FailsAt.
use Rattle.std.specs.Prelude.{ℕ, List, [], ◌∷◌, codes}
use Rattle.serde_json.specs.Data.{Data}
use Rattle.stix_json.specs.Walk.{index_part}
use Rattle.stix_bundles.specs.declared.outline.Failure.{Failure}
use Rattle.stix_bundles.specs.declared.outline.Failure.TheVariants.{NoObject, NoType, NoId, NoList, NoMember}
use Rattle.stix_bundles.specs.Bundle.{IsListOf, IsFirstNoObject}

-- the parts of the path to the value that fails
abbrev pub failed_parts : Failure → List (List ℕ)
failed_parts NoObject = []
failed_parts NoType = codes "type" ∷ []
failed_parts NoId = codes "id" ∷ []
failed_parts NoList = codes "objects" ∷ []
failed_parts (NoMember at) = codes "objects" ∷ index_part at ∷ []

-- the failure in the value of `objects`
abbrev pub FailsInObjects : Data → Failure → Type 0
FailsInObjects value NoObject = ⊥
FailsInObjects value NoType = ⊥
FailsInObjects value NoId = ⊥
FailsInObjects value NoList = (members : List Data) → ¬ IsListOf value members
FailsInObjects value (NoMember at) = (members : List Data) × IsListOf value members × IsFirstNoObject members at

-- the failure in a list of members
abbrev pub FailsInMembers : List Data → Failure → Type 0
FailsInMembers members NoObject = ⊥
FailsInMembers members NoType = ⊥
FailsInMembers members NoId = ⊥
FailsInMembers members NoList = ⊥
FailsInMembers members (NoMember at) = IsFirstNoObject members at
