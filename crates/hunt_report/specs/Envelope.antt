-- Many sightings as one text: an object whose one property `objects` is their list. It is written
-- text by text.
use Rattle.std.specs.Prelude.{ℕ, List, [], ◌∷◌, ◌++◌, codes}
use Rattle.serde_json.specs.Data.{Data, array, object, no_members, member}
use Rattle.serde_json.specs.View.{items_of}

-- texts, each after a comma
abbrev pub comma_joined : List (List ℕ) → List ℕ
comma_joined [] = []
comma_joined (text ∷ texts) = codes "," ++ (text ++ comma_joined texts)

-- texts with a comma between each two
abbrev pub comma_separated : List (List ℕ) → List ℕ
comma_separated [] = []
comma_separated (text ∷ texts) = text ++ comma_joined texts

-- the envelope up to the last of these texts
abbrev pub opened : List (List ℕ) → List ℕ
opened texts = codes "{\"objects\":[" ++ comma_separated texts

-- the envelope of these texts
abbrev pub sightings_text : List (List ℕ) → List ℕ
sightings_text texts = opened texts ++ codes "]}"

-- the envelope of these objects, as a value
abbrev pub sightings_data : List Data → Data
sightings_data objects = object (member (codes "objects") (array (items_of objects)) no_members)
