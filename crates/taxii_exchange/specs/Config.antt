-- What a server serves, and what the texts in a path name there.
use Rattle.std.specs.Prelude.{ℕ, List, Option, find, true}
use Rattle.taxii_bodies.specs.declared.collections.CollectionInfo.{CollectionInfo}
use Rattle.taxii_bodies.specs.Collections.{has_name}
use Rattle.taxii_exchange.specs.declared.rights.Rights.{Rights}

-- the collection that a text names
abbrev pub collection_named : List ℕ → List CollectionInfo → Option CollectionInfo
collection_named text infos = find (has_name text) infos

-- what a collection allows
abbrev pub rights_of : CollectionInfo → Rights
rights_of info = record { read = info.can_read; write = info.can_write }

-- everything
abbrev pub all_rights : Rights
all_rights = record { read = true; write = true }
