-- The resources of a server (TAXII 2.1, sections 4 and 5), what a client may do with them, and
-- which methods they allow.
use Rattle.std.specs.Prelude.{List, ℕ}
use Rattle.stix_ids.specs.declared.id.Id.{Id}
use Rattle.stix_ids.specs.PartsOf.{id_of}
use Rattle.taxii_exchange.specs.declared.answer.Allow.{Allow}
use Rattle.taxii_exchange.specs.declared.answer.Allow.TheVariants.{Get, GetPost, GetDelete}
use Rattle.taxii_bodies.specs.declared.collections.CollectionInfo.{CollectionInfo}
use Rattle.taxii_exchange.specs.declared.rights.Rights.{Rights}
use Rattle.taxii_exchange.specs.Config.{rights_of, all_rights}
use Rattle.taxii_service.specs.declared.resource.Resource.{Resource as Found}
use Rattle.taxii_service.specs.declared.resource.Resource.TheVariants as found

-- a resource; a status report by its identifier
pub data Resource : Type 0 where
  Discovery : Resource
  Root : Resource
  Status : List ℕ → Resource
  Collections : Resource
  Collection : CollectionInfo → Resource
  Manifest : CollectionInfo → Resource
  Objects : CollectionInfo → Resource
  Object : CollectionInfo → Id → Resource
  Versions : CollectionInfo → Id → Resource

-- the resource that a value of the program stands for
abbrev pub resource_of : Found → Resource
resource_of found.Discovery = Discovery
resource_of found.Root = Root
resource_of (found.Status id) = Status id.now
resource_of found.Collections = Collections
resource_of (found.Collection info) = Collection info.now
resource_of (found.Manifest info) = Manifest info.now
resource_of (found.Objects info) = Objects info.now
resource_of (found.Object info id) = Object info.now (id_of id)
resource_of (found.Versions info id) = Versions info.now (id_of id)

-- the methods that a resource allows
abbrev pub allowed : Resource → Allow
allowed Discovery = Get
allowed Root = Get
allowed (Status id) = Get
allowed Collections = Get
allowed (Collection info) = Get
allowed (Manifest info) = Get
allowed (Objects info) = GetPost
allowed (Object info id) = GetDelete
allowed (Versions info id) = Get

-- what a client may do with a resource
abbrev pub rights_to : Resource → Rights
rights_to Discovery = all_rights
rights_to Root = all_rights
rights_to (Status id) = all_rights
rights_to Collections = all_rights
rights_to (Collection info) = all_rights
rights_to (Manifest info) = rights_of info
rights_to (Objects info) = rights_of info
rights_to (Object info id) = rights_of info
rights_to (Versions info id) = rights_of info
