-- The bodies of a collection (TAXII 2.1, section 5.2.1) and of the list of them (section 5.1.1).
use Rattle.std.specs.Prelude.{ℕ, List, map, codes, Bool}
use Rattle.std.specs.Str.{str_eq_ignore_ascii_case}
use Rattle.serde_json.specs.Data.{Data, boolean, string, array, object, no_items, item, no_members, member}
use Rattle.serde_json.specs.View.{items_of}
use Rattle.stix_ids.specs.Uuid.{uuid_text}
use Rattle.taxii_bodies.specs.declared.collections.CollectionInfo.{CollectionInfo}

-- what a collection says of itself
abbrev pub collection_data : CollectionInfo → Data
collection_data info = object
    (member (codes "can_read") (boolean info.can_read)
    (member (codes "can_write") (boolean info.can_write)
    (member (codes "id") (string (uuid_text info.id))
    (member (codes "media_types") (array (item (string (codes "application/stix+json;version=2.1")) no_items))
    (member (codes "title") (string info.title) no_members)))))

-- the collections in their order
abbrev pub collections_data : List CollectionInfo → Data
collections_data infos = object (member (codes "collections") (array (items_of (map collection_data infos))) no_members)

-- whether the text is the collection's UUID, in hex digits of either case
abbrev pub has_name : List ℕ → CollectionInfo → Bool
has_name text info = str_eq_ignore_ascii_case text (uuid_text info.id)
