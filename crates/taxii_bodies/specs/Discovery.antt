-- The bodies of the discovery (TAXII 2.1, section 4.1.1) and of the API root (section 4.2.1).
use Rattle.std.specs.Prelude.{ℕ, List, ◌++◌, codes, Option, None, Some}
use Rattle.serde_json.specs.Data.{Data, unsigned, number, string, array, object, no_items, item, no_members, member}

-- the URL of the one API root, under the base URL
abbrev pub root_url : List ℕ → List ℕ
root_url base = base ++ codes "/api/"

-- the title of the server, and where its base URL is known the URL of its API root
abbrev pub discovery_data : Option (List ℕ) → Data
discovery_data None = object (member (codes "title") (string (codes "STIX pattern and TAXII server")) no_members)
discovery_data (Some base) = object
    (member (codes "api_roots") (array (item (string (root_url base)) no_items))
    (member (codes "default") (string (root_url base))
    (member (codes "title") (string (codes "STIX pattern and TAXII server")) no_members)))

-- the title of the API root, its version of TAXII, and the most bytes that a request's body may
-- have
abbrev pub root_data : Data
root_data = object
    (member (codes "max_content_length") (number (unsigned 8_388_608))
    (member (codes "title") (string (codes "API root"))
    (member (codes "versions") (array (item (string (codes "application/taxii+json;version=2.1")) no_items)) no_members)))
