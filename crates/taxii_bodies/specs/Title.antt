-- The body of an error (TAXII 2.1, section 3.6.1): its title.
use Rattle.std.specs.Prelude.{ℕ, List, codes}
use Rattle.serde_json.specs.Data.{Data, string, object, no_members, member}

-- {"title":T}
abbrev pub title_data : List ℕ → Data
title_data title = object (member (codes "title") (string title) no_members)
