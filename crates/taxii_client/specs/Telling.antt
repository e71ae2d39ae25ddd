-- The output for the entries of pages: valid ones are written, and invalid ones counted.
use Rattle.std.specs.Prelude.{⊤, ℕ, Bool, true, false, List, [], ◌++◌, codes, flat_map, count_by, sum_by}
use Rattle.serde_json.specs.Written.{compact_text}
use Rattle.stix_json.specs.DataOf.{data_of}
use Rattle.stix_json.specs.Ordered.{IsOrdered}
use Rattle.stix_json.specs.declared.entry.Entry.{Entry}
use Rattle.stix_json.specs.declared.entry.Entry.TheVariants.{Good, Bad}
use Rattle.taxii_client.specs.Pulls.{Page}

-- the compact text of a valid entry, as a line; of a bad one nothing
abbrev pub line_of : Entry → List ℕ
line_of (Good json) = compact_text (data_of json) ++ codes "\n"
line_of (Bad refusal) = []

-- of a page's entries, in order
abbrev pub told_of : List Entry → List ℕ
told_of entries = flat_map line_of entries

-- of pages, in order
abbrev pub told_of_pages : {L : Type 0} → List (Page L) → List ℕ
told_of_pages pages = flat_map (λ page. told_of page.envelope.entries) pages

abbrev pub is_bad : Entry → Bool
is_bad (Good json) = false
is_bad (Bad refusal) = true

-- how many entries of a page are bad
abbrev pub bad_in : List Entry → ℕ
bad_in entries = count_by is_bad entries

-- of pages
abbrev pub bad_in_pages : {L : Type 0} → List (Page L) → ℕ
bad_in_pages pages = sum_by (λ page. bad_in page.envelope.entries) pages

-- the names in a valid entry are in order
abbrev pub IsWritableEntry : Entry → Type 0
IsWritableEntry (Good json) = IsOrdered (data_of json)
IsWritableEntry (Bad refusal) = ⊤
