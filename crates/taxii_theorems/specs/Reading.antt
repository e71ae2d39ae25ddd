-- What a client reads of a page that a server wrote (TAXII 2.1, section 3.7).
use Rattle.std.specs.Prelude.{◌≡◌, ℕ, Bool, List, option_map, is_some, flat_map, codes, ◌++◌}
use Rattle.stix_json.specs.declared.envelope.Envelope.{Envelope}
use Rattle.taxii_rows.specs.declared.stored_row.StoredRow.{StoredRow}
use Rattle.taxii_bodies.specs.Envelope.{next_of, next_text}
use Rattle.taxii_client.specs.Telling.{told_of, bad_in}

-- the stored texts of some rows, a line each
abbrev pub stored_lines : List StoredRow → List ℕ
stored_lines rows = flat_map (λ row. row.body ++ codes "\n") rows

-- the page is parsed as what it was made of: its entries are valid, and their texts are the rows'
-- stored texts; `more` is set if a next page was announced, and `next` is its cursor
pub record IsPageReadAs (rows : List StoredRow) (more : Bool) (envelope : Envelope) : Type 0 where
  pub lines : told_of envelope.entries ≡ stored_lines rows
  pub none_bad : bad_in envelope.entries ≡ 0
  pub more_is : envelope.more ≡ is_some (next_of rows more)
  pub next_is : envelope.next ≡ option_map next_text (next_of rows more)
