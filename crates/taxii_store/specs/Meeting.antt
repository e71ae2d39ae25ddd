-- When a row of a store meets a query (TAXII 2.1, section 3.4).
use Rattle.std.specs.Prelude.{◌≡◌, ℕ, ◌*◌, ◌<◌, pos, ◌<ℤ◌, List, [], ◌∷◌, codes, Option, unwrap_or, IfSome}
use Rattle.std.specs.List.{Contains}
use Rattle.stix_ids.specs.declared.id.Id.{Id}
use Rattle.stix_ids.specs.declared.pick.Pick.{Pick}
use Rattle.stix_ids.specs.declared.pick.Pick.TheVariants.{Last}
use Rattle.taxii_rows.specs.declared.stored_row.StoredRow.{StoredRow}
use Rattle.taxii_rows.specs.Picking.{IsPicked}
use Rattle.taxii_routes.specs.declared.query.Query.{Query}

-- the versions that a query asks for: the last of each object where it names none
abbrev pub picks_of : Query → List Pick
picks_of query = unwrap_or query.picks (Last ∷ [])

-- what is asked of a row by itself: its collection, the one object of the path, when it was added,
-- its identifier, its type, and the version of the standard, which is 2.1
pub record IsAskedFor (collection : ℕ) (only : Option Id) (query : Query) (row : StoredRow) : Type 0 where
  pub its : row.collection ≡ collection
  pub one : IfSome only (λ id. row.id ≡ id)
  pub added : IfSome query.added_after (λ instant. instant <ℤ pos (1000 * row.date))
  pub next : IfSome query.next (λ date. date < row.date)
  pub ids : IfSome query.ids (λ ids. Contains ids row.id)
  pub kinds : IfSome query.kinds (λ kinds. Contains kinds row.id.kind)
  pub specs : IfSome query.specs (λ specs. Contains specs (codes "2.1"))

-- the row is requested, and it is picked among the rows of its object
pub record MeetsQuery (rows : List StoredRow) (collection : ℕ) (only : Option Id) (query : Query) (row : StoredRow) : Type 0 where
  pub asked : IsAskedFor collection only query row
  pub picked : IsPicked (picks_of query) rows row
