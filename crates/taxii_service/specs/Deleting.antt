-- What a request to delete an object does (TAXII 2.1, section 5.7).
use Rattle.std.specs.Prelude.{◌≡◌, ℕ, List, [], ◌∷◌, codes, unwrap_or, IfSome}
use Rattle.std.specs.List.{Contains}
use Rattle.stix_ids.specs.declared.id.Id.{Id}
use Rattle.stix_ids.specs.declared.pick.Pick.{Pick}
use Rattle.stix_ids.specs.declared.pick.Pick.TheVariants.{All}
use Rattle.taxii_rows.specs.StoreState.{StoreState}
use Rattle.taxii_rows.specs.Keeper.{without}
use Rattle.taxii_routes.specs.declared.query.Query.{Query}
use Rattle.taxii_store.specs.Deleting.{AreDatesTaken}
use Rattle.taxii_service.specs.declared.state.State.{State}

-- the versions that are deleted: all where the query names none
abbrev pub deleted_picks : Query → List Pick
deleted_picks query = unwrap_or query.picks (All ∷ [])

-- the query may be met by an object of STIX 2.1
abbrev pub AllowsStandard : Query → Type 0
AllowsStandard query = IfSome query.specs (λ specs. Contains specs (codes "2.1"))

-- the dates of the rows that a request deletes: none where the query asks for another version of
-- the standard
pub record AreDeleted (store : StoreState) (collection : ℕ) (id : Id) (query : Query) (dates : List ℕ) : Type 0 where
  pub taken : AllowsStandard query → AreDatesTaken store.rows collection id (deleted_picks query) dates
  pub none : (AllowsStandard query → ⊥) → dates ≡ []

-- the state without the rows of these dates
abbrev pub without_dates : List ℕ → State → State
without_dates dates before = record { library = without dates before.library; statuses = before.statuses }
