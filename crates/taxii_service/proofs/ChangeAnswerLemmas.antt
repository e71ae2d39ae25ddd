-- What holds of a refusal holds of the answer that hands it on; an addition has an outcome for each object.
use Rattle.std.proofs.Common.{◌≡◌, ℕ, suc, ◌+◌, List, [], ◌∷◌, ◌++◌, length, Option, Some, None, MatchOption, Result, Ok, Err, sym, subst, ap, ◌∙◌}
use Rattle.std.specs.Prelude.{IfErr, IsErrAnd}
use Rattle.taxii_rows.specs.declared.stored_row.StoredRow.{StoredRow}
use Rattle.taxii_rows.specs.declared.described.Described.{Described}
use Rattle.taxii_rows.specs.Described.{stored_row_of}
use Rattle.taxii_index.specs.Presence.{duplicate_of}
use Rattle.taxii_store.specs.declared.add_outcome.AddOutcome.{AddOutcome}
use Rattle.taxii_store.specs.declared.add_outcome.AddOutcome.TheVariants.{Added, Present}
use Rattle.taxii_store.specs.Addition.{AddsObjects}

pub handed_on : {T E : Type 0} (answer : Result T E) (refusal : E) (Rule : E → Type 0)
    → IsErrAnd answer (λ given. given ≡ refusal) → Rule refusal → IfErr answer Rule
handed_on (Ok value) refusal Rule given its = tt
handed_on (Err other) refusal Rule given its = subst Rule (sym given) its

pub as_many : (collection date : ℕ) (rows : List StoredRow) (objects : List Described) (outcomes : List AddOutcome) (new : List StoredRow)
    → AddsObjects collection date rows objects outcomes new → length outcomes ≡ length objects
as_many collection date rows [] outcomes new adds = ap length adds.0
as_many collection date rows (object ∷ objects) outcomes new adds = next (duplicate_of collection object rows) adds
    (λ others it. as_many collection date rows objects others new it)
    (λ others more it. as_many collection (date + 1) (rows ++ stored_row_of object date collection ∷ []) objects others more it)
  where
    next : (found : Option StoredRow)
        → MatchOption found
        ((others : List AddOutcome) × (more : List StoredRow)
        × (outcomes ≡ Added date ∷ others) × (new ≡ stored_row_of object date collection ∷ more)
        × AddsObjects collection (date + 1) (rows ++ stored_row_of object date collection ∷ []) objects others more)
        (λ row. (others : List AddOutcome) × (outcomes ≡ Present row.date ∷ others) × AddsObjects collection date rows objects others new)
        → ((others : List AddOutcome) → AddsObjects collection date rows objects others new → length others ≡ length objects)
        → ((others : List AddOutcome) (more : List StoredRow) → AddsObjects collection (date + 1) (rows ++ stored_row_of object date collection ∷ []) objects others more → length others ≡ length objects)
        → length outcomes ≡ length (object ∷ objects)
    next (Some row) (others, out_is, it) again behind = ap length out_is ∙ ap (λ (n : ℕ). suc n) (again others it)
    next None (others, more, out_is, new_is, it) again behind = ap length out_is ∙ ap (λ (n : ℕ). suc n) (behind others more it)
