use Rattle.std.proofs.Common.{List, subst}
use Rattle.taxii_rows.specs.StoreState.{dates_of, AscendFrom}
use Rattle.std.proofs.lemmas.Bool.{not_from_false, false_from_ne_true}
use Rattle.taxii_rows.specs.declared.stored_row.StoredRow.{StoredRow}
use Rattle.taxii_index.specs.Hints.{AreTrueOf}
use Rattle.taxii_index.proofs.HintLemmas.{not_first}
use Rattle.taxii_index.proofs.hinted_rows.HintedRows.may_be_first.Goals as goal

pub returns : goal.returns
returns c = λ picked. not_from_false c.knows_earlier.result (false_from_ne_true c.knows_earlier.result (λ holds.
    let are = subst (λ (rows : List StoredRow). AreTrueOf rows c.self.inside.hints.hints.items) c.self.view_is c.self.invariant in
    let found = c.knows_earlier.ensures c.args.self.now are holds in
    not_first c.args.self.now c.args.row.now found.0 (subst (λ (rows : List StoredRow). AscendFrom 1 (dates_of rows)) c.self.view_is c.as_slice.ensures.ascend) c.requires found.1 picked))
