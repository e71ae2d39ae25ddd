use Rattle.std.proofs.Common.{List, sym, subst}
use Rattle.taxii_rows.specs.declared.stored_row.StoredRow.{StoredRow}
use Rattle.taxii_index.specs.Hints.{AreTrueOf}
use Rattle.taxii_index.proofs.HintLemmas.{true_of_more}
use Rattle.taxii_index.proofs.hinted_rows.HintedRows.append.Goals as goal

pub invariant_of-self-2 : goal.invariant_of-self-2
invariant_of-self-2 c =
    let hints = c.self.inside.hints.hints.items in
    subst (λ (rows : List StoredRow). AreTrueOf rows hints) (sym c.in_ok-append.ensures.ok) (true_of_more c.self.inside.rows c.args.rows.items hints c.self.invariant)
