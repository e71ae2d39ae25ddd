use Rattle.std.proofs.Common.{List, IsTrue, subst}
use Rattle.taxii_rows.specs.declared.stored_row.StoredRow.{StoredRow}
use Rattle.taxii_store.specs.inner.Candidates.{IsCutAt}
use Rattle.taxii_store.proofs.CutLemmas.{candidates_behind, none_of_another}
use Rattle.taxii_store.proofs.candidates.candidates.Goals as goal

pub returns-then-asks_for_version-clause-candidates : goal.returns-then-asks_for_version-clause-candidates
returns-then-asks_for_version-clause-candidates c =
    candidates_behind c.args.query.now c.args.library.now.rows c.rows_after.result.now c.cursor.result c.rows-rows.ensures.sound.ascend
    (subst (λ (rows : List StoredRow). IsCutAt c.cursor.result rows c.rows_after.result.now) c.rows-rows.ensures.rows c.rows_after.ensures)
    c.cursor.ensures (c.asks_for_version.ensures.0 c.if-asks_for_version.true)

pub returns-else-asks_for_version-clause-candidates : goal.returns-else-asks_for_version-clause-candidates
returns-else-asks_for_version-clause-candidates c =
    none_of_another c.args.query.now c.args.library.now.rows c.rows-rows.result.now c.rows-rows.ensures.rows
    (λ version. let wrong = subst IsTrue c.if-asks_for_version.false (c.asks_for_version.ensures.1 version) in absurd (cc wrong))
