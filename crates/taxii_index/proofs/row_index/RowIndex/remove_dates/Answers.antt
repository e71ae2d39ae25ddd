use Rattle.taxii_index.proofs.row_index.RowIndex.remove_dates.Goals as goal

pub returns-else-dates-rows : goal.returns-else-dates-rows
returns-else-dates-rows c = c.remove_many.ensures c.args.rows.now
