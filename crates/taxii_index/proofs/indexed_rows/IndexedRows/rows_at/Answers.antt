use Rattle.std.proofs.Common.{◌∙◌, [], ◌∷◌, Bor, Vec, map, option_map, sym, ap}
use Rattle.std.specs.declared.alloc.Global.{Global}
use Rattle.std.proofs.lemmas.List.{map-append}
use Rattle.taxii_rows.specs.declared.stored_row.StoredRow.{StoredRow}
use Rattle.taxii_rows.specs.Identity.{is_row_of}
use Rattle.taxii_index.specs.Index.{row_where}
use Rattle.taxii_index.proofs.ObjectLemmas.{one_more, none_more}
use Rattle.taxii_index.proofs.indexed_rows.IndexedRows.rows_at.Goals.{in-Some+in_ok-push, in_default}
use Rattle.taxii_index.proofs.indexed_rows.IndexedRows.rows_at.Goals as goal

pub loop-date-preserved : goal.loop-date-preserved
loop-date-preserved c =
    let now = λ (row : Bor StoredRow). row.now in
    let h = row_where (is_row_of c.args.collection c.args.id.now) c.args.self.now in
    let dates = c.args.dates.now in
    let i = c.loop-date.date-index in
    elim c.match-row_of.branch [
      | in-Some+in_ok-push w ↦
          ap (map now) (ap (λ (v : Vec (Bor StoredRow) Global). v.items) w.found-is ∙ w.in_ok-push.ensures.items) ∙ map-append now c.loop-date.found.items (_ ∷ [])
          ∙ one_more h dates i _ (map now c.loop-date.found.items) c.loop-date-test.true (ap (option_map now) (sym w.in-Some.is) ∙ c.row_of.ensures) c.loop-date.invariant
      | in_default w ↦
          ap (map now) (ap (λ (v : Vec (Bor StoredRow) Global). v.items) w.found-is)
          ∙ none_more h dates i (map now c.loop-date.found.items) c.loop-date-test.true w.in_default.ensures c.loop-date.invariant
    ]
