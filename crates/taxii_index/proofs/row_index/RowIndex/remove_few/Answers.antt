use Rattle.std.proofs.Common.{List, ℕ, take, sym, subst}
use Rattle.std.proofs.lemmas.List.{take_more, take_all}
use Rattle.taxii_index.specs.Index.{IsIndexBut}
use Rattle.taxii_index.proofs.IndexLemmas.{index_yet, index_left}
use Rattle.taxii_index.proofs.row_index.RowIndex.remove_few.Goals as goal

pub loop-date-init : goal.loop-date-init
loop-date-init c = λ index. index_yet c.args.rows.now c.args.self.now index

pub loop-date-preserved : goal.loop-date-preserved
loop-date-preserved c = λ index.
    let dates = c.args.dates.now in
    let i = c.loop-date.date-index in
    subst (λ (gone : List ℕ). IsIndexBut gone c.args.rows.now c.remove_date.new.self) (sym (take_more dates i _ c.loop-date-test.true)) (c.remove_date.ensures (take i dates) (c.loop-date.invariant index))

pub returns : goal.returns
returns c = λ index.
    let dates = c.args.dates.now in
    index_left dates c.args.rows.now c.loop-date.self
    (subst (λ (gone : List ℕ). IsIndexBut gone c.args.rows.now c.loop-date.self) (take_all c.loop-date.date-index dates c.loop-date-test.false) (c.loop-date.invariant index))
