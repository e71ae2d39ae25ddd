use Rattle.std.proofs.Common.{◌≡◌, ℕ, suc, ◌+◌, List, Bor, map, take, IsTrue, sym, subst, ◌∙◌, arith}
use Rattle.std.proofs.lemmas.List.{take_all, length-map}
use Rattle.taxii_rows.specs.declared.stored_row.StoredRow.{StoredRow}
use Rattle.taxii_index.specs.Index.{AreRowsOf}
use Rattle.taxii_index.proofs.ListLemmas.{lent_at}
use Rattle.taxii_store.proofs.DeleteLemmas.{AreTakenFrom, none_taken, taken_more, taken_same, all_taken}
use Rattle.taxii_store.proofs.library.Library.plan_delete.Goals.{then-is_selected+in_ok-push, else-is_selected}
use Rattle.taxii_store.proofs.library.Library.plan_delete.Goals as goal

pub loop-row-init : goal.loop-row-init
loop-row-init c = none_taken c.args.self.now.rows c.args.collection c.args.id.now c.args.picks.now c.new-dates.result c.new-dates.ensures

pub is_selected-requires : goal.is_selected-requires
is_selected-requires c =
    let here = lent_at c.as_slice-row-items.result.now c.loop-row.row-index c.row-item.result c.loop-row-test.true c.row-item.is in
    let are = subst (λ (lent : List (Bor StoredRow)). AreRowsOf c.args.collection c.args.id.now c.args.self.now.rows (map (λ row. row.now) lent)) (sym c.as_slice-row-items.ensures.value) c.in_ok-rows.ensures in
    ((are.each c.row-item.result.now).0 (c.loop-row.row-index, here.0, sym here.1)).0

pub loop-row-preserved : goal.loop-row-preserved
loop-row-preserved c =
    let rows = c.args.self.now.rows in
    let collection = c.args.collection in
    let id = c.args.id.now in
    let picks = c.args.picks.now in
    let i = c.loop-row.row-index in
    let lent = c.as_slice-row-items.result.now in
    let walked = map (λ (row : Bor StoredRow). row.now) lent in
    let row = c.row-item.result.now in
    let here = lent_at lent i c.row-item.result c.loop-row-test.true c.row-item.is in
    let are = subst (λ (lent : List (Bor StoredRow)). AreRowsOf collection id rows (map (λ row. row.now) lent)) (sym c.as_slice-row-items.ensures.value) c.in_ok-rows.ensures in
    let its = ((are.each row).0 (i, here.0, sym here.1)).1 in
    let selected = c.is_selected.ensures picks c.in_ok-set.ensures in
    let next : suc i ≡ i + 1 = omega arith in
    subst (λ (n : ℕ). AreTakenFrom rows collection id picks (take n walked) c.if-is_selected.dates) next
    (elim c.if-is_selected.branch [
      | then-is_selected+in_ok-push w ↦
          subst (AreTakenFrom rows collection id picks (take (suc i) walked)) (sym (w.dates-is ∙ w.in_ok-push.ensures.ok))
          (taken_more rows walked collection id picks i row c.loop-row.dates are.ascend here.0 here.1 c.loop-row.invariant
          (record { its = its; picked = selected.0 w.if-is_selected.true }))
      | else-is_selected w ↦
          subst (AreTakenFrom rows collection id picks (take (suc i) walked)) (sym w.dates-is)
          (taken_same rows walked collection id picks i row c.loop-row.dates here.0 here.1 c.loop-row.invariant
          (λ taken. let wrong = subst IsTrue w.if-is_selected.false (selected.1 taken.picked) in absurd (cc wrong)))
    ])

pub returns : goal.returns
returns c =
    let rows = c.args.self.now.rows in
    let lent = c.as_slice-row-items.result.now in
    let walked = map (λ (row : Bor StoredRow). row.now) lent in
    let are = subst (λ (lent : List (Bor StoredRow)). AreRowsOf c.args.collection c.args.id.now rows (map (λ row. row.now) lent)) (sym c.as_slice-row-items.ensures.value) c.in_ok-rows.ensures in
    all_taken rows walked c.args.collection c.args.id.now c.args.picks.now c.loop-row.dates are
    (subst (λ (part : List StoredRow). AreTakenFrom rows c.args.collection c.args.id.now c.args.picks.now part c.loop-row.dates)
    (take_all c.loop-row.row-index walked (omega (arith, c.loop-row-test.false, length-map lent (λ (row : Bor StoredRow). row.now)))) c.loop-row.invariant)
