use Rattle.std.proofs.Common.{◌≡◌, ℕ, Some, None, ap, ◌∙◌}
use Rattle.std.proofs.lemmas.List.Elements.{All-contains}
use Rattle.taxii_rows.specs.Keeper.{row_at}
use Rattle.taxii_bodies.specs.Times.{IsWritable}
use Rattle.taxii_service.proofs.RowLemmas.{row_found, among_new, success_held, success_new}
use Rattle.taxii_service.proofs.outcomes.detail_of.Goals as goal

pub success_detail-requires : goal.success_detail-requires
success_detail-requires c =
    let store = c.args.library.now in
    let found : Some c.in-Some.row.now ≡ row_at c.date_of.result store.rows = c.in-Some.ensures in
    let there = (row_found c.date_of.result store.rows c.in-Some.row.now found).0 in
    All-contains IsWritable store.rows c.in-Some.row.now (c.sound_rows_are_writable.ensures.state store c.rows.ensures.sound) there

pub new_detail-requires : goal.new_detail-requires
new_detail-requires c =
    let store = c.args.library.now in
    let none : None ≡ row_at c.date_of.result store.rows = c.in-None.ensures in
    record { row = among_new store.rows c.args.planned.now.rows c.args.outcome (none ∙ ap (λ (date : ℕ). row_at date store.rows) c.date_of.ensures) c.requires.row }

pub returns-in-Some : goal.returns-in-Some
returns-in-Some c =
    let store = c.args.library.now in
    let found : Some c.in-Some.row.now ≡ row_at c.date_of.result store.rows = c.in-Some.ensures in
    success_held store.rows c.args.planned.now.rows c.args.outcome c.in-Some.row.now c.success_detail.result (found ∙ ap (λ (date : ℕ). row_at date store.rows) c.date_of.ensures) c.success_detail.ensures

pub returns-in-None : goal.returns-in-None
returns-in-None c = success_new c.args.library.now.rows c.args.planned.now.rows c.args.outcome c.new_detail.result c.new_detail.ensures
