use Rattle.std.proofs.Common.{◌≡◌, filter, not, ap, rules}
use Rattle.std.proofs.lemmas.Fn.{filter_same}
use Rattle.taxii_rows.specs.declared.stored_row.StoredRow.{StoredRow}
use Rattle.taxii_rows.specs.Keeper.{is_date_in}
use Rattle.taxii_memory.specs.MemoryKeeper.{MemoryState}
use Rattle.taxii_rows.proofs.AscendLemmas.{ascend-filter}
use Rattle.taxii_memory.proofs.KeptLemmas.{state_without}
use Rattle.taxii_memory.proofs.memory_keeper.MemoryKeeperKeeper.remove.Goals as goal

pub invariant_of-self-2 : goal.invariant_of-self-2
invariant_of-self-2 c =
    let test = λ (row : StoredRow). not (is_date_in c.args.dates.now row.date) in
    let left : c.retain.new.self.items ≡ filter test c.self.inside.rows.items = filter_same _ test _ (λ x b f k. search rules) _ _ c.retain.ensures.filtered in
    rw left (ascend-filter 1 test c.self.inside.rows.items c.self.invariant)

pub returns-clause-ok : goal.returns-clause-ok
returns-clause-ok c =
    let test = λ (row : StoredRow). not (is_date_in c.args.dates.now row.date) in
    let left : c.retain.new.self.items ≡ filter test c.self.inside.rows.items = filter_same _ test _ (λ x b f k. search rules) _ _ c.retain.ensures.filtered in
    state_without c.args.dates.now c.self.inside.rows.items c.retain.new.self.items c.self.inside.watermark c.args.self.now.state
    (ap (λ (keeper : MemoryState). keeper.state) c.self.view_is) left
