use Rattle.taxii_store.proofs.PickLemmas.{selected}
use Rattle.taxii_store.proofs.pick_set.PickSet.selects.Goals as goal

pub returns : goal.returns
returns c = λ picks has. let by = selected picks c.args.self.now c.args.library.now.rows c.args.row.now has in (λ holds. by.0 (c.selects_one.ensures.0 holds), λ picked. c.selects_one.ensures.1 (by.1 picked))
