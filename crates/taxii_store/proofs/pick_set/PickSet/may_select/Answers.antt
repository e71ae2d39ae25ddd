use Rattle.taxii_store.proofs.PickLemmas.{selected}
use Rattle.taxii_store.proofs.pick_set.PickSet.may_select.Goals as goal

pub returns : goal.returns
returns c = λ picks has picked. c.may_select_one.ensures ((selected picks c.args.self.now c.args.library.now.rows c.args.row.now has).1 picked)
