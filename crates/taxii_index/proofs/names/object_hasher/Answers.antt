use Rattle.std.proofs.Common.{ap, ◌∙◌, List, ℕ}
use Rattle.taxii_index.specs.Names.{id_of_number, fed_with}
use Rattle.taxii_index.proofs.names.object_hasher.Goals as goal

pub returns : goal.returns
returns c = c.parts_hasher.ensures ∙ ap (λ (kind : List ℕ). fed_with c.args.secret c.args.collection (id_of_number c.args.id.now.number kind)) c.as_str.ensures
