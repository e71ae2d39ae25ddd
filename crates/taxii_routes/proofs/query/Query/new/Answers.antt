use Rattle.std.proofs.Common.{refl}
use Rattle.taxii_routes.proofs.FieldLemmas.{asks_nothing}
use Rattle.taxii_routes.proofs.query.Query.new.Goals as goal

pub returns : goal.returns
returns c = asks_nothing _ refl refl refl refl refl refl refl
