-- A Many is of another kind.
use Rattle.std.proofs.Common.{◌∙◌, ap, map}
use Rattle.std.specs.Rc.{rc_value}
use Rattle.match_bindings.specs.BindTree.{tree_of}
use Rattle.match_bindings.specs.inner.Kinds.{is_pair}
use Rattle.match_bindings.proofs.ManyLemmas.{pair_many}
use Rattle.match_bindings.proofs.BindTreeLemmas.{tree_many}
use Rattle.match_bindings.proofs.bind.Bind.sides.Goals as goal

pub returns-in-Many-clause-none : goal.returns-in-Many-clause-none
returns-in-Many-clause-none c =
    ap (λ b. is_pair (tree_of b)) c.in-Many.is ∙ ap is_pair (tree_many c.in-Many.field-0) ∙ pair_many (map tree_of (rc_value c.in-Many.field-0))
