-- The counts of both are added.
use Rattle.std.proofs.Common.{◌∙◌}
use Rattle.std.specs.Rc.{rc_value}
use Rattle.match_bindings.specs.BindTree.{tree_of}
use Rattle.match_bindings.proofs.BindTreeLemmas.{tree_first}
use Rattle.match_bindings.proofs.FirstsLemmas.{run_longer}
use Rattle.match_bindings.proofs.bind.longer_run.Goals as goal

pub returns-then-more-count : goal.returns-then-more-count
returns-then-more-count c = tree_first _ c.args.part ∙ run_longer c.args.count c.args.more (tree_of (rc_value c.args.part))
