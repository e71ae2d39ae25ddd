-- One more bind of the left side.
use Rattle.std.proofs.Common.{refl}
use Rattle.match_bindings.specs.BindTree.{First}
use Rattle.match_bindings.specs.inner.Candidates.{spanned_trees}
use Rattle.match_bindings.proofs.SpannedLemmas.{each_more}
use Rattle.match_bindings.proofs.candidates.push_firsts.Goals as goal

pub loop-first-preserved : goal.loop-first-preserved
loop-first-preserved c =
    each_more (λ t. First t) (spanned_trees c.args.out.now.items) c.loop-first.out.items c.push.new.self.items c.loop-first.yielded c.in-Some.first _ c.in_ok-push.ensures.items
    c.in_ok-bind.ensures refl c.loop-first.invariant
