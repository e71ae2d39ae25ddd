-- One more bind of the right side.
use Rattle.std.proofs.Common.{refl}
use Rattle.match_bindings.specs.BindTree.{Second}
use Rattle.match_bindings.specs.inner.Candidates.{spanned_trees}
use Rattle.match_bindings.proofs.SpannedLemmas.{each_more}
use Rattle.match_bindings.proofs.candidates.push_seconds.Goals as goal

pub loop-second-preserved : goal.loop-second-preserved
loop-second-preserved c =
    each_more (λ t. Second t) (spanned_trees c.args.out.now.items) c.loop-second.out.items c.push.new.self.items c.loop-second.yielded c.in-Some.second _ c.in_ok-push.ensures.items
    c.in_ok-bind.ensures refl c.loop-second.invariant
