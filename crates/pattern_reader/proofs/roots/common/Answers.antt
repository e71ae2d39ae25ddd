use Rattle.std.specs.BTreeSet.{IsFromIterResult}
use Rattle.std.specs.Ordering.{nat_cmp}
use Rattle.std.specs.Cmp.Lexicographic.{slice_cmp}
use Rattle.std.proofs.lemmas.Iterator.Adapters.{fact_from_collect}
use Rattle.std.proofs.lemmas.Iterator.Consumers.{YieldsList-from_copied, YieldsList-from_rest}
use Rattle.pattern_reader.proofs.RootSetLemmas.{common_names}
use Rattle.pattern_reader.proofs.roots.common.Goals as goal

pub returns : goal.returns
returns c =
    let h = fact_from_collect (IsFromIterResult (λ x y. slice_cmp nat_cmp x.now y.now)) c.collect.result c.collect.ensures.ran (YieldsList-from_copied (YieldsList-from_rest c.intersection.result c.copied.ensures.source)) in
    common_names _ _ _ c.intersection.result c.intersection.ensures.members (rw c.in_ok-names.was at h).0
