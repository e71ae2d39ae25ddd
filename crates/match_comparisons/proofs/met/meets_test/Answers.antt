use Rattle.std.proofs.Common.{◌↔◌, Bool, IsTrue, List, ℕ, subst}
use Rattle.stix_json.specs.DataOf.{data_of}
use Rattle.stix_bundles.specs.Objects.{data_in}
use Rattle.match_comparisons.specs.Selection.{IsRoot}
use Rattle.match_comparisons.proofs.MetLemmas.{ReachesMet, none_met}
use Rattle.match_comparisons.proofs.met.meets_test.Goals as goal

pub returns-then-is_absence-clause-holds : goal.returns-then-is_absence-clause-holds
returns-then-is_absence-clause-holds c =
    let objects = data_in c.args.search.now.bundle.now in
    let test = c.args.test.now in
    let root = data_of c.in-Some.object.now in
    let absent = c.is_absence.ensures.0 c.if-is_absence.true in
    let is_root = subst (λ (kind : List ℕ). IsRoot objects c.args.root kind root) c.as_str.ensures c.in-Some.ensures.found in
    let reached = subst (λ (negated : Bool). IsTrue c.in_ok-found.found ↔ ReachesMet objects test negated root) (c.requires.is.absence absent) c.in_ok-found.ensures.found in
    none_met objects c.args.root test root is_root c.in_ok-found.found absent reached
