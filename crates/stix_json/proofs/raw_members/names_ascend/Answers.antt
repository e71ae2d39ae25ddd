use Rattle.std.proofs.Common.{◌≡◌, rules}
use Rattle.std.proofs.lemmas.Fn.{always_returns_same}
use Rattle.stix_json.specs.inner.Checking.{member_name}
use Rattle.stix_json.proofs.InsertionLemmas.{by_name, ascend_by_tests}
use Rattle.stix_json.proofs.raw_members.names_ascend.Goals as goal

pub returns : goal.returns
returns c =
    let answer = c.is_sorted_by.ensures.cases (by_name member_name) (always_returns_same _ (λ a r. r ≡ by_name member_name a.0.now a.1.0.now) _ (λ a r q k. search rules)) in
    ascend_by_tests member_name c.args.members.now c.is_sorted_by.result answer
