-- A sort by name leaves names that don't fall, and those of one name in their order.
use Rattle.std.proofs.Common.{rules}
use Rattle.std.proofs.lemmas.Cmp.{nat_list_cmp_total}
use Rattle.std.proofs.lemmas.List.MinMax.{ranks_by}
use Rattle.std.proofs.lemmas.List.Sorted.{answers_always}
use Rattle.stix_json.specs.inner.Checking.{member_name}
use Rattle.stix_json.proofs.InsertionLemmas.{by_name, insert_stable}
use Rattle.stix_json.proofs.raw_members.sort_by_name.Goals as goal

pub returns-clause-ascends : goal.returns-clause-ascends
returns-clause-ascends c =
    c.in_ok-sort_by.ensures.sorted (by_name member_name) (ranks_by nat_list_cmp_total member_name) (answers_always _ _ _ (λ f a r g h. search rules))

pub returns-clause-same : goal.returns-clause-same
returns-clause-same c =
    insert_stable member_name c.args.members.now.items c.sort_by.new.self.items
    (c.sort_by.ensures.stable (by_name member_name) (ranks_by nat_list_cmp_total member_name) (answers_always _ _ _ (λ f a r g h. search rules)))
