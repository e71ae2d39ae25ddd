use Rattle.std.proofs.Common.{sym, subst, ◌∙◌}
use Rattle.stix_json.specs.inner.Insertion.{NamesAscend}
use Rattle.stix_json.specs.inner.Checking.{member_name}
use Rattle.stix_json.proofs.InsertionLemmas.{insert_ascending}
use Rattle.stix_json.proofs.raw_members.order_members.Goals as goal

pub returns-then-names_ascend : goal.returns-then-names_ascend
returns-then-names_ascend c =
    sym (insert_ascending member_name c.args.members.items (subst (NamesAscend member_name) c.deref.ensures.value (c.names_ascend.ensures c.if-names_ascend.true)))

pub returns-then-names_ascend-2 : goal.returns-then-names_ascend-2
returns-then-names_ascend-2 c =
    sym (insert_ascending member_name c.sort_by_name.new.members.items (subst (NamesAscend member_name) c.deref-2.ensures.value (c.names_ascend-2.ensures c.if-names_ascend-2.true)))
    ∙ c.sort_by_name.ensures.same
