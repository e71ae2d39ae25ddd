use Rattle.std.proofs.Common.{◌≡◌, [], ◌++◌}
use Rattle.stix_json.specs.inner.Insertion.{insert_all}
use Rattle.stix_json.specs.inner.Checking.{member_name}
use Rattle.stix_json.proofs.raw_members.keep_last.Given as goal

abbrev pub invariant-loop-member : goal.invariant-loop-member
invariant-loop-member l =
    (l.fn.members.items ≡ l.yielded ++ l.member-iterator.rest.items) × (l.kept.items ≡ insert_all member_name l.yielded [])
