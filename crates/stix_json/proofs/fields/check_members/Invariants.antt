use Rattle.std.proofs.Common.{◌≡◌, ℕ, List, ◌++◌}
use Rattle.stix_json.specs.DataOf.{Member, members_of}
use Rattle.stix_json.specs.inner.Checking.{AreRawMembers, AreFields}
use Rattle.stix_json.proofs.fields.check_members.Given as goal

abbrev pub invariant-loop-member : goal.invariant-loop-member
invariant-loop-member l =
    (l.fn.members.items ≡ l.yielded ++ l.member-iterator.rest.items)
    × ((levels : ℕ) (done : List Member) → AreRawMembers levels (members_of done) l.yielded → AreFields levels done l.fields)
