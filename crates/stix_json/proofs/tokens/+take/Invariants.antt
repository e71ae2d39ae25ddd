use Rattle.std.proofs.Common.{◌≡◌, ℕ, List, [], ◌+◌, ◌*◌, ◌≤◌, length}
use Rattle.json.specs.Json.{items, members, value, parse_map}
use Rattle.serde_json.specs.Data.{Data, Members, no_members}
use Rattle.serde_json.specs.Read.{of_items, of_members, converted}
use Rattle.stix_json.specs.inner.Insertion.{insert_all}
use Rattle.stix_json.specs.inner.Checking.{AreElements, AreRawMembers, member_name}
use Rattle.stix_json.proofs.TokensLemmas.{items_before}
use Rattle.stix_json.proofs.tokens.+take.Given as goal

abbrev pub decreases-take_value : goal.decreases-take_value
decreases-take_value l = 3 * l.left + 1

abbrev pub decreases-check_token : goal.decreases-check_token
decreases-check_token l = 3 * l.left

abbrev pub decreases-take_items : goal.decreases-take_items
decreases-take_items l = 3 * l.left + 2

abbrev pub decreases-take_members : goal.decreases-take_members
decreases-take_members l = 3 * l.left + 2

abbrev pub invariant-take_items-items : goal.invariant-take_items-items
invariant-take_items-items l =
    (n : ℕ) × (length l.reader ≤ n) × (done : List Data)
    × (converted of_items (items (value l.left) (length l.initial.reader) l.initial.reader) ≡ parse_map (items_before done) (converted of_items (items (value l.left) n l.reader)))
    × AreElements l.levels done l.elements × (length l.reader ≤ length l.initial.reader)

abbrev pub decreases-take_items-items : goal.decreases-take_items-items
decreases-take_items-items l = length l.reader

abbrev pub invariant-take_members-members : goal.invariant-take_members-members
invariant-take_members-members l =
    (n : ℕ) × (length l.reader ≤ n) × (found : Members)
    × (converted (λ ms. of_members ms no_members) (members (value l.left) (length l.initial.reader) l.initial.reader) ≡ converted (λ ms. of_members ms found) (members (value l.left) n l.reader))
    × AreRawMembers l.levels found (insert_all member_name l.raw_members.items []) × (length l.reader ≤ length l.initial.reader)

abbrev pub decreases-take_members-members : goal.decreases-take_members-members
decreases-take_members-members l = length l.reader
