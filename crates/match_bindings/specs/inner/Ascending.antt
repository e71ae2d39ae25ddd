-- For private clauses: trees of which the second has no lesser flat list.
use Rattle.std.specs.Prelude.{◌≡◌, Bool, true, false}
use Rattle.std.specs.Ordering.{nat_cmp, is_lt}
use Rattle.std.specs.Cmp.Lexicographic.{slice_cmp}
use Rattle.match_bindings.specs.BindTree.{BindTree, Second}
use Rattle.match_bindings.specs.Flat.{flat}

abbrev pub FlatAscends : BindTree → BindTree → Type 0
FlatAscends x y = is_lt (slice_cmp nat_cmp (flat y) (flat x)) ≡ false

abbrev pub is_second : BindTree → Bool
is_second (Second a) = true
is_second _ = false
