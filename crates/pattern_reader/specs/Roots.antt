-- Sets of names.
use Rattle.std.specs.Prelude.{◌≡◌, ℕ, true, List}
use Rattle.std.specs.{BTreeSet.BTreeSet, BTreeSet.contains, Ordering.nat_cmp, Cmp.Lexicographic.slice_cmp}
use denote.Ref.{Bor}

-- the set has the name
abbrev pub HasName : BTreeSet (Bor (List ℕ)) → List ℕ → Type 0
HasName names name = contains (λ x y. slice_cmp nat_cmp x.now y.now) names (record { ref_ptr = (0, 0); now = name }) ≡ true
