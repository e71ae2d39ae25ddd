-- For private clauses: a sorted map from names, kept as a list: insertion by name, and lookup by
-- name.
use Rattle.std.specs.Prelude.{ℕ, List, [], ◌∷◌, ⊤, ◌≡◌, Bool, false, bytes_eq, if◌then◌else◌, Option, None, Some}
use Rattle.std.specs.Option.{option_or}
use Rattle.std.specs.Ordering.{nat_cmp, match_ordering, is_lt}
use Rattle.std.specs.List.Sorted.{IsSortedBy}
use Rattle.std.specs.declared.cmp.Ordering.TheVariants.{Less}
use Rattle.std.specs.Cmp.Lexicographic.{slice_cmp}

-- inserts into a list sorted by name, and replaces an equal name
abbrev pub insert_named : {X : Type 0} → (X → List ℕ) → X → List X → List X
insert_named name x [] = x ∷ []
insert_named name x (y ∷ ys) = match_ordering (slice_cmp nat_cmp (name x) (name y)) (x ∷ y ∷ ys) (x ∷ ys) (y ∷ insert_named name x ys)

-- inserts all of these, in order
abbrev pub insert_all : {X : Type 0} → (X → List ℕ) → List X → List X → List X
insert_all name [] found = found
insert_all name (x ∷ xs) found = insert_all name xs (insert_named name x found)

-- the last one of this name
abbrev pub last_named : {X : Type 0} → (X → List ℕ) → List ℕ → List X → Option X
last_named name q [] = None
last_named name q (x ∷ xs) = option_or (last_named name q xs) (if bytes_eq (name x) q then Some x else None)

-- whether the last of these has this name
abbrev pub ends_with : {X : Type 0} → (X → List ℕ) → List ℕ → List X → Bool
ends_with name q [] = false
ends_with name q (x ∷ []) = bytes_eq (name x) q
ends_with name q (x ∷ y ∷ ys) = ends_with name q (y ∷ ys)

-- the first of these follows the name
abbrev pub IsAfterName : {X : Type 0} → (X → List ℕ) → List ℕ → List X → Type 0
IsAfterName name q [] = ⊤
IsAfterName name q (x ∷ xs) = slice_cmp nat_cmp q (name x) ≡ Less

-- the names are strictly ascending
abbrev pub NamesAscend : {X : Type 0} → (X → List ℕ) → List X → Type 0
NamesAscend name [] = ⊤
NamesAscend name (x ∷ xs) = IsAfterName name (name x) xs × NamesAscend name xs

-- the names are sorted, and may repeat
abbrev pub NamesAreSorted : {X : Type 0} → (X → List ℕ) → List X → Type 0
NamesAreSorted name xs = IsSortedBy (λ x y. is_lt (slice_cmp nat_cmp (name x) (name y))) xs
