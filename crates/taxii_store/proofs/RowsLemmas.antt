-- Rows by date: parts of them, and where a row stands among them.
use Rattle.std.proofs.Common.{◌≡◌, ◌⊎◌, inl, inr, ℕ, zero, suc, ◌+◌, ◌<◌, ◌≤◌, List, [], ◌∷◌, ◌++◌, refl, subst, arith}
use Rattle.std.specs.List.{Contains}
use Rattle.std.proofs.lemmas.List.Elements.{Contains-append_left, Contains-append_right, Contains-append_cases, Contains-push, Contains-push_cases}
use Rattle.taxii_rows.specs.declared.stored_row.StoredRow.{StoredRow}
use Rattle.taxii_rows.specs.StoreState.{dates_of, AscendFrom}

abbrev pub Ascends : ℕ → List StoredRow → Type 0
Ascends n rows = AscendFrom n (dates_of rows)

pub compare : (a b : ℕ) → (a ≤ b) ⊎ (b < a)
compare zero b = inl (omega arith)
compare (suc a) zero = inr (omega arith)
compare (suc a) (suc b) = elim (compare a b) [
  | inl h ↦ inl (omega arith)
  | inr h ↦ inr (omega arith)
]

-- ---- membership

pub none_in : (r : StoredRow) → Contains [] r → ⊥
none_in r h = omega (arith, h.1)

pub in_cases : (x : StoredRow) (xs : List StoredRow) (r : StoredRow) → Contains (x ∷ xs) r → (x ≡ r) ⊎ Contains xs r
in_cases x xs r h = elim (Contains-append_cases (x ∷ []) xs r h) [
  | inl one ↦ elim (Contains-push_cases [] x r one) [
    | inl none ↦ absurd (none_in r none)
    | inr same ↦ inl same
  ]
  | inr rest ↦ inr rest
]

pub in_first : (x : StoredRow) (xs : List StoredRow) → Contains (x ∷ xs) x
in_first x xs = Contains-append_left (x ∷ []) xs x (Contains-push [] x)

pub in_rest : (x : StoredRow) (xs : List StoredRow) (r : StoredRow) → Contains xs r → Contains (x ∷ xs) r
in_rest x xs r h = Contains-append_right (x ∷ []) xs r h

-- ---- ascending dates

pub weaken : (m n : ℕ) (xs : List StoredRow) → m ≤ n → Ascends n xs → Ascends m xs
weaken m n [] h p = tt
weaken m n (x ∷ xs) h p = (omega (arith, p.0), p.1)

pub least : (n : ℕ) (xs : List StoredRow) (r : StoredRow) → Ascends n xs → Contains xs r → n ≤ r.date
least n [] r p h = absurd (none_in r h)
least n (x ∷ xs) r p h = go (in_cases x xs r h) (λ rest. least (x.date + 1) xs r p.1 rest)
  where
    go : (x ≡ r) ⊎ Contains xs r → (Contains xs r → x.date + 1 ≤ r.date) → n ≤ r.date
    go (inl same) later = subst (λ (y : StoredRow). n ≤ y.date) same p.0
    go (inr rest) later = let k = later rest in omega (arith, p.0, k)

-- the date of the last of them, or that one
abbrev pub last_or : ℕ → List StoredRow → ℕ
last_or date [] = date
last_or date (x ∷ xs) = last_or x.date xs

pub ascends_append : (n m : ℕ) (xs ys : List StoredRow) → n ≤ m + 1 → Ascends n xs → Ascends (last_or m xs + 1) ys → Ascends n (xs ++ ys)
ascends_append n m [] ys h p q = weaken n (m + 1) ys h q
ascends_append n m (x ∷ xs) ys h p q = (p.0, ascends_append (x.date + 1) x.date xs ys (omega arith) p.1 q)

pub ascends_front : (n : ℕ) (xs ys : List StoredRow) → Ascends n (xs ++ ys) → Ascends n xs
ascends_front n [] ys p = tt
ascends_front n (x ∷ xs) ys p = (p.0, ascends_front (x.date + 1) xs ys p.1)

-- rows that are all past a date ascend from after it
pub ascends_past : (n c : ℕ) (xs : List StoredRow) → Ascends n xs → ((r : StoredRow) → Contains xs r → c < r.date) → Ascends (c + 1) xs
ascends_past n c [] p past = tt
ascends_past n c (x ∷ xs) p past = let first = past x (in_first x xs) in (omega (arith, first), p.1)

-- of ascending rows, those up to the last of the first ones are among these
pub in_front : (n m : ℕ) (xs ys : List StoredRow) (r : StoredRow) → Ascends n (xs ++ ys) → Contains (xs ++ ys) r → m < r.date → r.date ≤ last_or m xs → Contains xs r
in_front n m [] ys r p h past upto = absurd (omega (arith, past, upto))
in_front n m (x ∷ xs) ys r p h past upto = go (in_cases x (xs ++ ys) r h) (λ rest later. in_front (x.date + 1) x.date xs ys r p.1 rest later upto) (λ rest. least (x.date + 1) (xs ++ ys) r p.1 rest)
  where
    go : (x ≡ r) ⊎ Contains (xs ++ ys) r → (Contains (xs ++ ys) r → x.date < r.date → Contains xs r) → (Contains (xs ++ ys) r → x.date + 1 ≤ r.date) → Contains (x ∷ xs) r
    go (inl same) rest_in later = subst (λ (y : StoredRow). Contains (x ∷ xs) y) same (in_first x xs)
    go (inr rest) rest_in later = let row_later = later rest in in_rest x xs r (rest_in rest (omega (arith, row_later)))

-- ---- the last of some rows

-- it is one of them
last_in : (x : StoredRow) (xs : List StoredRow) → (r : StoredRow) × Contains (x ∷ xs) r × (r.date ≡ last_or x.date xs)
last_in x [] = (x, in_first x [], refl)
last_in x (y ∷ ys) = let it = last_in y ys in (it.0, in_rest x (y ∷ ys) it.0 it.1, it.2)

pub last_of : (c : ℕ) (xs : List StoredRow) → ¬ (xs ≡ []) → (r : StoredRow) × Contains xs r × (r.date ≡ last_or c xs)
last_of c [] some = absurd (some refl)
last_of c (x ∷ xs) some = last_in x xs
