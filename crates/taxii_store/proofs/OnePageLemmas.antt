-- A query has one page of a store: rows by date are told by which they are.
use Rattle.std.proofs.Common.{◌≡◌, ◌⊎◌, inl, inr, ℕ, ◌+◌, List, [], ◌∷◌, ◌++◌, length, Bool, Option, refl, sym, ap, subst, ◌∙◌, arith}
use Rattle.std.specs.Prelude.{nat_lt}
use Rattle.std.specs.List.{Contains}
use Rattle.stix_ids.specs.declared.id.Id.{Id}
use Rattle.taxii_rows.specs.declared.stored_row.StoredRow.{StoredRow}
use Rattle.taxii_routes.specs.declared.query.Query.{Query}
use Rattle.taxii_store.specs.Page.{FitsPage, AreAllWhere, IsPage}
use Rattle.taxii_store.proofs.FitLemmas.{fits_less}
use Rattle.taxii_store.proofs.RowsLemmas.{Ascends, none_in, in_cases, in_first, in_rest, least}

abbrev Within : List StoredRow → List StoredRow → Type 0
Within xs ys = (r : StoredRow) → Contains xs r → Contains ys r

-- the first rows of two such lists are one
first_same : (n m : ℕ) (x y : StoredRow) (xs ys : List StoredRow) → Ascends n (x ∷ xs) → Ascends m (y ∷ ys)
    → Within (x ∷ xs) (y ∷ ys) → Within (y ∷ ys) (x ∷ xs) → x ≡ y
first_same n m x y xs ys p q to from = go (in_cases y ys x (to x (in_first x xs))) (in_cases x xs y (from y (in_first y ys)))
  where
    go : (y ≡ x) ⊎ Contains ys x → (x ≡ y) ⊎ Contains xs y → x ≡ y
    go (inl same) other = sym same
    go (inr behind) (inl same) = same
    go (inr behind) (inr later) =
        let first = least (y.date + 1) ys x q.1 behind in
        let second = least (x.date + 1) xs y p.1 later in
        absurd (omega (arith, first, second))

rest_within : (n : ℕ) (x : StoredRow) (xs ys : List StoredRow) → Ascends n (x ∷ xs) → Within (x ∷ xs) (x ∷ ys) → Within xs ys
rest_within n x xs ys p to r h = go (in_cases x ys r (to r (in_rest x xs r h)))
  where
    go : (x ≡ r) ⊎ Contains ys r → Contains ys r
    go (inl same) =
        let later = least (x.date + 1) xs r p.1 h in
        let date = ap (λ (row : StoredRow). row.date) same in
        absurd (omega (arith, later, date))
    go (inr there) = there

same_rows : (n m : ℕ) (xs ys : List StoredRow) → Ascends n xs → Ascends m ys → Within xs ys → Within ys xs → xs ≡ ys
same_rows n m [] [] p q to from = refl
same_rows n m [] (y ∷ ys) p q to from = absurd (none_in y (from y (in_first y ys)))
same_rows n m (x ∷ xs) [] p q to from = absurd (none_in x (to x (in_first x xs)))
same_rows n m (x ∷ xs) (y ∷ ys) p q to from =
    let same = first_same n m x y xs ys p q to from in
    let q_too = subst (λ (r : StoredRow). Ascends m (r ∷ ys)) (sym same) q in
    let to_too = subst (λ (r : StoredRow). Within (x ∷ xs) (r ∷ ys)) (sym same) to in
    let from_too = subst (λ (r : StoredRow). Within (r ∷ ys) (x ∷ xs)) (sym same) from in
    let rest = same_rows (x.date + 1) (x.date + 1) xs ys p.1 q_too.1 (rest_within n x xs ys p to_too) (rest_within m x ys xs q_too from_too) in
    ap (λ (r : StoredRow). r ∷ xs) same ∙ ap (λ (rs : List StoredRow). y ∷ rs) rest

all_same : (Rule : StoredRow → Type 0) (rows first second : List StoredRow) → AreAllWhere Rule rows first → AreAllWhere Rule rows second → first ≡ second
all_same Rule rows first second a b = same_rows 1 1 first second a.ascend b.ascend
    (λ r h. (b.each r).1 ((a.each r).0 h)) (λ r h. (a.each r).1 ((b.each r).0 h))

meeting_same : (rows : List StoredRow) (collection : ℕ) (only : Option Id) (query : Query) (first second : List StoredRow) (left more : Bool)
    (a : IsPage rows collection only query first left) (b : IsPage rows collection only query second more) → a.meeting ≡ b.meeting
meeting_same rows collection only query first second left more a b = all_same _ rows a.meeting b.meeting a.meeting_are b.meeting_are

-- ---- two beginnings of the same rows

-- the second has one more row at least, which the first leaves
record IsLonger (first second left rest : List StoredRow) : Type 0 where
  next : StoredRow
  others : List StoredRow
  is : second ≡ (first ++ next ∷ []) ++ others
  leaves : left ≡ next ∷ (others ++ rest)

one_longer : (x y : StoredRow) (first second left rest : List StoredRow) → x ≡ y → IsLonger first second left rest → IsLonger (x ∷ first) (y ∷ second) left rest
one_longer x y first second left rest same longer = record {
  next = longer.next;
  others = longer.others;
  is = ap (λ (r : StoredRow). r ∷ second) (sym same) ∙ ap (λ (rs : List StoredRow). x ∷ rs) longer.is;
  leaves = longer.leaves;
}

compared : (first second left rest : List StoredRow) → first ++ left ≡ second ++ rest
    → ((first ≡ second) × (left ≡ rest)) ⊎ (IsLonger first second left rest ⊎ IsLonger second first rest left)
compared [] [] left rest same = inl (refl, same)
compared [] (y ∷ second) left rest same = inr (inl (record { next = y; others = second; is = refl; leaves = same }))
compared (x ∷ first) [] left rest same = inr (inr (record { next = x; others = first; is = refl; leaves = sym same }))
compared (x ∷ first) (y ∷ second) left rest same =
    let head : x ≡ y = cc same in
    let tail : first ++ left ≡ second ++ rest = cc same in
    elim (compared first second left rest tail) [
      | inl both ↦ inl (ap (λ (r : StoredRow). r ∷ first) head ∙ ap (λ (rs : List StoredRow). y ∷ rs) both.0, both.1)
      | inr (inl longer) ↦ inr (inl (one_longer x y first second left rest head longer))
      | inr (inr longer) ↦ inr (inr (one_longer y x second first rest left (sym head) longer))
    ]

-- what is full has no longer one beside it that fits
none_longer : (query : Query) (first second left rest : List StoredRow) → FitsPage query second
    → ((next : StoredRow) (others : List StoredRow) → left ≡ next ∷ others → ¬ FitsPage query (first ++ next ∷ [])) → ¬ IsLonger first second left rest
none_longer query first second left rest fits full longer =
    full longer.next (longer.others ++ rest) longer.leaves
    (fits_less query (first ++ longer.next ∷ []) longer.others (subst (FitsPage query) longer.is fits))

both_same : (rows : List StoredRow) (collection : ℕ) (only : Option Id) (query : Query) (first second : List StoredRow) (left more : Bool)
    (a : IsPage rows collection only query first left) (b : IsPage rows collection only query second more) → (first ≡ second) × (a.rest ≡ b.rest)
both_same rows collection only query first second left more a b =
    elim (compared first second a.rest b.rest (sym a.split ∙ meeting_same rows collection only query first second left more a b ∙ b.split)) [
      | inl same ↦ same
      | inr (inl longer) ↦ absurd (none_longer query first second a.rest b.rest b.fits a.full longer)
      | inr (inr longer) ↦ absurd (none_longer query second first b.rest a.rest a.fits b.full longer)
    ]

pub page_same : (rows : List StoredRow) (collection : ℕ) (only : Option Id) (query : Query) (first second : List StoredRow) (left more : Bool)
    → IsPage rows collection only query first left → IsPage rows collection only query second more → first ≡ second
page_same rows collection only query first second left more a b = (both_same rows collection only query first second left more a b).0

pub more_same : (rows : List StoredRow) (collection : ℕ) (only : Option Id) (query : Query) (first second : List StoredRow) (left more : Bool)
    → IsPage rows collection only query first left → IsPage rows collection only query second more → left ≡ more
more_same rows collection only query first second left more a b =
    a.more_is ∙ ap (λ (rs : List StoredRow). nat_lt 0 (length rs)) (both_same rows collection only query first second left more a b).1 ∙ sym b.more_is
