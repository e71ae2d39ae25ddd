-- The last of some rows, and bodies joined with commas.
use Rattle.std.proofs.Common.{◌≡◌, ℕ, suc, ◌-◌, List, [], ◌∷◌, ◌++◌, length, refl, sym, ap, ◌∙◌, arith, append_assoc, append-nil, Option, Some, None, Bor}
use Rattle.std.specs.Prelude.{map, option_map}
use Rattle.std.specs.List.{slice_get, last_or, flat_map, join_with_byte}
use Rattle.taxii_rows.specs.declared.stored_row.StoredRow.{StoredRow}
use Rattle.taxii_rows.specs.StoreState.{dates_of}

last_is : {A : Type 0} (xs : List A) (x : A) (o : Option A) → Some x ≡ slice_get xs (length xs - 1) → last_or o xs ≡ Some x
last_is [] x o is = absurd (cc)
last_is (y ∷ []) x o is = sym is
last_is (y ∷ z ∷ zs) x o is =
    let n = length zs in
    let one : suc (suc n) - 1 ≡ suc n = omega arith in
    let other : suc n - 1 ≡ n = omega arith in
    last_is (z ∷ zs) x (Some y) (is ∙ ap (slice_get (y ∷ z ∷ zs)) one ∙ ap (slice_get (z ∷ zs)) (sym other))

last_map : {A B : Type 0} (f : A → B) (xs : List A) (o : Option A) → last_or (option_map f o) (map f xs) ≡ option_map f (last_or o xs)
last_map f [] o = refl
last_map f (x ∷ xs) o = last_map f xs (Some x)

pub last_date_is : (rows : List (Bor StoredRow)) (last : Bor StoredRow) → Some last ≡ slice_get rows (length rows - 1)
    → Some last.now.date ≡ last_or None (dates_of (map (λ row. row.now) rows))
last_date_is rows last is =
    let there = last_map (λ (row : Bor StoredRow). row.now) rows None ∙ ap (option_map (λ (row : Bor StoredRow). row.now)) (last_is rows last None is) in
    sym (last_map (λ (row : StoredRow). row.date) (map (λ row. row.now) rows) None ∙ ap (option_map (λ (row : StoredRow). row.date)) there)

-- the first body, and then each with a comma before it
joined : (first : List ℕ) (rows : List (Bor StoredRow))
    → join_with_byte 44 (first ∷ map (λ row. row.body) (map (λ row. row.now) rows)) ≡ first ++ flat_map (λ row. 44 ∷ row.now.body) rows
joined first [] = sym (append-nil first)
joined first (row ∷ rows) = ap (λ (x : List ℕ). first ++ 44 ∷ x) (joined row.now.body rows)

pub three_pushed : (old a b c x y z : List ℕ) → x ≡ old ++ a → y ≡ x ++ b → z ≡ y ++ c → z ≡ old ++ (a ++ (b ++ c))
three_pushed old a b c x y z first second third =
    let all : z ≡ ((old ++ a) ++ b) ++ c = third ∙ ap (λ (l : List ℕ). l ++ c) (second ∙ ap (λ (l : List ℕ). l ++ b) first) in
    all ∙ (simp append_assoc)

pub listed : (old prefix first : List ℕ) (rows : List (Bor StoredRow)) (tail v w x y : List ℕ)
    → v ≡ old ++ prefix → w ≡ v ++ first → x ≡ w ++ flat_map (λ row. 44 ∷ row.now.body) rows → y ≡ x ++ tail
    → y ≡ old ++ (prefix ++ (join_with_byte 44 (first ∷ map (λ row. row.body) (map (λ row. row.now) rows)) ++ tail))
listed old prefix first rows tail v w x y is_v is_w is_x is_y =
    let others = flat_map (λ (row : Bor StoredRow). 44 ∷ row.now.body) rows in
    let body : x ≡ old ++ (prefix ++ (first ++ others)) = three_pushed old prefix first others v w x is_v is_w is_x in
    let all : y ≡ (old ++ (prefix ++ (first ++ others))) ++ tail = is_y ∙ ap (λ (l : List ℕ). l ++ tail) body in
    let same : (old ++ (prefix ++ (first ++ others))) ++ tail ≡ old ++ (prefix ++ ((first ++ others) ++ tail)) = append_assoc old (prefix ++ (first ++ others)) tail ∙ ap (λ (l : List ℕ). old ++ l) (append_assoc prefix (first ++ others) tail) in
    all ∙ same ∙ ap (λ (l : List ℕ). old ++ (prefix ++ (l ++ tail))) (sym (joined first rows))
