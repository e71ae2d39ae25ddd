-- What has names, inserted one after another: of those that have one name the last stays, in the order of the names.
use Rattle.std.proofs.Common.{◌≡◌, IsTrue, Bool, true, false, cond, if◌then◌else◌, not, ◌&&◌, ℕ, suc, ◌+◌, ◌-◌, ◌<◌, List, [], ◌∷◌, ◌++◌, length, get_or, slice_get, option_to_list, IsSome, filter, Option, Some, None, Ordering, Less, Equal, Greater, nat_cmp, is_eq, is_lt, arith, bytes_eq, true≢false, unwrap_or, append-nil, length-append, refl, sym, ap, subst, ◌∙◌}
use Rattle.std.proofs.lemmas.Cmp.{nat_list_cmp_total, tied_itself}
use Rattle.std.proofs.lemmas.List.MinMax.{ranks_by}
use Rattle.std.proofs.lemmas.List.Sorted.{sorted_far}
use Rattle.std.proofs.lemmas.Slice.Eq.{bytes_eq-Decides}
use Rattle.std.proofs.lemmas.Map.Text.{is_eq-slice_cmp}
use Rattle.std.specs.Cmp.Lexicographic.{slice_cmp}
use Rattle.std.specs.List.{AllByRecursion, AllAdjacentBelow, IsAllAdjacentAnswer}
use Rattle.std.specs.List.Sorted.{IsStableBy, ties}
use Rattle.std.specs.Option.{option_or}
use Rattle.std.specs.Ordering.{match_ordering, ordering_reverse}
use Rattle.stix_json.specs.inner.Insertion.{insert_named, insert_all, last_named, ends_with, IsAfterName, NamesAscend, NamesAreSorted}

-- ---- two names

turned : (k l : List ℕ) → slice_cmp nat_cmp k l ≡ Greater → slice_cmp nat_cmp l k ≡ Less
turned k l is = nat_list_cmp_total.antisymm l k ∙ ap ordering_reverse is

turned_back : (k l : List ℕ) → slice_cmp nat_cmp k l ≡ Less → slice_cmp nat_cmp l k ≡ Greater
turned_back k l is = nat_list_cmp_total.antisymm l k ∙ ap ordering_reverse is

one_name : (k l : List ℕ) → slice_cmp nat_cmp k l ≡ Equal → k ≡ l
one_name k l is = (bytes_eq-Decides k l).0 (sym (is_eq-slice_cmp k l) ∙ ap is_eq is)

same_name : (k l : List ℕ) → bytes_eq k l ≡ true → k ≡ l
same_name k l test = (bytes_eq-Decides k l).0 test

itself : (k : List ℕ) → bytes_eq k k ≡ true
itself k = (bytes_eq-Decides k k).1 refl

-- a name after another is not the same
other_behind : (k l : List ℕ) → slice_cmp nat_cmp k l ≡ Less → bytes_eq l k ≡ false
other_behind k l less = sym (is_eq-slice_cmp l k) ∙ ap is_eq (turned_back k l less)

-- those of one name tie
one_tie : (k l : List ℕ) → k ≡ l → (not (is_lt (slice_cmp nat_cmp l k)) && not (is_lt (slice_cmp nat_cmp k l))) ≡ true
one_tie k l same =
    subst (λ (n : List ℕ). (not (is_lt (slice_cmp nat_cmp n k)) && not (is_lt (slice_cmp nat_cmp k n))) ≡ true) same (rw (tied_itself nat_list_cmp_total k))

lt_less : (o : Ordering) → true ≡ is_lt o → o ≡ Less
lt_less Less is = refl
lt_less Equal is = absurd (true≢false is)
lt_less Greater is = absurd (true≢false is)

-- ---- options

or_none : {X : Type 0} (o : Option X) → option_or o None ≡ o
or_none None = refl
or_none (Some x) = refl

one_value : {X : Type 0} (x y : X) → Some x ≡ Some y → x ≡ y
one_value x y same = ap (λ found. unwrap_or found x) same

-- a choice before another option
pushed_by : {X : Type 0} (x : X) (first last : Option X) (b : Bool) → option_or (if b then Some x else last) first ≡ (if b then Some x else option_or last first)
pushed_by x first last true = refl
pushed_by x first last false = refl

-- in the place of one that has the same name
placed_by : {X : Type 0} (x y : X) (others : Option X) (b : Bool) → (if b then Some x else others) ≡ (if b then Some x else (if b then Some y else others))
placed_by x y others true = refl
placed_by x y others false = refl

-- a choice after another option
or_chain : {X : Type 0} (x : X) (last found : Option X) (b : Bool) → option_or last (if b then Some x else found) ≡ option_or (option_or last (if b then Some x else None)) found
or_chain x None found true = refl
or_chain x None found false = refl
or_chain x (Some y) found b = refl

-- ---- places in a list

at_middle : {X : Type 0} (xs : List X) (x : X) (more : List X) (d : X) → get_or (xs ++ x ∷ more) (length xs) d ≡ x
at_middle [] x more d = refl
at_middle (y ∷ ys) x more d = at_middle ys x more d

plus_one : (k : ℕ) → suc k + 1 ≡ suc (k + 1)
plus_one k = omega arith

one_more : (k : ℕ) → suc (suc k) - 1 ≡ suc (suc k - 1)
one_more k = omega arith

module _ {X : Type 0} (name : X → List ℕ) where
  -- one more
  pub insert_pushed : (xs : List X) (x : X) (found : List X) → insert_all name (xs ++ x ∷ []) found ≡ insert_named name x (insert_all name xs found)
  insert_pushed [] x found = refl
  insert_pushed (first ∷ xs) x found = insert_pushed xs x (insert_named name first found)

  -- ---- the order of names

  behind_by : (q : List ℕ) (x y : X) (ys more : List X) → slice_cmp nat_cmp q (name x) ≡ Less → slice_cmp nat_cmp q (name y) ≡ Less → (o : Ordering)
      → IsAfterName name q (match_ordering o (x ∷ y ∷ ys) (x ∷ ys) (y ∷ more))
  behind_by q x y ys more first behind Less = first
  behind_by q x y ys more first behind Equal = first
  behind_by q x y ys more first behind Greater = behind

  insert_behind : (q : List ℕ) (x : X) (ys : List X) → slice_cmp nat_cmp q (name x) ≡ Less → IsAfterName name q ys → IsAfterName name q (insert_named name x ys)
  insert_behind q x [] first behind = first
  insert_behind q x (y ∷ ys) first behind = behind_by q x y ys (insert_named name x ys) first behind (slice_cmp nat_cmp (name x) (name y))

  ascends_by : (x y : X) (ys more : List X) → NamesAscend name (y ∷ ys) → (slice_cmp nat_cmp (name y) (name x) ≡ Less → IsAfterName name (name y) more) → NamesAscend name more
      → (o : Ordering) → slice_cmp nat_cmp (name x) (name y) ≡ o → NamesAscend name (match_ordering o (x ∷ y ∷ ys) (x ∷ ys) (y ∷ more))
  ascends_by x y ys more ascends above rest Less is = (is, ascends)
  ascends_by x y ys more ascends above rest Equal is = (subst (λ (n : List ℕ). IsAfterName name n ys) (sym (one_name (name x) (name y) is)) ascends.0, ascends.1)
  ascends_by x y ys more ascends above rest Greater is = (above (turned (name x) (name y) is), rest)

  insert_ascends : (x : X) (ys : List X) → NamesAscend name ys → NamesAscend name (insert_named name x ys)
  insert_ascends x [] ascends = (tt, tt)
  insert_ascends x (y ∷ ys) ascends =
      ascends_by x y ys (insert_named name x ys) ascends (λ less. insert_behind (name y) x ys less ascends.0) (insert_ascends x ys ascends.1) (slice_cmp nat_cmp (name x) (name y)) refl

  all_ascend : (xs found : List X) → NamesAscend name found → NamesAscend name (insert_all name xs found)
  all_ascend [] found ascends = ascends
  all_ascend (x ∷ xs) found ascends = all_ascend xs (insert_named name x found) (insert_ascends x found ascends)

  later_behind : (q : List ℕ) (x : X) (xs : List X) → slice_cmp nat_cmp q (name x) ≡ Less → IsAfterName name (name x) xs → IsAfterName name q xs
  later_behind q x [] less behind = tt
  later_behind q x (y ∷ ys) less behind = nat_list_cmp_total.trans q (name x) (name y) less behind

  -- ---- what a name finds

  -- a name before them finds none
  none_before : (q : List ℕ) (xs : List X) → IsAfterName name q xs → NamesAscend name xs → last_named name q xs ≡ None
  none_before q [] behind ascends = refl
  none_before q (x ∷ xs) behind ascends = rw (none_before q xs (later_behind q x xs behind ascends.0) ascends.1, other_behind q (name x) behind)

  found_here : (x : X) (xs : List X) → NamesAscend name (x ∷ xs) → last_named name (name x) (x ∷ xs) ≡ Some x
  found_here x xs ascends = rw (none_before (name x) xs ascends.0 ascends.1, itself (name x))

  found_later : (q : List ℕ) (x : X) (xs : List X) → bytes_eq (name x) q ≡ false → last_named name q (x ∷ xs) ≡ last_named name q xs
  found_later q x xs other = rw other (or_none (last_named name q xs))

  pub last_pushed : (q : List ℕ) (xs : List X) (x : X) → last_named name q (xs ++ x ∷ []) ≡ (if bytes_eq (name x) q then Some x else last_named name q xs)
  last_pushed q [] x = refl
  last_pushed q (y ∷ ys) x =
      let first : Option X = if bytes_eq (name y) q then Some y else None in
      ap (λ (found : Option X). option_or found first) (last_pushed q ys x) ∙ pushed_by x first (last_named name q ys) (bytes_eq (name x) q)

  -- one before the others, of which none has its name
  first_by : (q : List ℕ) (x : X) (others : Option X) → (name x ≡ q → others ≡ None) → (b : Bool) → bytes_eq (name x) q ≡ b
      → option_or others (if b then Some x else None) ≡ (if b then Some x else others)
  first_by q x others none true test = rw (none (same_name (name x) q test))
  first_by q x others none false test = or_none others

  first_found : (q : List ℕ) (x : X) (xs : List X) → NamesAscend name (x ∷ xs) → last_named name q (x ∷ xs) ≡ (if bytes_eq (name x) q then Some x else last_named name q xs)
  first_found q x xs ascends =
      first_by q x (last_named name q xs) (λ same. subst (λ (n : List ℕ). last_named name n xs ≡ None) same (none_before (name x) xs ascends.0 ascends.1)) (bytes_eq (name x) q) refl

  found_by : (q : List ℕ) (x y : X) (ys more : List X) → NamesAscend name (y ∷ ys)
      → last_named name q more ≡ (if bytes_eq (name x) q then Some x else last_named name q ys) → (o : Ordering) → slice_cmp nat_cmp (name x) (name y) ≡ o
      → last_named name q (match_ordering o (x ∷ y ∷ ys) (x ∷ ys) (y ∷ more)) ≡ (if bytes_eq (name x) q then Some x else last_named name q (y ∷ ys))
  found_by q x y ys more ascends rest Less is = first_found q x (y ∷ ys) (is, ascends)
  found_by q x y ys more ascends rest Equal is =
      let same = one_name (name x) (name y) is in
      first_found q x ys (subst (λ (n : List ℕ). IsAfterName name n ys) (sym same) ascends.0, ascends.1)
      ∙ placed_by x y (last_named name q ys) (bytes_eq (name x) q)
      ∙ ap (λ (n : List ℕ). if bytes_eq (name x) q then Some x else (if bytes_eq n q then Some y else last_named name q ys)) same
      ∙ ap (λ (found : Option X). if bytes_eq (name x) q then Some x else found) (sym (first_found q y ys ascends))
  found_by q x y ys more ascends rest Greater is =
      let first : Option X = if bytes_eq (name y) q then Some y else None in
      ap (λ (found : Option X). option_or found first) rest ∙ pushed_by x first (last_named name q ys) (bytes_eq (name x) q)

  -- what a name finds once one more is inserted
  found_insert : (q : List ℕ) (x : X) (ys : List X) → NamesAscend name ys → last_named name q (insert_named name x ys) ≡ (if bytes_eq (name x) q then Some x else last_named name q ys)
  found_insert q x [] ascends = refl
  found_insert q x (y ∷ ys) ascends =
      found_by q x y ys (insert_named name x ys) ascends (found_insert q x ys ascends.1) (slice_cmp nat_cmp (name x) (name y)) refl

  found_all : (q : List ℕ) (xs found : List X) → NamesAscend name found → last_named name q (insert_all name xs found) ≡ option_or (last_named name q xs) (last_named name q found)
  found_all q [] found ascends = refl
  found_all q (x ∷ xs) found ascends =
      found_all q xs (insert_named name x found) (insert_ascends x found ascends)
      ∙ ap (option_or (last_named name q xs)) (found_insert q x found ascends)
      ∙ or_chain x (last_named name q xs) (last_named name q found) (bytes_eq (name x) q)

  -- a name finds among those inserted the last that has it
  pub last_insert : (q : List ℕ) (xs : List X) → last_named name q (insert_all name xs []) ≡ last_named name q xs
  last_insert q xs = found_all q xs [] tt ∙ or_none (last_named name q xs)

  -- ---- lists whose names ascend

  -- the name of each X finds the same
  abbrev Agree : List X → List X → Type 0
  Agree xs ys = (z : X) → last_named name (name z) xs ≡ last_named name (name z) ys

  later_by : (x y : X) (xs ys : List X) → NamesAscend name (x ∷ xs) → NamesAscend name (y ∷ ys) → name x ≡ name y → Agree (x ∷ xs) (y ∷ ys)
      → (z : X) (b : Bool) → bytes_eq (name x) (name z) ≡ b → last_named name (name z) xs ≡ last_named name (name z) ys
  later_by x y xs ys first second same agree z true test =
      let here = same_name (name x) (name z) test in
      subst (λ (n : List ℕ). last_named name n xs ≡ None) here (none_before (name x) xs first.0 first.1)
      ∙ sym (subst (λ (n : List ℕ). last_named name n ys ≡ None) (sym same ∙ here) (none_before (name y) ys second.0 second.1))
  later_by x y xs ys first second same agree z false test =
      let other : bytes_eq (name y) (name z) ≡ false = subst (λ (n : List ℕ). bytes_eq n (name z) ≡ false) same test in
      sym (found_later (name z) x xs test) ∙ agree z ∙ found_later (name z) y ys other

  -- without their first, which has one name
  later_agree : (x y : X) (xs ys : List X) → NamesAscend name (x ∷ xs) → NamesAscend name (y ∷ ys) → name x ≡ name y → Agree (x ∷ xs) (y ∷ ys) → Agree xs ys
  later_agree x y xs ys first second same agree z = later_by x y xs ys first second same agree z (bytes_eq (name x) (name z)) refl

  one_by : (x y : X) (xs ys : List X) → NamesAscend name (x ∷ xs) → NamesAscend name (y ∷ ys) → Agree (x ∷ xs) (y ∷ ys)
      → (name x ≡ name y → xs ≡ ys) → (o : Ordering) → slice_cmp nat_cmp (name x) (name y) ≡ o → x ∷ xs ≡ y ∷ ys
  one_by x y xs ys first second agree rest Less is =
      let none : None ≡ Some x = sym (none_before (name x) (y ∷ ys) is second) ∙ sym (agree x) ∙ found_here x xs first in absurd cc
  one_by x y xs ys first second agree rest Greater is =
      let none : None ≡ Some y = sym (none_before (name y) (x ∷ xs) (turned (name x) (name y) is) first) ∙ agree y ∙ found_here y ys second in absurd cc
  one_by x y xs ys first second agree rest Equal is =
      let same = one_name (name x) (name y) is in
      let found : last_named name (name x) (y ∷ ys) ≡ Some y = subst (λ (n : List ℕ). last_named name n (y ∷ ys) ≡ Some y) (sym same) (found_here y ys second) in
      let value : x ≡ y = one_value x y (sym (found_here x xs first) ∙ agree x ∙ found) in
      ap (λ (z : X). z ∷ xs) value ∙ ap (λ (zs : List X). y ∷ zs) (rest same)

  -- two lists whose names ascend are one where each name finds the same in both
  one_list : (xs ys : List X) → NamesAscend name xs → NamesAscend name ys → Agree xs ys → xs ≡ ys
  one_list [] [] first second agree = refl
  one_list [] (y ∷ ys) first second agree = let none : None ≡ Some y = agree y ∙ found_here y ys second in absurd cc
  one_list (x ∷ xs) [] first second agree = let none : None ≡ Some x = sym (agree x) ∙ found_here x xs first in absurd cc
  one_list (x ∷ xs) (y ∷ ys) first second agree =
      one_by x y xs ys first second agree (λ same. one_list xs ys first.1 second.1 (later_agree x y xs ys first second same agree)) (slice_cmp nat_cmp (name x) (name y)) refl

  -- those whose names ascend already stay as they are
  pub insert_ascending : (xs : List X) → NamesAscend name xs → insert_all name xs [] ≡ xs
  insert_ascending xs ascends = one_list (insert_all name xs []) xs (all_ascend xs [] tt) ascends (λ z. last_insert (name z) xs)

  -- ---- a stable sort

  -- whether one name is before another
  abbrev pub by_name : X → X → Bool
  by_name x y = is_lt (slice_cmp nat_cmp (name x) (name y))

  untied_by : (z x : X) → ties by_name z x ≡ false → (b : Bool) → bytes_eq (name x) (name z) ≡ b → b ≡ false
  untied_by z x untied true test = absurd (true≢false (sym (one_tie (name x) (name z) (same_name (name x) (name z) test)) ∙ untied))
  untied_by z x untied false test = refl

  tied_by : (z x : X) (xs kept : List X) → last_named name (name z) xs ≡ last_named name (name z) kept → (b : Bool) → ties by_name z x ≡ b
      → last_named name (name z) (x ∷ xs) ≡ last_named name (name z) (cond b (x ∷ kept) kept)
  tied_by z x xs kept rest true test = ap (λ (found : Option X). option_or found (if bytes_eq (name x) (name z) then Some x else None)) rest
  tied_by z x xs kept rest false test = found_later (name z) x xs (untied_by z x test (bytes_eq (name x) (name z)) refl) ∙ rest

  -- a name finds the same among those that tie with one of that name
  found_tied : (z : X) (xs : List X) → last_named name (name z) xs ≡ last_named name (name z) (filter (ties by_name z) xs)
  found_tied z [] = refl
  found_tied z (x ∷ xs) = tied_by z x xs (filter (ties by_name z) xs) (found_tied z xs) (ties by_name z x) refl

  -- a stable sort by name changes nothing
  pub insert_stable : (xs ys : List X) → IsStableBy by_name xs ys → insert_all name ys [] ≡ insert_all name xs []
  insert_stable xs ys stable =
      let agree : Agree (insert_all name ys []) (insert_all name xs []) = λ z.
      last_insert (name z) ys ∙ found_tied z ys ∙ ap (last_named name (name z)) (stable z) ∙ sym (found_tied z xs) ∙ sym (last_insert (name z) xs) in
      one_list (insert_all name ys []) (insert_all name xs []) (all_ascend ys [] tt) (all_ascend xs [] tt) agree

  -- ---- the last of a list

  pub last_ends : (q : List ℕ) (xs : List X) (x : X) → slice_get xs (length xs - 1) ≡ Some x → ends_with name q xs ≡ bytes_eq (name x) q
  last_ends q [] x is = let none : None ≡ Some x = is in absurd cc
  last_ends q (y ∷ []) x is = ap (λ (z : X). bytes_eq (name z) q) (one_value y x is)
  last_ends q (y ∷ z ∷ zs) x is = last_ends q (z ∷ zs) x (subst (λ (k : ℕ). slice_get (y ∷ z ∷ zs) k ≡ Some x) (one_more (length zs)) is)

  ends_pushed : (q : List ℕ) (front : List X) (x : X) → ends_with name q (front ++ x ∷ []) ≡ bytes_eq (name x) q
  ends_pushed q [] x = refl
  ends_pushed q (y ∷ []) x = refl
  ends_pushed q (y ∷ z ∷ zs) x = ends_pushed q (z ∷ zs) x

  -- each of these is before a name
  abbrev AreBefore : List ℕ → List X → Type 0
  AreBefore q = AllByRecursion (λ y. slice_cmp nat_cmp (name y) q ≡ Less)

  -- a name is before none of these
  abbrev BeforeNone : List ℕ → List X → Type 0
  BeforeNone q = AllByRecursion (λ y. is_lt (slice_cmp nat_cmp q (name y)) ≡ false)

  -- one goes past those before it
  insert_past : (x : X) (front more : List X) → AreBefore (name x) front → insert_named name x (front ++ more) ≡ front ++ insert_named name x more
  insert_past x [] more before = refl
  insert_past x (y ∷ ys) more before = rw (turned_back (name y) (name x) before.0, insert_past x ys more before.1)

  front_before : (front : List X) (x : X) → NamesAscend name (front ++ x ∷ []) → AreBefore (name x) front
  front_before [] x ascends = tt
  front_before (y ∷ []) x ascends = (ascends.0, tt)
  front_before (y ∷ z ∷ zs) x ascends =
      let rest = front_before (z ∷ zs) x ascends.1 in (nat_list_cmp_total.trans (name y) (name z) (name x) ascends.0 rest.0, rest)

  insert_same : (x y : X) → name y ≡ name x → insert_named name x (y ∷ []) ≡ x ∷ []
  insert_same x y same =
      subst (λ (n : List ℕ). match_ordering (slice_cmp nat_cmp (name x) n) (x ∷ y ∷ []) (x ∷ []) (y ∷ x ∷ []) ≡ x ∷ []) (sym same) (rw (tied_itself nat_list_cmp_total (name x)))

  -- one that has the name of the last goes into its place
  insert_over : (front : List X) (y x : X) → NamesAscend name (front ++ y ∷ []) → ends_with name (name x) (front ++ y ∷ []) ≡ true
      → insert_named name x (front ++ y ∷ []) ≡ front ++ x ∷ []
  insert_over front y x ascends ends =
      let same = same_name (name y) (name x) (sym (ends_pushed (name x) front y) ∙ ends) in
      insert_past x front (y ∷ []) (subst (λ (n : List ℕ). AreBefore n front) same (front_before front y ascends))
      ∙ ap (λ (zs : List X). front ++ zs) (insert_same x y same)

  before_by : (x y : X) → is_lt (slice_cmp nat_cmp (name x) (name y)) ≡ false → bytes_eq (name y) (name x) ≡ false → (o : Ordering) → slice_cmp nat_cmp (name x) (name y) ≡ o
      → slice_cmp nat_cmp (name y) (name x) ≡ Less
  before_by x y behind other Less is = absurd (true≢false (sym (ap is_lt is) ∙ behind))
  before_by x y behind other Equal is =
      absurd (true≢false (sym (itself (name x)) ∙ ap (λ (n : List ℕ). bytes_eq n (name x)) (one_name (name x) (name y) is) ∙ other))
  before_by x y behind other Greater is = turned (name x) (name y) is

  all_before : (x : X) (ys : List X) → NamesAscend name ys → BeforeNone (name x) ys → ends_with name (name x) ys ≡ false → AreBefore (name x) ys
  all_before x [] ascends behind other = tt
  all_before x (y ∷ []) ascends behind other = (before_by x y behind.0 other (slice_cmp nat_cmp (name x) (name y)) refl, tt)
  all_before x (y ∷ z ∷ zs) ascends behind other =
      let rest = all_before x (z ∷ zs) ascends.1 behind.1 other in (nat_list_cmp_total.trans (name y) (name z) (name x) ascends.0 rest.0, rest)

  -- one that has another name than the last goes after them all
  insert_end : (x : X) (ys : List X) → NamesAscend name ys → BeforeNone (name x) ys → ends_with name (name x) ys ≡ false → insert_named name x ys ≡ ys ++ x ∷ []
  insert_end x ys ascends behind other =
      ap (insert_named name x) (sym (append-nil ys)) ∙ insert_past x ys [] (all_before x ys ascends behind other)

  -- ---- what holds of each holds of those that are inserted

  holds_by : (P : X → Type 0) (x y : X) (ys more : List X) → P x → P y → AllByRecursion P ys → AllByRecursion P more → (o : Ordering)
      → AllByRecursion P (match_ordering o (x ∷ y ∷ ys) (x ∷ ys) (y ∷ more))
  holds_by P x y ys more first second rest others Less = (first, (second, rest))
  holds_by P x y ys more first second rest others Equal = (first, rest)
  holds_by P x y ys more first second rest others Greater = (second, others)

  holds_insert : (P : X → Type 0) (x : X) (ys : List X) → P x → AllByRecursion P ys → AllByRecursion P (insert_named name x ys)
  holds_insert P x [] first each = (first, tt)
  holds_insert P x (y ∷ ys) first each = holds_by P x y ys (insert_named name x ys) first each.0 each.1 (holds_insert P x ys first each.1) (slice_cmp nat_cmp (name x) (name y))

  holds_all : (P : X → Type 0) (xs found : List X) → AllByRecursion P xs → AllByRecursion P found → AllByRecursion P (insert_all name xs found)
  holds_all P [] found each others = others
  holds_all P (x ∷ xs) found each others = holds_all P xs (insert_named name x found) each.1 (holds_insert P x found each.0 others)

  -- ---- names that don't fall

  tail_up : (x : X) (xs : List X) → NamesAreSorted name (x ∷ xs) → NamesAreSorted name xs
  tail_up x xs up k d low high = subst (λ (n : ℕ). by_name (get_or (x ∷ xs) n d) (get_or xs k d) ≡ false) (plus_one k) (up (suc k) d (omega arith) (omega arith))

  before_none : (done : List X) (x : X) (rest : List X) → NamesAreSorted name (done ++ x ∷ rest) → BeforeNone (name x) done
  before_none [] x rest up = tt
  before_none (y ∷ ys) x rest up =
      let all = y ∷ (ys ++ x ∷ rest) in
      let within : suc (length ys) < length all = omega (arith, length-append ys (x ∷ rest)) in
      let far : by_name (get_or all (suc (length ys)) y) y ≡ false = sorted_far by_name (ranks_by nat_list_cmp_total name) all up 0 (suc (length ys)) y (omega arith) within in
      (subst (λ (z : X). by_name z y ≡ false) (at_middle ys x rest y) far, before_none ys x rest (tail_up y (ys ++ x ∷ rest) up))

  -- the next goes after those that were inserted, where the last has another name
  pub insert_next : (done : List X) (x : X) (rest : List X) → NamesAreSorted name (done ++ x ∷ rest) → ends_with name (name x) (insert_all name done []) ≡ false
      → insert_all name (done ++ x ∷ []) [] ≡ insert_all name done [] ++ x ∷ []
  insert_next done x rest up other =
      let behind : BeforeNone (name x) (insert_all name done []) = holds_all (λ y. is_lt (slice_cmp nat_cmp (name x) (name y)) ≡ false) done [] (before_none done x rest up) tt in
      insert_pushed done x [] ∙ insert_end x (insert_all name done []) (all_ascend done [] tt) behind other

  insert_again : (done front : List X) (y x : X) → insert_all name done [] ≡ front ++ y ∷ [] → ends_with name (name x) (insert_all name done []) ≡ true
      → insert_all name (done ++ x ∷ []) [] ≡ front ++ x ∷ []
  insert_again done front y x is ends =
      insert_pushed done x []
      ∙ ap (insert_named name x) is
      ∙ insert_over front y x (subst (NamesAscend name) is (all_ascend done [] tt)) (subst (λ (zs : List X). ends_with name (name x) zs ≡ true) is ends)

  has_last : (q : List ℕ) (xs : List X) → ends_with name q xs ≡ true → 0 < length xs
  has_last q [] ends = absurd (true≢false (sym ends))
  has_last q (x ∷ xs) ends = omega arith

  -- and into the place of the last, where that has its name
  pub insert_popped : (done front : List X) (last : Option X) (x : X) → insert_all name done [] ≡ front ++ option_to_list last → (0 < length (insert_all name done []) → IsSome last)
      → ends_with name (name x) (insert_all name done []) ≡ true → insert_all name (done ++ x ∷ []) [] ≡ front ++ x ∷ []
  insert_popped done front None x is some ends = absurd (true≢false (sym (some (has_last (name x) (insert_all name done []) ends))))
  insert_popped done front (Some y) x is some ends = insert_again done front y x is ends

  -- ---- what a test of each name and the next says

  before_each : (xs : List X) → AllAdjacentBelow (λ one next. true ≡ by_name one next) xs (length xs) → NamesAscend name xs
  before_each [] below = tt
  before_each (x ∷ []) below = (tt, tt)
  before_each (x ∷ y ∷ ys) below =
      let next : (k : ℕ) (d : X) → k + 1 < length (y ∷ ys) → true ≡ by_name (get_or (y ∷ ys) k d) (get_or (y ∷ ys) (k + 1) d)
      = λ k d within. subst (λ (n : ℕ). true ≡ by_name (get_or (y ∷ ys) k d) (get_or (x ∷ y ∷ ys) n d)) (plus_one k) (below (suc k) d (omega arith)) in
      (lt_less (slice_cmp nat_cmp (name x) (name y)) (below 0 x (omega arith)), before_each (y ∷ ys) next)

  pub ascend_by_tests : (xs : List X) (answer : Bool) → IsAllAdjacentAnswer (λ one next b. b ≡ by_name one next) xs answer → IsTrue answer → NamesAscend name xs
  ascend_by_tests xs true below ascends = before_each xs below
  ascend_by_tests xs false below ascends = absurd (true≢false (sym ascends))
