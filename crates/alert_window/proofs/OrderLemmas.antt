-- Lists in an order: what an insertion, and the last n of a list, are made of.
use Rattle.std.proofs.Common.{◌≡◌, ◌⊎◌, inl, inr, ◌↔◌, ℕ, ◌+◌, ◌<◌, ◌≤◌, Bool, true, false, cond, nat_lt, List, [], ◌∷◌, ◌++◌, length, refl, sym, ◌∙◌, ap, subst, arith}
use Rattle.std.specs.Prelude.{count_by, ⊤}
use Rattle.std.specs.declared.cmp.Ordering.{Ordering}
use Rattle.std.specs.declared.cmp.Ordering.TheVariants.{Less, Equal, Greater}
use Rattle.std.specs.Ordering.{is_lt, match_ordering}
use Rattle.std.specs.BTreeSet.{insert_key}
use Rattle.std.proofs.lemmas.Bool.{cond-true, cond-false, cases_lt, cases_Bool, lt-ltb, le-ltb}
use Rattle.std.proofs.lemmas.List.Sums.{sum_by-cons, sum_by_push}
use Rattle.alert_window.specs.inner.Kept.{keep}

-- what stands in a list
abbrev pub In : {K : Type 0} → K → List K → Type 0
In y [] = ⊥
In y (x ∷ xs) = (x ≡ y) ⊎ In y xs

-- nothing stands twice in a list
abbrev pub Apart : {K : Type 0} → List K → Type 0
Apart [] = ⊤
Apart (x ∷ xs) = ¬ (In x xs) × Apart xs

-- the laws of an order in which what is equal is the same
pub record IsOrder {K : Type 0} (cmp : K → K → Ordering) : Type 0 where
  pub flip : (x y : K) → cmp x y ≡ Greater → cmp y x ≡ Less
  pub trans : (x y z : K) → cmp x y ≡ Less → cmp y z ≡ Less → cmp x z ≡ Less
  pub same : (x y : K) → cmp x y ≡ Equal → x ≡ y
  pub self : (x : K) → cmp x x ≡ Equal

-- each comes before all after it
abbrev pub Ascend : {K : Type 0} → (K → K → Ordering) → List K → Type 0
Ascend cmp [] = ⊤
Ascend {K} cmp (x ∷ xs) = ((y : K) → In y xs → cmp x y ≡ Less) × Ascend cmp xs

by_order : {G : Type 0} (o : Ordering) → (o ≡ Less → G) → (o ≡ Equal → G) → (o ≡ Greater → G) → G
by_order Less less equal greater = less refl
by_order Equal less equal greater = equal refl
by_order Greater less equal greater = greater refl

pub bit_le : (b : Bool) → cond b 1 0 ≤ 1
bit_le true = omega arith
bit_le false = omega arith

pub count_cons : {K : Type 0} (p : K → Bool) (x : K) (xs : List K) → count_by p (x ∷ xs) ≡ cond (p x) 1 0 + count_by p xs
count_cons p x xs = sum_by-cons (λ y. cond (p y) 1 0) x xs

pub count_hit : {K : Type 0} (p : K → Bool) (x : K) (xs : List K) → p x ≡ true → count_by p (x ∷ xs) ≡ 1 + count_by p xs
count_hit p x xs h = subst (λ b. count_by p (x ∷ xs) ≡ cond b 1 0 + count_by p xs) h (count_cons p x xs)

pub count_miss : {K : Type 0} (p : K → Bool) (x : K) (xs : List K) → p x ≡ false → count_by p (x ∷ xs) ≡ count_by p xs
count_miss p x xs h =
    let e = subst (λ b. count_by p (x ∷ xs) ≡ cond b 1 0 + count_by p xs) h (count_cons p x xs) in omega arith

count_le_both : {K : Type 0} (p : K → Bool) (x : K) (xs : List K) → (b : Bool) → p x ≡ b → (count_by p xs ≤ count_by p (x ∷ xs)) × (count_by p (x ∷ xs) ≤ count_by p xs + 1)
count_le_both p x xs true h = let e = count_hit p x xs h in (omega arith, omega arith)
count_le_both p x xs false h = let e = count_miss p x xs h in (omega arith, omega arith)

pub count_more : {K : Type 0} (p : K → Bool) (x : K) (xs : List K) → count_by p xs ≤ count_by p (x ∷ xs)
count_more p x xs = (count_le_both p x xs (p x) refl).0

pub count_at_most : {K : Type 0} (p : K → Bool) (xs : List K) → count_by p xs ≤ length xs
count_at_most p [] = omega arith
count_at_most p (x ∷ xs) = let rest = count_at_most p xs in let one = (count_le_both p x xs (p x) refl).1 in omega arith

pub count_all : {K : Type 0} (p : K → Bool) (xs : List K) → ((y : K) → In y xs → p y ≡ true) → count_by p xs ≡ length xs
count_all p [] h = refl
count_all p (x ∷ xs) h =
    let rest = count_all p xs (λ y i. h y (inr i)) in let one = count_hit p x xs (h x (inl refl)) in omega arith

-- ---- the last n of a list

keep_whole : {K : Type 0} (n : ℕ) (x : K) (xs : List K) → length xs < n → keep n (x ∷ xs) ≡ x ∷ xs
keep_whole n x xs h = cond-true (nat_lt (length xs) n) (x ∷ xs) (keep n xs) (lt-ltb (length xs) n h)

keep_rest : {K : Type 0} (n : ℕ) (x : K) (xs : List K) → n ≤ length xs → keep n (x ∷ xs) ≡ keep n xs
keep_rest n x xs h = cond-false (nat_lt (length xs) n) (x ∷ xs) (keep n xs) (le-ltb (length xs) n h)

-- a list that is short enough is kept whole
pub keep_all : {K : Type 0} (n : ℕ) (xs : List K) → length xs ≤ n → keep n xs ≡ xs
keep_all n [] h = refl
keep_all n (x ∷ xs) h = keep_whole n x xs (omega arith)

-- of a list with one too many all but the first are
pub keep_tail : {K : Type 0} (n : ℕ) (x : K) (xs : List K) → length xs ≡ n → keep n (x ∷ xs) ≡ xs
keep_tail n x xs h = keep_rest n x xs (omega arith) ∙ keep_all n xs (omega arith)

keep_in : {K : Type 0} (n : ℕ) (xs : List K) (y : K) → In y (keep n xs) → In y xs
keep_in n [] y h = h
keep_in n (x ∷ xs) y h =
    elim (cases_lt (length xs) n) [
      | inl short ↦ subst (λ zs. In y zs) (keep_whole n x xs short) h
      | inr long ↦ inr (keep_in n xs y (subst (λ zs. In y zs) (keep_rest n x xs long) h))
    ]

-- ---- an insertion

module _ {K : Type 0} (cmp : K → K → Ordering) where
  ins_less : (r x : K) (xs : List K) → cmp r x ≡ Less → insert_key cmp (x ∷ xs) r ≡ r ∷ x ∷ xs
  ins_less r x xs h = ap (λ o. match_ordering o (r ∷ x ∷ xs) (x ∷ xs) (x ∷ insert_key cmp xs r)) h

  ins_equal : (r x : K) (xs : List K) → cmp r x ≡ Equal → insert_key cmp (x ∷ xs) r ≡ x ∷ xs
  ins_equal r x xs h = ap (λ o. match_ordering o (r ∷ x ∷ xs) (x ∷ xs) (x ∷ insert_key cmp xs r)) h

  ins_greater : (r x : K) (xs : List K) → cmp r x ≡ Greater → insert_key cmp (x ∷ xs) r ≡ x ∷ insert_key cmp xs r
  ins_greater r x xs h = ap (λ o. match_ordering o (r ∷ x ∷ xs) (x ∷ xs) (x ∷ insert_key cmp xs r)) h

  -- what comes before all goes to the front
  ins_first : (r : K) (xs : List K) → ((y : K) → In y xs → cmp r y ≡ Less) → insert_key cmp xs r ≡ r ∷ xs
  ins_first r [] h = refl
  ins_first r (x ∷ xs) h = ins_less r x xs (h x (inl refl))

  ins_longer : (r : K) (xs : List K) → length xs ≤ length (insert_key cmp xs r)
  ins_longer r [] = omega arith
  ins_longer r (x ∷ xs) =
      let rest : length xs ≤ length (insert_key cmp xs r) = ins_longer r xs in
      by_order (cmp r x)
      (λ h. subst (λ (zs : List K). length (x ∷ xs) ≤ length zs) (sym (ins_less r x xs h)) (omega arith))
      (λ h. subst (λ (zs : List K). length (x ∷ xs) ≤ length zs) (sym (ins_equal r x xs h)) (omega arith))
      (λ h. subst (λ (zs : List K). length (x ∷ xs) ≤ length zs) (sym (ins_greater r x xs h)) (omega arith))

module _ {K : Type 0} {cmp : K → K → Ordering} (o : IsOrder cmp) where
  -- nothing comes before itself, nor do two come before each other
  not_both : (x y : K) → cmp x y ≡ Less → cmp y x ≡ Less → ⊥
  not_both x y h k = let e = o.trans x y x h k in let s = o.self x in cc

  not_self : (x y : K) → x ≡ y → cmp x y ≡ Less → ⊥
  not_self x y e h = not_both x y h (subst (λ (z : K). cmp z x ≡ Less) e (subst (λ (z : K). cmp x z ≡ Less) (sym e) h))

  not_behind : (x y : K) → cmp x y ≡ Less → is_lt (cmp y x) ≡ false
  not_behind x y h =
      by_order (cmp y x) (λ k. absurd (not_both x y h k)) (λ k. ap is_lt k) (λ k. ap is_lt k)

  -- how many of a list stand after something
  abbrev pub behind : K → List K → ℕ
  behind y xs = count_by (λ z. is_lt (cmp y z)) xs

  none_behind_itself : (x y : K) (xs : List K) → Ascend cmp (x ∷ xs) → In y (x ∷ xs) → behind y (x ∷ xs) ≡ behind y xs
  none_behind_itself x y xs up (inl e) =
      count_miss (λ z. is_lt (cmp y z)) x xs (by_order (cmp y x) (λ k. absurd (not_self y x (sym e) k)) (λ k. ap is_lt k) (λ k. ap is_lt k))
  none_behind_itself x y xs up (inr i) = count_miss (λ z. is_lt (cmp y z)) x xs (not_behind x y (up.0 y i))

  all_behind_first : (x : K) (xs : List K) → Ascend cmp (x ∷ xs) → behind x (x ∷ xs) ≡ length xs
  all_behind_first x xs up =
      none_behind_itself x x xs up (inl refl) ∙ count_all (λ z. is_lt (cmp x z)) xs (λ y i. ap is_lt (up.0 y i))

  -- what is kept of an ascending list are those with fewer than n after them
  pub kept_few_behind : (n : ℕ) (xs : List K) (y : K) → Ascend cmp xs → In y (keep n xs) → behind y xs < n
  kept_few_behind n [] y up h = absurd h
  kept_few_behind n (x ∷ xs) y up h =
      elim (cases_lt (length xs) n) [
        | inl short ↦
            let here : In y (x ∷ xs) = keep_in n (x ∷ xs) y h in
            let e = none_behind_itself x y xs up here in
            let most = count_at_most (λ z. is_lt (cmp y z)) xs in
            omega arith
        | inr long ↦
            let inside : In y (keep n xs) = subst (λ (zs : List K). In y zs) (keep_rest n x xs long) h in
            let e = none_behind_itself x y xs up (inr (keep_in n xs y inside)) in
            let few = kept_few_behind n xs y up.1 inside in
            omega arith
      ]

  pub few_behind_kept : (n : ℕ) (xs : List K) (y : K) → Ascend cmp xs → In y xs → behind y xs < n → In y (keep n xs)
  few_behind_kept n [] y up h few = h
  few_behind_kept n (x ∷ xs) y up h few =
      elim (cases_lt (length xs) n) [
        | inl short ↦ subst (λ (zs : List K). In y zs) (sym (keep_whole n x xs short)) h
        | inr long ↦
            let e = none_behind_itself x y xs up h in
            subst (λ (zs : List K). In y zs) (sym (keep_rest n x xs long)) (
            elim h [
              | inl first ↦
                  let all = subst (λ (z : K). behind z (x ∷ xs) ≡ length xs) first (all_behind_first x xs up) in
                  absurd (omega arith)
              | inr later ↦ few_behind_kept n xs y up.1 later (omega arith)
            ]
            )
      ]

  pub kept_ascend : (n : ℕ) (xs : List K) → Ascend cmp xs → Ascend cmp (keep n xs)
  kept_ascend n [] up = up
  kept_ascend n (x ∷ xs) up =
      elim (cases_lt (length xs) n) [
        | inl short ↦ subst (λ (zs : List K). Ascend cmp zs) (sym (keep_whole n x xs short)) up
        | inr long ↦ subst (λ (zs : List K). Ascend cmp zs) (sym (keep_rest n x xs long)) (kept_ascend n xs up.1)
      ]

  -- ---- what an insertion leaves

  pub ins_from : (r y : K) (xs : List K) → In y (insert_key cmp xs r) → (r ≡ y) ⊎ In y xs
  ins_from r y [] h = h
  ins_from r y (x ∷ xs) h =
      by_order (cmp r x)
      (λ k. subst (λ (zs : List K). In y zs) (ins_less cmp r x xs k) h)
      (λ k. inr (subst (λ (zs : List K). In y zs) (ins_equal cmp r x xs k) h))
      (λ k.
      elim (subst (λ (zs : List K). In y zs) (ins_greater cmp r x xs k) h) [
        | inl e ↦ inr (inl e)
        | inr i ↦ elim (ins_from r y xs i) [ inl e ↦ inl e | inr j ↦ inr (inr j) ]
      ])

  pub ins_old : (r y : K) (xs : List K) → In y xs → In y (insert_key cmp xs r)
  ins_old r y [] h = absurd h
  ins_old r y (x ∷ xs) h =
      by_order (cmp r x)
      (λ k. subst (λ (zs : List K). In y zs) (sym (ins_less cmp r x xs k)) (inr h))
      (λ k. subst (λ (zs : List K). In y zs) (sym (ins_equal cmp r x xs k)) h)
      (λ k.
      subst (λ (zs : List K). In y zs) (sym (ins_greater cmp r x xs k)) (
      elim h [ inl e ↦ inl e | inr i ↦ inr (ins_old r y xs i) ]
      ))

  pub ins_new : (r : K) (xs : List K) → In r (insert_key cmp xs r)
  ins_new r [] = inl refl
  ins_new r (x ∷ xs) =
      by_order (cmp r x)
      (λ k. subst (λ (zs : List K). In r zs) (sym (ins_less cmp r x xs k)) (inl refl))
      (λ k. subst (λ (zs : List K). In r zs) (sym (ins_equal cmp r x xs k)) (inl (sym (o.same r x k))))
      (λ k. subst (λ (zs : List K). In r zs) (sym (ins_greater cmp r x xs k)) (inr (ins_new r xs)))

  pub ins_ascend : (r : K) (xs : List K) → Ascend cmp xs → Ascend cmp (insert_key cmp xs r)
  ins_ascend r [] up = ((λ y h. absurd h), tt)
  ins_ascend r (x ∷ xs) up =
      by_order (cmp r x)
      (λ k.
      let first : (y : K) → In y (x ∷ xs) → cmp r y ≡ Less = λ y h.
      elim h [
        | inl e ↦ subst (λ (z : K). cmp r z ≡ Less) e k
        | inr i ↦ o.trans r x y k (up.0 y i)
      ]
      in
      subst (λ (zs : List K). Ascend cmp zs) (sym (ins_less cmp r x xs k)) (first, up))
      (λ k. subst (λ (zs : List K). Ascend cmp zs) (sym (ins_equal cmp r x xs k)) up)
      (λ k.
      let first : (y : K) → In y (insert_key cmp xs r) → cmp x y ≡ Less = λ y h.
      elim (ins_from r y xs h) [
        | inl e ↦ subst (λ (z : K). cmp x z ≡ Less) e (o.flip r x k)
        | inr i ↦ up.0 y i
      ]
      in
      subst (λ (zs : List K). Ascend cmp zs) (sym (ins_greater cmp r x xs k)) (first, ins_ascend r xs up.1))

  pub ins_count : (p : K → Bool) (r : K) (xs : List K) → ¬ (In r xs) → count_by p (insert_key cmp xs r) ≡ count_by p xs + cond (p r) 1 0
  ins_count p r [] new = let e = count_cons p r [] in omega arith
  ins_count p r (x ∷ xs) new =
      let head = count_cons p x xs in
      by_order (cmp r x)
      (λ k.
      let e = count_cons p r (x ∷ xs) in
      subst (λ (zs : List K). count_by p zs ≡ count_by p (x ∷ xs) + cond (p r) 1 0) (sym (ins_less cmp r x xs k)) (omega arith))
      (λ k. absurd (new (inl (sym (o.same r x k)))))
      (λ k.
      let e = count_cons p x (insert_key cmp xs r) in
      let rest = ins_count p r xs (λ i. new (inr i)) in
      subst (λ (zs : List K). count_by p zs ≡ count_by p (x ∷ xs) + cond (p r) 1 0) (sym (ins_greater cmp r x xs k)) (omega arith))

  -- the last n after an insertion are those after one into the last n
  pub keep_ins : (n : ℕ) (r : K) (xs : List K) → Ascend cmp xs → keep n (insert_key cmp (keep n xs) r) ≡ keep n (insert_key cmp xs r)
  keep_ins n r [] up = refl
  keep_ins n r (x ∷ xs) up =
      elim (cases_lt (length xs) n) [
        | inl short ↦ ap (λ (zs : List K). keep n (insert_key cmp zs r)) (keep_whole n x xs short)
        | inr long ↦
            let deeper = ap (λ (zs : List K). keep n (insert_key cmp zs r)) (keep_rest n x xs long) ∙ keep_ins n r xs up.1 in
            let first : ((y : K) → In y xs → cmp r y ≡ Less) → keep n (insert_key cmp xs r) ≡ keep n xs = λ h.
            ap (λ (zs : List K). keep n zs) (ins_first cmp r xs h) ∙ keep_rest n r xs long
            in
            by_order (cmp r x)
            (λ k.
            let after = ap (λ (zs : List K). keep n zs) (ins_less cmp r x xs k) ∙ keep_rest n r (x ∷ xs) (omega arith) ∙ keep_rest n x xs long in
            deeper ∙ first (λ y i. o.trans r x y k (up.0 y i)) ∙ sym after)
            (λ k.
            let after = ap (λ (zs : List K). keep n zs) (ins_equal cmp r x xs k) ∙ keep_rest n x xs long in
            let same = o.same r x k in
            deeper ∙ first (λ y i. subst (λ (z : K). cmp z y ≡ Less) (sym same) (up.0 y i)) ∙ sym after)
            (λ k.
            let longer = ins_longer cmp r xs in
            let after = ap (λ (zs : List K). keep n zs) (ins_greater cmp r x xs k) ∙ keep_rest n x (insert_key cmp xs r) (omega arith) in
            deeper ∙ sym after)
      ]

  -- ---- one ascending list

  pub same_ascending : (xs ys : List K) → Ascend cmp xs → Ascend cmp ys → ((y : K) → In y xs → In y ys) → ((y : K) → In y ys → In y xs) → xs ≡ ys
  same_ascending [] [] up up' to from = refl
  same_ascending [] (y ∷ ys) up up' to from = absurd (from y (inl refl))
  same_ascending (x ∷ xs) [] up up' to from = absurd (to x (inl refl))
  same_ascending (x ∷ xs) (y ∷ ys) up up' to from =
      let first : x ≡ y =
      elim (to x (inl refl)) [
        | inl e ↦ sym e
        | inr i ↦ elim (from y (inl refl)) [ inl e ↦ e | inr j ↦ absurd (not_both x y (up.0 y j) (up'.0 x i)) ]
      ]
      in
      let to' : (z : K) → In z xs → In z ys = λ z i.
      elim (to z (inr i)) [ inl e ↦ absurd (not_self x z (first ∙ e) (up.0 z i)) | inr j ↦ j ]
      in
      let from' : (z : K) → In z ys → In z xs = λ z i.
      elim (from z (inr i)) [ inl e ↦ absurd (not_self y z (sym first ∙ e) (up'.0 z i)) | inr j ↦ j ]
      in
      let rest : xs ≡ ys = same_ascending xs ys up.1 up'.1 to' from' in
      cc

  -- ---- a list in order

  abbrev pub sorted : List K → List K
  sorted [] = []
  sorted (x ∷ xs) = insert_key cmp (sorted xs) x

  pub sorted_ascend : (xs : List K) → Ascend cmp (sorted xs)
  sorted_ascend [] = tt
  sorted_ascend (x ∷ xs) = ins_ascend x (sorted xs) (sorted_ascend xs)

  pub sorted_from : (y : K) (xs : List K) → In y (sorted xs) → In y xs
  sorted_from y [] h = h
  sorted_from y (x ∷ xs) h = elim (ins_from x y (sorted xs) h) [ inl e ↦ inl e | inr i ↦ inr (sorted_from y xs i) ]

  pub in_sorted : (y : K) (xs : List K) → In y xs → In y (sorted xs)
  in_sorted y [] h = h
  in_sorted y (x ∷ xs) (inl e) = subst (λ (z : K). In z (insert_key cmp (sorted xs) x)) e (ins_new x (sorted xs))
  in_sorted y (x ∷ xs) (inr i) = ins_old x y (sorted xs) (in_sorted y xs i)

  pub sorted_count : (p : K → Bool) (xs : List K) → Apart xs → count_by p (sorted xs) ≡ count_by p xs
  sorted_count p [] apart = refl
  sorted_count p (x ∷ xs) apart =
      let e = ins_count p x (sorted xs) (λ i. apart.0 (sorted_from x xs i)) in
      let rest = sorted_count p xs apart.1 in
      let head = count_cons p x xs in
      omega arith

-- ---- the last n of a list by what is after them

-- an ascending list of what stands in a list and has fewer than n after it there
pub record IsLast {K : Type 0} (cmp : K → K → Ordering) (n : ℕ) (xs last : List K) : Type 0 where
  pub ascend : Ascend cmp last
  pub from : (y : K) → In y last → In y xs × (count_by (λ z. is_lt (cmp y z)) xs < n)
  pub all : (y : K) → In y xs → count_by (λ z. is_lt (cmp y z)) xs < n → In y last

push_from : {K : Type 0} (y x : K) (xs : List K) → In y (xs ++ x ∷ []) → (x ≡ y) ⊎ In y xs
push_from y x [] h = h
push_from y x (z ∷ zs) (inl e) = inr (inl e)
push_from y x (z ∷ zs) (inr i) = elim (push_from y x zs i) [ inl e ↦ inl e | inr j ↦ inr (inr j) ]

in_push : {K : Type 0} (y x : K) (xs : List K) → (x ≡ y) ⊎ In y xs → In y (xs ++ x ∷ [])
in_push y x [] h = h
in_push y x (z ∷ zs) (inl e) = inr (in_push y x zs (inl e))
in_push y x (z ∷ zs) (inr (inl e)) = inl e
in_push y x (z ∷ zs) (inr (inr i)) = inr (in_push y x zs (inr i))

module _ {K : Type 0} {cmp : K → K → Ordering} (o : IsOrder cmp) where
  -- of a list in order it is what is kept
  pub last_is_kept : (n : ℕ) (xs last : List K) → Apart xs → IsLast cmp n xs last → last ≡ keep n (sorted o xs)
  last_is_kept n xs last apart h =
      let count : (y : K) → behind o y (sorted o xs) ≡ behind o y xs = λ y. sorted_count o (λ z. is_lt (cmp y z)) xs apart in
      let up = sorted_ascend o xs in
      same_ascending o last (keep n (sorted o xs)) h.ascend (kept_ascend o n (sorted o xs) up)
      (λ y i.
      let at = h.from y i in let e = count y in few_behind_kept o n (sorted o xs) y up (in_sorted o y xs at.0) (omega arith))
      (λ y i.
      let few = kept_few_behind o n (sorted o xs) y up i in
      let e = count y in
      h.all y (sorted_from o y xs (keep_in n (sorted o xs) y i)) (omega arith))

  -- with one more at the end of the list
  pub last_continues : (n : ℕ) (r : K) (xs last : List K) → Apart xs → ¬ (In r xs) → IsLast cmp n xs last → IsLast cmp n (xs ++ r ∷ []) (keep n (insert_key cmp last r))
  last_continues n r xs last apart new h =
      let all = sorted o xs in
      let rows : List K = insert_key cmp all r in
      let up : Ascend cmp rows = ins_ascend o r all (sorted_ascend o xs) in
      let kept : keep n (insert_key cmp last r) ≡ keep n rows =
      ap (λ (zs : List K). keep n (insert_key cmp zs r)) (last_is_kept n xs last apart h) ∙ keep_ins o n r all (sorted_ascend o xs)
      in
      let count : (y : K) → behind o y rows ≡ behind o y (xs ++ r ∷ []) = λ y.
      let e = ins_count o (λ z. is_lt (cmp y z)) r all (λ i. new (sorted_from o r xs i)) in
      let e' = sorted_count o (λ z. is_lt (cmp y z)) xs apart in
      let e'' = sum_by_push (λ z. cond (is_lt (cmp y z)) 1 0) xs r in
      omega arith
      in
      subst (λ (zs : List K). IsLast cmp n (xs ++ r ∷ []) zs) (sym kept) (
      record {
        ascend = kept_ascend o n rows up;
        from = λ y i.
            let few = kept_few_behind o n rows y up i in
            let e = count y in
            let here : (r ≡ y) ⊎ In y xs =
            elim (ins_from o r y all (keep_in n rows y i)) [ inl e ↦ inl e | inr j ↦ inr (sorted_from o y xs j) ]
            in
            (in_push y r xs here, omega arith);
        all = λ y i few.
            let e = count y in
            let here : In y rows =
            elim (push_from y r xs i) [
              | inl e ↦ subst (λ (z : K). In z rows) e (ins_new o r all)
              | inr j ↦ ins_old o r y all (in_sorted o y xs j)
            ]
            in
            few_behind_kept o n rows y up here (omega arith);
      }
      )

-- ---- how many pass a test that what is after passes too

-- a full list whose first passes
abbrev pub FullFrom : {K : Type 0} → (K → Bool) → ℕ → List K → Type 0
FullFrom p n [] = ⊥
FullFrom p n (x ∷ xs) = (n ≤ length (x ∷ xs)) × (p x ≡ true)

module _ {K : Type 0} (cmp : K → K → Ordering) (p : K → Bool) (continues : (x y : K) → cmp x y ≡ Less → p x ≡ true → p y ≡ true) where
  all_from_first : (x : K) (xs : List K) → Ascend cmp (x ∷ xs) → p x ≡ true → count_by p (x ∷ xs) ≡ length (x ∷ xs)
  all_from_first x xs up h =
      count_all p (x ∷ xs) (λ y i. elim i [ inl e ↦ subst (λ (z : K). p z ≡ true) e h | inr j ↦ continues x y (up.0 y j) h ])

  -- n of an ascending list pass exactly where its last n do
  pub full_from_enough : (n : ℕ) (xs : List K) → 1 ≤ n → Ascend cmp xs → n ≤ count_by p xs → FullFrom p n (keep n xs)
  full_from_enough n [] some up h = absurd (omega arith)
  full_from_enough n (x ∷ xs) some up h =
      let most = count_at_most p xs in
      elim (cases_Bool (p x)) [
        | inl passes ↦
            let all = all_from_first x xs up passes in
            elim (cases_lt (length xs) n) [
              | inl short ↦ subst (λ (zs : List K). FullFrom p n zs) (sym (keep_whole n x xs short)) (omega arith, passes)
              | inr long ↦
                  let hit = count_hit p x xs passes in
                  subst (λ (zs : List K). FullFrom p n zs) (sym (keep_rest n x xs long)) (full_from_enough n xs some up.1 (omega arith))
            ]
        | inr fails ↦
            let miss = count_miss p x xs fails in
            subst (λ (zs : List K). FullFrom p n zs) (sym (keep_rest n x xs (omega arith))) (full_from_enough n xs some up.1 (omega arith))
      ]

  pub enough_from_full : (n : ℕ) (xs : List K) → Ascend cmp xs → FullFrom p n (keep n xs) → n ≤ count_by p xs
  enough_from_full n [] up h = absurd h
  enough_from_full n (x ∷ xs) up h =
      elim (cases_lt (length xs) n) [
        | inl short ↦
            let full = subst (λ (zs : List K). FullFrom p n zs) (keep_whole n x xs short) h in
            let all = all_from_first x xs up full.1 in
            omega arith
        | inr long ↦
            let rest = enough_from_full n xs up.1 (subst (λ (zs : List K). FullFrom p n zs) (keep_rest n x xs long) h) in
            let more = count_more p x xs in
            omega arith
      ]

module _ {K : Type 0} {cmp : K → K → Ordering} (o : IsOrder cmp) (p : K → Bool) (continues : (x y : K) → cmp x y ≡ Less → p x ≡ true → p y ≡ true) where
  -- n of a list pass exactly where its last n do
  pub enough_is_full : (n : ℕ) (xs last : List K) → 1 ≤ n → Apart xs → IsLast cmp n xs last → (n ≤ count_by p xs) ↔ FullFrom p n last
  enough_is_full n xs last some apart h =
      let e : last ≡ keep n (sorted o xs) = last_is_kept o n xs last apart h in
      let count : count_by p (sorted o xs) ≡ count_by p xs = sorted_count o p xs apart in (
        λ enough. subst (λ (zs : List K). FullFrom p n zs) (sym e) (full_from_enough cmp p continues n (sorted o xs) some (sorted_ascend o xs) (omega arith)),
        λ full.
            let enough = enough_from_full cmp p continues n (sorted o xs) (sorted_ascend o xs) (subst (λ (zs : List K). FullFrom p n zs) e full) in
            omega arith,
      )
