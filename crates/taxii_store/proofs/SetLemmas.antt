-- Keys in order: that they are those of a list, and what a look-up finds among them.
use Rattle.std.proofs.Common.{◌≡◌, ◌⊎◌, ◌&&◌, true, false, nat_eq, bytes_eq, inl, inr, ℕ, zero, suc, [], ◌∷◌, ◌++◌, ◌+◌, ◌<◌, List, Bool, IsTrue, ◌↔◌, Result, Ok, Err, refl, sym, ap, ◌∙◌, subst, nat_cmp, arith, Bor, length, map, get_or, take}
use Rattle.std.specs.List.{Contains}
use Rattle.std.specs.List.{dedup}
use Rattle.std.specs.List.Retain.{IsFiltered, DiffersFromLast}
use Rattle.std.specs.List.Sorted.{IsSorted, IsStrictlySortedBy, IsBinarySearchResult, IsSearchInRange, IsPermutation}
use Rattle.std.specs.Ordering.{ordering_then, ordering_reverse, is_lt, is_eq, eq_by_cmp}
use Rattle.std.specs.Cmp.{IsTotalOrder, IsEquivalence, both_tied, unsigned_ties}
use Rattle.std.specs.Result.{is_ok}
use Rattle.std.specs.declared.cmp.Ordering.{Ordering}
use Rattle.std.specs.declared.cmp.Ordering.TheVariants.{Less, Equal, Greater}
use Rattle.std.specs.Cmp.Lexicographic.{slice_cmp, lists_ties}
use Rattle.std.proofs.lemmas.Bool.{false≢true, cases_lt}
use Rattle.std.proofs.lemmas.Cmp.{nat_cmp_total, nat_list_cmp_total, tied_itself, on_total, then_total, on_equiv, and_equiv, nat_eq_equiv, nat_list_eq_equiv}
use Rattle.std.proofs.lemmas.Map.Lookups.{exact_unsigned, exact_bytes}
use Rattle.std.proofs.lemmas.List.{take_more, map-append}
use Rattle.std.proofs.lemmas.List.Elements.{Contains-get_or}
use Rattle.std.proofs.lemmas.List.Filters.{dedup_is}
use Rattle.std.proofs.lemmas.List.Kept.{IsStrictlySortedBy-dedup, Any-dedup, Contains-from_dedup}
use Rattle.std.proofs.lemmas.List.Sorted.{searchable_from_sorted, Contains-permutation, IsPermutation-map, IsPermutation-sym}
use Rattle.stix_ids.specs.declared.id.Id.{Id}
use native.Mathlib.Numerals.{unary_clauses}
use Rattle.taxii_store.specs.inner.Sets.{NumberedTextKey, draft_key_cmp, key_parts, AreKeysOf, measured, HasTexts, number_and_kind, HasIds}

-- ---- what stands in a list after a map

later : {X : Type 0} (first : X) (xs : List X) (x : X) → Contains xs x → Contains (first ∷ xs) x
later first xs x here = (suc here.0, omega (arith, here.1), here.2)

mapped_at : {X Y : Type 0} (f : X → Y) (first : X) (xs : List X) (x : X) (k : ℕ) → k < length (first ∷ xs) → get_or (first ∷ xs) k x ≡ x → (Contains xs x → Contains (map f xs) (f x))
    → Contains (map f (first ∷ xs)) (f x)
mapped_at f first xs x zero within is rest = (0, omega arith, ap f is)
mapped_at f first xs x (suc k) within is rest = later (f first) (map f xs) (f x) (rest (k, omega arith, is))

mapped : {X Y : Type 0} (f : X → Y) (xs : List X) (x : X) → Contains xs x → Contains (map f xs) (f x)
mapped f [] x here = absurd (omega (arith, here.1))
mapped f (first ∷ xs) x here = mapped_at f first xs x here.0 here.1 here.2 (mapped f xs x)

unmapped_at : {X Y : Type 0} (f : X → Y) (first : X) (xs : List X) (y : Y) (k : ℕ) → k < length (f first ∷ map f xs) → get_or (f first ∷ map f xs) k y ≡ y
    → (Contains (map f xs) y → (x : X) × Contains xs x × (f x ≡ y)) → (x : X) × Contains (first ∷ xs) x × (f x ≡ y)
unmapped_at f first xs y zero within is rest = (first, (0, omega arith, refl), is)
unmapped_at f first xs y (suc k) within is rest = let found = rest (k, omega arith, is) in (found.0, later first xs found.0 found.1, found.2)

unmapped : {X Y : Type 0} (f : X → Y) (xs : List X) (y : Y) → Contains (map f xs) y → (x : X) × Contains xs x × (f x ≡ y)
unmapped f [] y here = absurd (omega (arith, here.1))
unmapped f (first ∷ xs) y here = unmapped_at f first xs y here.0 here.1 here.2 (unmapped f xs y)

-- ---- what an order says

-- keys of which each is below those after it stand in order
less_not_back : (o : Ordering) → o ≡ Less → is_lt (ordering_reverse o) ≡ false
less_not_back Less is = refl
less_not_back Equal is = absurd (cc)
less_not_back Greater is = absurd (cc)

strict_sorted : {K : Type 0} (cmp : K → K → Ordering) → IsTotalOrder cmp → (keys : List K) → IsStrictlySortedBy cmp keys → IsSorted cmp keys
unfolding IsStrictlySortedBy
strict_sorted cmp total [] strict k d from within = absurd (omega (arith, within))
strict_sorted cmp total (x ∷ []) strict k d from within = absurd (omega (arith, within))
strict_sorted cmp total (x ∷ y ∷ keys) strict zero d from within = ap is_lt (total.antisymm y x) ∙ less_not_back (cmp x y) strict.0.0
strict_sorted cmp total (x ∷ y ∷ keys) strict (suc k) d from within =
    let behind = strict_sorted cmp total (y ∷ keys) strict.1 k d (omega arith) (omega (arith, within)) in
    let behind = simp unary_clauses at behind in
    simp unary_clauses behind

equal : (o : Ordering) → is_eq o ≡ true → o ≡ Equal
equal Less is = absurd (false≢true is)
equal Equal is = refl
equal Greater is = absurd (false≢true is)

never_tied : (o : Ordering) → (o ≡ Less) ⊎ (o ≡ Greater) → o ≡ Equal → ⊥
never_tied o (inl less) tied = let two : Less ≡ Equal = sym less ∙ tied in absurd cc
never_tied o (inr greater) tied = let two : Greater ≡ Equal = sym greater ∙ tied in absurd cc

-- ---- the order of keys

then_equal : (one other : Ordering) → ordering_then one other ≡ Equal → (one ≡ Equal) × (other ≡ Equal)
then_equal Less other is = absurd (cc)
then_equal Equal other is = (refl, is)
then_equal Greater other is = absurd (cc)

then_both : (one other : Ordering) → one ≡ Equal → other ≡ Equal → ordering_then one other ≡ Equal
then_both one other first second = ap (λ (o : Ordering). ordering_then o other) first ∙ second

key_exact : (x y : NumberedTextKey) → draft_key_cmp x y ≡ Equal → key_parts x ≡ key_parts y
key_exact x y same =
    let both = then_equal (nat_cmp x.0 y.0) (slice_cmp nat_cmp x.1.now y.1.now) same in
    ap (λ (number : ℕ). let parts : ℕ × List ℕ = (number, x.1.now) in parts) (exact_unsigned x.0 y.0 both.0)
    ∙ ap (λ (text : List ℕ). let parts : ℕ × List ℕ = (y.0, text) in parts) (exact_bytes x.1.now y.1.now both.1)

key_tied : (x y : NumberedTextKey) → key_parts x ≡ key_parts y → draft_key_cmp x y ≡ Equal
key_tied x y same = then_both (nat_cmp x.0 y.0) (slice_cmp nat_cmp x.1.now y.1.now)
    (subst (λ (number : ℕ). nat_cmp x.0 number ≡ Equal) (ap (λ (parts : ℕ × List ℕ). parts.0) same) (tied_itself nat_cmp_total x.0))
    (subst (λ (text : List ℕ). slice_cmp nat_cmp x.1.now text ≡ Equal) (ap (λ (parts : ℕ × List ℕ). parts.1) same) (tied_itself nat_list_cmp_total x.1.now))

key_total : IsTotalOrder draft_key_cmp
key_total = then_total (on_total (λ (key : NumberedTextKey). key.0) nat_cmp_total) (on_total (λ (key : NumberedTextKey). key.1.now) nat_list_cmp_total)

abbrev pub key_eq : NumberedTextKey → NumberedTextKey → Bool
key_eq x y = nat_eq x.0 y.0 && bytes_eq x.1.now y.1.now

key_equiv : IsEquivalence key_eq
key_equiv = and_equiv (on_equiv (λ (key : NumberedTextKey). key.0) nat_eq_equiv) (on_equiv (λ (key : NumberedTextKey). key.1.now) nat_list_eq_equiv)

key_ties : (x y : NumberedTextKey) → key_eq x y ≡ eq_by_cmp draft_key_cmp x y
key_ties x y = both_tied _ _ (nat_cmp x.0 y.0) (slice_cmp nat_cmp x.1.now y.1.now) (unsigned_ties x.0 y.0) (lists_ties nat_cmp unsigned_ties x.1.now y.1.now)

-- ---- keys of a list

sorted_keys : (items : List (ℕ × List ℕ)) (keys sorted : List NumberedTextKey) → map key_parts keys ≡ items → IsPermutation keys sorted → IsSorted draft_key_cmp sorted → AreKeysOf items sorted
sorted_keys items keys sorted is shifted ordered = record {
  ordered = ordered;
  same = λ item. (
    λ here. subst (λ (all : List (ℕ × List ℕ)). Contains all item) is (Contains-permutation _ _ item (IsPermutation-sym _ _ (IsPermutation-map key_parts _ _ shifted)) here),
    λ here. Contains-permutation _ _ item (IsPermutation-map key_parts _ _ shifted) (subst (λ (all : List (ℕ × List ℕ)). Contains all item) (sym is) here),
  );
}

-- without those that come twice
keys_once : (items : List (ℕ × List ℕ)) (keys once : List NumberedTextKey) → AreKeysOf items keys → IsFiltered (DiffersFromLast key_eq) [] keys once → AreKeysOf items once
keys_once items keys once are filtered = subst (AreKeysOf items) (sym (dedup_is key_eq keys once filtered)) (record {
  ordered = strict_sorted draft_key_cmp key_total (dedup key_eq keys) (IsStrictlySortedBy-dedup key_total key_ties keys are.ordered);
  same = λ item. (
    λ here. let own = unmapped key_parts (dedup key_eq keys) item here in
        (are.same item).0 (subst (Contains (map key_parts keys)) own.2 (mapped key_parts keys own.0 (Contains-from_dedup key_eq keys own.0 own.1))),
    λ here.
        let own = unmapped key_parts keys item ((are.same item).1 here) in
        let kept = Any-dedup key_equiv keys own.0 own.1 in
        let same : key_parts kept.1 ≡ item = sym (key_exact own.0 kept.1 (equal (draft_key_cmp own.0 kept.1) (sym (key_ties own.0 kept.1) ∙ kept.4))) ∙ own.2 in
        subst (Contains (map key_parts (dedup key_eq keys))) same (mapped key_parts (dedup key_eq keys) kept.1 (kept.0, kept.2, kept.3)),
  );
})

-- keys that are sorted, and then those that come twice dropped
pub keys_of : (items : List (ℕ × List ℕ)) (row sorted once : List NumberedTextKey) → map key_parts row ≡ items → IsPermutation row sorted → IsSorted draft_key_cmp sorted
    → IsFiltered (DiffersFromLast key_eq) [] sorted once → AreKeysOf items once
keys_of items row sorted once is shifted ordered filtered = keys_once items sorted once (sorted_keys items row sorted is shifted ordered) filtered

-- ---- what a look-up finds

searched : (keys : List NumberedTextKey) (key : NumberedTextKey) (answer : Result ℕ ℕ) → IsSorted draft_key_cmp keys → IsSearchInRange answer (length keys) → IsBinarySearchResult (λ one. draft_key_cmp one key) keys answer
    → IsTrue (is_ok answer) ↔ Contains (map key_parts keys) (key_parts key)
searched keys key (Ok at) ordered within found = (
  λ _. subst (Contains (map key_parts keys)) (key_exact (get_or keys at key) key (found key)) (mapped key_parts keys (get_or keys at key) (Contains-get_or keys at key within)),
  λ _. refl,
)
searched keys key (Err at) ordered within point = (
  λ holds. absurd (false≢true holds),
  λ here.
      let own = unmapped key_parts keys (key_parts key) here in
      let there = own.1 in
      let apart = point (searchable_from_sorted key_total (λ one. one) keys key ordered) in
      let same : draft_key_cmp (get_or keys there.0 own.0) key ≡ Equal = key_tied (get_or keys there.0 own.0) key (ap key_parts there.2 ∙ own.2) in
      absurd (elim (cases_lt there.0 at) [
        | inl below ↦ never_tied (draft_key_cmp (get_or keys there.0 own.0) key) (inl (apart.0 there.0 own.0 (omega arith) below)) same
        | inr above ↦ never_tied (draft_key_cmp (get_or keys there.0 own.0) key) (inr (apart.1 there.0 own.0 above there.1)) same
      ]),
)

-- a key is found where the item that it is of stands in the list
found_key : {X : Type 0} (f : X → ℕ × List ℕ) → ((x y : X) → f x ≡ f y → x ≡ y) → (xs : List X) (lent keys : List NumberedTextKey) (key : NumberedTextKey) (x : X) (answer : Result ℕ ℕ) (found : Bool)
    → lent ≡ keys → found ≡ is_ok answer → key_parts key ≡ f x → AreKeysOf (map f xs) keys → IsSearchInRange answer (length lent) → IsBinarySearchResult (λ one. draft_key_cmp one key) lent answer
    → IsTrue found ↔ Contains xs x
found_key f back xs lent keys key x answer found same is own are within position =
    let observable = subst (λ (item : ℕ × List ℕ). IsTrue (is_ok answer) ↔ Contains (map key_parts keys) item) own
    (subst (λ (all : List NumberedTextKey). IsTrue (is_ok answer) ↔ Contains (map key_parts all) (key_parts key)) same (searched lent key answer (subst (IsSorted draft_key_cmp) (sym same) are.ordered) within position)) in
    let kept = are.same (f x) in (
      λ holds. let there = unmapped f xs (f x) (kept.0 (observable.0 (sym is ∙ holds))) in subst (Contains xs) (back there.0 x there.2) there.1,
      λ here. is ∙ observable.1 (kept.1 (mapped f xs x here)),
    )

-- ---- texts and identifiers

pub found_text : (texts : List (List ℕ)) (lent set : List NumberedTextKey) (text : Bor (List ℕ)) (answer : Result ℕ ℕ) (found : Bool) → lent ≡ set → found ≡ is_ok answer → HasTexts texts set
    → IsSearchInRange answer (length lent) → IsBinarySearchResult (λ one. draft_key_cmp one (length text.now, text)) lent answer → IsTrue found ↔ Contains texts text.now
unfolding HasTexts
found_text texts lent set text answer found same is =
    found_key measured (λ x y same. ap (λ (parts : ℕ × List ℕ). parts.1) same) texts lent set (length text.now, text) text.now answer found same is refl

pub found_id : (ids : List Id) (lent set : List NumberedTextKey) (key : NumberedTextKey) (id : Id) (answer : Result ℕ ℕ) (found : Bool) → lent ≡ set → found ≡ is_ok answer → key_parts key ≡ number_and_kind id
    → HasIds ids set → IsSearchInRange answer (length lent) → IsBinarySearchResult (λ one. draft_key_cmp one key) lent answer → IsTrue found ↔ Contains ids id
unfolding HasIds
found_id = found_key number_and_kind (λ x y same. ap (λ (parts : ℕ × List ℕ). let id : Id = record { kind = parts.1; number = parts.0 } in id) same)

-- one more key after those of the first identifiers
pub next_id : (ids : List Id) (row : List NumberedTextKey) (i : ℕ) (key : NumberedTextKey) (id : Id) → i < length ids → id ≡ get_or ids i id → key_parts key ≡ number_and_kind id
    → map key_parts row ≡ map number_and_kind (take i ids) → map key_parts (row ++ key ∷ []) ≡ map number_and_kind (take (i + 1) ids)
next_id ids row i key id within is own so_far =
    map-append key_parts row (key ∷ []) ∙ ap (λ (front : List (ℕ × List ℕ)). front ++ key_parts key ∷ []) so_far
    ∙ ap (λ (one : ℕ × List ℕ). map number_and_kind (take i ids) ++ one ∷ []) (own ∙ ap number_and_kind is)
    ∙ sym (ap (map number_and_kind) (take_more ids i id within) ∙ map-append number_and_kind (take i ids) (get_or ids i id ∷ []))
