-- Sets of keys: what they have after a key is added or taken out.
use Rattle.std.proofs.Common.{nat_eq, not, ◌||◌, ◌≡◌, ℕ, ℤ, List, [], ◌∷◌, ◌++◌, Bool, true, false, cond, inl, inr, refl, sym, ap, ◌∙◌, subst, filter, nat_cmp}
use Rattle.std.specs.List.{Contains, list_any}
use Rattle.std.specs.Cmp.{IsTotalOrder}
use Rattle.std.specs.declared.cmp.Ordering.{Ordering}
use Rattle.std.specs.declared.cmp.Ordering.TheVariants.{Less, Equal, Greater}
use Rattle.std.specs.Ordering.{ordering_then, int_cmp, is_eq}
use Rattle.std.specs.BTreeSet.{BTreeSet, contains}
use Rattle.std.proofs.lemmas.Bool.{false≢true, not_from_false, not-true, or_from, or_parts, false_from_ne_true, eqb-true, eq-eqb}
use Rattle.std.proofs.lemmas.Cmp.{nat_cmp_total, int_cmp_total, on_total, then_total, tied_itself}
use Rattle.std.proofs.lemmas.Map.Lookups.{exact_unsigned, exact_signed}
use Rattle.std.proofs.lemmas.List.Elements.{Contains-push, Contains-push_cases, Contains-append_left}
use Rattle.std.proofs.lemmas.List.Folds.{Any-from_list_any, list_any_at, list_any-append}
use Rattle.taxii_rows.specs.Keeper.{is_date_in}
use Rattle.taxii_index.specs.Keys.{Key, key_cmp, HasKeys, HasKeysBut, IsUniqueIn}
use Rattle.taxii_index.proofs.ListLemmas.{Contains-filter, Contains-from_filter}

pub key_total : IsTotalOrder key_cmp
key_total =
    then_total (then_total (on_total (λ (key : Key). key.0) nat_cmp_total) (on_total (λ (key : Key). key.1) int_cmp_total)) (on_total (λ (key : Key). key.2) nat_cmp_total)

then_equal : (one other : Ordering) → ordering_then one other ≡ Equal → (one ≡ Equal) × (other ≡ Equal)
then_equal Less other is = absurd (cc)
then_equal Equal other is = (refl, is)
then_equal Greater other is = absurd (cc)

pub equal : (order : Ordering) → is_eq order ≡ true → order ≡ Equal
equal Less holds = absurd (false≢true holds)
equal Equal holds = refl
equal Greater holds = absurd (false≢true holds)

three : (key other : Key) → key.0 ≡ other.0 → key.1 ≡ other.1 → key.2 ≡ other.2 → key ≡ other
three key other name number date =
    ap (λ (n : ℕ). let k : Key = (n, key.1, key.2) in k) name ∙ ap (λ (n : ℤ). let k : Key = (other.0, n, key.2) in k) number
    ∙ ap (λ (n : ℕ). let k : Key = (other.0, other.1, n) in k) date

-- keys that compare as equal are one
pub key_same : (key other : Key) → is_eq (key_cmp key other) ≡ true → key ≡ other
key_same key other holds =
    let all = then_equal (ordering_then (nat_cmp key.0 other.0) (int_cmp key.1 other.1)) (nat_cmp key.2 other.2) (equal (key_cmp key other) holds) in
    let two = then_equal (nat_cmp key.0 other.0) (int_cmp key.1 other.1) all.0 in
    three key other (exact_unsigned key.0 other.0 two.0) (exact_signed key.1 other.1 two.1) (exact_unsigned key.2 other.2 all.1)

pub key_itself : (key : Key) → is_eq (key_cmp key key) ≡ true
key_itself key = ap is_eq (tied_itself key_total key)

-- a set has the keys that stand in its list
pub contained : (set : BTreeSet Key) (key : Key) → contains key_cmp set key ≡ true → Contains set.keys key
contained set key holds =
    let found = Any-from_list_any (λ (other : Key). is_eq (key_cmp key other)) set.keys holds in
    let same : key ≡ found.1 = key_same key found.1 found.4 in
    subst (Contains set.keys) (sym same) (found.0, found.2, found.3)

pub contains_listed : (set : BTreeSet Key) (key : Key) → Contains set.keys key → contains key_cmp set key ≡ true
contains_listed set key here =
    list_any_at (λ (other : Key). is_eq (key_cmp key other)) set.keys here.0 key here.1 (ap (λ (other : Key). is_eq (key_cmp key other)) here.2 ∙ key_itself key)

added : (keys : List Key) (key other : Key) (old : Bool) (here : Bool) → is_eq (key_cmp key other) ≡ here → (old ≡ true → Contains keys other)
    → cond here true old ≡ true → Contains (keys ++ key ∷ []) other
added keys key other old true same has holds = subst (Contains (keys ++ key ∷ [])) (key_same key other same) (Contains-push keys key)
added keys key other old false same has holds = Contains-append_left keys (key ∷ []) other (has holds)

still : (here old : Bool) → old ≡ true → cond here true old ≡ true
still true old holds = refl
still false old holds = holds

-- one more key
pub keys_with : (keys : List Key) (key : Key) (old new : BTreeSet Key) → HasKeys keys old
    → ((other : Key) → contains key_cmp new other ≡ cond (is_eq (key_cmp key other)) true (contains key_cmp old other)) → HasKeys (keys ++ key ∷ []) new
keys_with keys key old new has updates other = (
  λ holds. added keys key other (contains key_cmp old other) (is_eq (key_cmp key other)) refl (has other).0 (sym (updates other) ∙ holds),
  λ here. updates other ∙ elim (Contains-push_cases keys key other here) [
    | inl before ↦ still (is_eq (key_cmp key other)) (contains key_cmp old other) ((has other).1 before)
    | inr same ↦ ap (λ found. cond found true (contains key_cmp old other)) (subst (λ (k : Key). is_eq (key_cmp key k) ≡ true) same (key_itself key))
  ],
)

left : (keys : List Key) (key other : Key) (old : Bool) (here : Bool) → is_eq (key_cmp key other) ≡ here → (old ≡ true → Contains (keys ++ key ∷ []) other)
    → cond here false old ≡ true → Contains keys other
left keys key other old true same has holds = absurd (false≢true holds)
left keys key other old false same has holds = elim (Contains-push_cases keys key other (has holds)) [
  | inl before ↦ before
  | inr is ↦ absurd (false≢true (sym same ∙ subst (λ (k : Key). is_eq (key_cmp key k) ≡ true) is (key_itself key)))
]

stays : (keys : List Key) (key other : Key) (old : Bool) (here : Bool) → is_eq (key_cmp key other) ≡ here → ¬ Contains keys key → Contains keys other
    → old ≡ true → cond here false old ≡ true
stays keys key other old true same other_keys here holds = absurd (other_keys (subst (Contains keys) (sym (key_same key other same)) here))
stays keys key other old false same other_keys here holds = holds

-- without the last key, where it isn't one of the others
pub keys_without : (keys : List Key) (key : Key) (old new : BTreeSet Key) → ¬ Contains keys key → HasKeys (keys ++ key ∷ []) old
    → ((other : Key) → contains key_cmp new other ≡ cond (is_eq (key_cmp key other)) false (contains key_cmp old other)) → HasKeys keys new
keys_without keys key old new apart has updates other = (
  λ holds. left keys key other (contains key_cmp old other) (is_eq (key_cmp key other)) refl (has other).0 (sym (updates other) ∙ holds),
  λ here. updates other
      ∙ stays keys key other (contains key_cmp old other) (is_eq (key_cmp key other)) refl apart here ((has other).1 (Contains-append_left keys (key ∷ []) other here)),
)

-- a set that was made of all keys at once
pub keys_made : (keys : List Key) (set : BTreeSet Key) → ((key : Key) → contains key_cmp set key ≡ list_any (λ (other : Key). is_eq (key_cmp key other)) keys)
    → HasKeys keys set
keys_made keys set is key = (
  λ holds. let found = Any-from_list_any (λ (other : Key). is_eq (key_cmp key other)) keys (sym (is key) ∙ holds) in
      let same : key ≡ found.1 = key_same key found.1 found.4 in
      subst (Contains keys) (sym same) (found.0, found.2, found.3),
  λ here. is key
      ∙ list_any_at (λ (other : Key). is_eq (key_cmp key other)) keys here.0 key here.1 (ap (λ (other : Key). is_eq (key_cmp key other)) here.2 ∙ key_itself key),
)

-- ---- without the keys of some dates

pub all_yet : (keys : List Key) (set : BTreeSet Key) → HasKeys keys set → HasKeysBut [] keys set
all_yet keys set has key = (λ holds. ((has key).0 holds, refl), λ here. (has key).1 here.0)

pub those_left : (dates : List ℕ) (keys : List Key) (set : BTreeSet Key) → HasKeysBut dates keys set → HasKeys (filter (λ key. not (is_date_in dates key.2)) keys) set
those_left dates keys set has key = (
  λ holds. let here = (has key).0 holds in Contains-filter (λ (k : Key). not (is_date_in dates k.2)) keys key here.0 (not_from_false (is_date_in dates key.2) here.1),
  λ here. let found = Contains-from_filter (λ (k : Key). not (is_date_in dates k.2)) keys key here in (has key).1 (found.0, not-true (is_date_in dates key.2) found.1),
)

-- those of other dates, which a pass leaves
pub keys_swept : (dates : List ℕ) (keys : List Key) (old new : BTreeSet Key) → HasKeys keys old → new.keys ≡ filter (λ key. not (is_date_in dates key.2)) old.keys
    → HasKeysBut dates keys new
keys_swept dates keys old new has left other = (
  λ holds. let found = Contains-from_filter (λ (k : Key). not (is_date_in dates k.2)) old.keys other (subst (λ (ks : List Key). Contains ks other) left (contained new other holds)) in
      ((has other).0 (contains_listed old other found.0), not-true (is_date_in dates other.2) found.1),
  λ here. let still = Contains-filter (λ (k : Key). not (is_date_in dates k.2)) old.keys other (contained old other ((has other).1 here.0)) (not_from_false (is_date_in dates other.2) here.1) in
      contains_listed new other (subst (λ (ks : List Key). Contains ks other) (sym left) still),
)

one_any : (b : Bool) → (b || false) ≡ b
one_any true = refl
one_any false = refl

in_more : (dates : List ℕ) (date d : ℕ) → is_date_in (dates ++ date ∷ []) d ≡ (is_date_in dates d || nat_eq date d)
in_more dates date d =
    list_any-append (λ (one : ℕ). nat_eq one d) dates (date ∷ []) ∙ ap (λ (b : Bool). is_date_in dates d || b) (one_any (nat_eq date d))

apart_more : (dates : List ℕ) (date d : ℕ) → is_date_in dates d ≡ false → ¬ (d ≡ date) → is_date_in (dates ++ date ∷ []) d ≡ false
apart_more dates date d apart other =
    in_more dates date d ∙ or_from (is_date_in dates d) (nat_eq date d) apart (false_from_ne_true (nat_eq date d) (λ same. other (sym (eqb-true date d same))))

apart_both : (dates : List ℕ) (date d : ℕ) → is_date_in (dates ++ date ∷ []) d ≡ false → (is_date_in dates d ≡ false) × (nat_eq date d ≡ false)
apart_both dates date d apart = or_parts (is_date_in dates d) (nat_eq date d) (sym (in_more dates date d) ∙ apart)

gone_one : (dates : List ℕ) (keys : List Key) (key other : Key) (old here : Bool) → is_eq (key_cmp key other) ≡ here → IsUniqueIn keys key
    → (old ≡ true → Contains keys other × (is_date_in dates other.2 ≡ false)) → cond here false old ≡ true → Contains keys other × (is_date_in (dates ++ key.2 ∷ []) other.2 ≡ false)
gone_one dates keys key other old true same alone has holds = absurd (false≢true holds)
gone_one dates keys key other old false same alone has holds =
    let before = has holds in (
      before.0,
      apart_more dates key.2 other.2 before.1 (λ date. false≢true (sym same ∙ subst (λ (k : Key). is_eq (key_cmp key k) ≡ true) (sym (alone other before.0 date)) (key_itself key))),
    )

left_one : (key other : Key) (old here : Bool) → is_eq (key_cmp key other) ≡ here → nat_eq key.2 other.2 ≡ false → old ≡ true → cond here false old ≡ true
left_one key other old true same apart holds =
    absurd (false≢true (sym apart ∙ eq-eqb key.2 other.2 (ap (λ (k : Key). k.2) (key_same key other same))))
left_one key other old false same apart holds = holds

-- one key less, which is alone of its date
pub one_less : (dates : List ℕ) (keys : List Key) (key : Key) (old new : BTreeSet Key) → IsUniqueIn keys key → HasKeysBut dates keys old
    → ((other : Key) → contains key_cmp new other ≡ cond (is_eq (key_cmp key other)) false (contains key_cmp old other)) → HasKeysBut (dates ++ key.2 ∷ []) keys new
one_less dates keys key old new alone has updates other = (
  λ holds. gone_one dates keys key other (contains key_cmp old other) (is_eq (key_cmp key other)) refl alone (has other).0 (sym (updates other) ∙ holds),
  λ here. let apart = apart_both dates key.2 other.2 here.1 in
      updates other ∙ left_one key other (contains key_cmp old other) (is_eq (key_cmp key other)) refl apart.1 ((has other).1 (here.0, apart.0)),
)

-- no key less, where none is of that date
pub none_less : (dates : List ℕ) (date : ℕ) (keys : List Key) (set : BTreeSet Key) → ((other : Key) → Contains keys other → ¬ (other.2 ≡ date)) → HasKeysBut dates keys set
    → HasKeysBut (dates ++ date ∷ []) keys set
none_less dates date keys set none has other = (
  λ holds. let before = (has other).0 holds in (before.0, apart_more dates date other.2 before.1 (none other before.0)),
  λ here. (has other).1 (here.0, (apart_both dates date other.2 here.1).0),
)
