-- What the look-ups of an index lead to, and what follows for the rows.
use Rattle.std.proofs.Common.{◌≡◌, ◌⊎◌, ◌↔◌, ℕ, ◌≤◌, ◌<◌, ℤ, ◌<ℤ◌, ◌≤ℤ◌, List, Bool, true, not, ◌&&◌, Option, Some, None, IsTrue, inl, inr, refl, sym, ap, ◌∙◌, subst, arith, map, find, nat_cmp, bytes_eq}
use Rattle.std.specs.List.{Contains, list_any}
use Rattle.std.specs.declared.cmp.Ordering.{Ordering}
use Rattle.std.specs.declared.cmp.Ordering.TheVariants.{Less, Equal, Greater}
use Rattle.std.specs.Ordering.{int_cmp, int_eq, is_lt, is_le}
use Rattle.std.specs.declared.ops.Bound.{Bound}
use Rattle.std.specs.declared.ops.Bound.TheVariants.{Included, Excluded}
use Rattle.std.specs.BTreeMap.Range.{range_contains}
use Rattle.std.specs.BTreeSet.{BTreeSet, IsOrdered, keys_between}
use Rattle.std.proofs.lemmas.Bool.{cases_Bool, cases_lt, both_ways, and_parts, and_from, not-true, not-false, not_from_false, not_from_true, false_from_ne_true}
use Rattle.std.proofs.lemmas.Cmp.{int_ranked}
use Rattle.std.proofs.lemmas.Int.{ints}
use Rattle.std.proofs.lemmas.List.Folds.{Any-from_list_any, list_any_at}
use Rattle.std.proofs.lemmas.List.Kept.{IsStrictlySortedBy-filter}
use Rattle.std.proofs.lemmas.Map.Lookups.{exact_unsigned, exact_signed}
use Rattle.stix_ids.specs.declared.id.Id.{Id}
use Rattle.taxii_rows.specs.declared.stored_row.StoredRow.{StoredRow}
use Rattle.taxii_rows.specs.declared.described.Described.{Described}
use Rattle.taxii_rows.specs.StoreState.{dates_of, AscendFrom}
use Rattle.taxii_rows.specs.Keeper.{row_at}
use Rattle.taxii_rows.specs.Identity.{is_row_of}
use Rattle.taxii_rows.specs.Picking.{IsNotBefore, ForItsRows}
use Rattle.taxii_index.specs.Keys.{Key, IsIn64Bits, key_cmp, HasKeys}
use Rattle.taxii_index.specs.Names.{name_of, text_name_of}
use Rattle.taxii_index.specs.Presence.{agrees, is_duplicate}
use Rattle.taxii_index.specs.Index.{version_key, has_row, key_dates, LeadsToSame, IsBefore, LeadsToThose, LeadsToObject, HasRowOf, front_of}
use Rattle.taxii_index.proofs.ListLemmas.{Contains-filter, Contains-from_filter, Contains-map, Contains-from_map}
use Rattle.taxii_index.proofs.KeyLemmas.{equal, contained, contains_listed}
use Rattle.taxii_index.proofs.OrderLemmas.{Precedes, never, never_of_one, precedes_from_less, less_from_precedes, not_less, le_from_less, between_ends, dates_ascend}
use Rattle.taxii_index.proofs.RowLemmas.{least_row, find_passes, find_nothing, find_none, first_date, first_row, one_row, has_row_its, PassesAt, passes_at}
use Rattle.taxii_index.proofs.NameLemmas.{one_object, of_object, one_name, one_text_name}

in_range : (low high : Bound Key) (set : BTreeSet Key) (key : Key) → Contains (keys_between key_cmp low high set) key
    → Contains set.keys key × (range_contains key_cmp low high key ≡ true)
in_range low high set key here = Contains-from_filter (range_contains key_cmp low high) set.keys key here

-- ---- the rows that may be the same

pub leads_to_same : (key_of : StoredRow → Key) (collection : ℕ) (object : Described) (rows : List StoredRow) (name : ℕ) (number : ℤ) (last : ℕ) (set : BTreeSet Key)
    → HasKeys (map key_of rows) set → IsOrdered key_cmp set → ((row : StoredRow) → (key_of row).2 ≡ row.date) → ((row : StoredRow) → Contains rows row → row.date ≤ last)
    → ((row : StoredRow) → is_duplicate collection object row ≡ true → ((key_of row).0 ≡ name) × ((key_of row).1 ≡ number))
    → LeadsToSame collection object rows (keys_between key_cmp (Included (name, number, 0)) (Included (name, number, last)) set)
leads_to_same key_of collection object rows name number last set has ordered dated upto own =
    let low : Key = (name, number, 0) in
    let high : Key = (name, number, last) in
    let within = range_contains key_cmp (Included low) (Included high) in
    let keys = keys_between key_cmp (Included low) (Included high) set in record {
      ascend = dates_ascend name number 0 keys (IsStrictlySortedBy-filter key_cmp within set.keys ordered) (λ key here.
          let both = and_parts (is_le (key_cmp low key)) (not (is_lt (key_cmp high key))) (in_range (Included low) (Included high) set key here).1 in
          let ends = between_ends (nat_cmp name key.0) (int_cmp number key.1) (nat_cmp 0 key.2) (nat_cmp last key.2) both.0 (not-true (is_lt (key_cmp high key)) both.1) in
          (sym (exact_unsigned name key.0 ends.0), sym (exact_signed number key.1 ends.1), omega arith));
      every = λ row here same.
          let key : Key = key_of row in
          let its = own row same in
          let date : key.2 ≤ last = omega (arith, dated row, upto row here) in
          let from : is_le (key_cmp low key) ≡ true = le_from_less low key ∙ not_from_false (is_lt (key_cmp key low)) (not_less key low its.0 (never_of_one key.1 number key.2 0 its.1 (omega arith))) in
          let end : not (is_lt (key_cmp high key)) ≡ true = not_from_false (is_lt (key_cmp high key)) (not_less high key (sym its.0) (never_of_one number key.1 last key.2 (sym its.1) date)) in
          let there = Contains-filter within set.keys key (contained set key ((has key).1 (Contains-map key_of rows row here))) (and_from (is_le (key_cmp low key)) (not (is_lt (key_cmp high key))) from end) in
          subst (Contains (key_dates keys)) (dated row) (Contains-map (λ (k : Key). k.2) keys key there);
    }

pub own_version : (secret collection : ℕ) (object : Described) (version : ℤ) → object.version ≡ Some version → (row : StoredRow) → is_duplicate collection object row ≡ true
    → (name_of secret row.collection row.id ≡ name_of secret collection object.id) × (row.version ≡ version)
own_version secret collection object version is row same =
    let parts = and_parts (is_row_of collection object.id row) (agrees object.version object.body row) same in
    let told : (row.dated && int_eq row.version version) ≡ true = subst (λ (v : Option ℤ). agrees v object.body row ≡ true) is parts.1 in
    (one_name secret collection object.id row parts.0, exact_signed row.version version (equal (int_cmp row.version version) (and_parts row.dated (int_eq row.version version) told).1))

pub own_text : (secret collection : ℕ) (object : Described) → object.version ≡ None → (row : StoredRow) → is_duplicate collection object row ≡ true
    → text_name_of secret row.collection row.id row.body ≡ text_name_of secret collection object.id object.body
own_text secret collection object is row same =
    let parts = and_parts (is_row_of collection object.id row) (agrees object.version object.body row) same in
    let told : bytes_eq row.body object.body ≡ true = subst (λ (v : Option ℤ). agrees v object.body row ≡ true) is parts.1 in
    one_text_name secret collection object.id object.body row parts.0 told

pub none_same : (collection : ℕ) (object : Described) (rows : List StoredRow) (keys : List Key) → AscendFrom 1 (dates_of rows) → LeadsToSame collection object rows keys
    → find (has_row (is_duplicate collection object) rows) (key_dates keys) ≡ None → find (is_duplicate collection object) rows ≡ None
none_same collection object rows keys ascend leads found =
    let test = is_duplicate collection object in
    find_none test rows (λ row here. elim (cases_Bool (test row)) [
      | inl holds ↦ absurd (both_ways (test row)
          (sym (has_row_its test rows row ascend here) ∙ find_nothing (has_row test rows) (key_dates keys) row.date found (leads.every row here holds)) holds)
      | inr fails ↦ fails
    ])

pub first_same : (collection : ℕ) (object : Described) (rows : List StoredRow) (keys : List Key) (date : ℕ) → AscendFrom 1 (dates_of rows)
    → LeadsToSame collection object rows keys → find (has_row (is_duplicate collection object) rows) (key_dates keys) ≡ Some date
    → row_at date rows ≡ find (is_duplicate collection object) rows
first_same collection object rows keys date ascend leads found =
    let test = is_duplicate collection object in
    let passes : PassesAt test rows date = passes_at test rows date (find_passes (has_row test rows) (key_dates keys) date found).1 in
    passes.found ∙ sym (first_row test 1 rows passes.row ascend passes.here passes.holds (λ other here holds.
    let earliest : date ≤ other.date = first_date (has_row test rows) 0 (key_dates keys) date other.date leads.ascend found (leads.every other here holds)
    (has_row_its test rows other ascend here ∙ holds) in
    omega (arith, passes.its)))

-- ---- the versions following a row and before it

pub leads_to_later : (secret : ℕ) (row : StoredRow) (rows : List StoredRow) (most : ℤ) (last : ℕ) (set : BTreeSet Key) → HasKeys (map (version_key secret) rows) set
    → ((other : StoredRow) → Contains rows other → (other.version ≤ℤ most) × (other.date ≤ last))
    → LeadsToThose secret (IsBefore row) row rows (keys_between key_cmp (Excluded (version_key secret row)) (Included (name_of secret row.collection row.id, most, last)) set)
leads_to_later secret row rows most last set has upto =
    let low : Key = version_key secret row in
    let high : Key = (name_of secret row.collection row.id, most, last) in record {
      own = λ key here. (has key).0 (contains_listed set key (in_range (Excluded low) (Included high) set key here).0);
      those = λ other here its.
          let key : Key = version_key secret other in
          let name : key.0 ≡ low.0 = one_name secret row.collection row.id other its in
          let ends = upto other here in
          let end : not (is_lt (key_cmp high key)) ≡ true = not_from_false (is_lt (key_cmp high key)) (not_less high key (sym name) (λ order. past most other.version last other.date ends.0 ends.1 order)) in (
            λ found. precedes_from_less low key (sym name) (and_parts (is_lt (key_cmp low key)) (not (is_lt (key_cmp high key))) (in_range (Excluded low) (Included high) set key found).1).0,
            λ before. Contains-filter (range_contains key_cmp (Excluded low) (Included high)) set.keys key (contained set key ((has key).1 (Contains-map (version_key secret) rows other here)))
                (and_from (is_lt (key_cmp low key)) (not (is_lt (key_cmp high key))) (less_from_precedes low key (sym name) before) end),
          );
    }
  where
    past : (v w : ℤ) (d e : ℕ) → w ≤ℤ v → e ≤ d → Precedes v d w e → ⊥
    past v w d e number date order = elim order [ inl back ↦ omega (arith, ints) | inr same ↦ omega (arith, same.1) ]

pub leads_to_earlier : (secret : ℕ) (row : StoredRow) (rows : List StoredRow) (least : ℤ) (set : BTreeSet Key) → HasKeys (map (version_key secret) rows) set
    → ((other : StoredRow) → Contains rows other → least ≤ℤ other.version)
    → LeadsToThose secret (λ other. IsBefore other row) row rows (keys_between key_cmp (Included (name_of secret row.collection row.id, least, 0)) (Excluded (version_key secret row)) set)
leads_to_earlier secret row rows least set has from =
    let low : Key = (name_of secret row.collection row.id, least, 0) in
    let high : Key = version_key secret row in record {
      own = λ key here. (has key).0 (contains_listed set key (in_range (Included low) (Excluded high) set key here).0);
      those = λ other here its.
          let key : Key = version_key secret other in
          let name : key.0 ≡ high.0 = one_name secret row.collection row.id other its in
          let start : is_le (key_cmp low key) ≡ true = le_from_less low key
          ∙ not_from_false (is_lt (key_cmp key low)) (not_less key low name (λ order. before_all other.version least other.date (from other here) order)) in (
            λ found.
                let both = and_parts (is_le (key_cmp low key)) (not (is_le (key_cmp high key))) (in_range (Included low) (Excluded high) set key found).1 in
                precedes_from_less key high name (not-false (is_lt (key_cmp key high)) (sym (le_from_less high key) ∙ not-true (is_le (key_cmp high key)) both.1)),
            λ before. Contains-filter (range_contains key_cmp (Included low) (Excluded high)) set.keys key (contained set key ((has key).1 (Contains-map (version_key secret) rows other here)))
                (and_from (is_le (key_cmp low key)) (not (is_le (key_cmp high key))) start
                (not_from_false (is_le (key_cmp high key)) (le_from_less high key ∙ not_from_true (is_lt (key_cmp key high)) (less_from_precedes key high name before)))),
          );
    }
  where
    before_all : (v least : ℤ) (d : ℕ) → least ≤ℤ v → Precedes v d least 0 → ⊥
    before_all v least d number order = elim order [ inl back ↦ omega (arith, ints) | inr same ↦ omega (arith, same.1) ]

-- where a row that keeps the rule is among the object's, one of the keys is that of a row of the object
those_any : (secret : ℕ) (Rule : StoredRow → Type 0) (row : StoredRow) (rows : List StoredRow) (keys : List Key) → AscendFrom 1 (dates_of rows) → LeadsToThose secret Rule row rows keys
    → (other : StoredRow) → Contains rows other → is_row_of row.collection row.id other ≡ true → Rule other
    → list_any (has_row (is_row_of row.collection row.id) rows) (key_dates keys) ≡ true
those_any secret Rule row rows keys ascend leads other here its keeps =
    let hit = has_row (is_row_of row.collection row.id) rows in
    let there : Contains (key_dates keys) other.date = Contains-map (λ (key : Key). key.2) keys (version_key secret other) ((leads.those other here its).1 keeps) in
    list_any_at hit (key_dates keys) there.0 other.date there.1 (ap hit there.2 ∙ has_row_its (is_row_of row.collection row.id) rows other ascend here ∙ its)

-- a row of the object that keeps the rule
record Keeps (Rule : StoredRow → Type 0) (row : StoredRow) (rows : List StoredRow) : Type 0 where
  other : StoredRow
  here : Contains rows other
  its : is_row_of row.collection row.id other ≡ true
  keeps : Rule other

any_of_those : (secret : ℕ) (Rule : StoredRow → Type 0) (row : StoredRow) (rows : List StoredRow) (keys : List Key) → AscendFrom 1 (dates_of rows) → LeadsToThose secret Rule row rows keys
    → list_any (has_row (is_row_of row.collection row.id) rows) (key_dates keys) ≡ true → Keeps Rule row rows
any_of_those secret Rule row rows keys ascend leads holds =
    let hit = has_row (is_row_of row.collection row.id) rows in
    let found = Any-from_list_any hit (key_dates keys) holds in
    let at : PassesAt (is_row_of row.collection row.id) rows found.1 = passes_at (is_row_of row.collection row.id) rows found.1 found.4 in
    let key = Contains-from_map (λ (k : Key). k.2) keys found.1 (found.0, found.2, found.3) in
    let its = Contains-from_map (version_key secret) rows key.0 (leads.own key.0 key.1) in
    let date : its.0.date ≡ at.row.date = ap (λ (k : Key). k.2) its.2 ∙ key.2 ∙ sym at.its in
    let same : its.0 ≡ at.row = one_row rows its.0 at.row ascend its.1 at.here date in
    let there : Contains keys (version_key secret at.row) = subst (Contains keys) (sym its.2 ∙ ap (version_key secret) same) key.1 in
    record { other = at.row; here = at.here; its = at.holds; keeps = (leads.those at.row at.here at.holds).0 there }

-- so none is found exactly where each row of the object breaks the rule
pub none_keeps : (secret : ℕ) (Rule Other : StoredRow → Type 0) (row : StoredRow) (rows : List StoredRow) (keys : List Key) (found : Bool) → AscendFrom 1 (dates_of rows)
    → LeadsToThose secret Rule row rows keys → found ≡ list_any (has_row (is_row_of row.collection row.id) rows) (key_dates keys)
    → ((other : StoredRow) → Other other ⊎ Rule other) → ((other : StoredRow) → Other other → Rule other → ⊥) → IsTrue (not found) ↔ ForItsRows Other rows row
none_keeps secret Rule Other row rows keys found ascend leads is either never_both = (
  λ none other here its. elim (either other) [
    | inl breaks ↦ breaks
    | inr keeps ↦ absurd (both_ways found (not-true found none) (is ∙ those_any secret Rule row rows keys ascend leads other here its keeps))
  ],
  λ all. not_from_false found (false_from_ne_true found (λ holds.
      let one : Keeps Rule row rows = any_of_those secret Rule row rows keys ascend leads (sym is ∙ holds) in
      never_both one.other (all one.other one.here one.its) one.keeps)),
)

in_order : (v w : ℤ) (d e : ℕ) (order : Ordering) → order ≡ int_cmp v w → ((w <ℤ v) ⊎ ((w ≡ v) × (e ≤ d))) ⊎ Precedes v d w e
in_order v w d e Less is = inr (inl (int_ranked v w Less is))
in_order v w d e Equal is = elim (cases_lt d e) [
  | inl earlier ↦ inr (inr (int_ranked v w Equal is, earlier))
  | inr not_earlier ↦ inl (inr (sym (int_ranked v w Equal is), not_earlier))
]
in_order v w d e Greater is = inl (inl (int_ranked v w Greater is))

pub either_way : (row other : StoredRow) → IsNotBefore row other ⊎ IsBefore row other
either_way row other = in_order row.version other.version row.date other.date (int_cmp row.version other.version) refl

pub never_both_ways : (row other : StoredRow) → IsNotBefore row other → IsBefore row other → ⊥
never_both_ways row other later before = elim later [
  | inl back ↦ never row.version other.version row.date other.date back before
  | inr same ↦ never_of_one row.version other.version row.date other.date (sym same.0) same.1 before
]

-- ---- the rows of an object

-- each row comes following the front of its object
pub following_front : (secret collection : ℕ) (id : Id) (row : StoredRow) → IsIn64Bits (version_key secret row) → 0 < row.date → IsBefore (front_of collection id) row
following_front secret collection id row bits dated = elim (either_way (front_of collection id) row) [
  | inr before ↦ before
  | inl back ↦ elim back [
    | inl less ↦ absurd (omega (arith, ints, bits.number, less))
    | inr same ↦ absurd (omega (arith, same.1, dated))
  ]
]

-- a row of an object is found exactly where there is one
pub object_found : (secret collection : ℕ) (id : Id) (rows : List StoredRow) (keys : List Key) (found : Bool) → AscendFrom 1 (dates_of rows)
    → ((row : StoredRow) → Contains rows row → IsIn64Bits (version_key secret row)) → LeadsToObject secret collection id rows keys
    → found ≡ list_any (has_row (is_row_of collection id) rows) (key_dates keys) → IsTrue found ↔ HasRowOf rows collection id
object_found secret collection id rows keys found ascend bits leads is =
    let front = front_of collection id in (
      λ holds.
          let one : Keeps (IsBefore front) front rows = any_of_those secret (IsBefore front) front rows keys ascend leads (sym is ∙ holds) in
          (one.here.0, one.other, one.here.1, one.here.2, one_object collection id one.other one.its),
      λ any.
          let here : Contains rows any.1 = (any.0, any.2, any.3) in
          is ∙ those_any secret (IsBefore front) front rows keys ascend leads any.1 here (of_object collection id any.1 any.4.0 any.4.1)
          (following_front secret collection id any.1 (bits any.1 here) (least_row 1 rows any.1 ascend here)),
    )
