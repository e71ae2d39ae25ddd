-- Sets of picks: what they have after one more, and which rows they select.
use Rattle.std.proofs.Common.{◌≡◌, inl, inr, ℤ, List, [], ◌∷◌, ◌++◌, Bool, true, false, cond, IsTrue, ◌↔◌, refl, sym, ap, subst, ◌∙◌}
use Rattle.std.specs.List.{Contains}
use Rattle.std.specs.Ordering.{int_cmp, is_eq}
use Rattle.std.specs.declared.cmp.Ordering.{Ordering}
use Rattle.std.specs.declared.cmp.Ordering.TheVariants.{Less, Equal, Greater}
use Rattle.std.specs.BTreeSet.{BTreeSet, contains}
use Rattle.std.proofs.lemmas.Bool.{false≢true}
use Rattle.std.proofs.lemmas.Cmp.{int_cmp_total, tied_itself}
use Rattle.std.proofs.lemmas.Map.Lookups.{exact_signed}
use Rattle.std.proofs.lemmas.List.Elements.{Contains-push, Contains-push_cases, Contains-append_left}
use Rattle.stix_ids.specs.declared.pick.Pick.{Pick}
use Rattle.stix_ids.specs.declared.pick.Pick.TheVariants.{Last, First, All, At}
use Rattle.taxii_rows.specs.declared.stored_row.StoredRow.{StoredRow}
use Rattle.taxii_rows.specs.Picking.{IsPicked, IsPickedBy}
use Rattle.taxii_store.specs.declared.pick_set.PickSet.{PickSet}
use Rattle.taxii_store.specs.Picks.{HasPicks, SelectsRow}

equal : (order : Ordering) → is_eq order ≡ true → order ≡ Equal
equal Less holds = absurd (false≢true holds)
equal Equal holds = refl
equal Greater holds = absurd (false≢true holds)

-- ---- one more key, where those that compare as equal look alike

still : (here old : Bool) → old ≡ true → cond here true old ≡ true
still true old holds = refl
still false old holds = holds

module _ {K V : Type 0} (cmp : K → K → Ordering) (view : K → V) (exact : (x y : K) → is_eq (cmp x y) ≡ true → view x ≡ view y) (tied : (x y : K) → view x ≡ view y → is_eq (cmp x y) ≡ true) where
  grown : (items : List V) (key other : K) (old here : Bool) → is_eq (cmp key other) ≡ here → (old ≡ true → Contains items (view other))
      → cond here true old ≡ true → Contains (items ++ view key ∷ []) (view other)
  grown items key other old true same has holds = subst (Contains (items ++ view key ∷ [])) (exact key other same) (Contains-push items (view key))
  grown items key other old false same has holds = Contains-append_left items (view key ∷ []) (view other) (has holds)

  one_more : (items : List V) (key : K) (old new : BTreeSet K) → ((k : K) → IsTrue (contains cmp old k) ↔ Contains items (view k))
      → ((k : K) → contains cmp new k ≡ cond (is_eq (cmp key k)) true (contains cmp old k)) → (k : K) → IsTrue (contains cmp new k) ↔ Contains (items ++ view key ∷ []) (view k)
  one_more items key old new has updates k = (
    λ holds. grown items key k (contains cmp old k) (is_eq (cmp key k)) refl (has k).0 (sym (updates k) ∙ holds),
    λ here. updates k ∙ elim (Contains-push_cases items (view key) (view k) here) [
      | inl before ↦ still (is_eq (cmp key k)) (contains cmp old k) ((has k).1 before)
      | inr same ↦ ap (λ found. cond found true (contains cmp old k)) (tied key k same)
    ],
  )

-- ---- picks

version_exact : (x y : ℤ) → is_eq (int_cmp x y) ≡ true → At x ≡ At y
version_exact x y holds = ap At (exact_signed x y (equal (int_cmp x y) holds))

abbrev version_of : Pick → ℤ → ℤ
version_of (At version) other = version
version_of Last other = other
version_of First other = other
version_of All other = other

version_tied : (x y : ℤ) → At x ≡ At y → is_eq (int_cmp x y) ≡ true
version_tied x y same = subst (λ (v : ℤ). is_eq (int_cmp x v) ≡ true) (ap (λ (p : Pick). version_of p x) same) (ap is_eq (tied_itself int_cmp_total x))

-- a pick that is another stays in or out
stays : (picks : List Pick) (pick other : Pick) (has : Bool) → ¬ (pick ≡ other) → IsTrue has ↔ Contains picks other → IsTrue has ↔ Contains (picks ++ pick ∷ []) other
stays picks pick other has apart is = (
  λ holds. Contains-append_left picks (pick ∷ []) other (is.0 holds),
  λ here. elim (Contains-push_cases picks pick other here) [ inl before ↦ is.1 before | inr same ↦ absurd (apart same) ],
)

pub with_all : (picks : List Pick) (set : PickSet) → HasPicks picks set → HasPicks (picks ++ All ∷ []) (record { all = true; last = set.last; first = set.first; versions = set.versions })
with_all picks set has = record {
  all = (λ _. Contains-push picks All, λ _. refl);
  last = stays picks All Last set.last (λ is. absurd (cc is)) has.last;
  first = stays picks All First set.first (λ is. absurd (cc is)) has.first;
  versions = λ version. stays picks All (At version) (contains int_cmp set.versions version) (λ is. absurd (cc is)) (has.versions version);
}

pub with_last : (picks : List Pick) (set : PickSet) → HasPicks picks set → HasPicks (picks ++ Last ∷ []) (record { all = set.all; last = true; first = set.first; versions = set.versions })
with_last picks set has = record {
  all = stays picks Last All set.all (λ is. absurd (cc is)) has.all;
  last = (λ _. Contains-push picks Last, λ _. refl);
  first = stays picks Last First set.first (λ is. absurd (cc is)) has.first;
  versions = λ version. stays picks Last (At version) (contains int_cmp set.versions version) (λ is. absurd (cc is)) (has.versions version);
}

pub with_first : (picks : List Pick) (set : PickSet) → HasPicks picks set → HasPicks (picks ++ First ∷ []) (record { all = set.all; last = set.last; first = true; versions = set.versions })
with_first picks set has = record {
  all = stays picks First All set.all (λ is. absurd (cc is)) has.all;
  last = stays picks First Last set.last (λ is. absurd (cc is)) has.last;
  first = (λ _. Contains-push picks First, λ _. refl);
  versions = λ version. stays picks First (At version) (contains int_cmp set.versions version) (λ is. absurd (cc is)) (has.versions version);
}

pub with_version : (picks : List Pick) (version : ℤ) (set : PickSet) (versions : BTreeSet ℤ) → HasPicks picks set
    → ((v : ℤ) → contains int_cmp versions v ≡ cond (is_eq (int_cmp version v)) true (contains int_cmp set.versions v))
    → HasPicks (picks ++ At version ∷ []) (record { all = set.all; last = set.last; first = set.first; versions = versions })
with_version picks version set versions has updates = record {
  all = stays picks (At version) All set.all (λ is. absurd (cc is)) has.all;
  last = stays picks (At version) Last set.last (λ is. absurd (cc is)) has.last;
  first = stays picks (At version) First set.first (λ is. absurd (cc is)) has.first;
  versions = one_more int_cmp At version_exact version_tied picks version set.versions versions has.versions updates;
}

-- ---- which rows they select

pub by_pick : (picks : List Pick) (pick : Pick) (rows : List StoredRow) (row : StoredRow) → Contains picks pick → IsPickedBy pick rows row → IsPicked picks rows row
by_pick picks pick rows row here picked = (here.0, pick, here.1, here.2, picked)

case_of : (picks : List Pick) (set : PickSet) (rows : List StoredRow) (row : StoredRow) (pick : Pick) → HasPicks picks set → Contains picks pick → IsPickedBy pick rows row → SelectsRow set rows row
case_of picks set rows row All has here picked = inl (has.all.1 here)
case_of picks set rows row (At version) has here picked = inr (inl ((has.versions row.version).1 (subst (λ (v : ℤ). Contains picks (At v)) (sym picked) here)))
case_of picks set rows row Last has here picked = inr (inr (inl (has.last.1 here, picked)))
case_of picks set rows row First has here picked = inr (inr (inr (has.first.1 here, picked)))

-- a set selects the rows that its picks do
pub selected : (picks : List Pick) (set : PickSet) (rows : List StoredRow) (row : StoredRow) → HasPicks picks set → SelectsRow set rows row ↔ IsPicked picks rows row
selected picks set rows row has = (
  λ selects. elim selects [
    | inl all ↦ by_pick picks All rows row (has.all.0 all) tt
    | inr (inl version) ↦ by_pick picks (At row.version) rows row ((has.versions row.version).0 version) refl
    | inr (inr (inl last)) ↦ by_pick picks Last rows row (has.last.0 last.0) last.1
    | inr (inr (inr first)) ↦ by_pick picks First rows row (has.first.0 first.0) first.1
  ],
  λ picked. case_of picks set rows row picked.1 has (picked.0, picked.2, picked.3) picked.4,
)
