-- What entries hold, one more at a time, and how many there are.
use Rattle.std.proofs.Common.{◌≡◌, ℕ, ◌+◌, ◌<◌, List, [], ◌∷◌, ◌++◌, length, take, All, inl, inr, refl, sym, ap, subst, ◌∙◌, arith}
use Rattle.std.specs.List.{AllZip}
use Rattle.std.proofs.lemmas.List.{length-append, length-take, take_all, take-append-le}
use Rattle.std.proofs.lemmas.List.Elements.{All-append, All-cons, All-nil}
use Rattle.std.proofs.lemmas.Slice.Zip.{AllZip-long}
use Rattle.stix_json.specs.declared.entry.Entry.{Entry}
use Rattle.taxii_rows.specs.declared.described.Described.{Described}
use Rattle.taxii_store.specs.Planned.{IsSound}
use Rattle.taxii_bodies.specs.declared.details.Detail.{Detail}
use Rattle.taxii_service.specs.declared.posted.Posted.{Posted}
use Rattle.taxii_service.specs.declared.posted.TheConstants.{MAX_DETAILS}
use Rattle.taxii_service.specs.Posted.{IsKept, Fails, IsDetailOf, SplitsPostedEntries, HoldsEntries}
use Rattle.taxii_service.specs.inner.Posting.{AddsDetail, AddsEntry}

-- ---- one more

splits_object : (entries : List Entry) (objects : List Described) (failed : List Entry) (entry : Entry) (object : Described)
    → SplitsPostedEntries entries objects failed → IsKept entry object → SplitsPostedEntries (entries ++ entry ∷ []) (objects ++ object ∷ []) failed
splits_object [] objects failed entry object (none, nothing) kept = inl (object, [], ap (λ os. os ++ object ∷ []) none, kept, (refl, nothing))
splits_object (first ∷ entries) objects failed entry object (inl (one, others, is, its, rest)) kept =
    inl (one, others ++ object ∷ [], ap (λ os. os ++ object ∷ []) is, its, splits_object entries others failed entry object rest kept)
splits_object (first ∷ entries) objects failed entry object (inr (others, is, its, rest)) kept =
    inr (others, is, its, splits_object entries objects others entry object rest kept)

splits_failure : (entries : List Entry) (objects : List Described) (failed : List Entry) (entry : Entry)
    → SplitsPostedEntries entries objects failed → Fails entry → SplitsPostedEntries (entries ++ entry ∷ []) objects (failed ++ entry ∷ [])
splits_failure [] objects failed entry (none, nothing) fails = inr ([], ap (λ es. es ++ entry ∷ []) nothing, fails, (none, refl))
splits_failure (first ∷ entries) objects failed entry (inl (one, others, is, its, rest)) fails =
    inl (one, others, is, its, splits_failure entries others failed entry rest fails)
splits_failure (first ∷ entries) objects failed entry (inr (others, is, its, rest)) fails =
    inr (others ++ entry ∷ [], ap (λ es. es ++ entry ∷ []) is, its, splits_failure entries objects others entry rest fails)

zip_pushed : {A B : Type 0} (R : A → B → Type 0) (xs : List A) (ys : List B) (x : A) (y : B)
    → AllZip R xs ys → R x y → AllZip R (xs ++ x ∷ []) (ys ++ y ∷ [])
zip_pushed R [] [] x y all one = (one, tt)
zip_pushed R [] (b ∷ ys) x y all one = absurd all
zip_pushed R (a ∷ xs) [] x y all one = absurd all
zip_pushed R (a ∷ xs) (b ∷ ys) x y all one = (all.0, zip_pushed R xs ys x y all.1 one)

details_added : (moment : ℕ) (failed : List Entry) (entry : Entry) (old new : List Detail) → AllZip (IsDetailOf moment) (take MAX_DETAILS failed) old
    → AddsDetail moment entry old new → AllZip (IsDetailOf moment) (take MAX_DETAILS (failed ++ entry ∷ [])) new
details_added moment failed entry old new all (inl (detail, room, its, is)) =
    let long = AllZip-long (IsDetailOf moment) (take MAX_DETAILS failed) old all in
    let first = length-take MAX_DETAILS failed in
    let more = length-append failed (entry ∷ []) in
    let had : take MAX_DETAILS failed ≡ failed = take_all MAX_DETAILS failed (omega (arith, long, first, room)) in
    let has : take MAX_DETAILS (failed ++ entry ∷ []) ≡ failed ++ entry ∷ [] = take_all MAX_DETAILS (failed ++ entry ∷ []) (omega (arith, long, first, more, room)) in
    let pushed = zip_pushed (IsDetailOf moment) failed old entry detail (subst (λ (fs : List Entry). AllZip (IsDetailOf moment) fs old) had all) its in
    subst (AllZip (IsDetailOf moment) (take MAX_DETAILS (failed ++ entry ∷ []))) (sym is)
    (subst (λ (fs : List Entry). AllZip (IsDetailOf moment) fs (old ++ detail ∷ [])) (sym has) pushed)
details_added moment failed entry old new all (inr (full, is)) =
    let long = AllZip-long (IsDetailOf moment) (take MAX_DETAILS failed) old all in
    let first = length-take MAX_DETAILS failed in
    let same = take-append-le MAX_DETAILS failed (entry ∷ []) (omega (arith, long, first, full)) in
    subst (AllZip (IsDetailOf moment) (take MAX_DETAILS (failed ++ entry ∷ []))) (sym is)
    (subst (λ (fs : List Entry). AllZip (IsDetailOf moment) fs old) (sym same) all)

pub holds_adds : (moment : ℕ) (entries : List Entry) (entry : Entry) (old new : Posted) → HoldsEntries moment entries old → AddsEntry moment entry old new
    → HoldsEntries moment (entries ++ entry ∷ []) new
holds_adds moment entries entry old new holds (inl adds) = record {
  failed = holds.failed;
  splits = subst (λ (os : List Described). SplitsPostedEntries (entries ++ entry ∷ []) os holds.failed) (sym adds.objects)
      (splits_object entries old.objects.items holds.failed entry adds.object holds.splits adds.kept);
  details = subst (AllZip (IsDetailOf moment) (take MAX_DETAILS holds.failed)) (sym adds.failures) holds.details;
  count = adds.count ∙ holds.count;
}
holds_adds moment entries entry old new holds (inr adds) = record {
  failed = holds.failed ++ entry ∷ [];
  splits = subst (λ (os : List Described). SplitsPostedEntries (entries ++ entry ∷ []) os (holds.failed ++ entry ∷ [])) (sym adds.objects)
      (splits_failure entries old.objects.items holds.failed entry holds.splits adds.fails);
  details = details_added moment holds.failed entry old.failures new.failures holds.details adds.failures;
  count = adds.count ∙ ap (λ n. n + 1) holds.count ∙ sym (length-append holds.failed (entry ∷ []));
}

pub sound_adds : (moment : ℕ) (entry : Entry) (old new : Posted) → All IsSound old.objects.items → AddsEntry moment entry old new → All IsSound new.objects.items
sound_adds moment entry old new all (inl adds) =
    subst (All IsSound) (sym adds.objects)
    (All-append IsSound old.objects.items (adds.object ∷ []) all (All-cons IsSound adds.object [] adds.sound (All-nil IsSound)))
sound_adds moment entry old new all (inr adds) = subst (All IsSound) (sym adds.objects) all

-- ---- how many

splits_count : (entries : List Entry) (objects : List Described) (failed : List Entry) → SplitsPostedEntries entries objects failed
    → length objects + length failed ≡ length entries
splits_count [] objects failed (none, nothing) =
    let few = ap length none in let fewer = ap length nothing in omega (arith, few, fewer)
splits_count (first ∷ entries) objects failed (inl (one, others, is, its, rest)) =
    let count = splits_count entries others failed rest in let more = ap length is in omega (arith, count, more)
splits_count (first ∷ entries) objects failed (inr (others, is, its, rest)) =
    let count = splits_count entries objects others rest in let more = ap length is in omega (arith, count, more)

-- the first of some entries hold no more than there are
pub holds_within : (limit moment : ℕ) (entries done rest : List Entry) (posted : Posted) → length entries < limit → entries ≡ done ++ rest
    → HoldsEntries moment done posted → length posted.objects.items + posted.failure_count < limit
holds_within limit moment entries done rest posted within are holds =
    let count = splits_count done posted.objects.items holds.failed holds.splits in
    let counted = holds.count in
    let all = ap length are in
    let parts = length-append done rest in
    omega (arith, count, counted, all, parts, within)
