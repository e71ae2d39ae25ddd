-- A body holds one thing at one moment: the same objects are kept of it, and the same details are told.
use Rattle.std.proofs.Common.{◌≡◌, inl, inr, ℕ, ℤ, List, [], ◌∷◌, length, take, zero, suc, Option, Some, None, unwrap_or, refl, sym, ap, subst, ◌∙◌}
use Rattle.std.specs.Prelude.{codes}
use Rattle.std.specs.List.{AllZip}
use Rattle.flow_values.specs.Answers.{FindsExactly}
use Rattle.serde_json.specs.Data.{Data, Items, no_items, item}
use Rattle.stix_ids.specs.declared.id.Id.{Id}
use Rattle.stix_ids.specs.Identifier.{canonical_text}
use Rattle.stix_json.specs.declared.entry.Entry.{Entry}
use Rattle.stix_json.specs.declared.entry.Entry.TheVariants.{Good, Bad}
use Rattle.stix_json.specs.declared.refusal.JsonRefusal.{JsonRefusal}
use Rattle.stix_json.specs.declared.refusal.JsonRefusal.TheVariants as refused
use Rattle.stix_json.specs.DataOf.{data_of}
use Rattle.stix_json.specs.Refusal.{data_refusal}
use Rattle.stix_json.specs.Reading.{IsValueOf, IsRefusalOf, IsEntryFor}
use Rattle.stix_json.specs.Entries.{list_under, AreEntriesFor, AreListEntriesOf, HasNoList}
use Rattle.stix_objects.specs.declared.form.Precision.{Precision}
use Rattle.stix_objects.specs.declared.form.Precision.TheVariants.{Millis}
use Rattle.stix_objects.specs.declared.rule_break.Break.{Break}
use Rattle.stix_objects.specs.Breaks.{AreBreaksOf}
use Rattle.stix_objects.specs.Properties.{HasId, IsTimestampAt}
use Rattle.stix_objects.specs.RuleName.{rule_name}
use Rattle.taxii_rows.specs.declared.described.Described.{Described}
use Rattle.taxii_rows.specs.declared.type_set.TypeSet.{TypeSet}
use Rattle.taxii_rows.specs.declared.type_set.TypeSet.TheVariants.{Second}
use Rattle.taxii_rows.specs.Described.{IsDescribed}
use Rattle.taxii_rows.specs.Version.{HasVersion, IsVersionTime}
use Rattle.taxii_bodies.specs.declared.details.Detail.{Detail}
use Rattle.taxii_bodies.specs.Details.{detail_at_path, refusal_message, IsMomentText, IsIdOrUnknown, IsVersionOrMoment, IsFailureOf}
use Rattle.taxii_bodies.specs.Times.{stated_digits, IsStatedText}
use Rattle.taxii_service.specs.declared.posted.Posted.{Posted}
use Rattle.taxii_service.specs.declared.posted.TheConstants.{MAX_DETAILS}
use Rattle.taxii_service.specs.Posted.{BreaksFirst, IsKept, Fails, IsDetailOf, SplitsPostedEntries, IsPosted}
use Rattle.taxii_theorems.proofs.BodyLemmas.{OneText}

-- the laws of objects: a value has one list of breaks, one identifier, one instant of a timestamp, and one version
pub record Laws : Type 0 where
  pub breaks : (value : Data) (first second : List Break) → AreBreaksOf value first → AreBreaksOf value second → first ≡ second
  pub id : (object : Data) (first second : Id) → HasId object first → HasId object second → first ≡ second
  pub time : (precision : Precision) (name : List ℕ) (object : Data) (first second : ℤ) → IsTimestampAt precision name object first
      → IsTimestampAt precision name object second → first ≡ second
  pub version : (set : TypeSet) (object : Data) (first second : ℤ) → HasVersion set object first → HasVersion set object second → first ≡ second
  pub text : OneText

-- ---- entries

pub one_value : (bytes : List ℕ) (first second : Data) → IsValueOf bytes first → IsValueOf bytes second → first ≡ second
one_value bytes first second its also = ap (λ (o : Option Data). unwrap_or o first) (sym its.value ∙ also.value)

-- two entries of one item: one value, or one refusal
abbrev Same : Entry → Entry → Type 0
Same (Good json) (Good other) = data_of json ≡ data_of other
Same (Good json) (Bad refusal) = ⊥
Same (Bad refusal) (Good json) = ⊥
Same (Bad refusal) (Bad other) = refusal ≡ other

refusal_is : (d : Data) (refusal : JsonRefusal) → IsRefusalOf d refusal → data_refusal d ≡ Some refusal
refusal_is d refused.NotJson none = absurd none
refusal_is d (refused.TooDeep path) is = is
refusal_is d (refused.NotWhole path) is = is
refusal_is d (refused.Null path) is = is
refusal_is d (refused.OutOfRange path) is = is
refusal_is d refused.NotList none = absurd none
refusal_is d refused.NoMemory none = absurd none

one_entry : (d : Data) (first second : Entry) → IsEntryFor d first → IsEntryFor d second → Same first second
one_entry d (Good json) (Good other) its also = its.same ∙ sym also.same
one_entry d (Good json) (Bad refusal) its also = let good = its.good in let bad = refusal_is d refusal also in absurd (cc (good, bad))
one_entry d (Bad refusal) (Good json) its also = let good = also.good in let bad = refusal_is d refusal its in absurd (cc (good, bad))
one_entry d (Bad refusal) (Bad other) its also =
    let same : Some refusal ≡ Some other = sym (refusal_is d refusal its) ∙ refusal_is d other also in cc

entries_same : (list : Items) (first second : List Entry) → AreEntriesFor list first → AreEntriesFor list second → AllZip Same first second
entries_same no_items [] [] its also = tt
entries_same no_items [] (e ∷ es) its also = absurd also
entries_same no_items (e ∷ es) second its also = absurd its
entries_same (item d ds) [] second its also = absurd its
entries_same (item d ds) (e ∷ es) [] its also = absurd also
entries_same (item d ds) (e ∷ es) (f ∷ fs) its also = (one_entry d e f its.0 also.0, entries_same ds es fs its.1 also.1)

one_list : (first second third : Option Items) (a b : Items) → first ≡ second → first ≡ Some a → second ≡ Some b → a ≡ b
one_list first second third a b same its also = let one : Some a ≡ Some b = sym its ∙ same ∙ also in cc

body_same : (body name : List ℕ) (first second : List Entry) → AreListEntriesOf body name first → AreListEntriesOf body name second → AllZip Same first second
body_same body name first second its also =
    let whole : its.whole ≡ also.whole = one_value body its.whole also.whole its.value also.value in
    let list : its.list ≡ also.list = one_list (list_under name its.whole) (list_under name also.whole) None its.list also.list (ap (list_under name) whole) its.under also.under in
    entries_same also.list first second (subst (λ (l : Items). AreEntriesFor l first) list its.checked) also.checked

-- a body with a list under a name isn't one without
pub list_or_none : (body name : List ℕ) (entries : List Entry) → AreListEntriesOf body name entries → HasNoList body name → ⊥
list_or_none body name entries its none =
    let whole : its.whole ≡ none.whole = one_value body its.whole none.whole its.value none.value in
    let bad : Some its.list ≡ None = sym its.under ∙ ap (list_under name) whole ∙ none.under in absurd (cc bad)

-- ---- what is kept

one_found : (set : TypeSet) (d : Data) → Laws → (first second : Option ℤ) → FindsExactly (HasVersion set d) first → FindsExactly (HasVersion set d) second → first ≡ second
one_found set d laws None None its also = refl
one_found set d laws None (Some version) its also = absurd (its version also)
one_found set d laws (Some version) None its also = absurd (also version its)
one_found set d laws (Some version) (Some other) its also = ap Some (laws.version set d version other its also)

same_described : (a b : Described) → a.id ≡ b.id → a.version ≡ b.version → a.body ≡ b.body → a ≡ b
same_described a b id version body =
    let one : record { id = a.id; version = a.version; body = a.body } ≡ record { id = b.id; version = b.version; body = b.body } = cc (id, version, body) in one

one_described : Laws → (d : Data) (first second : Described) → IsDescribed d first → IsDescribed d second → first ≡ second
one_described laws d first second its also = same_described first second
    (laws.id d first.id second.id its.id also.id) (one_found Second d laws first.version second.version its.version also.version) (its.body ∙ sym also.body)

kept_same : Laws → (e f : Entry) (first second : Described) → Same e f → IsKept e first → IsKept f second → first ≡ second
kept_same laws (Good json) (Good other) first second same its also =
    one_described laws (data_of other) first second (subst (λ (d : Data). IsDescribed d first) same its.1) also.1
kept_same laws (Good json) (Bad refusal) first second same its also = absurd same
kept_same laws (Bad refusal) f first second same its also = absurd its

kept_or_fails : Laws → (e f : Entry) (object : Described) → Same e f → IsKept e object → Fails f → ⊥
kept_or_fails laws (Good json) (Good other) object same its fails = fails (subst (λ (d : Data). AreBreaksOf d []) same its.0)
kept_or_fails laws (Good json) (Bad refusal) object same its fails = same
kept_or_fails laws (Bad refusal) f object same its fails = its

same_back : (e f : Entry) → Same e f → Same f e
same_back (Good json) (Good other) same = sym same
same_back (Good json) (Bad refusal) same = same
same_back (Bad refusal) (Good json) same = same
same_back (Bad refusal) (Bad other) same = sym same

-- the objects are the same, and the entries that fail are too
abbrev SplitSame : List Described → List Described → List Entry → List Entry → Type 0
SplitSame first second failed others = (first ≡ second) × AllZip Same failed others

split_same : Laws → (es fs : List Entry) (first second : List Described) (failed others : List Entry) → AllZip Same es fs → SplitsPostedEntries es first failed → SplitsPostedEntries fs second others
    → SplitSame first second failed others
split_same laws [] [] first second failed others same its also =
    (its.0 ∙ sym also.0, subst (λ (xs : List Entry). AllZip Same xs others) (sym its.1) (subst (λ (ys : List Entry). AllZip Same [] ys) (sym also.1) tt))
split_same laws [] (f ∷ fs) first second failed others same its also = absurd same
split_same laws (e ∷ es) [] first second failed others same its also = absurd same
split_same laws (e ∷ es) (f ∷ fs) first second failed others same (inl (object, rest, is, kept, splits)) (inl (object_too, rest_too, is_too, kept_too, splits_too)) =
    let behind = split_same laws es fs rest rest_too failed others same.1 splits splits_too in
    (is ∙ ap (λ (o : Described). o ∷ rest) (kept_same laws e f object object_too same.0 kept kept_too) ∙ ap (λ (os : List Described). object_too ∷ os) behind.0 ∙ sym is_too, behind.1)
split_same laws (e ∷ es) (f ∷ fs) first second failed others same (inl (object, rest, is, kept, splits)) (inr (more, is_too, fails, splits_too)) =
    absurd (kept_or_fails laws e f object same.0 kept fails)
split_same laws (e ∷ es) (f ∷ fs) first second failed others same (inr (more, is, fails, splits)) (inl (object, rest, is_too, kept, splits_too)) =
    absurd (kept_or_fails laws f e object (same_back e f same.0) kept fails)
split_same laws (e ∷ es) (f ∷ fs) first second failed others same (inr (more, is, fails, splits)) (inr (more_too, is_too, fails_too, splits_too)) =
    let behind = split_same laws es fs first second more more_too same.1 splits splits_too in
    (behind.0, subst (λ (xs : List Entry). AllZip Same xs others) (sym is) (subst (λ (ys : List Entry). AllZip Same (e ∷ more) ys) (sym is_too) (same.0, behind.1)))

-- ---- what is told

pub one_moment : OneText → (moment : ℕ) (first second : List ℕ) → IsMomentText moment first → IsMomentText moment second → first ≡ second
one_moment one moment first second its also = one 6 _ first second its also

one_version_time : Laws → (d : Data) (first second : ℤ) → IsVersionTime d first → IsVersionTime d second → first ≡ second
one_version_time laws d first second (inl its) (inl also) = laws.time Millis (codes "modified") d first second its also
one_version_time laws d first second (inl its) (inr also) = absurd (also.0 first its)
one_version_time laws d first second (inr its) (inl also) = absurd (its.0 second also)
one_version_time laws d first second (inr its) (inr also) = laws.time Millis (codes "created") d first second its.1 also.1

one_id_text : Laws → (d : Data) (first second : List ℕ) → IsIdOrUnknown d first → IsIdOrUnknown d second → first ≡ second
one_id_text laws d first second (inl its) (inl also) = its.2 ∙ ap canonical_text (laws.id d its.0 also.0 its.1 also.1) ∙ sym also.2
one_id_text laws d first second (inl its) (inr also) = absurd (also.0 its.0 its.1)
one_id_text laws d first second (inr its) (inl also) = absurd (its.0 also.0 also.1)
one_id_text laws d first second (inr its) (inr also) = its.1 ∙ sym also.1

one_version_text : Laws → (d : Data) (moment : ℕ) (first second : List ℕ) → IsVersionOrMoment d moment first → IsVersionOrMoment d moment second → first ≡ second
one_version_text laws d moment first second (inl (instant, is, text)) (inl (other, is_too, text_too)) =
    let same : instant ≡ other = one_version_time laws d instant other is is_too in
    laws.text (stated_digits other) other first second (subst (λ (i : ℤ). IsStatedText i first) same text) text_too
one_version_text laws d moment first second (inl its) (inr also) = absurd (also.0 its.0 its.1)
one_version_text laws d moment first second (inr its) (inl also) = absurd (its.0 also.0 also.1)
one_version_text laws d moment first second (inr its) (inr also) = one_moment laws.text moment first second its.1 also.1

pub same_detail : (a b : Detail) → a.id ≡ b.id → a.message ≡ b.message → a.version ≡ b.version → a ≡ b
same_detail a b id message version =
    let one : record { id = a.id; message = a.message; version = a.version } ≡ record { id = b.id; message = b.message; version = b.version } = cc (id, message, version) in one

first_same : Laws → (d : Data) (first second : Break) → BreaksFirst d first → BreaksFirst d second → first ≡ second
first_same laws d first second its also =
    let all : first ∷ its.others ≡ second ∷ also.others = laws.breaks d (first ∷ its.others) (second ∷ also.others) its.breaks also.breaks in cc

detail_same : Laws → (moment : ℕ) (e f : Entry) (first second : Detail) → Same e f → IsDetailOf moment e first → IsDetailOf moment f second → first ≡ second
detail_same laws moment (Good json) (Good other) first second same (found, breaks, its) (found_too, breaks_too, also) =
    let here : BreaksFirst (data_of other) found = subst (λ (d : Data). BreaksFirst d found) same breaks in
    let one : found ≡ found_too = first_same laws (data_of other) found found_too here breaks_too in
    let fails : IsFailureOf (data_of other) found moment first = subst (λ (d : Data). IsFailureOf d found moment first) same its in
    same_detail first second (one_id_text laws (data_of other) first.id second.id fails.id also.id)
    (fails.message ∙ ap (λ (b : Break). Some (detail_at_path (rule_name b.rule) b.path)) one ∙ sym also.message)
    (one_version_text laws (data_of other) moment first.version second.version fails.version also.version)
detail_same laws moment (Good json) (Bad refusal) first second same its also = absurd same
detail_same laws moment (Bad refusal) (Good json) first second same its also = absurd same
detail_same laws moment (Bad refusal) (Bad other) first second same its also =
    same_detail first second (its.id ∙ sym also.id) (its.message ∙ ap (λ (r : JsonRefusal). Some (refusal_message r)) same ∙ sym also.message)
    (one_moment laws.text moment first.version second.version its.version also.version)

take_same : (n : ℕ) (es fs : List Entry) → AllZip Same es fs → AllZip Same (take n es) (take n fs)
take_same zero es fs same = tt
take_same (suc n) [] [] same = tt
take_same (suc n) [] (f ∷ fs) same = absurd same
take_same (suc n) (e ∷ es) [] same = absurd same
take_same (suc n) (e ∷ es) (f ∷ fs) same = (same.0, take_same n es fs same.1)

details_same : Laws → (moment : ℕ) (es fs : List Entry) (first second : List Detail) → AllZip Same es fs → AllZip (IsDetailOf moment) es first → AllZip (IsDetailOf moment) fs second
    → first ≡ second
details_same laws moment [] [] [] [] same its also = refl
details_same laws moment [] [] [] (d ∷ ds) same its also = absurd also
details_same laws moment [] [] (d ∷ ds) second same its also = absurd its
details_same laws moment [] (f ∷ fs) first second same its also = absurd same
details_same laws moment (e ∷ es) [] first second same its also = absurd same
details_same laws moment (e ∷ es) (f ∷ fs) [] second same its also = absurd its
details_same laws moment (e ∷ es) (f ∷ fs) (d ∷ ds) [] same its also = absurd also
details_same laws moment (e ∷ es) (f ∷ fs) (d ∷ ds) (g ∷ gs) same its also =
    ap (λ (x : Detail). x ∷ ds) (detail_same laws moment e f d g same.0 its.0 also.0) ∙ ap (λ (xs : List Detail). g ∷ xs) (details_same laws moment es fs ds gs same.1 its.1 also.1)

long_same : (es fs : List Entry) → AllZip Same es fs → length es ≡ length fs
long_same [] [] same = refl
long_same [] (f ∷ fs) same = absurd same
long_same (e ∷ es) [] same = absurd same
long_same (e ∷ es) (f ∷ fs) same = ap suc (long_same es fs same.1)

-- the same is posted
pub record IsSamePosted (first second : Posted) : Type 0 where
  pub objects : first.objects.items ≡ second.objects.items
  pub failures : first.failures ≡ second.failures
  pub count : first.failure_count ≡ second.failure_count

pub one_posted : Laws → (body : List ℕ) (moment : ℕ) (first second : Posted) → IsPosted body moment first → IsPosted body moment second → IsSamePosted first second
one_posted laws body moment first second its also =
    let entries = body_same body (codes "objects") its.entries also.entries its.entries_are also.entries_are in
    let split = split_same laws its.entries also.entries first.objects.items second.objects.items its.holds.failed also.holds.failed entries its.holds.splits also.holds.splits in
    record {
      objects = split.0;
      failures = details_same laws moment (take MAX_DETAILS its.holds.failed) (take MAX_DETAILS also.holds.failed) first.failures second.failures
          (take_same MAX_DETAILS its.holds.failed also.holds.failed split.1) its.holds.details also.holds.details;
      count = its.holds.count ∙ long_same its.holds.failed also.holds.failed split.1 ∙ sym also.holds.count;
    }
