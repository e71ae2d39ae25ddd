-- Pages absorbed in turn: what they leave, and that a page which comes again changes nothing.
use Rattle.std.proofs.Common.{◌≡◌, inl, inr, ℕ, ℤ, List, [], ◌∷◌, ◌++◌, Option, Some, None, refl, sym, ap, subst, ◌∙◌, append_assoc}
use Rattle.std.specs.List.{Contains}
use Rattle.std.proofs.lemmas.List.{append-nil}
use Rattle.std.proofs.lemmas.List.Elements.{All-contains}
use Rattle.flow_values.specs.Answers.{FindsExactly}
use Rattle.serde_json.specs.Data.{Data}
use Rattle.stix_ids.specs.declared.id.Id.{Id}
use Rattle.stix_json.specs.declared.entry.Entry.{Entry}
use Rattle.stix_json.specs.declared.entry.Entry.TheVariants.{Good, Bad}
use Rattle.stix_json.specs.DataOf.{data_of}
use Rattle.stix_objects.specs.Properties.{HasId}
use Rattle.taxii_rows.specs.declared.stored_row.StoredRow.{StoredRow}
use Rattle.taxii_rows.specs.declared.described.Described.{Described}
use Rattle.taxii_rows.specs.declared.type_set.TypeSet.{TypeSet}
use Rattle.taxii_rows.specs.declared.type_set.TypeSet.TheVariants.{Second}
use Rattle.taxii_rows.specs.Keeper.{with_rows}
use Rattle.taxii_rows.specs.StoreState.{StoreState}
use Rattle.taxii_rows.specs.Version.{HasVersion}
use Rattle.taxii_index.proofs.ListLemmas.{nothing, first, later, cons_cases}
use Rattle.taxii_store.specs.Addition.{watermark_after}
use Rattle.taxii_client.specs.Absorbing.{Absorbed, Absorbs, IsKeptEntry, IsSkippedEntry, SplitsPageEntries}
use Rattle.taxii_client.specs.Mirrored.{Mirrored}
use Rattle.taxii_client.specs.Standing.{IsStored, AreStoredOnce, GrowsOnce}
use Rattle.taxii_client.proofs.StandingLemmas.{stands_behind, added_stand, none_new, added_once, once_behind}

-- ---- pages in turn

pub one_more : (collection : ℕ) (state before after : StoreState) (pages : List Absorbed) (page : Absorbed)
    → Mirrored collection state pages before → Absorbs collection page before after → Mirrored collection state (pages ++ page ∷ []) after
one_more collection state before after [] page same absorbs = (after, subst (λ (s : StoreState). Absorbs collection page s after) same absorbs, refl)
one_more collection state before after (earlier ∷ pages) page (next, its, rest) absorbs =
    (next, its, one_more collection next before after pages page rest absorbs)

-- pages are absorbed, and then the others
pub cut : (collection : ℕ) (state last : StoreState) (pages rest : List Absorbed) → Mirrored collection state (pages ++ rest) last
    → (middle : StoreState) × Mirrored collection state pages middle × Mirrored collection middle rest last
cut collection state last [] rest mirrored = (state, refl, mirrored)
cut collection state last (page ∷ pages) rest (next, its, behind) =
    let parts = cut collection next last pages rest behind in (parts.0, (next, its, parts.1), parts.2)

pub joined : (collection : ℕ) (state middle last : StoreState) (pages rest : List Absorbed)
    → Mirrored collection state pages middle → Mirrored collection middle rest last → Mirrored collection state (pages ++ rest) last
joined collection state middle last [] rest same behind = subst (λ (s : StoreState). Mirrored collection s rest last) same behind
joined collection state middle last (page ∷ pages) rest (next, its, others) behind = (next, its, joined collection next middle last pages rest others behind)

-- ---- one object is kept of an entry

-- an object has one identifier and one version
pub record Laws : Type 0 where
  pub id : (object : Data) (one other : Id) → HasId object one → HasId object other → one ≡ other
  pub version : (set : TypeSet) (object : Data) (one other : ℤ) → HasVersion set object one → HasVersion set object other → one ≡ other

one_found : (d : Data) → Laws → (one other : Option ℤ) → FindsExactly (HasVersion Second d) one → FindsExactly (HasVersion Second d) other → one ≡ other
one_found d laws None None its also = refl
one_found d laws None (Some version) its also = absurd (its version also)
one_found d laws (Some version) None its also = absurd (also version its)
one_found d laws (Some version) (Some other) its also = ap Some (laws.version Second d version other its also)

same_described : (a b : Described) → a.id ≡ b.id → a.version ≡ b.version → a.body ≡ b.body → a ≡ b
same_described a b id version body =
    let one : record { id = a.id; version = a.version; body = a.body } ≡ record { id = b.id; version = b.version; body = b.body } = cc (id, version, body) in one

one_kept : Laws → (entry : Entry) (one other : Described) → IsKeptEntry entry one → IsKeptEntry entry other → one ≡ other
one_kept laws (Good json) one other its also = same_described one other
    (laws.id (data_of json) one.id other.id its.1.id also.1.id) (one_found (data_of json) laws one.version other.version its.1.version also.1.version)
    (its.1.body ∙ sym also.1.body)
one_kept laws (Bad refusal) one other its also = absurd its

kept_or_skipped : (entry : Entry) (object : Described) → IsKeptEntry entry object → IsSkippedEntry entry → ⊥
kept_or_skipped (Good json) object its skipped = skipped its.0
kept_or_skipped (Bad refusal) object its skipped = its

-- what is kept of an entry is among the objects of its page
kept_among : Laws → (entries : List Entry) (objects : List Described) (skipped : List Entry) (entry : Entry) (object : Described)
    → SplitsPageEntries entries objects skipped → Contains entries entry → IsKeptEntry entry object → Contains objects object
kept_among laws [] objects skipped entry object splits here kept = absurd (nothing entry here)
kept_among laws (one ∷ entries) objects skipped entry object (inl (its, others, is, kept_one, rest)) here kept = elim (cons_cases one entry entries here) [
  | inl same ↦
      let both : object ≡ its = one_kept laws one object its (subst (λ (e : Entry). IsKeptEntry e object) (sym same) kept) kept_one in
      subst (λ (os : List Described). Contains os object) (sym is) (subst (λ (o : Described). Contains (o ∷ others) object) both (first object others))
  | inr behind ↦ subst (λ (os : List Described). Contains os object) (sym is) (later its object others (kept_among laws entries others skipped entry object rest behind kept))
]
kept_among laws (one ∷ entries) objects skipped entry object (inr (others, is, fails, rest)) here kept = elim (cons_cases one entry entries here) [
  | inl same ↦ absurd (kept_or_skipped one object (subst (λ (e : Entry). IsKeptEntry e object) (sym same) kept) fails)
  | inr behind ↦ kept_among laws entries objects others entry object rest behind kept
]

-- each object of a page is what is kept of an entry
entry_of : (entries : List Entry) (objects : List Described) (skipped : List Entry) (object : Described)
    → SplitsPageEntries entries objects skipped → Contains objects object → (entry : Entry) × Contains entries entry × IsKeptEntry entry object
entry_of [] objects skipped object (none, nobody) here = absurd (nothing object (subst (λ (os : List Described). Contains os object) none here))
entry_of (one ∷ entries) objects skipped object (inl (its, others, is, kept, rest)) here =
    elim (cons_cases its object others (subst (λ (os : List Described). Contains os object) is here)) [
      | inl same ↦ (one, first one entries, subst (IsKeptEntry one) same kept)
      | inr behind ↦ let found = entry_of entries others skipped object rest behind in (found.0, later one found.0 entries found.1, found.2)
    ]
entry_of (one ∷ entries) objects skipped object (inr (others, is, fails, rest)) here =
    let found = entry_of entries objects others object rest here in (found.0, later one found.0 entries found.1, found.2)

-- ---- what stands after pages

rows_after : (collection : ℕ) (page : Absorbed) (before after : StoreState) (absorbs : Absorbs collection page before after) → after.rows ≡ before.rows ++ absorbs.new
rows_after collection page before after absorbs = ap (λ (s : StoreState). s.rows) absorbs.after_is

page_stands : Laws → (collection : ℕ) (page : Absorbed) (before after : StoreState) (entry : Entry) (object : Described)
    → Absorbs collection page before after → Contains page.entries entry → IsKeptEntry entry object → IsStored collection object after.rows
page_stands laws collection page before after entry object absorbs here kept =
    subst (IsStored collection object) (sym (rows_after collection page before after absorbs))
    (All-contains (λ one. IsStored collection one (before.rows ++ absorbs.new)) absorbs.objects object
    (added_stand collection _ before.rows absorbs.objects absorbs.outcomes absorbs.new absorbs.addition.adds)
    (kept_among laws page.entries absorbs.objects absorbs.skipped entry object absorbs.splits here kept))

still_stands : (collection : ℕ) (state last : StoreState) (pages : List Absorbed) (object : Described) → Mirrored collection state pages last
    → IsStored collection object state.rows → IsStored collection object last.rows
still_stands collection state last [] object same stands = subst (λ (s : StoreState). IsStored collection object s.rows) (sym same) stands
still_stands collection state last (page ∷ pages) object (next, absorbs, rest) stands =
    still_stands collection next last pages object rest
    (subst (IsStored collection object) (sym (rows_after collection page state next absorbs)) (stands_behind collection object state.rows absorbs.new stands))

pub all_present : Laws → (collection : ℕ) (state last : StoreState) (pages : List Absorbed) (page : Absorbed) (entry : Entry) (object : Described)
    → Mirrored collection state pages last → Contains pages page → Contains page.entries entry → IsKeptEntry entry object → IsStored collection object last.rows
all_present laws collection state last [] page entry object mirrored among here kept = absurd (nothing page among)
all_present laws collection state last (one ∷ pages) page entry object (next, absorbs, rest) among here kept = elim (cons_cases one page pages among) [
  | inl same ↦ still_stands collection next last pages object rest
      (page_stands laws collection one state next entry object absorbs (subst (λ (p : Absorbed). Contains p.entries entry) (sym same) here) kept)
  | inr behind ↦ all_present laws collection next last pages page entry object rest behind here kept
]

-- ---- a page that comes again

same_state : (state : StoreState) (new : List StoredRow) → new ≡ [] → with_rows new (watermark_after state.watermark new) state ≡ state
same_state state new none =
    ap (λ (rs : List StoredRow). with_rows rs (watermark_after state.watermark rs) state) none
    ∙ ap (λ (rs : List StoredRow). let s : StoreState = record { rows = rs; watermark = state.watermark } in s) (append-nil state.rows)

pub repeat_stays : Laws → (collection : ℕ) (state before after : StoreState) (pages : List Absorbed) (page again : Absorbed)
    → Mirrored collection state pages before → Contains pages page → again.entries ≡ page.entries → Absorbs collection again before after → after ≡ before
repeat_stays laws collection state before after pages page again mirrored among same absorbs =
    absorbs.after_is ∙ same_state before absorbs.new
    (none_new collection _ before.rows absorbs.objects absorbs.outcomes absorbs.new (λ object here.
    let found = entry_of again.entries absorbs.objects absorbs.skipped object absorbs.splits here in
    all_present laws collection state before pages page found.0 object mirrored among
    (subst (λ (es : List Entry). Contains es found.0) same found.1) found.2) absorbs.addition.adds)

pub repeat_out : Laws → (collection : ℕ) (state last : StoreState) (pages rest : List Absorbed) (page again : Absorbed)
    → Contains pages page → again.entries ≡ page.entries → Mirrored collection state (pages ++ again ∷ rest) last → Mirrored collection state (pages ++ rest) last
repeat_out laws collection state last pages rest page again among same mirrored =
    let parts = cut collection state last pages (again ∷ rest) mirrored in
    let stays = repeat_stays laws collection state parts.0 parts.2.0 pages page again parts.1 among same parts.2.1 in
    joined collection state parts.0 last pages rest parts.1 (subst (λ (s : StoreState). Mirrored collection s rest last) stays parts.2.2)

-- ---- rows that stand once

pub grows_once : (collection : ℕ) (state last : StoreState) (pages : List Absorbed) → Mirrored collection state pages last → GrowsOnce state.rows last.rows
grows_once collection state last [] same = record { new = []; rows_are = ap (λ (s : StoreState). s.rows) same ∙ sym (append-nil state.rows); once = tt }
grows_once collection state last (page ∷ pages) (next, absorbs, rest) =
    let rows = rows_after collection page state next absorbs in
    let behind = grows_once collection next last pages rest in record {
      new = absorbs.new ++ behind.new;
      rows_are = behind.rows_are ∙ ap (λ (rs : List StoredRow). rs ++ behind.new) rows ∙ append_assoc state.rows absorbs.new behind.new;
      once = once_behind state.rows absorbs.new behind.new (added_once collection _ state.rows absorbs.objects absorbs.outcomes absorbs.new absorbs.addition.adds)
          (subst (λ (rs : List StoredRow). AreStoredOnce rs behind.new) rows behind.once);
    }
