-- The entries of a page partitioned, one more at a time.
use Rattle.std.proofs.Common.{◌≡◌, ℕ, ◌+◌, ◌<◌, List, [], ◌∷◌, ◌++◌, length, All, inl, inr, refl, sym, ap, subst, ◌∙◌, arith}
use Rattle.std.proofs.lemmas.List.{length-append}
use Rattle.std.proofs.lemmas.List.Elements.{All-append, All-cons, All-nil}
use Rattle.stix_json.specs.declared.entry.Entry.{Entry}
use Rattle.taxii_rows.specs.declared.described.Described.{Described}
use Rattle.taxii_store.specs.Planned.{IsSound}
use Rattle.taxii_client.specs.Absorbing.{IsKeptEntry, IsSkippedEntry, SplitsPageEntries}
use Rattle.taxii_client.specs.declared.partitioned.Partitioned.{Partitioned}
use Rattle.taxii_client.specs.inner.Sorting.{Partitions, PartitionsOne}

splits_object : (entries : List Entry) (objects : List Described) (skipped : List Entry) (entry : Entry) (object : Described)
    → SplitsPageEntries entries objects skipped → IsKeptEntry entry object → SplitsPageEntries (entries ++ entry ∷ []) (objects ++ object ∷ []) skipped
splits_object [] objects skipped entry object (none, nothing) kept = inl (object, [], ap (λ os. os ++ object ∷ []) none, kept, (refl, nothing))
splits_object (first ∷ entries) objects skipped entry object (inl (one, others, is, its, rest)) kept =
    inl (one, others ++ object ∷ [], ap (λ os. os ++ object ∷ []) is, its, splits_object entries others skipped entry object rest kept)
splits_object (first ∷ entries) objects skipped entry object (inr (others, is, its, rest)) kept =
    inr (others, is, its, splits_object entries objects others entry object rest kept)

splits_skipped : (entries : List Entry) (objects : List Described) (skipped : List Entry) (entry : Entry)
    → SplitsPageEntries entries objects skipped → IsSkippedEntry entry → SplitsPageEntries (entries ++ entry ∷ []) objects (skipped ++ entry ∷ [])
splits_skipped [] objects skipped entry (none, nothing) fails = inr ([], ap (λ es. es ++ entry ∷ []) nothing, fails, (none, refl))
splits_skipped (first ∷ entries) objects skipped entry (inl (one, others, is, its, rest)) fails =
    inl (one, others, is, its, splits_skipped entries others skipped entry rest fails)
splits_skipped (first ∷ entries) objects skipped entry (inr (others, is, its, rest)) fails =
    inr (others ++ entry ∷ [], ap (λ es. es ++ entry ∷ []) is, its, splits_skipped entries objects others entry rest fails)

pub partitions_one : (entries : List Entry) (entry : Entry) (old new : Partitioned) → Partitions entries old → PartitionsOne entry old new → Partitions (entries ++ entry ∷ []) new
partitions_one entries entry old new partitions (inl keeps) = record {
  skipped = partitions.skipped;
  splits = subst (λ (os : List Described). SplitsPageEntries (entries ++ entry ∷ []) os partitions.skipped) (sym keeps.objects)
      (splits_object entries old.objects.items partitions.skipped entry keeps.object partitions.splits keeps.kept);
  count = keeps.count ∙ partitions.count;
}
partitions_one entries entry old new partitions (inr skips) = record {
  skipped = partitions.skipped ++ entry ∷ [];
  splits = subst (λ (os : List Described). SplitsPageEntries (entries ++ entry ∷ []) os (partitions.skipped ++ entry ∷ [])) (sym skips.objects)
      (splits_skipped entries old.objects.items partitions.skipped entry partitions.splits skips.fails);
  count = skips.count ∙ ap (λ n. n + 1) partitions.count ∙ sym (length-append partitions.skipped (entry ∷ []));
}

pub sound_one : (entry : Entry) (old new : Partitioned) → All IsSound old.objects.items → PartitionsOne entry old new → All IsSound new.objects.items
sound_one entry old new all (inl keeps) =
    subst (All IsSound) (sym keeps.objects)
    (All-append IsSound old.objects.items (keeps.object ∷ []) all (All-cons IsSound keeps.object [] keeps.sound (All-nil IsSound)))
sound_one entry old new all (inr skips) = subst (All IsSound) (sym skips.objects) all

splits_count : (entries : List Entry) (objects : List Described) (skipped : List Entry) → SplitsPageEntries entries objects skipped
    → length objects + length skipped ≡ length entries
splits_count [] objects skipped (none, nothing) =
    let few = ap length none in let fewer = ap length nothing in omega (arith, few, fewer)
splits_count (first ∷ entries) objects skipped (inl (one, others, is, its, rest)) =
    let count = splits_count entries others skipped rest in let more = ap length is in omega (arith, count, more)
splits_count (first ∷ entries) objects skipped (inr (others, is, its, rest)) =
    let count = splits_count entries objects others rest in let more = ap length is in omega (arith, count, more)

-- no more entries are skipped than there are
pub skipped_within : (limit : ℕ) (entries done rest : List Entry) (partitioned : Partitioned) → length entries < limit → entries ≡ done ++ rest
    → Partitions done partitioned → partitioned.skipped < limit
skipped_within limit entries done rest partitioned within are partitions =
    let count = splits_count done partitioned.objects.items partitions.skipped partitions.splits in
    let counted = partitions.count in
    let all = ap length are in
    let parts = length-append done rest in
    omega (arith, count, counted, all, parts, within)
