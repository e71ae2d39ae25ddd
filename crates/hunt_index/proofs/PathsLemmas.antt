-- Postings that are filed, one posting more; and the path of an index key.
use Rattle.std.proofs.Common.{arith, ◌≡◌, ◌⊎◌, inl, inr, ℕ, ◌+◌, ◌<◌, ◌≤◌, List, [], ◌∷◌, length, get_or, Some, slice_get, refl, sym, ap, subst, ◌∙◌}
use Rattle.std.specs.Prelude.{All, Contains}
use Rattle.std.specs.List.Sorted.{IsPermutation}
use Rattle.std.proofs.lemmas.List.Elements.{All-push, All-weaker, Contains-append_left, Contains-push, Contains-get_or}
use Rattle.std.proofs.lemmas.List.Sorted.{Contains-permutation, IsPermutation-sym}
use Rattle.std.proofs.lemmas.Option.{slice_get-get_or, get_or_from_slice_get}
use Rattle.hunt_index.specs.declared.postings.Posting.{Posting}
use Rattle.hunt_index.specs.declared.paths.Lookup.{Lookup}
use Rattle.hunt_index.specs.declared.paths.PathTable.{PathTable}
use Rattle.hunt_index.specs.declared.index_key.IndexKey.{IndexKey}
use Rattle.hunt_index.specs.inner.Paths.{entry_of, KeepsPaths, AddsPosting, IsGrouped, IsOfPosting, AreGrouped, AreAllGrouped}

before_or_last : (at count : ℕ) → at < count + 1 → (at < count) ⊎ (at ≡ count)
before_or_last at count below = grind arith

still_filed : (posting other : Posting) (old new : PathTable) → AddsPosting posting old new → IsGrouped old other → IsGrouped new other
still_filed posting other old new adds path_table = record {
  number = path_table.number;
  numbered = record { path = path_table.numbered.path; there = adds.kept path_table.number path_table.numbered.path path_table.numbered.there; same = path_table.numbered.same };
  entered = subst (λ (es : List (Lookup × ℕ)). Contains es (entry_of path_table.number other)) (sym adds.is)
      (Contains-append_left old.entries.items (entry_of adds.number posting ∷ []) (entry_of path_table.number other) path_table.entered);
}

still_of_posting : (old new : List IndexKey) (postings : List Posting) (entry : Lookup × ℕ) → KeepsPaths old new → IsOfPosting old postings entry → IsOfPosting new postings entry
still_of_posting old new postings entry keeps own = record {
  posting = own.posting;
  among = own.among;
  placed = own.placed;
  numbered = record { path = own.numbered.path; there = keeps entry.0.path own.numbered.path own.numbered.there; same = own.numbered.same };
  keyed = own.keyed;
}

now_filed : (posting : Posting) (old new : PathTable) → AddsPosting posting old new → IsGrouped new posting
now_filed posting old new adds = record {
  number = adds.number;
  numbered = adds.numbered;
  entered = subst (λ (es : List (Lookup × ℕ)). Contains es (entry_of adds.number posting)) (sym adds.is) (Contains-push old.entries.items (entry_of adds.number posting));
}

at_place : (postings : List Posting) (i : ℕ) (posting : Posting) → i < length postings → posting ≡ get_or postings i posting → Contains postings posting
at_place postings i posting below is = subst (Contains postings) (sym is) (Contains-get_or postings i posting below)

-- one posting more
pub filed_next : (postings : List Posting) (count : ℕ) (posting : Posting) (old new : PathTable) → count < length postings → posting ≡ get_or postings count posting → AreGrouped postings count old
    → AddsPosting posting old new → AreGrouped postings (count + 1) new
filed_next postings count posting old new below is path_table adds = record {
  each = λ k other before there. elim (before_or_last k count before) [
    | inl earlier ↦ still_filed posting other old new adds (path_table.each k other earlier there)
    | inr last ↦
        let same : posting ≡ other = is ∙ get_or_from_slice_get postings count other posting (ap (slice_get postings) (sym last) ∙ there) in
        subst (IsGrouped new) same (now_filed posting old new adds)
  ];
  only = subst (λ (es : List (Lookup × ℕ)). All (IsOfPosting new.paths.items postings) es) (sym adds.is)
      (All-push (IsOfPosting new.paths.items postings) old.entries.items (entry_of adds.number posting)
      (All-weaker (IsOfPosting old.paths.items postings) (IsOfPosting new.paths.items postings) (λ entry own. still_of_posting old.paths.items new.paths.items postings entry adds.kept own) old.entries.items path_table.only)
      (record { posting = posting; among = at_place postings count posting below is; placed = refl; numbered = adds.numbered; keyed = refl }));
}

-- all of them, in another order
pub all_filed : (postings sorted : List Posting) (count : ℕ) (path_table : PathTable) → IsPermutation postings sorted → length sorted ≤ count → AreGrouped sorted count path_table
    → AreAllGrouped postings path_table
all_filed postings sorted count path_table moved long done = record {
  each = λ posting has.
      let there = Contains-permutation postings sorted posting moved has in
      done.each there.0 posting (omega (arith, there.1)) (slice_get-get_or sorted there.0 posting there.1 ∙ ap Some there.2);
  only = All-weaker (IsOfPosting path_table.paths.items sorted) (IsOfPosting path_table.paths.items postings)
      (λ entry own. record {
        posting = own.posting;
        among = Contains-permutation sorted postings own.posting (IsPermutation-sym postings sorted moved) own.among;
        placed = own.placed;
        numbered = own.numbered;
        keyed = own.keyed;
      })
      path_table.entries.items done.only;
}
