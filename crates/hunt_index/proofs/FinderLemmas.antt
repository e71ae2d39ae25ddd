-- That a finder finds its brackets.
use Rattle.std.proofs.Common.{arith, ◌≡◌, ◌⊎◌, inl, inr, ℕ, ◌+◌, ◌<◌, List, [], ◌∷◌, ◌++◌, length, Some, None, slice_get, sym, ap, subst, ◌∙◌}
use Rattle.std.specs.Prelude.{All, Contains}
use Rattle.std.specs.Borrow.{Bor}
use Rattle.std.specs.List.Sorted.{IsPermutation}
use Rattle.std.proofs.lemmas.List.Elements.{All-contains, All-push, All-weaker, Contains-append_left, Contains-push}
use Rattle.std.proofs.lemmas.List.Sorted.{Contains-permutation, All-permutation}
use Rattle.std.proofs.lemmas.Option.{same_Some, slice_get_within}
use Rattle.serde_json.specs.Data.{Data}
use Rattle.pattern_types.specs.declared.leaf.Leaf.{Leaf}
use Rattle.pattern_types.specs.declared.path.Step.{Step}
use Rattle.pattern_types.specs.PlainLeaf.{plain_leaf}
use Rattle.match_comparisons.specs.Selection.{IsRoot, Reaches}
use Rattle.match_comparisons.specs.Tests.{HoldsAt}
use Rattle.hunt_index.specs.declared.index_key.IndexKey.{IndexKey}
use Rattle.hunt_index.specs.declared.key.Key.{Key}
use Rattle.hunt_index.specs.declared.postings.Postings.{Postings}
use Rattle.hunt_index.specs.declared.paths.Lookup.{Lookup}
use Rattle.hunt_index.specs.declared.paths.PathTable.{PathTable}
use Rattle.hunt_index.specs.declared.finder.Finder.{Finder}
use Rattle.hunt_index.specs.Definite.{ArePlain}
use Rattle.hunt_index.specs.inner.Keys.{FitsKey}
use Rattle.hunt_index.specs.inner.Postings.{HasIndexKeys, IsCovered, IsPostingIn, IsOpenIn, ArePostingsOf}
use Rattle.hunt_index.specs.inner.Paths.{IsOfPosting, AreAllGrouped}
use Rattle.hunt_index.specs.inner.Indexed.{IsLedTo, IsFoundBracket, IsDefiniteFor, IsEntryOf, IsOpenOf, IsPathEntryOfKind, IsFinderOf}
use Rattle.hunt_index.specs.inner.Finding.{AreKinds}
use Rattle.hunt_index.proofs.PostingsLemmas.{posting_of}

module _ (brackets : List Leaf) (postings : Postings) (path_table : PathTable) (kinds : List (Bor (List ℕ) × ℕ)) (finder : Finder)
    (are_postings : ArePostingsOf brackets (length brackets) postings) (are_filed : AreAllGrouped postings.indexed.items path_table) (are_kinds : AreKinds path_table.paths.items kinds)
    (only_kinds : All (IsPathEntryOfKind path_table.paths.items) kinds)
    (kinded : IsPermutation kinds finder.kinds.entries.items) (same : finder.paths.items ≡ path_table.paths.items)
    (entered : IsPermutation path_table.entries.items finder.brackets_found.entries.items) (unindexed : finder.unindexed.items ≡ postings.unindexed.items) where
  led : (bracket : ℕ) (leaf : Leaf) → HasIndexKeys postings.indexed.items leaf bracket → (objects : List Data) (root : ℕ) → HoldsAt objects root (plain_leaf leaf)
      → IsLedTo finder bracket objects root
  led bracket leaf indexed objects root holds =
      let some = indexed.own objects root holds in
      let index_key = some.0 in
      let met = some.2 in
      let file = are_filed.each (posting_of bracket index_key) (indexed.among index_key some.1) in
      let path = file.numbered.path in
      let lookup : Lookup = record { path = file.number; key = index_key.key } in
      record {
        lookup = lookup;
        leads = record {
          object = met.object;
          reached = record {
            path = path;
            there = subst (λ (ps : List IndexKey). slice_get ps file.number ≡ Some path) (sym same) file.numbered.there;
            plain = subst ArePlain (sym file.numbered.same.steps) met.plain;
            value = met.value;
            reached = subst (λ (s : List Step). Reaches objects None s met.object met.value) (sym file.numbered.same.steps) met.reached;
            fits = met.fits;
          };
          is_root = subst (λ (k : List ℕ). IsRoot objects root k met.object) (sym file.numbered.same.kind) met.is_root;
          kinded = Contains-permutation kinds finder.kinds.entries.items (path.kind, file.number) kinded (are_kinds file.number path file.numbered.there);
        };
        entered = Contains-permutation path_table.entries.items finder.brackets_found.entries.items (lookup, bracket) entered file.entered;
      }

  found : (bracket : ℕ) (leaf : Leaf) → IsCovered postings leaf bracket → IsFoundBracket finder leaf bracket
  found bracket leaf covered = elim covered [
    | inl is ↦ inl (subst (λ (l : List ℕ). Contains l bracket) (sym unindexed) is)
    | inr indexed ↦ inr (led bracket leaf indexed)
  ]

  implies : (entry : Lookup × ℕ) (own : IsOfPosting path_table.paths.items postings.indexed.items entry) (leaf : Leaf) → slice_get brackets entry.1 ≡ Some leaf → IsDefiniteFor finder.paths.items leaf entry.0
  implies entry own leaf there definite objects root seen =
      let posting_in = All-contains (IsPostingIn brackets (length brackets)) postings.indexed.items own.posting are_postings.indexed own.among in
      let posting = posting_in.is leaf (subst (λ (n : ℕ). slice_get brackets n ≡ Some leaf) own.placed there) in
      let from = seen.seen in
      let path_is : from.path ≡ own.numbered.path =
      same_Some from.path own.numbered.path (sym from.there ∙ ap (λ (ps : List IndexKey). slice_get ps entry.0.path) same ∙ own.numbered.there) in
      posting.sufficient definite objects root (record {
        object = seen.object;
        is_root = subst (λ (k : List ℕ). IsRoot objects root k seen.object) (ap (λ (g : IndexKey). g.kind.now) path_is ∙ own.numbered.same.kind) seen.is_root;
        value = from.value;
        reached = subst (λ (s : List Step). Reaches objects None s seen.object from.value) (ap (λ (g : IndexKey). g.steps.now) path_is ∙ own.numbered.same.steps) from.reached;
        fits = subst (λ (k : Key). FitsKey k from.value) own.keyed from.fits;
      })

  entry_of_bracket : (entry : Lookup × ℕ) → IsOfPosting path_table.paths.items postings.indexed.items entry → IsEntryOf brackets finder.paths.items entry
  entry_of_bracket entry own =
      let posting_in = All-contains (IsPostingIn brackets (length brackets)) postings.indexed.items own.posting are_postings.indexed own.among in
      record { below = omega (arith, posting_in.below, own.placed); implies = implies entry own }

  pub finds_all : IsFinderOf brackets finder
  finds_all = record {
    found = λ bracket leaf there. found bracket leaf (are_postings.covered bracket leaf (slice_get_within brackets bracket leaf there) there);
    brackets_found = All-permutation (IsEntryOf brackets finder.paths.items) path_table.entries.items finder.brackets_found.entries.items entered
        (All-weaker (IsOfPosting path_table.paths.items postings.indexed.items) (IsEntryOf brackets finder.paths.items) entry_of_bracket path_table.entries.items are_filed.only);
    unindexed = subst (λ (l : List ℕ). All (IsOpenOf brackets) l) (sym unindexed)
        (All-weaker (IsOpenIn brackets (length brackets)) (IsOpenOf brackets) (λ n own. record { below = own.below; indefinite = λ leaf there. (own.is leaf there).indefinite })
        postings.unindexed.items are_postings.unindexed);
    kinds = All-permutation (IsPathEntryOfKind finder.paths.items) kinds finder.kinds.entries.items kinded
        (subst (λ (ps : List IndexKey). All (IsPathEntryOfKind ps) kinds) (sym same) only_kinds);
  }

before_or_last : (at count : ℕ) → at < count + 1 → (at < count) ⊎ (at ≡ count)
before_or_last at count below = grind arith

-- the first so many paths have their numbers beside the types of their roots
abbrev pub AreFirstKinds : List IndexKey → ℕ → List (Bor (List ℕ) × ℕ) → Type 0
AreFirstKinds paths count kinds = ((at : ℕ) (path : IndexKey) → at < count → slice_get paths at ≡ Some path → Contains kinds (path.kind, at)) × All (IsPathEntryOfKind paths) kinds

-- one path more
pub kinds_next : (paths : List IndexKey) (count : ℕ) (path : IndexKey) (old new : List (Bor (List ℕ) × ℕ)) → slice_get paths count ≡ Some path
    → new ≡ old ++ (path.kind, count) ∷ [] → AreFirstKinds paths count old → AreFirstKinds paths (count + 1) new
kinds_next paths count path old new there is first = (
  λ at other below own. elim (before_or_last at count below) [
    | inl before ↦
        subst (λ (kinds : List (Bor (List ℕ) × ℕ)). Contains kinds (other.kind, at)) (sym is)
        (Contains-append_left old ((path.kind, count) ∷ []) (other.kind, at) (first.0 at other before own))
    | inr last ↦
        let same : path ≡ other = same_Some path other (sym there ∙ ap (slice_get paths) (sym last) ∙ own) in
        subst (λ (n : ℕ). Contains new (other.kind, n)) (sym last)
        (subst (λ (index_key : IndexKey). Contains new (index_key.kind, count)) same
        (subst (λ (kinds : List (Bor (List ℕ) × ℕ)). Contains kinds (path.kind, count)) (sym is) (Contains-push old (path.kind, count))))
  ],
  subst (λ (kinds : List (Bor (List ℕ) × ℕ)). All (IsPathEntryOfKind paths) kinds) (sym is)
      (All-push (IsPathEntryOfKind paths) old (path.kind, count) first.1 (λ other own. ap (λ (index_key : IndexKey). index_key.kind.now) (same_Some other path (sym own ∙ there)))),
)
