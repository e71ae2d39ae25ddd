-- The postings of many brackets, one bracket more.
use Rattle.std.proofs.Common.{arith, ◌≡◌, ◌⊎◌, inl, inr, ℕ, ◌+◌, ◌<◌, List, [], ◌++◌, map, get_or, Some, slice_get, refl, sym, ap, subst, ◌∙◌}
use Rattle.std.specs.Prelude.{All, Contains}
use Rattle.std.proofs.lemmas.List.{append-nil}
use Rattle.std.proofs.lemmas.List.Elements.{All-nil, All-map, All-append, All-weaker, Contains-append_left, Contains-append_right, Contains-get_or}
use Rattle.std.proofs.lemmas.Option.{same_Some}
use Rattle.pattern_types.specs.declared.leaf.Leaf.{Leaf}
use Rattle.pattern_types.specs.PlainLeaf.{plain_leaf}
use Rattle.match_comparisons.specs.Tests.{HoldsAt}
use Rattle.hunt_index.specs.declared.index_key.IndexKey.{IndexKey}
use Rattle.hunt_index.specs.declared.postings.Posting.{Posting}
use Rattle.hunt_index.specs.declared.postings.Postings.{Postings}
use Rattle.hunt_index.specs.Definite.{IsDefinite}
use Rattle.hunt_index.specs.inner.IndexKeys.{AreIndexKeys, IsSufficient, AreSufficient}
use Rattle.hunt_index.proofs.ListLemmas.{in_map}
use Rattle.hunt_index.specs.inner.Postings.{ArePostedKeys, IsCovered, Adds, IsPostingOf, IsIndefiniteBracket, IsPostingIn, IsOpenIn, AddsBracket, ArePostingsOf}

-- an index key beside its place
abbrev pub posting_of : ℕ → IndexKey → Posting
posting_of bracket index_key = record { index_key = index_key; bracket = bracket }

pub adds_none : {A : Type 0} (Own : A → Type 0) (old new : List A) → new ≡ old → Adds Own old new
adds_none Own old new is = record { more = []; is = is ∙ sym (append-nil old); own = All-nil Own }

contains_posting : (bracket : ℕ) (index_keys : List IndexKey) → ArePostedKeys (map (posting_of bracket) index_keys) bracket index_keys
contains_posting bracket index_keys index_key has = in_map (posting_of bracket) index_keys index_key has

postings_of_bracket : (leaf : Leaf) (bracket : ℕ) (index_keys : List IndexKey) → (IsDefinite (plain_leaf leaf) → AreSufficient (λ objects root. HoldsAt objects root (plain_leaf leaf)) index_keys)
    → All (IsPostingOf leaf bracket) (map (posting_of bracket) index_keys)
postings_of_bracket leaf bracket index_keys sufficient =
    All-map (IsPostingOf leaf bracket) (posting_of bracket) index_keys (λ k d below. record { placed = refl; sufficient = λ definite. sufficient definite (get_or index_keys k d) (Contains-get_or index_keys k d below) })

-- a bracket with index keys
pub adds_index_keys : (leaf : Leaf) (bracket : ℕ) (index_keys : List IndexKey) (old new : Postings) → AreIndexKeys (λ objects root. HoldsAt objects root (plain_leaf leaf)) index_keys
    → (IsDefinite (plain_leaf leaf) → AreSufficient (λ objects root. HoldsAt objects root (plain_leaf leaf)) index_keys) → new.indexed.items ≡ old.indexed.items ++ map (posting_of bracket) index_keys → new.unindexed.items ≡ old.unindexed.items → AddsBracket leaf bracket old new
adds_index_keys leaf bracket index_keys old new own sufficient is same = record {
  covered = inr (record {
    index_keys = index_keys;
    own = own;
    among = λ index_key has. subst (λ (postings : List Posting). Contains postings (posting_of bracket index_key)) (sym is)
        (Contains-append_right old.indexed.items (map (posting_of bracket) index_keys) (posting_of bracket index_key) (contains_posting bracket index_keys index_key has));
  });
  indexed = record { more = map (posting_of bracket) index_keys; is = is; own = postings_of_bracket leaf bracket index_keys sufficient };
  unindexed = adds_none (IsIndefiniteBracket leaf bracket) old.unindexed.items new.unindexed.items same;
}

still_there : {A : Type 0} (Own : A → Type 0) (old new : List A) → Adds Own old new → (x : A) → Contains old x → Contains new x
still_there Own old new adds x has = subst (λ (xs : List _). Contains xs x) (sym adds.is) (Contains-append_left old adds.more x has)

all_still : {A : Type 0} (Own P : A → Type 0) (old new : List A) → Adds Own old new → ((x : A) → Own x → P x) → All P old → All P new
all_still Own P old new adds follows all =
    subst (λ (xs : List _). All P xs) (sym adds.is) (All-append P old adds.more all (All-weaker Own P follows adds.more adds.own))

still_covered : (leaf other : Leaf) (bracket at : ℕ) (old new : Postings) → AddsBracket leaf bracket old new → IsCovered old other at → IsCovered new other at
still_covered leaf other bracket at old new adds covered = elim covered [
  | inl unindexed ↦ inl (still_there (IsIndefiniteBracket leaf bracket) old.unindexed.items new.unindexed.items adds.unindexed at unindexed)
  | inr indexed ↦ inr (record {
    index_keys = indexed.index_keys;
    own = indexed.own;
    among = λ index_key has. still_there (IsPostingOf leaf bracket) old.indexed.items new.indexed.items adds.indexed (posting_of at index_key) (indexed.among index_key has);
  })
]

before_or_last : (at count : ℕ) → at < count + 1 → (at < count) ⊎ (at ≡ count)
before_or_last at count below = grind arith

-- a posting of the bracket that was added
posting_in : (brackets : List Leaf) (count : ℕ) (leaf : Leaf) (posting : Posting) → slice_get brackets count ≡ Some leaf → IsPostingOf leaf count posting → IsPostingIn brackets (count + 1) posting
posting_in brackets count leaf posting there own = record {
  below = omega (arith, own.placed);
  is = λ other is.
      let same : leaf ≡ other = same_Some leaf other (sym there ∙ ap (slice_get brackets) (sym own.placed) ∙ is) in
      record {
        placed = refl;
        sufficient = subst (λ (l : Leaf). IsDefinite (plain_leaf l) → IsSufficient (λ objects root. HoldsAt objects root (plain_leaf l)) posting.index_key) same own.sufficient;
      };
}

open_in : (brackets : List Leaf) (count : ℕ) (leaf : Leaf) (n : ℕ) → slice_get brackets count ≡ Some leaf → IsIndefiniteBracket leaf count n → IsOpenIn brackets (count + 1) n
open_in brackets count leaf n there own = record {
  below = omega (arith, own.placed);
  is = λ other is.
      let same : leaf ≡ other = same_Some leaf other (sym there ∙ ap (slice_get brackets) (sym own.placed) ∙ is) in
      record { placed = refl; indefinite = subst (λ (l : Leaf). ¬ IsDefinite (plain_leaf l)) same own.indefinite };
}

-- one bracket more
pub postings_next : (brackets : List Leaf) (count : ℕ) (leaf : Leaf) (old new : Postings) → slice_get brackets count ≡ Some leaf → ArePostingsOf brackets count old
    → AddsBracket leaf count old new → ArePostingsOf brackets (count + 1) new
postings_next brackets count leaf old new there postings adds = record {
  covered = λ bracket other below is. elim (before_or_last bracket count below) [
    | inl before ↦ still_covered leaf other count bracket old new adds (postings.covered bracket other before is)
    | inr last ↦
        let same : leaf ≡ other = same_Some leaf other (sym there ∙ ap (slice_get brackets) (sym last) ∙ is) in
        subst (λ (l : Leaf). IsCovered new l bracket) same (subst (IsCovered new leaf) (sym last) adds.covered)
  ];
  indexed = all_still (IsPostingOf leaf count) (IsPostingIn brackets (count + 1)) old.indexed.items new.indexed.items adds.indexed (λ posting own. posting_in brackets count leaf posting there own)
      (All-weaker (IsPostingIn brackets count) (IsPostingIn brackets (count + 1)) (λ posting own. record { below = omega (arith, own.below); is = own.is }) old.indexed.items postings.indexed);
  unindexed = all_still (IsIndefiniteBracket leaf count) (IsOpenIn brackets (count + 1)) old.unindexed.items new.unindexed.items adds.unindexed (λ n own. open_in brackets count leaf n there own)
      (All-weaker (IsOpenIn brackets count) (IsOpenIn brackets (count + 1)) (λ n own. record { below = omega (arith, own.below); is = own.is }) old.unindexed.items postings.unindexed);
}
