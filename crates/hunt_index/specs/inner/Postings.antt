-- For private clauses: the postings of many brackets.
use Rattle.std.specs.Prelude.{◌≡◌, ◌⊎◌, ℕ, ◌<◌, List, ◌++◌, All, Contains, Some, slice_get}
use Rattle.pattern_types.specs.declared.leaf.Leaf.{Leaf}
use Rattle.pattern_types.specs.PlainLeaf.{plain_leaf}
use Rattle.match_comparisons.specs.Tests.{HoldsAt}
use Rattle.hunt_index.specs.declared.index_key.IndexKey.{IndexKey}
use Rattle.hunt_index.specs.declared.postings.Posting.{Posting}
use Rattle.hunt_index.specs.declared.postings.Postings.{Postings}
use Rattle.hunt_index.specs.Definite.{IsDefinite}
use Rattle.hunt_index.specs.inner.IndexKeys.{AreIndexKeys, IsSufficient}

-- there is a posting for each of the index keys with the bracket
abbrev pub ArePostedKeys : List Posting → ℕ → List IndexKey → Type 0
ArePostedKeys postings bracket index_keys = (index_key : IndexKey) → Contains index_keys index_key → Contains postings (record { index_key = index_key; bracket = bracket })

-- the bracket has necessary index keys, and postings for them
pub record HasIndexKeys (postings : List Posting) (leaf : Leaf) (bracket : ℕ) : Type 0 where
  pub index_keys : List IndexKey
  pub own : AreIndexKeys (λ objects root. HoldsAt objects root (plain_leaf leaf)) index_keys
  pub among : ArePostedKeys postings bracket index_keys

-- or it is always a candidate
abbrev pub IsCovered : Postings → Leaf → ℕ → Type 0
IsCovered postings leaf bracket = Contains postings.unindexed.items bracket ⊎ HasIndexKeys postings.indexed.items leaf bracket

-- items were appended, and Own holds for each of them
pub record Adds {A : Type 0} (Own : A → Type 0) (old new : List A) : Type 0 where
  pub more : List A
  pub is : new ≡ old ++ more
  pub own : All Own more

-- a posting of the bracket; where that is definite, its index key is sufficient
pub record IsPostingOf (leaf : Leaf) (bracket : ℕ) (posting : Posting) : Type 0 where
  pub placed : posting.bracket ≡ bracket
  pub sufficient : IsDefinite (plain_leaf leaf) → IsSufficient (λ objects root. HoldsAt objects root (plain_leaf leaf)) posting.index_key

-- the index of the bracket, which isn't definite
pub record IsIndefiniteBracket (leaf : Leaf) (bracket n : ℕ) : Type 0 where
  pub placed : n ≡ bracket
  pub indefinite : ¬ IsDefinite (plain_leaf leaf)

-- a bracket was added
pub record AddsBracket (leaf : Leaf) (bracket : ℕ) (old new : Postings) : Type 0 where
  pub covered : IsCovered new leaf bracket
  pub indexed : Adds (IsPostingOf leaf bracket) old.indexed.items new.indexed.items
  pub unindexed : Adds (IsIndefiniteBracket leaf bracket) old.unindexed.items new.unindexed.items

-- a posting of one of the first `count` brackets
pub record IsPostingIn (brackets : List Leaf) (count : ℕ) (posting : Posting) : Type 0 where
  pub below : posting.bracket < count
  pub is : (leaf : Leaf) → slice_get brackets posting.bracket ≡ Some leaf → IsPostingOf leaf posting.bracket posting

-- the index of one of the first `count` brackets, which isn't definite
pub record IsOpenIn (brackets : List Leaf) (count n : ℕ) : Type 0 where
  pub below : n < count
  pub is : (leaf : Leaf) → slice_get brackets n ≡ Some leaf → IsIndefiniteBracket leaf n n

-- the postings of the first `count` brackets
pub record ArePostingsOf (brackets : List Leaf) (count : ℕ) (postings : Postings) : Type 0 where
  pub covered : (bracket : ℕ) (leaf : Leaf) → bracket < count → slice_get brackets bracket ≡ Some leaf → IsCovered postings leaf bracket
  pub indexed : All (IsPostingIn brackets count) postings.indexed.items
  pub unindexed : All (IsOpenIn brackets count) postings.unindexed.items
