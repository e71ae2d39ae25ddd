-- For private clauses: postings grouped by path number.
use Rattle.std.specs.Prelude.{◌≡◌, ℕ, ◌<◌, List, [], ◌∷◌, ◌++◌, All, Contains, Some, slice_get}
use Rattle.hunt_index.specs.declared.index_key.IndexKey.{IndexKey}
use Rattle.hunt_index.specs.declared.postings.Posting.{Posting}
use Rattle.hunt_index.specs.declared.paths.Lookup.{Lookup}
use Rattle.hunt_index.specs.declared.paths.PathTable.{PathTable}

-- two index keys have the same path
pub record AreOnePath (one other : IndexKey) : Type 0 where
  pub kind : one.kind.now ≡ other.kind.now
  pub steps : one.steps.now ≡ other.steps.now

-- the number belongs to the path of the index key
pub record IsNumber (paths : List IndexKey) (number : ℕ) (index_key : IndexKey) : Type 0 where
  pub path : IndexKey
  pub there : slice_get paths number ≡ Some path
  pub same : AreOnePath path index_key

-- the entry of a posting under a path number
abbrev pub entry_of : ℕ → Posting → Lookup × ℕ
entry_of number posting = (record { path = number; key = posting.index_key.key }, posting.bracket)

-- each path keeps its number
abbrev pub KeepsPaths : List IndexKey → List IndexKey → Type 0
KeepsPaths old new = (number : ℕ) (path : IndexKey) → slice_get old number ≡ Some path → slice_get new number ≡ Some path

-- a posting was added
pub record AddsPosting (posting : Posting) (old new : PathTable) : Type 0 where
  pub kept : KeepsPaths old.paths.items new.paths.items
  pub number : ℕ
  pub numbered : IsNumber new.paths.items number posting.index_key
  pub is : new.entries.items ≡ old.entries.items ++ entry_of number posting ∷ []

-- the posting has an entry under the number of its path
pub record IsGrouped (path_table : PathTable) (posting : Posting) : Type 0 where
  pub number : ℕ
  pub numbered : IsNumber path_table.paths.items number posting.index_key
  pub entered : Contains path_table.entries.items (entry_of number posting)

-- the entry belongs to a posting, under the number of its path
pub record IsOfPosting (paths : List IndexKey) (postings : List Posting) (entry : Lookup × ℕ) : Type 0 where
  pub posting : Posting
  pub among : Contains postings posting
  pub placed : entry.1 ≡ posting.bracket
  pub numbered : IsNumber paths entry.0.path posting.index_key
  pub keyed : entry.0.key ≡ posting.index_key.key

-- the first `count` postings have entries, and nothing else has
pub record AreGrouped (postings : List Posting) (count : ℕ) (path_table : PathTable) : Type 0 where
  pub each : (k : ℕ) (posting : Posting) → k < count → slice_get postings k ≡ Some posting → IsGrouped path_table posting
  pub only : All (IsOfPosting path_table.paths.items postings) path_table.entries.items

-- all postings have entries, in any order, and nothing else has
pub record AreAllGrouped (postings : List Posting) (path_table : PathTable) : Type 0 where
  pub each : (posting : Posting) → Contains postings posting → IsGrouped path_table posting
  pub only : All (IsOfPosting path_table.paths.items postings) path_table.entries.items
