-- The retained part of a pattern after a log: what can still become part of a binding. Each store
-- holds all that it may partial_match_of and that hasn't expired.
use Rattle.std.specs.Prelude.{◌≡◌, ℕ, ◌+◌, ℤ, ⊤, List, [], ◌∷◌, map, length}
use Rattle.match_bindings.specs.declared.log_entry.LogEntry.{LogEntry}
use Rattle.match_bindings.specs.NumberedPattern.{NumberedPattern}
use Rattle.match_bindings.specs.BindTree.{BindTree}
use Rattle.match_bindings.specs.Log.{Observed, observed_in, numbered_row, last_time}
use Rattle.match_bindings.specs.Span.{earliest}
use Rattle.match_bindings.specs.Binding.{AreRepeats, IsBinding}
use Rattle.match_bindings.specs.Once.{count}
use Rattle.match_pruning.specs.Stores.{StorePart, a_side, a_level, Store, stores_of}
use Rattle.match_pruning.specs.Expiry.{HasExpired}
use Rattle.match_pruning.specs.PartialMatchTree.{PartialMatchTree, partial_match_of, trees_in}

-- a side's store may partial_match_of bindings of that side; a level's store sets of bindings, as they occur in
-- a REPEATS
abbrev pub MayHold : Observed → StorePart → BindTree → Type 0
MayHold o (a_side p) x = IsBinding o p x
MayHold o (a_level p j) x = AreRepeats (IsBinding o p) j x

-- the store may partial_match_of it, and it hasn't expired
abbrev pub IsRetained : Observed → ℤ → Store → BindTree → Type 0
IsRetained o now store x = MayHold o store.part x × ¬ (HasExpired store.window (earliest o.first x) now)

-- the store holds each of these once, with its times, and nothing else
pub record HoldsRetained (o : Observed) (now : ℤ) (store : Store) (held : List PartialMatchTree) : Type 0 where
  pub times : held ≡ map (partial_match_of o) (trees_in held)
  pub each_once : (x : BindTree) → IsRetained o now store x → count x (trees_in held) ≡ 1
  pub no_other : (x : BindTree) → ¬ (IsRetained o now store x) → count x (trees_in held) ≡ 0

-- store by store
abbrev pub AreRetained : Observed → ℤ → List Store → List (List PartialMatchTree) → Type 0
AreRetained o now [] [] = ⊤
AreRetained o now (store ∷ stores) (held ∷ contents) = HoldsRetained o now store held × AreRetained o now stores contents
AreRetained o now _ _ = ⊥

-- the time of a log: the end of its last row
abbrev pub time_of : List LogEntry → ℤ
time_of log = last_time (numbered_row log (length log))

abbrev pub IsRetainedPart : NumberedPattern → List LogEntry → List (List PartialMatchTree) → Type 0
IsRetainedPart p log contents = AreRetained (observed_in log) (time_of log) (stores_of p) contents

-- how many partial matches the stores partial_match_of
abbrev pub held_count : List (List PartialMatchTree) → ℕ
held_count [] = 0
held_count (held ∷ contents) = length held + held_count contents
