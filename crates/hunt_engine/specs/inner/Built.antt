-- For private clauses: the invariant of an engine.
use Rattle.std.specs.Prelude.{◌≡◌, false, All, map, length}
use Rattle.pattern_types.specs.PlainPattern.{plain_pattern}
use Rattle.pattern_types.specs.Soundness.{IsSoundLeaf}
use Rattle.hunt_engine.specs.declared.engine.Engine.TheInside.{Inside}
use Rattle.hunt_engine.specs.Memo.{brackets_of}
use Rattle.hunt_engine.specs.inner.Brackets.{bracket_leaves, held_leaves}
use Rattle.hunt_engine.specs.inner.Table.{IsTable}
use Rattle.hunt_engine.specs.inner.Evaluation.{AreClear}

-- its tables belong to its patterns, and no bracket is marked between two rows
pub record IsBuiltEngine (engine : Inside) : Type 0 where
  pub table : IsTable (map plain_pattern (map (λ h. h.pattern) engine.hunted.now)) (bracket_leaves engine.brackets)
      engine.brackets.owners.items engine.brackets.bracket_ranges.items
  pub sound : All IsSoundLeaf (bracket_leaves engine.brackets)
  pub brackets_are : bracket_leaves engine.brackets ≡ brackets_of (map (λ h. h.pattern) engine.hunted.now)
  pub index_is : engine.index ≡ held_leaves engine.brackets
  pub lazy_matchers_are : length engine.lazy_matchers.items ≡ length engine.hunted.now
  pub marks_are : length engine.marks.items ≡ length engine.brackets.leaves.items
  pub clear : engine.ended ≡ false → AreClear engine.marks.items
