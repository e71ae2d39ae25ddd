use Rattle.std.proofs.Common.{take}
use Rattle.std.specs.Prelude.{Contains}
use Rattle.pattern_types.specs.declared.constant.Constant.{Constant}
use Rattle.hunt_index.specs.inner.IndexKeys.{HasIndexKey, AreBy, KeyRepresents, AnswersSome}
use Rattle.hunt_index.proofs.key_selection.index_keys_by_value.Given as goal

abbrev pub invariant-loop-constant : goal.invariant-loop-constant
invariant-loop-constant l = ((constant : Constant) → Contains (take l.constant-index l.constants) constant → HasIndexKey l.kind l.steps (KeyRepresents constant) l.index_keys)
    × AreBy l.kind l.steps (AnswersSome l.constants) l.index_keys
