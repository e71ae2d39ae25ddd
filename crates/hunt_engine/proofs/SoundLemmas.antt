-- The brackets of a sound pattern are sound.
use Rattle.std.specs.Prelude.{All, []}
use Rattle.std.proofs.lemmas.List.Elements.{All-nil, All-cons, All-append}
use Rattle.pattern_types.specs.PlainPattern.{PlainPattern, a_leaf, a_both, an_either, a_then, a_limited}
use Rattle.pattern_types.specs.Soundness.{IsSoundLeaf, IsSoundPattern}
use Rattle.hunt_engine.specs.Memo.{leaf_list}

pub sound_leaves : (p : PlainPattern) → IsSoundPattern p → All IsSoundLeaf (leaf_list p)
sound_leaves (a_leaf leaf) is = All-cons IsSoundLeaf leaf [] is (All-nil IsSoundLeaf)
sound_leaves (a_both p q) is = All-append IsSoundLeaf (leaf_list p) (leaf_list q) (sound_leaves p is.0) (sound_leaves q is.1)
sound_leaves (an_either p q) is = All-append IsSoundLeaf (leaf_list p) (leaf_list q) (sound_leaves p is.0) (sound_leaves q is.1)
sound_leaves (a_then p q) is = All-append IsSoundLeaf (leaf_list p) (leaf_list q) (sound_leaves p is.0) (sound_leaves q is.1)
sound_leaves (a_limited p limit) is = sound_leaves p is.0
