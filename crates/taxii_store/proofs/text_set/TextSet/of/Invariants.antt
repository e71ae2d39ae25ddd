use Rattle.std.proofs.Common.{◌≡◌, take, map}
use Rattle.taxii_store.specs.inner.Sets.{key_parts, measured}
use Rattle.taxii_store.proofs.text_set.TextSet.of.Given as goal

abbrev pub invariant-loop-text : goal.invariant-loop-text
invariant-loop-text l = map key_parts l.row.items ≡ map measured (take l.text-index l.texts)
