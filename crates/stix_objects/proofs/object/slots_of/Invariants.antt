use Rattle.std.proofs.Common.{◌≡◌, ℕ, ◌<◌, true, length, slice_index_or}
use Rattle.stix_json.specs.declared.value.Field.{Field}
use Rattle.stix_objects.specs.inner.Names.{is_taken}
use Rattle.stix_objects.proofs.object.slots_of.Given as goal

abbrev pub invariant-loop-field : goal.invariant-loop-field
invariant-loop-field l = (length l.taken ≡ 64) × ((k : ℕ) (d : Field) → k < l.field-index → is_taken l.taken (slice_index_or l.fields k d).name ≡ true)
