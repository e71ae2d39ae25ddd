use Rattle.std.proofs.Common.{◌+◌, ◌*◌, length}
use Rattle.stix_json.specs.declared.value.Json.{Json}
use Rattle.stix_json.specs.DataOf.{data_of}
use Rattle.match_comparisons.specs.inner.Search.{borrowed_name, Finds, IsSoundSearchMemo}
use Rattle.match_comparisons.proofs.FoundLemmas.{NoneBefore}
use Rattle.match_comparisons.proofs.search.+search.Given as goal

abbrev pub decreases-finds : goal.decreases-finds
decreases-finds l = 3 * length l.steps.now

abbrev pub decreases-some_finds : goal.decreases-some_finds
decreases-some_finds l = 3 * length l.steps.now + 1

abbrev pub decreases-finds_at : goal.decreases-finds_at
decreases-finds_at l = 3 * length l.rest.now + 2

abbrev pub invariant-some_finds-loop-value : goal.invariant-some_finds-loop-value
invariant-some_finds-loop-value l =
    IsSoundSearchMemo l.search l.memo × NoneBefore (λ (tree : Json). Finds l.search (borrowed_name l.fn.last) l.steps (data_of tree)) l.values l.value-index
