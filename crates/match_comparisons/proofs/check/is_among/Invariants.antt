use Rattle.std.proofs.Common.{List, ℕ, Option}
use Rattle.pattern_types.specs.declared.constant.Constant.{Constant}
use Rattle.std.specs.declared.cmp.Ordering.TheVariants.{Equal}
use Rattle.stix_json.specs.DataOf.{data_of}
use Rattle.match_comparisons.specs.Tests.{Compares}
use Rattle.match_comparisons.specs.inner.Bytes.{EncodesBytes}
use Rattle.match_comparisons.proofs.FoundLemmas.{NoneBefore}
use Rattle.match_comparisons.proofs.check.is_among.Given as goal

abbrev pub invariant-loop-constant : goal.invariant-loop-constant
invariant-loop-constant l =
    (last : Option (List ℕ)) → EncodesBytes last (data_of l.value) l.own
    → NoneBefore (λ (constant : Constant). Compares last (data_of l.value) constant Equal) l.constants l.constant-index
