-- What holds of a refusal holds of the answer that hands it on.
use Rattle.std.proofs.Common.{◌≡◌, sym, subst}
use Rattle.std.specs.Prelude.{Result, Ok, Err, IfErr, IsErrAnd}

pub handed_on : {T E : Type 0} (answer : Result T E) (refusal : E) (Rule : E → Type 0)
    → IsErrAnd answer (λ given. given ≡ refusal) → Rule refusal → IfErr answer Rule
handed_on (Ok value) refusal Rule given its = tt
handed_on (Err other) refusal Rule given its = subst Rule (sym given) its
