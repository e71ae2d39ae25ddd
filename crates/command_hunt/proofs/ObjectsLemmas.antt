-- Objects of which none breaks a rule.
use Rattle.std.proofs.Common.{◌≡◌, ℕ, zero, suc, ◌+◌, List, [], ◌∷◌, ◌++◌, map, All, Result, Ok, Err, IfOk, refl, sym, subst, arith}
use Rattle.serde_json.specs.Data.{Data}
use Rattle.stix_objects.specs.declared.rule_break.Break.{Break}
use Rattle.stix_objects.specs.Breaks.{AreBreaksOf}
use Rattle.stix_bundles.specs.declared.object_break.ObjectBreak.{ObjectBreak}
use Rattle.stix_bundles.specs.Bundle.{AreAllBreaks, break_of_object}

none-own : (at : ℕ) (own : List Break) (rest : List ObjectBreak) → [] ≡ map (break_of_object at) own ++ rest → own ≡ []
none-own at [] rest is = refl
none-own at (b ∷ bs) rest is = absurd cc

none-rest : (at : ℕ) (own : List Break) (rest : List ObjectBreak) → [] ≡ map (break_of_object at) own ++ rest → rest ≡ []
none-rest at [] rest is = sym is
none-rest at (b ∷ bs) rest is = absurd cc

pub unbroken : (from : ℕ) (objects : List Data) → AreAllBreaks from objects [] → All (λ object. AreBreaksOf object []) objects
unbroken from [] all k d less = absurd (omega arith)
unbroken from (x ∷ xs) all zero d less = subst (AreBreaksOf x) (none-own from all.0 all.1 all.4) all.2
unbroken from (x ∷ xs) all (suc k) d less =
    unbroken (from + 1) xs (subst (AreAllBreaks (from + 1) xs) (none-rest from all.0 all.1 all.4) all.3) k d (omega arith)

-- a value of which more is known
pub if_ok : {T E : Type 0} {P Q : T → Type 0} (answer : Result T E) → ((value : T) → P value → Q value) → IfOk answer P → IfOk answer Q
if_ok (Ok value) each fact = each value fact
if_ok (Err refusal) each fact = tt
