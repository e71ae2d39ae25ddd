-- Lists whose elements are related place by place.
use Rattle.std.proofs.Common.{◌≡◌, ℕ, zero, suc, ◌+◌, ◌<◌, List, [], ◌∷◌, ◌++◌, length, get_or, take, arith}
use Rattle.pattern_lexer.specs.declared.token.Token.{Token}
use Rattle.pattern_grammar.specs.declared.path.StepTree.TheVariants.{Name}
use Rattle.pattern_types.specs.declared.path.Step.{Step}
use Rattle.pattern_types.specs.declared.path.Step.TheVariants as step
use Rattle.pattern_reader.specs.Meaning.{IsNameOf, IsStepOf}
use Rattle.std.specs.List.{AllZip}
use Rattle.std.proofs.lemmas.Slice.Zip.{all_zipped_more}

pub each_step : {A B : Type 0} (R : A → B → Type 0) (xs : List A) (ys : List B) (i : ℕ) (x : A) (y : B) → take (i + 1) xs ≡ take i xs ++ x ∷ [] → AllZip R (take i xs) ys → R x y → AllZip R (take (i + 1) xs) (ys ++ y ∷ [])
each_step R xs ys i x y e h r = rw e (all_zipped_more R (take i xs) ys x y h r)

-- where one element is related to none, the list is neither
pub each_none : {A B : Type 0} (R : A → B → Type 0) (xs : List A) (ys : List B) (i : ℕ) (d : A) → i < length xs → ((y : B) → ¬ R (get_or xs i d) y) → ¬ AllZip R xs ys
each_none R [] ys i d below none h = absurd (omega arith)
each_none R (x ∷ xs) [] i d below none h = h
each_none R (x ∷ xs) (y ∷ ys) zero d below none h = none y h.0
each_none R (x ∷ xs) (y ∷ ys) (suc i) d below none h = each_none R xs ys i d (omega arith) none h.1

-- a name that has no value is no step
pub no_step : (text : List ℕ) (token : Token) → ((name : List ℕ) → ¬ IsNameOf text token name) → (other : Step) → ¬ IsStepOf text (Name token) other
no_step text token none (step.Name name) h = none name h
no_step text token none _ h = h
