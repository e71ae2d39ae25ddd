-- What `any` and `all` answer of texts, in the words of the definitions.
use Rattle.std.proofs.Common.{◌≡◌, ◌↔◌, ℕ, ◌<◌, Bool, true, false, List, [], length, get_or, refl, sym, subst, arith}
use Rattle.std.specs.Prelude.{All, Any, MatchBool}
use Rattle.std.specs.List.{AllWithin, HoldsAt}
use Rattle.std.proofs.lemmas.Bool.{false≢true}
use Rattle.std.proofs.lemmas.List.Elements.{All-from_all_within, Contains-get_or}

pub all_answers : (P : List ℕ → Type 0) (texts : List (List ℕ)) (b : Bool)
    → MatchBool b (AllWithin P texts 0 (length texts)) ((k : ℕ) × (k < length texts) × HoldsAt (λ t. ¬ P t) texts k) → (b ≡ true) ↔ All P texts
all_answers P texts true each = (λ _. All-from_all_within P texts each, λ _. refl)
all_answers P texts false some = (λ is. absurd (false≢true is), λ all. absurd (some.2 [] (all some.0 [] some.1)))

pub any_answers : (P : List ℕ → Type 0) (texts : List (List ℕ)) (b : Bool)
    → MatchBool b ((k : ℕ) × (k < length texts) × HoldsAt P texts k) (AllWithin (λ t. ¬ P t) texts 0 (length texts)) → (b ≡ true) ↔ Any P texts
any_answers P texts true some =
    let there = Contains-get_or texts some.0 [] some.1 in
    (λ _. (there.0, get_or texts some.0 [], there.1, there.2, some.2 []), λ _. refl)
any_answers P texts false none =
    (λ is. absurd (false≢true is), λ (k, text, inside, is, holds). absurd (none k text (omega arith) inside (subst P (sym is) holds)))
