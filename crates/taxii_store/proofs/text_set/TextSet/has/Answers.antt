use Rattle.std.proofs.Common.{◌≡◌, ℕ, List, Bool, true, false, ◌↔◌, IsTrue, ap, sym}
use Rattle.std.specs.List.{Contains}
use Rattle.std.specs.Result.{is_ok}
use Rattle.taxii_store.specs.inner.Asking.{IsSetOf}
use Rattle.taxii_store.proofs.SetLemmas.{found_text}
use Rattle.taxii_store.proofs.text_set.TextSet.has.Goals.{After-binary_search}
use Rattle.taxii_store.proofs.text_set.TextSet.has.Goals as goal

looked_up : (c : After-binary_search) (texts : List (List ℕ)) (found : Bool) → found ≡ is_ok c.binary_search.result → IsSetOf texts c.args.self.now → IsTrue found ↔ Contains texts c.args.text.now
looked_up c texts found is set =
    found_text texts c.deref.result.now c.args.self.now.texts.items c.args.text c.binary_search.result found c.deref.ensures.value is set.has c.binary_search.ensures.bound c.binary_search.ensures.position

pub returns-in-Ok-clause-has : goal.returns-in-Ok-clause-has
returns-in-Ok-clause-has c = λ texts. looked_up (goal.at.returns-in-Ok-clause-has c).After-binary_search texts true (sym (ap is_ok c.in-Ok.is))

pub returns-then-is_near-clause-has : goal.returns-then-is_near-clause-has
returns-then-is_near-clause-has c = λ texts. looked_up (goal.at.returns-then-is_near-clause-has c).After-binary_search texts false (sym (ap is_ok c.in-Err.is))

pub returns-then-is_near-clause-same : goal.returns-then-is_near-clause-same
returns-then-is_near-clause-same c = λ texts set.
    let found = looked_up (goal.at.returns-then-is_near-clause-same c).After-binary_search texts false (sym (ap is_ok c.in-Err.is)) set in
    record { has = set.has; missed = λ there. let wrong = found.1 there in absurd (cc wrong) }

pub returns-else-is_near-clause-has : goal.returns-else-is_near-clause-has
returns-else-is_near-clause-has c = λ texts. looked_up (goal.at.returns-else-is_near-clause-has c).After-binary_search texts false (sym (ap is_ok c.in-Err.is))
