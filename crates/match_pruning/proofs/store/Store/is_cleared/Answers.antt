use Rattle.std.proofs.Common.{◌≡◌, ◌≤◌, ◌≤ℤ◌, length, get_or, sym, ◌∙◌, ap, subst, arith}
use Rattle.std.specs.Prelude.{ℤ, List, slice_get}
use Rattle.match_pruning.specs.declared.partial_match.PartialMatch.{PartialMatch}
use Rattle.match_pruning.specs.inner.Heaps.{time_at}
use Rattle.match_pruning.proofs.OldestLemmas.{all_kept}
use Rattle.match_pruning.proofs.HeapLemmas.{first_is_earliest, first_of}
use Rattle.match_pruning.proofs.store.Store.is_cleared.Goals as goal

pub returns-in-Some : goal.returns-in-Some
returns-in-Some c = λ h.
    let store = c.args.self.now in let first = c.in-Some.first.now in
    let all : length store.held.items ≤ store.heaped = omega (arith, c.if-self-len.false, c.len.ensures) in
    let is : (d : PartialMatch) → first ≡ get_or store.held.items 0 d = λ d. first_of store.held.items first d (c.in-Some.ensures.value ∙ ap (λ (y : List PartialMatch). slice_get y 0) c.deref.ensures.value) in
    all_kept c.args.window.now first.earliest c.args.now store.held.items (sym c.is_retained.ensures ∙ h)
    (λ i d inside. subst (λ (e : ℤ). e ≤ℤ (get_or store.held.items i d).earliest) (sym (ap (λ (x : PartialMatch). x.earliest) (is d)))
    (first_is_earliest (time_at store.held.items d) store.heaped i (store.heap d) (omega (arith, inside, all))))
