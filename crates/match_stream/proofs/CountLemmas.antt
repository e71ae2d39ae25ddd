-- There is one retained count: what is retained is listed by tests, and lists with the same counts are as long as each other.
use Rattle.std.proofs.Common.{◌≡◌, ℕ, ℤ, List, [], ◌∷◌, length, refl, sym, ◌∙◌, arith}
use Rattle.std.specs.Prelude.{Bool, true, false, ◌&&◌, nat_eq, ◌↔◌}
use Rattle.std.proofs.lemmas.Bool.{eqb-true, eq-eqb}
use Rattle.match_bindings.specs.declared.log_entry.LogEntry.{LogEntry}
use Rattle.match_bindings.specs.NumberedPattern.{NumberedPattern, Repeats}
use Rattle.match_bindings.specs.BindTree.{BindTree, greatest}
use Rattle.match_bindings.specs.Log.{Observed, observed_in}
use Rattle.match_bindings.specs.Span.{earliest}
use Rattle.match_bindings.specs.Test.{are_repeats, is_binding}
use Rattle.match_bindings.specs.Once.{bit, count}
use Rattle.match_pruning.specs.Stores.{StorePart, a_side, a_level, Store, stores_of}
use Rattle.match_pruning.specs.PartialMatchTree.{PartialMatchTree, trees_in}
use Rattle.match_stream.specs.RetainedPart.{MayHold, HoldsRetained, AreRetained, time_of, held_count}
use Rattle.match_stream.specs.Answer.{EndsAtLast, IsAnswer, IsRetainedCount}
use Rattle.match_pruning.specs.inner.Retains.{retains}
use Rattle.match_stream.proofs.ShapeLemmas.{Rule, to_held}
use Rattle.match_stream.proofs.AnswerLemmas.{held_counts, same_length, trees_length}

-- what a store may hold, as a test
abbrev pub may_hold : Observed → StorePart → BindTree → Bool
may_hold o (a_side p) x = is_binding o p x
may_hold o (a_level p j) x = are_repeats (is_binding o p) j x

pub may_rule : Rule → (o : Observed) (part : StorePart) (x : BindTree) → (may_hold o part x ≡ true) ↔ MayHold o part x
may_rule rule o (a_side p) x = rule o p x
may_rule rule o (a_level p j) x = rule o (Repeats p j) x

same_store : Rule → (o : Observed) (now : ℤ) (store : Store) (us vs : List PartialMatchTree) → HoldsRetained o now store us → HoldsRetained o now store vs → length us ≡ length vs
same_store rule o now store us vs hu hv =
    let f = λ (x : BindTree). may_hold o store.part x && retains store.window (earliest o.first x) now in
    let one = to_held o now store (may_hold o store.part) (may_rule rule o store.part) us hu in
    let two = to_held o now store (may_hold o store.part) (may_rule rule o store.part) vs hv in
    let same : length (trees_in us) ≡ length (trees_in vs) = same_length (trees_in us) (trees_in vs) (λ x. held_counts o f us one x ∙ sym (held_counts o f vs two x)) in
    sym (trees_length us) ∙ same ∙ trees_length vs

same_held : Rule → (o : Observed) (now : ℤ) (stores : List Store) (us vs : List (List PartialMatchTree)) → AreRetained o now stores us → AreRetained o now stores vs → held_count us ≡ held_count vs
same_held rule o now [] [] [] hu hv = refl
same_held rule o now (store ∷ stores) (u ∷ us) (v ∷ vs) hu hv =
    omega (arith, same_store rule o now store u v hu.0 hv.0, same_held rule o now stores us vs hu.1 hv.1)
same_held rule o now [] (u ∷ us) vs hu hv = absurd hu
same_held rule o now [] [] (v ∷ vs) hu hv = absurd hv
same_held rule o now (store ∷ stores) [] vs hu hv = absurd hu
same_held rule o now (store ∷ stores) (u ∷ us) [] hu hv = absurd hv

-- an answer lists what the test says
pub answer_counts : Rule → (p : NumberedPattern) (log : List LogEntry) (xs : List BindTree) → IsAnswer p log xs → (x : BindTree) →
    count x xs ≡ bit (is_binding (observed_in log) p x && nat_eq (greatest x) (length log))
answer_counts rule p log xs h x = by (is_binding (observed_in log) p x) (nat_eq (greatest x) (length log)) refl refl where
  no_binding : is_binding (observed_in log) p x ≡ false → EndsAtLast p log x → ⊥
  no_binding e k = let yes_it_is : is_binding (observed_in log) p x ≡ true = (rule (observed_in log) p x).1 k.0 in let no : true ≡ false = sym yes_it_is ∙ e in cc

  not_last : nat_eq (greatest x) (length log) ≡ false → EndsAtLast p log x → ⊥
  not_last e k = let yes_it_is : nat_eq (greatest x) (length log) ≡ true = eq-eqb (greatest x) (length log) k.1 in let no : true ≡ false = sym yes_it_is ∙ e in cc

  by : (b c : Bool) → is_binding (observed_in log) p x ≡ b → nat_eq (greatest x) (length log) ≡ c →
      count x xs ≡ bit (is_binding (observed_in log) p x && nat_eq (greatest x) (length log))
  by true true eb ec = rw (eb, ec) (h.each_once x ((rule (observed_in log) p x).0 eb, eqb-true (greatest x) (length log) ec))
  by true false eb ec = rw (eb, ec) (h.no_other x (not_last ec))
  by false c eb ec = rw eb (h.no_other x (no_binding eb))

pub one_count : Rule → (p : NumberedPattern) (log : List LogEntry) (m n : ℕ) → IsRetainedCount p log m → IsRetainedCount p log n → m ≡ n
one_count rule p log m n a b =
    let held = same_held rule (observed_in log) (time_of log) (stores_of p) a.contents b.contents a.retained b.retained in
    let ending : length a.answer ≡ length b.answer = same_length a.answer b.answer (λ x. answer_counts rule p log a.answer a.ending x ∙ sym (answer_counts rule p log b.answer b.ending x)) in
    let one = a.sum in let two = b.sum in
    omega (arith, held, ending, one, two)
