-- While the oldest thing retains, all do.
use Rattle.std.proofs.Common.{◌≡◌, ℕ, suc, ◌+◌, ◌<◌, ℤ, ◌≤ℤ◌, ◌<ℤ◌, pos, ◌+ℤ◌, ◌*◌, List, [], ◌∷◌, ◌++◌, length, get_or, take, refl, ◌∙◌, ap, arith}
use Rattle.std.specs.Prelude.{Bool, true, false, ◌&&◌, Option, Some, None}
use Rattle.std.proofs.lemmas.Bool.{and_parts, and_from}
use Rattle.std.proofs.lemmas.Int.{ints}
use Rattle.std.proofs.lemmas.List.{take_more}
use Rattle.match_bindings.specs.Span.{later_by}
use Rattle.match_bindings.proofs.IsBindingLemmas.{lt_true, true_lt, le_true, true_le}
use Rattle.match_pruning.specs.declared.window.Window.{Window}
use Rattle.match_pruning.specs.declared.partial_match.PartialMatch.{PartialMatch}
use Rattle.match_pruning.specs.inner.Retains.{lasts_at_most, ends_from_start, begins_before_stop, is_ahead, retains}
use Rattle.match_pruning.specs.inner.PartialMatches.{partial_match_tree, partial_match_trees}
use Rattle.match_pruning.specs.inner.Steps.{kept}
use Rattle.match_bindings.proofs.ListLemmas.{map_append}
use Rattle.match_pruning.proofs.RetainsLemmas.{le_trans}

lt_later : (t e f : ℤ) (n : ℕ) → t <ℤ (e +ℤ pos n) → e ≤ℤ f → t <ℤ (f +ℤ pos n)
lt_later t e f n h k = omega (arith, ints)

seconds_later : (o : Option ℕ) (e f t : ℤ) → e ≤ℤ f → lasts_at_most o e t ≡ true → lasts_at_most o f t ≡ true
seconds_later None e f t h k = refl
seconds_later (Some x) e f t h k = true_lt t (later_by x f) (lt_later t e f (1_000_000_000 * x) (lt_true t (later_by x e) k) h)

start_later : (o : Option ℤ) (e f : ℤ) → e ≤ℤ f → ends_from_start o e ≡ true → ends_from_start o f ≡ true
start_later None e f h k = refl
start_later (Some x) e f h k = true_le x f (le_trans x e f (le_true x e k) h)

ahead_later : (b : Bool) (e f t : ℤ) → e ≤ℤ f → is_ahead b e t ≡ true → is_ahead b f t ≡ true
ahead_later false e f t h k = refl
ahead_later true e f t h k = true_le t f (le_trans t e f (le_true t e k) h)

-- what begins later retains longer
pub retains_later : (w : Window) (e f t : ℤ) → e ≤ℤ f → retains w e t ≡ true → retains w f t ≡ true
retains_later w e f t h k =
    let front = and_parts (is_ahead w.after_left e t) (lasts_at_most w.seconds e t && (ends_from_start w.start e && begins_before_stop w.stop t)) k in
    let parts = and_parts (lasts_at_most w.seconds e t) (ends_from_start w.start e && begins_before_stop w.stop t) front.1 in
    let more = and_parts (ends_from_start w.start e) (begins_before_stop w.stop t) parts.1 in
    and_from _ _ (ahead_later w.after_left e f t h front.0) (and_from _ _ (seconds_later w.seconds e f t h parts.0) (and_from _ _ (start_later w.start e f h more.0) more.1))

-- while a time retains that nothing comes before, all is kept
pub all_kept : (w : Window) (e t : ℤ) (held : List PartialMatch) → retains w e t ≡ true → ((i : ℕ) (d : PartialMatch) → i < length held → e ≤ℤ (get_or held i d).earliest) →
    partial_match_trees held ≡ kept w t (partial_match_trees held)
all_kept w e t [] h k = refl
all_kept w e t (x ∷ held) h k =
    let here : retains w x.earliest t ≡ true = retains_later w e x.earliest t (k 0 x (omega arith)) h in
    let rest : partial_match_trees held ≡ kept w t (partial_match_trees held) = all_kept w e t held h (λ i d l. k (suc i) d (omega (arith, l))) in
    rw here (ap (λ z. partial_match_tree x ∷ z) rest)

pub next_taken : (held : List PartialMatch) (at : ℕ) (d : PartialMatch) → at < length held → partial_match_trees (take (at + 1) held) ≡ partial_match_trees (take at held) ++ partial_match_tree (get_or held at d) ∷ []
next_taken held at d h = ap partial_match_trees (take_more held at d h) ∙ map_append partial_match_tree (take at held) (get_or held at d ∷ [])
