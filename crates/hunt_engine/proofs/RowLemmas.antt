-- The log that rows are to a pattern: as long as they are, with the same last time, and one.
use Rattle.std.proofs.Common.{◌≡◌, ℕ, suc, List, [], ◌∷◌, ◌++◌, length, refl, sym, ◌∙◌, ap}
use Rattle.std.specs.Prelude.{Bool, Some}
use Rattle.serde_json.specs.Data.{Data}
use Rattle.pattern_types.specs.PlainPattern.{PlainPattern, a_leaf, a_both, an_either, a_then, a_limited}
use Rattle.match_comparisons.specs.Truths.{AreOfBoth, AreTruths}
use Rattle.match_bindings.proofs.BoundsLemmas.{both_ways}
use Rattle.match_bindings.specs.declared.log_entry.LogEntry.{LogEntry}
use Rattle.match_stream.specs.MatcherState.{log_end}
use Rattle.hunt_engine.specs.EngineLog.{ObservationRow, IsEntry, IsLogOf, last_of_rows}

pub log_length : (p : PlainPattern) (rows : List ObservationRow) (log : List LogEntry) → IsLogOf p rows log → length log ≡ length rows
log_length p [] [] is = refl
log_length p (row ∷ rows) (entry ∷ log) is = ap suc (log_length p rows log is.1)
log_length p [] (entry ∷ log) is = absurd is
log_length p (row ∷ rows) [] is = absurd is

pub log_last : (p : PlainPattern) (rows : List ObservationRow) (log : List LogEntry) → IsLogOf p rows log → log_end log ≡ last_of_rows rows
log_last p [] [] is = refl
log_last p (row ∷ []) (entry ∷ []) is = ap Some is.0.last
log_last p (row ∷ next ∷ rows) (entry ∷ more ∷ log) is = log_last p (next ∷ rows) (more ∷ log) is.1
log_last p (row ∷ []) (entry ∷ more ∷ log) is = absurd is.1
log_last p (row ∷ next ∷ rows) (entry ∷ []) is = absurd is.1
log_last p [] (entry ∷ log) is = absurd is
log_last p (row ∷ rows) [] is = absurd is

pub log_more : (p : PlainPattern) (rows : List ObservationRow) (row : ObservationRow) (log : List LogEntry) (entry : LogEntry) → IsLogOf p rows log → IsEntry p row entry → IsLogOf p (rows ++ row ∷ []) (log ++ entry ∷ [])
log_more p [] row [] entry is one = (one, tt)
log_more p (r ∷ rows) row (e ∷ log) entry is one = (is.0, log_more p rows row log entry is.1 one)
log_more p [] row (e ∷ log) entry is one = absurd is
log_more p (r ∷ rows) row [] entry is one = absurd is

pub last_more : (rows : List ObservationRow) (row : ObservationRow) → last_of_rows (rows ++ row ∷ []) ≡ Some row.observation.last
last_more [] row = refl
last_more (r ∷ []) row = refl
last_more (r ∷ q ∷ rows) row = last_more (q ∷ rows) row

-- ---- there is one

append_left : {A : Type 0} (xs xs' ys ys' zs zs' : List A) → xs ≡ xs' → ys ≡ ys' → zs ≡ xs ++ ys → zs' ≡ xs' ++ ys' → zs ≡ zs'
append_left xs xs' ys ys' zs zs' e f g h = cc

same_of_both : {L R : List Bool → Type 0} → ((a b : List Bool) → L a → L b → a ≡ b) → ((a b : List Bool) → R a → R b → a ≡ b) →
    (a b : List Bool) → AreOfBoth L R a → AreOfBoth L R b → a ≡ b
same_of_both left right a b (xs, ys, l, r, e) (xs', ys', l', r', e') = append_left xs xs' ys ys' a b (left xs xs' l l') (right ys ys' r r') e e'

same_truths : (objects : List Data) (roots : List ℕ) (p : PlainPattern) (a b : List Bool) → AreTruths objects roots p a → AreTruths objects roots p b → a ≡ b
same_truths objects roots (a_leaf leaf) a b (t, e, is) (u, f, is') =
    e ∙ ap (λ z. z ∷ []) (both_ways t u (λ h. is'.1 (is.0 h)) (λ h. is.1 (is'.0 h))) ∙ sym f
same_truths objects roots (a_both p q) a b ia ib = same_of_both (same_truths objects roots p) (same_truths objects roots q) a b ia ib
same_truths objects roots (an_either p q) a b ia ib = same_of_both (same_truths objects roots p) (same_truths objects roots q) a b ia ib
same_truths objects roots (a_then p q) a b ia ib = same_of_both (same_truths objects roots p) (same_truths objects roots q) a b ia ib
same_truths objects roots (a_limited p limit) a b ia ib = same_truths objects roots p a b ia ib

same_entry : (p : PlainPattern) (row : ObservationRow) (a b : LogEntry) → IsEntry p row a → IsEntry p row b → a ≡ b
same_entry p row a b ia ib =
    let first : a.first ≡ b.first = ia.first ∙ sym ib.first in
    let last : a.last ≡ b.last = ia.last ∙ sym ib.last in
    let truths = same_truths row.objects row.observation.roots p a.truths b.truths ia.truths ib.truths in
    λ i. record { first = first i; last = last i; truths = truths i }

pub same_log : (p : PlainPattern) (rows : List ObservationRow) (log other : List LogEntry) → IsLogOf p rows log → IsLogOf p rows other → log ≡ other
same_log p [] [] [] is is' = refl
same_log p (row ∷ rows) (a ∷ log) (b ∷ other) is is' =
    let one = same_entry p row a b is.0 is'.0 in let rest = same_log p rows log other is.1 is'.1 in cc
same_log p [] (a ∷ log) other is is' = absurd is
same_log p [] [] (b ∷ other) is is' = absurd is'
same_log p (row ∷ rows) [] other is is' = absurd is
same_log p (row ∷ rows) (a ∷ log) [] is is' = absurd is'
