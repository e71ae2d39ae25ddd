-- What is given at a row of an engine, by what it keeps.
use Rattle.std.proofs.Common.{◌≡◌, ◌<◌, ◌++◌, ◌∷◌, [], ℕ, List, length, take, drop, get_or, refl, sym, ◌∙◌, ap, subst, arith}
use Rattle.std.specs.Prelude.{Bool, false, Option, map}
use Rattle.std.proofs.lemmas.List.{length-map, take-append-le}
use Rattle.stix_bundles.specs.declared.observation.Observation.{Observation}
use Rattle.pattern_types.specs.PlainLeaf.{PlainLeaf, plain_leaf}
use Rattle.pattern_types.specs.PlainPattern.{plain_pattern}
use Rattle.serde_json.specs.Data.{Data}
use Rattle.hunt_engine.specs.declared.engine.Engine.TheInside.{Inside}
use Rattle.hunt_engine.specs.declared.next_row.NextRow.{NextRow}
use Rattle.hunt_engine.specs.EngineLog.{ObservationRow}
use Rattle.hunt_engine.specs.EngineState.{EngineState, EngineRepresents, IsReadyEngine}
use Rattle.hunt_engine.specs.LazyMatcherState.{LazyMatcherState}
use Rattle.hunt_engine.specs.inner.Built.{IsBuiltEngine}
use Rattle.hunt_engine.specs.inner.Following.{ContinuesRows}
use Rattle.hunt_engine.specs.inner.Evaluation.{IsEvaluated, AreListed}
use Rattle.hunt_engine.specs.Memo.{brackets_of, IsSoundMemo}
use Rattle.hunt_engine.specs.inner.Round.{AllFollow, StillFollow}
use Rattle.hunt_engine.proofs.RoundLemmas.{AtRow, all_follow, still_all, affected_inside, at_row}

-- an engine without where it lies in memory
abbrev pub state_of : Inside → EngineState
state_of m = record {
  patterns = map (λ h. h.pattern) m.hunted.now;
  retained_limit = m.retained_limit;
  rows = m.rows;
  last = m.last;
  ended = m.ended;
  lazy_matchers = m.lazy_matchers.items;
}

-- the next row
abbrev pub row_at : Inside → Observation → NextRow
row_at m o = record { rows = m.rows; before = m.last; first = o.first; last = o.last }

abbrev pub leaves_of : Inside → List PlainLeaf
leaves_of m = map plain_leaf (map (λ leaf. leaf.now) m.brackets.leaves.items)

-- it stands for some rows
pub ready : (m : Inside) (s : EngineState) → state_of m ≡ s → IsReadyEngine s → m.ended ≡ false → (rows : List ObservationRow) × EngineRepresents (state_of m) rows
ready m s e is runs = (subst IsReadyEngine (sym e) is) runs

-- what is asked of the lazy matchers, before they are swept and after
pub follow_first : (m : Inside) (o : Observation) (lazy_matchers : List LazyMatcherState) (rows : List ObservationRow) → EngineRepresents (state_of m) rows → lazy_matchers ≡ m.lazy_matchers.items → AllFollow m.retained_limit (row_at m o) lazy_matchers
follow_first m o lazy_matchers rows st e = subst (λ (l : List LazyMatcherState). AllFollow m.retained_limit (row_at m o) l) (sym e) (all_follow (state_of m) rows (row_at m o) st refl refl)

pub follow_then : (m : Inside) (o : Observation) (first swept now : List LazyMatcherState) (rows : List ObservationRow) → EngineRepresents (state_of m) rows → first ≡ m.lazy_matchers.items → StillFollow m.retained_limit m.rows m.last first swept → now ≡ swept →
    AllFollow m.retained_limit (row_at m o) now
follow_then m o first swept now rows st e still f =
    subst (λ (l : List LazyMatcherState). AllFollow m.retained_limit (row_at m o) l) (sym f) (still_all m.retained_limit (row_at m o) first swept still (follow_first m o first rows st e))

pub positions_inside : (m : Inside) (r : ObservationRow) (marks : List Bool) (affected touched' : List ℕ) (first swept now : List LazyMatcherState) → IsBuiltEngine m → IsEvaluated r.objects r.observation.roots (leaves_of m) m.brackets.owners.items marks affected → touched' ≡ affected →
    first ≡ m.lazy_matchers.items → StillFollow m.retained_limit m.rows m.last first swept → now ≡ swept → (k d : ℕ) → k < length touched' → get_or touched' k d < length now
positions_inside m r marks affected touched' first swept now built evaluated a e still f =
    let many : length now ≡ length swept = ap length f in let count = still.count in let one : length first ≡ length m.lazy_matchers.items = ap length e in let are = built.lazy_matchers_are in
    let long = length-map m.hunted.now (λ h. h.pattern) in let long' = length-map (map (λ h. h.pattern) m.hunted.now) plain_pattern in
    subst (λ (t : List ℕ). (k d : ℕ) → k < length t → get_or t k d < length now) (sym a)
    (affected_inside (map plain_pattern (map (λ h. h.pattern) m.hunted.now)) (leaves_of m) m.brackets.owners.items m.brackets.bracket_ranges.items r.objects r.observation.roots marks affected (length now) built.table evaluated
    (let g : length (map plain_pattern (map (λ h. h.pattern) m.hunted.now)) ≡ length now = omega (arith, many, count, one, are, long, long') in g))

-- what is marked is what is cleared
pub marked_inside : (marks now : List Bool) (matching held' : List ℕ) → AreListed marks matching → now ≡ marks → held' ≡ matching → AreListed now held'
marked_inside marks now matching held' listed e f =
    subst (λ (l : List Bool). AreListed l held') (sym e) (subst (λ (l : List ℕ). AreListed marks l) (sym f) listed)

-- what is known is right for the brackets of the engine's patterns
pub right_given : (m : Inside) (s : EngineState) (objects : List Data) (memo : List (Option (List ℕ))) → IsBuiltEngine m → state_of m ≡ s → IsSoundMemo objects (brackets_of s.patterns) memo → IsSoundMemo objects (leaves_of m) memo
right_given m s objects memo built e right =
    subst (λ (l : List PlainLeaf). IsSoundMemo objects l memo) (sym (built.brackets_are ∙ ap (λ (k : EngineState). brackets_of k.patterns) e)) right

pub right_then : (m : Inside) (s : EngineState) (objects : List Data) (memo : List (Option (List ℕ))) → IsBuiltEngine m → state_of m ≡ s → IsSoundMemo objects (leaves_of m) memo → IsSoundMemo objects (brackets_of s.patterns) memo
right_then m s objects memo built e right =
    subst (λ (l : List PlainLeaf). IsSoundMemo objects l memo) (built.brackets_are ∙ ap (λ (k : EngineState). brackets_of k.patterns) e) right

-- all that is given at the row
pub given_at : (m : Inside) (rows : List ObservationRow) (r : ObservationRow) (marks marks' : List Bool) (affected touched' : List ℕ) (first swept now : List LazyMatcherState) → IsBuiltEngine m → EngineRepresents (state_of m) rows → ContinuesRows (row_at m r.observation) →
    IsEvaluated r.objects r.observation.roots (leaves_of m) m.brackets.owners.items marks affected → marks' ≡ marks → touched' ≡ affected → first ≡ m.lazy_matchers.items → StillFollow m.retained_limit m.rows m.last first swept → now ≡ swept →
    AtRow (map (λ h. h.pattern) m.hunted.now) m.retained_limit rows r (row_at m r.observation) (leaves_of m) m.brackets.owners.items m.brackets.bracket_ranges.items marks' touched' m.lazy_matchers.items now
given_at m rows r marks marks' affected touched' first swept now built st goes evaluated a b e still f =
    at_row (state_of m) rows r (row_at m r.observation) (leaves_of m) m.brackets.owners.items m.brackets.bracket_ranges.items marks' touched' now st refl refl refl refl goes
    (subst (λ (l : List LazyMatcherState). StillFollow m.retained_limit m.rows m.last m.lazy_matchers.items l) (sym f) (subst (λ (l : List LazyMatcherState). StillFollow m.retained_limit m.rows m.last l swept) e still))
    built.table
    (subst (λ (l : List Bool). IsEvaluated r.objects r.observation.roots (leaves_of m) m.brackets.owners.items l touched') (sym a)
    (subst (λ (l : List ℕ). IsEvaluated r.objects r.observation.roots (leaves_of m) m.brackets.owners.items marks l) (sym b) evaluated))

-- ---- what is written into a list of the same length is what the list then has

take_length : {A : Type 0} (xs : List A) → take (length xs) xs ≡ xs
take_length [] = refl
take_length (x ∷ xs) = ap (λ l. x ∷ l) (take_length xs)

take_whole : {A : Type 0} (n : ℕ) (ws : List A) → n ≡ length ws → take n ws ≡ ws
take_whole n ws e = ap (λ k. take k ws) e ∙ take_length ws

pub same_items : {A : Type 0} (ws xs : List A) (n : ℕ) → n ≡ length ws → take n (ws ++ drop (length ws) xs) ≡ ws
same_items ws xs n e = take-append-le n ws (drop (length ws) xs) (omega (arith, e)) ∙ take_whole n ws e

pub lazy_matchers_written : (m : Inside) (first swept : List LazyMatcherState) → first ≡ m.lazy_matchers.items → length first ≡ m.lazy_matchers.len → StillFollow m.retained_limit m.rows m.last first swept →
    take m.lazy_matchers.len (swept ++ drop (length swept) m.lazy_matchers.items) ≡ swept
lazy_matchers_written m first swept e len still = same_items swept m.lazy_matchers.items m.lazy_matchers.len (sym len ∙ sym still.count)

pub marks_written : (m : Inside) (r : ObservationRow) (first marks : List Bool) (affected : List ℕ) → IsBuiltEngine m → IsEvaluated r.objects r.observation.roots (leaves_of m) m.brackets.owners.items marks affected → first ≡ m.marks.items → length first ≡ m.marks.len →
    take m.marks.len (marks ++ drop (length marks) m.marks.items) ≡ marks
marks_written m r first marks affected built evaluated e len =
    let count = evaluated.count in let are = built.marks_are in let one : length first ≡ length m.marks.items = ap length e in
    let long = length-map m.brackets.leaves.items (λ leaf. leaf.now) in let long' = length-map (map (λ leaf. leaf.now) m.brackets.leaves.items) plain_leaf in
    same_items marks m.marks.items m.marks.len (let g : m.marks.len ≡ length marks = omega (arith, count, are, one, len, long, long') in g)
