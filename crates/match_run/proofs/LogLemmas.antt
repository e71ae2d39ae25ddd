-- A log with one more row, its entries, its answers and their lines.
use Rattle.std.proofs.Common.{◌≡◌, ◌⊎◌, inl, inr, ℕ, suc, ◌<◌, Bool, true, false, eqb, List, [], ◌∷◌, ◌++◌, length, refl, sym, ap, subst, ◌∙◌, append_assoc, arith}
use Rattle.std.proofs.lemmas.List.{append-nil}
use Rattle.std.proofs.lemmas.Grind.{flat_map-append}
use Rattle.std.proofs.lemmas.Bool.{eq-eqb, eqb-true}
use Rattle.serde_json.specs.Data.{Data}
use Rattle.stix_bundles.specs.declared.observation.Observation.{Observation}
use Rattle.pattern_types.specs.declared.pattern.Pattern.{Pattern}
use Rattle.pattern_types.specs.PlainPattern.{PlainPattern}
use Rattle.match_comparisons.specs.Truths.{AreTruths}
use Rattle.match_bindings.specs.declared.log_entry.LogEntry.{LogEntry}
use Rattle.match_bindings.specs.NumberedPattern.{NumberedPattern, numbered_pattern}
use Rattle.match_bindings.specs.BindTree.{BindTree, greatest}
use Rattle.match_bindings.specs.Line.{line_text}
use Rattle.match_bindings.specs.Once.{count}
use Rattle.match_bindings.proofs.OnceLemmas.{same_self}
use Rattle.match_stream.specs.Answer.{IsAnswer, IsWithinLimit, AnswersAfter, joined_answers}
use Rattle.match_input.specs.Reading.{BundleOf}
use Rattle.match_run.specs.Entries.{AreEntriesOf, AreEntries}
use Rattle.match_run.specs.Listing.{listing_text, last_number}
use Rattle.match_run.specs.Matching.{IsNeverOverLimit}
use Rattle.match_run.specs.inner.Rows.{last_counted, log_row}

-- ---- answers and lines

pub joined_answers-append : (xs ys : List (List BindTree)) → joined_answers (xs ++ ys) ≡ joined_answers xs ++ joined_answers ys
joined_answers-append [] ys = refl
joined_answers-append (x ∷ xs) ys = ap (λ (t : List BindTree). x ++ t) (joined_answers-append xs ys) ∙ sym (append_assoc x (joined_answers xs) (joined_answers ys))

pub joined_answers-one : (xs : List (List BindTree)) (x : List BindTree) → joined_answers (xs ++ x ∷ []) ≡ joined_answers xs ++ x
joined_answers-one xs x = joined_answers-append xs (x ∷ []) ∙ ap (λ (t : List BindTree). joined_answers xs ++ t) (append-nil x)

pub listing_text-append : (xs ys : List BindTree) → listing_text (xs ++ ys) ≡ listing_text xs ++ listing_text ys
listing_text-append xs ys = flat_map-append line_text xs ys

pub answers-more : (p : NumberedPattern) (before log : List LogEntry) (row : LogEntry) (answers : List (List BindTree)) (answer : List BindTree)
    → AnswersAfter p before log answers → IsAnswer p (before ++ (log ++ row ∷ [])) answer → AnswersAfter p before (log ++ row ∷ []) (answers ++ answer ∷ [])
answers-more p before [] row [] answer are is = (is, tt)
answers-more p before [] row (other ∷ answers) answer are is = absurd are
answers-more p before (first ∷ log) row [] answer are is = absurd are
answers-more p before (first ∷ log) row (other ∷ answers) answer are is = (
  are.0,
  answers-more p (before ++ first ∷ []) log row answers answer are.1
      (subst (λ (l : List LogEntry). IsAnswer p l answer) (sym (append_assoc before (first ∷ []) (log ++ row ∷ []))) is),
)

-- ---- rows

pub entries_of-more : (p : PlainPattern) (objects : List Data) (observations : List Observation) (log : List LogEntry) (o : Observation) (truths : List Bool)
    → AreEntriesOf p objects observations log → AreTruths objects o.roots p truths → AreEntriesOf p objects (observations ++ o ∷ []) (log ++ log_row o truths ∷ [])
entries_of-more p objects [] log o truths entries are = (truths, [], are, refl, ap (λ (l : List LogEntry). l ++ log_row o truths ∷ []) entries)
entries_of-more p objects (first ∷ observations) log o truths entries are = (
  entries.0,
  entries.1 ++ log_row o truths ∷ [],
  entries.2,
  entries_of-more p objects observations entries.1 o truths entries.3 are,
  ap (λ (l : List LogEntry). l ++ log_row o truths ∷ []) entries.4,
)

pub entries-more : (p : PlainPattern) (bundles : List BundleOf) (log : List LogEntry) (bundle : BundleOf) (own : List LogEntry)
    → AreEntries p bundles log → AreEntriesOf p bundle.objects bundle.observations own → AreEntries p (bundles ++ bundle ∷ []) (log ++ own)
entries-more p [] log bundle own entries are = (own, [], are, refl, ap (λ (l : List LogEntry). l ++ own) entries ∙ sym (append-nil own))
entries-more p (first ∷ bundles) log bundle own entries are = (
  entries.0,
  entries.1 ++ own,
  entries.2,
  entries-more p bundles entries.1 bundle own entries.3 are,
  ap (λ (l : List LogEntry). l ++ own) entries.4 ∙ append_assoc entries.0 entries.1 own,
)

-- as many rows as observations
pub entries_of-length : (p : PlainPattern) (objects : List Data) (observations : List Observation) (log : List LogEntry)
    → AreEntriesOf p objects observations log → length log ≡ length observations
entries_of-length p objects [] log entries = ap length entries
entries_of-length p objects (o ∷ observations) log entries = ap length entries.4 ∙ ap suc (entries_of-length p objects observations entries.1 entries.3)

-- where a list with one more at its end is cut: at its end or before
abbrev Cuts : (log : List LogEntry) (end : LogEntry) (rows : List LogEntry) (row : LogEntry) → Type 0
Cuts log end rows row = (rows ++ row ∷ [] ≡ log ++ end ∷ []) ⊎ ((more : List LogEntry) × (log ≡ rows ++ row ∷ more))

cuts : (log : List LogEntry) (end : LogEntry) (rows more : List LogEntry) (row : LogEntry) → log ++ end ∷ [] ≡ rows ++ row ∷ more → Cuts log end rows row
cuts [] end [] more row e = inl (cc)
cuts [] end (x ∷ []) more row e = absurd (cc)
cuts [] end (x ∷ y ∷ rows) more row e = absurd (cc)
cuts (l ∷ log) end [] more row e = inr (log, (cc))
cuts (l ∷ log) end (x ∷ rows) more row e =
    let head : l ≡ x = cc in
    let tail : log ++ end ∷ [] ≡ rows ++ row ∷ more = cc in
    go head (cuts log end rows more row tail)
  where
    go : l ≡ x → Cuts log end rows row → Cuts (l ∷ log) end (x ∷ rows) row
    go head (inl whole) = inl (cc)
    go head (inr before) = inr (before.0, cc (before.1))

pub never_over_limit-more : (p : Pattern) (retained_limit : ℕ) (log : List LogEntry) (end : LogEntry) → IsNeverOverLimit p retained_limit log
    → IsWithinLimit (numbered_pattern p) (log ++ end ∷ []) retained_limit → IsNeverOverLimit p retained_limit (log ++ end ∷ [])
never_over_limit-more p retained_limit log end never within_limit rows more row e = go (cuts log end rows more row e)
  where
    go : Cuts log end rows row → IsWithinLimit (numbered_pattern p) (rows ++ row ∷ []) retained_limit
    go (inl whole) = subst (λ (l : List LogEntry). IsWithinLimit (numbered_pattern p) l retained_limit) (sym whole) within_limit
    go (inr before) = never rows before.0 row before.1

-- ---- the last binding

-- an answer ends at the last row
pub ends_at : (p : NumberedPattern) (log : List LogEntry) (xs : List BindTree) → IsAnswer p log xs → (x : BindTree) → 0 < count x xs → greatest x ≡ length log
ends_at p log xs is x represents =
    go (eqb (greatest x) (length log)) refl
  where
    go : (is_last : Bool) → eqb (greatest x) (length log) ≡ is_last → greatest x ≡ length log
    go true e = eqb-true (greatest x) (length log) e
    go false e =
        let none : count x xs ≡ 0 = is.no_other x (λ ends. let yes = eq-eqb (greatest x) (length log) ends.1 in cc) in
        absurd (omega arith)

last_number-all : (y : BindTree) (ys : List BindTree) (n : ℕ) → ((x : BindTree) → 0 < count x (y ∷ ys) → greatest x ≡ n) → last_number (y ∷ ys) ≡ n
last_number-all y [] n all = let me = same_self y in all y (rw me (omega arith))
last_number-all y (z ∷ ys) n all = last_number-all z ys n (λ x represents. all x (omega arith))

last_number-tail : (xs : List BindTree) (y : BindTree) (ys : List BindTree) → last_number (xs ++ y ∷ ys) ≡ last_number (y ∷ ys)
last_number-tail [] y ys = refl
last_number-tail (x ∷ []) y ys = refl
last_number-tail (x ∷ z ∷ xs) y ys = last_number-tail (z ∷ xs) y ys

pub last_number-more : (xs ys : List BindTree) (n : ℕ) → ((x : BindTree) → 0 < count x ys → greatest x ≡ n)
    → last_number (xs ++ ys) ≡ last_counted (last_number xs) n (length ys)
last_number-more xs [] n all = ap last_number (append-nil xs)
last_number-more xs (y ∷ ys) n all = last_number-tail xs y ys ∙ last_number-all y ys n all
