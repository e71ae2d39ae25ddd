-- The answers to rows, one after another: what is found at each place, where it ends, and in which order.
use Rattle.std.proofs.Common.{◌≡◌, inl, inr, ℕ, zero, suc, ◌+◌, ◌<◌, Bool, true, false, Option, Some, None, List, [], ◌∷◌, ◌++◌, length, refl, sym, ap, subst, ◌∙◌, append_assoc, length-append, arith}
use Rattle.std.specs.Prelude.{◌⊎◌, nat_eq, map, slice_get}
use Rattle.std.specs.Option.{option_map}
use Rattle.std.proofs.lemmas.Bool.{eq-eqb}
use Rattle.std.proofs.lemmas.List.{append-nil}
use Rattle.std.proofs.lemmas.Option.{slice_get-map, slice_get_within}
use Rattle.pattern_types.specs.declared.pattern.Pattern.{Pattern}
use Rattle.pattern_types.specs.PlainPattern.{PlainPattern, plain_pattern}
use Rattle.match_bindings.specs.declared.log_entry.LogEntry.{LogEntry}
use Rattle.match_bindings.specs.NumberedPattern.{NumberedPattern, numbered_pattern}
use Rattle.match_bindings.specs.BindTree.{BindTree, tree_of}
use Rattle.match_bindings.specs.Log.{observed_in}
use Rattle.match_bindings.specs.Listing.{IsListing}
use Rattle.match_bindings.specs.Once.{count, is_same_tree}
use Rattle.match_bindings.proofs.OnceLemmas.{same_self}
use Rattle.match_stream.specs.Answer.{IsAnswer, AnswersAfter, AreAnswers, joined_answers}
use Rattle.match_run.specs.Listing.{AreBindings}
use Rattle.match_run.proofs.LogLemmas.{ends_at}
use Rattle.hunt_engine.specs.declared.found.Hit.{Hit}
use Rattle.hunt_engine.specs.EngineLog.{ObservationRow, IsEntry, IsLogOf}
use Rattle.hunt_engine.specs.EngineAnswer.{binds_at, ReportsRow}
use Rattle.hunt_report.proofs.PlaceLemmas.{seam}
use Rattle.hunt_report.specs.Hits.{last_observation, IsEarlierHit, AreHits, AnswerRows}

-- ---- what is found at a place

pub binds_append : (place : ℕ) (xs ys : List Hit) → binds_at place (xs ++ ys) ≡ binds_at place xs ++ binds_at place ys
binds_append place [] ys = refl
binds_append place (f ∷ xs) ys = by (nat_eq f.hunted place) refl (binds_append place xs ys)
  where
    by : (b : Bool) → nat_eq f.hunted place ≡ b → binds_at place (xs ++ ys) ≡ binds_at place xs ++ binds_at place ys
        → binds_at place (f ∷ xs ++ ys) ≡ binds_at place (f ∷ xs) ++ binds_at place ys
    by true e rest = rw e (ap (λ (l : List BindTree). tree_of f.bind ∷ l) rest)
    by false e rest = rw e rest

bind_there : (own : List Hit) (k : ℕ) (hit : Hit) → slice_get own k ≡ Some hit → 0 < count (tree_of hit.bind) (binds_at hit.hunted own)
bind_there [] k hit at = absurd (cc)
bind_there (f ∷ own) zero hit at =
    let is : f ≡ hit = cc in
    let one : nat_eq hit.hunted hit.hunted ≡ true = eq-eqb hit.hunted hit.hunted refl in
    let me : is_same_tree (tree_of hit.bind) (tree_of hit.bind) ≡ true = same_self (tree_of hit.bind) in
    subst (λ (g : Hit). 0 < count (tree_of hit.bind) (binds_at hit.hunted (g ∷ own))) (sym is) (rw one (rw me (omega arith)))
bind_there (f ∷ own) (suc k) hit at = by (nat_eq f.hunted hit.hunted) refl (bind_there own k hit at)
  where
    by : (b : Bool) → nat_eq f.hunted hit.hunted ≡ b → 0 < count (tree_of hit.bind) (binds_at hit.hunted own)
        → 0 < count (tree_of hit.bind) (binds_at hit.hunted (f ∷ own))
    by true e more = rw e (omega (arith, more))
    by false e more = rw e more

-- ---- the log that rows are to a pattern, and one row more

log_length : (p : PlainPattern) (rows : List ObservationRow) (log : List LogEntry) → IsLogOf p rows log → length log ≡ length rows
log_length p [] [] is = refl
log_length p (row ∷ rows) (entry ∷ log) is = ap suc (log_length p rows log is.1)
log_length p [] (entry ∷ log) is = absurd is
log_length p (row ∷ rows) [] is = absurd is

-- there is one
abbrev pub OneLog : Type 0
OneLog = (p : PlainPattern) (rows : List ObservationRow) (log other : List LogEntry) → IsLogOf p rows log → IsLogOf p rows other → log ≡ other

pub record Ends (p : PlainPattern) (rows : List ObservationRow) (row : ObservationRow) (log : List LogEntry) : Type 0 where
  pub before : List LogEntry
  pub entry : LogEntry
  pub log_is : log ≡ before ++ entry ∷ []
  pub of_rows : IsLogOf p rows before
  pub of_row : IsEntry p row entry

pub log_ends : (p : PlainPattern) (rows : List ObservationRow) (row : ObservationRow) (log : List LogEntry) → IsLogOf p (rows ++ row ∷ []) log → Ends p rows row log
log_ends p [] row [] is = absurd is
log_ends p [] row (entry ∷ []) is = record { before = []; entry = entry; log_is = refl; of_rows = tt; of_row = is.0 }
log_ends p [] row (entry ∷ next ∷ log) is = absurd is.1
log_ends p (r ∷ rows) row [] is = absurd is
log_ends p (r ∷ rows) row (e ∷ log) is =
    let rest = log_ends p rows row log is.1 in record {
      before = e ∷ rest.before;
      entry = rest.entry;
      log_is = ap (λ (l : List LogEntry). e ∷ l) rest.log_is;
      of_rows = (is.0, rest.of_rows);
      of_row = rest.of_row;
    }

-- the log of the rows and the one more goes on that of the rows
pub log_continues : OneLog → (p : PlainPattern) (rows : List ObservationRow) (row : ObservationRow) (before log : List LogEntry) → IsLogOf p rows before
    → (is : IsLogOf p (rows ++ row ∷ []) log) → log ≡ before ++ (log_ends p rows row log is).entry ∷ []
log_continues one p rows row before log of_rows is =
    let ends = log_ends p rows row log is in
    ends.log_is ∙ ap (λ (l : List LogEntry). l ++ ends.entry ∷ []) (one p rows ends.before before ends.of_rows of_rows)

-- ---- the answers at a place are a listing

record AnswersAt (p : Pattern) (before : List LogEntry) (rows : List ObservationRow) (binds : List BindTree) : Type 0 where
  pub log : List LogEntry
  pub is_log : IsLogOf (plain_pattern p) rows log
  pub answers : List (List BindTree)
  pub are : AnswersAfter (numbered_pattern p) before log answers
  pub joined : joined_answers answers ≡ binds

answers_at : OneLog → (patterns : List Pattern) (place : ℕ) (p : Pattern) → slice_get patterns place ≡ Some p
    → (before rows : List ObservationRow) (hits : List Hit) (log : List LogEntry) → IsLogOf (plain_pattern p) before log → AnswerRows patterns before rows hits
    → AnswersAt p log rows (binds_at place hits)
answers_at one patterns place p of_p before [] hits log is answers = record {
  log = [];
  is_log = tt;
  answers = [];
  are = tt;
  joined = ap (binds_at place) (sym answers);
}
answers_at one patterns place p of_p before (row ∷ rows) hits log is (own, later, reports, rest, hits_are) =
    let plain = plain_pattern p in
    let at = reports.answers place p of_p in
    let entry = (log_ends plain before row at.0 at.1).entry in
    let whole : at.0 ≡ log ++ entry ∷ [] = log_continues one plain before row log at.0 is at.1 in
    let more = answers_at one patterns place p of_p (before ++ row ∷ []) rows later (log ++ entry ∷ []) (subst (IsLogOf plain (before ++ row ∷ [])) whole at.1) rest in
    record {
      log = entry ∷ more.log;
      is_log = ((log_ends plain before row at.0 at.1).of_row, more.is_log);
      answers = binds_at place own ∷ more.answers;
      are = (subst (λ (l : List LogEntry). IsAnswer (numbered_pattern p) l (binds_at place own)) whole at.2, more.are);
      joined = ap (λ (l : List BindTree). binds_at place own ++ l) more.joined ∙ sym (binds_append place own later) ∙ ap (binds_at place) (sym hits_are);
    }

none_at : (patterns : List Pattern) (place : ℕ) → slice_get patterns place ≡ None → (before rows : List ObservationRow) (hits : List Hit)
    → AnswerRows patterns before rows hits → binds_at place hits ≡ []
none_at patterns place none before [] hits answers = ap (binds_at place) answers
none_at patterns place none before (row ∷ rows) hits (own, later, reports, rest, is) =
    ap (binds_at place) is ∙ binds_append place own later ∙ ap (λ (l : List BindTree). l ++ binds_at place later) (reports.no_other place none)
    ∙ none_at patterns place none (before ++ row ∷ []) rows later rest

-- ---- where a hit ends

-- it is of an indicator, and ends at the last row
pub record EndsAtLast (patterns : List Pattern) (rows : List ObservationRow) (hit : Hit) : Type 0 where
  pub inside : hit.hunted < length patterns
  pub number : last_observation hit ≡ length rows

pub row_ends : (patterns : List Pattern) (rows : List ObservationRow) (own : List Hit) → ReportsRow patterns rows own → (k : ℕ) (hit : Hit)
    → slice_get own k ≡ Some hit → EndsAtLast patterns rows hit
row_ends patterns rows own reports k hit at = by (slice_get patterns hit.hunted) refl
  where
    by : (o : Option Pattern) → slice_get patterns hit.hunted ≡ o → EndsAtLast patterns rows hit
    by None e =
        let found = bind_there own k hit at in
        let none : 0 < count (tree_of hit.bind) [] = subst (λ (l : List BindTree). 0 < count (tree_of hit.bind) l) (reports.no_other hit.hunted e) found in
        absurd (omega (arith, none))
    by (Some p) e =
        let answer = reports.answers hit.hunted p e in record {
          inside = slice_get_within patterns hit.hunted p e;
          number = ends_at (numbered_pattern p) answer.0 (binds_at hit.hunted own) answer.2 (tree_of hit.bind) (bind_there own k hit at)
              ∙ log_length (plain_pattern p) rows answer.0 answer.1;
        }

-- after the rows that were taken before
abbrev EndBehind : ℕ → List Hit → Type 0
EndBehind number hits = (k : ℕ) (hit : Hit) → slice_get hits k ≡ Some hit → number < last_observation hit

-- an item of two lists, by the one that it is of
abbrev Seam : List Hit → List Hit → ℕ → Hit → Type 0
Seam xs ys k x = ((k < length xs) × (slice_get xs k ≡ Some x)) ⊎ ((j : ℕ) × (k ≡ length xs + j) × (slice_get ys j ≡ Some x))

cut_at : (own later hits : List Hit) → hits ≡ own ++ later → (k : ℕ) (hit : Hit) → slice_get hits k ≡ Some hit → Seam own later k hit
cut_at own later hits is k hit at = seam own later k hit (subst (λ (l : List Hit). slice_get l k ≡ Some hit) is at)

none_there : (hits : List Hit) (k : ℕ) (hit : Hit) → hits ≡ [] → slice_get hits k ≡ Some hit → ⊥
none_there [] k hit none at = cc
none_there (f ∷ hits) k hit none at = cc

end_behind : (patterns : List Pattern) (before rows : List ObservationRow) (hits : List Hit) → AnswerRows patterns before rows hits → EndBehind (length before) hits
end_behind patterns before [] hits answers k hit at = absurd (none_there hits k hit answers at)
end_behind patterns before (row ∷ rows) hits (own, later, reports, rest, is) k hit at =
    by (end_behind patterns (before ++ row ∷ []) rows later rest) (cut_at own later hits is k hit at)
  where
    long : length (before ++ row ∷ []) ≡ length before + 1
    long = length-append before (row ∷ [])

    by : EndBehind (length (before ++ row ∷ [])) later → Seam own later k hit → length before < last_observation hit
    by comma_joined (inl h) = let e = (row_ends patterns (before ++ row ∷ []) own reports k hit h.1).number in omega (arith, e, long)
    by comma_joined (inr h) = let less = comma_joined h.0 hit h.2 in omega (arith, less, long)

-- ---- the order of the hits

abbrev Merged : List Hit → Type 0
Merged hits = (j k : ℕ) (hit other : Hit) → j < k → slice_get hits j ≡ Some hit → slice_get hits k ≡ Some other → IsEarlierHit hit other

place_at : (own : List Hit) (k : ℕ) (hit : Hit) → slice_get own k ≡ Some hit → slice_get (map (λ f. f.hunted) own) k ≡ Some hit.hunted
place_at own k hit at = slice_get-map (λ (f : Hit). f.hunted) own k ∙ ap (option_map (λ (f : Hit). f.hunted)) at

merged : (patterns : List Pattern) (before rows : List ObservationRow) (hits : List Hit) → AnswerRows patterns before rows hits → Merged hits
merged patterns before [] hits answers j k hit other less at there = absurd (none_there hits k other answers there)
merged patterns before (row ∷ rows) hits (own, later, reports, rest, is) j k hit other less at there =
    by (merged patterns (before ++ row ∷ []) rows later rest) (end_behind patterns (before ++ row ∷ []) rows later rest)
    (cut_at own later hits is j hit at) (cut_at own later hits is k other there)
  where
    by : Merged later → EndBehind (length (before ++ row ∷ [])) later → Seam own later j hit → Seam own later k other → IsEarlierHit hit other
    by more comma_joined (inl h) (inl g) =
        let e = (row_ends patterns (before ++ row ∷ []) own reports j hit h.1).number in
        let f = (row_ends patterns (before ++ row ∷ []) own reports k other g.1).number in
        inr (e ∙ sym f, reports.ascend j k hit.hunted other.hunted (omega (arith, less)) (place_at own j hit h.1) (place_at own k other g.1))
    by more comma_joined (inl h) (inr g) =
        let e = (row_ends patterns (before ++ row ∷ []) own reports j hit h.1).number in
        let b = comma_joined g.0 other g.2 in inl (omega (arith, e, b))
    by more comma_joined (inr h) (inl g) = let e = h.1 in let f = g.0 in absurd (omega (arith, e, f, less))
    by more comma_joined (inr h) (inr g) = let e = h.1 in let f = g.1 in more h.0 g.0 hit other (omega (arith, less, e, f)) h.2 g.2

-- ---- all of it

-- the law on the answers to the rows of a log
abbrev pub Listed : Type 0
Listed = (p : NumberedPattern) (log : List LogEntry) (answers : List (List BindTree)) → AreAnswers p log answers
    → IsListing (observed_in log) p (joined_answers answers)

pub are_hits : OneLog → Listed → (patterns : List Pattern) (rows : List ObservationRow) (hits : List Hit) → AnswerRows patterns [] rows hits → AreHits patterns rows hits
are_hits one listed patterns rows hits answers = record {
  listings = λ place p of_p.
      let at = answers_at one patterns place p of_p [] rows hits [] tt answers in
      (at.log, at.is_log, subst (AreBindings p at.log) at.joined (listed (numbered_pattern p) at.log at.answers at.are));
  no_other = λ place none. none_at patterns place none [] rows hits answers;
  merged = merged patterns [] rows hits answers;
}

-- the answer to one row more
pub answers-more : (patterns : List Pattern) (before rows : List ObservationRow) (row : ObservationRow) (hits own : List Hit) → AnswerRows patterns before rows hits
    → ReportsRow patterns (before ++ (rows ++ row ∷ [])) own → AnswerRows patterns before (rows ++ row ∷ []) (hits ++ own)
answers-more patterns before [] row hits own answers reports = (
  own,
  [],
  reports,
  refl,
  ap (λ (l : List Hit). l ++ own) answers ∙ sym (append-nil own),
)
answers-more patterns before (first ∷ rows) row hits own (mine, later, reports, rest, is) told = (
  mine,
  later ++ own,
  reports,
  answers-more patterns (before ++ first ∷ []) rows row later own rest
      (subst (λ (l : List ObservationRow). ReportsRow patterns l own) (sym (append_assoc before (first ∷ []) (rows ++ row ∷ []))) told),
  ap (λ (l : List Hit). l ++ own) is ∙ append_assoc mine later own,
)
