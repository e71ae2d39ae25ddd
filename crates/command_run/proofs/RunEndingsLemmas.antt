-- What the status of a run says of its arguments and its streams.
use Rattle.std.proofs.Common.{◌≡◌, ◌↔◌, ◌⊎◌, ◌≤◌, ℕ, List, [], Bool, false, inl, inr, refl, sym, ap, subst, ◌∙◌, arith}
use Rattle.flow_edges.specs.Faults.{Counted}
use Rattle.match_run.specs.declared.match_end.MatchEnd.TheVariants as end
use Rattle.command_check.specs.declared.verdict.Verdict.TheVariants as verdict
use Rattle.command_match.specs.declared.matching.MatchEnding.{MatchEnding}
use Rattle.command_match.specs.declared.matching.MatchEnding.TheVariants as matching
use Rattle.command_check.specs.declared.checking.CheckEnding.{CheckEnding}
use Rattle.command_check.specs.declared.checking.CheckEnding.TheVariants as checking
use Rattle.command_show.specs.declared.showing.ShowEnding.{ShowEnding}
use Rattle.command_show.specs.declared.showing.ShowEnding.TheVariants as showing
use Rattle.command_make.specs.declared.making.MakeEnding.{MakeEnding}
use Rattle.command_make.specs.declared.making.MakeEnding.TheVariants as making
use Rattle.command_run.specs.declared.ending.Ending.{Ending}
use Rattle.command_run.specs.declared.ending.Ending.TheVariants.{Match, Check, Show, Make, Serve, Usage, NoMemory}
use Rattle.command_run.specs.declared.serve_ending.ServeEnding.{ServeEnding}
use Rattle.command_run.specs.declared.serve_ending.ServeEnding.TheVariants as serving
use Rattle.command_run.specs.ServeEndings.{EndsServe, serve_status, IsEarly, IsStoreFault}
use Rattle.command_run.specs.Services.{ServiceEnvironment}
use Rattle.match_input.specs.declared.mode.Mode.{Mode}
use Rattle.taxii_server.specs.Environment.{LinkView}
use Rattle.command_line.specs.CommandLines.{PlainRequest, PlainService, IsCommandLine}
use Rattle.command_line.specs.CommandLines as asked
use Rattle.command_match.specs.Tasks.{MatchTask, mode_of}
use Rattle.command_run.specs.Requests.{IsMatchRequest, IsShowRequest, IsCheckRequest, IsMakeRequest, IsServeRequest, AskForNoInput}
use Rattle.flow_edges.specs.Streams.{Streams}
use Rattle.command_reasons.specs.Reasons.{IsUnreadPattern}
use Rattle.command_reasons.proofs.CountedLemmas.{counted-when}
use Rattle.command_match.specs.MatchEndings.{EndsMatch, match_status}
use Rattle.command_check.specs.CheckEndings.{check_status}
use Rattle.command_show.specs.ShowEndings.{EndsShow, show_status}
use Rattle.command_make.specs.MakeEndings.{EndsMake, make_status}
use Rattle.command_run.specs.RunEndings.{RunEnvironment, streams_of, exit_status, IsNoCommand, EndsRun, RefusesMatch, RefusesShow, RefusesPattern, ListsBindings, TellsNumbers, ServesNone}

-- arguments ask for one thing at most
abbrev pub OneRequest : Type 0
OneRequest = (arguments : List (List ℕ)) (first second : PlainRequest) → IsCommandLine arguments first → IsCommandLine arguments second → first ≡ second

abbrev kind : PlainRequest → ℕ
kind (asked.Match whole retained_limit pattern) = 0
kind asked.Check = 1
kind (asked.Show pattern) = 2
kind (asked.Make seed count) = 3
kind (asked.Serve service) = 4

abbrev whole_in : PlainRequest → Bool
whole_in (asked.Match whole retained_limit pattern) = whole
whole_in asked.Check = false
whole_in (asked.Show pattern) = false
whole_in (asked.Make seed count) = false
whole_in (asked.Serve service) = false

abbrev first_in : PlainRequest → ℕ
first_in (asked.Match whole retained_limit pattern) = retained_limit
first_in asked.Check = 0
first_in (asked.Show pattern) = 0
first_in (asked.Make seed count) = seed
first_in (asked.Serve service) = 0

abbrev second_in : PlainRequest → ℕ
second_in (asked.Match whole retained_limit pattern) = 0
second_in asked.Check = 0
second_in (asked.Show pattern) = 0
second_in (asked.Make seed count) = count
second_in (asked.Serve service) = 0

abbrev pattern_in : PlainRequest → List ℕ
pattern_in (asked.Match whole retained_limit pattern) = pattern
pattern_in asked.Check = []
pattern_in (asked.Show pattern) = pattern
pattern_in (asked.Make seed count) = []
pattern_in (asked.Serve service) = []

module _ (one : OneRequest) (arguments : List (List ℕ)) where
  other_kind : (first second : PlainRequest) → IsCommandLine arguments first → IsCommandLine arguments second → kind first ≡ kind second
  other_kind first second is also = ap kind (one arguments first second is also)

  match_isn't_check : (request : MatchTask) → IsMatchRequest arguments request → ¬ IsCheckRequest arguments
  match_isn't_check request line check = absurd (omega (arith, other_kind (asked.Match line.whole request.retained_limit request.pattern) asked.Check line.line check))

  match_isn't_show : (request : MatchTask) (pattern : List ℕ) → IsMatchRequest arguments request → ¬ IsShowRequest arguments pattern
  match_isn't_show request pattern line show =
      absurd (omega (arith, other_kind (asked.Match line.whole request.retained_limit request.pattern) (asked.Show pattern) line.line show))

  match_isn't_make : (request : MatchTask) (seed count : ℕ) → IsMatchRequest arguments request → ¬ IsMakeRequest arguments seed count
  match_isn't_make request seed count line making =
      absurd (omega (arith, other_kind (asked.Match line.whole request.retained_limit request.pattern) (asked.Make seed count) line.line making))

  show_isn't_check : (pattern : List ℕ) → IsShowRequest arguments pattern → ¬ IsCheckRequest arguments
  show_isn't_check pattern show check = absurd (omega (arith, other_kind (asked.Show pattern) asked.Check show check))

  show_isn't_make : (pattern : List ℕ) (seed count : ℕ) → IsShowRequest arguments pattern → ¬ IsMakeRequest arguments seed count
  show_isn't_make pattern seed count show making = absurd (omega (arith, other_kind (asked.Show pattern) (asked.Make seed count) show making))

  check_isn't_make : (seed count : ℕ) → IsCheckRequest arguments → ¬ IsMakeRequest arguments seed count
  check_isn't_make seed count check making = absurd (omega (arith, other_kind asked.Check (asked.Make seed count) check making))

  pub match_isn't_serve : (request : MatchTask) (service : PlainService) → IsMatchRequest arguments request → ¬ IsServeRequest arguments service
  match_isn't_serve request service line served =
      absurd (omega (arith, other_kind (asked.Match line.whole request.retained_limit request.pattern) (asked.Serve service) line.line served))

  pub check_isn't_serve : (service : PlainService) → IsCheckRequest arguments → ¬ IsServeRequest arguments service
  check_isn't_serve service check served = absurd (omega (arith, other_kind asked.Check (asked.Serve service) check served))

  pub show_isn't_serve : (pattern : List ℕ) (service : PlainService) → IsShowRequest arguments pattern → ¬ IsServeRequest arguments service
  show_isn't_serve pattern service show served = absurd (omega (arith, other_kind (asked.Show pattern) (asked.Serve service) show served))

  pub make_isn't_serve : (seed count : ℕ) (service : PlainService) → IsMakeRequest arguments seed count → ¬ IsServeRequest arguments service
  make_isn't_serve seed count service making served = absurd (omega (arith, other_kind (asked.Make seed count) (asked.Serve service) making served))

  one_shown : (a b : List ℕ) → IsShowRequest arguments a → IsShowRequest arguments b → a ≡ b
  one_shown a b first second = ap pattern_in (one arguments (asked.Show a) (asked.Show b) first second)

  one_matched : (a b : MatchTask) → IsMatchRequest arguments a → IsMatchRequest arguments b → a ≡ b
  one_matched a b first second =
      let same = one arguments (asked.Match first.whole a.retained_limit a.pattern) (asked.Match second.whole b.retained_limit b.pattern) first.line second.line in
      let mode : a.mode ≡ b.mode = first.mode_is ∙ ap mode_of (ap whole_in same) ∙ sym second.mode_is in
      ap (λ (m : Mode). record { mode = m; retained_limit = a.retained_limit; pattern = a.pattern }) mode
      ∙ ap (λ (c : ℕ). record { mode = b.mode; retained_limit = c; pattern = a.pattern }) (ap first_in same)
      ∙ ap (λ (p : List ℕ). record { mode = b.mode; retained_limit = b.retained_limit; pattern = p }) (ap pattern_in same)

  one_made : (seed count other also : ℕ) → IsMakeRequest arguments seed count → IsMakeRequest arguments other also → (seed ≡ other) × (count ≡ also)
  one_made seed count other also first second =
      let same = one arguments (asked.Make seed count) (asked.Make other also) first second in
      (ap first_in same, ap second_in same)

-- which statuses a command ends with
pub match_isn't_usage : (ending : MatchEnding) → ¬ (match_status ending ≡ 2)
match_isn't_usage (matching.PatternRefused refusal) is = omega arith
match_isn't_usage (matching.Ended (end.Done observations bindings last)) is = omega arith
match_isn't_usage (matching.Ended (end.Input line rule)) is = omega arith
match_isn't_usage (matching.Ended end.ReadFault) is = omega arith
match_isn't_usage (matching.Ended end.WriteFault) is = omega arith
match_isn't_usage (matching.Ended (end.OverLimit number retained_limit)) is = omega arith
match_isn't_usage (matching.Ended end.NoMemory) is = omega arith
match_isn't_usage matching.NoMemory is = omega arith

pub check_statuses : (ending : CheckEnding) → (¬ (check_status ending ≡ 2)) × (¬ (check_status ending ≡ 3))
check_statuses (checking.Validated (verdict.Sound count)) = (λ is. omega arith, λ is. omega arith)
check_statuses (checking.Validated (verdict.Broken breaks)) = (λ is. omega arith, λ is. omega arith)
check_statuses (checking.Validated (verdict.Unfit versions markings)) = (λ is. omega arith, λ is. omega arith)
check_statuses (checking.Validated (verdict.Refused rule)) = (λ is. omega arith, λ is. omega arith)
check_statuses checking.TooLong = (λ is. omega arith, λ is. omega arith)
check_statuses checking.ReadFault = (λ is. omega arith, λ is. omega arith)
check_statuses checking.WriteFault = (λ is. omega arith, λ is. omega arith)
check_statuses checking.NoMemory = (λ is. omega arith, λ is. omega arith)

pub show_isn't_usage : (ending : ShowEnding) → ¬ (show_status ending ≡ 2)
show_isn't_usage showing.Shown is = omega arith
show_isn't_usage (showing.PatternRefused refusal) is = omega arith
show_isn't_usage showing.WriteFault is = omega arith
show_isn't_usage showing.NoMemory is = omega arith

pub make_statuses : (ending : MakeEnding) → (¬ (make_status ending ≡ 2)) × (¬ (make_status ending ≡ 3))
make_statuses making.Made = (λ is. omega arith, λ is. omega arith)
make_statuses (making.Refused line rule) = (λ is. omega arith, λ is. omega arith)
make_statuses making.WriteFault = (λ is. omega arith, λ is. omega arith)
make_statuses making.NoMemory = (λ is. omega arith, λ is. omega arith)

pub serve_statuses : (ending : ServeEnding) → (¬ (serve_status ending ≡ 2)) × (¬ (serve_status ending ≡ 3))
serve_statuses (serving.Done served) = (λ is. omega arith, λ is. omega arith)
serve_statuses serving.NoMemory = (λ is. omega arith, λ is. omega arith)
serve_statuses serving.WriteFault = (λ is. omega arith, λ is. omega arith)
serve_statuses serving.DoorFault = (λ is. omega arith, λ is. omega arith)
serve_statuses (serving.StoreFault cause) = (λ is. omega arith, λ is. omega arith)
serve_statuses (serving.BadRow date) = (λ is. omega arith, λ is. omega arith)

pub usage-run : {L : Type 0} (view : L → LinkView) (arguments : List (List ℕ)) (before after : RunEnvironment L) (ending : Ending) → EndsRun view arguments before after ending → exit_status ending ≡ 2 → IsNoCommand arguments
usage-run view arguments before after (Match ending) ends is = absurd (match_isn't_usage ending is)
usage-run view arguments before after (Check ending) ends is = absurd ((check_statuses ending).0 is)
usage-run view arguments before after (Show ending) ends is = absurd (show_isn't_usage ending is)
usage-run view arguments before after (Make ending) ends is = absurd ((make_statuses ending).0 is)
usage-run view arguments before after (Serve ending) ends is = absurd ((serve_statuses ending).0 is)
usage-run view arguments before after Usage ends is = ends.0
usage-run view arguments before after NoMemory ends is = absurd (omega arith)

pub no_line-run : {L : Type 0} (view : L → LinkView) (arguments : List (List ℕ)) (before after : RunEnvironment L) (ending : Ending) → EndsRun view arguments before after ending → IsNoCommand arguments
    → (exit_status ending ≡ 2) ⊎ (exit_status ending ≡ 1)
no_line-run view arguments before after (Match ending) ends none = absurd (none (asked.Match ends.command.whole ends.request.retained_limit ends.request.pattern) ends.command.line)
no_line-run view arguments before after (Check ending) ends none = absurd (none asked.Check ends.command)
no_line-run view arguments before after (Show ending) ends none = absurd (none (asked.Show ends.pattern) ends.command)
no_line-run view arguments before after (Make ending) ends none = absurd (none (asked.Make ends.seed ends.count) ends.command)
no_line-run view arguments before after (Serve ending) ends none = absurd (none (asked.Serve ends.service) ends.command)
no_line-run view arguments before after Usage ends none = inl refl
no_line-run view arguments before after NoMemory ends none = inr refl

-- status 3 comes for a pattern that is refused
match-pattern : (arguments : List (List ℕ)) (request : MatchTask) (before after : Streams) (ending : MatchEnding)
    → IsMatchRequest arguments request → EndsMatch request before after ending → match_status ending ≡ 3 → RefusesMatch arguments
match-pattern arguments request before after (matching.PatternRefused refusal) command ends is = record { request = request; command = command; none = ends.0.unread }
match-pattern arguments request before after (matching.Ended (end.Done observations bindings last)) command ends is = absurd (omega arith)
match-pattern arguments request before after (matching.Ended (end.Input line rule)) command ends is = absurd (omega arith)
match-pattern arguments request before after (matching.Ended end.ReadFault) command ends is = absurd (omega arith)
match-pattern arguments request before after (matching.Ended end.WriteFault) command ends is = absurd (omega arith)
match-pattern arguments request before after (matching.Ended (end.OverLimit number retained_limit)) command ends is = absurd (omega arith)
match-pattern arguments request before after (matching.Ended end.NoMemory) command ends is = absurd (omega arith)
match-pattern arguments request before after matching.NoMemory command ends is = absurd (omega arith)

show-pattern : (arguments : List (List ℕ)) (pattern : List ℕ) (before after : Streams) (ending : ShowEnding)
    → IsShowRequest arguments pattern → EndsShow pattern before after ending → show_status ending ≡ 3 → RefusesShow arguments
show-pattern arguments pattern before after showing.Shown command ends is = absurd (omega arith)
show-pattern arguments pattern before after (showing.PatternRefused refusal) command ends is = record { pattern = pattern; command = command; none = ends.0.unread }
show-pattern arguments pattern before after showing.WriteFault command ends is = absurd (omega arith)
show-pattern arguments pattern before after showing.NoMemory command ends is = absurd (omega arith)

pub pattern-run : {L : Type 0} (view : L → LinkView) (arguments : List (List ℕ)) (before after : RunEnvironment L) (ending : Ending) → EndsRun view arguments before after ending → exit_status ending ≡ 3 → RefusesPattern arguments
pattern-run view arguments before after (Match ending) ends is = inl (match-pattern arguments ends.request (streams_of before) (streams_of after) ending ends.command ends.match_ends is)
pattern-run view arguments before after (Check ending) ends is = absurd ((check_statuses ending).1 is)
pattern-run view arguments before after (Show ending) ends is = inr (show-pattern arguments ends.pattern (streams_of before) (streams_of after) ending ends.command ends.show_ends is)
pattern-run view arguments before after (Make ending) ends is = absurd ((make_statuses ending).1 is)
pattern-run view arguments before after (Serve ending) ends is = absurd ((serve_statuses ending).1 is)
pattern-run view arguments before after Usage ends is = absurd (omega arith)
pattern-run view arguments before after NoMemory ends is = absurd (omega arith)

-- a pattern that is refused ends in status 3, or memory ran out
match-refused : (request : MatchTask) (before after : Streams) (ending : MatchEnding)
    → IsUnreadPattern request.pattern → EndsMatch request before after ending → (match_status ending ≡ 3) ⊎ (match_status ending ≡ 1)
match-refused request before after (matching.PatternRefused refusal) none ends = inl refl
match-refused request before after (matching.Ended ended) none ends = absurd (none ends.pattern ends.read)
match-refused request before after matching.NoMemory none ends = inr refl

show-refused : (pattern : List ℕ) (before after : Streams) (ending : ShowEnding)
    → IsUnreadPattern pattern → EndsShow pattern before after ending → (show_status ending ≡ 3) ⊎ (show_status ending ≡ 1)
show-refused pattern before after showing.Shown none ends = absurd (none ends.1.pattern ends.1.read)
show-refused pattern before after (showing.PatternRefused refusal) none ends = inl refl
show-refused pattern before after showing.WriteFault none ends = absurd (none ends.1.pattern ends.1.read)
show-refused pattern before after showing.NoMemory none ends = inr refl

pub refused-run : OneRequest → {L : Type 0} (view : L → LinkView) (arguments : List (List ℕ)) (before after : RunEnvironment L) (ending : Ending) → EndsRun view arguments before after ending → RefusesPattern arguments
    → (exit_status ending ≡ 3) ⊎ (exit_status ending ≡ 1)
refused-run one view arguments before after (Match ending) ends (inl refuses) =
    match-refused ends.request (streams_of before) (streams_of after) ending
    (subst (λ (r : MatchTask). IsUnreadPattern r.pattern) (one_matched one arguments refuses.request ends.request refuses.command ends.command) refuses.none) ends.match_ends
refused-run one view arguments before after (Match ending) ends (inr refuses) = absurd (match_isn't_show one arguments ends.request refuses.pattern ends.command refuses.command)
refused-run one view arguments before after (Check ending) ends (inl refuses) = absurd (match_isn't_check one arguments refuses.request refuses.command ends.command)
refused-run one view arguments before after (Check ending) ends (inr refuses) = absurd (show_isn't_check one arguments refuses.pattern refuses.command ends.command)
refused-run one view arguments before after (Show ending) ends (inl refuses) = absurd (match_isn't_show one arguments refuses.request ends.pattern refuses.command ends.command)
refused-run one view arguments before after (Show ending) ends (inr refuses) =
    show-refused ends.pattern (streams_of before) (streams_of after) ending
    (subst (λ (p : List ℕ). IsUnreadPattern p) (one_shown one arguments refuses.pattern ends.pattern refuses.command ends.command) refuses.none) ends.show_ends
refused-run one view arguments before after (Make ending) ends (inl refuses) = absurd (match_isn't_make one arguments refuses.request ends.seed ends.count refuses.command ends.command)
refused-run one view arguments before after (Make ending) ends (inr refuses) = absurd (show_isn't_make one arguments refuses.pattern ends.seed ends.count refuses.command ends.command)
refused-run one view arguments before after (Serve ending) ends (inl refuses) = absurd (match_isn't_serve one arguments refuses.request ends.service refuses.command ends.command)
refused-run one view arguments before after (Serve ending) ends (inr refuses) = absurd (show_isn't_serve one arguments refuses.pattern ends.service refuses.command ends.command)
refused-run one view arguments before after Usage ends (inl refuses) =
    absurd (ends.0 (asked.Match refuses.command.whole refuses.request.retained_limit refuses.request.pattern) refuses.command.line)
refused-run one view arguments before after Usage ends (inr refuses) = absurd (ends.0 (asked.Show refuses.pattern) refuses.command)
refused-run one view arguments before after NoMemory ends refuses = inr refl

-- a match that ends in status 0 lists the bindings
match-listing : (request : MatchTask) (before after : Streams) (ending : MatchEnding)
    → EndsMatch request before after ending → match_status ending ≡ 0 → ListsBindings request before after
match-listing request before after (matching.Ended (end.Done observations bindings last)) ends is =
    let whole = ends.answers in
    record {
      pattern = ends.pattern;
      read = ends.read;
      bundles = whole.bundles;
      reading = whole.reading;
      log = whole.log;
      entries = whole.lists.entries;
      trees = whole.trees;
      bindings = whole.lists.bindings;
      text = whole.lists.text;
    }
match-listing request before after (matching.PatternRefused refusal) ends is = absurd (omega arith)
match-listing request before after (matching.Ended (end.Input line rule)) ends is = absurd (omega arith)
match-listing request before after (matching.Ended end.ReadFault) ends is = absurd (omega arith)
match-listing request before after (matching.Ended end.WriteFault) ends is = absurd (omega arith)
match-listing request before after (matching.Ended (end.OverLimit number retained_limit)) ends is = absurd (omega arith)
match-listing request before after (matching.Ended end.NoMemory) ends is = absurd (omega arith)
match-listing request before after matching.NoMemory ends is = absurd (omega arith)

pub listing-run : OneRequest → {L : Type 0} (view : L → LinkView) (arguments : List (List ℕ)) (before after : RunEnvironment L) (ending : Ending) → EndsRun view arguments before after ending → exit_status ending ≡ 0
    → (request : MatchTask) → IsMatchRequest arguments request → ListsBindings request (streams_of before) (streams_of after)
listing-run one view arguments before after (Match ending) ends is request line =
    subst (λ (r : MatchTask). ListsBindings r (streams_of before) (streams_of after)) (one_matched one arguments ends.request request ends.command line)
    (match-listing ends.request (streams_of before) (streams_of after) ending ends.match_ends is)
listing-run one view arguments before after (Check ending) ends is request line = absurd (match_isn't_check one arguments request line ends.command)
listing-run one view arguments before after (Show ending) ends is request line = absurd (match_isn't_show one arguments request ends.pattern line ends.command)
listing-run one view arguments before after (Make ending) ends is request line = absurd (match_isn't_make one arguments request ends.seed ends.count line ends.command)
listing-run one view arguments before after (Serve ending) ends is request line = absurd (match_isn't_serve one arguments request ends.service line ends.command)
listing-run one view arguments before after Usage ends is request line = absurd (omega arith)
listing-run one view arguments before after NoMemory ends is request line = absurd (omega arith)

-- a make that ends in status 0 tells the numbers
made-numbers : (seed count : ℕ) (before after : Streams) (ending : MakeEnding) → EndsMake seed count before.written after.written ending
    → make_status ending ≡ 0 → TellsNumbers seed count before after
made-numbers seed count before after making.Made ends is = ends
made-numbers seed count before after (making.Refused line rule) ends is = absurd (omega arith)
made-numbers seed count before after making.WriteFault ends is = absurd (omega arith)
made-numbers seed count before after making.NoMemory ends is = absurd (omega arith)

pub making-run : OneRequest → {L : Type 0} (view : L → LinkView) (arguments : List (List ℕ)) (before after : RunEnvironment L) (ending : Ending) → EndsRun view arguments before after ending → exit_status ending ≡ 0
    → (seed count : ℕ) → IsMakeRequest arguments seed count → TellsNumbers seed count (streams_of before) (streams_of after)
making-run one view arguments before after (Match ending) ends is seed count line = absurd (match_isn't_make one arguments ends.request seed count ends.command line)
making-run one view arguments before after (Check ending) ends is seed count line = absurd (check_isn't_make one arguments seed count ends.command line)
making-run one view arguments before after (Show ending) ends is seed count line = absurd (show_isn't_make one arguments ends.pattern seed count ends.command line)
making-run one view arguments before after (Make ending) ends is seed count line =
    let same = one_made one arguments ends.seed ends.count seed count ends.command line in
    subst (λ (s : ℕ). TellsNumbers s count (streams_of before) (streams_of after)) same.0
    (subst (λ (n : ℕ). TellsNumbers ends.seed n (streams_of before) (streams_of after)) same.1 (made-numbers ends.seed ends.count (streams_of before) (streams_of after) ending ends.make_ends is))
making-run one view arguments before after (Serve ending) ends is seed count line = absurd (make_isn't_serve one arguments seed count ends.service line ends.command)
making-run one view arguments before after Usage ends is seed count line = absurd (omega arith)
making-run one view arguments before after NoMemory ends is seed count line = absurd (omega arith)

-- a `serve` with another status ended before the door was opened
pub early : (ending : ServeEnding) → ServesNone (serve_status ending) → IsEarly ending
early (serving.Done served) none = absurd (none.0 refl)
early serving.NoMemory none = tt
early serving.WriteFault none = absurd (none.1 refl)
early serving.DoorFault none = absurd (none.2 refl)
early (serving.StoreFault cause) none = tt
early (serving.BadRow date) none = tt

-- which statuses no ending of a command has
match_below : (ending : MatchEnding) → match_status ending ≤ 7
match_below (matching.PatternRefused refusal) = omega arith
match_below (matching.Ended (end.Done observations bindings last)) = omega arith
match_below (matching.Ended (end.Input line rule)) = omega arith
match_below (matching.Ended end.ReadFault) = omega arith
match_below (matching.Ended end.WriteFault) = omega arith
match_below (matching.Ended (end.OverLimit number retained_limit)) = omega arith
match_below (matching.Ended end.NoMemory) = omega arith
match_below matching.NoMemory = omega arith

check_below : (ending : CheckEnding) → check_status ending ≤ 7
check_below (checking.Validated (verdict.Sound count)) = omega arith
check_below (checking.Validated (verdict.Broken breaks)) = omega arith
check_below (checking.Validated (verdict.Unfit versions markings)) = omega arith
check_below (checking.Validated (verdict.Refused rule)) = omega arith
check_below checking.TooLong = omega arith
check_below checking.ReadFault = omega arith
check_below checking.WriteFault = omega arith
check_below checking.NoMemory = omega arith

show_below : (ending : ShowEnding) → (show_status ending ≤ 7) × (¬ (show_status ending ≡ 5))
show_below showing.Shown = (omega arith, λ is. omega arith)
show_below (showing.PatternRefused refusal) = (omega arith, λ is. omega arith)
show_below showing.WriteFault = (omega arith, λ is. omega arith)
show_below showing.NoMemory = (omega arith, λ is. omega arith)

make_below : (ending : MakeEnding) → (make_status ending ≤ 7) × (¬ (make_status ending ≡ 5))
make_below making.Made = (omega arith, λ is. omega arith)
make_below (making.Refused line rule) = (omega arith, λ is. omega arith)
make_below making.WriteFault = (omega arith, λ is. omega arith)
make_below making.NoMemory = (omega arith, λ is. omega arith)

serve_reads_nothing : (ending : ServeEnding) → ¬ (serve_status ending ≡ 5)
serve_reads_nothing (serving.Done served) is = omega arith
serve_reads_nothing serving.NoMemory is = omega arith
serve_reads_nothing serving.WriteFault is = omega arith
serve_reads_nothing serving.DoorFault is = omega arith
serve_reads_nothing (serving.StoreFault cause) is = omega arith
serve_reads_nothing (serving.BadRow date) is = omega arith

-- a count that no call touched
untouched-count : {status wanted count : ℕ} → ¬ (status ≡ wanted) → Counted (status ≡ wanted) count count
untouched-count other = record { later = omega arith; failed = λ is. absurd (other is); quiet = λ _. refl }

pub not_above : {status count : ℕ} (wanted : ℕ) → 8 ≤ wanted → status ≤ 7 → Counted (status ≡ wanted) count count
not_above wanted great small = untouched-count (λ is. omega (arith, is))

pub match-counts : {count : ℕ} (ending : MatchEnding) (wanted : ℕ) → 8 ≤ wanted → Counted (match_status ending ≡ wanted) count count
match-counts ending wanted great = not_above wanted great (match_below ending)

pub check-counts : {count : ℕ} (ending : CheckEnding) (wanted : ℕ) → 8 ≤ wanted → Counted (check_status ending ≡ wanted) count count
check-counts ending wanted great = not_above wanted great (check_below ending)

pub show-counts : {count : ℕ} (ending : ShowEnding) (wanted : ℕ) → 8 ≤ wanted → Counted (show_status ending ≡ wanted) count count
show-counts ending wanted great = not_above wanted great (show_below ending).0

pub make-counts : {count : ℕ} (ending : MakeEnding) (wanted : ℕ) → 8 ≤ wanted → Counted (make_status ending ≡ wanted) count count
make-counts ending wanted great = not_above wanted great (make_below ending).0

-- the input of a command that reads none
pub show-input : {count : ℕ} (ending : ShowEnding) → Counted (show_status ending ≡ 5) count count
show-input ending = untouched-count (show_below ending).1

pub make-input : {count : ℕ} (ending : MakeEnding) → Counted (make_status ending ≡ 5) count count
make-input ending = untouched-count (make_below ending).1

pub serve-input : {count : ℕ} (ending : ServeEnding) → Counted (serve_status ending ≡ 5) count count
serve-input ending = untouched-count (serve_reads_nothing ending)

-- the faults of a `serve` by their statuses
pub serve-output : {before now : ℕ} (ending : ServeEnding) → Counted (ending ≡ serving.WriteFault) before now → Counted (serve_status ending ≡ 6) before now
serve-output ending = counted-when (there ending, λ is. ap serve_status is) where
  there : (ending : ServeEnding) → serve_status ending ≡ 6 → ending ≡ serving.WriteFault
  there (serving.Done served) is = absurd (omega arith)
  there serving.NoMemory is = absurd (omega arith)
  there serving.WriteFault is = refl
  there serving.DoorFault is = absurd (omega arith)
  there (serving.StoreFault cause) is = absurd (omega arith)
  there (serving.BadRow date) is = absurd (omega arith)

pub serve-door : {before now : ℕ} (ending : ServeEnding) → Counted (ending ≡ serving.DoorFault) before now → Counted (serve_status ending ≡ 8) before now
serve-door ending = counted-when (there ending, λ is. ap serve_status is) where
  there : (ending : ServeEnding) → serve_status ending ≡ 8 → ending ≡ serving.DoorFault
  there (serving.Done served) is = absurd (omega arith)
  there serving.NoMemory is = absurd (omega arith)
  there serving.WriteFault is = absurd (omega arith)
  there serving.DoorFault is = refl
  there (serving.StoreFault cause) is = absurd (omega arith)
  there (serving.BadRow date) is = absurd (omega arith)

pub serve-keeper : {before now : ℕ} (ending : ServeEnding) → Counted (IsStoreFault ending) before now → Counted (serve_status ending ≡ 9) before now
serve-keeper ending = counted-when (there ending, back ending) where
  back : (ending : ServeEnding) → IsStoreFault ending → serve_status ending ≡ 9
  back (serving.Done served) is = absurd is
  back serving.NoMemory is = absurd is
  back serving.WriteFault is = absurd is
  back serving.DoorFault is = absurd is
  back (serving.StoreFault cause) is = refl
  back (serving.BadRow date) is = absurd is

  there : (ending : ServeEnding) → serve_status ending ≡ 9 → IsStoreFault ending
  there (serving.Done served) is = absurd (omega arith)
  there serving.NoMemory is = absurd (omega arith)
  there serving.WriteFault is = absurd (omega arith)
  there serving.DoorFault is = absurd (omega arith)
  there (serving.StoreFault cause) is = tt
  there (serving.BadRow date) is = absurd (omega arith)

-- a count under a status that is another's
pub counted-as : {status own wanted before now : ℕ} → status ≡ own → Counted (own ≡ wanted) before now → Counted (status ≡ wanted) before now
counted-as same = counted-when (λ is. sym same ∙ is, λ is. same ∙ is)

-- `match` and `check` read their input
pub match_reads : OneRequest → (arguments : List (List ℕ)) (task : MatchTask) → IsMatchRequest arguments task → ¬ AskForNoInput arguments
match_reads one arguments task line (inl shows) = match_isn't_show one arguments task shows.0 line shows.1
match_reads one arguments task line (inr (inl makes)) = match_isn't_make one arguments task makes.0 makes.1 line makes.2
match_reads one arguments task line (inr (inr serves)) = match_isn't_serve one arguments task serves.0 line serves.1

pub check_reads : OneRequest → (arguments : List (List ℕ)) → IsCheckRequest arguments → ¬ AskForNoInput arguments
check_reads one arguments line (inl shows) = show_isn't_check one arguments shows.0 shows.1 line
check_reads one arguments line (inr (inl makes)) = check_isn't_make one arguments makes.0 makes.1 line makes.2
check_reads one arguments line (inr (inr serves)) = check_isn't_serve one arguments serves.0 line serves.1

-- where a `serve` ended before the door was opened, the rows are as they were
pub early-rows : {L : Type 0} (view : L → LinkView) (service : PlainService) (before after : ServiceEnvironment L) (ending : ServeEnding)
    → IsEarly ending → EndsServe view service before after ending → after.kept.observable ≡ before.kept.observable
early-rows view service before after (serving.Done served) is ends = absurd is
early-rows view service before after serving.WriteFault is ends = absurd is
early-rows view service before after serving.DoorFault is ends = absurd is
early-rows view service before after serving.NoMemory is ends = ends.rows
early-rows view service before after (serving.StoreFault cause) is ends = ends.rows
early-rows view service before after (serving.BadRow date) is ends = ends.0.rows
