-- Attempts, one more at a time: their turns, their links, their pages, and how many were lost.
use Rattle.std.proofs.Common.{◌≡◌, inl, inr, ℕ, ◌+◌, ◌-◌, Bool, true, false, cond, List, [], ◌∷◌, ◌++◌, length, map, filter, filter_map, count_by, sum_by, fold, is_none, Option, None, Some, MatchOption, Result, Ok, Err, All, refl, sym, ap, subst, ◌∙◌, arith}
use Rattle.std.specs.List.{cons_option}
use Rattle.std.proofs.lemmas.List.{append-nil, map-append}
use Rattle.std.proofs.lemmas.List.Elements.{All-cons, All-nil, All-head, All-tail, filter_map-append}
use Rattle.std.proofs.lemmas.List.Sums.{sum_by-cons}
use Rattle.stix_json.specs.declared.envelope.Envelope.{Envelope}
use Rattle.flow_edges.specs.Faults.{HasIncreased}
use Rattle.taxii_client.specs.Environment.{ClientLinkView}
use Rattle.taxii_client.specs.Fetches.{Fetched}
use Rattle.taxii_client.specs.Pulls.{Lent, Page, ArePagesInTurn as PagesInTurn}
use Rattle.taxii_client.specs.declared.fetch_end.FetchEnd.{FetchEnd}
use Rattle.taxii_client.specs.declared.fetch_end.FetchEnd.TheVariants as Fetch
use Rattle.taxii_client.specs.declared.target.Target.{Target}
use Rattle.taxii_client.specs.declared.cursor.Cursor.{Cursor}
use Rattle.taxii_client.specs.Attempts.{Attempt, IsAttemptAt, AreAttemptsInTurn, cursor_after_attempt, is_loss, is_lost, losses, undialled, links_of, lost_links, page_over, pages_of, entries_of, AllowsNextAttempt, LinkFailed, CountsDials}

-- ---- counts and lists, one more

fold_more : {A X : Type 0} (f : A → X → A) (a : A) (xs : List X) (x : X) → fold f a (xs ++ x ∷ []) ≡ f (fold f a xs) x
fold_more f a [] x = refl
fold_more f a (y ∷ xs) x = fold_more f (f a y) xs x

pub sum_more : {X : Type 0} (f : X → ℕ) (xs : List X) (x : X) → sum_by f (xs ++ x ∷ []) ≡ sum_by f xs + f x
sum_more f xs x = fold_more (λ (a : ℕ) y. a + f y) 0 xs x

pub count_more : {X : Type 0} (test : X → Bool) (xs : List X) (x : X) → count_by test (xs ++ x ∷ []) ≡ count_by test xs + cond (test x) 1 0
count_more test xs x = sum_more (λ y. cond (test y) 1 0) xs x

pub counts_none : (faults : ℕ) → CountsDials 0 faults faults
counts_none faults = record { rose = omega arith; quiet = λ none. refl }

module _ {L : Type 0} where
  pub losses_lost : (attempts : List (Attempt L)) (attempt : Attempt L) → is_lost attempt ≡ true → losses (attempts ++ attempt ∷ []) ≡ losses attempts + 1
  losses_lost attempts attempt lost = count_more is_lost attempts attempt ∙ ap (λ (b : Bool). losses attempts + cond b 1 0) lost

  pub losses_came : (attempts : List (Attempt L)) (attempt : Attempt L) → is_lost attempt ≡ false → losses (attempts ++ attempt ∷ []) ≡ losses attempts
  losses_came attempts attempt came = count_more is_lost attempts attempt ∙ ap (λ (b : Bool). losses attempts + cond b 1 0) came ∙ omega arith

  -- an attempt over a link or without one
  abbrev pub over : Lent L → Result Envelope FetchEnd → Attempt L
  over link answer = record { link = Some link; answer = answer }

  abbrev pub without : Attempt L
  without = record { link = None; answer = Err Fetch.Fault }

  pub links_more : (attempts : List (Attempt L)) (link : Lent L) (answer : Result Envelope FetchEnd)
      → links_of (attempts ++ over link answer ∷ []) ≡ links_of attempts ++ link ∷ []
  links_more attempts link answer = filter_map-append (λ (a : Attempt L). a.link) attempts (over link answer ∷ [])

  pub links_same : (attempts : List (Attempt L)) → links_of (attempts ++ without ∷ []) ≡ links_of attempts
  links_same attempts = filter_map-append (λ (a : Attempt L). a.link) attempts (without ∷ []) ∙ append-nil (links_of attempts)

  pub pages_more : (attempts : List (Attempt L)) (link : Lent L) (envelope : Envelope)
      → pages_of (attempts ++ over link (Ok envelope) ∷ []) ≡ pages_of attempts ++ record { link = link; envelope = envelope } ∷ []
  pages_more attempts link envelope = filter_map-append (λ (a : Attempt L). page_over a.link a.answer) attempts (over link (Ok envelope) ∷ [])

  no_page : (link : Option (Lent L)) (answer : Result Envelope FetchEnd) (end : FetchEnd) → answer ≡ Err end → page_over link answer ≡ None
  no_page None answer end is = refl
  no_page (Some link) (Ok envelope) end is = absurd (cc is)
  no_page (Some link) (Err other) end is = refl

  pub pages_same : (attempts : List (Attempt L)) (attempt : Attempt L) (end : FetchEnd) → attempt.answer ≡ Err end → pages_of (attempts ++ attempt ∷ []) ≡ pages_of attempts
  pages_same attempts attempt end is =
      filter_map-append (λ (a : Attempt L). page_over a.link a.answer) attempts (attempt ∷ [])
      ∙ ap (λ (o : Option (Page L)). pages_of attempts ++ cons_option o []) (no_page attempt.link attempt.answer end is) ∙ append-nil (pages_of attempts)

  pub entries_more : (attempts : List (Attempt L)) (link : Lent L) (envelope : Envelope)
      → entries_of (pages_of (attempts ++ over link (Ok envelope) ∷ [])) ≡ entries_of (pages_of attempts) ++ envelope.entries ∷ []
  entries_more attempts link envelope =
      ap entries_of (pages_more attempts link envelope) ∙ map-append (λ (p : Page L). p.envelope.entries) (pages_of attempts) (record { link = link; envelope = envelope } ∷ [])

  -- ---- turns

  module _ (view : L → ClientLinkView) (target : Target) where
    pub turns_more : (start cursor : Cursor) (attempts : List (Attempt L)) (attempt : Attempt L)
        → AreAttemptsInTurn view target start attempts cursor → IsAttemptAt view target cursor attempt → AreAttemptsInTurn view target start (attempts ++ attempt ∷ []) (cursor_after_attempt cursor attempt.answer)
    turns_more start cursor [] attempt same is = (subst (λ (t : Cursor). IsAttemptAt view target t attempt) same is, ap (λ (t : Cursor). cursor_after_attempt t attempt.answer) same)
    turns_more start cursor (first ∷ attempts) attempt turns is =
        (turns.0, turns_more (cursor_after_attempt start first.answer) cursor attempts attempt turns.1 is)

    -- the pages that came among attempts that go on are in turn
    pub pages_turn : (start cursor : Cursor) (attempts : List (Attempt L)) → AreAttemptsInTurn view target start attempts cursor → All AllowsNextAttempt attempts
        → PagesInTurn view target start (pages_of attempts) cursor
    pages_turn start cursor [] turns proceed = turns
    pages_turn start cursor (attempt ∷ attempts) turns proceed =
        go attempt.link attempt.answer turns.0.fetched (pages_turn (cursor_after_attempt start attempt.answer) cursor attempts turns.1 (All-tail AllowsNextAttempt attempt attempts proceed))
      where
        go : (link : Option (Lent L)) (answer : Result Envelope FetchEnd)
            → MatchOption link (answer ≡ Err Fetch.Fault) (λ one. Fetched target turns.0.next (view one.given) (view one.finished) answer)
            → PagesInTurn view target (cursor_after_attempt start answer) (pages_of attempts) cursor
            → PagesInTurn view target start (cons_option (page_over link answer) (pages_of attempts)) cursor
        go None (Ok envelope) fault behind = absurd (cc fault)
        go None (Err end) fault behind = behind
        go (Some link) (Ok envelope) fetched behind = (record { next = turns.0.next; asks = turns.0.asks; fetched = fetched }, behind)
        go (Some link) (Err end) fetched behind = behind

    -- ---- why attempts are lost

    failed_one : (cursor : Cursor) (link : Lent L) (answer : Result Envelope FetchEnd) (next : Option (List ℕ))
        → Fetched target next (view link.given) (view link.finished) answer → is_loss answer ≡ true → LinkFailed view link
    failed_one cursor link (Ok envelope) next fetched lost = absurd (cc lost)
    failed_one cursor link (Err Fetch.Fault) next fetched lost = inl (fetched.counts.failed refl)
    failed_one cursor link (Err Fetch.Cut) next fetched lost = inr (record {
      taken = fetched.reads.taken;
      takes = fetched.reads.takes;
      cut = fetched.reads.answers.0;
      ended = fetched.reads.answers.1;
    })
    failed_one cursor link (Err (Fetch.Refused refusal)) next fetched lost = absurd (cc lost)
    failed_one cursor link (Err Fetch.NoMemory) next fetched lost = absurd (cc lost)

    pub all_failed : (start cursor : Cursor) (attempts : List (Attempt L)) → AreAttemptsInTurn view target start attempts cursor → All (LinkFailed view) (lost_links attempts)
    all_failed start cursor [] turns = All-nil (LinkFailed view)
    all_failed start cursor (attempt ∷ attempts) turns =
        go (is_lost attempt) refl (all_failed (cursor_after_attempt start attempt.answer) cursor attempts turns.1)
      where
        with_link : (link : Option (Lent L)) → MatchOption link (attempt.answer ≡ Err Fetch.Fault) (λ one. Fetched target turns.0.next (view one.given) (view one.finished) attempt.answer)
            → is_lost attempt ≡ true → All (LinkFailed view) (lost_links attempts)
            → All (LinkFailed view) (links_of (record { link = link; answer = attempt.answer } ∷ filter is_lost attempts))
        with_link None fault lost rest = rest
        with_link (Some link) fetched lost rest =
            All-cons (LinkFailed view) link (lost_links attempts) (failed_one start link attempt.answer turns.0.next fetched lost) rest

        go : (b : Bool) → is_lost attempt ≡ b → All (LinkFailed view) (lost_links attempts)
            → All (LinkFailed view) (links_of (cond b (attempt ∷ filter is_lost attempts) (filter is_lost attempts)))
        go true lost rest = with_link attempt.link turns.0.fetched lost rest
        go false came rest = rest

  -- the lost ones are those over a link and those without one
  pub lost_counts : (attempts : List (Attempt L)) → All (λ attempt. attempt.link ≡ None → is_lost attempt ≡ true) attempts
      → losses attempts ≡ undialled attempts + length (lost_links attempts)
  lost_counts [] all = refl
  lost_counts (attempt ∷ attempts) all =
      let rest = lost_counts attempts (All-tail (λ a. a.link ≡ None → is_lost a ≡ true) attempt attempts all) in
      let first = All-head (λ a. a.link ≡ None → is_lost a ≡ true) attempt attempts all in
      go attempt.link (is_lost attempt) first (sum_by-cons (λ a. cond (is_lost a) 1 0) attempt attempts) (sum_by-cons (λ a. cond (is_none a.link) 1 0) attempt attempts) rest
    where
      go : (link : Option (Lent L)) (b : Bool) → (link ≡ None → b ≡ true) → losses (attempt ∷ attempts) ≡ cond b 1 0 + losses attempts
          → undialled (attempt ∷ attempts) ≡ cond (is_none link) 1 0 + undialled attempts
          → losses attempts ≡ undialled attempts + length (lost_links attempts)
          → losses (attempt ∷ attempts) ≡ undialled (attempt ∷ attempts) + length (links_of (cond b (record { link = link; answer = attempt.answer } ∷ filter is_lost attempts) (filter is_lost attempts)))
      go None true none count more rest = omega (arith, count, more, rest)
      go None false none count more rest = absurd (cc (none refl))
      go (Some link) true none count more rest = omega (arith, count, more, rest)
      go (Some link) false none count more rest = omega (arith, count, more, rest)

  without_is_lost : (link : Option (Lent L)) (answer : Result Envelope FetchEnd) → link ≡ None → (view : L → ClientLinkView) (target : Target) (next : Option (List ℕ))
      → MatchOption link (answer ≡ Err Fetch.Fault) (λ one. Fetched target next (view one.given) (view one.finished) answer) → is_loss answer ≡ true
  without_is_lost None answer none view target next fault = ap is_loss fault
  without_is_lost (Some link) answer none view target next fetched = absurd (cc none)

  pub undialled_lost : (view : L → ClientLinkView) (target : Target) (start cursor : Cursor) (attempts : List (Attempt L)) → AreAttemptsInTurn view target start attempts cursor
      → All (λ attempt. attempt.link ≡ None → is_lost attempt ≡ true) attempts
  undialled_lost view target start cursor [] turns = All-nil (λ attempt. attempt.link ≡ None → is_lost attempt ≡ true)
  undialled_lost view target start cursor (attempt ∷ attempts) turns =
      All-cons (λ a. a.link ≡ None → is_lost a ≡ true) attempt attempts
      (λ none. without_is_lost attempt.link attempt.answer none view target turns.0.next turns.0.fetched)
      (undialled_lost view target (cursor_after_attempt start attempt.answer) cursor attempts turns.1)

  -- ---- the dial's count

  pub counts_over : (attempts : List (Attempt L)) (link : Lent L) (answer : Result Envelope FetchEnd) (before now after : ℕ)
      → CountsDials (undialled attempts) before now → after ≡ now → CountsDials (undialled (attempts ++ over link answer ∷ [])) before after
  counts_over attempts link answer before now after counts quiet =
      let same : undialled (attempts ++ over link answer ∷ []) ≡ undialled attempts = count_more (λ (a : Attempt L). is_none a.link) attempts (over link answer) ∙ omega arith in
      subst (λ (n : ℕ). CountsDials n before after) (sym same) (subst (λ (f : ℕ). CountsDials (undialled attempts) before f) (sym quiet) counts)

  pub counts_without : (attempts : List (Attempt L)) (before now after : ℕ)
      → CountsDials (undialled attempts) before now → HasIncreased now after → CountsDials (undialled (attempts ++ without ∷ [])) before after
  counts_without attempts before now after counts rose =
      let more : undialled (attempts ++ without ∷ []) ≡ undialled attempts + 1 = count_more (λ (a : Attempt L). is_none a.link) attempts without in
      subst (λ (n : ℕ). CountsDials n before after) (sym more) (record { rose = omega (arith, counts.rose, rose); quiet = λ none. absurd (omega (arith, none)) })
