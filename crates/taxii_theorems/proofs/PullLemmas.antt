-- Pages that a server's answers are, and the walk that their rounds make.
use Rattle.std.proofs.Common.{◌≡◌, ℕ, ℤ, ◌+◌, ◌<◌, ◌≤◌, ◌^◌, Bool, List, [], ◌∷◌, ◌++◌, All, length, map, codes, Option, Some, None, option_map, inl, inr, refl, sym, ap, subst, ◌∙◌, append_assoc, append-nil, arith}
use Rattle.std.specs.Prelude.{is_some, fold}
use Rattle.std.proofs.lemmas.List.Concat.{flat_map-append}
use Rattle.std.proofs.lemmas.List.Elements.{All-head, All-tail, All-cons, All-nil, All-append, All-map}
use Rattle.stix_ids.specs.declared.id.Id.{Id}
use Rattle.stix_json.specs.declared.envelope.Envelope.{Envelope}
use Rattle.stix_json.specs.Envelopes.{IsEnvelopeOf}
use Rattle.http_messages.specs.declared.status.Status.TheVariants.{Okay}
use Rattle.taxii_exchange.specs.declared.answer.Answer.{Answer}
use Rattle.taxii_exchange.specs.Answers.{IsAnswerText}
use Rattle.http_messages.specs.Replies.{IsReply}
use Rattle.taxii_routes.specs.declared.query.Query.{Query}
use Rattle.taxii_rows.specs.declared.stored_row.StoredRow.{StoredRow}
use Rattle.taxii_rows.specs.SoundRow.{IsSoundRow, IsSoundState}
use Rattle.taxii_rows.specs.StoreState.{StoreState}
use Rattle.hex.specs.Hex.{encode_with}
use Rattle.taxii_bodies.specs.Envelope.{next_of, next_text, head_text, objects_text, envelope_text}
use Rattle.taxii_store.specs.Page.{IsPage}
use Rattle.taxii_store.specs.Walk.{Stop, Wanted, GoesFrom, last_date, rows_given}
use Rattle.taxii_exchange.specs.declared.config.Config.{Config}
use Rattle.taxii_exchange.specs.AnswersToRequests.{page_answer}
use Rattle.taxii_service.specs.Reading.{IsPageOf, IsEnvelope}
use Rattle.taxii_service.specs.Exchanges.{Exchange, IsExchange}
use Rattle.taxii_service.specs.Visits.{Asks as AsksOf, answer_at}
use Rattle.taxii_theorems.specs.Runs.{Run, Continue, Round, rounds_of}
use Rattle.taxii_theorems.specs.Following.{AreAmongRounds, GivesNextCursor, EndsPaging, IsFetch, FetchFrom, HasFollowed, ReceivesEachRow}
use Rattle.taxii_client.specs.Environment.{ClientLinkView}
use Rattle.taxii_client.specs.Pulls.{RequestsNext, cursor_of, cursor_after, Page, IsPageAt, ArePagesInTurn, IsPull}
use Rattle.taxii_client.specs.Telling.{told_of, told_of_pages, bad_in, bad_in_pages}
use Rattle.taxii_client.specs.declared.target.Target.{Target}
use Rattle.taxii_client.specs.declared.cursor.Cursor.{Cursor}
use Rattle.taxii_client.specs.declared.cursor.Cursor.TheVariants.{First, Resume, Over}
use Rattle.taxii_theorems.specs.Reading.{stored_lines, IsPageReadAs}
use Rattle.taxii_theorems.specs.Asking.{IsServersOwn, IsVisibleToken, IsAnswered, IsUnderstood, IsInstantOf, wanted_after}
use Rattle.taxii_theorems.specs.Pulling.{IsServed, ServeFrom, AreServed, WritesEachRow}
use Rattle.stix_times.specs.Reading.{IsTextOfInstant}
use Rattle.taxii_theorems.proofs.BytesLemmas.{AreFrom, next_seen}

-- the laws: what a client writes is a fetch, a server's answers are read by the client, and a GET is answered by a page of sound rows
pub record Laws : Type 0 where
  pub understood : (target : Target) (next : Option (List ℕ)) (round : Round) → IsServersOwn target → IsVisibleToken next → IsAnswered target next round
      → IsExchange round.config round.exchange → IsUnderstood target next round
  pub replies : (answer : Answer) (close : Bool) (text later reply body own rest : List ℕ) → answer.status ≡ Okay → answer.body ≡ Some own
      → IsAnswerText answer close text → length text < 2 ^ 64 → IsReply reply body → text ++ later ≡ reply ++ rest → body ≡ own
  pub read_back : (rows : List StoredRow) (more : Bool) (envelope : Envelope) → All IsSoundRow rows → IsEnvelopeOf (envelope_text rows more) envelope
      → IsPageReadAs rows more envelope
  pub sound : (state : StoreState) (collection : ℕ) (only : Option Id) (query : Query) (page : List StoredRow) (more : Bool)
      → IsSoundState state → IsPage state.rows collection only query page more → All IsSoundRow page
  pub paged : (config : Config) (e : Exchange) (collection : ℕ) (only : Option Id) (query : Query) → IsExchange config e → e.answer.status ≡ Okay
      → AsksOf config e.request collection only query → IsPageOf e.before.library.rows collection only query IsEnvelope e.answer
  pub instant : (text : List ℕ) (first second : ℤ) → IsTextOfInstant text first → IsTextOfInstant text second → first ≡ second

-- ---- the rounds of runs are exchanges

abbrev pub Goes : Round → Type 0
Goes round = IsExchange round.config round.exchange

pub all_go : (store after : StoreState) (runs : List Run) → Continue store runs after → All Goes (rounds_of runs)
all_go store after [] proceed = All-nil Goes
all_go store after (run ∷ runs) (its, proceed) =
    All-append Goes (map (λ e. record { config = run.config; exchange = e }) run.exchanges) (rounds_of runs)
    (All-map Goes (λ e. record { config = run.config; exchange = e }) run.exchanges its.served.each)
    (all_go run.after.library after runs proceed)

pub among_all : (P : Round → Type 0) (some rounds : List Round) → AreAmongRounds some rounds → All P rounds → All P some
among_all P [] rounds among all = All-nil P
among_all P (round ∷ some) [] among all = absurd among
among_all P (round ∷ some) (first ∷ rounds) (inl (same, among)) all =
    All-cons P round some (subst P (sym same) (All-head P first rounds all)) (among_all P some rounds among (All-tail P first rounds all))
among_all P (round ∷ some) (first ∷ rounds) (inr among) all = among_all P (round ∷ some) rounds among (All-tail P first rounds all)

-- ---- one page

some_is : {A : Type 0} (a b : A) → Some a ≡ Some b → a ≡ b
some_is a b same = cc

-- what was taken from the link is the beginning of what it gave
taken_from : (taken bytes : List ℕ) (left now : Option (List ℕ)) → left ≡ Some bytes → left ≡ option_map (λ rest. taken ++ rest) now
    → (rest : List ℕ) × (bytes ≡ taken ++ rest)
taken_from taken bytes left None is takes = absurd (cc)
taken_from taken bytes left (Some rest) is takes = (rest, some_is bytes (taken ++ rest) (sym is ∙ takes))

all_seen : (bytes : List ℕ) → AreFrom 33 bytes → All (λ byte. (33 ≤ byte) × (byte < 127)) bytes
all_seen [] are = All-nil (λ byte. (33 ≤ byte) × (byte < 127))
all_seen (b ∷ bytes) (low, high, are) = All-cons (λ byte. (33 ≤ byte) × (byte < 127)) b bytes (low, high) (all_seen bytes are)

module _ (L : Type 0) (view : L → ClientLinkView) (target : Target) (instant : Option ℤ) (timed : IsInstantOf target.since instant) (laws : Laws) where
  abbrev wanted : Wanted
  wanted = wanted_after target instant

  -- a time is of one instant
  one_time : (since : Option (List ℕ)) (first second : Option ℤ) → IsInstantOf since first → IsInstantOf since second → first ≡ second
  one_time None first second none other = none ∙ sym other
  one_time (Some time) None second is other = absurd is
  one_time (Some time) (Some first) None is other = absurd other
  one_time (Some time) (Some first) (Some second) is other = ap (λ (its : ℤ). Some its) (laws.instant time first second is other)

  fetch_of : (next : Option (List ℕ)) (round : Round) → IsUnderstood target next round → IsFetch wanted next round
  fetch_of next round understood =
      subst (λ (its : Option ℤ). IsFetch (wanted_after target its) next round) (one_time target.since understood.instant instant understood.time timed) understood.fetch

  -- the envelope of a page that is the answer of a round with these rows
  page_read : (cursor : Cursor) (next : Option (List ℕ)) (page : Page L) (round : Round) (rows : List StoredRow) (more : Bool) → IsPageAt view target cursor page
      → IsServed view target next page round → All IsSoundRow rows → round.exchange.answer ≡ page_answer rows (envelope_text rows more)
      → IsPageReadAs rows more page.envelope
  page_read cursor next page round rows more at served sound answer_is =
      let reads = at.fetched.reads in
      let rest = taken_from reads.taken (served.text ++ served.later) (view page.link.given).left (view page.link.finished).left served.bytes reads.takes in
      let body : reads.answers.body ≡ envelope_text rows more =
      laws.replies round.exchange.answer served.close served.text served.later reads.taken reads.answers.body (envelope_text rows more) rest.0
      served.answered.okay (ap (λ (a : Answer). a.body) answer_is) served.text_is served.size reads.answers.is_reply rest.1 in
      laws.read_back rows more page.envelope sound (subst (λ (text : List ℕ). IsEnvelopeOf text page.envelope) body reads.answers.is_envelope)

  -- what a round that was fetched answered
  record Answered (page : Page L) (round : Round) : Type 0 where
    rows : List StoredRow
    more : Bool
    answer_is : round.exchange.answer ≡ page_answer rows (envelope_text rows more)
    read : IsPageReadAs rows more page.envelope

  answered : (cursor : Cursor) (next : Option (List ℕ)) (page : Page L) (round : Round) → IsPageAt view target cursor page → IsServed view target next page round
      → IsFetch wanted next round → Goes round → IsSoundState round.exchange.before.library → Answered page round
  answered cursor next page round at served fetch goes sound =
      let paged = laws.paged round.config round.exchange wanted.collection wanted.only fetch.query goes fetch.okay fetch.asks in
      let is : round.exchange.answer ≡ page_answer paged.page (envelope_text paged.page paged.more) = paged.answer_is ∙ ap (page_answer paged.page) paged.body_is in
      record {
        rows = paged.page;
        more = paged.more;
        answer_is = is;
        read = page_read cursor next page round paged.page paged.more at served
            (laws.sound round.exchange.before.library wanted.collection wanted.only fetch.query paged.page paged.more sound paged.page_is) is;
      }

  -- ---- what the server told is what the client asks for next

  cursor_is : (rows : List StoredRow) (more : Bool) (envelope : Envelope) (next : Option ℕ) → IsPageReadAs rows more envelope → next_of rows more ≡ next
      → cursor_after envelope ≡ cursor_of (is_some next) (option_map next_text next)
  cursor_is rows more envelope next read is =
      ap (λ (flag : Bool). cursor_of flag envelope.next) (read.more_is ∙ ap is_some is)
      ∙ ap (cursor_of (is_some next)) (read.next_is ∙ ap (option_map next_text) is)

  abbrev tail_of : List StoredRow → List ℕ
  tail_of rows = objects_text (map (λ row. row.body) rows) ++ codes "}"

  sixteen : (date : ℕ) → length (next_text date) ≡ 16
  unfolding encode_with
  sixteen date = refl

  told_on : (page : Page L) (round : Round) (its : Answered page round) (date : ℕ) → next_of its.rows its.more ≡ Some date → GivesNextCursor round.exchange.answer (next_text date)
  told_on page round its date is = (
    sixteen date,
    codes "\"" ++ tail_of its.rows,
    ap (λ (a : Answer). a.body) its.answer_is
        ∙ ap (λ (next : Option ℕ). Some (head_text next ++ tail_of its.rows)) is
        ∙ ap (λ (text : List ℕ). Some (codes "{\"more\":true,\"next\":\"" ++ text)) (append_assoc (next_text date) (codes "\"") (tail_of its.rows)),
  )

  told_last : (page : Page L) (round : Round) (its : Answered page round) → next_of its.rows its.more ≡ None → EndsPaging round.exchange.answer
  told_last page round its is = (
    tail_of its.rows,
    ap (λ (a : Answer). a.body) its.answer_is ∙ ap (λ (next : Option ℕ). Some (head_text next ++ tail_of its.rows)) is,
  )

  -- nothing was asked for after the last page, and so none was told
  ends : (page : Page L) (round : Round) (its : Answered page round) → cursor_after page.envelope ≡ Over → EndsPaging round.exchange.answer
  ends page round its over = by_next (next_of its.rows its.more) refl
    where
      by_next : (next : Option ℕ) → next_of its.rows its.more ≡ next → EndsPaging round.exchange.answer
      by_next None is = told_last page round its is
      by_next (Some date) is = let clash : Resume (next_text date) ≡ Over = sym (cursor_is its.rows its.more page.envelope (Some date) its.read is) ∙ over in absurd (cc)

  -- what was asked for after a page is what it told
  continues : (page : Page L) (round : Round) (its : Answered page round) (asked : Option (List ℕ)) → RequestsNext (cursor_after page.envelope) asked
      → (told : List ℕ) × GivesNextCursor round.exchange.answer told × (asked ≡ Some told) × IsVisibleToken (Some told)
  continues page round its asked asks = by_next (next_of its.rows its.more) refl
    where
      by_next : (next : Option ℕ) → next_of its.rows its.more ≡ next → (told : List ℕ) × GivesNextCursor round.exchange.answer told × (asked ≡ Some told) × IsVisibleToken (Some told)
      by_next None is = absurd (subst (λ (cursor : Cursor). RequestsNext cursor asked) (cursor_is its.rows its.more page.envelope None its.read is) asks)
      by_next (Some date) is = (
        next_text date,
        told_on page round its date is,
        subst (λ (cursor : Cursor). RequestsNext cursor asked) (cursor_is its.rows its.more page.envelope (Some date) its.read is) asks,
        all_seen (next_text date) (next_seen date),
      )

  pub fetches : (cursor : Cursor) (page : Page L) (pages : List (Page L)) (round : Round) (rounds : List Round) → IsServersOwn target
      → ArePagesInTurn view target cursor (page ∷ pages) Over → (serve : ServeFrom view target cursor (page ∷ pages) (round ∷ rounds)) → IsVisibleToken serve.0
      → All Goes (round ∷ rounds) → All (λ r. IsSoundState r.exchange.before.library) (round ∷ rounds) → FetchFrom wanted serve.0 round rounds
  fetches cursor page [] round [] own (at, over) (next, asks, served, rest) told goes sound =
      let own_goes : Goes round = All-head Goes round [] goes in
      let fetch = fetch_of next round (laws.understood target next round own told served.answered own_goes) in
      let its = answered cursor next page round at served fetch own_goes (All-head (λ r. IsSoundState r.exchange.before.library) round [] sound) in
      (fetch, ends page round its (sym over))
  fetches cursor page [] round (other ∷ rounds) own turns (next, asks, served, rest) told goes sound = absurd rest
  fetches cursor page (second ∷ pages) round [] own turns (next, asks, served, rest) told goes sound = absurd rest
  fetches cursor page (second ∷ pages) round (other ∷ rounds) own (at, turns) (next, asks, served, rest) told goes sound =
      let own_goes : Goes round = All-head Goes round (other ∷ rounds) goes in
      let fetch = fetch_of next round (laws.understood target next round own told served.answered own_goes) in
      let its = answered cursor next page round at served fetch own_goes (All-head (λ r. IsSoundState r.exchange.before.library) round (other ∷ rounds) sound) in
      let on = continues page round its rest.0 rest.1 in
      let later : FetchFrom wanted rest.0 other rounds = fetches (cursor_after page.envelope) second pages other rounds own turns rest (subst IsVisibleToken (sym on.2) on.3)
      (All-tail Goes round (other ∷ rounds) goes) (All-tail (λ r. IsSoundState r.exchange.before.library) round (other ∷ rounds) sound) in
      (fetch, on.0, on.1, subst (λ (asked : Option (List ℕ)). FetchFrom wanted asked other rounds) on.2 later)

  -- ---- the pages are read as those of the walk

  abbrev AllRead : List (Page L) → Stop → List Stop → Type 0
  AllRead [] stop stops = ⊥
  AllRead (page ∷ pages) stop [] = IsPageReadAs stop.page stop.more page.envelope × (pages ≡ [])
  AllRead (page ∷ pages) stop (other ∷ stops) = IsPageReadAs stop.page stop.more page.envelope × AllRead pages other stops

  heads : {A : Type 0} (x y : A) (xs ys : List A) → x ∷ xs ≡ y ∷ ys → x ≡ y
  heads x y xs ys same = cc

  tails : {A : Type 0} (x y : A) (xs ys : List A) → x ∷ xs ≡ y ∷ ys → xs ≡ ys
  tails x y xs ys same = cc

  pub all_read : (date : Option ℕ) (cursor : Cursor) (pages : List (Page L)) (rounds : List Round) (stop : Stop) (stops : List Stop) → GoesFrom wanted date stop stops
      → map (λ r. r.exchange.answer) rounds ≡ map answer_at (stop ∷ stops) → map (λ r. r.exchange.before.library) rounds ≡ map (λ s. s.state) (stop ∷ stops)
      → All (λ r. IsSoundState r.exchange.before.library) rounds → ArePagesInTurn view target cursor pages Over → ServeFrom view target cursor pages rounds → AllRead pages stop stops
  all_read date cursor [] [] stop stops walk answers states sound turns serve = absurd (cc)
  all_read date cursor [] (round ∷ rounds) stop stops walk answers states sound turns serve = absurd serve
  all_read date cursor (page ∷ pages) [] stop stops walk answers states sound turns serve = absurd serve
  all_read date cursor (page ∷ pages) (round ∷ rounds) stop [] (walk, last) answers states sound (at, turns) (next, asks, served, rest) =
      let answer = heads round.exchange.answer (answer_at stop) (map (λ r. r.exchange.answer) rounds) [] answers in
      let state = heads round.exchange.before.library stop.state (map (λ r. r.exchange.before.library) rounds) [] states in
      let fine : IsSoundState stop.state = subst IsSoundState state (All-head (λ r. IsSoundState r.exchange.before.library) round rounds sound) in (
        page_read cursor next page round stop.page stop.more at served
            (laws.sound stop.state wanted.collection wanted.only stop.query stop.page stop.more fine walk.page) answer,
        none_left pages rounds (tails round.exchange.answer (answer_at stop) (map (λ r. r.exchange.answer) rounds) [] answers) rest,
      )
    where
      none_left : (pages : List (Page L)) (rounds : List Round) → map (λ (r : Round). r.exchange.answer) rounds ≡ [] → ServeFrom view target (cursor_after page.envelope) pages rounds → pages ≡ []
      none_left [] rounds none serve = refl
      none_left (p ∷ pages) [] none serve = absurd serve
      none_left (p ∷ pages) (r ∷ rounds) none serve = absurd (cc)
  all_read date cursor (page ∷ pages) (round ∷ rounds) stop (other ∷ stops) (walk, more, history, goes) answers states sound (at, turns) (next, asks, served, rest) =
      let answer = heads round.exchange.answer (answer_at stop) (map (λ r. r.exchange.answer) rounds) (map answer_at (other ∷ stops)) answers in
      let state = heads round.exchange.before.library stop.state (map (λ r. r.exchange.before.library) rounds) (map (λ s. s.state) (other ∷ stops)) states in
      let fine : IsSoundState stop.state = subst IsSoundState state (All-head (λ r. IsSoundState r.exchange.before.library) round rounds sound) in (
        page_read cursor next page round stop.page stop.more at served
            (laws.sound stop.state wanted.collection wanted.only stop.query stop.page stop.more fine walk.page) answer,
        all_read (last_date stop.page) (cursor_after page.envelope) pages rounds other stops goes
            (tails round.exchange.answer (answer_at stop) (map (λ r. r.exchange.answer) rounds) (map answer_at (other ∷ stops)) answers)
            (tails round.exchange.before.library stop.state (map (λ r. r.exchange.before.library) rounds) (map (λ s. s.state) (other ∷ stops)) states)
            (All-tail (λ r. IsSoundState r.exchange.before.library) round rounds sound) turns rest,
      )

  pub all_lines : (pages : List (Page L)) (stop : Stop) (stops : List Stop) → AllRead pages stop stops → told_of_pages pages ≡ stored_lines (rows_given stop stops)
  all_lines [] stop stops read = absurd read
  all_lines (page ∷ pages) stop [] (read, none) =
      ap (λ (more : List (Page L)). told_of page.envelope.entries ++ told_of_pages more) none ∙ append-nil (told_of page.envelope.entries) ∙ read.lines
  all_lines (page ∷ pages) stop (other ∷ stops) (read, rest) =
      ap (λ (own : List ℕ). own ++ told_of_pages pages) read.lines
      ∙ ap (λ (more : List ℕ). stored_lines stop.page ++ more) (all_lines pages other stops rest)
      ∙ sym (flat_map-append (λ row. row.body ++ codes "\n") stop.page (rows_given other stops))

  bad_from : (most : ℕ) (pages : List (Page L)) (stop : Stop) (stops : List Stop) → AllRead pages stop stops → fold (λ a p. a + bad_in p.envelope.entries) most pages ≡ most
  bad_from most [] stop stops read = absurd read
  bad_from most (page ∷ pages) stop [] (read, none) =
      ap (fold (λ a p. a + bad_in p.envelope.entries) (most + bad_in page.envelope.entries)) none ∙ omega (arith, read.none_bad)
  bad_from most (page ∷ pages) stop (other ∷ stops) (read, rest) =
      bad_from (most + bad_in page.envelope.entries) pages other stops rest ∙ omega (arith, read.none_bad)

  pub all_good : (pages : List (Page L)) (stop : Stop) (stops : List Stop) → AllRead pages stop stops → bad_in_pages pages ≡ 0
  all_good pages stop stops read = bad_from 0 pages stop stops read

  -- ---- the whole

  pub whole_pull : (pages : List (Page L)) (all rounds : List Round) → ((first : Round) (others : List Round) → HasFollowed wanted all first others → ReceivesEachRow wanted (first ∷ others))
      → All Goes all → IsPull view target pages Over → AreServed view target pages all rounds → WritesEachRow wanted pages rounds
  whole_pull [] all rounds hear go pull served = absurd (cc)
  whole_pull (page ∷ pages) all [] hear go pull served = absurd served.serve
  whole_pull (page ∷ pages) all (first ∷ others) hear go pull served =
      let goes = among_all Goes (first ∷ others) all served.among go in
      let fetched : FetchFrom wanted None first others = subst (λ (next : Option (List ℕ)). FetchFrom wanted next first others) served.serve.1
      (fetches First page pages first others served.own pull served.serve (subst IsVisibleToken (sym served.serve.1) tt) goes served.sound) in
      let hears = hear first others (record { among = served.among; start = refl; fetches = fetched }) in
      let read = all_read None First (page ∷ pages) (first ∷ others) hears.first hears.others hears.walk.goes hears.answers hears.states served.sound pull served.serve in
      record {
        first = hears.first;
        others = hears.others;
        states = hears.states;
        lines = all_lines (page ∷ pages) hears.first hears.others read;
        none_bad = all_good (page ∷ pages) hears.first hears.others read;
        once = hears.once;
        asked = hears.asked;
        whole = hears.whole;
      }
