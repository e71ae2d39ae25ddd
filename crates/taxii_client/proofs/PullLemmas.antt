-- Pages in turn, and the links that they came over.
use Rattle.std.proofs.Common.{◌≡◌, inl, ℕ, zero, suc, ◌+◌, ◌<◌, Bool, true, false, List, [], ◌∷◌, ◌++◌, Option, Some, None, Result, Ok, Err, IsErrAnd, refl, sym, ap, subst, ◌∙◌, arith}
use Rattle.std.specs.Prelude.{All}
use Rattle.flow_links.specs.Dials.{DialState, Connects, FinishesDialedLink}
use Rattle.stix_json.specs.declared.envelope.Envelope.{Envelope}
use Rattle.taxii_client.specs.declared.target.Target.{Target}
use Rattle.taxii_client.specs.declared.cursor.Cursor.{Cursor}
use Rattle.taxii_client.specs.declared.fetch_end.FetchEnd.{FetchEnd}
use Rattle.taxii_client.specs.declared.fetch_end.FetchEnd.TheVariants as Fetch
use Rattle.taxii_client.specs.ReplyRefusals.{for_fetch}
use Rattle.taxii_client.specs.Fetches.{Fetched}
use Rattle.taxii_client.specs.Environment.{ClientLinkView, DialView}
use Rattle.taxii_client.specs.Pulls.{RequestsNext, cursor_of, cursor_after, Lent, PassThroughDial, Page, IsPageAt, ArePagesInTurn, IsPull, PullState, Dials, AsksFor, GivesPage, Answers}
use Rattle.taxii_client.specs.declared.page_end.PageEnd.{PageEnd}
use Rattle.taxii_client.specs.declared.pull.TheConstants.{MAX_PAGES}
use Rattle.stix_json.specs.declared.entry.Entry.{Entry}
use Rattle.taxii_client.proofs.FetchLemmas.{passed_on}

one_more_page : {L : Type 0} (view : L → ClientLinkView) (target : Target) (start cursor : Cursor) (pages : List (Page L)) (page : Page L)
    → ArePagesInTurn view target start pages cursor → IsPageAt view target cursor page → ArePagesInTurn view target start (pages ++ page ∷ []) (cursor_after page.envelope)
one_more_page view target start cursor [] page same is = (subst (λ (t : Cursor). IsPageAt view target t page) same is, refl)
one_more_page view target start cursor (first ∷ pages) page turns is = (turns.0, one_more_page view target (cursor_after first.envelope) cursor pages page turns.1 is)

pub pull_continues : {L : Type 0} (view : L → ClientLinkView) (target : Target) (pages : List (Page L)) (cursor : Cursor) (page : Page L)
    → IsPull view target pages cursor → IsPageAt view target cursor page → IsPull view target (pages ++ page ∷ []) (cursor_after page.envelope)
pull_continues view target pages cursor page = one_more_page view target _ cursor pages page

-- where something is asked for after a page, it said that there is more
has_more : (more : Bool) (next asked : Option (List ℕ)) → RequestsNext (cursor_of more next) asked → more ≡ true
has_more true next asked asks = refl
has_more false next asked asks = absurd asks

more_before : {L : Type 0} (view : L → ClientLinkView) (target : Target) (start cursor : Cursor) (pages : List (Page L)) (last : Page L)
    → ArePagesInTurn view target start (pages ++ last ∷ []) cursor → All (λ page. page.envelope.more ≡ true) pages
more_before view target start cursor [] last turns k d below = absurd (omega (arith, below))
more_before view target start cursor (page ∷ []) last turns zero d below = has_more page.envelope.more page.envelope.next turns.1.0.next turns.1.0.asks
more_before view target start cursor (page ∷ []) last turns (suc k) d below = absurd (omega (arith, below))
more_before view target start cursor (page ∷ second ∷ pages) last turns zero d below = has_more page.envelope.more page.envelope.next turns.1.0.next turns.1.0.asks
more_before view target start cursor (page ∷ second ∷ pages) last turns (suc k) d below =
    more_before view target (cursor_after page.envelope) cursor (second ∷ pages) last turns.1 k d (omega (arith, below))

pub all_have_more : {L : Type 0} (view : L → ClientLinkView) (target : Target) (pages : List (Page L)) (last : Page L) (cursor : Cursor)
    → IsPull view target (pages ++ last ∷ []) cursor → All (λ page. page.envelope.more ≡ true) pages
all_have_more view target pages last cursor = more_before view target _ cursor pages last

-- ---- one call

none_some : {A : Type 0} (a b : A) → Some a ≡ Some b → a ≡ b
none_some a b is = cc

-- a link that was dialled for and handed back
told_one : {L : Type 0} (target : Target) (link : Lent L) (state given now : DialState L)
    → Connects link.given target.host target.port (Some state) (Some given) → FinishesDialedLink link.finished (Some given) (Some now) → PassThroughDial target (link ∷ []) (Some state) (Some now)
told_one {L} target link state given now gives back =
    let is_given : given ≡ gives.0 = none_some _ _ gives.1 in
    let a = gives.2 in
    let b = back.2 in (
      back.0,
      back.1,
      (
        a.0 ∙ ap (λ others. link.given ∷ others) (sym (b.1 ∙ ap (λ (s : DialState L). s.coming) is_given)),
        b.0 ∙ ap (λ front. front ++ (link.finished ∷ [])) (ap (λ (s : DialState L). s.finished) is_given ∙ a.1),
        b.2 ∙ ap (λ (s : DialState L). s.dials) is_given ∙ a.2,
        omega (arith, a.3, b.3, ap (λ (s : DialState L). s.given) is_given),
      ),
    )

pub passes_one : {L : Type 0} (target : Target) (link : Lent L) (before given now : Option (DialState L))
    → Connects link.given target.host target.port before given → FinishesDialedLink link.finished given now → PassThroughDial target (link ∷ []) before now
passes_one target link None given now gives back = subst (λ g. FinishesDialedLink link.finished g now) gives back
passes_one target link (Some state) given now gives back =
    let back_some = subst (λ g. FinishesDialedLink link.finished g now) gives.1 back in
    subst (λ n. PassThroughDial target (link ∷ []) (Some state) n) (sym back_some.1)
    (told_one target link state gives.0 back_some.0
    (subst (λ g. Connects link.given target.host target.port (Some state) g) gives.1 gives)
    (subst (λ n. FinishesDialedLink link.finished (Some gives.0) n) back_some.1 back_some))

pub fetched_over : {L : Type 0} (view : L → ClientLinkView) (target : Target) (next : Option (List ℕ)) (link : Lent L) (host : List ℕ) (answer : Result Envelope FetchEnd)
    (before middle now : Option (DialState L)) (faults faults_middle faults_now : ℕ)
    → Connects link.given host target.port before middle → host ≡ target.host → faults_middle ≡ faults → Fetched target next (view link.given) (view link.finished) answer
    → FinishesDialedLink link.finished middle now → faults_now ≡ faults_middle
    → Dials view target next (record { observable = before; faults = faults }) (record { observable = now; faults = faults_now }) answer
fetched_over view target next link host answer before middle now faults faults_middle faults_now gives same quiet fetched back quiet_now = inl (record {
  link = link;
  fetched = fetched;
  through = passes_one target link before middle now (subst (λ (h : List ℕ). Connects link.given h target.port before middle) same gives) back;
  quiet = quiet_now ∙ quiet;
})

-- why a page didn't come
lost : {L : Type 0} (view : L → ClientLinkView) (before : PullState) (dial now : DialView L) (end : FetchEnd)
    → AsksFor view before dial now (Err end) → Answers view before before dial now (Err (for_fetch end))
lost view before dial now Fetch.Fault asks = (asks, refl)
lost view before dial now Fetch.Cut asks = (asks, refl)
lost view before dial now (Fetch.Refused refusal) asks = (asks, refl)
lost view before dial now Fetch.NoMemory asks = (asks, refl)

abbrev state : Target → Cursor → ℕ → PullState
state target cursor pages = record { target = target; cursor = cursor; pages = pages }

pub lost_page : {L : Type 0} (view : L → ClientLinkView) (before : PullState) (target : Target) (cursor : Cursor) (pages : ℕ) (next : Option (List ℕ)) (dial now : DialView L) (end : FetchEnd) (answer : Result (Option (List Entry)) PageEnd)
    → state target cursor pages ≡ before → IsErrAnd answer (λ e. e ≡ for_fetch end) → pages < MAX_PAGES → RequestsNext cursor next → Dials view target next dial now (Err end) → Answers view before before dial now answer
lost_page view before target cursor pages next dial now end answer is failed few asks dials =
    passed_on (Answers view before before dial now) answer (for_fetch end) failed
    (subst (λ (s : PullState). Answers view s s dial now (Err (for_fetch end))) is
    (lost view (state target cursor pages) dial now end (record { few = few; next = next; asks = asks; dials = dials })))

pub page_came : {L : Type 0} (view : L → ClientLinkView) (before : PullState) (target : Target) (cursor after : Cursor) (pages : ℕ) (next : Option (List ℕ)) (dial now : DialView L) (envelope : Envelope)
    → state target cursor pages ≡ before → pages < MAX_PAGES → RequestsNext cursor next → Dials view target next dial now (Ok envelope) → after ≡ cursor_after envelope
    → GivesPage view before (state target after (pages + 1)) dial now envelope.entries
page_came view before target cursor after pages next dial now envelope is few asks dials turns =
    subst (λ (s : PullState). GivesPage view s (state target after (pages + 1)) dial now envelope.entries) is (record {
      envelope = envelope;
      asks = record { few = few; next = next; asks = asks; dials = dials };
      entries_are = refl;
      after_is = ap (λ (t : Cursor). state target t (pages + 1)) turns;
    })
