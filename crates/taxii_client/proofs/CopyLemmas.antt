-- A copy so far, what one more attempt makes of it, and where it stops.
use Rattle.std.proofs.Common.{◌≡◌, ◌≢◌, ◌⊎◌, inl, inr, ℕ, ◌+◌, ◌-◌, ◌≤◌, ◌<◌, true, List, [], ◌∷◌, ◌++◌, length, map, Option, None, Some, Result, Ok, Err, All, IfSome, refl, sym, ap, subst, ◌∙◌, arith}
use Rattle.std.proofs.lemmas.List.{append-nil, map-append, length-append}
use Rattle.std.proofs.lemmas.List.Elements.{All-push, All-cons, All-nil}
use Rattle.flow_edges.specs.Faults.{HasIncreased}
use Rattle.flow_links.specs.Dials.{DialState}
use Rattle.flow_links.specs.Moments.{IsNext, Continues as ClockContinues}
use Rattle.serde_json.specs.Data.{Data, Items, no_items, item}
use Rattle.stix_json.specs.declared.entry.Entry.{Entry}
use Rattle.stix_json.specs.declared.entry.Entry.TheVariants.{Good, Bad}
use Rattle.stix_json.specs.Entries.{AreEntriesFor}
use Rattle.stix_json.specs.Ordered.{IsOrdered}
use Rattle.stix_json.specs.Reading.{IsEntryFor}
use Rattle.stix_json.specs.Refusal.{data_refusal}
use Rattle.stix_json.specs.declared.envelope.Envelope.{Envelope}
use Rattle.taxii_rows.specs.Keeper.{Kept}
use Rattle.taxii_rows.specs.StoreState.{StoreState}
use Rattle.taxii_store.specs.Agreement.{Agrees}
use Rattle.taxii_client.specs.Environment.{ClientLinkView, DialView}
use Rattle.taxii_client.specs.Pulls.{PullState, Lent, Page, PassThroughDial, RequestsNext, cursor_after, AsksFor, GivesPage, Dials, Answers}
use Rattle.taxii_client.specs.declared.fetch_end.FetchEnd.{FetchEnd}
use Rattle.taxii_client.specs.declared.fetch_end.FetchEnd.TheVariants as Fetch
use Rattle.taxii_client.specs.declared.page_end.PageEnd.{PageEnd}
use Rattle.taxii_client.specs.declared.page_end.PageEnd.TheVariants as End
use Rattle.taxii_client.specs.declared.pull.TheConstants.{MAX_PAGES}
use Rattle.taxii_client.specs.declared.target.Target.{Target}
use Rattle.taxii_client.specs.declared.cursor.Cursor.{Cursor}
use Rattle.taxii_client.specs.declared.cursor.Cursor.TheVariants.{First, Resume, Over}
use Rattle.taxii_client.specs.Absorbing.{Absorbed, Absorbs, MirrorState, IsReadable}
use Rattle.taxii_client.specs.Mirrored.{Mirrored}
use Rattle.taxii_client.specs.declared.store_refusal.StoreRefusal.{StoreRefusal}
use Rattle.taxii_client.specs.declared.tally.Tally.{Tally}
use Rattle.taxii_client.specs.declared.stop.FetchStop.{FetchStop}
use Rattle.taxii_client.specs.declared.stop.FetchStop.TheVariants as Stop
use Rattle.taxii_client.specs.declared.totals.Totals.{Totals}
use Rattle.taxii_client.specs.Copying.{Copying}
use Rattle.taxii_client.specs.Attempts.{Attempt, IsAttemptAt, AreAttemptsInTurn, cursor_after_attempt, is_lost, losses, undialled, links_of, pages_of, entries_of, AllowsNextAttempt, CountsDials}
use Rattle.taxii_client.specs.Filling.{CopyEnvironment, GivesEachMoment, Fills}
use Rattle.taxii_client.specs.Totals.{totals_of, with_tally}
use Rattle.taxii_client.specs.Endings.{Stops, StopsBehind, StopsLost, StopsAt, StopsShort, ExplainsStop, EndsFetching}
use Rattle.taxii_client.specs.inner.Opening.{stop_of, Opens}
use Rattle.taxii_client.proofs.AttemptLemmas.{over, without, links_more, links_same, pages_more, pages_same, entries_more, turns_more, losses_lost, losses_came, counts_none, counts_over, counts_without, sum_more}

-- ---- moments

pub moments_more : (before now after : ℕ → Option ℕ) (moments : List ℕ) (moment : ℕ) → GivesEachMoment before moments now → IsNext now moment → ClockContinues now after
    → GivesEachMoment before (moments ++ moment ∷ []) after
moments_more before now after [] moment same next goes = (
  after,
  subst (λ (o : Option ℕ). IfSome o (λ observable. moment ≡ observable)) (same 0) next,
  λ n. goes n ∙ same (n + 1),
  λ n. refl,
)
moments_more before now after (first ∷ moments) moment (middle, is, goes, rest) next on = (middle, is, goes, moments_more middle now after moments moment rest next on)

-- ---- the copy so far

-- attempts were made that another may follow, the pages that came were absorbed, and the walk and the mirror stand after them
pub record CopiesSoFar {L : Type 0} (view : L → ClientLinkView) (asked : Copying) (before now : CopyEnvironment L) (pull : PullState) (mirror : MirrorState) (lost : ℕ) (totals : Totals) : Type 0 where
  pub stops : Stops view asked before now [] []
  pub target_is : pull.target ≡ asked.target
  pub cursor_is : pull.cursor ≡ stops.cursor
  pub pages_is : pull.pages ≡ length (pages_of stops.attempts)
  pub lost_is : lost ≡ losses stops.attempts
  pub few : lost < asked.tries
  pub collection_is : mirror.collection ≡ asked.target.collection
  pub store_is : mirror.store ≡ stops.fills.last
  pub agrees : Agrees now.kept mirror.store
  pub totals_is : totals ≡ totals_of stops.absorbed

-- an attempt as it was made: its link, what the dial told, and what came
pub record Made {L : Type 0} (view : L → ClientLinkView) (target : Target) (cursor : Cursor) (dial now : DialView L) (end : Result Envelope FetchEnd) : Type 0 where
  pub attempt : Attempt L
  pub answer_is : attempt.answer ≡ end
  pub at : IsAttemptAt view target cursor attempt
  pub link_or_none : ((link : Lent L) × (attempt ≡ over link end) × PassThroughDial target (link ∷ []) dial.observable now.observable × (now.faults ≡ dial.faults))
      ⊎ ((attempt ≡ without) × (now.observable ≡ dial.observable) × HasIncreased dial.faults now.faults)

pub made_by : {L : Type 0} (view : L → ClientLinkView) (pull : PullState) (dial now : DialView L) (answer : Result Envelope FetchEnd)
    → AsksFor view pull dial now answer → Made view pull.target pull.cursor dial now answer
made_by view pull dial now answer asks = go asks.dials
  where
    go : Dials view pull.target asks.next dial now answer → Made view pull.target pull.cursor dial now answer
    go (inl fetches) = record {
      attempt = over fetches.link answer;
      answer_is = refl;
      at = record { next = asks.next; asks = asks.asks; fetched = fetches.fetched };
      link_or_none = inl (fetches.link, refl, fetches.through, fetches.quiet);
    }
    go (inr fails) = record {
      attempt = without;
      answer_is = sym fails.fault;
      at = record { next = asks.next; asks = asks.asks; fetched = refl };
      link_or_none = inr (refl, fails.same, fails.rose);
    }

module _ {L : Type 0} (view : L → ClientLinkView) (asked : Copying)
    (joins : (t : Target) (links more : List (Lent L)) (first middle last : Option (DialState L))
    → PassThroughDial t links first middle → PassThroughDial t more middle last → PassThroughDial t (links ++ more) first last) where
  -- the links after one more attempt
  through_more : (attempts : List (Attempt L)) (cursor : Cursor) (first : Option (DialState L)) (dial now : DialView L) (end : Result Envelope FetchEnd) (made : Made view asked.target cursor dial now end)
      → PassThroughDial asked.target (links_of attempts) first dial.observable → PassThroughDial asked.target (links_of (attempts ++ made.attempt ∷ [])) first now.observable
  through_more attempts cursor first dial now end made through = elim made.link_or_none [
    | inl its ↦ subst (λ (a : Attempt L). PassThroughDial asked.target (links_of (attempts ++ a ∷ [])) first now.observable) (sym its.1)
        (subst (λ (links : List (Lent L)). PassThroughDial asked.target links first now.observable) (sym (links_more attempts its.0 end))
        (joins asked.target (links_of attempts) (its.0 ∷ []) first dial.observable now.observable through its.2))
    | inr none ↦ subst (λ (a : Attempt L). PassThroughDial asked.target (links_of (attempts ++ a ∷ [])) first now.observable) (sym none.0)
        (subst (λ (links : List (Lent L)). PassThroughDial asked.target links first now.observable) (sym (links_same attempts))
        (subst (λ (d : Option (DialState L)). PassThroughDial asked.target (links_of attempts) first d) (sym none.1) through))
  ]

  counts_more : (attempts : List (Attempt L)) (cursor : Cursor) (first : ℕ) (dial now : DialView L) (end : Result Envelope FetchEnd) (made : Made view asked.target cursor dial now end)
      → CountsDials (undialled attempts) first dial.faults → CountsDials (undialled (attempts ++ made.attempt ∷ [])) first now.faults
  counts_more attempts cursor first dial now end made counts = elim made.link_or_none [
    | inl its ↦ subst (λ (a : Attempt L). CountsDials (undialled (attempts ++ a ∷ [])) first now.faults) (sym its.1)
        (counts_over attempts its.0 end first dial.faults now.faults counts its.3)
    | inr none ↦ subst (λ (a : Attempt L). CountsDials (undialled (attempts ++ a ∷ [])) first now.faults) (sym none.0)
        (counts_without attempts first dial.faults now.faults counts none.2)
  ]

  abbrev with_dial : DialView L → CopyEnvironment L → CopyEnvironment L
  with_dial dial now = record { dial = dial; kept = now.kept; moments = now.moments }

  module _ (before now : CopyEnvironment L) (pull : PullState) (mirror : MirrorState) (lost : ℕ) (totals : Totals)
      (so : CopiesSoFar view asked before now pull mirror lost totals) where
    -- the same pages, where a dial went on
    fills_still : (dial : DialView L) (attempts : List (Attempt L)) → pages_of attempts ≡ pages_of so.stops.attempts
        → Fills asked before (with_dial dial now) (entries_of (pages_of attempts)) [] so.stops.absorbed
    fills_still dial attempts same =
        let fills = so.stops.fills in record {
          first = fills.first;
          loaded = fills.loaded;
          sound = fills.sound;
          last = fills.last;
          mirrored = fills.mirrored;
          kept = fills.kept;
          named = fills.named;
          pages_are = ap entries_of same ∙ fills.pages_are;
          late = fills.late;
          late_are = fills.late_are;
          moments = fills.moments;
        }

    through_was : PassThroughDial asked.target (links_of so.stops.attempts) before.dial.observable now.dial.observable
    through_was = subst (λ (those : List (Attempt L)). PassThroughDial asked.target (links_of those) before.dial.observable now.dial.observable) (append-nil so.stops.attempts) so.stops.through

    counts_was : CountsDials (undialled so.stops.attempts) before.dial.faults now.dial.faults
    counts_was = subst (λ (those : List (Attempt L)). CountsDials (undialled those) before.dial.faults now.dial.faults) (append-nil so.stops.attempts) so.stops.counts

    turns_was : AreAttemptsInTurn view asked.target First so.stops.attempts so.stops.cursor
    turns_was = subst (λ (those : List (Attempt L)). AreAttemptsInTurn view asked.target First those so.stops.cursor) (append-nil so.stops.attempts) so.stops.in_turn

    made_here : (dial : DialView L) (answer : Result Envelope FetchEnd) → AsksFor view pull now.dial dial answer → Made view asked.target so.stops.cursor now.dial dial answer
    made_here dial answer asks =
        subst (λ (t : Cursor). Made view asked.target t now.dial dial answer) so.cursor_is
        (subst (λ (t : Target). Made view t pull.cursor now.dial dial answer) so.target_is (made_by view pull now.dial dial answer asks))

    -- one more attempt that was lost
    stops_lost : (dial : DialView L) (end : FetchEnd) (made : Made view asked.target so.stops.cursor now.dial dial (Err end)) → is_lost made.attempt ≡ true
        → Stops view asked before (with_dial dial now) [] []
    stops_lost dial end made lost_it =
        let attempts = so.stops.attempts ++ made.attempt ∷ [] in record {
          attempts = attempts;
          proceed = All-push AllowsNextAttempt so.stops.attempts made.attempt so.stops.proceed (inr lost_it);
          cursor = so.stops.cursor;
          in_turn = subst (λ (those : List (Attempt L)). AreAttemptsInTurn view asked.target First those so.stops.cursor) (sym (append-nil attempts))
              (subst (λ (a : Result Envelope FetchEnd). AreAttemptsInTurn view asked.target First attempts (cursor_after_attempt so.stops.cursor a)) made.answer_is
              (turns_more view asked.target First so.stops.cursor so.stops.attempts made.attempt turns_was made.at));
          through = subst (λ (those : List (Attempt L)). PassThroughDial asked.target (links_of those) before.dial.observable dial.observable) (sym (append-nil attempts))
              (through_more so.stops.attempts so.stops.cursor before.dial.observable now.dial dial (Err end) made through_was);
          counts = subst (λ (those : List (Attempt L)). CountsDials (undialled those) before.dial.faults dial.faults) (sym (append-nil attempts))
              (counts_more so.stops.attempts so.stops.cursor before.dial.faults now.dial dial (Err end) made counts_was);
          absorbed = so.stops.absorbed;
          fills = fills_still dial attempts (pages_same so.stops.attempts made.attempt end made.answer_is);
        }

    -- one more attempt, which ended the run
    stops_at : (dial : DialView L) (end : FetchEnd) (made : Made view asked.target so.stops.cursor now.dial dial (Err end))
        → Stops view asked before (with_dial dial now) (made.attempt ∷ []) []
    stops_at dial end made = record {
      attempts = so.stops.attempts;
      proceed = so.stops.proceed;
      cursor = so.stops.cursor;
      in_turn = subst (λ (a : Result Envelope FetchEnd). AreAttemptsInTurn view asked.target First (so.stops.attempts ++ made.attempt ∷ []) (cursor_after_attempt so.stops.cursor a)) made.answer_is
          (turns_more view asked.target First so.stops.cursor so.stops.attempts made.attempt turns_was made.at);
      through = through_more so.stops.attempts so.stops.cursor before.dial.observable now.dial dial (Err end) made through_was;
      counts = counts_more so.stops.attempts so.stops.cursor before.dial.faults now.dial dial (Err end) made counts_was;
      absorbed = so.stops.absorbed;
      fills = fills_still dial so.stops.attempts refl;
    }

    -- nothing was asked for
    stops_still : (dial : DialView L) → dial ≡ now.dial → Stops view asked before (with_dial dial now) [] []
    stops_still dial same = record {
      attempts = so.stops.attempts;
      proceed = so.stops.proceed;
      cursor = so.stops.cursor;
      in_turn = so.stops.in_turn;
      through = subst (λ (d : DialView L). PassThroughDial asked.target (links_of (so.stops.attempts ++ [])) before.dial.observable d.observable) (sym same) so.stops.through;
      counts = subst (λ (d : DialView L). CountsDials (undialled (so.stops.attempts ++ [])) before.dial.faults d.faults) (sym same) so.stops.counts;
      absorbed = so.stops.absorbed;
      fills = fills_still dial so.stops.attempts refl;
    }

    still_few : losses so.stops.attempts < asked.tries
    still_few = omega (arith, so.few, so.lost_is)

    -- no page was left
    pub copy_done : (after : PullState) (dial : DialView L) → Answers view pull after now.dial dial (Ok None)
        → (copied : StopsBehind view asked before (with_dial dial now)) × (totals ≡ totals_of copied.stops.absorbed)
    unfolding stops_still
    copy_done after dial (is_over, (same, rests)) = (
      record { stops = stops_still dial rests; over = sym so.cursor_is ∙ is_over; few = still_few },
      so.totals_is,
    )

    -- a page was lost
    lost_by : (end : FetchEnd) (dial : DialView L) → AsksFor view pull now.dial dial (Err end) → is_lost (let a : Attempt L = record { link = None; answer = Err end } in a) ≡ true
        → (stops : Stops view asked before (with_dial dial now) [] []) × (losses stops.attempts ≡ lost + 1) × (stops.cursor ≡ pull.cursor)
        × (length (pages_of stops.attempts) ≡ pull.pages) × (totals ≡ totals_of stops.absorbed) × (mirror.store ≡ stops.fills.last) × (stops.cursor ≢ Over)
    unfolding stops_lost fills_still
    lost_by end dial asks loss =
        let made = made_here dial (Err end) asks in
        let lost_it : is_lost made.attempt ≡ true = ap (λ (a : Result Envelope FetchEnd). is_lost (let one : Attempt L = record { link = None; answer = a } in one)) made.answer_is ∙ loss in (
          stops_lost dial end made lost_it,
          losses_lost so.stops.attempts made.attempt lost_it ∙ ap (λ (n : ℕ). n + 1) (sym so.lost_is),
          sym so.cursor_is,
          ap length (pages_same so.stops.attempts made.attempt end made.answer_is) ∙ sym so.pages_is,
          so.totals_is,
          so.store_is,
          λ is_over. asked_over pull.cursor asks.next asks.asks (so.cursor_is ∙ is_over),
        )
      where
        asked_over : (cursor : Cursor) (next : Option (List ℕ)) → RequestsNext cursor next → cursor ≡ Over → ⊥
        asked_over First next asks is = cc is
        asked_over (Resume text) next asks is = cc is
        asked_over Over next asks is = asks

    lost_end : (end : PageEnd) (after : PullState) (dial : DialView L) → Answers view pull after now.dial dial (Err end) → stop_of end ≡ None
        → (stops : Stops view asked before (with_dial dial now) [] []) × (losses stops.attempts ≡ lost + 1) × (stops.cursor ≡ pull.cursor)
        × (length (pages_of stops.attempts) ≡ pull.pages) × (totals ≡ totals_of stops.absorbed) × (mirror.store ≡ stops.fills.last) × (stops.cursor ≢ Over)
    lost_end End.Fault after dial (asks, same) none = lost_by Fetch.Fault dial asks refl
    lost_end End.Cut after dial (asks, same) none = lost_by Fetch.Cut dial asks refl
    lost_end (End.Refused refusal) after dial answers none = absurd (cc none)
    lost_end End.TooManyPages after dial answers none = absurd (cc none)
    lost_end End.NoMemory after dial answers none = absurd (cc none)

    pub same_pull : (end : PageEnd) (after : PullState) (dial : DialView L) → Answers view pull after now.dial dial (Err end) → after ≡ pull
    same_pull End.Fault after dial (asks, same) = same
    same_pull End.Cut after dial (asks, same) = same
    same_pull (End.Refused refusal) after dial (asks, same) = same
    same_pull End.TooManyPages after dial (most, more, (same, rests)) = same
    same_pull End.NoMemory after dial (asks, same) = same

    -- a page was lost, and may be asked for again
    pub copy_again : (end : PageEnd) (after : PullState) (dial : DialView L) → Answers view pull after now.dial dial (Err end) → stop_of end ≡ None → lost + 1 ≢ asked.tries
        → CopiesSoFar view asked before (with_dial dial now) after mirror (lost + 1) totals
    copy_again end after dial answers none fewer =
        let (stops, count, cursor, pages, sums, store, wants) = lost_end end after dial answers none in
        subst (λ (p : PullState). CopiesSoFar view asked before (with_dial dial now) p mirror (lost + 1) totals) (sym (same_pull end after dial answers)) (record {
          stops = stops;
          target_is = so.target_is;
          cursor_is = sym cursor;
          pages_is = sym pages;
          lost_is = sym count;
          few = omega (arith, so.few, fewer);
          collection_is = so.collection_is;
          store_is = store;
          agrees = so.agrees;
          totals_is = sums;
        })

    -- a page was lost, and may not be asked for again
    pub copy_lost : (end : PageEnd) (after : PullState) (dial : DialView L) → Answers view pull after now.dial dial (Err end) → stop_of end ≡ None → lost + 1 ≡ asked.tries
        → StopsLost view asked before (with_dial dial now)
    copy_lost end after dial answers none all =
        let (stops, count, cursor, pages, sums, store, wants) = lost_end end after dial answers none in
        record { stops = stops; wants = wants; all = count ∙ all }

    ends_at : (end : FetchEnd) (dial : DialView L) → AsksFor view pull now.dial dial (Err end) → StopsAt view asked before (with_dial dial now) end
    unfolding stops_at
    ends_at end dial asks =
        let made = made_here dial (Err end) asks in
        record { last = made.attempt; ended = made.answer_is; stops = stops_at dial end made; few = still_few }

    some_stop : (one other : FetchStop) → Some one ≡ Some other → one ≡ other
    some_stop one other is = cc is

    -- no page came, and none is asked for any more
    pub copy_stops : (end : PageEnd) (stop : FetchStop) (after : PullState) (dial : DialView L) → Answers view pull after now.dial dial (Err end) → stop_of end ≡ Some stop
        → EndsFetching view asked before (with_dial dial now) stop
    unfolding stops_still
    copy_stops End.Fault stop after dial answers is = absurd (cc is)
    copy_stops End.Cut stop after dial answers is = absurd (cc is)
    copy_stops (End.Refused refusal) stop after dial (asks, same) is =
        subst (EndsFetching view asked before (with_dial dial now)) (some_stop (Stop.Refused refusal) stop is) (ends_at (Fetch.Refused refusal) dial asks)
    copy_stops End.TooManyPages stop after dial (most, more, (same, rests)) is =
        subst (EndsFetching view asked before (with_dial dial now)) (some_stop Stop.TooManyPages stop is) (record {
          stops = stops_still dial rests;
          full = sym so.pages_is ∙ most;
          wants = λ is_over. more (so.cursor_is ∙ is_over);
          few = still_few;
        })
    copy_stops End.NoMemory stop after dial (asks, same) is =
        subst (EndsFetching view asked before (with_dial dial now)) (some_stop Stop.NoMemory stop is) (ends_at Fetch.NoMemory dial asks)

    -- ---- a page came

    -- the page, the attempt at it, and what its entries are
    pub record Came (after : PullState) (dial : DialView L) (entries : List Entry) : Type 0 where
      pub link : Lent L
      pub envelope : Envelope
      pub at : IsAttemptAt view asked.target so.stops.cursor (over link (Ok envelope))
      pub through : PassThroughDial asked.target (link ∷ []) now.dial.observable dial.observable
      pub quiet : dial.faults ≡ now.dial.faults
      pub entries_are : entries ≡ envelope.entries
      pub after_is : after ≡ record { target = pull.target; cursor = cursor_after envelope; pages = pull.pages + 1 }
      pub few_pages : pull.pages < MAX_PAGES

    pub came_by : (after : PullState) (dial : DialView L) (entries : List Entry) → GivesPage view pull after now.dial dial entries → Came after dial entries
    came_by after dial entries gives =
        let made = made_here dial (Ok gives.envelope) gives.asks in elim made.link_or_none [
          | inl its ↦ record {
            link = its.0;
            envelope = gives.envelope;
            at = subst (λ (a : Attempt L). IsAttemptAt view asked.target so.stops.cursor a) its.1 made.at;
            through = its.2;
            quiet = its.3;
            entries_are = gives.entries_are;
            after_is = gives.after_is;
            few_pages = gives.asks.few;
          }
          | inr none ↦ absurd (let is : made.attempt ≡ without = none.0 in let no = ap (λ (a : Attempt L). a.answer) is in let yes = made.answer_is in cc (no, yes))
        ]

    abbrev then : DialView L → Kept → (ℕ → Option ℕ) → CopyEnvironment L
    then dial kept moments = record { dial = dial; kept = kept; moments = moments }

    -- the attempts with one at which a page came, where the store is filled so
    stops_came : (after : PullState) (dial : DialView L) (entries : List Entry) (came : Came after dial entries) (kept : Kept) (moments : ℕ → Option ℕ)
        (left : List (List Entry)) (absorbed : List Absorbed)
        → Fills asked before (then dial kept moments) (entries_of (pages_of (so.stops.attempts ++ over came.link (Ok came.envelope) ∷ []))) left absorbed
        → Stops view asked before (then dial kept moments) [] left
    stops_came after dial entries came kept moments left absorbed fills =
        let attempts = so.stops.attempts ++ over came.link (Ok came.envelope) ∷ [] in record {
          attempts = attempts;
          proceed = All-push AllowsNextAttempt so.stops.attempts (over came.link (Ok came.envelope)) so.stops.proceed (inl (came.envelope, refl));
          cursor = cursor_after came.envelope;
          in_turn = subst (λ (those : List (Attempt L)). AreAttemptsInTurn view asked.target First those (cursor_after came.envelope)) (sym (append-nil attempts))
              (turns_more view asked.target First so.stops.cursor so.stops.attempts (over came.link (Ok came.envelope)) turns_was came.at);
          through = subst (λ (those : List (Attempt L)). PassThroughDial asked.target (links_of those) before.dial.observable dial.observable) (sym (append-nil attempts))
              (subst (λ (links : List (Lent L)). PassThroughDial asked.target links before.dial.observable dial.observable) (sym (links_more so.stops.attempts came.link (Ok came.envelope)))
              (joins asked.target (links_of so.stops.attempts) (came.link ∷ []) before.dial.observable now.dial.observable dial.observable through_was came.through));
          counts = subst (λ (those : List (Attempt L)). CountsDials (undialled those) before.dial.faults dial.faults) (sym (append-nil attempts))
              (counts_over so.stops.attempts came.link (Ok came.envelope) before.dial.faults now.dial.faults dial.faults counts_was came.quiet);
          absorbed = absorbed;
          fills = fills;
        }

    pages_now : (after : PullState) (dial : DialView L) (entries : List Entry) (came : Came after dial entries)
        → entries_of (pages_of (so.stops.attempts ++ over came.link (Ok came.envelope) ∷ [])) ≡ map (λ (p : Absorbed). p.entries) so.stops.absorbed ++ entries ∷ []
    pages_now after dial entries came =
        entries_more so.stops.attempts came.link came.envelope
        ∙ ap (λ (es : List (List Entry)). es ++ came.envelope.entries ∷ []) (so.stops.fills.pages_are ∙ append-nil (map (λ (p : Absorbed). p.entries) so.stops.absorbed))
        ∙ ap (λ (e : List Entry). map (λ (p : Absorbed). p.entries) so.stops.absorbed ++ e ∷ []) (sym came.entries_are)

    no_late : (late : List ℕ) → length late ≡ length (let none : List (List Entry) = [] in none) → late ≡ []
    no_late [] none = refl
    no_late (one ∷ late) none = absurd (omega (arith, none))

    moments_was : GivesEachMoment before.moments (map (λ (p : Absorbed). p.moment) so.stops.absorbed) now.moments
    moments_was =
        subst (λ (ms : List ℕ). GivesEachMoment before.moments ms now.moments)
        (ap (λ (late : List ℕ). map (λ (p : Absorbed). p.moment) so.stops.absorbed ++ late) (no_late so.stops.fills.late so.stops.fills.late_are) ∙ append-nil (map (λ (p : Absorbed). p.moment) so.stops.absorbed))
        so.stops.fills.moments

    -- the page wasn't absorbed
    pub copy_short : (after : PullState) (dial : DialView L) (entries : List Entry) (kept : Kept) (moments : ℕ → Option ℕ) (moment : ℕ) (refusal : StoreRefusal) (later : MirrorState)
        → GivesPage view pull after now.dial dial entries → IsNext now.moments moment → ClockContinues now.moments moments → later ≡ mirror → Agrees kept later.store
        → kept.name ≡ now.kept.name → ExplainsStop asked refusal entries mirror.store → StopsShort view asked before (then dial kept moments) (ExplainsStop asked refusal)
    unfolding stops_came
    copy_short after dial entries kept moments moment refusal later gives next goes same agrees name why =
        let came = came_by after dial entries gives in
        let few : losses (so.stops.attempts ++ over came.link (Ok came.envelope) ∷ []) < asked.tries =
        omega (arith, still_few, losses_came so.stops.attempts (over came.link (Ok came.envelope)) refl) in
        let fills = so.stops.fills in record {
          entries = entries;
          stops = stops_came after dial entries came kept moments (entries ∷ []) so.stops.absorbed (record {
            first = fills.first;
            loaded = fills.loaded;
            sound = fills.sound;
            last = fills.last;
            mirrored = fills.mirrored;
            kept = subst (λ (s : StoreState). IfSome kept.observable (λ state. state ≡ s)) (ap (λ (m : MirrorState). m.store) same ∙ so.store_is) agrees.told_is;
            named = subst (λ (n : Option (List ℕ)). IfSome before.kept.observable (λ _. n ≡ Some asked.file)) (sym name) fills.named;
            pages_are = pages_now after dial entries came;
            late = moment ∷ [];
            late_are = refl;
            moments = moments_more before.moments now.moments moments (map (λ (p : Absorbed). p.moment) so.stops.absorbed) moment moments_was next goes;
          });
          why = subst (ExplainsStop asked refusal entries) so.store_is why;
          few = few;
        }

    same_totals : (absorbed : List Absorbed) (page : Absorbed) → totals_of (absorbed ++ page ∷ []) ≡ with_tally page.tally (totals_of absorbed)
    same_totals absorbed page =
        let pages : length (absorbed ++ page ∷ []) ≡ length absorbed + 1 = length-append absorbed (page ∷ []) in
        let added = sum_more (λ (p : Absorbed). p.tally.added) absorbed page in
        let present = sum_more (λ (p : Absorbed). p.tally.present) absorbed page in
        let skipped = sum_more (λ (p : Absorbed). p.tally.skipped) absorbed page in
        let is : totals_of (absorbed ++ page ∷ []) ≡ with_tally page.tally (totals_of absorbed) = cc (pages, added, present, skipped) in is

    -- the page was absorbed
    pub copy_more : (continues : (collection : ℕ) (state first last : StoreState) (pages : List Absorbed) (page : Absorbed)
        → Mirrored collection state pages first → Absorbs collection page first last → Mirrored collection state (pages ++ page ∷ []) last)
        (after : PullState) (dial : DialView L) (entries : List Entry) (kept : Kept) (moments : ℕ → Option ℕ) (moment : ℕ) (tally : Tally) (later : MirrorState) (sums : Totals)
        → GivesPage view pull after now.dial dial entries → IsNext now.moments moment → ClockContinues now.moments moments → Agrees kept later.store
        → kept.name ≡ now.kept.name → later.collection ≡ mirror.collection
        → Absorbs mirror.collection (record { entries = entries; moment = moment; tally = tally }) mirror.store later.store → sums ≡ with_tally tally totals
        → CopiesSoFar view asked before (then dial kept moments) after later lost sums
    unfolding stops_came
    copy_more continues after dial entries kept moments moment tally later sums gives next goes agrees name collection absorbs total =
        let came = came_by after dial entries gives in
        let page_here : Page L = record { link = came.link; envelope = came.envelope } in
        let pages : pull.pages + 1 ≡ length (pages_of (so.stops.attempts ++ over came.link (Ok came.envelope) ∷ [])) =
        omega (arith, so.pages_is, ap length (pages_more so.stops.attempts came.link came.envelope), length-append (pages_of so.stops.attempts) (page_here ∷ [])) in
        let fills = so.stops.fills in
        let page : Absorbed = record { entries = entries; moment = moment; tally = tally } in
        let absorbed = so.stops.absorbed ++ page ∷ [] in
        let absorbs_here = subst (λ (c : ℕ). Absorbs c page fills.last later.store) so.collection_is (subst (λ (s : StoreState). Absorbs mirror.collection page s later.store) so.store_is absorbs) in
        subst (λ (p : PullState). CopiesSoFar view asked before (then dial kept moments) p later lost sums) (sym came.after_is) (record {
          stops = stops_came after dial entries came kept moments [] absorbed (record {
            first = fills.first;
            loaded = fills.loaded;
            sound = fills.sound;
            last = later.store;
            mirrored = continues asked.target.collection fills.first fills.last later.store so.stops.absorbed page fills.mirrored absorbs_here;
            kept = agrees.told_is;
            named = subst (λ (n : Option (List ℕ)). IfSome before.kept.observable (λ _. n ≡ Some asked.file)) (sym name) fills.named;
            pages_are = pages_now after dial entries came ∙ sym (map-append (λ (p : Absorbed). p.entries) so.stops.absorbed (page ∷ [])) ∙ sym (append-nil (map (λ (p : Absorbed). p.entries) absorbed));
            late = [];
            late_are = refl;
            moments = subst (λ (ms : List ℕ). GivesEachMoment before.moments ms moments)
                (sym (map-append (λ (p : Absorbed). p.moment) so.stops.absorbed (page ∷ [])) ∙ sym (append-nil (map (λ (p : Absorbed). p.moment) absorbed)))
                (moments_more before.moments now.moments moments (map (λ (p : Absorbed). p.moment) so.stops.absorbed) moment moments_was next goes);
          });
          target_is = so.target_is;
          cursor_is = refl;
          pages_is = pages;
          lost_is = so.lost_is ∙ sym (losses_came so.stops.attempts (over came.link (Ok came.envelope)) refl);
          few = so.few;
          collection_is = collection ∙ so.collection_is;
          store_is = refl;
          agrees = agrees;
          totals_is = total ∙ ap (with_tally tally) so.totals_is ∙ sym (same_totals so.stops.absorbed page);
        })

-- ---- the entries of a page

readable_one : (d : Data) (entry : Entry) → IsEntryFor d entry → IsReadable entry
readable_one d (Good value) is = (subst (λ (v : Data). data_refusal v ≡ None) (sym is.same) is.good, subst IsOrdered (sym is.same) is.ordered)
readable_one d (Bad refusal) is = tt

readable_all : (ds : Items) (entries : List Entry) → AreEntriesFor ds entries → All IsReadable entries
readable_all no_items [] are = All-nil IsReadable
readable_all no_items (entry ∷ entries) are = absurd are
readable_all (item d ds) [] are = absurd are
readable_all (item d ds) (entry ∷ entries) are = All-cons IsReadable entry entries (readable_one d entry are.0) (readable_all ds entries are.1)

-- JSON's limits take the entries of a page that came
pub page_readable : {L : Type 0} (view : L → ClientLinkView) (before after : PullState) (dial now : DialView L) (entries : List Entry)
    → GivesPage view before after dial now entries → All IsReadable entries
page_readable view before after dial now entries gives =
    subst (All IsReadable) (sym gives.entries_are) (go gives.asks.dials)
  where
    go : Dials view before.target gives.asks.next dial now (Ok gives.envelope) → All IsReadable gives.envelope.entries
    go (inl fetches) =
        let is = fetches.fetched.reads.answers.is_envelope in readable_all is.list gives.envelope.entries is.checked
    go (inr fails) = let no = fails.fault in absurd (cc no)

-- ---- the start

pub copy_start : {L : Type 0} (view : L → ClientLinkView) (asked : Copying) (before now : CopyEnvironment L) (mirror : MirrorState) (totals : Totals)
    → PassThroughDial asked.target [] before.dial.observable before.dial.observable → now.dial ≡ before.dial → now.moments ≡ before.moments
    → Opens asked.file before.kept now.kept mirror → mirror.collection ≡ asked.target.collection → 1 ≤ asked.tries
    → totals ≡ record { pages = 0; added = 0; present = 0; skipped = 0 }
    → CopiesSoFar view asked before now (record { target = asked.target; cursor = First; pages = 0 }) mirror 0 totals
copy_start {L} view asked before now mirror totals none dial moments opens collection some zero = record {
  stops = record {
    attempts = [];
    proceed = All-nil AllowsNextAttempt;
    cursor = First;
    in_turn = refl;
    through = subst (λ (d : DialView L). PassThroughDial asked.target [] before.dial.observable d.observable) (sym dial) none;
    counts = subst (λ (d : DialView L). CountsDials 0 before.dial.faults d.faults) (sym dial) (counts_none before.dial.faults);
    absorbed = [];
    fills = record {
      first = mirror.store;
      loaded = loaded before.kept.observable opens.observable opens.agrees.told_is;
      sound = opens.sound;
      last = mirror.store;
      mirrored = refl;
      kept = opens.agrees.told_is;
      named = opens.named;
      pages_are = refl;
      late = [];
      late_are = refl;
      moments = λ n. ap (λ (m : ℕ → Option ℕ). m n) moments;
    };
  };
  target_is = refl;
  cursor_is = refl;
  pages_is = refl;
  lost_is = refl;
  few = some;
  collection_is = collection;
  store_is = refl;
  agrees = opens.agrees;
  totals_is = zero;
}
  where
    loaded : (observable : Option StoreState) → now.kept.observable ≡ observable → IfSome now.kept.observable (λ state. state ≡ mirror.store) → IfSome observable (λ state. mirror.store ≡ state)
    loaded None same agrees = tt
    loaded (Some state) same agrees = sym (subst (λ (o : Option StoreState). IfSome o (λ s. s ≡ mirror.store)) same agrees)
