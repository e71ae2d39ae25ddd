-- Pages that came and were written so far, one more of them, and what each ending says.
use Rattle.std.proofs.Common.{◌≡◌, inl, inr, ℕ, ◌+◌, ◌≤◌, ◌<◌, List, [], ◌∷◌, ◌++◌, length, Option, Ok, Err, refl, sym, ap, subst, ◌∙◌, append_assoc, length-append, arith}
use Rattle.std.proofs.lemmas.List.{append-nil}
use Rattle.std.specs.Prelude.{All, fold}
use Rattle.command_reasons.proofs.WritesWholeLemmas.{after_part}
use Rattle.flow_edges.specs.Faults.{HasIncreased}
use Rattle.flow_edges.specs.Flow.{written_with, WritesPrefix}
use Rattle.flow_links.specs.Dials.{DialState}
use Rattle.stix_json.specs.declared.entry.Entry.{Entry}
use Rattle.taxii_client.specs.Environment.{ClientLinkView, DialView}
use Rattle.taxii_client.specs.Fetches.{Fetched}
use Rattle.taxii_client.specs.Pulls.{PullState, Lent, Page, PassThroughDial, IsPageAt, IsPull, cursor_after, AsksFor, GivesPage, Dials, Answers}
use Rattle.taxii_client.specs.declared.fetch_end.FetchEnd.{FetchEnd}
use Rattle.taxii_client.specs.declared.fetch_end.FetchEnd.TheVariants as Fetch
use Rattle.taxii_client.specs.declared.page_end.PageEnd.{PageEnd}
use Rattle.taxii_client.specs.declared.page_end.PageEnd.TheVariants as End
use Rattle.taxii_client.specs.declared.pull.TheConstants.{MAX_PAGES}
use Rattle.taxii_client.specs.declared.target.Target.{Target}
use Rattle.taxii_client.specs.declared.cursor.Cursor.{Cursor}
use Rattle.taxii_client.specs.declared.cursor.Cursor.TheVariants.{First}
use Rattle.command_pull.specs.declared.ending.PullEnding.TheVariants.{Lost}
use Rattle.taxii_client.specs.Telling.{told_of, told_of_pages, bad_in, bad_in_pages, IsWritableEntry}
use Rattle.command_pull.specs.Pulling.{PullEnvironment, page_links, Pulls, WritesPages, DialIsQuiet, StopsAsking, StopsBehind, StopsWriting}
use Rattle.command_pull.specs.Endings.{EndsPull, AreTooFew}
use Rattle.command_pull.proofs.WritingLemmas.{all-writable, written-none, written-more}

-- these pages came, all were written, and the walk stands after them
pub record RunsSo {L : Type 0} (view : L → ClientLinkView) (target : Target) (before now : PullEnvironment L) (state : PullState) (skipped : ℕ) : Type 0 where
  pub pages : List (Page L)
  pub pulls : Pulls view target before now pages state.cursor [] skipped
  pub quiet : DialIsQuiet before now
  pub writes : WritesPages pages before now
  pub target_is : state.target ≡ target
  pub count : state.pages ≡ length pages

pub run-start : (L : Type 0) (view : L → ClientLinkView) (target : Target) (environment : PullEnvironment L)
    → PassThroughDial target [] environment.dial.observable environment.dial.observable → RunsSo view target environment environment (record { target = target; cursor = First; pages = 0 }) 0
run-start L view target environment none = record {
  pages = [];
  pulls = record { pull = refl; through = none; skipped_is = refl };
  quiet = refl;
  writes = written-none environment.written;
  target_is = refl;
  count = refl;
}

links-more : {L : Type 0} (pages : List (Page L)) (page : Page L) → page_links (pages ++ page ∷ []) ≡ page_links pages ++ page.link ∷ []
links-more [] page = refl
links-more (first ∷ pages) page = ap (λ (links : List (Lent _)). first.link ∷ links) (links-more pages page)

observable-more : {L : Type 0} (pages : List (Page L)) (page : Page L) → told_of_pages (pages ++ page ∷ []) ≡ told_of_pages pages ++ told_of page.envelope.entries
observable-more [] page = append-nil (told_of page.envelope.entries)
observable-more (first ∷ pages) page =
    ap (λ (t : List ℕ). told_of first.envelope.entries ++ t) (observable-more pages page)
    ∙ sym (append_assoc (told_of first.envelope.entries) (told_of_pages pages) (told_of page.envelope.entries))

fold-more : {A X : Type 0} (f : A → X → A) (a : A) (xs : List X) (x : X) → fold f a (xs ++ x ∷ []) ≡ f (fold f a xs) x
fold-more f a [] x = refl
fold-more f a (y ∷ xs) x = fold-more f (f a y) xs x

bad-more : {L : Type 0} (pages : List (Page L)) (page : Page L) → bad_in_pages (pages ++ page ∷ []) ≡ bad_in_pages pages + bad_in page.envelope.entries
bad-more pages page = fold-more (λ (a : ℕ) (p : Page _). a + bad_in p.envelope.entries) 0 pages page

-- a page came over a link that the dial gave for it
pub record CameOver {L : Type 0} (view : L → ClientLinkView) (before after : PullState) (dial now : DialView L) (entries : List Entry) : Type 0 where
  pub page : Page L
  pub at : IsPageAt view before.target before.cursor page
  pub through : PassThroughDial before.target (page.link ∷ []) dial.observable now.observable
  pub quiet : now.faults ≡ dial.faults
  pub entries_are : entries ≡ page.envelope.entries
  pub few : before.pages < MAX_PAGES
  pub after_is : after ≡ record { target = before.target; cursor = cursor_after page.envelope; pages = before.pages + 1 }

pub came-over : {L : Type 0} (view : L → ClientLinkView) (before after : PullState) (dial now : DialView L) (entries : List Entry)
    → GivesPage view before after dial now entries → CameOver view before after dial now entries
came-over view before after dial now entries gives = go gives.asks.dials
  where
    go : Dials view before.target gives.asks.next dial now (Ok gives.envelope) → CameOver view before after dial now entries
    go (inl over) = record {
      page = record { link = over.link; envelope = gives.envelope };
      at = record { next = gives.asks.next; asks = gives.asks.asks; fetched = over.fetched };
      through = over.through;
      quiet = over.quiet;
      entries_are = gives.entries_are;
      few = gives.asks.few;
      after_is = gives.after_is;
    }
    go (inr fails) = let no = fails.fault in absurd cc

-- what stands in the entries of a page that came can be written
pub page-writable : {L : Type 0} (view : L → ClientLinkView) (before after : PullState) (dial now : DialView L) (entries : List Entry)
    → GivesPage view before after dial now entries → All IsWritableEntry entries
page-writable view before after dial now entries gives =
    let came = came-over view before after dial now entries gives in
    let is = came.at.fetched.reads.answers.is_envelope in
    subst (All IsWritableEntry) (sym came.entries_are) (all-writable is.list came.page.envelope.entries is.checked)

module _ (L : Type 0) (view : L → ClientLinkView) (target : Target) (before : PullEnvironment L)
    (goes : (v : L → ClientLinkView) (t : Target) (pages : List (Page L)) (cursor : Cursor) (page : Page L)
    → IsPull v t pages cursor → IsPageAt v t cursor page → IsPull v t (pages ++ page ∷ []) (cursor_after page.envelope))
    (joins : (t : Target) (links more : List (Lent L)) (first middle last : Option (DialState L))
    → PassThroughDial t links first middle → PassThroughDial t more middle last → PassThroughDial t (links ++ more) first last) where
  links-joined : (pages : List (Page L)) (more : List (Lent L)) (middle last : Option (DialState L))
      → PassThroughDial target (page_links pages ++ []) before.dial.observable middle → PassThroughDial target more middle last
      → PassThroughDial target (page_links pages ++ more) before.dial.observable last
  links-joined pages more middle last through then =
      joins target (page_links pages) more before.dial.observable middle last
      (subst (λ (links : List (Lent L)). PassThroughDial target links before.dial.observable middle) (append-nil (page_links pages)) through) then

  module _ (now : PullEnvironment L) (state : PullState) (skipped : ℕ) (runs : RunsSo view target before now state skipped) where
    pulls-more : (after : PullState) (dial : DialView L) (written : Option (List ℕ)) (entries : List Entry) (came : CameOver view state after now.dial dial entries)
        → Pulls view target before (record { dial = dial; written = written }) (runs.pages ++ came.page ∷ []) (cursor_after came.page.envelope) [] (skipped + bad_in entries)
    pulls-more after dial written entries came = record {
      pull = goes view target runs.pages state.cursor came.page runs.pulls.pull
          (subst (λ (t : Target). IsPageAt view t state.cursor came.page) runs.target_is came.at);
      through = subst (λ (links : List (Lent L)). PassThroughDial target links before.dial.observable dial.observable)
          (sym (append-nil (page_links (runs.pages ++ came.page ∷ [])) ∙ links-more runs.pages came.page))
          (links-joined runs.pages (came.page.link ∷ []) now.dial.observable dial.observable runs.pulls.through
          (subst (λ (t : Target). PassThroughDial t (came.page.link ∷ []) now.dial.observable dial.observable) runs.target_is came.through));
      skipped_is = ap (λ (k : ℕ). k + bad_in entries) runs.pulls.skipped_is
          ∙ ap (λ (e : List Entry). bad_in_pages runs.pages + bad_in e) came.entries_are ∙ sym (bad-more runs.pages came.page);
    }

    observable-with : (after : PullState) (dial : DialView L) (entries : List Entry) (came : CameOver view state after now.dial dial entries)
        → told_of_pages (runs.pages ++ came.page ∷ []) ≡ told_of_pages runs.pages ++ told_of entries
    observable-with after dial entries came =
        observable-more runs.pages came.page ∙ ap (λ (e : List Entry). told_of_pages runs.pages ++ told_of e) (sym came.entries_are)

    -- a page came and was written
    pub run-more : (after : PullState) (dial : DialView L) (written : Option (List ℕ)) (entries : List Entry) → GivesPage view state after now.dial dial entries
        → written ≡ written_with (told_of entries) now.written
        → RunsSo view target before (record { dial = dial; written = written }) after (skipped + bad_in entries)
    run-more after dial written entries gives is =
        let came = came-over view state after now.dial dial entries gives in
        subst (λ (s : PullState). RunsSo view target before (record { dial = dial; written = written }) s (skipped + bad_in entries)) (sym came.after_is) (record {
          pages = runs.pages ++ came.page ∷ [];
          pulls = pulls-more after dial written entries came;
          quiet = came.quiet ∙ runs.quiet;
          writes = written-more (told_of_pages runs.pages) (told_of entries) before.written now.written written runs.writes is
              ∙ ap (λ (t : List ℕ). written_with t before.written) (sym (observable-with after dial entries came));
          target_is = runs.target_is;
          count = omega (arith, runs.count, length-append runs.pages (came.page ∷ []));
        })

    -- a page came, and of what is to be written of it a prefix was
    pub run-cut : (after : PullState) (dial : DialView L) (written : Option (List ℕ)) (entries : List Entry) → GivesPage view state after now.dial dial entries
        → WritesPrefix (told_of entries) now.written written
        → StopsWriting view target before (record { dial = dial; written = written }) (skipped + bad_in entries)
    run-cut after dial written entries gives part =
        let came = came-over view state after now.dial dial entries gives in record {
          pages = runs.pages ++ came.page ∷ [];
          cursor = cursor_after came.page.envelope;
          pulls = pulls-more after dial written entries came;
          quiet = came.quiet ∙ runs.quiet;
          part = subst (λ (t : List ℕ). WritesPrefix t before.written written) (sym (observable-with after dial entries came))
              (after_part (told_of_pages runs.pages) (told_of entries) before.written now.written written runs.writes part);
        }

    -- the walk rests, and stands where it stood
    run-rests : (AreLast : List (Page L) → Cursor → Type 0) (dial : DialView L) → AreLast runs.pages state.cursor → dial ≡ now.dial
        → StopsBehind view target before (record { dial = dial; written = now.written }) AreLast skipped
    run-rests AreLast dial last same =
        subst (λ (d : DialView L). StopsBehind view target before (record { dial = d; written = now.written }) AreLast skipped) (sym same) (record {
          pages = runs.pages;
          cursor = state.cursor;
          last = last;
          pulls = record { pull = runs.pulls.pull; through = runs.pulls.through; skipped_is = runs.pulls.skipped_is };
          quiet = runs.quiet;
          writes = runs.writes;
        })

    -- the next page didn't come
    run-lost : (end : FetchEnd) (dial : DialView L) → AsksFor view state now.dial dial (Err end)
        → StopsAsking view target before (record { dial = dial; written = now.written }) end skipped
    run-lost end dial asks = go asks.dials
      where
        go : Dials view state.target asks.next now.dial dial (Err end) → StopsAsking view target before (record { dial = dial; written = now.written }) end skipped
        go (inl over) = record {
          pages = runs.pages;
          cursor = state.cursor;
          lost = over.link ∷ [];
          pulls = record {
            pull = runs.pulls.pull;
            through = links-joined runs.pages (over.link ∷ []) now.dial.observable dial.observable runs.pulls.through
                (subst (λ (t : Target). PassThroughDial t (over.link ∷ []) now.dial.observable dial.observable) runs.target_is over.through);
            skipped_is = runs.pulls.skipped_is;
          };
          loses = (
            over.quiet ∙ runs.quiet,
            asks.next,
            asks.asks,
            subst (λ (t : Target). Fetched t asks.next (view over.link.given) (view over.link.finished) (Err end)) runs.target_is over.fetched,
          );
          writes = runs.writes;
        }
        go (inr fails) = record {
          pages = runs.pages;
          cursor = state.cursor;
          lost = [];
          pulls = record {
            pull = runs.pulls.pull;
            through = subst (λ (d : Option (DialState L)). PassThroughDial target (page_links runs.pages ++ []) before.dial.observable d) (sym fails.same) runs.pulls.through;
            skipped_is = runs.pulls.skipped_is;
          };
          loses = (
            (let is = fails.fault in cc),
            subst (λ (k : ℕ). k ≤ dial.faults) runs.quiet fails.later,
            subst (λ (k : ℕ). HasIncreased k dial.faults) runs.quiet fails.rose,
          );
          writes = runs.writes;
        }

    pub run-end : (end : PageEnd) (after : PullState) (dial : DialView L) → Answers view state after now.dial dial (Err end)
        → EndsPull view target before (record { dial = dial; written = now.written }) skipped (Lost end)
    run-end End.Fault after dial (asks, same) = run-lost Fetch.Fault dial asks
    run-end End.Cut after dial (asks, same) = run-lost Fetch.Cut dial asks
    run-end (End.Refused refusal) after dial (asks, same) = run-lost (Fetch.Refused refusal) dial asks
    run-end End.TooManyPages after dial (most, more, (same, rests)) = run-rests AreTooFew dial (sym runs.count ∙ most, more) rests
    run-end End.NoMemory after dial (asks, same) = run-lost Fetch.NoMemory dial asks
