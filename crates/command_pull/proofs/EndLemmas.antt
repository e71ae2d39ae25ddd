-- What an ending says of the arguments and of the dial's count.
use Rattle.std.proofs.Common.{◌≡◌, ◌≢◌, ◌⊎◌, ◌↔◌, inl, inr, ℕ, ◌≤◌, List, [], ◌∷◌, ◌++◌, refl, sym, ap, subst, arith}
use Rattle.flow_edges.specs.Faults.{HasIncreased}
use Rattle.match_run.specs.declared.cut_short.CutShort.TheVariants as Cut
use Rattle.taxii_client.specs.Environment.{ClientLinkView}
use Rattle.taxii_client.specs.Pulls.{Lent, PassThroughDial}
use Rattle.taxii_client.specs.declared.fetch_end.FetchEnd.{FetchEnd}
use Rattle.taxii_client.specs.declared.fetch_end.FetchEnd.TheVariants as Fetch
use Rattle.taxii_client.specs.declared.page_end.PageEnd.TheVariants as End
use Rattle.taxii_client.specs.declared.target.Target.{Target}
use Rattle.taxii_client.specs.declared.cursor.Cursor.{Cursor}
use Rattle.command_pull.specs.declared.ending.PullEnding.{PullEnding}
use Rattle.command_pull.specs.declared.ending.PullEnding.TheVariants.{Usage, Done, Lost, CutShort, NoMemory}
use Rattle.command_pull.specs.declared.ending.PullEnd.{PullEnd}
use Rattle.command_pull.specs.Arguments.{AskForPull, AskForNoPull}
use Rattle.command_pull.specs.Pulling.{PullEnvironment, page_links, LosesPageAt, DialIsQuiet}
use Rattle.command_pull.specs.Endings.{AskForPullWhere, EndsPull, EndsPullArguments, pull_status}
use Rattle.command_pull.specs.Runs.{LosesLink, CountsDial}

module _ (L : Type 0) (view : L → ClientLinkView) (before now : PullEnvironment L) where
  no-usage : (target : Target) (skipped : ℕ) (ending : PullEnding) → EndsPull view target before now skipped ending → pull_status ending ≢ 2
  no-usage target skipped Usage ends is = absurd ends
  no-usage target skipped Done ends is = cc
  no-usage target skipped (Lost End.Fault) ends is = cc
  no-usage target skipped (Lost End.Cut) ends is = cc
  no-usage target skipped (Lost (End.Refused refusal)) ends is = cc
  no-usage target skipped (Lost End.TooManyPages) ends is = cc
  no-usage target skipped (Lost End.NoMemory) ends is = cc
  no-usage target skipped (CutShort Cut.WriteFault) ends is = cc
  no-usage target skipped (CutShort Cut.NoMemory) ends is = cc
  no-usage target skipped NoMemory ends is = cc

  pub usage-exactly : (arguments : List (List ℕ)) (end : PullEnd) → EndsPullArguments view arguments before now end → (pull_status end.ending ≡ 2) ↔ AskForNoPull arguments
  usage-exactly arguments end (inl (nothing, is, same)) = (λ status. nothing, λ none. ap (λ (e : PullEnd). pull_status e.ending) is)
  usage-exactly arguments end (inr so) = (
    λ status. absurd (no-usage so.target end.skipped end.ending so.holds status),
    λ nothing. absurd (nothing so.target so.asked),
  )

  lost-quiet : (target : Target) (cursor : Cursor) (end : FetchEnd) (lost : List (Lent L)) → end ≢ Fetch.Fault → LosesPageAt view target before now cursor end lost
      → DialIsQuiet before now
  lost-quiet target cursor end [] other loses = absurd (other loses.0)
  lost-quiet target cursor end (link ∷ []) other loses = loses.0
  lost-quiet target cursor end (link ∷ more ∷ links) other loses = absurd loses

  lost-rose : (target : Target) (cursor : Cursor) (earlier lost : List (Lent L)) → LosesPageAt view target before now cursor Fetch.Fault lost
      → PassThroughDial target (earlier ++ lost) before.dial.observable now.dial.observable
      → HasIncreased before.dial.faults now.dial.faults ⊎ LosesLink view target before now
  lost-rose target cursor earlier [] (is, later, rose) through = inl rose
  lost-rose target cursor earlier (link ∷ []) (quiet, next, asks, fetched) through =
      inr (record { earlier = earlier; last = link; through = through; rose = fetched.counts.failed refl })
  lost-rose target cursor earlier (link ∷ more ∷ links) loses through = absurd loses

  lost-later : (target : Target) (cursor : Cursor) (lost : List (Lent L)) → LosesPageAt view target before now cursor Fetch.Fault lost
      → before.dial.faults ≤ now.dial.faults
  lost-later target cursor [] (is, later, rose) = later
  lost-later target cursor (link ∷ []) (quiet, next, asks, fetched) = omega (arith, quiet)
  lost-later target cursor (link ∷ more ∷ links) loses = absurd loses

  counts-quiet : (arguments : List (List ℕ)) (status : ℕ) → status ≢ 5 → DialIsQuiet before now → CountsDial view arguments before now status
  counts-quiet arguments status other quiet = record { later = omega (arith, quiet); failed = λ is. absurd (other is); quiet = λ no. quiet }

  asked-so : (arguments : List (List ℕ)) (target : Target) → AskForPull arguments target → HasIncreased before.dial.faults now.dial.faults ⊎ LosesLink view target before now
      → HasIncreased before.dial.faults now.dial.faults ⊎ AskForPullWhere arguments (λ t. LosesLink view t before now)
  asked-so arguments target asked (inl rose) = inl rose
  asked-so arguments target asked (inr loses) = inr (record { target = target; asked = asked; holds = loses })

  counts : (arguments : List (List ℕ)) (target : Target) (skipped : ℕ) (ending : PullEnding) → AskForPull arguments target
      → EndsPull view target before now skipped ending → CountsDial view arguments before now (pull_status ending)
  counts arguments target skipped Usage asked ends = absurd ends
  counts arguments target skipped Done asked ends = counts-quiet arguments 0 (λ is. cc) ends.quiet
  counts arguments target skipped (Lost End.Fault) asked ends = record {
    later = lost-later target ends.cursor ends.lost ends.loses;
    failed = λ is. asked-so arguments target asked (lost-rose target ends.cursor (page_links ends.pages) ends.lost ends.loses ends.pulls.through);
    quiet = λ no. absurd (no refl);
  }
  counts arguments target skipped (Lost End.Cut) asked ends = counts-quiet arguments 12 (λ is. cc) (lost-quiet target ends.cursor Fetch.Cut ends.lost (λ is. cc) ends.loses)
  counts arguments target skipped (Lost (End.Refused refusal)) asked ends =
      counts-quiet arguments 11 (λ is. cc) (lost-quiet target ends.cursor (Fetch.Refused refusal) ends.lost (λ is. cc) ends.loses)
  counts arguments target skipped (Lost End.TooManyPages) asked ends = counts-quiet arguments 13 (λ is. cc) ends.quiet
  counts arguments target skipped (Lost End.NoMemory) asked ends = counts-quiet arguments 1 (λ is. cc) (lost-quiet target ends.cursor Fetch.NoMemory ends.lost (λ is. cc) ends.loses)
  counts arguments target skipped (CutShort Cut.WriteFault) asked ends = counts-quiet arguments 6 (λ is. cc) ends.quiet
  counts arguments target skipped (CutShort Cut.NoMemory) asked ends = counts-quiet arguments 1 (λ is. cc) ends.quiet
  counts arguments target skipped NoMemory asked ends = counts-quiet arguments 1 (λ is. cc) (ap (λ (o : PullEnvironment L). o.dial.faults) ends.1)

  pub counts-dial : (arguments : List (List ℕ)) (end : PullEnd) → EndsPullArguments view arguments before now end → CountsDial view arguments before now (pull_status end.ending)
  counts-dial arguments end (inl (nothing, is, same)) =
      subst (λ (e : PullEnd). CountsDial view arguments before now (pull_status e.ending)) (sym is) (counts-quiet arguments 2 (λ no. cc) (ap (λ (o : PullEnvironment L). o.dial.faults) same))
  counts-dial arguments end (inr so) = counts arguments so.target end.skipped end.ending so.asked so.holds
