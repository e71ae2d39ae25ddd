-- The results of private functions of a copy.
use Rattle.std.specs.Prelude.{◌≡◌, ℕ, List, Option, Some, None, IfSome}
use Rattle.taxii_rows.specs.Keeper.{Kept}
use Rattle.taxii_rows.specs.SoundRow.{IsSoundState}
use Rattle.taxii_client.specs.declared.page_end.PageEnd.{PageEnd}
use Rattle.taxii_client.specs.declared.page_end.PageEnd.TheVariants as Page
use Rattle.taxii_store.specs.Agreement.{Agrees}
use Rattle.taxii_client.specs.Absorbing.{MirrorState}
use Rattle.taxii_client.specs.declared.stop.FetchStop.{FetchStop}
use Rattle.taxii_client.specs.declared.stop.FetchStop.TheVariants as Stop

-- why the copy ends after a failed fetch; nothing if the fetch was lost
abbrev pub stop_of : PageEnd → Option FetchStop
stop_of Page.Fault = None
stop_of Page.Cut = None
stop_of (Page.Refused refusal) = Some (Stop.Refused refusal)
stop_of Page.TooManyPages = Some Stop.TooManyPages
stop_of Page.NoMemory = Some Stop.NoMemory

-- a mirror was opened over the rows that the keeper has under a name
pub record Opens (name : List ℕ) (kept now : Kept) (mirror : MirrorState) : Type 0 where
  pub agrees : Agrees now mirror.store
  pub sound : IsSoundState mirror.store
  pub observable : now.observable ≡ kept.observable
  pub named : IfSome kept.observable (λ _. now.name ≡ Some name)
