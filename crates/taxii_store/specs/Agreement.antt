-- When a keeper and a library agree; what stays of a keeper.
use Rattle.std.specs.Prelude.{◌≡◌, [], true, IfSome}
use Rattle.taxii_rows.specs.StoreState.{StoreState}
use Rattle.taxii_rows.specs.Keeper.{Kept, updated}

-- the keeper is attached, and its observable rows are those of the library
pub record Agrees (kept : Kept) (state : StoreState) : Type 0 where
  pub attached_is : kept.attached ≡ true
  pub told_is : IfSome kept.observable (λ its. its ≡ state)

-- a keeper's state without its rows: what stays while rows come and go
abbrev pub without_rows : Kept → Kept
without_rows kept = updated (λ _. record { rows = []; watermark = 0 }) kept
