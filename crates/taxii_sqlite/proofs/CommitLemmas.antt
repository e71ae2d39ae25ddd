-- A transaction that ran something was committed.
use Rattle.std.proofs.Common.{◌≡◌, sym, subst}
use Rattle.sqlite.specs.State.{State, HasCleanDisk, Commits}
use Rattle.sqlite.specs.Held.{Held}
use Rattle.taxii_sqlite.specs.Statements.{begun, Transacts}

module _ {S : Type 0} (shown : Held S → State) where
  -- what `commit` says
  pub record IsCommitted (last committed : Held S) : Type 0 where
    pub clean : HasCleanDisk (shown committed) → HasCleanDisk (shown last)
    pub commits : HasCleanDisk (shown committed) → Commits (shown last) (shown committed)

  pub transacts : (Run : Held S → Held S → Type 0) (before began last committed after : Held S) → began ≡ begun before → (HasCleanDisk (shown last) → Run began last)
      → IsCommitted last committed → after ≡ committed → HasCleanDisk (shown after) → Transacts shown Run before after
  transacts Run before began last committed after begins run ends same clean =
      let kept = subst (λ (h : Held S). HasCleanDisk (shown h)) same clean in record {
        last = last;
        run = subst (λ (h : Held S). Run h last) begins (run (ends.clean kept));
        commits = subst (λ (h : Held S). Commits (shown last) (shown h)) (sym same) (ends.commits kept);
      }
