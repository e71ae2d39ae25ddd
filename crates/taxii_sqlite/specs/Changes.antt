-- What a change of a database runs in its transaction.
use Rattle.sqlite.specs.State.{State}
use Rattle.sqlite.specs.Held.{Held}
use Rattle.taxii_sqlite.specs.Statements.{InsertsRows, DeletesAll}
use Rattle.taxii_sqlite.specs.Forms.{MakesTables, NamesLayout, WritesVersion}
use Rattle.taxii_sqlite.specs.declared.change.Change.{Change}
use Rattle.taxii_sqlite.specs.declared.change.Change.TheVariants.{MakeTables, NameLayout, Migrate, Append, Remove}

-- `shown` is what a connection shows
module _ {S : Type 0} (shown : Held S → State) where
  -- the change was done
  abbrev pub DoesChange : Change → Held S → Held S → Type 0
  DoesChange MakeTables = MakesTables shown
  DoesChange NameLayout = NamesLayout shown
  DoesChange Migrate = WritesVersion shown
  DoesChange (Append rows watermark) = InsertsRows shown rows.now watermark
  DoesChange (Remove dates) = DeletesAll shown dates.now
