-- A connection that answers was open, and so was one that has committed.
use Rattle.std.proofs.Common.{◌≡◌, ℕ, List, [], ◌∷◌, Option, None, Some, Ok, Err, Bool, true, false, IsTrue, MatchBool, inl, inr, subst}
use Rattle.std.proofs.lemmas.Bool.{cases_Bool}
use Rattle.sqlite_disk.specs.declared.Disk.{Ghosts}
use Rattle.sqlite_value.specs.Order.{Row}
use Rattle.sqlite_trees.specs.declared.error.StoreError.{StoreError}
use Rattle.sqlite_trees.specs.declared.error.StoreError.TheVariants.{OutOfMemory, Io, Corrupt, Full, Broken, Unstorable}
use Rattle.sqlite_schema.specs.declared.command.Command.{Command}
use Rattle.sqlite_schema.specs.declared.command.Command.TheVariants.{Select, Insert, InsertOr, Update, Delete, CreateTable, CreateIndex, DropTable, DropIndex, Begin, Commit, Rollback, Savepoint as Save, Release, RollbackTo, Nothing, CreateView, DropView, Rows}
use Rattle.sqlite_schema.specs.declared.command.Returning.{Returning}
use Rattle.sqlite_resolve.specs.declared.compiled.Compiled.{Compiled}
use Rattle.sqlite.specs.declared.error.Error.TheVariants.{QueryReturnedNoRows}
use Rattle.sqlite.specs.Clock.{timed}
use Rattle.sqlite.specs.State.{State, Runs, ShowsRows, FailsToShow, Shown, QueriesRow, FailsToQuery, IsNotRun, ExecutesIn, Executes, store_error, shows_rows, text_of}
use Rattle.sqlite.specs.Held.{Held}
use Rattle.taxii_rows.specs.declared.stored_row.StoredRow.{StoredRow}
use Rattle.sqlite.specs.Files.{file_state}
use Rattle.taxii_sqlite.specs.Statements as asked
use Rattle.taxii_sqlite.specs.Databases.{FindsNext, FindsWatermark, Appends, Removes, IsClosedByDisk, IsClean}
use Rattle.taxii_sqlite.specs.declared.connection.Database.{Database}
use Rattle.taxii_sqlite.specs.declared.connection.Database.TheVariants.{Closed, InMemory, Disk}

no_store_error : (cause : StoreError) → ¬ (QueryReturnedNoRows ≡ store_error cause)
no_store_error OutOfMemory is = cc is
no_store_error Io is = cc is
no_store_error Corrupt is = cc is
no_store_error Full is = cc is
no_store_error Broken is = cc is
no_store_error Unstorable is = cc is

module _ (old new : State) where
  ran_open : (returning : Option Returning) (command : Command) (text : List ℕ) (params : Row) (count : ℕ) → Runs old new returning command text params count
      → IsTrue new.is_open → IsTrue old.is_open
  ran_open returning (Select q names) text params count ran still = absurd ran
  ran_open returning (Insert at from) text params count ran still = ran.shown.was_open
  ran_open returning (InsertOr at how from clauses) text params count ran still = ran.shown.was_open
  ran_open returning (Update at q) text params count ran still = ran.shown.was_open
  ran_open returning (Delete at q) text params count ran still = ran.shown.was_open
  ran_open returning CreateTable text params count ran still = ran.shown.was_open
  ran_open returning (CreateIndex at) text params count ran still = ran.shown.was_open
  ran_open returning (DropTable at) text params count ran still = ran.shown.was_open
  ran_open returning (DropIndex at) text params count ran still = ran.shown.was_open
  ran_open returning Begin text params count ran still = ran.1.was_open
  ran_open returning Commit text params count ran still = ran.1.was_open
  ran_open returning Rollback text params count ran still = ran.1.was_open still
  ran_open returning (Save name) text params count ran still = ran.0.0.was_open
  ran_open returning (Release name) text params count ran still = elim ran.2 [ inl all ↦ all.1.0.was_open | inr some ↦ some.1.0.was_open ]
  ran_open returning (RollbackTo name) text params count ran still = ran.2.2.was_open
  ran_open returning (Rows values width names) text params count ran still = ran.0.0.was_open
  ran_open returning Nothing text params count ran still = ran.0.0.was_open
  ran_open returning CreateView text params count ran still = ran.shown.was_open
  ran_open returning (DropView at) text params count ran still = ran.shown.was_open

  pub executed_open : (sql : List ℕ) (params : Row) (count : ℕ) → Executes sql params old new (Ok count) → IsTrue new.is_open → IsTrue old.is_open
  unfolding ExecutesIn
  executed_open sql params count h still =
      elim (cases_Bool (shows_rows false h.0)) [
        | inl shows ↦ absurd (let e = (rw shows at h.2).0 in cc)
        | inr runs ↦ ran_open h.0.returning h.0.command (text_of sql h.0) (timed params h.0.formats h.1.now) count (rw runs at h.2) still
      ]

  shown_open : (sql : List ℕ) (c : Compiled) (params : Row) (rows : List Row) (returning : Option Returning) → ShowsRows old new sql c params rows returning → IsTrue old.is_open
  shown_open sql c params rows None shows = shows.3.0.was_open
  shown_open sql c params rows (Some what) shows = shows.1.shown.was_open

  refused_open : (sql : List ℕ) (c : Compiled) (params : Row) (returning : Option Returning) → FailsToShow old new sql c params QueryReturnedNoRows returning → IsTrue old.is_open
  refused_open sql c params None fails = fails.3.0.was_open
  refused_open sql c params (Some what) (inl misplaced) = misplaced.1.0.was_open
  refused_open sql c params (Some what) (inr failed) = absurd (no_store_error failed.0 failed.1)

  failed_open : (sql : List ℕ) (params : Row) → FailsToQuery sql params old new QueryReturnedNoRows → IsTrue old.is_open
  unfolding FailsToQuery IsNotRun
  failed_open sql params (inl (inl none)) = none.1.0.was_open
  failed_open sql params (inl (inr failed)) = absurd (no_store_error failed.0 failed.1)
  failed_open sql params (inr h) = refused_open sql h.0 (timed params h.0.formats h.1.now) h.0.returning h.2

  pub row_open : (sql : List ℕ) (params row : Row) → QueriesRow sql params old new (Ok row) → IsTrue old.is_open
  unfolding QueriesRow Shown
  row_open sql params row (inl begins) = begins.1.0.was_open
  row_open sql params row (inr h) = let shown = h.1 in shown_open sql shown.0 (timed params shown.0.formats shown.1.now) h.0 shown.0.returning shown.2

  pub none_open : (sql : List ℕ) (params : Row) → QueriesRow sql params old new (Err QueryReturnedNoRows) → IsTrue old.is_open
  unfolding QueriesRow Shown
  none_open sql params (inl fails) = failed_open sql params fails
  none_open sql params (inr h) = let shown = h.1 in shown_open sql shown.0 (timed params shown.0.formats shown.1.now) [] shown.0.returning shown.2

module _ {S : Type 0} (shown : Held S → State) where
  abbrev Stays : (Held S → Held S → Type 0) → Type 0
  Stays Run = (before after : Held S) → Run before after → IsTrue (shown after).is_open → IsTrue (shown before).is_open

  runs_stay : (text : List ℕ) (values : Row) → Stays (asked.RunsStatement shown text values)
  runs_stay text values before after ran still = executed_open (shown before) (shown after) text values ran.0 ran.1 still

  in_turn_stay : {X : Type 0} (step : X → Held S → Held S → Type 0) → ((x : X) → Stays (step x)) → (xs : List X) → Stays (asked.InTurn step xs)
  in_turn_stay step stays [] before after done still = subst (λ (h : Held S). IsTrue (shown h).is_open) done still
  in_turn_stay step stays (x ∷ xs) before after (between, first, rest) still = stays x before between first (in_turn_stay step stays xs between after rest still)

  set_stays : (is_last : Bool) (watermark : ℕ) → Stays (λ before after. MatchBool is_last (after ≡ before) (asked.WritesWatermark shown watermark before after))
  set_stays true watermark before after same still = subst (λ (h : Held S). IsTrue (shown h).is_open) same still
  set_stays false watermark before after marked still = runs_stay _ _ before after marked still

  adds_stay : (rows : List StoredRow) (watermark : ℕ) → Stays (asked.InsertsRows shown rows watermark)
  adds_stay rows watermark before after (between, rows_in, marked) still =
      in_turn_stay (asked.Inserts shown) (λ row one two added. runs_stay _ added.0 one two added.2) rows before between rows_in
      (set_stays (asked.ends_at rows watermark) watermark between after marked still)

  deletes_stay : (dates : List ℕ) → Stays (asked.DeletesAll shown dates)
  deletes_stay dates before after (between, marked, gone) still =
      runs_stay _ _ before between marked (in_turn_stay (asked.DeletesRow shown) (λ date. runs_stay _ _) dates between after gone still)

  transacted_open : (Run : Held S → Held S → Type 0) → Stays Run → (before after : Held S) → asked.Transacts shown Run before after → IsTrue (shown (asked.begun before)).is_open
  transacted_open Run stays before after did = stays (asked.begun before) did.last did.run did.commits.0.was_open

  pub appended_open : (rows : List StoredRow) (watermark : ℕ) (before after : Held S) → asked.Transacts shown (asked.InsertsRows shown rows watermark) before after → IsTrue (shown (asked.begun before)).is_open
  appended_open rows watermark = transacted_open (asked.InsertsRows shown rows watermark) (adds_stay rows watermark)

  pub removed_open : (dates : List ℕ) (before after : Held S) → asked.Transacts shown (asked.DeletesAll shown dates) before after → IsTrue (shown (asked.begun before)).is_open
  removed_open dates = transacted_open (asked.DeletesAll shown dates) (deletes_stay dates)

conflict : (b : Bool) → b ≡ false → ¬ IsTrue b
conflict true closed_by_disk still = cc closed_by_disk
conflict false closed_by_disk still = cc still

module _ {D : Type 0} {disk : Ghosts D} where
  pub no_next : (before after : Database D disk) (date : ℕ) (found : Option StoredRow) → IsClosedByDisk before → IsClean after → ¬ FindsNext date before after found
  no_next (Disk b) (Disk a) date None closed_by_disk clean finds = conflict _ closed_by_disk (none_open (file_state b.value) (file_state a.value) _ _ (finds clean))
  no_next (Disk b) (Disk a) date (Some row) closed_by_disk clean finds = let it = finds clean in conflict _ closed_by_disk (row_open (file_state b.value) (file_state a.value) _ _ it.0 it.2)
  no_next (Disk b) InMemory date found closed_by_disk clean finds = absurd finds
  no_next (Disk b) Closed date found closed_by_disk clean finds = absurd finds
  no_next InMemory after date found closed_by_disk clean finds = absurd closed_by_disk
  no_next Closed after date found closed_by_disk clean finds = absurd closed_by_disk

  pub no_watermark : (before after : Database D disk) (watermark : ℕ) → IsClosedByDisk before → IsClean after → ¬ FindsWatermark before after watermark
  no_watermark (Disk b) (Disk a) watermark closed_by_disk clean finds = let it = finds clean in conflict _ closed_by_disk (row_open (file_state b.value) (file_state a.value) _ _ it.0 it.2)
  no_watermark (Disk b) InMemory watermark closed_by_disk clean finds = absurd finds
  no_watermark (Disk b) Closed watermark closed_by_disk clean finds = absurd finds
  no_watermark InMemory after watermark closed_by_disk clean finds = absurd closed_by_disk
  no_watermark Closed after watermark closed_by_disk clean finds = absurd closed_by_disk

  pub none_added : (before after : Database D disk) (rows : List StoredRow) (watermark : ℕ) → IsClosedByDisk before → IsClean after → ¬ Appends rows watermark before after
  none_added (Disk b) (Disk a) rows watermark closed_by_disk clean adds = conflict _ closed_by_disk (appended_open file_state rows watermark b.value a.value (adds clean))
  none_added (Disk b) InMemory rows watermark closed_by_disk clean adds = absurd adds
  none_added (Disk b) Closed rows watermark closed_by_disk clean adds = absurd adds
  none_added InMemory after rows watermark closed_by_disk clean adds = absurd closed_by_disk
  none_added Closed after rows watermark closed_by_disk clean adds = absurd closed_by_disk

  pub none_removed : (before after : Database D disk) (dates : List ℕ) → IsClosedByDisk before → IsClean after → ¬ Removes dates before after
  none_removed (Disk b) (Disk a) dates closed_by_disk clean removes = conflict _ closed_by_disk (removed_open file_state dates b.value a.value (removes clean))
  none_removed (Disk b) InMemory dates closed_by_disk clean removes = absurd removes
  none_removed (Disk b) Closed dates closed_by_disk clean removes = absurd removes
  none_removed InMemory after dates closed_by_disk clean removes = absurd closed_by_disk
  none_removed Closed after dates closed_by_disk clean removes = absurd closed_by_disk
