-- Each step was asked of the disk as the one before left it, which was clean.
use Rattle.std.proofs.Common.{rules, subst}
use Rattle.std.specs.Int.{w64}
use Rattle.std.proofs.lemmas.Int.{ints, to_z-of_z}
use Rattle.sqlite.specs.Held.{state}
use Rattle.taxii_sqlite.specs.Forms.{Migrates}
use Rattle.taxii_sqlite.proofs.layout.take.Goals as goal

pub returns-clause-taken : goal.returns-clause-taken
returns-clause-taken g c = λ clean.
    let read = c.migrate.ensures.clean clean in
    let complete = c.read_version.ensures.clean read in
    let listed = c.complete.ensures.clean complete in
    record {
      layout = c.in_ok-layout.layout;
      listed = c.read_layout.new.connection;
      complete = c.complete.new.connection;
      version = c.in_ok-version.version;
      read = c.read_version.new.connection;
      has_layout = c.in_ok-layout.ensures.asks listed;
      completes = c.in_ok-complete.ensures.completes complete;
      has_version = c.in_ok-version.ensures.asks read;
      migrates = subst (λ version. Migrates (state g.S.Store) version c.read_version.new.connection c.migrate.new.connection)
          (to_z-of_z w64 c.in_ok-version.version (search (rules, ints))) (c.in_ok-migrate.ensures.migrates clean);
    }
