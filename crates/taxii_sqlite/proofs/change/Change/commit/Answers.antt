-- The change was done, and that is committed.
use Rattle.std.proofs.Common.{rules, arith}
use Rattle.sqlite.specs.Held.{state}
use Rattle.taxii_sqlite.specs.Changes.{DoesChange}
use Rattle.taxii_sqlite.proofs.CommitLemmas.{transacts}
use Rattle.taxii_sqlite.proofs.change.Change.commit.Goals as goal

pub returns-clause-does : goal.returns-clause-does
returns-clause-does g c =
    let last = c.perform.new.transaction.conn.now in
    transacts (state g.S.Store) (DoesChange (state g.S.Store) c.args.self) c.args.connection.now c.transaction-transaction.result.conn.now last c.commit.new.self.0 _ c.transaction-transaction.ensures.begun
    c.in_ok-perform.ensures.runs
    (record {
      clean = λ kept. omega (arith, c.commit.ensures.survives.clean);
      commits = λ kept. let done = c.in_ok-commit.ensures.ok kept in (done.1, done.2, done.3);
    })
    (search rules)
