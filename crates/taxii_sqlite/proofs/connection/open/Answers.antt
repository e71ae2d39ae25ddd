-- A file is opened under a path that isn't empty, its database is the one that it held, and it was made ready as it was opened.
use Rattle.std.proofs.Common.{rules, ◌≡◌}
use Rattle.taxii_sqlite.proofs.connection.open.Goals as goal

pub returns-in-Ok-new-clause-ready : goal.returns-in-Ok-new-clause-ready
returns-in-Ok-new-clause-ready g c =
    let boxed : c.in-Ok-new.connection.value ≡ c.make_ready.new.connection = search rules in
    rw boxed (
      c.requires,
      λ clean.
          let opened = c.make_ready.ensures.clean clean in
          (c.in-Ok.connection, c.in-Ok.ensures.fresh, c.in-Ok.ensures.opened opened, c.in-Ok.ensures.found opened, c.in_ok-make_ready.ensures.ready clean),
    )
