use Rattle.std.proofs.Common.{slice_index_or}
use Rattle.std.proofs.lemmas.List.Elements.{All-contains_itself}
use Rattle.std.specs.Prelude.{None}
use Rattle.taxii_store.specs.Walk.{rows_given}
use Rattle.taxii_store.proofs.WalkLemmas.{ascends, asked, whole, dated}
use Rattle.taxii_store.proofs.walk_laws.walks_skip_no_row.Goals as goal

pub returns-clause-once : goal.returns-clause-once
returns-clause-once c wanted first others walk = ascends wanted None first others walk.goes

pub returns-clause-asked : goal.returns-clause-asked
returns-clause-asked c wanted first others walk k d within =
    asked wanted None first others walk.start walk.goes (slice_index_or (rows_given first others) k d)
    (All-contains_itself (rows_given first others) k d within)

pub returns-clause-whole : goal.returns-clause-whole
returns-clause-whole c wanted first others walk row there wish =
    whole wanted None first others walk.goes row there wish (dated wanted None first others walk.goes row there)
