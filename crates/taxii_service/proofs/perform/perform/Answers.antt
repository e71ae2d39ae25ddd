use Rattle.std.proofs.Common.{ap}
use Rattle.stix_ids.specs.PartsOf.{id_of}
use Rattle.taxii_service.specs.inner.Performing.{operation_of}
use Rattle.taxii_service.proofs.PerformLemmas.{additions_do, additions_fail, removals_fail}
use Rattle.taxii_service.proofs.perform.perform.Goals as goal

pub returns-in-Add-clause-ok : goal.returns-in-Add-clause-ok
returns-in-Add-clause-ok g c =
    additions_do c.args.config.now c.args.state.now c.add_objects.new.state c.args.moment c.args.body.now c.args.query c.in-Add.info.now
    (operation_of c.args.operation) c.add_objects.result (ap operation_of c.in-Add.is) c.add_objects.ensures.ok

pub returns-in-Add-clause-err : goal.returns-in-Add-clause-err
returns-in-Add-clause-err g c =
    additions_fail c.args.config.now c.args.state.now c.args.moment c.args.body.now c.args.query c.in-Add.info.now
    (operation_of c.args.operation) c.add_objects.result (ap operation_of c.in-Add.is) c.add_objects.ensures.err

pub returns-in_ok-id-in-Remove-clause-err : goal.returns-in_ok-id-in-Remove-clause-err
returns-in_ok-id-in-Remove-clause-err g c =
    removals_fail c.args.config.now c.args.state.now c.args.moment c.args.body.now c.args.query c.in-Remove.info.now c.in_ok-id-in-Remove.id (id_of c.in-Remove.id)
    (operation_of c.args.operation) c.delete_object.result c.in_ok-id-in-Remove.ensures (ap operation_of c.in-Remove.is) c.delete_object.ensures.err
