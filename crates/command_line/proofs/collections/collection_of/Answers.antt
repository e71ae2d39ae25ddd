use Rattle.std.proofs.Common.{◌≡◌, Some, None, length, sym, ap, subst, arith}
use Rattle.std.proofs.lemmas.Bool.Decides.{nat_tests}
use Rattle.stix_ids.proofs.UuidLemmas.{length-uuid}
use Rattle.command_line.specs.CommandLines.{AreRights}
use Rattle.command_line.proofs.CollectionLemmas.{behind_rights, behind_uuid}
use Rattle.command_line.proofs.collections.collection_of.Goals as goal
use Rattle.command_line.proofs.collections.collection_of.Goals.{then-is_empty-via-then-is_empty, then-is_empty-via-else-is_empty+then-title-gt-MAX_TITLE}

pub returns-in_err-uuid-clause-none : goal.returns-in_err-uuid-clause-none
returns-in_err-uuid-clause-none c =
    rw c.from_residual.ensures (λ collection is. c.in_err-uuid.ensures.none is.uuid _ (length-uuid is.uuid collection.id is.id_is) is.argument_is)

pub returns-in_err-id-clause-none : goal.returns-in_err-id-clause-none
returns-in_err-id-clause-none c =
    rw c.from_residual-in_err-id.ensures (λ collection is.
    c.in_err-id.ensures.none (collection.id, (behind_uuid c.args.argument.now collection is c.in_ok-uuid.uuid.now c.in_ok-uuid.rest.now c.in_ok-uuid.ensures.some c.in_ok-uuid.ensures.long).0))

pub returns-in_err-rights-clause-none : goal.returns-in_err-rights-clause-none
returns-in_err-rights-clause-none c =
    rw c.from_residual-in_err-rights.ensures (λ collection is.
    behind_rights c.args.argument.now collection is c.in_ok-uuid.uuid.now c.in_ok-uuid.rest.now c.in_ok-uuid.ensures.some c.in_ok-uuid.ensures.long None c.in_err-rights.ensures.cases)

pub returns-in_err-can_read-clause-none : goal.returns-in_err-can_read-clause-none
returns-in_err-can_read-clause-none c =
    rw c.from_residual-in_err-can_read.ensures (λ collection is.
    let cut = behind_rights c.args.argument.now collection is c.in_ok-uuid.uuid.now c.in_ok-uuid.rest.now c.in_ok-uuid.ensures.some c.in_ok-uuid.ensures.long
    (Some (c.in_ok-rights.rights, c.in_ok-rights.title)) c.in_ok-rights.ensures.cases in
    c.in_err-can_read.ensures.none collection.can_read collection.can_write
    (subst (λ t. AreRights t collection.can_read collection.can_write) (sym cut.0) is.rights_are))

pub returns-then-is_empty-clause-none : goal.returns-then-is_empty-clause-none
returns-then-is_empty-clause-none c = λ collection is.
    let cut = behind_rights c.args.argument.now collection is c.in_ok-uuid.uuid.now c.in_ok-uuid.rest.now c.in_ok-uuid.ensures.some c.in_ok-uuid.ensures.long
    (Some (c.in_ok-rights.rights, c.in_ok-rights.title)) c.in_ok-rights.ensures.cases in
    let size : length c.in_ok-rights.title.now ≡ length collection.title = ap length cut.1 in
    let titled = is.titled in
    let short = is.short in
    elim c.then-is_empty.branch [
      | then-is_empty-via-then-is_empty w ↦ let empty = w.if-is_empty.true in grind (arith, nat_tests)
      | then-is_empty-via-else-is_empty+then-title-gt-MAX_TITLE w ↦ let long = w.if-title-gt-MAX_TITLE.true in absurd (omega arith)
    ]
