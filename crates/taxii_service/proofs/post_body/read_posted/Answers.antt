use Rattle.std.proofs.Common.{All, sym, subst}
use Rattle.taxii_service.specs.inner.Posting.{IsTakenEntry}
use Rattle.taxii_service.proofs.TakenLemmas.{taken_all}
use Rattle.taxii_service.proofs.post_body.read_posted.Goals as goal

pub check_entries-requires : goal.check_entries-requires
check_entries-requires c =
    let are = c.in-Ok.ensures.ok in
    subst (All IsTakenEntry) (sym c.into_vec.ensures) (taken_all are.list c.in-Ok.entries are.checked)

pub returns-in-Err-clause-err : goal.returns-in-Err-clause-err
returns-in-Err-clause-err c = c.refusal_of_body.ensures c.args.body.now c.in-Err.ensures.err
