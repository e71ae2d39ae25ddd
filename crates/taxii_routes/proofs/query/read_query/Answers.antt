use Rattle.std.proofs.Common.{◌≡◌, ◌⊎◌, sym, subst}
use Rattle.std.specs.Prelude.{IfErr}
use Rattle.std.proofs.lemmas.Result.{err_from_is_err_and}
use Rattle.form_urlencoded.specs.Parse.{raw_pairs_left}
use Rattle.taxii_routes.specs.declared.refusal.QueryRefusal.TheVariants.{NoMemory}
use Rattle.taxii_routes.specs.Query.{pairs_of, IsRefusedQuery}
use Rattle.taxii_routes.proofs.ReadsLemmas.{Reads, reads_on, reads_stop}
use Rattle.taxii_routes.proofs.query.read_query.Goals as goal

pub loop-name-preserved : goal.loop-name-preserved
loop-name-preserved c =
    let text = c.args.text.now in
    let left = raw_pairs_left c.next.new.self in
    let before = subst (λ pairs. Reads text pairs c.loop-name.query) c.in-Some.ensures.steps c.loop-name.invariant.2 in
    (tt, tt, reads_on text (c.in-Some.name.now, c.in-Some.value.now) left c.loop-name.query c.add_pair.new.self before c.in_ok-add_pair.ensures.ok)

pub returns-in_err-add_pair-clause-err : goal.returns-in_err-add_pair-clause-err
returns-in_err-add_pair-clause-err c =
    let text = c.args.text.now in
    let left = raw_pairs_left c.next.new.self in
    let before = subst (λ pairs. Reads text pairs c.loop-name.query) c.in-Some.ensures.steps c.loop-name.invariant.2 in
    let e = c.in_err-add_pair.field-0.0 in
    let stops = reads_stop text (c.in-Some.name.now, c.in-Some.value.now) left c.loop-name.query e before c.in_err-add_pair.ensures.err in
    let p = err_from_is_err_and c.from_residual.result c.from_residual.ensures.1 in
    subst (λ answer. IfErr answer (λ refusal. (refusal ≡ NoMemory) ⊎ IsRefusedQuery (pairs_of text) refusal)) (sym p.1)
    (subst (λ refusal. (refusal ≡ NoMemory) ⊎ IsRefusedQuery (pairs_of text) refusal) (sym p.2) stops)
