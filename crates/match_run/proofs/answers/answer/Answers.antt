use Rattle.std.proofs.Common.{◌≡◌, List, [], ◌∷◌, ◌++◌, length, map, sym, ap, subst, ◌∙◌, arith}
use Rattle.std.proofs.lemmas.List.{length-map}
use Rattle.match_bindings.specs.BindTree.{tree_of}
use Rattle.match_run.specs.inner.Rows.{with_bindings, IsAfterLog, log_row, EndsAtRow}
use Rattle.match_run.specs.declared.tally.Tally.{Tally}
use Rattle.match_run.specs.declared.match_end.MatchEnd.{MatchEnd}
use Rattle.match_run.proofs.RowsLemmas.{behind-more}
use Rattle.match_run.proofs.EndLemmas.{may_end, ends_row}
use Rattle.match_run.proofs.answers.answer.Goals as goal

pub end_of-requires : goal.end_of-requires
end_of-requires c =
    let b = c.requires.behind.2 in
    may_end c.in-Err.refusal c.args.matcher.now c.args.observation.now.last b.represents.runs c.requires.order
    (λ before time is. (c.in-Err.ensures.out_of_order before time).0 is)
    (λ e is. (c.in-Err.ensures.ended e).0 is)

pub returns-in-Ok-clause-row : goal.returns-in-Ok-clause-row
returns-in-Ok-clause-row c objects are log answers b =
    let m = c.args.matcher.now in
    let o = c.args.observation.now in
    let truths = c.args.truths.now in
    let binds = map tree_of c.in-Ok.binds in
    let same : length binds ≡ length c.in-Ok.binds = length-map c.in-Ok.binds tree_of in
    let count : c.len.result ≡ length binds = c.len.ensures ∙ sym same in
    let answered = c.in-Ok.ensures.answers log b.represents b.rows.order in
    record {
      truths = truths;
      are = are;
      behind = subst (λ (t : Tally). IsAfterLog m.pattern m.retained_limit c.take.new.self t (log ++ log_row o truths ∷ []) (answers ++ binds ∷ []))
          (sym (c.count.ensures ∙ ap (with_bindings c.args.tally.now o.number) count))
          (behind-more m.pattern m.retained_limit m c.take.new.self c.args.tally.now log answers o truths binds b
          c.requires.number (omega (arith, count)) answered.represents answered.order answered.answers answered.within_limit);
    }

pub returns-in-Err-clause-end : goal.returns-in-Err-clause-end
returns-in-Err-clause-end c objects are log answers b =
    let m = c.args.matcher.now in
    let o = c.args.observation.now in
    subst (λ (e : MatchEnd). EndsAtRow m.pattern m.retained_limit objects o log c.take.new.self e)
    (sym c.end_of.ensures.end)
    (ends_row objects o log m c.take.new.self c.args.truths.now c.in-Err.refusal are
    (λ number named is. c.in-Err.ensures.over_limit log b.represents b.rows.order number named is)
    (λ e is. c.in-Err.ensures.stopped e is))
