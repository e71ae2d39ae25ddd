use Rattle.std.proofs.lemmas.Bool.Decides.{Decides-eqb}
use Rattle.std.proofs.lemmas.Slice.Eq.{ends_is}
use Rattle.http_messages.proofs.ReplyHeadLemmas.{lacks_more}
use Rattle.http_messages.proofs.searching.lacking.Goals as goal
use Rattle.http_messages.proofs.searching.lacking.Goals.{then-ends_with, else-ends_with}

pub returns-else-ends_with-2-clause-lacks : goal.returns-else-ends_with-2-clause-lacks
returns-else-ends_with-2-clause-lacks c more few none =
    elim c.if-ends_with.branch [
      | then-ends_with w ↦ absurd (cc (c.if-ends_with-2.false, w.value-is))
      | else-ends_with w ↦ lacks_more _ more few
          (λ front is. let is_true = (ends_is Decides-eqb _ _ _ c.ends_with.ensures.value).1 front is in cc (is_true, w.if-ends_with.false))
          (λ front is. let is_true = (ends_is Decides-eqb _ _ _ w.ends_with-else-ends_with.ensures.value).1 front is in cc (is_true, c.if-ends_with-2.false, w.value-is))
          none
    ]
