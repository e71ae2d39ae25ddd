use Rattle.std.proofs.Common.{ℕ, sym, subst}
use Rattle.http_messages.specs.RequestHeads.{IsHeadAt}
use Rattle.http_messages.proofs.SearchLemmas.{finds_head, searched_to, next_is}
use Rattle.http_messages.proofs.search.HeadSearch.find.Goals as goal

pub returns-in-Some-clause-found : goal.returns-in-Some-clause-found
returns-in-Some-clause-found c =
    subst (λ (end : ℕ). IsHeadAt c.args.bytes.now c.skip_line_ends-start.result end) (sym c.end_of_head.ensures)
    (finds_head _ c.args.self.now _ _ _ c.requires c.skip_line_ends-start.ensures c.max-from.ensures c.in-Some.ensures.some)

pub returns-in-Some-clause-searched : goal.returns-in-Some-clause-searched
returns-in-Some-clause-searched c =
    searched_to _ c.args.self.now _ _ _ c.requires c.skip_line_ends-start.ensures c.max-from.ensures c.in-Some.ensures.some
    (next_is _ _ _ _ c.passed-next.ensures c.in-Some.is)
