use Rattle.std.proofs.Common.{arith, []}
use Rattle.http_messages.proofs.ReplyGrammarLemmas.{head_room, at_complete, not_partial, not_err}
use Rattle.http_messages.proofs.reply_grammar.parse.Goals as goal

pub returns-else-read-head-clause-none : goal.returns-else-read-head-clause-none
returns-else-read-head-clause-none c _ h reads =
    let room = head_room _ h [] reads in
    let is = at_complete _ c.parse_response.result c.in-Ok-Complete.read (c.parse_response.ensures.found h [] reads (omega (arith, room.0))) (cc (c.in-Ok-Complete.is, c.in-Ok-Complete.field-0-is, c.in-Ok-Complete.read-is)) in
    let len = is.len in
    absurd (c.if-read-head.false (omega (arith, len, room.1)))

pub returns-in-Ok-Partial-clause-none : goal.returns-in-Ok-Partial-clause-none
returns-in-Ok-Partial-clause-none c _ h reads =
    let room = head_room _ h [] reads in
    absurd (not_partial _ c.parse_response.result (c.parse_response.ensures.found h [] reads (omega (arith, room.0))) (cc (c.in-Ok-Partial.is, c.in-Ok-Partial.field-0-is)))

pub returns-in-Err-clause-none : goal.returns-in-Err-clause-none
returns-in-Err-clause-none c _ h reads =
    let room = head_room _ h [] reads in
    absurd (not_err _ c.parse_response.result (c.parse_response.ensures.found h [] reads (omega (arith, room.0))) c.in-Err.is)
