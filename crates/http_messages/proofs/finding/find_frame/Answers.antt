use Rattle.http_messages.proofs.finding.find_frame.Goals as goal

pub without_head-requires : goal.without_head-requires
without_head-requires c = c.find.ensures.none c.in_default.is

pub returns-in_default-clause-found : goal.returns-in_default-clause-found
returns-in_default-clause-found c = c.without_head.ensures c.args.max_body
