use Rattle.std.proofs.Common.{◌∙◌, sym, subst}
use Rattle.std.specs.Str.{IsUtf8}
use Rattle.http_messages.specs.Fields.{HeadParts}
use Rattle.http_messages.proofs.RequestCheckLemmas.{needs_more}
use Rattle.http_messages.proofs.request_checking.check.Goals as goal

pub returns-then-bytes-whole : goal.returns-then-bytes-whole
returns-then-bytes-whole c =
    needs_more _ _ c.args.start c.args.end c.in_ok-whole.field-0 c.new-head.result
    (record { head = c.requires.head; read = c.new-head.ensures; fine = sym c.in_ok-refusal.ensures ∙ c.in_default-2.is })
    c.in_ok-whole.ensures.length c.if-bytes-whole.true

pub request-requires-clause-target : goal.request-requires-clause-target
request-requires-clause-target c =
    subst (λ (h : HeadParts). IsUtf8 h.target) (sym c.new-head.ensures.parts_are) c.new-head.ensures.reads.0.target_text
