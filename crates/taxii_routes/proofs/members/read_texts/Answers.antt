use Rattle.std.proofs.Common.{◌++◌, [], ◌∷◌, List, ℕ, ap, ◌∙◌}
use Rattle.taxii_routes.proofs.MembersLemmas.{text_at, texts_next, texts_stop, none_if_empty, some_if_full}
use Rattle.taxii_routes.proofs.members.read_texts.Goals as goal

pub returns-then-is_empty : goal.returns-then-is_empty
returns-then-is_empty c =
    let items = c.deref-member-items.result.now in
    let i = c.loop-member.member-index in
    texts_stop c.args.value.now items c.loop-member.texts i c.loop-member.invariant c.loop-member-test.true (none_if_empty (text_at items i) c.is_empty.result c.is_empty.ensures c.if-is_empty.true)

pub loop-member-preserved : goal.loop-member-preserved
loop-member-preserved c =
    let items = c.deref-member-items.result.now in
    let i = c.loop-member.member-index in
    texts_next c.args.value.now items c.loop-member.texts c.push.new.self i c.loop-member.invariant c.loop-member-test.true
    (some_if_full (text_at items i) c.is_empty.result c.is_empty.ensures c.if-is_empty.false)
    (c.in_ok-push.ensures.ok ∙ ap (λ (text : List ℕ). c.loop-member.texts ++ text ∷ []) c.in_ok-from_text.ensures)
