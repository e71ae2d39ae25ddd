use Rattle.std.proofs.Common.{◌≡◌, ◌==◌, true, false, List, ℕ, Bor, length, ap, sym, ◌∙◌}
use Rattle.http_messages.proofs.ReplyCheckLemmas.{some_lengths}
use Rattle.http_messages.proofs.reply_checking.state_no_length.Goals as goal

pub returns-else-is_empty : goal.returns-else-is_empty
returns-else-is_empty c =
    some_lengths c.args.values.now c.first_length.result c.all_state.result
    (λ none. let e : true ≡ false = ap (λ (xs : List (Bor (List ℕ))). length xs == 0) (sym none) ∙ sym c.is_empty.ensures ∙ c.if-is_empty.false in cc e)
    c.first_length.ensures.number c.all_state.ensures
