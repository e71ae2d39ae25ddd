use Rattle.std.proofs.Common.{rules, ℕ, ◌==◌}
use Rattle.std.proofs.lemmas.Iterator.Search.{any_from_yields_List}
use Rattle.std.proofs.lemmas.Iterator.Splits.{YieldsList-from_slice_split}
use Rattle.http_messages.specs.Fields.{is_close}
use Rattle.http_messages.proofs.close.asks_to_close.Goals as goal

pub returns : goal.returns
returns c =
    any_from_yields_List is_close _ _ _ c.any.ensures.ran
    (YieldsList-from_slice_split _ (λ (byte : ℕ). byte == 44) c.args.value.now c.split.ensures.rest c.split.ensures.done c.split.ensures.closure (λ x b q k. search rules))
    (λ x b q k. search rules)
