use Rattle.std.proofs.Common.{◌≡◌, ◌++◌}
use Rattle.form_urlencoded.specs.Serialize.{serialized_text}
use Rattle.taxii_client.proofs.request.push_pair.Given as goal

abbrev pub invariant-loop-piece : goal.invariant-loop-piece
invariant-loop-piece l = l.text ++ serialized_text l.piece-iterator ≡ l.initial.text ++ serialized_text l.initial.piece-iterator
