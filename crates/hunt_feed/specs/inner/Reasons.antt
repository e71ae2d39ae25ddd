-- For private clauses: a refusal in parts, borrowed.
use Rattle.std.specs.Prelude.{ℕ, List, [], ◌∷◌, ◌++◌, codes}
use Rattle.match_input.specs.Texts.{text_at_path}
use Rattle.hunt_feed.specs.declared.refusal_text.Reason.{Reason}

abbrev pub feed_reason_text : Reason → List ℕ
feed_reason_text reason = text_at_path (reason.name.now ++ reason.rule.now) reason.path.now
