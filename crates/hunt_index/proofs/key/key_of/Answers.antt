use Rattle.std.proofs.Common.{rules, ◌≡◌, w64, to_z, of_z}
use Rattle.std.proofs.lemmas.Int.{to_z-of_z}
use Rattle.hunt_index.proofs.IndexKeyLemmas.{text_key, text_answers, whole_answers}
use Rattle.hunt_index.proofs.key.key_of.Goals as goal

pub returns-in-String-clause-stands : goal.returns-in-String-clause-stands
returns-in-String-clause-stands c = text_key c.args.constant.now c.in-String.text c.as_str.result c.in-String.is c.as_str.ensures

pub returns-in-String-clause-answers : goal.returns-in-String-clause-answers
returns-in-String-clause-answers c = text_answers c.args.constant.now c.in-String.text c.as_str.result c.in-String.is c.as_str.ensures

pub returns-in-Integer-clause-answers : goal.returns-in-Integer-clause-answers
returns-in-Integer-clause-answers c =
    let whole = c.in-Integer.whole in
    let same : to_z w64 (of_z w64 whole) ≡ whole = to_z-of_z w64 whole (search rules) in
    whole_answers c.args.constant.now whole (to_z w64 (of_z w64 whole)) c.in-Integer.is same
