use Rattle.form_urlencoded.specs.Parse.{raw_pairs_left}
use Rattle.taxii_routes.proofs.ReadsLemmas.{Reads}
use Rattle.taxii_routes.proofs.query.read_query.Given as goal

abbrev pub invariant-loop-name : goal.invariant-loop-name
invariant-loop-name l =
    (goal.iterator-loop-name).can_next l.name-iterator ×
    (goal.iterator-loop-name).is_finite l.name-iterator ×
    Reads l.fn.text (raw_pairs_left l.name-iterator) l.query
