use Rattle.std.proofs.Common.{[], ◌∷◌}
use Rattle.serde_json.specs.Find.{as_object}
use Rattle.stix_objects.specs.declared.rule.Rule.TheVariants.{NotObject}
use Rattle.stix_objects.specs.BreakAt.{here, break_of}
use Rattle.stix_objects.specs.Breaks.{AreBreaksBy, rows_for, type_of}
use Rattle.stix_objects.proofs.BreaksLemmas.{breaks_one, list_one}
use Rattle.stix_objects.proofs.laws.one_list.Goals as goal

pub returns : goal.returns
returns c = λ value first second one other.
    list_one (as_object value) (break_of (here NotObject) ∷ []) (AreBreaksBy (rows_for (type_of value)) value) (breaks_one (rows_for (type_of value)) value) first second one other
