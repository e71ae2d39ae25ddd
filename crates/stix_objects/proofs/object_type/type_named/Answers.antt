use Rattle.std.proofs.Common.{bytes_eq, ap, ◌∙◌}
use Rattle.std.proofs.lemmas.List.Folds.{find-append}
use Rattle.stix_objects.specs.Types.{domain_types, observable_types, first_named}
use Rattle.stix_objects.proofs.object_type.type_named.Goals as goal

pub returns : goal.returns
returns c =
    c.first_in.ensures ∙ ap (first_named c.args.name.now) c.type_tables.ensures
    ∙ find-append (λ type. bytes_eq type.name c.args.name.now) domain_types observable_types
