-- The common rows, in order (STIX 2.1, section 3.2, and for observables section 6). A row that some
-- groups require and others allow is two rows here.
use Rattle.std.specs.Prelude.{List, [], ◌∷◌, codes}
use Rattle.stix_objects.specs.declared.form.Precision.TheVariants.{Millis}
use Rattle.stix_objects.specs.declared.groups.Group.{Group}
use Rattle.stix_objects.specs.declared.groups.Group.TheVariants.{Domain, Marking, Observable, Other}
use Rattle.stix_objects.specs.Form.{kind, version, one, text, boolean, integer, millis, ref, refs, texts, fields, listed, external}
use Rattle.stix_objects.specs.Row.{required, optional, own_id, order, CommonRow, for, unless_own}

-- every group
abbrev pub all_groups : List Group
all_groups = Domain ∷ Marking ∷ Observable ∷ Other ∷ []

-- the domain and relationship objects, and the types without their own rows
abbrev pub domain_and_other : List Group
domain_and_other = Domain ∷ Other ∷ []

-- every group but the observables
abbrev pub all_but_observable : List Group
all_but_observable = Domain ∷ Marking ∷ Other ∷ []

-- the rows, each with the groups to which it applies
abbrev pub common_rows : List CommonRow
common_rows =
    for all_groups (required (codes "type") (one kind))
    ∷ for (Domain ∷ Marking ∷ []) (required (codes "spec_version") (one version))
    ∷ for (Observable ∷ Other ∷ []) (optional (codes "spec_version") (one version))
    ∷ for all_groups own_id
    ∷ for all_but_observable (optional (codes "created_by_ref") (ref (codes "identity" ∷ [])))
    ∷ for (Domain ∷ Marking ∷ []) (required (codes "created") millis)
    ∷ for (Other ∷ []) (optional (codes "created") millis)
    ∷ for (Domain ∷ []) (required (codes "modified") millis)
    ∷ for (Other ∷ []) (optional (codes "modified") millis)
    ∷ for domain_and_other (order Millis (codes "created") (codes "modified"))
    ∷ for domain_and_other (optional (codes "revoked") boolean)
    ∷ for domain_and_other (optional (codes "labels") texts)
    ∷ for domain_and_other (optional (codes "confidence") (integer 0 100))
    ∷ for domain_and_other (optional (codes "lang") text)
    ∷ for all_but_observable (optional (codes "external_references") external)
    ∷ for all_groups (optional (codes "object_marking_refs") (refs (codes "marking-definition" ∷ [])))
    ∷ for all_groups (optional (codes "granular_markings") listed)
    ∷ for all_groups (optional (codes "extensions") fields)
    ∷ for (Observable ∷ []) (optional (codes "defanged") boolean)
    ∷ unless_own (Domain ∷ []) (codes "name") (optional (codes "name") text)
    ∷ for (Domain ∷ []) (optional (codes "description") text)
    ∷ []
