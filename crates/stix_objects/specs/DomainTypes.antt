-- The own rows of the domain objects, the relationship objects and the marking-definition, each with its section of
-- STIX 2.1.
use Rattle.std.specs.Prelude.{List, [], ◌∷◌, ◌++◌, codes}
use Rattle.stix_objects.specs.declared.form.Precision.TheVariants.{Any}
use Rattle.stix_objects.specs.Form.{text, boolean, integer, time, ref, ref_any, refs, refs_any, texts, word, fields, phases}
use Rattle.stix_objects.specs.Row.{is_true, meets, Row, required, optional, required_where, order, strict_order, needs_one_of, excludes, statement, colour, colour_id}

-- only a name: 4.3 course-of-action, 4.5 identity, 4.19 vulnerability
abbrev pub named : List Row
named = required (codes "name") text ∷ []

-- when it was first and last seen
abbrev pub seen : List Row
seen = optional (codes "first_seen") time ∷ optional (codes "last_seen") time
    ∷ order Any (codes "first_seen") (codes "last_seen") ∷ []

-- 4.1 attack-pattern, 4.18 tool
abbrev pub named_in_phases : List Row
named_in_phases = required (codes "name") text ∷ optional (codes "kill_chain_phases") phases ∷ []

-- 4.2 campaign, 4.9 intrusion-set, 4.17 threat-actor
abbrev pub named_and_seen : List Row
named_and_seen = required (codes "name") text ∷ seen

-- 4.4
abbrev pub grouping : List Row
grouping = required (codes "context") text ∷ required (codes "object_refs") refs_any ∷ []

-- 4.7
abbrev pub indicator : List Row
indicator = required (codes "pattern") text ∷ required (codes "pattern_type") text
    ∷ required (codes "valid_from") time ∷ optional (codes "valid_until") time
    ∷ strict_order Any (codes "valid_from") (codes "valid_until") ∷ optional (codes "kill_chain_phases") phases ∷ []

-- 4.8
abbrev pub infrastructure : List Row
infrastructure = required (codes "name") text ∷ optional (codes "kill_chain_phases") phases ∷ seen

-- 4.11
abbrev pub malware : List Row
malware = required (codes "is_family") boolean ∷ required_where (codes "name") text (is_true (codes "is_family"))
    ∷ optional (codes "kill_chain_phases") phases ∷ seen

-- 4.12
abbrev pub malware_analysis : List Row
malware_analysis = required (codes "product") text ∷ optional (codes "version") text
    ∷ optional (codes "host_vm_ref") (ref (codes "software" ∷ []))
    ∷ optional (codes "operating_system_ref") (ref (codes "software" ∷ []))
    ∷ optional (codes "installed_software_refs") (refs (codes "software" ∷ []))
    ∷ optional (codes "configuration_version") text ∷ optional (codes "modules") texts
    ∷ optional (codes "analysis_engine_version") text ∷ optional (codes "analysis_definition_version") text
    ∷ optional (codes "submitted") time ∷ optional (codes "analysis_started") time
    ∷ optional (codes "analysis_ended") time ∷ optional (codes "result_name") text
    ∷ optional (codes "result") text ∷ optional (codes "analysis_sco_refs") refs_any
    ∷ optional (codes "sample_ref") ref_any
    ∷ needs_one_of (codes "result" ∷ []) (codes "result" ∷ codes "analysis_sco_refs" ∷ []) ∷ []

-- 4.13
abbrev pub note : List Row
note = required (codes "content") text ∷ required (codes "object_refs") refs_any ∷ []

-- 4.14
abbrev pub observed_data : List Row
observed_data = required (codes "first_observed") time ∷ required (codes "last_observed") time
    ∷ order Any (codes "first_observed") (codes "last_observed")
    ∷ required (codes "number_observed") (integer 1 999999999)
    ∷ optional (codes "objects") fields ∷ optional (codes "object_refs") refs_any
    ∷ needs_one_of (codes "object_refs" ∷ []) (codes "objects" ∷ codes "object_refs" ∷ [])
    ∷ excludes (codes "objects") (meets (codes "objects") fields ∷ meets (codes "object_refs") refs_any ∷ []) ∷ []

-- 4.15, with the values of opinion-enum
abbrev pub opinion : List Row
opinion = required (codes "opinion") (word (codes "strongly-disagree" ∷ codes "disagree" ∷ codes "neutral"
    ∷ codes "agree" ∷ codes "strongly-agree" ∷ []))
    ∷ required (codes "object_refs") refs_any ∷ []

-- 4.16
abbrev pub report : List Row
report = required (codes "name") text ∷ required (codes "published") time
    ∷ required (codes "object_refs") refs_any ∷ []

-- 5.1
abbrev pub relationship : List Row
relationship = required (codes "relationship_type") text ∷ required (codes "source_ref") ref_any
    ∷ required (codes "target_ref") ref_any ∷ optional (codes "start_time") time ∷ optional (codes "stop_time") time
    ∷ strict_order Any (codes "start_time") (codes "stop_time") ∷ []

-- 5.2
abbrev pub sighting : List Row
sighting = required (codes "sighting_of_ref") ref_any ∷ optional (codes "count") (integer 0 999999999)
    ∷ seen ++ optional (codes "observed_data_refs") (refs (codes "observed-data" ∷ []))
    ∷ optional (codes "where_sighted_refs") (refs (codes "identity" ∷ codes "location" ∷ []))
    ∷ optional (codes "summary") boolean ∷ []

-- 7.2.1 marking-definition, with the statement of 7.2.1.3 and the colours of 7.2.1.4
abbrev pub marking_definition : List Row
marking_definition = optional (codes "definition_type") text ∷ optional (codes "definition") fields
    ∷ statement ∷ colour ∷ colour_id ∷ []
