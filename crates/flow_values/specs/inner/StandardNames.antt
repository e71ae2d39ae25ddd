-- For private clauses: the table of standard names, and the text of a name.
use Rattle.std.specs.Prelude.{ℕ, List, [], ◌∷◌, codes, slice_get, unwrap_or}
use Rattle.flow_values.specs.declared.name.NameForm.{NameForm}
use Rattle.flow_values.specs.declared.name.NameForm.TheVariants.{Given, Own}

abbrev pub standard_names : List (List ℕ)
standard_names = codes "id" ∷ codes "pid" ∷ codes "url" ∷ codes "key" ∷ codes "cwd" ∷ codes "type" ∷ codes "name" ∷ codes "lang" ∷ codes "path" ∷ codes "size" ∷ codes "body" ∷ codes "more" ∷ codes "next" ∷ codes "date" ∷ codes "file" ∷ codes "note" ∷ codes "tool" ∷ codes "value" ∷ codes "roles" ∷ codes "title" ∷ codes "mutex" ∷ codes "labels" ∷ codes "hashes" ∷ codes "number" ∷ codes "region" ∷ codes "report" ∷ codes "bundle" ∷ codes "objects" ∷ codes "created" ∷ codes "revoked" ∷ codes "pattern" ∷ codes "to_refs" ∷ codes "src_ref" ∷ codes "dst_ref" ∷ codes "user_id" ∷ codes "content" ∷ codes "version" ∷ codes "subject" ∷ codes "malware" ∷ codes "opinion" ∷ codes "process" ∷ codes "modified" ∷ codes "defanged" ∷ codes "src_port" ∷ codes "dst_port" ∷ codes "from_ref" ∷ codes "path_enc" ∷ codes "identity" ∷ codes "campaign" ∷ codes "grouping" ∷ codes "incident" ∷ codes "location" ∷ codes "sighting" ∷ codes "artifact" ∷ codes "mac-addr" ∷ codes "software" ∷ codes "last_seen" ∷ codes "protocols" ∷ codes "mime_type" ∷ codes "is_active" ∷ codes "is_hidden" ∷ codes "image_ref" ∷ codes "indicator" ∷ codes "ipv4-addr" ∷ codes "directory" ∷ codes "ipv6-addr" ∷ codes "confidence" ∷ codes "extensions" ∷ codes "first_seen" ∷ codes "valid_from" ∷ codes "source_ref" ∷ codes "target_ref" ∷ codes "parent_ref" ∷ codes "date_added" ∷ codes "media_type" ∷ codes "phase_name" ∷ codes "email-addr" ∷ codes "object_refs" ∷ codes "description" ∷ codes "valid_until" ∷ codes "source_name" ∷ codes "external_id" ∷ codes "domain-name" ∷ codes "spec_version" ∷ codes "pattern_type" ∷ codes "command_line" ∷ codes "created_time" ∷ codes "display_name" ∷ codes "account_type" ∷ codes "is_multipart" ∷ codes "relationship" ∷ codes "threat-actor" ∷ codes "user-account" ∷ codes "account_login" ∷ codes "last_observed" ∷ codes "observed-data" ∷ codes "intrusion-set" ∷ codes "vulnerability" ∷ codes "email-message" ∷ codes "created_by_ref" ∷ codes "first_observed" ∷ codes "attack-pattern" ∷ codes "infrastructure" ∷ codes "number_observed" ∷ codes "kill_chain_name" ∷ codes "indicator_types" ∷ codes "network-traffic" ∷ codes "resolves_to_refs" ∷ codes "course-of-action" ∷ codes "malware-analysis" ∷ codes "x509-certificate" ∷ codes "language-content" ∷ codes "kill_chain_phases" ∷ codes "relationship_type" ∷ codes "granular_markings" ∷ codes "autonomous-system" ∷ codes "marking-definition" ∷ codes "external_references" ∷ codes "object_marking_refs" ∷ codes "parent_directory_ref" ∷ codes "windows-registry-key" ∷ codes "extension-definition" ∷ codes "opened_connection_refs" ∷ []

-- the text of a name: its entry in the table, or its own copy
abbrev pub text_of_name : NameForm → List ℕ
text_of_name (Given index) = unwrap_or (slice_get standard_names index) []
text_of_name (Own text) = text.value
