-- The own rows of the observables, each with its section of STIX 2.1.
use Rattle.std.specs.Prelude.{List, [], ◌∷◌, neg_ℤ, pos, codes}
use Rattle.stix_objects.specs.declared.form.Precision.TheVariants.{Any}
use Rattle.stix_objects.specs.Form.{integer_in, one, Form, text, boolean, integer, time, ref, refs, texts, fields, hashes, listed}
use Rattle.stix_objects.specs.Row.{is_true, is_false, meets, absent, Row, required, optional, required_where, order, needs_one_of, excludes}

-- only a value: 6.10 mac-addr, 6.15 url
abbrev pub valued : List Row
valued = required (codes "value") text ∷ []

-- 6.1
abbrev pub artifact : List Row
artifact = optional (codes "mime_type") text ∷ optional (codes "payload_bin") text ∷ optional (codes "url") text
    ∷ required_where (codes "hashes") hashes (meets (codes "url") text)
    ∷ optional (codes "encryption_algorithm") text ∷ optional (codes "decryption_key") text
    ∷ needs_one_of (codes "payload_bin" ∷ []) (codes "payload_bin" ∷ codes "url" ∷ [])
    ∷ excludes (codes "url") (meets (codes "payload_bin") text ∷ meets (codes "url") text ∷ [])
    ∷ excludes (codes "decryption_key")
    (meets (codes "decryption_key") text ∷ absent (codes "encryption_algorithm") ∷ []) ∷ []

-- 6.2
abbrev pub autonomous_system : List Row
autonomous_system = required (codes "number") (integer 0 4294967295) ∷ optional (codes "name") text
    ∷ optional (codes "rir") text ∷ []

-- 6.3
abbrev pub directory : List Row
directory = required (codes "path") text ∷ optional (codes "path_enc") text ∷ optional (codes "ctime") time
    ∷ optional (codes "mtime") time ∷ optional (codes "atime") time
    ∷ optional (codes "contains_refs") (refs (codes "file" ∷ codes "directory" ∷ [])) ∷ []

-- 6.4
abbrev pub domain_name : List Row
domain_name = required (codes "value") text
    ∷ optional (codes "resolves_to_refs") (refs (codes "ipv4-addr" ∷ codes "ipv6-addr" ∷ codes "domain-name" ∷ [])) ∷ []

-- 6.5
abbrev pub email_addr : List Row
email_addr = required (codes "value") text ∷ optional (codes "display_name") text
    ∷ optional (codes "belongs_to_ref") (ref (codes "user-account" ∷ [])) ∷ []

-- 6.6
abbrev pub email_message : List Row
email_message = required (codes "is_multipart") boolean ∷ optional (codes "date") time
    ∷ optional (codes "content_type") text
    ∷ optional (codes "from_ref") (ref (codes "email-addr" ∷ []))
    ∷ optional (codes "sender_ref") (ref (codes "email-addr" ∷ []))
    ∷ optional (codes "to_refs") (refs (codes "email-addr" ∷ []))
    ∷ optional (codes "cc_refs") (refs (codes "email-addr" ∷ []))
    ∷ optional (codes "bcc_refs") (refs (codes "email-addr" ∷ []))
    ∷ optional (codes "message_id") text ∷ optional (codes "subject") text
    ∷ optional (codes "received_lines") texts ∷ optional (codes "additional_header_fields") fields
    ∷ optional (codes "body") text ∷ optional (codes "body_multipart") listed
    ∷ optional (codes "raw_email_ref") (ref (codes "artifact" ∷ []))
    ∷ excludes (codes "body") (is_true (codes "is_multipart") ∷ meets (codes "body") text ∷ [])
    ∷ excludes (codes "body_multipart")
    (is_false (codes "is_multipart") ∷ meets (codes "body_multipart") listed ∷ []) ∷ []

-- 6.7
abbrev pub file : List Row
file = optional (codes "hashes") hashes ∷ optional (codes "size") (integer 0 9007199254740991)
    ∷ optional (codes "name") text ∷ optional (codes "ctime") time ∷ optional (codes "mtime") time
    ∷ optional (codes "atime") time ∷ optional (codes "parent_directory_ref") (ref (codes "directory" ∷ []))
    ∷ needs_one_of (codes "name" ∷ []) (codes "hashes" ∷ codes "name" ∷ []) ∷ []

-- 6.8 ipv4-addr, 6.9 ipv6-addr
abbrev pub address : List Row
address = required (codes "value") text
    ∷ optional (codes "resolves_to_refs") (refs (codes "mac-addr" ∷ []))
    ∷ optional (codes "belongs_to_refs") (refs (codes "autonomous-system" ∷ [])) ∷ []

-- 6.11
abbrev pub mutex : List Row
mutex = required (codes "name") text ∷ []

-- the kinds of the source and the destination of network traffic
abbrev pub endpoints : Form
endpoints = ref (codes "ipv4-addr" ∷ codes "ipv6-addr" ∷ codes "mac-addr" ∷ codes "domain-name" ∷ [])

-- 6.12
abbrev pub network_traffic : List Row
network_traffic = optional (codes "start") time ∷ optional (codes "end") time ∷ optional (codes "is_active") boolean
    ∷ optional (codes "src_ref") endpoints ∷ optional (codes "dst_ref") endpoints
    ∷ optional (codes "src_port") (integer 0 65535) ∷ optional (codes "dst_port") (integer 0 65535)
    ∷ required (codes "protocols") texts ∷ order Any (codes "start") (codes "end")
    ∷ needs_one_of (codes "src_ref" ∷ []) (codes "src_ref" ∷ codes "dst_ref" ∷ [])
    ∷ excludes (codes "end") (is_true (codes "is_active") ∷ meets (codes "end") time ∷ []) ∷ []

-- 6.13
abbrev pub process : List Row
process = optional (codes "is_hidden") boolean ∷ optional (codes "pid") (integer 0 9007199254740991)
    ∷ optional (codes "created_time") time ∷ optional (codes "cwd") text ∷ optional (codes "command_line") text
    ∷ optional (codes "environment_variables") fields
    ∷ optional (codes "opened_connection_refs") (refs (codes "network-traffic" ∷ []))
    ∷ optional (codes "creator_user_ref") (ref (codes "user-account" ∷ []))
    ∷ optional (codes "image_ref") (ref (codes "file" ∷ []))
    ∷ optional (codes "parent_ref") (ref (codes "process" ∷ []))
    ∷ optional (codes "child_refs") (refs (codes "process" ∷ []))
    ∷ needs_one_of [] (codes "is_hidden" ∷ codes "pid" ∷ codes "created_time" ∷ codes "cwd" ∷ codes "command_line"
    ∷ codes "environment_variables" ∷ codes "opened_connection_refs" ∷ codes "creator_user_ref"
    ∷ codes "image_ref" ∷ codes "parent_ref" ∷ codes "child_refs" ∷ codes "extensions" ∷ []) ∷ []

-- 6.14
abbrev pub software : List Row
software = required (codes "name") text ∷ optional (codes "cpe") text ∷ optional (codes "swid") text
    ∷ optional (codes "languages") texts ∷ optional (codes "vendor") text ∷ optional (codes "version") text ∷ []

-- 6.16
abbrev pub user_account : List Row
user_account = optional (codes "user_id") text ∷ optional (codes "credential") text
    ∷ optional (codes "account_login") text ∷ optional (codes "account_type") text
    ∷ optional (codes "display_name") text ∷ optional (codes "is_service_account") boolean
    ∷ optional (codes "is_privileged") boolean ∷ optional (codes "can_escalate_privs") boolean
    ∷ optional (codes "is_disabled") boolean ∷ optional (codes "account_created") time
    ∷ optional (codes "account_expires") time ∷ optional (codes "credential_last_changed") time
    ∷ optional (codes "account_first_login") time ∷ optional (codes "account_last_login") time ∷ []

-- 6.17
abbrev pub windows_registry_key : List Row
windows_registry_key = optional (codes "key") text ∷ optional (codes "values") listed
    ∷ optional (codes "modified_time") time ∷ optional (codes "creator_user_ref") (ref (codes "user-account" ∷ []))
    ∷ optional (codes "number_of_subkeys") (integer 0 9007199254740991) ∷ []

-- 6.18
abbrev pub x509_certificate : List Row
x509_certificate = optional (codes "is_self_signed") boolean ∷ optional (codes "hashes") hashes
    ∷ optional (codes "version") text ∷ optional (codes "serial_number") text
    ∷ optional (codes "signature_algorithm") text ∷ optional (codes "issuer") text
    ∷ optional (codes "validity_not_before") time ∷ optional (codes "validity_not_after") time
    ∷ optional (codes "subject") text ∷ optional (codes "subject_public_key_algorithm") text
    ∷ optional (codes "subject_public_key_modulus") text
    ∷ optional (codes "subject_public_key_exponent") (one (integer_in (neg_ℤ (pos 9007199254740991)) (pos 9007199254740991)))
    ∷ optional (codes "x509_v3_extensions") fields
    ∷ needs_one_of [] (codes "is_self_signed" ∷ codes "hashes" ∷ codes "version" ∷ codes "serial_number"
    ∷ codes "signature_algorithm" ∷ codes "issuer" ∷ codes "validity_not_before" ∷ codes "validity_not_after"
    ∷ codes "subject" ∷ codes "subject_public_key_algorithm" ∷ codes "subject_public_key_modulus"
    ∷ codes "subject_public_key_exponent" ∷ codes "x509_v3_extensions" ∷ []) ∷ []
