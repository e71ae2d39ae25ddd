-- The object types with their own rows, and the groups (STIX 2.1, sections 4 to 7).
use Rattle.std.specs.Prelude.{ℕ, List, [], ◌∷◌, Bool, Option, find, bytes_eq, codes, if◌then◌else◌}
use Rattle.std.specs.List.{list_any}
use Rattle.std.specs.Option.{option_map_or, option_or}
use Rattle.stix_objects.specs.declared.groups.Group.{Group}
use Rattle.stix_objects.specs.declared.groups.Group.TheVariants.{Domain, Marking, Observable, Other}
use Rattle.stix_objects.specs.Row.{Row, ObjectType}
use Rattle.stix_objects.specs.DomainTypes.{named, named_in_phases, named_and_seen, grouping, indicator, infrastructure, malware, malware_analysis, note, observed_data, opinion, report, relationship, sighting, marking_definition}
use Rattle.stix_objects.specs.ObservableTypes.{valued, artifact, autonomous_system, directory, domain_name, email_addr, email_message, file, address, mutex, network_traffic, process, software, user_account, windows_registry_key, x509_certificate}

-- a type of domain or relationship objects
abbrev pub domain : List ℕ → List Row → ObjectType
domain name rows = record { name = name; group = Domain; rows = rows }

-- a type of observables
abbrev pub observable : List ℕ → List Row → ObjectType
observable name rows = record { name = name; group = Observable; rows = rows }

-- the domain objects (section 4), the relationship objects (section 5) and the marking-definition (section 7.2.1)
abbrev pub domain_types : List ObjectType
domain_types =
    domain (codes "attack-pattern") named_in_phases
    ∷ domain (codes "campaign") named_and_seen
    ∷ domain (codes "course-of-action") named
    ∷ domain (codes "grouping") grouping
    ∷ domain (codes "identity") named
    ∷ domain (codes "indicator") indicator
    ∷ domain (codes "infrastructure") infrastructure
    ∷ domain (codes "intrusion-set") named_and_seen
    ∷ domain (codes "malware") malware
    ∷ domain (codes "malware-analysis") malware_analysis
    ∷ domain (codes "note") note
    ∷ domain (codes "observed-data") observed_data
    ∷ domain (codes "opinion") opinion
    ∷ domain (codes "report") report
    ∷ domain (codes "threat-actor") named_and_seen
    ∷ domain (codes "tool") named_in_phases
    ∷ domain (codes "vulnerability") named
    ∷ domain (codes "relationship") relationship
    ∷ domain (codes "sighting") sighting
    ∷ record { name = codes "marking-definition"; group = Marking; rows = marking_definition }
    ∷ []

-- the observables (section 6)
abbrev pub observable_types : List ObjectType
observable_types =
    observable (codes "artifact") artifact
    ∷ observable (codes "autonomous-system") autonomous_system
    ∷ observable (codes "directory") directory
    ∷ observable (codes "domain-name") domain_name
    ∷ observable (codes "email-addr") email_addr
    ∷ observable (codes "email-message") email_message
    ∷ observable (codes "file") file
    ∷ observable (codes "ipv4-addr") address
    ∷ observable (codes "ipv6-addr") address
    ∷ observable (codes "mac-addr") valued
    ∷ observable (codes "mutex") mutex
    ∷ observable (codes "network-traffic") network_traffic
    ∷ observable (codes "process") process
    ∷ observable (codes "software") software
    ∷ observable (codes "url") valued
    ∷ observable (codes "user-account") user_account
    ∷ observable (codes "windows-registry-key") windows_registry_key
    ∷ observable (codes "x509-certificate") x509_certificate
    ∷ []

-- the first of some types that has the name
abbrev pub first_named : List ℕ → List ObjectType → Option ObjectType
first_named name types = find (λ type. bytes_eq type.name name) types

-- the type of this name, if it has its own rows
abbrev pub type_named : List ℕ → Option ObjectType
type_named name = option_or (first_named name domain_types) (first_named name observable_types)

-- the group of a type, and Other without a type
abbrev pub group_in : Option ObjectType → Group
group_in found = option_map_or (λ type. type.group) found Other

-- the own rows of a type, and none without a type
abbrev pub own_rows : Option ObjectType → List Row
own_rows found = option_map_or (λ type. type.rows) found []

-- the group of a kind
abbrev pub group_of : List ℕ → Group
group_of name = group_in (type_named name)

-- the types whose rows were added in a later release
abbrev pub later_types : List (List ℕ)
later_types = codes "malware-analysis" ∷ codes "artifact" ∷ codes "email-message" ∷ codes "x509-certificate" ∷ []

-- whether a text is one of these
abbrev pub is_among : List ℕ → List (List ℕ) → Bool
is_among word any_text = list_any (λ known. bytes_eq known word) any_text

-- the group of a kind before the rows of the later types were added
abbrev pub group_before_of : List ℕ → Group
group_before_of name = if is_among name later_types then Other else group_of name
