-- The names of a status are in order, whichever of its lists it has.
use Rattle.std.proofs.Common.{◌≡◌, ℕ, ◌+◌, List, [], ◌∷◌, ◌++◌, refl, ap, ◌∙◌, append_assoc, Option, Some, None}
use Rattle.std.specs.Prelude.{map, codes}
use Rattle.serde_json.specs.Data.{Data, unsigned, string, object, no_members, member}
use Rattle.serde_json.specs.Data as json
use Rattle.serde_json.specs.View.{items_of}
use Rattle.stix_json.specs.DataOf.{Member, members_of}
use Rattle.stix_json.specs.Ordered.{IsOrdered, ItemsAreOrdered, MembersAreOrdered}
use Rattle.taxii_bodies.specs.declared.details.Detail.{Detail}
use Rattle.taxii_bodies.specs.declared.status.StatusReport.{StatusReport}
use Rattle.taxii_bodies.specs.Page.{list_before}
use Rattle.taxii_bodies.specs.inner.Members.{list_member, middle_members}
use Rattle.taxii_bodies.specs.Status.{status_id_of, message_before, detail_data, status_data}

stated_ordered : (id version : List ℕ) (message : Option (List ℕ))
    → IsOrdered (object (member (codes "id") (string id) (message_before message (member (codes "version") (string version) no_members))))
stated_ordered id version (Some message) = (refl, tt, (refl, tt, (tt, tt, tt)))
stated_ordered id version None = (refl, tt, (tt, tt, tt))

details_ordered : (details : List Detail) → ItemsAreOrdered (items_of (map detail_data details))
details_ordered [] = tt
details_ordered (detail ∷ details) = (stated_ordered detail.id detail.version detail.message, details_ordered details)

-- the last members, with a list of successes or without
last_ordered : (total : ℕ) (successes : List Data) → ItemsAreOrdered (items_of successes)
    → MembersAreOrdered (member (codes "success_count") (json.number (unsigned 0)) (list_before (codes "successes") successes (member (codes "total_count") (json.number (unsigned total)) no_members)))
last_ordered total [] ordered = (refl, tt, (tt, tt, tt))
last_ordered total (one ∷ more) ordered = (refl, tt, (refl, ordered, (tt, tt, tt)))

-- the status, of lists of any data
abbrev status_with : StatusReport → List ℕ → List Data → List Data → Data
status_with report moment failures successes = object
    (member (codes "failure_count") (json.number (unsigned report.failure_count))
    (list_before (codes "failures") failures
    (member (codes "id") (string (status_id_of report.number))
    (member (codes "pending_count") (json.number (unsigned 0))
    (member (codes "request_timestamp") (string moment)
    (member (codes "status") (string (codes "complete"))
    (member (codes "success_count") (json.number (unsigned report.success_count))
    (list_before (codes "successes") successes
    (member (codes "total_count") (json.number (unsigned (report.success_count + report.failure_count))) no_members)))))))))

-- all of them
members_ordered : (report : StatusReport) (moment : List ℕ) (failures successes : List Data) → ItemsAreOrdered (items_of failures) → ItemsAreOrdered (items_of successes)
    → IsOrdered (status_with report moment failures successes)
members_ordered report moment [] successes failed stored =
    let last = last_ordered (report.success_count + report.failure_count) successes stored in
    (refl, tt, (refl, tt, (refl, tt, (refl, tt, (refl, tt, last)))))
members_ordered report moment (one ∷ more) successes failed stored =
    let last = last_ordered (report.success_count + report.failure_count) successes stored in
    (refl, tt, (refl, failed, (refl, tt, (refl, tt, (refl, tt, (refl, tt, last))))))

pub status_ordered : (report : StatusReport) (moment : List ℕ) → IsOrdered (status_data report moment)
status_ordered report moment =
    members_ordered report moment (map detail_data report.failures) (map detail_data report.successes)
    (details_ordered report.failures) (details_ordered report.successes)

-- the members in a row, as they are added
abbrev pub added_members : StatusReport → List ℕ → List Data → List Data → List Member
added_members report moment failures successes =
    ((((record { name = codes "failure_count"; value = json.number (unsigned report.failure_count) } ∷ []) ++ list_member (codes "failures") failures)
    ++ middle_members report moment) ++ list_member (codes "successes") successes)
    ++ record { name = codes "total_count"; value = json.number (unsigned (report.success_count + report.failure_count)) } ∷ []

all_members : (report : StatusReport) (moment : List ℕ) (failures successes : List Data)
    → object (members_of (added_members report moment failures successes)) ≡ status_with report moment failures successes
all_members report moment [] [] = refl
all_members report moment [] (stored ∷ successes) = refl
all_members report moment (failed ∷ failures) [] = refl
all_members report moment (failed ∷ failures) (stored ∷ successes) = refl

status_made : (report : StatusReport) (moment : List ℕ)
    → object (members_of (added_members report moment (map detail_data report.failures) (map detail_data report.successes))) ≡ status_data report moment
status_made report moment = all_members report moment (map detail_data report.failures) (map detail_data report.successes)

-- the members after each step
pub status_joined : (report : StatusReport) (moment : List ℕ) (zero one two three four five : List Member) (failures successes : List Detail)
    → zero ≡ [] → one ≡ zero ++ record { name = codes "failure_count"; value = json.number (unsigned report.failure_count) } ∷ []
    → two ≡ one ++ list_member (codes "failures") (map detail_data failures) → failures ≡ report.failures
    → three ≡ two ++ middle_members report moment
    → four ≡ three ++ list_member (codes "successes") (map detail_data successes) → successes ≡ report.successes
    → five ≡ four ++ record { name = codes "total_count"; value = json.number (unsigned (report.success_count + report.failure_count)) } ∷ []
    → object (members_of five) ≡ status_data report moment
status_joined report moment zero one two three four five failures successes is0 is1 is2 failed is3 is4 stored is5 =
    rw (is5, is4, is3, is2, is1, is0, failed, stored) (status_made report moment)

-- one member more, after some that were added
more : (old some now next : List Member) (m : Member) → now ≡ old ++ some → next ≡ now ++ m ∷ [] → next ≡ old ++ (some ++ m ∷ [])
more old some now next m before is = is ∙ ap (λ (ms : List Member). ms ++ m ∷ []) before ∙ append_assoc old some (m ∷ [])

-- the members between the two lists, one at a time
pub middle_joined : (old one two three four five : List Member) (a b c d e : Member)
    → one ≡ old ++ a ∷ [] → two ≡ one ++ b ∷ [] → three ≡ two ++ c ∷ [] → four ≡ three ++ d ∷ [] → five ≡ four ++ e ∷ []
    → five ≡ old ++ a ∷ b ∷ c ∷ d ∷ e ∷ []
middle_joined old one two three four five a b c d e is1 is2 is3 is4 is5 =
    more old (a ∷ b ∷ c ∷ d ∷ []) four five e (more old (a ∷ b ∷ c ∷ []) three four d (more old (a ∷ b ∷ []) two three c (more old (a ∷ []) one two b is1 is2) is3) is4) is5

-- the first of them by the text of its identifier
pub named_middle : (old : List Member) (report : StatusReport) (moment id : List ℕ) → id ≡ status_id_of report.number
    → old ++ record { name = codes "id"; value = string id }
    ∷ record { name = codes "pending_count"; value = json.number (unsigned 0) }
    ∷ record { name = codes "request_timestamp"; value = string moment }
    ∷ record { name = codes "status"; value = string (codes "complete") }
    ∷ record { name = codes "success_count"; value = json.number (unsigned report.success_count) }
    ∷ []
    ≡ old ++ middle_members report moment
named_middle old report moment id is = rw is refl
