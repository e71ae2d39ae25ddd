-- What is told of entries, one more of them, and of those of a page.
use Rattle.std.proofs.Common.{◌≡◌, ℕ, zero, suc, ◌<◌, List, [], ◌∷◌, ◌++◌, length, take, drop, Option, None, Some, refl, get_or, sym, ap, subst, ◌∙◌, append_assoc, arith}
use Rattle.std.proofs.lemmas.List.{append-nil}
use Rattle.command_reasons.proofs.WritesWholeLemmas.{front_part}
use Rattle.std.specs.Prelude.{All, Result, Ok, Err, OnErr}
use Rattle.flow_edges.specs.Flow.{written_with, WritesPrefix}
use Rattle.serde_json.specs.Data.{Items, no_items, item}
use Rattle.stix_json.specs.Ordered.{IsOrdered}
use Rattle.stix_json.specs.Entries.{AreEntriesFor}
use Rattle.stix_json.specs.Reading.{IsEntryFor}
use Rattle.stix_json.specs.declared.entry.Entry.{Entry}
use Rattle.stix_json.specs.declared.entry.Entry.TheVariants.{Good, Bad}
use Rattle.serde_json.specs.Data.{Data}
use Rattle.taxii_client.specs.Telling.{line_of, told_of, IsWritableEntry}

-- what stands in the entries of a page can be written
one-writable : (d : Data) (entry : Entry) → IsEntryFor d entry → IsWritableEntry entry
one-writable d (Good json) is = subst IsOrdered (sym is.same) is.ordered
one-writable d (Bad refusal) is = tt

pub all-writable : (items : Items) (entries : List Entry) → AreEntriesFor items entries → All IsWritableEntry entries
all-writable no_items [] are k e within = absurd (omega (arith, within))
all-writable no_items (entry ∷ entries) are k e within = absurd are
all-writable (item d items) [] are k e within = absurd (omega (arith, within))
all-writable (item d items) (entry ∷ entries) are zero e within = one-writable d entry are.0
all-writable (item d items) (entry ∷ entries) are (suc k) e within = all-writable items entries are.1 k e (omega (arith, within))

pub written-none : (written : Option (List ℕ)) → written ≡ written_with [] written
written-none None = refl
written-none (Some bytes) = ap Some (sym (append-nil bytes))

pub written-more : (a b : List ℕ) (before mid now : Option (List ℕ)) → mid ≡ written_with a before → now ≡ written_with b mid → now ≡ written_with (a ++ b) before
written-more a b None mid now first second = second ∙ ap (λ (m : Option (List ℕ)). written_with b m) first
written-more a b (Some l) mid now first second = second ∙ ap (λ (m : Option (List ℕ)). written_with b m) first ∙ ap Some (append_assoc l a b)

observable-cut : (i : ℕ) (entries : List Entry) (entry : Entry) → i < length entries → entry ≡ get_or entries i entry
    → told_of entries ≡ (told_of (take i entries) ++ line_of entry) ++ told_of (drop (suc i) entries)
observable-cut i [] entry within is = absurd (omega (arith, within))
observable-cut zero (first ∷ entries) entry within is = ap (λ (e : Entry). line_of e ++ told_of entries) (sym is)
observable-cut (suc i) (first ∷ entries) entry within is =
    ap (λ (t : List ℕ). line_of first ++ t) (observable-cut i entries entry (omega (arith, within)) is)
    ∙ sym (append_assoc (line_of first) (told_of (take i entries) ++ line_of entry) (told_of (drop (suc i) entries)))
    ∙ ap (λ (t : List ℕ). t ++ told_of (drop (suc i) entries)) (sym (append_assoc (line_of first) (told_of (take i entries)) (line_of entry)))

-- of the first entries and one more a prefix is written, and so of all
pub cut-of-page : (entries : List Entry) (i : ℕ) (entry : Entry) (first written : Option (List ℕ)) → i < length entries → entry ≡ get_or entries i entry
    → WritesPrefix (told_of (take i entries) ++ line_of entry) first written → WritesPrefix (told_of entries) first written
cut-of-page entries i entry first written within is prefix =
    subst (λ (t : List ℕ). WritesPrefix t first written) (sym (observable-cut i entries entry within is))
    (front_part (told_of (take i entries) ++ line_of entry) (told_of (drop (suc i) entries)) first written prefix)

pub fails_so : {T E P : Type 0} (answer : Result T E) → P → OnErr answer P
fails_so (Ok value) fact = tt
fails_so (Err refusal) fact = fact
