-- A page of sound rows, as a client reads it.
use Rattle.std.proofs.Common.{◌≡◌, ℕ, Bool, List, [], ◌∷◌, ◌++◌, All, Option, Some, None, option_map, codes, refl, sym, ap, subst, ◌∙◌}
use Rattle.std.specs.Prelude.{⊤, is_some, flat_map}
use Rattle.std.specs.List.{AllZip}
use Rattle.std.proofs.lemmas.List.Elements.{All-head, All-tail}
use Rattle.json.specs.Tree.{HasNumbers, ItemsHaveNumbers}
use Rattle.serde_json.specs.Data.{Data, Items}
use Rattle.serde_json.specs.Read.{of_json, of_items, read}
use Rattle.serde_json.specs.View.{items_of}
use Rattle.serde_json.specs.Written.{outline, items_outline, compact_text}
use Rattle.stix_json.specs.declared.entry.Entry.{Entry}
use Rattle.stix_json.specs.declared.entry.Entry.TheVariants.{Good, Bad}
use Rattle.stix_json.specs.declared.envelope.Envelope.{Envelope}
use Rattle.stix_json.specs.declared.refusal.JsonRefusal.{JsonRefusal}
use Rattle.stix_json.specs.declared.refusal.JsonRefusal.TheVariants.{NotJson, TooDeep, NotWhole, Null, OutOfRange, NotList, NoMemory}
use Rattle.stix_json.specs.DataOf.{data_of}
use Rattle.stix_json.specs.Refusal.{data_refusal}
use Rattle.stix_json.specs.Reading.{IsRefusalOf}
use Rattle.stix_json.specs.Entries.{AreEntriesFor, list_under}
use Rattle.stix_json.specs.Envelopes.{IsEnvelopeOf, more_in, next_in}
use Rattle.stix_json.proofs.WalkLemmas.{nothing_found}
use Rattle.stix_json.proofs.DataOfLemmas.{json_signs}
use Rattle.taxii_rows.specs.declared.stored_row.StoredRow.{StoredRow}
use Rattle.taxii_rows.specs.SoundRow.{IsRowOf, IsSoundRow}
use Rattle.taxii_bodies.specs.Envelope.{next_of, next_text, envelope_text, envelope_data}
use Rattle.taxii_client.specs.Telling.{told_of, bad_in}
use Rattle.taxii_theorems.specs.Reading.{stored_lines, IsPageReadAs}
use Rattle.taxii_theorems.proofs.TextLemmas.{has_numbers, read_as}

-- ---- the objects of rows

-- a value that is read back from its text, and isn't refused
pub record IsFine (d : Data) : Type 0 where
  pub numbers : HasNumbers (outline d)
  pub back : of_json (outline d) ≡ Some d
  pub good : data_refusal d ≡ None

abbrev AreFine : List Data → Type 0
AreFine [] = ⊤
AreFine (d ∷ ds) = IsFine d × AreFine ds

fine_object : (row : StoredRow) (sound : IsSoundRow row) → IsFine (data_of sound.object)
fine_object row sound =
    let d = data_of sound.object in
    let numbers : HasNumbers (outline d) = has_numbers d (json_signs sound.object) (nothing_found d sound.reads.good).1 in
    record {
      numbers = numbers;
      back = read_as d d numbers (subst (λ (text : List ℕ). read text ≡ Some d) sound.makes.compact sound.reads.value.value);
      good = sound.reads.good;
    }

-- the objects that make some rows
pub record Objects (rows : List StoredRow) : Type 0 where
  pub objects : List Data
  pub make : AllZip IsRowOf rows objects
  pub fine : AreFine objects

pub objects_of : (rows : List StoredRow) → All IsSoundRow rows → Objects rows
objects_of [] sound = record { objects = []; make = tt; fine = tt }
objects_of (row ∷ rows) sound =
    let first : IsSoundRow row = All-head IsSoundRow row rows sound in
    let rest = objects_of rows (All-tail IsSoundRow row rows sound) in
    record { objects = data_of first.object ∷ rest.objects; make = (first.makes, rest.make); fine = (fine_object row first, rest.fine) }

-- ---- the value of a page is read back

items_numbers : (ds : List Data) → AreFine ds → ItemsHaveNumbers (items_outline (items_of ds))
items_numbers [] fine = tt
items_numbers (d ∷ ds) (first, rest) = (first.numbers, items_numbers ds rest)

items_back : (ds : List Data) → AreFine ds → of_items (items_outline (items_of ds)) ≡ Some (items_of ds)
items_back [] fine = refl
items_back (d ∷ ds) (first, rest) = rw (first.back, items_back ds rest) refl

page_numbers : (next : Option ℕ) (ds : List Data) → AreFine ds → HasNumbers (outline (envelope_data next ds))
page_numbers None [] fine = (tt, tt)
page_numbers None (d ∷ ds) fine = (tt, (items_numbers (d ∷ ds) fine, tt))
page_numbers (Some date) [] fine = (tt, (tt, tt))
page_numbers (Some date) (d ∷ ds) fine = (tt, (tt, (items_numbers (d ∷ ds) fine, tt)))

page_back : (next : Option ℕ) (ds : List Data) → AreFine ds → of_json (outline (envelope_data next ds)) ≡ Some (envelope_data next ds)
page_back None [] fine = refl
page_back None (d ∷ ds) fine = rw (items_back (d ∷ ds) fine) refl
page_back (Some date) [] fine = refl
page_back (Some date) (d ∷ ds) fine = rw (items_back (d ∷ ds) fine) refl

-- ---- what stands in it

page_list : (next : Option ℕ) (ds : List Data) → list_under (codes "objects") (envelope_data next ds) ≡ Some (items_of ds)
page_list None [] = refl
page_list None (d ∷ ds) = refl
page_list (Some date) [] = refl
page_list (Some date) (d ∷ ds) = refl

page_more : (next : Option ℕ) (ds : List Data) → more_in (envelope_data next ds) ≡ Some (is_some next)
page_more None [] = refl
page_more None (d ∷ ds) = refl
page_more (Some date) [] = refl
page_more (Some date) (d ∷ ds) = refl

page_next : (next : Option ℕ) (ds : List Data) → next_in (is_some next) (envelope_data next ds) ≡ Some (option_map next_text next)
page_next None ds = refl
page_next (Some date) [] = refl
page_next (Some date) (d ∷ ds) = refl

-- ---- its entries

not_refused : (d : Data) (refusal : JsonRefusal) → data_refusal d ≡ None → IsRefusalOf d refusal → ⊥
not_refused d NotJson good is = is
not_refused d (TooDeep path) good is = cc
not_refused d (NotWhole path) good is = cc
not_refused d (Null path) good is = cc
not_refused d (OutOfRange path) good is = cc
not_refused d NotList good is = is
not_refused d NoMemory good is = is

told_lines : (ds : List Data) (entries : List Entry) → AreFine ds → AreEntriesFor (items_of ds) entries
    → told_of entries ≡ flat_map (λ d. compact_text d ++ codes "\n") ds
told_lines [] [] fine are = refl
told_lines [] (e ∷ entries) fine are = absurd are
told_lines (d ∷ ds) [] fine are = absurd are
told_lines (d ∷ ds) (Good json ∷ entries) (first, rest) (is, are) =
    ap (λ (own : Data). (compact_text own ++ codes "\n") ++ told_of entries) is.same
    ∙ ap (λ (more : List ℕ). (compact_text d ++ codes "\n") ++ more) (told_lines ds entries rest are)
told_lines (d ∷ ds) (Bad refusal ∷ entries) (first, rest) (is, are) = absurd (not_refused d refusal first.good is)

none_bad : (ds : List Data) (entries : List Entry) → AreFine ds → AreEntriesFor (items_of ds) entries → bad_in entries ≡ 0
none_bad [] [] fine are = refl
none_bad [] (e ∷ entries) fine are = absurd are
none_bad (d ∷ ds) [] fine are = absurd are
none_bad (d ∷ ds) (Good json ∷ entries) (first, rest) (is, are) = none_bad ds entries rest are
none_bad (d ∷ ds) (Bad refusal ∷ entries) (first, rest) (is, are) = absurd (not_refused d refusal first.good is)

row_lines : (rows : List StoredRow) (ds : List Data) → AllZip IsRowOf rows ds → flat_map (λ d. compact_text d ++ codes "\n") ds ≡ stored_lines rows
row_lines [] [] make = refl
row_lines [] (d ∷ ds) make = absurd make
row_lines (row ∷ rows) [] make = absurd make
row_lines (row ∷ rows) (d ∷ ds) (first, rest) =
    ap (λ (own : List ℕ). (own ++ codes "\n") ++ flat_map (λ e. compact_text e ++ codes "\n") ds) (sym first.compact)
    ∙ ap (λ (more : List ℕ). (row.body ++ codes "\n") ++ more) (row_lines rows ds rest)

-- ---- the whole

some_is : {A : Type 0} (a b : A) → Some a ≡ Some b → a ≡ b
some_is a b same = cc

-- the text of a page is the compact text of its value
abbrev pub AreJson : Type 0
AreJson = (rows : List StoredRow) (more : Bool) (objects : List Data) → AllZip IsRowOf rows objects
    → envelope_text rows more ≡ compact_text (envelope_data (next_of rows more) objects)

pub read_back : AreJson → (rows : List StoredRow) (more : Bool) (envelope : Envelope) → All IsSoundRow rows → IsEnvelopeOf (envelope_text rows more) envelope
    → IsPageReadAs rows more envelope
read_back are_json rows more envelope sound is = record {
  lines = told_lines own.objects envelope.entries own.fine checked ∙ row_lines rows own.objects own.make;
  none_bad = none_bad own.objects envelope.entries own.fine checked;
  more_is = more_is;
  next_is = some_is envelope.next (option_map next_text next)
      (sym is.next ∙ ap (λ (flag : Bool). next_in flag is.whole) more_is ∙ ap (next_in (is_some next)) whole_is ∙ page_next next own.objects);
}
  where
    own : Objects rows
    own = objects_of rows sound

    next : Option ℕ
    next = next_of rows more

    whole_is : is.whole ≡ envelope_data next own.objects
    whole_is = some_is is.whole (envelope_data next own.objects)
        (sym (read_as (envelope_data next own.objects) is.whole (page_numbers next own.objects own.fine)
        (subst (λ (text : List ℕ). read text ≡ Some is.whole) (are_json rows more own.objects own.make) is.value.value))
        ∙ page_back next own.objects own.fine)

    list_is : is.list ≡ items_of own.objects
    list_is = some_is is.list (items_of own.objects) (sym is.objects ∙ ap (list_under (codes "objects")) whole_is ∙ page_list next own.objects)

    checked : AreEntriesFor (items_of own.objects) envelope.entries
    checked = subst (λ (list : Items). AreEntriesFor list envelope.entries) list_is is.checked

    more_is : envelope.more ≡ is_some next
    more_is = some_is envelope.more (is_some next) (sym is.more ∙ ap more_in whole_is ∙ page_more next own.objects)
