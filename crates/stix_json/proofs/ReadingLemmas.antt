-- The text of an ordered value reads as that value, where nothing in it is refused.
use Rattle.std.proofs.Common.{◌≡◌, ◌≤◌, ◌<◌, ◌+◌, ◌^◌, ℕ, zero, suc, Bool, true, false, cond, nat_le, List, [], Some, None, option_map, option_and_then, Less, Greater, nat_cmp, refl, sym, ap, ◌∙◌, pos, negsuc, append-nil, arith}
use Rattle.std.proofs.lemmas.Cmp.{nat_list_cmp_total}
use Rattle.std.specs.Cmp.Lexicographic.{slice_cmp}
use Rattle.std.specs.Ordering.{ordering_reverse}
use Rattle.std.specs.Prelude.{⊤, IsUtf8}
use Rattle.std.proofs.lemmas.Bool.Decides.{nat_tests}
use Rattle.serde_json.specs.Data.{Num, unsigned, negative, float, Data, null, boolean, number, string, array, object, Items, no_items, item, Members, no_members, member, put}
use Rattle.json.specs.Token.{Token}
use Rattle.json.specs.Lex.{tokens}
use Rattle.json.specs.Json as json
use Rattle.json.specs.Tree as tree
use Rattle.json.specs.Tree.{json_tokens}
use Rattle.json.proofs.Printed.Trees.{value-json_tokens}
use Rattle.serde_json.specs.Data.{depth, items_depth, members_depth}
use Rattle.serde_json.specs.Read.{of_json, of_items, of_members, number_of, read, max_depth}
use Rattle.serde_json.specs.Written.{outline, items_outline, members_outline, number_text}
use Rattle.serde_json.proofs.Numbers.{number_of-decimal, number_of-negative}
use Rattle.stix_json.specs.Ordered.{IsNameBefore, IsOrdered, ItemsAreOrdered, MembersAreOrdered}
use Rattle.stix_json.specs.Walk.{index_part}
use Rattle.stix_json.specs.DataOf.{data_of}
use Rattle.stix_json.specs.Refusal.{data_refusal}
use Rattle.stix_json.specs.Reading.{IsJsonOf}
use Rattle.stix_json.specs.inner.ValueErrors.{location_under, value_error_under, number_value_error, value_error_here, first_value_error, items_value_error, members_value_error, too_deep, items_too_deep, members_too_deep}
use Rattle.stix_json.specs.declared.limits.TheConstants.{MAX_LEVELS, MAX_SAFE_INTEGER}
use Rattle.stix_json.specs.declared.value_error.Reason.TheVariants.{OutOfRange as PastRange}
use Rattle.stix_json.specs.declared.value.Json.{Json}
use Rattle.stix_json.proofs.ValueErrorsLemmas.{option_or_none, option_map_none}
use Rattle.stix_json.proofs.WalkLemmas.{nothing_found}
use Rattle.stix_json.proofs.DataOfLemmas.{IsSigned, HasSigns, ItemsHaveSigns, MembersHaveSigns, json_signs}

abbrev snoc : Members → List ℕ → Data → Members
snoc no_members k d = member k d no_members
snoc (member l e ms) k d = member l e (snoc ms k d)

abbrev joined : Members → Members → Members
joined no_members ms = ms
joined (member l e found) ms = member l e (joined found ms)

abbrev AllBelow : List ℕ → Members → Type 0
AllBelow k no_members = ⊤
AllBelow k (member l e ms) = (slice_cmp nat_cmp l k ≡ Less) × AllBelow k ms

-- all found names come before the first of ms
abbrev IsNext : Members → Members → Type 0
IsNext found no_members = ⊤
IsNext found (member k d ms) = AllBelow k found

insert_end : (k : List ℕ) (d : Data) (found : Members) → AllBelow k found → put k d found ≡ snoc found k d
insert_end k d no_members h = refl
insert_end k d (member l e ms) h =
    let above : slice_cmp nat_cmp k l ≡ Greater = nat_list_cmp_total.antisymm k l ∙ ap ordering_reverse h.0 in
    rw above (ap (member l e) (insert_end k d ms h.1))

below_grown : (k l : List ℕ) (d : Data) (found : Members) → AllBelow k found → slice_cmp nat_cmp k l ≡ Less → AllBelow l (snoc found k d)
below_grown k l d no_members h less = (less, tt)
below_grown k l d (member m e ms) h less = (nat_list_cmp_total.trans m k l h.0 less, below_grown k l d ms h.1 less)

next_grown : (k : List ℕ) (d : Data) (found ms : Members) → AllBelow k found → IsNameBefore k ms → IsNext (snoc found k d) ms
next_grown k d found no_members h above = tt
next_grown k d found (member l e ms) h above = below_grown k l d found h above

joined_snoc : (found : Members) (k : List ℕ) (d : Data) (ms : Members) → joined (snoc found k d) ms ≡ joined found (member k d ms)
joined_snoc no_members k d ms = refl
joined_snoc (member l e found) k d ms = ap (member l e) (joined_snoc found k d ms)

joined_none : (found : Members) → joined found no_members ≡ found
joined_none no_members = refl
joined_none (member l e found) = ap (member l e) (joined_none found)

-- a whole number that its text reads as
abbrev IsWhole : Num → Type 0
IsWhole (unsigned n) = n < 2 ^ 64
IsWhole (negative (pos n)) = ⊥
IsWhole (negative (negsuc n)) = n < 2 ^ 63
IsWhole (float x) = ⊥

-- what a value needs so that its text reads as that value
abbrev mutual
  IsWritten : Data → Type 0
  IsWritten null = ⊤
  IsWritten (boolean b) = ⊤
  IsWritten (number n) = IsWhole n
  IsWritten (string s) = ⊤
  IsWritten (array ds) = ItemsAreWritten ds
  IsWritten (object ms) = MembersAreWritten ms

  ItemsAreWritten : Items → Type 0
  ItemsAreWritten no_items = ⊤
  ItemsAreWritten (item d ds) = IsWritten d × ItemsAreWritten ds

  MembersAreWritten : Members → Type 0
  MembersAreWritten no_members = ⊤
  MembersAreWritten (member k d ms) = IsNameBefore k ms × IsWritten d × MembersAreWritten ms

in_range : (b : Bool) → value_error_here (cond b None (Some PastRange)) ≡ None → b ≡ true
in_range true h = refl
in_range false h = absurd (cc)

small : (n : ℕ) → nat_le n MAX_SAFE_INTEGER ≡ true → n ≤ 9007199254740991
small n h = grind (arith, nat_tests)

whole : (n : Num) → IsSigned n → value_error_here (number_value_error n) ≡ None → IsWhole n
whole (unsigned n) signed good = let h = small n (in_range (nat_le n MAX_SAFE_INTEGER) good) in omega (arith, h)
whole (negative (pos n)) signed good = absurd signed
whole (negative (negsuc n)) signed good = let h = small (suc n) (in_range (nat_le (suc n) MAX_SAFE_INTEGER) good) in omega (arith, h)
whole (float x) signed good = absurd signed

mutual
  written : (d : Data) → IsOrdered d → HasSigns d → first_value_error d ≡ None → IsWritten d
  written null ordered signs good = tt
  written (boolean b) ordered signs good = tt
  written (number n) ordered signs good = whole n signs good
  written (string s) ordered signs good = tt
  written (array ds) ordered signs good = items_written 0 ds ordered signs good
  written (object ms) ordered signs good = members_written ms ordered signs good

  items_written : (at : ℕ) (ds : Items) → ItemsAreOrdered ds → ItemsHaveSigns ds → items_value_error at ds ≡ None → ItemsAreWritten ds
  items_written at no_items ordered signs good = tt
  items_written at (item d ds) ordered signs good =
      let parts = option_or_none (option_map (value_error_under (index_part at)) (first_value_error d)) (items_value_error (at + 1) ds) good in
      (written d ordered.0 signs.0 (option_map_none (value_error_under (index_part at)) (first_value_error d) parts.0), items_written (at + 1) ds ordered.1 signs.1 parts.1)

  members_written : (ms : Members) → MembersAreOrdered ms → MembersHaveSigns ms → members_value_error ms ≡ None → MembersAreWritten ms
  members_written no_members ordered signs good = tt
  members_written (member k d ms) ordered signs good =
      let parts = option_or_none (option_map (value_error_under k) (first_value_error d)) (members_value_error ms) good in
      (ordered.0, written d ordered.1 signs.0 (option_map_none (value_error_under k) (first_value_error d) parts.0), members_written ms ordered.2 signs.1 parts.1)

-- nothing too deep is nothing deeper than the levels left
mutual
  shallow : (left : ℕ) (d : Data) → too_deep left d ≡ None → depth d ≤ left
  shallow left null h = omega arith
  shallow left (boolean b) h = omega arith
  shallow left (number n) h = omega arith
  shallow left (string s) h = omega arith
  shallow zero (array ds) h = absurd (cc)
  shallow (suc left) (array ds) h = let k = items_shallow left 0 ds h in omega (arith, k)
  shallow zero (object ms) h = absurd (cc)
  shallow (suc left) (object ms) h = let k = members_shallow left ms h in omega (arith, k)

  items_shallow : (left at : ℕ) (ds : Items) → items_too_deep left at ds ≡ None → items_depth ds ≤ left
  items_shallow left at no_items h = omega arith
  items_shallow left at (item d ds) h =
      let parts = option_or_none (option_map (location_under (index_part at)) (too_deep left d)) (items_too_deep left (at + 1) ds) h in
      let first = shallow left d (option_map_none (location_under (index_part at)) (too_deep left d) parts.0) in
      let later = items_shallow left (at + 1) ds parts.1 in omega (arith, first, later)

  members_shallow : (left : ℕ) (ms : Members) → members_too_deep left ms ≡ None → members_depth ms ≤ left
  members_shallow left no_members h = omega arith
  members_shallow left (member k d ms) h =
      let parts = option_or_none (option_map (location_under k) (too_deep left d)) (members_too_deep left ms) h in
      let first = shallow left d (option_map_none (location_under k) (too_deep left d) parts.0) in
      let later = members_shallow left ms parts.1 in omega (arith, first, later)

number_back : (n : Num) → IsWhole n → number_of (number_text n) ≡ Some n
number_back (unsigned n) h = number_of-decimal n h
number_back (negative (pos n)) h = absurd h
number_back (negative (negsuc n)) h = number_of-negative n h
number_back (float x) h = absurd h

mutual
  pub of_outline : (d : Data) → IsWritten d → of_json (outline d) ≡ Some d
  of_outline null h = refl
  of_outline (boolean b) h = refl
  of_outline (number n) h = ap (option_map number) (number_back n h)
  of_outline (string s) h = refl
  of_outline (array ds) h = ap (option_map array) (of_items_outline ds h)
  of_outline (object ms) h = ap (option_map object) (of_members_outline no_members ms (next_none ms) h)

  of_items_outline : (ds : Items) → ItemsAreWritten ds → of_items (items_outline ds) ≡ Some ds
  of_items_outline no_items h = refl
  of_items_outline (item d ds) h = rw (of_outline d h.0, of_items_outline ds h.1) refl

  of_members_outline : (found ms : Members) → IsNext found ms → MembersAreWritten ms → of_members (members_outline ms) found ≡ Some (joined found ms)
  of_members_outline found no_members next h = ap Some (sym (joined_none found))
  of_members_outline found (member k d ms) next h =
      rw (of_outline d h.1, insert_end k d found next)
      (of_members_outline (snoc found k d) ms (next_grown k d found ms next h.0) h.2 ∙ ap Some (joined_snoc found k d ms))

  next_none : (ms : Members) → IsNext no_members ms
  next_none no_members = tt
  next_none (member k d ms) = tt

mutual
  depth_same : (d : Data) → tree.depth (outline d) ≤ depth d
  depth_same null = omega arith
  depth_same (boolean b) = omega arith
  depth_same (number n) = omega arith
  depth_same (string s) = omega arith
  depth_same (array ds) = let h = items_depth_same ds in omega (arith, h)
  depth_same (object ms) = let h = members_depth_same ms in omega (arith, h)

  items_depth_same : (ds : Items) → tree.items_depth (items_outline ds) ≤ items_depth ds
  items_depth_same no_items = omega arith
  items_depth_same (item d ds) = let h = depth_same d in let k = items_depth_same ds in omega (arith, h, k)

  members_depth_same : (ms : Members) → tree.members_depth (members_outline ms) ≤ members_depth ms
  members_depth_same no_members = omega arith
  members_depth_same (member n d ms) = let h = depth_same d in let k = members_depth_same ms in omega (arith, h, k)

text_back : (d : Data) (ts : List Token) (text : List ℕ) → IsWritten d → ts ≡ json_tokens (outline d) → tokens text ≡ ts → depth d ≤ max_depth → read text ≡ Some d
text_back d ts text ordered sent lexed shallow =
    ap (option_and_then (λ j. of_json j)) (ap (option_and_then (λ p. json.if_last p.0 p.1)) (ap (json.value max_depth) (lexed ∙ sent ∙ sym (append-nil _)) ∙ value-json_tokens (outline d) max_depth [] (let h = depth_same d in omega (arith, h, shallow)))) ∙ of_outline d ordered

-- the text of an ordered value with nothing refused is of that value
pub reads_back : (value : Json) (ts : List Token) (text : List ℕ) → IsOrdered (data_of value) → ts ≡ json_tokens (outline (data_of value)) → tokens text ≡ ts → IsUtf8 text
    → data_refusal (data_of value) ≡ None → IsJsonOf text value
reads_back value ts text ordered sent lexed utf8 good =
    let found = nothing_found (data_of value) good in
    let low : depth (data_of value) ≤ max_depth = let h = shallow MAX_LEVELS (data_of value) found.0 in omega (arith, h) in
    record {
      value = record { text = utf8; value = text_back (data_of value) ts text (written (data_of value) ordered (json_signs value) found.1) sent lexed low };
      good = good;
      ordered = ordered;
    }
