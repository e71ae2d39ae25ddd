-- What is read has its names in ascending order.
use Rattle.std.proofs.Common.{◌≡◌, ℕ, List, Option, Some, None, option_map, option_and_then, Ordering, Less, Equal, Greater, nat_cmp, refl, sym, ap, subst, ◌∙◌}
use Rattle.std.specs.Prelude.{⊤}
use Rattle.std.proofs.lemmas.Cmp.{nat_list_cmp_total}
use Rattle.std.specs.Cmp.Lexicographic.{slice_cmp}
use Rattle.std.specs.Ordering.{ordering_reverse, match_ordering}
use Rattle.json.specs.Lex.{tokens}
use Rattle.json.specs.Json as json
use Rattle.serde_json.specs.Data.{Num, Data, null, boolean, number, string, array, object, Items, item, Members, no_members, member, put}
use Rattle.serde_json.specs.Find.{get, get_member}
use Rattle.serde_json.specs.Read.{of_json, of_items, of_members, number_of, read, max_depth}
use Rattle.stix_json.specs.declared.value.Json.{Json}
use Rattle.stix_json.specs.Refusal.{data_refusal}
use Rattle.stix_json.specs.Reading.{IsValueOf, IsJsonAs, IsJsonOf}
use Rattle.stix_json.specs.Ordered.{IsNameBefore, IsOrdered, ItemsAreOrdered, MembersAreOrdered}

abbrev pub On : {A : Type 0} → (A → Type 0) → Option A → Type 0
On P None = ⊤
On P (Some a) = P a

before_by : (l k m : List ℕ) (d e : Data) (ms more : Members) → slice_cmp nat_cmp l k ≡ Less → slice_cmp nat_cmp l m ≡ Less → (o : Ordering)
    → IsNameBefore l (match_ordering o (member k d (member m e ms)) (member m d ms) (member m e more))
before_by l k m d e ms more less h Less = less
before_by l k m d e ms more less h Equal = h
before_by l k m d e ms more less h Greater = h

pub insert_before : (l k : List ℕ) (d : Data) (ms : Members) → slice_cmp nat_cmp l k ≡ Less → IsNameBefore l ms → IsNameBefore l (put k d ms)
insert_before l k d no_members less h = less
insert_before l k d (member m e ms) less h = before_by l k m d e ms (put k d ms) less h (slice_cmp nat_cmp k m)

pub turned : (k l : List ℕ) → slice_cmp nat_cmp k l ≡ Greater → slice_cmp nat_cmp l k ≡ Less
turned k l is = nat_list_cmp_total.antisymm l k ∙ ap ordering_reverse is

insert_by : (k l : List ℕ) (d e : Data) (ms more : Members) → IsOrdered d → MembersAreOrdered (member l e ms) → (slice_cmp nat_cmp l k ≡ Less → IsNameBefore l more) → MembersAreOrdered more
    → (o : Ordering) → slice_cmp nat_cmp k l ≡ o → MembersAreOrdered (match_ordering o (member k d (member l e ms)) (member l d ms) (member l e more))
insert_by k l d e ms more hd h above rest Less is = (is, hd, h)
insert_by k l d e ms more hd h above rest Equal is = (h.0, hd, h.2)
insert_by k l d e ms more hd h above rest Greater is = (above (turned k l is), h.1, rest)

pub insert_ordered : (k : List ℕ) (d : Data) (ms : Members) → IsOrdered d → MembersAreOrdered ms → MembersAreOrdered (put k d ms)
insert_ordered k d no_members hd h = (tt, hd, tt)
insert_ordered k d (member l e ms) hd h =
    insert_by k l d e ms (put k d ms) hd h (λ less. insert_before l k d ms less h.0) (insert_ordered k d ms hd h.2) (slice_cmp nat_cmp k l) refl

bound : {B : Type 0} (P : B → Type 0) (f : Data → Option B) → ((d : Data) → IsOrdered d → On P (f d)) → (o : Option Data) → On IsOrdered o → On P (option_and_then f o)
bound P f next None h = tt
bound P f next (Some d) h = next d h

numbers : (o : Option Num) → On IsOrdered (option_map number o)
numbers None = tt
numbers (Some n) = tt

arrays : (o : Option Items) → On ItemsAreOrdered o → On IsOrdered (option_map array o)
arrays None h = tt
arrays (Some ds) h = h

objects : (o : Option Members) → On MembersAreOrdered o → On IsOrdered (option_map object o)
objects None h = tt
objects (Some ms) h = h

both : (o : Option Data) (p : Option Items) → On IsOrdered o → On ItemsAreOrdered p → On ItemsAreOrdered (option_and_then (λ d. option_map (item d) p) o)
both None p h k = tt
both (Some d) None h k = tt
both (Some d) (Some ds) h k = (h, k)

mutual
  pub json_ordered : (j : json.Json) → On IsOrdered (of_json j)
  json_ordered json.null = tt
  json_ordered (json.boolean b) = tt
  json_ordered (json.number s) = numbers (number_of s)
  json_ordered (json.string s) = tt
  json_ordered (json.array js) = arrays (of_items js) (items_ordered js)
  json_ordered (json.object ms) = objects (of_members ms no_members) (members_ordered ms no_members tt)

  items_ordered : (js : json.Items) → On ItemsAreOrdered (of_items js)
  items_ordered json.no_items = tt
  items_ordered (json.item j js) = both (of_json j) (of_items js) (json_ordered j) (items_ordered js)

  members_ordered : (ms : json.Members) (found : Members) → MembersAreOrdered found → On MembersAreOrdered (of_members ms found)
  members_ordered json.no_members found h = h
  members_ordered (json.member k j ms) found h =
      bound MembersAreOrdered (λ d. of_members ms (put k d found)) (λ d hd. members_ordered ms (put k d found) (insert_ordered k d found hd h)) (of_json j) (json_ordered j)

whole_ordered : (o : Option json.Json) → On IsOrdered (option_and_then of_json o)
whole_ordered None = tt
whole_ordered (Some j) = json_ordered j

pub on_some : (o : Option Data) (d : Data) → o ≡ Some d → On IsOrdered o → IsOrdered d
on_some o d is h = rw is at h

pub read_ordered : (text : List ℕ) (d : Data) → read text ≡ Some d → IsOrdered d
read_ordered text d is = on_some (read text) d is (whole_ordered (option_and_then (λ p. json.if_last p.0 p.1) (json.value max_depth (tokens text))))

-- a Json that is the value of some bytes and has nothing refused is theirs
pub json_of : (bytes : List ℕ) (d : Data) (value : Json) → IsValueOf bytes d → IsJsonAs d value → IsJsonOf bytes value
json_of bytes d value read good =
    let Q : Data → Type 0 = λ e. IsValueOf bytes e in
    let R : Data → Type 0 = λ e. data_refusal e ≡ None in
    record {
      value = subst Q (sym good.same) read;
      good = subst R (sym good.same) good.good;
      ordered = subst IsOrdered (sym good.same) good.ordered;
    }

pub value_ordered : (bytes : List ℕ) (d : Data) → IsValueOf bytes d → IsOrdered d
value_ordered bytes d value = read_ordered bytes d value.value

found_ordered : (o : Ordering) (e : Data) (later : Option Data) → IsOrdered e → On IsOrdered later → On IsOrdered (match_ordering o later (Some e) later)
found_ordered Less e later he hl = hl
found_ordered Equal e later he hl = he
found_ordered Greater e later he hl = hl

member_ordered : (name : List ℕ) (ms : Members) → MembersAreOrdered ms → On IsOrdered (get_member name ms)
member_ordered name no_members h = tt
member_ordered name (member l e ms) h = found_ordered (slice_cmp nat_cmp name l) e (get_member name ms) h.1 (member_ordered name ms h.2)

-- the property of an ordered object is ordered
pub property_ordered : (object value : Data) (name : List ℕ) → IsOrdered object → get name object ≡ Some value → IsOrdered value
property_ordered null value name ordered is = absurd cc
property_ordered (boolean b) value name ordered is = absurd cc
property_ordered (number n) value name ordered is = absurd cc
property_ordered (string s) value name ordered is = absurd cc
property_ordered (array ds) value name ordered is = absurd cc
property_ordered (object ms) value name ordered is = on_some (get_member name ms) value is (member_ordered name ms ordered)
