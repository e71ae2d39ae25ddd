-- The numbers of a Json are below zero exactly where they are written with a sign.
use Rattle.std.proofs.Common.{List, [], ◌∷◌, map, pos, negsuc, ℤ, sym, subst}
use Rattle.std.specs.Prelude.{⊤}
use Rattle.serde_json.specs.Data.{Num, unsigned, negative, float, Data, null, boolean, number, string, array, object, Items, no_items, item, Members, no_members, member}
use Rattle.serde_json.specs.Find.{of_integer}
use Rattle.serde_json.specs.View.{items_of}
use Rattle.stix_json.specs.DataOf.{Member, members_of, data_of, json_level, field_level}
use Rattle.stix_json.specs.declared.value.Json.{Json}
use Rattle.stix_json.specs.declared.value.Field.{Field}
use Rattle.stix_json.specs.declared.value.Json.TheOpen.{Json-F, Field-F}
use Rattle.stix_json.specs.declared.value.Json.TheFolds.{map-Json, map-Field, fold-Field, fold-roll-Json, fold-roll-Field, ind-Json}
use Rattle.stix_json.specs.declared.value.Json.TheViews.{roll-Json, roll-Field}

abbrev pub IsSigned : Num → Type 0
IsSigned (unsigned n) = ⊤
IsSigned (negative (pos n)) = ⊥
IsSigned (negative (negsuc n)) = ⊤
IsSigned (float x) = ⊥

abbrev mutual
  pub HasSigns : Data → Type 0
  HasSigns null = ⊥
  HasSigns (boolean b) = ⊤
  HasSigns (number n) = IsSigned n
  HasSigns (string s) = ⊤
  HasSigns (array ds) = ItemsHaveSigns ds
  HasSigns (object ms) = MembersHaveSigns ms

  pub ItemsHaveSigns : Items → Type 0
  ItemsHaveSigns no_items = ⊤
  ItemsHaveSigns (item d ds) = HasSigns d × ItemsHaveSigns ds

  pub MembersHaveSigns : Members → Type 0
  MembersHaveSigns no_members = ⊤
  MembersHaveSigns (member k d ms) = HasSigns d × MembersHaveSigns ms

abbrev JsonHasSigns : Json → Type 0
JsonHasSigns value = HasSigns (data_of value)

-- the member that a field is, as the fold gives it
abbrev member_of : Field → Member
member_of = fold-Field Data Member json_level field_level

abbrev FieldHasSigns : Field → Type 0
FieldHasSigns f = HasSigns (member_of f).value

signed : (z : ℤ) → IsSigned (of_integer z)
signed (pos n) = tt
signed (negsuc n) = tt

signs_in_items : (values : List ((value : Json) × JsonHasSigns value)) → ItemsHaveSigns (items_of (map data_of (map (λ e. e.0) values)))
signs_in_items [] = tt
signs_in_items (value ∷ values) = (value.1, signs_in_items values)

signs_in_fields : (fs : List ((f : Field) × FieldHasSigns f)) → MembersHaveSigns (members_of (map member_of (map (λ e. e.0) fs)))
signs_in_fields [] = tt
signs_in_fields (f ∷ fs) = (f.1, signs_in_fields fs)

abbrev SignedValues : Type 0
SignedValues = (value : Json) × JsonHasSigns value

abbrev SignedFields : Type 0
SignedFields = (f : Field) × FieldHasSigns f

level_signs : (y : Json-F SignedValues SignedFields) → HasSigns (json_level (map-Json Json Field Data Member data_of member_of (map-Json SignedValues SignedFields Json Field (λ e. e.0) (λ e. e.0) y)))
level_signs (Json-F.Bool b) = tt
level_signs (Json-F.Integer z) = signed z
level_signs (Json-F.String s) = tt
level_signs (Json-F.Array values) = signs_in_items values
level_signs (Json-F.Object fs) = signs_in_fields fs

rolled : (z : Json-F Json Field) → HasSigns (json_level (map-Json Json Field Data Member data_of member_of z)) → JsonHasSigns (roll-Json z)
rolled z h = subst HasSigns (sym (fold-roll-Json Data Member json_level field_level z)) h

rolled_field : (z : Field-F Json Field) → HasSigns (data_of z.value) → FieldHasSigns (roll-Field z)
rolled_field z h = subst (λ (m : Member). HasSigns m.value) (sym (fold-roll-Field Data Member json_level field_level z)) h

-- every Json has
pub json_signs : (value : Json) → HasSigns (data_of value)
json_signs = ind-Json JsonHasSigns FieldHasSigns
    (λ x y is. subst (λ (z : Json-F Json Field). JsonHasSigns (roll-Json z)) is (rolled (map-Json SignedValues SignedFields Json Field (λ e. e.0) (λ e. e.0) y) (level_signs y)))
    (λ x y is. subst (λ (z : Field-F Json Field). FieldHasSigns (roll-Field z)) is (rolled_field (map-Field SignedValues SignedFields Json Field (λ e. e.0) (λ e. e.0) y) y.value.1))
