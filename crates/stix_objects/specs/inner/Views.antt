-- For private clauses: the code's tables and violations, as those of the definitions.
use Rattle.std.specs.Prelude.{ℕ, List, [], ◌∷◌, ◌++◌, Bool, true, false, map, option_map, option_to_list}
use Rattle.stix_json.specs.Walk.{index_part}
use Rattle.stix_objects.specs.declared.form.Single.{Single as SingleIn}
use Rattle.stix_objects.specs.declared.form.Part.{Part as PartIn}
use Rattle.stix_objects.specs.declared.form.Form.{Form as FormIn}
use Rattle.stix_objects.specs.declared.groups.Group.{Group}
use Rattle.stix_objects.specs.declared.groups.Group.TheVariants.{Domain, Marking, Observable, Other}
use Rattle.stix_objects.specs.declared.groups.Groups.{Groups as GroupsIn}
use Rattle.stix_objects.specs.declared.row.Condition.{Condition as ConditionIn}
use Rattle.stix_objects.specs.declared.row.Row.{Row as RowIn}
use Rattle.stix_objects.specs.declared.row.CommonRow.{CommonRow as CommonRowIn}
use Rattle.stix_objects.specs.declared.object_type.ObjectType.{ObjectType as ObjectTypeIn}
use Rattle.stix_objects.specs.declared.row_break.ValueLocation.{ValueLocation}
use Rattle.stix_objects.specs.declared.row_break.ValueLocation.TheVariants.{Here, Item, ItemPart}
use Rattle.stix_objects.specs.declared.row_break.ItemBreak.{ItemBreak}
use Rattle.stix_objects.specs.declared.row_break.ValueBreak.{ValueBreak}
use Rattle.stix_objects.specs.declared.row_break.ObjectLocation.{ObjectLocation}
use Rattle.stix_objects.specs.declared.row_break.ObjectLocation.TheVariants.{Whole, Property, Within}
use Rattle.stix_objects.specs.declared.row_break.RowBreak.{RowBreak}
use Rattle.stix_objects.specs.BreakAt.{BreakAt}
use Rattle.stix_objects.specs.Form.{Single, any_text, kind, version, one_of, timestamp, any_reference, reference, any_boolean, integer_in, object, texts_by_name, Part, must, may, some_of, Form, one, list, records}
use Rattle.stix_objects.specs.Row.{Condition, is_true, is_false, meets, absent, Row, required, optional, required_where, own_id, order, strict_order, needs_one_of, excludes, statement, colour, colour_id, CommonRow, for, unless_own, ObjectType}

-- the type of one value
abbrev pub single_view : SingleIn → Single
single_view SingleIn.Text = any_text
single_view SingleIn.Kind = kind
single_view SingleIn.Version = version
single_view (SingleIn.Word known) = one_of (map (λ word. word.now) known.now)
single_view (SingleIn.Timestamp precision) = timestamp precision
single_view SingleIn.AnyRef = any_reference
single_view (SingleIn.Ref kinds) = reference (map (λ kind. kind.now) kinds.now)
single_view SingleIn.Boolean = any_boolean
single_view (SingleIn.Integer least most) = integer_in least most
single_view SingleIn.Object = object
single_view SingleIn.Hashes = texts_by_name

-- the requirement on the objects of a list
abbrev pub part_view : PartIn → Part
part_view (PartIn.Must name single) = must name.now (single_view single)
part_view (PartIn.May name single) = may name.now (single_view single)
part_view (PartIn.SomeOf names) = some_of (map (λ name. name.now) names.now)

-- the type of a property
abbrev pub form_view : FormIn → Form
form_view (FormIn.One single) = one (single_view single)
form_view (FormIn.List single) = list (single_view single)
form_view (FormIn.Records parts) = records (map part_view parts.now)

-- the condition on an object
abbrev pub condition_view : ConditionIn → Condition
condition_view (ConditionIn.IsTrue name) = is_true name.now
condition_view (ConditionIn.IsFalse name) = is_false name.now
condition_view (ConditionIn.Meets name form) = meets name.now (form_view form)
condition_view (ConditionIn.Absent name) = absent name.now

-- the requirement on an object
abbrev pub row_view : RowIn → Row
row_view (RowIn.Required name form) = required name.now (form_view form)
row_view (RowIn.Optional name form) = optional name.now (form_view form)
row_view (RowIn.RequiredWhere name form condition) = required_where name.now (form_view form) (condition_view condition)
row_view RowIn.OwnId = own_id
row_view (RowIn.Order precision first second) = order precision first.now second.now
row_view (RowIn.StrictOrder precision first second) = strict_order precision first.now second.now
row_view (RowIn.NeedsOneOf at names) = needs_one_of (option_to_list (option_map (λ name. name.now) at)) (map (λ name. name.now) names.now)
row_view (RowIn.Excludes name conditions) = excludes name.now (map condition_view conditions.now)
row_view RowIn.Statement = statement
row_view RowIn.Colour = colour
row_view RowIn.ColourId = colour_id

-- the group, if the flag is set
abbrev pub group_if : Bool → Group → List Group
group_if true group = group ∷ []
group_if false group = []

-- some of the groups
abbrev pub groups_view : GroupsIn → List Group
groups_view groups =
    group_if groups.domain Domain ++ (group_if groups.marking Marking ++ (group_if groups.observable Observable ++ group_if groups.other Other))

-- a row of several types
abbrev pub common_view : CommonRowIn → CommonRow
common_view (CommonRowIn.For groups row) = for (groups_view groups) (row_view row)
common_view (CommonRowIn.UnlessOwn groups name row) = unless_own (groups_view groups) name.now (row_view row)

-- an object type
abbrev pub type_view : ObjectTypeIn → ObjectType
type_view type = record { name = type.name.now; group = type.group; rows = map row_view type.rows.now }

-- the violation in an object of a list
abbrev pub item_break_view : ItemBreak → BreakAt
item_break_view item_break = record { rule = item_break.rule; parts = option_to_list (option_map (λ name. name.now) item_break.part) }

-- the parts of the path from a value to a location in it
abbrev pub value_location_parts : ValueLocation → List (List ℕ)
value_location_parts Here = []
value_location_parts (Item at) = index_part at ∷ []
value_location_parts (ItemPart at name) = index_part at ∷ name.now ∷ []

-- the violation in the value of a property
abbrev pub value_break_view : ValueBreak → BreakAt
value_break_view value_break = record { rule = value_break.rule; parts = value_location_parts value_break.location }

-- the parts of the path from an object to a location in it
abbrev pub object_location_parts : ObjectLocation → List (List ℕ)
object_location_parts Whole = []
object_location_parts (Property name location) = name.now ∷ value_location_parts location
object_location_parts (Within outer inner) = outer.now ∷ inner.now ∷ []

-- the violation in an object
abbrev pub row_break_view : RowBreak → BreakAt
row_break_view row_break = record { rule = row_break.rule; parts = object_location_parts row_break.object_location }
