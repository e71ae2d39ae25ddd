use Rattle.std.proofs.Common.{◌≡◌, ℕ, ◌+◌, ◌<◌, List, length, drop, get_or, map, Some, Bool, true, false, cond, bytes_eq, sym, ap, ◌∙◌}
use Rattle.std.proofs.lemmas.List.{drop_more}
use Rattle.stix_objects.specs.declared.object_type.ObjectType.{ObjectType}
use Rattle.stix_objects.specs.Types.{first_named}
use Rattle.stix_objects.specs.inner.Views.{type_view}
use Rattle.stix_objects.proofs.object_type.first_named.Goals as goal

-- the first of the types from a place on is the one there where it has the name, else the first of those after it
first_at : (name : List ℕ) (types : List ObjectType) (i : ℕ) (d : ObjectType) (b : Bool) → i < length types → bytes_eq (get_or types i d).name.now name ≡ b
    → first_named name (map type_view (drop i types)) ≡ cond b (Some (type_view (get_or types i d))) (first_named name (map type_view (drop (i + 1) types)))
first_at name types i d b within is =
    ap (λ ts. first_named name (map type_view ts)) (drop_more types i d within)
    ∙ ap (λ test. cond test (Some (type_view (get_or types i d))) (first_named name (map type_view (drop (i + 1) types)))) is

pub returns-then-is_named : goal.returns-then-is_named
returns-then-is_named c =
    sym (c.loop-object_type.invariant ∙ first_at c.args.name.now c.args.types.now c.loop-object_type.object_type-index _ true c.loop-object_type-test.true (sym c.is_named.ensures ∙ c.if-is_named.true))

pub loop-object_type-preserved : goal.loop-object_type-preserved
loop-object_type-preserved c =
    c.loop-object_type.invariant ∙ first_at c.args.name.now c.args.types.now c.loop-object_type.object_type-index _ false c.loop-object_type-test.true (sym c.is_named.ensures ∙ c.if-is_named.false)
