use Rattle.std.proofs.Common.{◌≡◌, ℕ, ◌+◌, ◌<◌, List, length, drop, get_or, map, Option, Some, None, Bor, bytes_eq, sym, ap, ◌∙◌, option_map}
use Rattle.std.specs.List.{flat_map}
use Rattle.std.specs.Option.{option_or}
use Rattle.std.proofs.lemmas.List.{drop_more}
use Rattle.std.proofs.lemmas.List.Folds.{find-append}
use Rattle.stix_objects.specs.declared.object_type.ObjectType.{ObjectType}
use Rattle.stix_objects.specs.Types.{first_named}
use Rattle.stix_objects.specs.Row.{ObjectType as SpecType}
use Rattle.stix_objects.specs.inner.Views.{type_view}
use Rattle.stix_objects.proofs.object_type.first_in.Goals as goal

-- the first type of the tables from a place on is the first of the one there, else that of those after it
first_at : (name : List ℕ) (tables : List (Bor (List ObjectType))) (i : ℕ) (d : Bor (List ObjectType)) (found : Option SpecType) → i < length tables
    → found ≡ first_named name (map type_view (get_or tables i d).now)
    → first_named name (flat_map (λ types. map type_view types.now) (drop i tables)) ≡ option_or found (first_named name (flat_map (λ types. map type_view types.now) (drop (i + 1) tables)))
first_at name tables i d found within is =
    ap (λ ts. first_named name (flat_map (λ types. map type_view types.now) ts)) (drop_more tables i d within)
    ∙ find-append (λ type. bytes_eq type.name name) (map type_view (get_or tables i d).now) (flat_map (λ types. map type_view types.now) (drop (i + 1) tables))
    ∙ ap (λ f. option_or f (first_named name (flat_map (λ types. map type_view types.now) (drop (i + 1) tables)))) (sym is)

pub returns-in-Some : goal.returns-in-Some
returns-in-Some c =
    sym (c.loop-types.invariant ∙ first_at c.args.name.now c.args.tables.now c.loop-types.types-index _ (Some (type_view c.in-Some.found.now)) c.loop-types-test.true (ap (option_map (λ found. type_view found.now)) (sym c.in-Some.is) ∙ c.first_named.ensures))

pub loop-types-preserved : goal.loop-types-preserved
loop-types-preserved c =
    c.loop-types.invariant ∙ first_at c.args.name.now c.args.tables.now c.loop-types.types-index _ None c.loop-types-test.true (ap (option_map (λ found. type_view found.now)) (sym c.in_default.is) ∙ c.first_named.ensures)
