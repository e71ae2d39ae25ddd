use Rattle.std.proofs.Common.{◌≡◌, Bool, true, false, not, ◌&&◌, cond, Some, None, refl, sym, ◌∙◌}
use Rattle.stix_objects.specs.Row.{Row}
use Rattle.stix_objects.specs.Breaks.{is_rule_row_of}
use Rattle.stix_objects.specs.inner.Views.{row_view}
use Rattle.stix_objects.proofs.ListLemmas.{any_of_map}
use Rattle.stix_objects.proofs.row.CommonRow.applicable.Goals as goal

outside : (a b : Bool) (row : Row) → a ≡ false → None ≡ cond (a && not b) (Some row) None
outside true b row is = absurd (cc)
outside false b row is = refl

named : (a b : Bool) (row : Row) → b ≡ true → None ≡ cond (a && not b) (Some row) None
named true true row is = refl
named false true row is = refl
named a false row is = absurd (cc)

stands : (a b : Bool) (row : Row) → a ≡ true → b ≡ false → Some row ≡ cond (a && not b) (Some row) None
stands true false row is other = refl
stands true true row is other = absurd (cc)
stands false b row is other = absurd (cc)

pub returns-then-not-contains : goal.returns-then-not-contains
returns-then-not-contains c =
    rw c.in-UnlessOwn.is (outside _ _ (row_view c.in-UnlessOwn.row) (sym c.contains-in-UnlessOwn.ensures ∙ c.if-not-contains.true))

pub returns-then-name_property : goal.returns-then-name_property
returns-then-name_property c =
    let names = c.in-UnlessOwn.name.now in
    rw c.in-UnlessOwn.is (named _ _ (row_view c.in-UnlessOwn.row)
    (sym (any_of_map (is_rule_row_of names) row_view c.args.own.now) ∙ sym c.name_property.ensures ∙ c.if-name_property.true))

pub returns-else-name_property : goal.returns-else-name_property
returns-else-name_property c =
    let names = c.in-UnlessOwn.name.now in
    rw c.in-UnlessOwn.is (stands _ _ (row_view c.in-UnlessOwn.row) (sym c.contains-in-UnlessOwn.ensures ∙ c.if-not-contains.false)
    (sym (any_of_map (is_rule_row_of names) row_view c.args.own.now) ∙ sym c.name_property.ensures ∙ c.if-name_property.false))
