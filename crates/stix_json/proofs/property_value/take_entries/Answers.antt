use Rattle.std.proofs.Common.{rules, ◌≡◌, ◌-◌, ◌<◌, List, [], ◌∷◌, ◌++◌, length, None, Some, ap, sym, subst, ◌∙◌, arith}
use Rattle.json.specs.Json.{parse_map, after_end_array, items, value}
use Rattle.serde_json.specs.Read.{of_json, of_items, converted}
use Rattle.serde_json.specs.View.{items_of}
use Rattle.stix_json.specs.declared.entry.Entry.{Entry}
use Rattle.stix_json.specs.declared.property_value.TheConstants.{LEFT}
use Rattle.stix_json.specs.Entries.{AreEntriesFor}
use Rattle.stix_json.proofs.PropertyValueLemmas.{entries_pushed}
use Rattle.stix_json.proofs.TokensLemmas.{item_read, item_refused, items_over, items_before, items_before-no_items, one_more_item, none_before, read_value_ordered}
use Rattle.stix_json.proofs.CheckedLemmas.{read_error_since}
use Rattle.stix_json.proofs.property_value.take_entries.Goals as goal

pub items-init : goal.items-init
items-init c =
    let all = converted of_items (items (value LEFT) (length c.args.reader.now) c.args.reader.now) in
    (length c.args.reader.now, omega arith, [], none_before all, search rules, omega arith)

pub returns-in_err-checked-clause-err : goal.returns-in_err-checked-clause-err
returns-in_err-checked-clause-err c =
    let p = value LEFT in
    let l = c.items in
    let n = l.invariant.0 in
    let going : (after_end_array l.reader ≡ None) × (c.take_end_array.new.self ≡ l.reader) = grind arith in
    let told = read_error_since c.take_value.result (converted of_json (p c.take_end_array.new.self)) _
    (λ none. l.invariant.3 ∙ ap (parse_map (items_before l.invariant.2)) (item_refused p n l.reader going.0 (rw (← going.1) none))) c.take_value.ensures.err in
    search (rules, told)

pub items-preserved : goal.items-preserved
items-preserved c =
    let p = value LEFT in
    let l = c.items in
    let n = l.invariant.0 in
    let ds = l.invariant.2 in
    let going : (after_end_array l.reader ≡ None) × (c.take_end_array.new.self ≡ l.reader) = grind arith in
    let found = c.in_ok-checked.ensures.ok in
    let d = found.0 in
    let r = c.take_value.new.reader in
    let less : length r < length l.reader = rw (← going.1) c.in_ok-checked.ensures.shorter in
    let turn = item_read p n l.reader r d (omega (arith, l.invariant.1)) going.0 (rw (← going.1) found.1) in
    let entry = c.into_entry.ensures d (read_value_ordered (p c.take_end_array.new.self) d r found.1) found.2 in (
      n - 1,
      omega (arith, l.invariant.1),
      ds ++ d ∷ [],
      l.invariant.3 ∙ ap (parse_map (items_before ds)) turn ∙ one_more_item ds d _,
      subst (λ (es : List Entry). AreEntriesFor (items_of (ds ++ d ∷ [])) es) (sym c.in_ok-push.ensures.ok) (entries_pushed ds d l.entries c.into_entry.result l.invariant.4 entry),
      omega (arith, l.invariant.5),
    )

pub returns-clause-ok : goal.returns-clause-ok
returns-clause-ok c =
    let p = value LEFT in
    let l = c.items in
    let n = l.invariant.0 in
    let r = c.take_end_array.new.self in
    let ds = l.invariant.2 in
    (_, l.invariant.3 ∙ ap (parse_map (items_before ds)) (items_over p n l.reader r l.invariant.1 (grind arith)) ∙ ap (λ es. Some (es, r)) (items_before-no_items ds), l.invariant.4)
