use Rattle.std.proofs.Common.{List, take, get_or, sym, subst}
use Rattle.std.proofs.lemmas.List.{take_more, take_all}
use Rattle.hunt_index.specs.declared.key.Key.TheVariants.{Any}
use Rattle.hunt_index.specs.declared.paths.Lookup.{Lookup}
use Rattle.hunt_index.specs.inner.Finding.{AddsFound}
use Rattle.hunt_index.proofs.KeyLemmas.{alike_tied, alike_untied}
use Rattle.hunt_index.proofs.PlacesLemmas.{found_none, found_next}
use Rattle.hunt_index.proofs.finder.Finder.add_found.Goals as goal

pub loop-lookup-init : goal.loop-lookup-init
loop-lookup-init c = found_none c.args.self.now.brackets_found.entries.items c.args.brackets_found.now.items

pub loop-lookup-preserved : goal.loop-lookup-preserved
loop-lookup-preserved c =
    let entries = c.args.self.now.brackets_found.entries.items in
    let lookups = c.args.lookups.now in
    let i = c.loop-lookup.lookup-index in
    let none : Lookup = record { path = 0; key = Any } in
    let lookup = get_or lookups i none in
    let new = c.add_brackets.new.brackets_found.items in
    subst (λ (l : List Lookup). AddsFound entries l c.args.brackets_found.now.items new) (sym (take_more lookups i none c.loop-lookup-test.true))
    (found_next entries (take i lookups) lookup c.args.brackets_found.now.items c.loop-lookup.brackets_found.items new c.find.result.now c.loop-lookup.invariant
    (λ own bracket alike there. c.find.ensures.all own bracket (alike_tied own lookup alike) there) c.find.ensures.only (λ entry has. alike_untied entry.0 lookup (c.find.ensures.keyed entry has)) c.in_ok-add_brackets.ensures)

pub returns : goal.returns
returns c =
    subst (λ (l : List Lookup). AddsFound c.args.self.now.brackets_found.entries.items l c.args.brackets_found.now.items c.loop-lookup.brackets_found.items)
    (take_all c.loop-lookup.lookup-index c.args.lookups.now c.loop-lookup-test.false) c.loop-lookup.invariant
