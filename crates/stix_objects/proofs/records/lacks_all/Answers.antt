use Rattle.std.proofs.Common.{ℕ, List, [], Bor, map, sym, get_or}
use Rattle.serde_json.specs.Data.{Data}
use Rattle.serde_json.specs.Find.{get as member_of}
use Rattle.stix_json.specs.declared.value.Json.{Json}
use Rattle.stix_json.specs.DataOf.{data_of}
use Rattle.stix_objects.specs.Forms.{LacksAll}
use Rattle.stix_objects.proofs.ListLemmas.{open_at, close_at, there_of, absent_of, none_is_there}
use Rattle.stix_objects.proofs.records.lacks_all.Goals as goal

abbrev Lacks : Data → List (Bor (List ℕ)) → Type 0
Lacks d names = LacksAll (map (λ name. name.now) names) d

-- the item where there is none
none : Bor (List ℕ)
none = record { ref_ptr = (0, 0); now = [] }

pub returns-then-is_some : goal.returns-then-is_some
unfolding none
returns-then-is_some c =
    let d = data_of c.args.object.now in
    let name = get_or c.args.names.now c.loop-name.name-index none in
    let first = open_at (Lacks d) c.args.names.now c.loop-name.name-index none c.loop-name-test.true in
    let there = there_of (λ (value : Bor Json). data_of value.now) c.get.result (member_of name.now d) c.get.ensures (sym c.if-is_some.ensures) in
    (λ f. absurd (cc), λ all. absurd (none_is_there (member_of name.now d) (first (c.loop-name.invariant.0 all)).0 there))

pub loop-name-preserved : goal.loop-name-preserved
unfolding none
loop-name-preserved c =
    let d = data_of c.args.object.now in
    let name = get_or c.args.names.now c.loop-name.name-index none in
    let first = open_at (Lacks d) c.args.names.now c.loop-name.name-index none c.loop-name-test.true in
    let closed = close_at (Lacks d) c.args.names.now c.loop-name.name-index none c.loop-name-test.true in
    let gone = absent_of (λ (value : Bor Json). data_of value.now) c.get.result (member_of name.now d) c.get.ensures (sym c.if-is_some.ensures) in
    (λ all. (first (c.loop-name.invariant.0 all)).1, λ rest. c.loop-name.invariant.1 (closed (gone, rest)))
