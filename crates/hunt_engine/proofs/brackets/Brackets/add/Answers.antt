-- One pattern more in the table.
use Rattle.std.proofs.Common.{◌≡◌, ◌++◌, ◌-◌, length, arith, ap, length-append}
use Rattle.std.specs.Prelude.{map}
use Rattle.std.proofs.lemmas.List.{length-map}
use Rattle.pattern_types.specs.PlainLeaf.{plain_leaf}
use Rattle.pattern_types.specs.PlainPattern.{plain_pattern}
use Rattle.hunt_engine.specs.Memo.{leaf_list}
use Rattle.hunt_engine.proofs.TableLemmas.{add_law}
use Rattle.hunt_engine.proofs.brackets.Brackets.add.Goals as goal

pub returns-clause-table : goal.returns-clause-table
returns-clause-table c = λ patterns table.
    let old = c.args.self.now in let p = plain_pattern c.args.pattern.now in
    let leaves = map plain_leaf (map (λ leaf. leaf.now) old.leaves.items) in
    let more = map plain_leaf (map (λ leaf. leaf.now) c.add_leaves.new.leaves.items) in
    let grown = c.in_ok-add_leaves.ensures in
    let position : c.len-position.result ≡ length old.bracket_ranges.items = omega arith in
    let first : c.len-first.result ≡ length old.leaves.items = omega arith in
    let end : c.len-end.result ≡ length c.add_leaves.new.leaves.items = omega arith in
    let a = length-map old.leaves.items (λ leaf. leaf.now) in let b = length-map (map (λ leaf. leaf.now) old.leaves.items) plain_leaf in
    let d = length-map c.add_leaves.new.leaves.items (λ leaf. leaf.now) in let e = length-map (map (λ leaf. leaf.now) c.add_leaves.new.leaves.items) plain_leaf in
    let long : length more ≡ length (leaves ++ leaf_list p) = ap length grown in
    let sum = length-append leaves (leaf_list p) in
    let first_is : c.len-first.result ≡ length leaves = omega (arith, first, a, b) in
    let count_is : c.len-end.result - c.len-first.result ≡ length (leaf_list p) = omega (arith, first_is, end, d, e, long, sum) in
    add_law patterns leaves more old.owners.items c.add_owner.new.owners.items old.bracket_ranges.items c.push.new.self.items p c.len-position.result (c.len-end.result - c.len-first.result)
    (record { first = c.len-first.result; count = c.len-end.result - c.len-first.result }) table grown c.in_ok-add_owner.ensures c.in_ok-push.ensures.items (position, count_is, first_is, count_is)
