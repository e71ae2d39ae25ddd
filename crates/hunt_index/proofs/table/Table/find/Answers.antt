use Rattle.std.proofs.Common.{arith, rules, ◌≡◌, ◌-◌, ◌∙◌, List, length, take, drop, true, false, ap, sym, subst}
use Rattle.std.specs.Prelude.{Contains}
use Rattle.std.specs.Ordering.{is_lt, is_le}
use Rattle.std.specs.List.Sorted.{IsPartitionedBy, IsPartitionPoint}
use Rattle.std.proofs.lemmas.List.{take_all, length-drop}
use Rattle.std.proofs.lemmas.List.Sorted.{IsPartitionPoint-from_clause}
use Rattle.hunt_index.proofs.TableLemmas.{lesser_first, equal_first, found_between, keyed_between}
use Rattle.hunt_index.proofs.table.Table.find.Goals as goal

pub returns-clause-all : goal.returns-clause-all
returns-clause-all g c =
    let cmp = g.K.Ord.cmp in
    let total = g.met.K.Ord.total in
    let entries = c.args.self.now.entries.items in
    let key = c.args.key.now in
    let sorted = c.args.self.now.sorted in
    let from = c.partition_point-from.result in
    let count = c.partition_point-count.result in
    let all = c.deref-2.result.now in
    let Lesser = λ (entry : g.row.K.Denot × g.row.V.Denot). is_lt (cmp entry.0 key) in
    let NotGreater = λ (entry : g.row.K.Denot × g.row.V.Denot). is_le (cmp entry.0 key) in
    let rest = take (length all - from) (drop from all) in
    let rest_is : rest ≡ drop from entries = take_all (length all - from) (drop from all) (omega (arith, length-drop from all)) ∙ ap (drop from) c.deref-2.ensures.value in
    let first = subst (λ (xs : List (g.row.K.Denot × g.row.V.Denot)). IsPartitionPoint (λ e. Lesser e ≡ true) (λ e. Lesser e ≡ false) xs from) c.deref.ensures.value
    (IsPartitionPoint-from_clause Lesser c.deref.result.now from c.partition_point-from.ensures.partitioned
    (subst (IsPartitionedBy Lesser) (sym c.deref.ensures.value) (lesser_first total entries key sorted)) (λ a r q k. search rules)) in
    let second = subst (λ (xs : List (g.row.K.Denot × g.row.V.Denot)). IsPartitionPoint (λ e. NotGreater e ≡ true) (λ e. NotGreater e ≡ false) xs count) rest_is
    (IsPartitionPoint-from_clause NotGreater rest count c.partition_point-count.ensures.partitioned
    (subst (IsPartitionedBy NotGreater) (sym rest_is) (equal_first total entries key sorted from)) (λ a r q k. search rules)) in
    λ own value alike has.
    subst (λ (xs : List (g.row.K.Denot × g.row.V.Denot)). Contains (take count xs) (own, value)) (sym rest_is)
    (found_between total entries key sorted from count first second own value alike has)

pub returns-clause-keyed : goal.returns-clause-keyed
returns-clause-keyed g c =
    let cmp = g.K.Ord.cmp in
    let total = g.met.K.Ord.total in
    let entries = c.args.self.now.entries.items in
    let key = c.args.key.now in
    let sorted = c.args.self.now.sorted in
    let from = c.partition_point-from.result in
    let count = c.partition_point-count.result in
    let all = c.deref-2.result.now in
    let Lesser = λ (entry : g.row.K.Denot × g.row.V.Denot). is_lt (cmp entry.0 key) in
    let NotGreater = λ (entry : g.row.K.Denot × g.row.V.Denot). is_le (cmp entry.0 key) in
    let rest = take (length all - from) (drop from all) in
    let rest_is : rest ≡ drop from entries = take_all (length all - from) (drop from all) (omega (arith, length-drop from all)) ∙ ap (drop from) c.deref-2.ensures.value in
    let first = subst (λ (xs : List (g.row.K.Denot × g.row.V.Denot)). IsPartitionPoint (λ e. Lesser e ≡ true) (λ e. Lesser e ≡ false) xs from) c.deref.ensures.value
    (IsPartitionPoint-from_clause Lesser c.deref.result.now from c.partition_point-from.ensures.partitioned
    (subst (IsPartitionedBy Lesser) (sym c.deref.ensures.value) (lesser_first total entries key sorted)) (λ a r q k. search rules)) in
    let second = subst (λ (xs : List (g.row.K.Denot × g.row.V.Denot)). IsPartitionPoint (λ e. NotGreater e ≡ true) (λ e. NotGreater e ≡ false) xs count) rest_is
    (IsPartitionPoint-from_clause NotGreater rest count c.partition_point-count.ensures.partitioned
    (subst (IsPartitionedBy NotGreater) (sym rest_is) (equal_first total entries key sorted from)) (λ a r q k. search rules)) in
    λ entry has.
    keyed_between total entries key sorted from count first second entry
    (subst (λ (xs : List (g.row.K.Denot × g.row.V.Denot)). Contains (take count xs) entry) rest_is has)
