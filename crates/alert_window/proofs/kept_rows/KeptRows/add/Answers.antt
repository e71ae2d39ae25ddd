-- One row too many is the first.
use Rattle.std.proofs.Common.{◌≡◌, ◌≤◌, ◌+◌, List, length, arith, sym, ◌∙◌, ap}
use Rattle.alert_window.specs.declared.matching_row.MatchingRow.{MatchingRow}
use Rattle.alert_window.specs.inner.Kept.{keep}
use Rattle.alert_window.proofs.OrderLemmas.{keep_all, bit_le}
use Rattle.alert_window.proofs.KeptLemmas.{popped}
use Rattle.alert_window.proofs.kept_rows.KeptRows.add.Goals as goal

pub returns-then-len-self-clause-ok : goal.returns-then-len-self-clause-ok
returns-then-len-self-clause-ok c =
    let n = c.args.self.now.most in
    let rows = c.insert.new.self.keys in
    let one = bit_le c.in_ok-insert.field-0 in
    let long : length rows ≡ n + 1 = omega (arith, one, c.in_ok-insert.ensures.len, c.args.self.now.few) in
    sym (popped n rows c.pop_first.new.self.keys c.pop_first.result c.pop_first.ensures.removal c.pop_first.ensures.variant long)
    ∙ ap (λ (zs : List MatchingRow). keep n zs) c.in_ok-insert.ensures.keys

pub returns-else-len-self-clause-ok : goal.returns-else-len-self-clause-ok
returns-else-len-self-clause-ok c =
    let few : length c.insert.new.self.keys ≤ c.args.self.now.most = omega arith in
    sym (keep_all c.args.self.now.most c.insert.new.self.keys few) ∙ ap (λ (rows : List MatchingRow). keep c.args.self.now.most rows) c.in_ok-insert.ensures.keys
