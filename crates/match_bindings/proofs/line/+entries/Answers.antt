-- The letters of a First or a Second and then its part; and all binds are added.
use Rattle.std.proofs.Common.{rules, ◌≡◌, ◌+◌, ◌++◌, ◌∙◌, ap, arith}
use Rattle.std.specs.Prelude.{string_bytes, codes}
use Rattle.std.specs.List.{repeat}
use Rattle.std.specs.Rc.{rc_value}
use Rattle.match_bindings.specs.BindTree.{tree_of}
use Rattle.match_bindings.specs.Line.{entries_text}
use Rattle.match_bindings.proofs.BindTreeLemmas.{tree_second}
use Rattle.match_bindings.proofs.FirstsLemmas.{entries_first}
use Rattle.match_bindings.proofs.ListLemmas.{added_twice}
use Rattle.match_bindings.proofs.ManyLemmas.{push_all, many_entries}
use Rattle.match_bindings.proofs.line.+entries.Goals as goal

pub push_entries-returns-in_ok-push_entries-in-First : goal.push_entries-returns-in_ok-push_entries-in-First
push_entries-returns-in_ok-push_entries-in-First t c =
    let part = c.in-First.part in
    let letters : string_bytes c.push_letters.new.line ≡ string_bytes c.args.line.now ++ repeat (c.in-First.more + 1) (codes " L") = search rules in
    let rest : string_bytes c.push_entries-in-First.new.line ≡ string_bytes c.push_letters.new.line ++ entries_text (tree_of (rc_value part)) = search rules in
    added_twice _ _ _ _ _ _ letters rest (ap (λ b. entries_text (tree_of b)) c.in-First.is ∙ entries_first c.in-First.more part)

pub push_entries-returns-in_ok-push_entries-in-Second : goal.push_entries-returns-in_ok-push_entries-in-Second
push_entries-returns-in_ok-push_entries-in-Second t c =
    let part = c.in-Second.part in
    let letter : string_bytes c.push_str-in-Second.new.self ≡ string_bytes c.args.line.now ++ codes " R" = search rules in
    let rest : string_bytes c.push_entries-in-Second.new.line ≡ string_bytes c.push_str-in-Second.new.self ++ entries_text (tree_of (rc_value part)) = search rules in
    added_twice _ _ _ _ _ _ letter rest (ap (λ b. entries_text (tree_of b)) c.in-Second.is ∙ ap entries_text (tree_second part))

pub push_all_entries-returns : goal.push_all_entries-returns
push_all_entries-returns t c =
    push_all entries_text many_entries (string_bytes c.args.line.now) (string_bytes c.loop-bind.line) c.args.binds.now c.loop-bind.bind-index
    (omega arith) c.loop-bind.invariant
