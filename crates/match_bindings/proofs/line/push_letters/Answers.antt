-- One letter more.
use Rattle.std.proofs.Common.{rules, ◌≡◌, ◌+◌, ◌++◌, sym}
use Rattle.std.specs.Prelude.{string_bytes, codes}
use Rattle.match_bindings.proofs.FirstsLemmas.{repeat_more}
use Rattle.match_bindings.proofs.ListLemmas.{added_twice}
use Rattle.match_bindings.proofs.line.push_letters.Goals as goal

pub loop-preserved : goal.loop-preserved
loop-preserved c =
    let more : string_bytes c.push_str-in-loop.new.self ≡ string_bytes c.loop.line ++ codes " L" = search rules in
    added_twice _ _ _ _ _ _ c.loop.invariant more (sym (repeat_more (c.loop.counter + 1) (codes " L")))
