use Rattle.std.proofs.Common.{◌≡◌, ◌≤◌, ◌+◌, max, List, [], ◌∷◌, ◌++◌, false, sym, ap, ◌∙◌, append_assoc, arith}
use Rattle.std.proofs.lemmas.List.{append-nil}
use Rattle.match_pruning.specs.declared.window.Window.{Window}
use Rattle.match_pruning.specs.Stores.{Store, windows_in, window_of, levels}
use Rattle.match_pruning.proofs.StoresLemmas.{next_level, last_level}
use Rattle.match_pruning.proofs.window.add_levels.Goals as goal

pub loop-level-init : goal.loop-level-init
loop-level-init c =
    let first : 1 ≤ max 1 c.args.count = omega arith in
    (first, λ part. sym (append-nil c.args.out.now.items))

pub loop-level-preserved : goal.loop-level-preserved
loop-level-preserved c =
    let above = c.args.above.now in
    let old = c.args.out.now.items in
    let level = c.loop-level.level in
    let inside = c.loop-level-test.true in
    let most : level + 1 ≤ max 1 c.args.count = omega (arith, inside) in (
      most,
      λ part.
          c.in_ok-add_window.ensures
          ∙ ap (λ (ws : List Window). ws ++ window_of above false ∷ []) (c.loop-level.invariant.1 part)
          ∙ append_assoc old (windows_in (levels above part level)) (window_of above false ∷ [])
          ∙ ap (λ (ws : List Window). old ++ ws) (sym (next_level above part level c.loop-level.auto.level)),
    )

pub returns : goal.returns
returns c = λ part.
    let above = c.args.above.now in
    let least = c.loop-level-test.false in
    let some = c.loop-level.auto.level in
    let most = c.loop-level.invariant.0 in
    let last : c.loop-level.level ≡ max 1 c.args.count = omega (arith, least, some, most) in
    c.loop-level.invariant.1 part
    ∙ ap (λ (stores : List Store). c.args.out.now.items ++ windows_in stores) (last_level above part c.args.count c.loop-level.level last)
