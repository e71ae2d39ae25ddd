use Rattle.std.proofs.Common.{◌≡◌, ℕ, ◌∷◌, ◌++◌, ◌<◌, ◌≤◌, length, take, ap, ◌∙◌, arith}
use Rattle.std.proofs.lemmas.Grind.{common_steps}
use Rattle.std.proofs.lemmas.Str.{IsCharBoundary-after_ascii}
use Rattle.match_comparisons.specs.Like.{any_run}
use Rattle.match_comparisons.proofs.CharactersLemmas.{chars-around, lacks_chars}
use Rattle.match_comparisons.proofs.RunsLemmas.{run_inside, run_behind, run_read, run_splits_bytes, no_run_before}
use Rattle.match_comparisons.proofs.wildcards.split_at_run.Goals as goal

pub returns-in_err-at : goal.returns-in_err-at
returns-in_err-at c =
    let near = ap (take c.min.result) c.as_bytes-bytes.ensures.value in
    let compares_or_equals : (k : ℕ) → k < length c.args.pattern.now → k ≤ c.args.most → k < c.min.result = λ k inside within. omega (arith, c.min.ensures, c.saturating_add.ensures, c.as_bytes-bytes.ensures.len, c.ranges.most, inside, within) in
    rw c.from_residual.ensures (run_behind c.args.pattern.now _ c.min.result near c.args.most compares_or_equals c.in_err-at.ensures)

pub range_from-requires : goal.range_from-requires
range_from-requires c =
    let near = ap (take c.min.result) c.as_bytes-bytes.ensures.value in
    let first = c.in_ok-at.ensures in
    let inside = run_inside c.args.pattern.now _ c.min.result near c.in_ok-at.at first.0.high in
    let read = run_read c.args.pattern.now _ c.min.result near c.in_ok-at.at first.0.high first.1 in
    λ _. IsCharBoundary-after_ascii c.args.pattern.now c.in_ok-at.at c.utf8.pattern inside (omega (arith, read))

pub returns : goal.returns
returns c =
    let near = ap (take c.min.result) c.as_bytes-bytes.ensures.value in
    let first = c.in_ok-at.ensures in
    let split = run_splits_bytes c.args.pattern.now _ c.min.result near c.in_ok-at.at first.0.high first.1 in
    let lacks = no_run_before c.args.pattern.now _ c.min.result near c.in_ok-at.at first.0.high first.0.before in
    let before : c.range.result.now ≡ take c.in_ok-at.at c.args.pattern.now = grind (arith, common_steps, c.range.ensures.value) in
    let whole : c.args.pattern.now ≡ c.range.result.now ++ any_run ∷ c.range_from.result.now = split ∙ cc (before, c.range_from.ensures.value) in (
      chars-around c.args.pattern.now c.range.result.now c.range_from.result.now c.range.utf8 whole,
      lacks_chars c.range.result.now any_run (omega arith) c.range.utf8 (rw before lacks),
    )
