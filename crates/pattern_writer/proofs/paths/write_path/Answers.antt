use Rattle.std.proofs.Common.{◌≡◌, ◌≤◌, ◌-◌, ℕ, List, [], ◌∷◌, ◌++◌, length, take, drop, get_or, Result, OnOk, sym, arith, append-nil}
use Rattle.std.specs.Prelude.{codes}
use Rattle.std.proofs.lemmas.Grind.{common_steps}
use Rattle.pattern_types.specs.declared.path.Step.{Step}
use Rattle.pattern_writer.specs.Path.{IsFirstText, IsStepText, AreStepsText}
use Rattle.pattern_writer.specs.Parts.{AreJoined, AppendsText}
use Rattle.pattern_writer.proofs.AddingLemmas.{ok_after, ok_sides, two_added}
use Rattle.pattern_writer.proofs.paths.write_path.Goals as goal

-- a first step and the others are the steps
steps_added : {T E : Type 0} (r : Result T E) (steps : List Step) (first : Step) (old mid new : List ℕ) → 1 ≤ length steps → first ≡ get_or steps 0 first → AppendsText (IsFirstText first) old mid
    → OnOk r (AppendsText (AreJoined [] IsStepText (take (length steps - 1) (drop 1 steps))) mid new) → OnOk r (AppendsText (AreStepsText steps) old new)
steps_added r [] first old mid new b e h k = absurd (omega arith)
steps_added r (s ∷ ss) first old mid new b e h k =
    let all : take (length (s ∷ ss) - 1) ss ≡ ss = grind (arith, common_steps) in
    ok_sides r (IsFirstText s) (AreJoined [] IsStepText ss) [] old mid mid new (rw (← e) h) (sym (append-nil mid)) (rw all at k)

pub returns-in_ok-write_first-in-len1-up : goal.returns-in_ok-write_first-in-len1-up
returns-in_ok-write_first-in-len1-up c =
    let e = c.as_slice.ensures in
    let h = steps_added c.write_steps.result c.as_slice.result.now c.first-item.result c.push-2.new.self c.write_first.new.out c.write_steps.new.out c.in-len1-up.len_at_least c.first-item.is c.in_ok-write_first-in-len1-up.ensures c.write_steps.ensures in
    let led = two_added c.args.out.now c.push.new.self c.push-2.new.self c.args.path.now.kind (codes ":") (rw c.as_str.ensures at c.in_ok-push.ensures.ok) c.in_ok-push-2.ensures.ok in
    ok_after c.write_steps.result (AreStepsText c.args.path.now.steps) (c.args.path.now.kind ++ codes ":") c.args.out.now c.push-2.new.self c.write_steps.new.out led (rw e at h)
