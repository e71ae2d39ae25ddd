-- The chain of one part.
use Rattle.std.proofs.Common.{◌≡◌, ◌++◌, ◌∷◌, [], ◌∙◌, ap}
use Rattle.std.specs.Prelude.{map}
use Rattle.match_bindings.specs.BindTree.{Single, tree_of, many_of}
use Rattle.match_bindings.proofs.BindTreeLemmas.{tree_many}
use Rattle.match_bindings.proofs.join.singleton.Goals as goal

pub returns : goal.returns
returns c =
    let part = c.in_ok-clone.field-0 in
    let one : c.push.new.self ≡ part ∷ [] = c.in_ok-push.ensures.ok ∙ ap (λ bs. bs ++ part ∷ []) c.new-parts.ensures in
    tree_many c.in_ok-new.field-0
    ∙ ap (λ bs. many_of (map tree_of bs)) (c.in_ok-new.ensures.ok ∙ one)
    ∙ ap Single c.in_ok-clone.ensures.cases
