-- The chain of the parts and one more.
use Rattle.std.proofs.Common.{◌≡◌, ◌++◌, ◌∷◌, [], List, ◌∙◌, ap}
use Rattle.std.specs.Prelude.{map}
use Rattle.match_bindings.specs.declared.bind.Bind.{Bind}
use Rattle.match_bindings.specs.BindTree.{tree_of, BindTree, many_of, add_part}
use Rattle.match_bindings.specs.inner.Kinds.{chain_of}
use Rattle.match_bindings.proofs.ManyLemmas.{many_add, add_chain}
use Rattle.match_bindings.proofs.ListLemmas.{map_append}
use Rattle.match_bindings.proofs.BindTreeLemmas.{tree_many}
use Rattle.match_bindings.proofs.join.with_part.Goals as goal

chain : (all parts : List Bind) (last : Bind) (t a : BindTree) → all ≡ parts ++ last ∷ [] → many_of (map tree_of parts) ≡ chain_of t → tree_of last ≡ a →
    many_of (map tree_of all) ≡ add_part t a
chain all parts last t a e f g =
    ap (λ xs. many_of (map tree_of xs)) e
    ∙ ap many_of (map_append tree_of parts (last ∷ []))
    ∙ many_add (map tree_of parts) (tree_of last)
    ∙ ap (λ m. add_part m (tree_of last)) f
    ∙ add_chain t (tree_of last)
    ∙ ap (add_part t) g

pub returns : goal.returns
returns c =
    let is : many_of (map tree_of c.push.new.self) ≡ add_part (tree_of c.args.parts.now) (tree_of c.args.part.now)
    = chain _ _ _ _ _ c.in_ok-push.ensures.ok c.in_ok-parts.ensures c.in_ok-clone.ensures.cases in
    tree_many c.in_ok-new.field-0 ∙ ap (λ parts. many_of (map tree_of parts)) c.in_ok-new.ensures.ok ∙ is
