use Rattle.std.proofs.Common.{◌≡◌, List, ℕ, ◌∷◌, [], ◌++◌, ◌+◌, take, get_or, Vec, Global, sym, ap, subst, ◌∙◌}
use Rattle.std.proofs.lemmas.Bool.{false≢true}
use Rattle.std.proofs.lemmas.List.{take_more, take_all}
use Rattle.match_comparisons.specs.inner.PositionSet.{AreOf}
use Rattle.match_comparisons.proofs.RootsLemmas.{not_not, new_same, old_same, AreAdded, new_added, old_added}
use Rattle.match_comparisons.proofs.roots.add_roots.Goals as goal
use Rattle.match_comparisons.proofs.roots.add_roots.Goals.{then-branch+in_ok-push, else-branch}

pub loop-at-preserved : goal.loop-at-preserved
loop-at-preserved c =
    let i = c.loop-at.at-index in
    let own = c.args.own.now in
    let start = c.args.roots.now.items in
    let roots = c.loop-at.roots.items in
    let seen = c.loop-at.seen in
    let more = c.add.new.self in
    let x = get_or own i 0 in
    let gone : take (i + 1) own ≡ take i own ++ x ∷ [] = take_more own i 0 c.loop-at-test.true in
    let items = λ (vec : Vec ℕ Global). vec.items in
    let now = λ (l : List ℕ). AreAdded start l c.if-branch.roots.items in
    elim c.if-branch.branch [
      | then-branch+in_ok-push w ↦
          let same : c.if-branch.roots.items ≡ roots ++ x ∷ [] = ap items w.roots-is ∙ w.in_ok-push.ensures.items in (
            subst (λ (l : List ℕ). AreOf l more) (sym same) (new_same roots seen more x c.loop-at.invariant.0 c.in_ok-add.ensures.added),
            subst now (sym gone) (subst (AreAdded start (take i own ++ x ∷ [])) (sym same) (new_added start (take i own) roots x c.loop-at.invariant.1)),
          )
      | else-branch w ↦
          let same : c.if-branch.roots.items ≡ roots = ap items w.roots-is in
          let there = not_not _ (λ isnt. false≢true (sym w.if-branch.false ∙ c.in_ok-add.ensures.new.1 isnt)) in
          let has = (c.loop-at.invariant.0 x).0 there in (
            subst (λ (l : List ℕ). AreOf l more) (sym same) (old_same roots seen more x c.loop-at.invariant.0 c.in_ok-add.ensures.added there),
            subst now (sym gone) (subst (AreAdded start (take i own ++ x ∷ [])) (sym same) (old_added start (take i own) roots x c.loop-at.invariant.1 has)),
          )
    ]

pub returns-clause-added : goal.returns-clause-added
returns-clause-added c =
    subst (λ (gone : List ℕ). AreAdded c.args.roots.now.items gone c.loop-at.roots.items) (take_all c.loop-at.at-index c.args.own.now c.loop-at-test.false)
    c.loop-at.invariant.1
