use Rattle.std.proofs.Common.{◌≡◌, ◌<◌, [], ◌∷◌, ◌++◌, length, IsSome, append_assoc, arith, sym, ap, subst, ◌∙◌}
use Rattle.stix_json.specs.inner.Insertion.{insert_all, ends_with, NamesAreSorted}
use Rattle.stix_json.specs.inner.Checking.{member_name}
use Rattle.stix_json.proofs.InsertionLemmas.{insert_next, insert_popped}
use Rattle.stix_json.proofs.raw_members.keep_last.Goals as goal
use Rattle.stix_json.proofs.raw_members.keep_last.Goals.{then-ends_with_name, else-ends_with_name}

pub loop-member-preserved : goal.loop-member-preserved
loop-member-preserved c =
    let inv = c.loop-member.invariant in
    let done = c.loop-member.yielded in
    let x = c.in-Some.member in
    let rest = c.next.new.self.rest.items in
    let here : c.args.members.items ≡ done ++ x ∷ rest = inv.0 ∙ ap (λ xs. done ++ xs) c.in-Some.ensures.steps.0 in
    let ends : c.ends_with_name.result ≡ ends_with member_name x.name (insert_all member_name done []) =
    c.ends_with_name.ensures ∙ ap (ends_with member_name x.name) (c.deref.ensures.value ∙ inv.1) in (
      here ∙ sym (append_assoc done (x ∷ []) rest),
      elim c.if-ends_with_name.branch [
        | then-ends_with_name w ↦
            let some : 0 < length (insert_all member_name done []) → IsSome w.pop.result
            = λ some. w.pop.ensures.variant.1 (omega (arith, some, ap length inv.1, ap length c.deref.ensures.value, c.deref.ensures.len)) in
            c.in_ok-push.ensures
            ∙ ap (λ v. v.items ++ x ∷ []) w.kept-is
            ∙ sym (insert_popped member_name done w.pop.new.self.items w.pop.result x (sym inv.1 ∙ w.pop.ensures.items) some (sym ends ∙ w.if-ends_with_name.true))
        | else-ends_with_name w ↦
            c.in_ok-push.ensures
            ∙ ap (λ v. v.items ++ x ∷ []) w.kept-is
            ∙ ap (λ xs. xs ++ x ∷ []) inv.1
            ∙ sym (insert_next member_name done x rest (subst (NamesAreSorted member_name) here c.requires) (sym ends ∙ w.if-ends_with_name.false))
      ],
    )
