use Rattle.std.proofs.Common.{rules, arith, suc, ◌≡◌, List, [], ◌∷◌, ◌++◌, append_assoc, append-nil, refl, sym, ap, subst, ◌∙◌}
use Rattle.serde_json.specs.Data.{Members, object}
use Rattle.stix_json.specs.DataOf.{Member, members_of}
use Rattle.stix_json.specs.inner.Checking.{IsCheckedAs, AreFields, AreRawMembers}
use Rattle.stix_json.proofs.CheckedLemmas.{none_left, no_fields, gathered_split, listed, listed_again}
use Rattle.stix_json.proofs.fields.check_members.Goals as goal

pub loop-member-init : goal.loop-member-init
loop-member-init c = (search rules, λ levels done are. no_fields levels done _ are (search rules) refl)

pub loop-member-preserved : goal.loop-member-preserved
loop-member-preserved c =
    let inv = c.loop-member.invariant in
    let done = c.loop-member.yielded in
    let m = c.in-Some.member in (
      inv.0 ∙ ap (λ vs. done ++ vs) c.in-Some.ensures.steps.0 ∙ sym (append_assoc done (m ∷ []) c.next.new.self.rest.items),
      λ levels all are.
          let s = gathered_split levels all done m are in
          subst (λ (ms : List Member). AreFields levels ms c.push.new.self) (sym s.2) (c.in_ok-push.ensures levels s.0 s.1 (inv.1 levels s.0 s.3) s.4),
    )

pub returns : goal.returns
returns c levels ms are =
    let inv = c.loop-member.invariant in
    let nil = none_left c.loop-member.member-iterator.rest.items (omega (arith, c.loop-member.member-iterator.rest.ok, c.in-None.ensures.steps.0)) in
    let whole : c.args.members.items ≡ c.loop-member.yielded = inv.0 ∙ ap (λ vs. c.loop-member.yielded ++ vs) nil ∙ append-nil c.loop-member.yielded in
    let all = subst (λ gs. AreRawMembers levels (members_of (listed ms)) gs) whole (subst (λ (ns : Members). AreRawMembers levels ns c.args.members.items) (sym (listed_again ms)) are) in
    subst (λ (ns : Members). IsCheckedAs (suc levels) (object ns) c.into_checked.result) (listed_again ms) (c.into_checked.ensures levels (listed ms) (inv.1 levels (listed ms) all))
