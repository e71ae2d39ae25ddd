use Rattle.std.proofs.Common.{ℕ, List, Bor, option_map, sym, ◌∙◌}
use Rattle.stix_ids.specs.PartsOf.{id_of}
use Rattle.stix_objects.proofs.IdentifierLemmas.{names_none, named_by_own, own_by_kind, kind_of_own}
use Rattle.stix_objects.proofs.identifier.names_own.Goals as goal

pub returns-in_default : goal.returns-in_default
returns-in_default c =
    (λ f. absurd (cc), λ named. absurd (names_none c.args.text.now c.in_default.ensures.only (named_by_own (option_map (λ (kind : Bor (List ℕ)). kind.now) c.args.own) c.args.text.now named)))

pub returns-in-Some-own : goal.returns-in-Some-own
returns-in-Some-own c =
    let id = id_of c.in-Some.parts in
    let own = c.in-Some-own.kind.now in
    rw c.in-Some-own.is (
      (λ same. own_by_kind c.args.text.now own id c.in-Some.ensures.some (sym c.eq.ensures ∙ same)),
      (λ named. c.eq.ensures ∙ kind_of_own c.args.text.now own id c.in-Some.ensures.only named),
    )
