use Rattle.std.proofs.Common.{◌<◌, ◌^◌, [], ◌∷◌, ◌++◌, length, All, Vec, Global, sym, ap, subst, ◌∙◌, append_assoc, arith}
use Rattle.std.proofs.lemmas.List.Elements.{All-tail}
use Rattle.stix_json.specs.declared.entry.Entry.{Entry}
use Rattle.taxii_service.specs.inner.Posting.{IsTakenEntry}
use Rattle.taxii_service.proofs.HoldsLemmas.{holds_adds, sound_adds, holds_within}
use Rattle.taxii_service.proofs.post_body.check_entries.Goals as goal

within_room : (entries : Vec Entry Global) → length entries.items < 2 ^ 63
within_room entries = let (length_is, within) = entries.ok in let small = entries.small in omega (arith, length_is, within, small)

pub add-requires-clause-room : goal.add-requires-clause-room
add-requires-clause-room c =
    let within = within_room c.args.entries in
    let few = holds_within (2 ^ 63) c.args.moment c.args.entries.items c.loop-entry.yielded c.loop-entry.entry-iterator.rest.items c.loop-entry.posted
    within c.loop-entry.invariant.items c.loop-entry.invariant.holds in
    omega (arith, few)

pub loop-entry-preserved : goal.loop-entry-preserved
loop-entry-preserved c =
    let inv = c.loop-entry.invariant in
    let rest = c.next.new.self.rest.items in
    let taken = subst (All IsTakenEntry) c.in-Some.ensures.steps.0 inv.taken in record {
      items = inv.items ∙ ap (λ es. c.loop-entry.yielded ++ es) c.in-Some.ensures.steps.0 ∙ sym (append_assoc c.loop-entry.yielded (c.in-Some.entry ∷ []) rest);
      taken = All-tail IsTakenEntry c.in-Some.entry rest taken;
      holds = holds_adds c.args.moment c.loop-entry.yielded c.in-Some.entry c.loop-entry.posted c.add.new.self inv.holds c.in_ok-add.ensures;
      sound = sound_adds c.args.moment c.in-Some.entry c.loop-entry.posted c.add.new.self inv.sound c.in_ok-add.ensures;
    }

pub returns-clause-few : goal.returns-clause-few
returns-clause-few c =
    holds_within (2 ^ 63) c.args.moment c.args.entries.items c.loop-entry.yielded c.loop-entry.entry-iterator.rest.items c.loop-entry.posted
    (within_room c.args.entries) c.loop-entry.invariant.items c.loop-entry.invariant.holds
