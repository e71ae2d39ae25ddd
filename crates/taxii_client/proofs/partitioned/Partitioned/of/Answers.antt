use Rattle.std.proofs.Common.{◌<◌, ◌^◌, [], ◌∷◌, ◌++◌, length, All, Vec, Global, sym, ap, subst, ◌∙◌, append_assoc, arith}
use Rattle.std.proofs.lemmas.List.Elements.{All-tail}
use Rattle.stix_json.specs.declared.entry.Entry.{Entry}
use Rattle.taxii_client.specs.Absorbing.{IsReadable}
use Rattle.taxii_client.proofs.SortingLemmas.{partitions_one, sound_one, skipped_within}
use Rattle.taxii_client.proofs.partitioned.Partitioned.of.Goals as goal

within_room : (entries : Vec Entry Global) → length entries.items < 2 ^ 63
within_room entries = let (length_is, within) = entries.ok in let small = entries.small in omega (arith, length_is, within, small)

pub add-requires-clause-room : goal.add-requires-clause-room
add-requires-clause-room c =
    skipped_within (2 ^ 63) c.args.entries.items c.loop-entry.yielded c.loop-entry.entry-iterator.rest.items c.loop-entry.partitioned
    (within_room c.args.entries) c.loop-entry.invariant.items c.loop-entry.invariant.partitions

pub loop-entry-preserved : goal.loop-entry-preserved
loop-entry-preserved c =
    let inv = c.loop-entry.invariant in
    let rest = c.next.new.self.rest.items in
    let readable = subst (All IsReadable) c.in-Some.ensures.steps.0 inv.readable in record {
      items = inv.items ∙ ap (λ es. c.loop-entry.yielded ++ es) c.in-Some.ensures.steps.0 ∙ sym (append_assoc c.loop-entry.yielded (c.in-Some.entry ∷ []) rest);
      readable = All-tail IsReadable c.in-Some.entry rest readable;
      partitions = partitions_one c.loop-entry.yielded c.in-Some.entry c.loop-entry.partitioned c.add.new.self inv.partitions c.in_ok-add.ensures;
      sound = sound_one c.in-Some.entry c.loop-entry.partitioned c.add.new.self inv.sound c.in_ok-add.ensures;
    }
