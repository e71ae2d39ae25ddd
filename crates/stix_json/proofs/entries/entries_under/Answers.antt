use Rattle.stix_json.proofs.PropertiesLemmas.{no_list}
use Rattle.serde_json.specs.Data.{no_items}
use Rattle.std.proofs.Common.{subst, sym, List}
use Rattle.stix_json.specs.declared.entry.Entry.{Entry}
use Rattle.stix_json.specs.Entries.{AreEntriesFor}
use Rattle.stix_json.proofs.entries.entries_under.Goals as goal

pub returns-in-None-clause-ok : goal.returns-in-None-clause-ok
returns-in-None-clause-ok c ms holds =
    (no_items, no_list c.args.name.now ms c.args.properties.items holds c.in-None.ensures, subst (λ (entries : List Entry). AreEntriesFor no_items entries) (sym c.new.ensures) tt)
