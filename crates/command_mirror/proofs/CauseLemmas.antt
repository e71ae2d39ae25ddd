-- Where the store failed, by the status of what stopped.
use Rattle.std.proofs.Common.{◌≡◌, ◌≢◌, ◌↔◌, ℕ, List, Option, true, refl}
use Rattle.flow_edges.specs.Faults.{Counted}
use Rattle.taxii_store.specs.declared.load_refusal.LoadRefusal.TheVariants as Load
use Rattle.taxii_client.specs.declared.store_refusal.StoreRefusal.TheVariants as Store
use Rattle.taxii_client.specs.declared.stop.CopyStop.{CopyStop}
use Rattle.taxii_client.specs.declared.stop.CopyStop.TheVariants.{NotLoaded, NotFetched, NotAbsorbed}
use Rattle.taxii_client.specs.declared.stop.FetchStop.TheVariants as Stop
use Rattle.taxii_client.specs.Endings.{is_store_fault}
use Rattle.taxii_client.specs.declared.totals.Totals.{Totals}
use Rattle.command_mirror.specs.declared.ending.MirrorEnding.{MirrorEnding}
use Rattle.command_mirror.specs.declared.ending.MirrorEnding.TheVariants.{Usage, Done, WriteFault, Stopped, NoMemory}
use Rattle.command_mirror.specs.Endings.{ConcludesCopy, stop_status, mirror_status}

pub nine_exactly : (stop : CopyStop) → (stop_status stop ≡ 9) ↔ (is_store_fault stop ≡ true)
nine_exactly (NotLoaded Load.KeeperFault) = (λ nine. refl, λ fault. refl)
nine_exactly (NotLoaded (Load.BadRow after)) = (λ nine. absurd (cc nine), λ fault. absurd (cc fault))
nine_exactly (NotLoaded Load.NoMemory) = (λ nine. absurd (cc nine), λ fault. absurd (cc fault))
nine_exactly (NotFetched Stop.LinkLost) = (λ nine. absurd (cc nine), λ fault. absurd (cc fault))
nine_exactly (NotFetched (Stop.Refused refusal)) = (λ nine. absurd (cc nine), λ fault. absurd (cc fault))
nine_exactly (NotFetched Stop.TooManyPages) = (λ nine. absurd (cc nine), λ fault. absurd (cc fault))
nine_exactly (NotFetched Stop.NoMemory) = (λ nine. absurd (cc nine), λ fault. absurd (cc fault))
nine_exactly (NotAbsorbed Store.Fault) = (λ nine. refl, λ fault. refl)
nine_exactly (NotAbsorbed Store.DatesUsedUp) = (λ nine. absurd (cc nine), λ fault. absurd (cc fault))
nine_exactly (NotAbsorbed Store.NoMemory) = (λ nine. absurd (cc nine), λ fault. absurd (cc fault))

pub counted_when : {P Q : Type 0} {before now : ℕ} → (Q ↔ P) → Counted P before now → Counted Q before now
counted_when same it = record {
  later = it.later;
  failed = λ failed. it.failed (same.0 failed);
  quiet = λ fine. it.quiet (λ failed. fine (same.1 failed));
}

-- what was told at the end of a copy has to do with no store
pub told_never_nine : (totals : Totals) (written written_now : Option (List ℕ)) (ending : MirrorEnding) → ConcludesCopy totals written written_now ending → mirror_status ending ≢ 9
told_never_nine totals written written_now Usage concludes is = concludes
told_never_nine totals written written_now Done concludes is = cc is
told_never_nine totals written written_now WriteFault concludes is = cc is
told_never_nine totals written written_now (Stopped stop) concludes is = concludes
told_never_nine totals written written_now NoMemory concludes is = concludes
