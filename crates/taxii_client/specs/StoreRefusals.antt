-- Why a page is not absorbed, by the refusal of what is below.
use Rattle.taxii_rows.specs.declared.keeper_refusal.KeeperRefusal.{KeeperRefusal}
use Rattle.taxii_rows.specs.declared.keeper_refusal.KeeperRefusal.TheVariants as Keeper
use Rattle.taxii_store.specs.declared.plan_refusal.PlanRefusal.{PlanRefusal}
use Rattle.taxii_store.specs.declared.plan_refusal.PlanRefusal.TheVariants as Plan
use Rattle.taxii_client.specs.declared.store_refusal.StoreRefusal.{StoreRefusal}
use Rattle.taxii_client.specs.declared.store_refusal.StoreRefusal.TheVariants.{DatesUsedUp, Fault, NoMemory}

-- the refusal of an addition that is not planned
abbrev pub for_plan : PlanRefusal → StoreRefusal
for_plan Plan.DatesUsedUp = DatesUsedUp
for_plan Plan.NoMemory = NoMemory

-- the refusal of rows that are not kept
abbrev pub for_keeper : KeeperRefusal → StoreRefusal
for_keeper Keeper.Fault = Fault
for_keeper Keeper.NoMemory = NoMemory
