-- The granular markings of an object.
use Rattle.std.proofs.Common.{◌≡◌, List, [], Option, Some, None, Result, Ok, Err, OnOk, MatchOption, option_and_then, codes, sym, subst}
use Rattle.serde_json.specs.Data.{Data, Items}
use Rattle.serde_json.specs.Find.{get, as_array}
use Rattle.serde_json.specs.View.{items_of}
use Rattle.stix_bundles.specs.Bundle.{items_in_order}
use Rattle.stix_versions.specs.Markings.{AreMarkings}
use Rattle.stix_versions.specs.inner.Selectors.{IsListAt}
use Rattle.stix_versions.proofs.ItemsLemmas.{listed_items}

pub on_ok : {T E : Type 0} (r : Result T E) (P Q : Type 0) → OnOk r P → (P → Q) → OnOk r Q
on_ok (Ok x) P Q is f = f is
on_ok (Err e) P Q is f = tt

marked : (o : Option Data) (ds : List Data) → option_and_then as_array o ≡ Some (items_of ds)
    → MatchOption o (ds ≡ []) (λ value. MatchOption (as_array value) (ds ≡ []) (λ items. ds ≡ items_in_order items))
marked None ds is = absurd cc
marked (Some value) ds is = subst (λ (o : Option Items). MatchOption o (ds ≡ []) (λ items. ds ≡ items_in_order items)) (sym is) (sym (listed_items ds))

pub are_markings : (d : Data) (ds : List Data) → IsListAt (codes "granular_markings") d ds → AreMarkings d ds
are_markings d ds is = marked (get (codes "granular_markings") d) ds is
