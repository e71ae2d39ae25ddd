-- What is collected of what a closure makes of each item: it is as the closure's answers are.
use denote.Param.Members.{Mut}
use Rattle.std.proofs.Common.{◌≡◌, List, [], ◌∷◌, ◌∙◌, All, map, map-id, Result, Ok, Err, IfOk, sym, subst}
use Rattle.std.specs.Prelude.{⊤}
use Rattle.std.specs.declared.option.Option.{Option}
use Rattle.std.specs.Fn.{Called}
use Rattle.std.specs.Iterator.{Yields, DrainsIf}
use Rattle.std.specs.Iterator.Adapters.{map_source, map_callee}
use Rattle.std.proofs.lemmas.Iterator.{YieldsList, YieldsList-from_map, maps, items_from_drains}
use Rattle.std.proofs.lemmas.List.Elements.{All-nil, All-cons, All-contains, All-contains_itself, All-weaker}
use Rattle.std.specs.List.{Contains}
use Rattle.taxii_index.proofs.ListLemmas.{Contains-map}

each : {S A F R : Type 0} (steps : S → Option A → S → Type 0) (g : Mut F (A × Unit {0}) R) (P : R → Type 0) (f : F) → ((x : A) (r : R) (q : F) → Called g f (x, tt) r q → (q ≡ f) × P r)
    → (rs : List R) (s t : _) → map_callee s ≡ f → Yields (maps steps g) s rs t → All P rs
each steps g P f gives [] s t callee went = All-nil P
each {F = F} steps g P f gives (r ∷ rs) s t callee went =
    let step = went.1 in
    let its = gives step.0 r (map_callee went.0) (subst (λ (w : F). Called g w (step.0, tt) r (map_callee went.0)) callee step.2) in
    All-cons P r rs its.1 (each steps g P f gives rs went.0 t its.0 went.2)

-- of each item that it was made of
pub all_made : {S A B F R V E : Type 0} {steps : S → Option A → S → Type 0} {v : A → B} {ys : List B} {s : _} (g : Mut F (A × Unit {0}) R) (h : B → R) (P : R → Type 0) {f : F}
    (Q : List R → V → Type 0) (r : Result V E) → IfOk r (λ w. (xs : List R) × DrainsIf (maps steps g) ⊤ s xs × Q xs w) → YieldsList steps v (map_source s) ys → map_callee s ≡ f
    → ((x : A) (r : R) (q : F) → Called g f (x, tt) r q → (q ≡ f) × (r ≡ h (v x)) × P r) → IfOk r (λ _. All (λ y. P (h y)) ys)
all_made g h P Q (Err error) ran road callee gives = tt
all_made {B = B} {steps = steps} {ys = ys} {s = s} g h P {f} Q (Ok value) ran road callee gives =
    let made = YieldsList-from_map g h road callee (λ x r q k. let its = gives x r q k in (its.0, its.1)) in
    let same : ran.0 ≡ map h ys = sym (map-id ran.0) ∙ items_from_drains ran.0 ran.1 made in
    let all : All P (map h ys) = subst (All P) same (each steps g P f (λ x r q k. let its = gives x r q k in (its.0, its.2)) ran.0 s ran.1.0 callee ran.1.1) in
    All-weaker (Contains ys) (λ (y : B). P (h y)) (λ y here. All-contains P (map h ys) (h y) all (Contains-map h ys y here)) ys (All-contains_itself ys)
