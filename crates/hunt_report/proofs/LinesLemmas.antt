-- Lines of a list, of which one is added.
use Rattle.std.proofs.Common.{◌≡◌, ℕ, suc, ◌+◌, ◌<◌, Option, List, [], ◌∷◌, ◌++◌, length, get_or, take, drop, sym, ap, subst, ◌∙◌, append_assoc, drop-cons, take-append-drop, arith}
use Rattle.std.specs.List.{flat_map}
use Rattle.std.specs.Prelude.{All, Some}
use Rattle.std.proofs.lemmas.List.{append-nil, take_more}
use Rattle.std.proofs.lemmas.Grind.{flat_map-append}
use Rattle.flow_edges.specs.Flow.{WritesPrefix}
use Rattle.stix_ids.specs.Kind.{IsKind}
use Rattle.match_bindings.specs.BindTree.{tree_of}
use Rattle.match_run.proofs.PendingLemmas.{prefix-more}
use Rattle.match_run.specs.Buffered.{IsBuffered}
use Rattle.hunt_feed.specs.declared.hunted.Hunted.{Hunted}
use Rattle.hunt_engine.specs.declared.found.Hit.{Hit}
use Rattle.hunt_report.proofs.PlaceLemmas.{get_read}
use Rattle.hunt_report.specs.Lines.{line_for, hit_line}

module _ {A : Type 0} (line : A → List ℕ) (xs : List A) (i : ℕ) (x : A) (within : i < length xs) (is : x ≡ get_or xs i x) where
  -- the lines up to that one
  pub lines_here : flat_map line (take (i + 1) xs) ≡ flat_map line (take i xs) ++ line x
  lines_here =
      ap (flat_map line) (take_more xs i x within ∙ ap (λ (y : A). take i xs ++ y ∷ []) (sym is))
      ∙ flat_map-append line (take i xs) (x ∷ []) ∙ ap (λ (t : List ℕ). flat_map line (take i xs) ++ t) (append-nil (line x))

  -- and those after it
  pub lines_all : flat_map line xs ≡ (flat_map line (take i xs) ++ line x) ++ flat_map line (drop (i + 1) xs)
  lines_all =
      ap (flat_map line) (sym (take-append-drop (i + 1) xs)) ∙ flat_map-append line (take (i + 1) xs) (drop (i + 1) xs)
      ∙ ap (λ (t : List ℕ). t ++ flat_map line (drop (i + 1) xs)) lines_here

  pub way_here : (before pending : List ℕ) (first now : Option (List ℕ)) → IsBuffered ((before ++ flat_map line (take i xs)) ++ line x) pending first now
      → IsBuffered (before ++ flat_map line (take (i + 1) xs)) pending first now
  way_here before pending first now way =
      subst (λ (t : List ℕ). IsBuffered t pending first now)
      (append_assoc before (flat_map line (take i xs)) (line x) ∙ ap (λ (t : List ℕ). before ++ t) (sym lines_here)) way

  -- a prefix of the lines up to that one is a prefix of all
  pub cut_here : (before : List ℕ) (first now : Option (List ℕ)) → WritesPrefix ((before ++ flat_map line (take i xs)) ++ line x) first now
      → WritesPrefix (before ++ flat_map line xs) first now
  cut_here before first now prefix =
      let rest = flat_map line (drop (i + 1) xs) in
      subst (λ (t : List ℕ). WritesPrefix t first now)
      (ap (λ (t : List ℕ). t ++ rest) (append_assoc before (flat_map line (take i xs)) (line x))
      ∙ append_assoc before (flat_map line (take i xs) ++ line x) rest ∙ ap (λ (t : List ℕ). before ++ t) (sym lines_all))
      (prefix-more ((before ++ flat_map line (take i xs)) ++ line x) rest first now prefix)

-- the line of a hit whose indicator stands there
pub line_at : (hunted : List Hunted) (hit : Hit) (indicator : Hunted) → hit.hunted < length hunted → indicator ≡ get_or hunted hit.hunted indicator
    → line_for (Some indicator) (tree_of hit.bind) ≡ hit_line hunted hit
line_at hunted hit indicator inside is = ap (λ (o : Option Hunted). line_for o (tree_of hit.bind)) (sym (get_read hunted hit.hunted indicator inside is))

pub kind_at : (hunted : List Hunted) (place : ℕ) (indicator : Hunted) → place < length hunted → indicator ≡ get_or hunted place indicator
    → All (λ h. IsKind h.id.kind) hunted → IsKind indicator.id.kind
kind_at hunted place indicator inside is all = subst (λ (h : Hunted). IsKind h.id.kind) (sym is) (all place indicator inside)

-- an item, and what stands after it
pub drop_at : {A : Type 0} (xs : List A) (i : ℕ) (x : A) → i < length xs → x ≡ get_or xs i x → drop i xs ≡ x ∷ drop (i + 1) xs
drop_at {A} xs i x within is =
    let next : suc i ≡ i + 1 = omega arith in
    drop-cons xs i x within ∙ ap (λ (y : A). y ∷ drop (suc i) xs) (sym is) ∙ ap (λ (n : ℕ). x ∷ drop n xs) next
