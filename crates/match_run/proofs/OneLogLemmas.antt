-- An input has one log for a pattern: there is one truth for each bracket and each observation.
use Rattle.std.proofs.Common.{◌≡◌, ◌↔◌, ℕ, Bool, true, false, IsTrue, List, [], ◌∷◌, ◌++◌, refl, sym, ap, subst, ◌∙◌}
use Rattle.serde_json.specs.Data.{Data}
use Rattle.stix_bundles.specs.declared.observation.Observation.{Observation}
use Rattle.pattern_types.specs.declared.pattern.Pattern.{Pattern}
use Rattle.pattern_types.specs.PlainPattern.{PlainPattern, a_leaf, a_both, an_either, a_then, a_limited, plain_pattern}
use Rattle.match_comparisons.specs.Truths.{AreOfBoth, AreTruths}
use Rattle.match_bindings.specs.declared.log_entry.LogEntry.{LogEntry}
use Rattle.match_bindings.specs.NumberedPattern.{NumberedPattern}
use Rattle.match_bindings.specs.BindTree.{BindTree}
use Rattle.match_bindings.specs.Log.{Observed}
use Rattle.match_bindings.specs.Listing.{IsListing}
use Rattle.match_input.specs.declared.mode.Mode.{Mode}
use Rattle.match_input.specs.Reading.{BundleOf, InputEnd, Reading}
use Rattle.match_run.specs.Entries.{AreEntriesOf, AreEntries}
use Rattle.match_run.specs.Listing.{AreBindings, listing_text}
use Rattle.match_run.specs.Output.{IsOutputOf}
use Rattle.match_run.specs.inner.Rows.{log_row}

-- one truth tells a fact
one_truth : {P : Type 0} (x y : Bool) → (IsTrue x ↔ P) → (IsTrue y ↔ P) → x ≡ y
one_truth true true a b = refl
one_truth false false a b = refl
one_truth true false a b = let yes = b.1 (a.0 refl) in cc
one_truth false true a b = let yes = a.1 (b.0 refl) in cc

-- where each side has one list, both have one
one_of_both : {A : Type 0} (Left Right : List A → Type 0) (a b : List A) → ((x y : List A) → Left x → Left y → x ≡ y)
    → ((x y : List A) → Right x → Right y → x ≡ y) → AreOfBoth Left Right a → AreOfBoth Left Right b → a ≡ b
one_of_both Left Right a b left right x y =
    x.4 ∙ ap (λ (l : List _). l ++ x.1) (left x.0 y.0 x.2 y.2) ∙ ap (λ (r : List _). y.0 ++ r) (right x.1 y.1 x.3 y.3) ∙ sym y.4

one_truths : (objects : List Data) (roots : List ℕ) (p : PlainPattern) (a b : List Bool) → AreTruths objects roots p a → AreTruths objects roots p b → a ≡ b
one_truths objects roots (a_leaf leaf) a b x y = x.1 ∙ ap (λ (t : Bool). t ∷ []) (one_truth x.0 y.0 x.2 y.2) ∙ sym y.1
one_truths objects roots (a_both left right) a b x y =
    one_of_both (AreTruths objects roots left) (AreTruths objects roots right) a b (one_truths objects roots left) (one_truths objects roots right) x y
one_truths objects roots (an_either left right) a b x y =
    one_of_both (AreTruths objects roots left) (AreTruths objects roots right) a b (one_truths objects roots left) (one_truths objects roots right) x y
one_truths objects roots (a_then left right) a b x y =
    one_of_both (AreTruths objects roots left) (AreTruths objects roots right) a b (one_truths objects roots left) (one_truths objects roots right) x y
one_truths objects roots (a_limited part limit) a b x y = one_truths objects roots part a b x y

one_entries_of : (p : PlainPattern) (objects : List Data) (observations : List Observation) (log other : List LogEntry)
    → AreEntriesOf p objects observations log → AreEntriesOf p objects observations other → log ≡ other
one_entries_of p objects [] log other x y = x ∙ sym y
one_entries_of p objects (o ∷ observations) log other x y =
    x.4 ∙ ap (λ (t : List Bool). log_row o t ∷ x.1) (one_truths objects o.roots p x.0 y.0 x.2 y.2)
    ∙ ap (λ (r : List LogEntry). log_row o y.0 ∷ r) (one_entries_of p objects observations x.1 y.1 x.3 y.3) ∙ sym y.4

pub one_entries : (p : PlainPattern) (bundles : List BundleOf) (log other : List LogEntry) → AreEntries p bundles log → AreEntries p bundles other → log ≡ other
one_entries p [] log other x y = x ∙ sym y
one_entries p (bundle ∷ bundles) log other x y =
    x.4 ∙ ap (λ (own : List LogEntry). own ++ x.1) (one_entries_of p bundle.objects bundle.observations x.0 y.0 x.2 y.2)
    ∙ ap (λ (rest : List LogEntry). y.0 ++ rest) (one_entries p bundles x.1 y.1 x.3 y.3) ∙ sym y.4

-- so there is one output
module _ (one_reading : (mode : Mode) (bytes : List ℕ) (bundles others : List BundleOf) (end other : InputEnd)
    → Reading mode bytes bundles end → Reading mode bytes others other → (bundles ≡ others) × (end ≡ other))
    (one_listing : (o : Observed) (p : NumberedPattern) (xs ys : List BindTree) → IsListing o p xs → IsListing o p ys → xs ≡ ys) where
  pub one_text : (mode : Mode) (p : Pattern) (bytes text other : List ℕ) → IsOutputOf mode p bytes text → IsOutputOf mode p bytes other → text ≡ other
  one_text mode p bytes text other x y =
      let bundles = (one_reading mode bytes x.bundles y.bundles x.end y.end x.reading y.reading).0 in
      let log = one_entries (plain_pattern p) y.bundles x.log y.log
      (subst (λ (b : List BundleOf). AreEntries (plain_pattern p) b x.log) bundles x.entries) y.entries in
      let trees = one_listing _ _ x.trees y.trees (subst (λ (l : List LogEntry). AreBindings p l x.trees) log x.bindings) y.bindings in
      x.text_is ∙ ap listing_text trees ∙ sym y.text_is
