-- Whether a test holds of an object, by what the steps of its path reach from there.
use Rattle.std.proofs.Common.{◌≡◌, ◌↔◌, ℕ, List, Bool, true, false, IsTrue, not, None, sym, subst, ◌∙◌, refl}
use Rattle.std.proofs.lemmas.Bool.{false≢true}
use Rattle.std.proofs.lemmas.Option.{same_Some}
use Rattle.serde_json.specs.Data.{Data}
use Rattle.pattern_types.specs.declared.check.Check.{Check}
use Rattle.pattern_types.specs.declared.check.Check.TheVariants.{Exists}
use Rattle.pattern_types.specs.declared.leaf.Test.{Test}
use Rattle.match_comparisons.specs.Selection.{Reaches, IsRoot}
use Rattle.match_comparisons.specs.Tests.{NegatedIf, MeetsCheck, IsAbsence, TestHolds, last_property}

-- the steps reach a value that meets the check, or where it is negated one that doesn't
abbrev pub ReachesMet : List Data → Test → Bool → Data → Type 0
ReachesMet objects test negated root = (value : Data) × Reaches objects None test.path.steps root value
    × NegatedIf negated (MeetsCheck (last_property test.path) value test.check)

one_root : (objects : List Data) (root : ℕ) (kind : List ℕ) (first second : Data) → IsRoot objects root kind first → IsRoot objects root kind second → first ≡ second
one_root objects root kind first second is also = same_Some first second (sym is.there ∙ also.there)

module _ (objects : List Data) (root : ℕ) (test : Test) where
  module _ (object : Data) (is_root : IsRoot objects root test.path.kind object) where
    from_here : (other value : Data) → IsRoot objects root test.path.kind other → Reaches objects None test.path.steps other value
        → Reaches objects None test.path.steps object value
    from_here other value is reached =
        subst (λ (o : Data). Reaches objects None test.path.steps o value) (one_root objects root test.path.kind other object is is_root) reached

    there_is : (check : Check) → check ≡ Exists → (value : Data) → MeetsCheck (last_property test.path) value check
    there_is check is value = subst (MeetsCheck (last_property test.path) value) (sym is) tt

    pub none_met : (found : Bool) → IsAbsence test → IsTrue found ↔ ReachesMet objects test false object → IsTrue (not found) ↔ TestHolds objects root test
    none_met true absent exact =
        let met = exact.0 refl in (
          λ yes. absurd (false≢true yes),
          λ holds. absurd (holds.nothing absent met.0 (record { object = object; is_root = is_root; reached = met.1 })),
        )
    none_met false absent exact = (
      λ yes. record {
        object = object;
        is_root = is_root;
        nothing = λ also value selected.
            false≢true (exact.1 (value, from_here selected.object value selected.is_root selected.reached, there_is test.check absent.0 value));
        something = λ present. absurd (present absent);
      },
      λ holds. refl,
    )
