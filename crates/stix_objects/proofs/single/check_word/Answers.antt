use Rattle.std.proofs.Common.{◌≡◌, ℕ, List, map, Some, None, Bor, IsTrue, bytes_eq, false, refl, sym, ◌∙◌}
use Rattle.serde_json.specs.Find.{as_str}
use Rattle.stix_json.specs.DataOf.{data_of}
use Rattle.stix_objects.specs.declared.rule.Rule.TheVariants.{BadWord}
use Rattle.stix_objects.specs.Types.{is_among}
use Rattle.stix_objects.specs.Checking.{Requires}
use Rattle.stix_objects.proofs.ListLemmas.{any_map}
use Rattle.stix_objects.proofs.CheckingLemmas.{of_kind, not_true}
use Rattle.stix_objects.proofs.single.check_word.Goals as goal

abbrev any_text : List (Bor (List ℕ)) → List (List ℕ)
any_text known = map (λ word. word.now) known

pub returns-then-contains : goal.returns-then-contains
returns-then-contains c =
    of_kind (as_str (data_of c.args.value.now)) c.in-Some.text.now (λ s. Requires (IsTrue (is_among s (any_text c.args.known.now))) BadWord) None c.in-Some.ensures
    (sym (any_map (λ known. bytes_eq known c.in-Some.text.now) (λ (word : Bor (List ℕ)). word.now) c.args.known.now) ∙ sym c.contains.ensures.value ∙ c.if-contains.true)

pub returns-else-contains : goal.returns-else-contains
returns-else-contains c =
    let out : is_among c.in-Some.text.now (any_text c.args.known.now) ≡ false =
    sym (any_map (λ known. bytes_eq known c.in-Some.text.now) (λ (word : Bor (List ℕ)). word.now) c.args.known.now) ∙ sym c.contains.ensures.value ∙ c.if-contains.false in
    of_kind (as_str (data_of c.args.value.now)) c.in-Some.text.now (λ s. Requires (IsTrue (is_among s (any_text c.args.known.now))) BadWord) (Some BadWord) c.in-Some.ensures
    (not_true (is_among c.in-Some.text.now (any_text c.args.known.now)) out, refl)
