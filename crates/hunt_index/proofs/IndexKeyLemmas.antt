-- Where a test, or parts joined by AND or OR, hold of a root, one of the index keys is met.
use Rattle.std.proofs.Common.{arith, ◌≡◌, inl, inr, ℕ, ℤ, zero, suc, ◌+◌, ◌<◌, ◌≤◌, List, [], ◌∷◌, ◌++◌, length, take, drop, get_or, Bool, false, Option, Some, None, refl, sym, ap, subst, ◌∙◌}
use Rattle.std.specs.Borrow.{Bor}
use Rattle.std.proofs.lemmas.Map.Lookups.{exact_bytes}
use Rattle.match_comparisons.proofs.ContainsLemmas.{in_more, take_next}
use Rattle.std.proofs.lemmas.Bool.{false≢true}
use Rattle.std.proofs.lemmas.List.{length-append, append-nil, nil_from_length}
use Rattle.std.specs.Prelude.{Contains}
use Rattle.std.proofs.lemmas.List.Elements.{All-contains, Contains-append_left, Contains-push, Contains-get_or}
use Rattle.std.proofs.lemmas.Cmp.{tied_itself, int_cmp_total, nat_list_cmp_total}
use Rattle.std.specs.Ordering.{nat_cmp}
use Rattle.std.specs.Cmp.Lexicographic.{slice_cmp}
use Rattle.std.specs.declared.cmp.Ordering.TheVariants as order
use Rattle.serde_json.specs.Data.{Data}
use Rattle.pattern_types.specs.declared.path.Step.{Step}
use Rattle.pattern_types.specs.declared.path.Step.TheVariants as steps
use Rattle.pattern_types.specs.declared.constant.Constant.{Constant}
use Rattle.pattern_types.specs.declared.constant.Constant.TheVariants as constants
use Rattle.pattern_types.specs.declared.check.Check.{Check}
use Rattle.pattern_types.specs.declared.check.Check.TheVariants as checks
use Rattle.pattern_types.specs.declared.leaf.Test.{Test}
use Rattle.match_comparisons.specs.Selection.{IsRoot, Reaches, last_name}
use Rattle.match_comparisons.specs.Tests.{TestHolds, NegatedIf, MeetsCheck, last_property}
use Rattle.hunt_index.specs.declared.index_key.IndexKey.{IndexKey}
use Rattle.hunt_index.specs.declared.key.Key.{Key}
use Rattle.hunt_index.specs.declared.key.Key.TheVariants as key
use Rattle.hunt_index.specs.inner.Keys.{FitsKey}
use Rattle.hunt_index.specs.Definite.{IsPlain, ArePlain, IsDefiniteConstant, IsDefiniteCheck, IsDefiniteTest}
use Rattle.hunt_index.specs.inner.IndexKeys.{SomeMet, AreIndexKeys, IsSufficient, AreSufficient, HasIndexKey, AreBy, KeyRepresents, AnswersConstant, AnswersSome}

-- where steps reach a value, the first of them reach one
pub front_reaches : (objects : List Data) (last : Option (List ℕ)) (front rest : List Step) (value found : Data)
    → Reaches objects last (front ++ rest) value found → (mid : Data) × Reaches objects last front value mid
front_reaches objects last [] rest value found reaches = (value, refl)
front_reaches objects last (step ∷ front) rest value found reaches =
    let more = front_reaches objects (last_name last step) front rest reaches.0 found reaches.2 in
    (more.0, (reaches.0, reaches.1, more.1))

-- an index key with the path is met where its steps reach a value that its key stands for
pub index_key_met : (objects : List Data) (root : ℕ) (kind : List ℕ) (steps : List Step) (index_keys : List IndexKey) (from value : Data) → ArePlain steps
    → IsRoot objects root kind from → Reaches objects None steps from value → HasIndexKey kind steps (λ own. FitsKey own value) index_keys → SomeMet objects root index_keys
index_key_met objects root kind steps index_keys from value plain is_root reaches has = (
  has.index_key,
  has.among,
  record {
    plain = subst ArePlain (sym has.steps_are) plain;
    object = from;
    is_root = subst (λ (k : List ℕ). IsRoot objects root k from) (sym has.kind_is) is_root;
    value = value;
    reached = subst (λ (s : List Step). Reaches objects None s from value) (sym has.steps_are) reaches;
    fits = has.key;
  },
)

-- an index key with any other fact of its key that follows
pub weaker : (kind : List ℕ) (steps : List Step) (Fact More : Key → Type 0) (index_keys : List IndexKey) → ((own : Key) → Fact own → More own)
    → HasIndexKey kind steps Fact index_keys → HasIndexKey kind steps More index_keys
weaker kind steps Fact More index_keys follows has = record {
  index_key = has.index_key;
  among = has.among;
  kind_is = has.kind_is;
  steps_are = has.steps_are;
  key = follows has.index_key.key has.key;
}

any_fits : (value : Data) (own : Key) → own ≡ key.Any → FitsKey own value
any_fits value own is = subst (λ (k : Key). FitsKey k value) (sym is) tt

module _ (test : Test) (plain_test : test.negated ≡ false) where
  met_value : (objects : List Data) (root : ℕ) (holds : TestHolds objects root test)
      → (object value : Data) × IsRoot objects root test.path.kind object × Reaches objects None test.path.steps object value × MeetsCheck (last_property test.path) value test.check
  met_value objects root holds =
      let some = holds.something (λ absence. false≢true (sym plain_test ∙ absence.1)) in
      (some.1.object, some.0, some.1.is_root, some.1.reached, subst (λ (b : Bool). NegatedIf b (MeetsCheck (last_property test.path) some.0 test.check)) plain_test some.2)

  -- and the first steps of its path lead to a value
  pub front_index_keys : (front rest : List Step) (index_keys : List IndexKey) → test.path.steps ≡ front ++ rest → ArePlain front
      → HasIndexKey test.path.kind front (λ own. own ≡ key.Any) index_keys → AreIndexKeys (λ objects root. TestHolds objects root test) index_keys
  front_index_keys front rest index_keys split plain has objects root holds =
      let met = met_value objects root holds in
      let mid = front_reaches objects None front rest met.0 met.1 (subst (λ (s : List Step). Reaches objects None s met.0 met.1) split met.3) in
      index_key_met objects root test.path.kind front index_keys met.0 mid.0 plain met.2 mid.1
      (weaker test.path.kind front (λ own. own ≡ key.Any) (λ own. FitsKey own mid.0) index_keys (any_fits mid.0) has)

  -- all of the steps lead to a value that meets its check
  pub value_index_keys : (steps : List Step) (index_keys : List IndexKey) → test.path.steps ≡ steps → ArePlain steps
      → ((value : Data) → MeetsCheck (last_property test.path) value test.check → HasIndexKey test.path.kind steps (λ own. FitsKey own value) index_keys)
      → AreIndexKeys (λ objects root. TestHolds objects root test) index_keys
  value_index_keys steps index_keys is plain has objects root holds =
      let met = met_value objects root holds in
      index_key_met objects root test.path.kind steps index_keys met.0 met.1 plain met.2 (subst (λ (s : List Step). Reaches objects None s met.0 met.1) is met.3) (has met.1 met.4)

-- the front of a list that isn't shorter is the list
pub whole_front : {A : Type 0} (xs front rest : List A) → xs ≡ front ++ rest → length xs ≤ length front → xs ≡ front
whole_front {A = A} xs front rest split long =
    let total : length xs ≡ length front + length rest = ap length split ∙ length-append front rest in
    let none = nil_from_length rest (omega arith) in
    split ∙ ap (λ (r : List A). front ++ r) none ∙ append-nil front

pub split_at : {A : Type 0} (n : ℕ) (xs : List A) → xs ≡ take n xs ++ drop n xs
split_at zero xs = refl
split_at (suc n) [] = refl
split_at {A = A} (suc n) (x ∷ xs) = ap (λ (ys : List A). x ∷ ys) (split_at n xs)

pub plain_unless : (one : Step) → ¬ (one ≡ steps.Each) → IsPlain one
plain_unless (steps.Name name) not = tt
plain_unless (steps.Place n) not = tt
plain_unless steps.Each not = absurd (not refl)

-- the key of a text stands for what equals it
pub text_key : (constant : Constant) (words : List ℕ) (text : Bor (List ℕ)) → constant ≡ constants.String words → text.now ≡ words → KeyRepresents constant (key.Text text)
text_key constant words text is same =
    subst (λ (c : Constant). KeyRepresents c (key.Text text)) (sym is)
    (λ last value compares. compares.1 ∙ ap Some (exact_bytes compares.0 words (sym compares.2) ∙ sym same))

-- and each value that it stands for equals the text
pub text_answers : (constant : Constant) (words : List ℕ) (text : Bor (List ℕ)) → constant ≡ constants.String words → text.now ≡ words → AnswersConstant constant (key.Text text)
text_answers constant words text is same =
    subst (λ (c : Constant). AnswersConstant c (key.Text text)) (sym is)
    (λ definite last value fits. (text.now, fits, sym (subst (λ (t : List ℕ). slice_cmp nat_cmp text.now t ≡ order.Equal) same (tied_itself nat_list_cmp_total text.now))))

-- as that of a whole number does
pub whole_answers : (constant : Constant) (whole own : ℤ) → constant ≡ constants.Integer whole → own ≡ whole → AnswersConstant constant (key.Integer own)
whole_answers constant whole own is same =
    subst (λ (n : ℤ). AnswersConstant constant (key.Integer n)) (sym same)
    (subst (λ (c : Constant). AnswersConstant c (key.Integer whole)) (sym is) (λ definite last value fits. (whole, fits, sym (tied_itself int_cmp_total whole))))

module _ (test : Test) (definite : IsDefiniteTest test) where
  -- an index key by the path of a definite test is sufficient where each value that its key stands for meets the check
  shown_holds : (index_key : IndexKey) → index_key.kind.now ≡ test.path.kind → index_key.steps.now ≡ test.path.steps
      → ((value : Data) → FitsKey index_key.key value → MeetsCheck (last_property test.path) value test.check) → IsSufficient (λ objects root. TestHolds objects root test) index_key
  shown_holds index_key kind_is steps_are meets objects root shown =
      let is_root = subst (λ (k : List ℕ). IsRoot objects root k shown.object) kind_is shown.is_root in
      let reached = subst (λ (s : List Step). Reaches objects None s shown.object shown.value) steps_are shown.reached in
      record {
        object = shown.object;
        is_root = is_root;
        nothing = λ absence. absurd (false≢true (sym definite.asked ∙ absence.1));
        something = λ not. (
          shown.value,
          record { object = shown.object; is_root = is_root; reached = reached },
          subst (λ (b : Bool). NegatedIf b (MeetsCheck (last_property test.path) shown.value test.check)) (sym definite.asked) (meets shown.value shown.fits),
        );
      }

  -- so is the index key of `=`
  pub equal_sufficient : (constant : Constant) (own : Key) (front : List Step) (index_keys : List IndexKey) → test.check ≡ checks.Equal constant → test.path.steps ≡ front → AnswersConstant constant own
      → AreBy test.path.kind front (λ k. k ≡ own) index_keys → AreSufficient (λ objects root. TestHolds objects root test) index_keys
  equal_sufficient constant own front index_keys check_is is answers by index_key has =
      let b = by index_key has in
      shown_holds index_key b.kind_is (b.steps_are ∙ sym is)
      (λ value fits.
      subst (λ (c : Check). MeetsCheck (last_property test.path) value c) (sym check_is)
      (answers (subst IsDefiniteCheck check_is definite.check) (last_property test.path) value (subst (λ (k : Key). FitsKey k value) b.key fits)))

  -- and each of those of IN
  pub among_sufficient : (list : List Constant) (front : List Step) (index_keys : List IndexKey) → test.check ≡ checks.Among list → test.path.steps ≡ front
      → AreBy test.path.kind front (AnswersSome list) index_keys → AreSufficient (λ objects root. TestHolds objects root test) index_keys
  among_sufficient list front index_keys check_is is by index_key has =
      let b = by index_key has in
      let one = b.key in
      let all = subst IsDefiniteCheck check_is definite.check in
      shown_holds index_key b.kind_is (b.steps_are ∙ sym is)
      (λ value fits.
      subst (λ (c : Check). MeetsCheck (last_property test.path) value c) (sym check_is)
      (one.0, one.1, one.2 (All-contains IsDefiniteConstant list one.0 all one.1) (last_property test.path) value fits))

-- one constant more has its index key
pub keyed_next : (kind : List ℕ) (steps : List Step) (constants : List Constant) (i : ℕ) (constant : Constant) (old new : List IndexKey) (index_key : IndexKey)
    → i < length constants → constant ≡ get_or constants i constant → new ≡ old ++ index_key ∷ [] → index_key.kind.now ≡ kind → index_key.steps.now ≡ steps → KeyRepresents constant index_key.key
    → ((c : Constant) → Contains (take i constants) c → HasIndexKey kind steps (KeyRepresents c) old) → (c : Constant) → Contains (take (i + 1) constants) c → HasIndexKey kind steps (KeyRepresents c) new
keyed_next kind steps constants i constant old new index_key below is added kind_is steps_are stands before c has =
    elim ((in_more (take i constants) constant c).0 (subst (λ (l : List Constant). Contains l c) (take_next constants i constant below is) has)) [
      | inl earlier ↦
          let own = before c earlier in
          record {
            index_key = own.index_key;
            among = subst (λ (l : List IndexKey). Contains l own.index_key) (sym added) (Contains-append_left old (index_key ∷ []) own.index_key own.among);
            kind_is = own.kind_is;
            steps_are = own.steps_are;
            key = own.key;
          }
      | inr now ↦ record {
        index_key = index_key;
        among = subst (λ (l : List IndexKey). Contains l index_key) (sym added) (Contains-push old index_key);
        kind_is = kind_is;
        steps_are = steps_are;
        key = subst (λ (own : Constant). KeyRepresents own index_key.key) (sym now) stands;
      }
    ]

-- and the index keys are those of the constants
pub by_next : (kind : List ℕ) (steps : List Step) (list : List Constant) (i : ℕ) (constant : Constant) (old new : List IndexKey) (index_key : IndexKey)
    → i < length list → constant ≡ get_or list i constant → new ≡ old ++ index_key ∷ [] → index_key.kind.now ≡ kind → index_key.steps.now ≡ steps → AnswersConstant constant index_key.key
    → AreBy kind steps (AnswersSome list) old → AreBy kind steps (AnswersSome list) new
by_next kind steps list i constant old new index_key below is added kind_is steps_are answers before other has =
    elim ((in_more old index_key other).0 (subst (λ (l : List IndexKey). Contains l other) added has)) [
      | inl earlier ↦ before other earlier
      | inr now ↦ record {
        kind_is = ap (λ (g : IndexKey). g.kind.now) now ∙ kind_is;
        steps_are = ap (λ (g : IndexKey). g.steps.now) now ∙ steps_are;
        key = subst (λ (g : IndexKey). AnswersSome list g.key) (sym now) (constant, subst (Contains list) (sym is) (Contains-get_or list i constant below), answers);
      }
    ]
