-- In a tree that a text spells no value is refused as NoValue.
use denote.Enum.Bare.{same_true, same_false}
use Rattle.std.proofs.Common.{◌≡◌, ◌≢◌, ◌⊎◌, inl, inr, ℕ, Bool, true, false, ◌||◌, List, [], ◌∷◌, ◌++◌, refl, sym, ap, ◌∙◌, subst}
use Rattle.pattern_lexer.specs.contracts.token.TokenKind.{the_type}
use Rattle.pattern_lexer.specs.declared.token.Token.{Token}
use Rattle.pattern_lexer.specs.declared.token.TokenKind.{TokenKind}
use Rattle.pattern_lexer.specs.declared.token.TokenKind.TheVariants as kind
use Rattle.pattern_lexer.specs.Values.{IsStringText, HasValue}
use Rattle.pattern_lexer.specs.Spans.{IsCut, token_text_at, At}
use Rattle.pattern_grammar.specs.declared.class.TokenClass.TheVariants as class
use Rattle.pattern_grammar.specs.TokenClass.{is_same_kind, is_in}
use Rattle.pattern_grammar.specs.declared.path.StepTree.{StepTree}
use Rattle.pattern_grammar.specs.declared.path.StepTree.TheVariants as step_tree
use Rattle.pattern_grammar.specs.declared.path.PathTree.{PathTree}
use Rattle.pattern_grammar.specs.declared.comparison.CheckTree.{CheckTree}
use Rattle.pattern_grammar.specs.declared.comparison.CheckTree.TheVariants as check_tree
use Rattle.pattern_grammar.specs.declared.qualifier.Qualifier.{Qualifier}
use Rattle.pattern_grammar.specs.declared.qualifier.Qualifier.TheVariants as qualifier
use Rattle.pattern_grammar.specs.Tree.{Comparison, Tree}
use Rattle.pattern_grammar.specs.Grammar.{IsStep, step_name, step_index, IsPath, path_first, path_further, AreConstants, constants_one, constants_more, IsCheck, check_equality, check_order, check_among, check_textual, IsTest, test_group, test_exists, test_not_exists, test_compare, test_not_compare, IsCand, cand_one, cand_more, IsCor, cor_one, cor_more, IsStart, start_leaf, start_group, IsUnit, unit_one, unit_more, IsAnds, ands_one, ands_more, IsOrs, ors_one, ors_more, IsPattern, pattern_one, pattern_more}
use Rattle.pattern_types.specs.declared.path.Step.TheVariants as step
use Rattle.pattern_types.specs.declared.constant.Constant.{Constant}
use Rattle.pattern_types.specs.declared.constant.Constant.TheVariants.{Integer, String, Boolean, Hex, Binary, Timestamp}
use Rattle.pattern_types.specs.declared.check.Check.{Check}
use Rattle.pattern_types.specs.declared.check.Check.TheVariants as check
use Rattle.pattern_reader.specs.declared.value_refusal.ValueRefusal.TheVariants.{NoValue, BadAddress}
use Rattle.pattern_reader.specs.Meaning.{IsNameOf, IsConstantOf, IsCheckOf}
use Rattle.std.specs.List.{AllZip}
use Rattle.std.proofs.lemmas.Slice.Zip.{all_zipped_more}
use Rattle.pattern_reader.specs.Refusals.{Lacks, RefusalOfSteps, RefusalOfPath, textual_refusal, check_refusal, RefusalOfComparison, limit_refusal, RefusalOf}
use Rattle.pattern_reader.specs.Read.{IsFaulty}
use Rattle.pattern_reader.proofs.TokenValueLemmas.{HasWorth, AllWorth, worth_left, worth_right, tokens_worth}

same_is : (w k : TokenKind) → is_same_kind w k ≡ true → k ≡ w
same_is w k e = sym (same_true the_type tt w k e)

same_not : (w k : TokenKind) → is_same_kind w k ≡ false → k ≢ w
same_not w k e f = same_false the_type w k e (sym f)

either_way : {C : Type 0} (a b : Bool) → (a || b) ≡ true → (a ≡ true → C) → (b ≡ true → C) → C
either_way true b e f g = f refl
either_way false b e f g = g e

module _ (whole : List ℕ) (at : ℕ) where
  valued : (t : Token) (k : TokenKind) → is_same_kind k t.kind ≡ true → HasWorth whole t → HasValue k (token_text_at whole t)
  valued t k e w = subst (λ x. HasValue x (token_text_at whole t)) (same_is k t.kind e) w.value

  -- names and constants by the tests of their token's kind: a case for each kind of a class, none for the others
  name_by : (t : Token) (b : Bool) → is_same_kind kind.String t.kind ≡ b → HasWorth whole t → (name : List ℕ) × IsNameOf whole t name
  name_by t true e w =
      let v = valued t kind.String e w in (v.0, inl (same_is kind.String t.kind e, record { cut = w.cut; is = v.1 }))
  name_by t false e w = (token_text_at whole t, inr (same_not kind.String t.kind e, record { cut = w.cut; is = refl }))

  string_at : (t : Token) → is_same_kind kind.String t.kind ≡ true → HasWorth whole t → (words : List ℕ) × At IsStringText whole t words
  string_at t e w = let v = valued t kind.String e w in (v.0, record { cut = w.cut; is = v.1 })

  abbrev Meant : Token → Type 0
  Meant t = (c : Constant) × IsConstantOf whole t c

  ordered_at : (t : Token) → is_in class.Ordered t.kind ≡ true → HasWorth whole t → Meant t
  ordered_at t i w =
      let number : is_same_kind kind.Number t.kind ≡ true → Meant t = λ e. let v = valued t kind.Number e w in (Integer v.0, (same_is kind.Number t.kind e, record { cut = w.cut; is = v.1 })) in
      let string : is_same_kind kind.String t.kind ≡ true → Meant t = λ e. let v = valued t kind.String e w in (String v.0, (same_is kind.String t.kind e, record { cut = w.cut; is = v.1 })) in
      let hex : is_same_kind kind.Hex t.kind ≡ true → Meant t = λ e. let v = valued t kind.Hex e w in (Hex v.0, (same_is kind.Hex t.kind e, record { cut = w.cut; is = v.1 })) in
      let binary : is_same_kind kind.Binary t.kind ≡ true → Meant t = λ e. let v = valued t kind.Binary e w in (Binary v.0, (same_is kind.Binary t.kind e, record { cut = w.cut; is = v.1 })) in
      let timestamp : is_same_kind kind.Timestamp t.kind ≡ true → Meant t = λ e. let v = valued t kind.Timestamp e w in (Timestamp v.0, (same_is kind.Timestamp t.kind e, record { cut = w.cut; is = v.1 })) in
      either_way _ _ i (λ i. either_way _ _ i (λ i. either_way _ _ i (λ i. either_way _ _ i number string) hex) binary) timestamp

  constant_at : (t : Token) → is_in class.Constant t.kind ≡ true → HasWorth whole t → Meant t
  constant_at t i w =
      let yes : is_same_kind kind.TrueWord t.kind ≡ true → Meant t = λ e. (Boolean true, inl (same_is kind.TrueWord t.kind e, refl)) in
      let no : is_same_kind kind.FalseWord t.kind ≡ true → Meant t = λ e. (Boolean false, inr (same_is kind.FalseWord t.kind e, refl)) in
      either_way _ _ i (λ i. either_way _ _ i (λ i. ordered_at t i w) yes) no

  -- paths
  steps_split : (xs : List StepTree) (x : StepTree) → RefusalOfSteps whole (xs ++ x ∷ []) (NoValue at)
      → RefusalOfSteps whole xs (NoValue at) ⊎ RefusalOfSteps whole (x ∷ []) (NoValue at)
  steps_split [] x h = inr h
  steps_split (y ∷ ys) x (inl h) = inl (inl h)
  steps_split (y ∷ ys) x (inr h) = elim (steps_split ys x h) [ inl g ↦ inl (inr g) | inr g ↦ inr g ]

  no_name : (t : Token) → is_in class.Name t.kind ≡ true → HasWorth whole t → ¬ RefusalOfSteps whole (step_tree.Name t ∷ []) (NoValue at)
  no_name t i w (inl h) = let n = name_by t (is_same_kind kind.String t.kind) refl w in h.none (step.Name n.0) n.1
  no_name t i w (inr h) = h

  no_step : (ts : List Token) (s : StepTree) → IsStep ts s → AllWorth whole ts → ¬ RefusalOfSteps whole (s ∷ []) (NoValue at)
  no_step ts s (step_name a b i j) w h = no_name b j w.1.0 h
  no_step ts s (step_index a b c i j k) w (inl h) = let e = h.here in cc
  no_step ts s (step_index a b c i j k) w (inr h) = h

  rooted : (ts : List Token) (p : PathTree) → IsPath ts p → AllWorth whole ts → IsCut whole p.root
  rooted ts p (path_first a b c i j k) w = w.0.cut
  rooted ts p (path_further {a = us} {b = vs} {path = q} h k) w = rooted us q h (worth_left whole us vs w)

  no_steps : (ts : List Token) (p : PathTree) → IsPath ts p → AllWorth whole ts → ¬ RefusalOfSteps whole p.steps (NoValue at)
  no_steps ts p (path_first a b c i j k) w h = no_name c k w.1.1.0 h
  no_steps ts p (path_further {a = us} {b = vs} {path = q} {next = s} i j) w h = elim (steps_split q.steps s h) [
    | inl x ↦ no_steps us q i (worth_left whole us vs w) x
    | inr x ↦ no_step vs s j (worth_right whole us vs w) x
  ]

  no_path : (ts : List Token) (p : PathTree) → IsPath ts p → AllWorth whole ts → ¬ RefusalOfPath whole p (NoValue at)
  no_path ts p i w (inl h) = let e = h.here in cc
  no_path ts p i w (inr (inl h)) = h.none (token_text_at whole p.root) (record { cut = rooted ts p i w; is = refl })
  no_path ts p i w (inr (inr h)) = no_steps ts p i w h

  -- what is asked
  abbrev Asked : Token → Token → Type 0
  Asked a b = (c : Check) × IsCheckOf whole (check_tree.Compare a b) c

  equality_of : (a b : Token) → is_in class.Equality a.kind ≡ true → Meant b → Asked a b
  equality_of a b i v =
      let equal : is_same_kind kind.Equal a.kind ≡ true → Asked a b = λ e. (check.Equal v.0, (same_is kind.Equal a.kind e, v.1)) in
      let differ : is_same_kind kind.Differ a.kind ≡ true → Asked a b = λ e. (check.Differ v.0, (same_is kind.Differ a.kind e, v.1)) in
      either_way _ _ i equal differ

  order_of : (a b : Token) → is_in class.Order a.kind ≡ true → Meant b → Asked a b
  order_of a b i v =
      let less : is_same_kind kind.Less a.kind ≡ true → Asked a b = λ e. (check.Less v.0, (same_is kind.Less a.kind e, v.1)) in
      let less_equal : is_same_kind kind.LessEqual a.kind ≡ true → Asked a b = λ e. (check.LessEqual v.0, (same_is kind.LessEqual a.kind e, v.1)) in
      let greater : is_same_kind kind.Greater a.kind ≡ true → Asked a b = λ e. (check.Greater v.0, (same_is kind.Greater a.kind e, v.1)) in
      let greater_equal : is_same_kind kind.GreaterEqual a.kind ≡ true → Asked a b = λ e. (check.GreaterEqual v.0, (same_is kind.GreaterEqual a.kind e, v.1)) in
      either_way _ _ i (λ i. either_way _ _ i (λ i. either_way _ _ i less less_equal) greater) greater_equal

  no_block : (at from : ℕ) → NoValue at ≡ BadAddress from → ⊥
  no_block at from e = cc

  no_textual : (a b : Token) → is_in class.Textual a.kind ≡ true → ((words : List ℕ) × At IsStringText whole b words)
      → ¬ Lacks (IsCheckOf whole (check_tree.Textual a b)) (textual_refusal a.kind b.from) (NoValue at)
  no_textual a b i v h =
      let refusal : (k : TokenKind) → is_same_kind k a.kind ≡ true → NoValue at ≡ textual_refusal k b.from
      = λ k e. h.here ∙ ap (λ (x : TokenKind). textual_refusal x b.from) (same_is k a.kind e) in
      let like : is_same_kind kind.Like a.kind ≡ true → ⊥ = λ e. h.none (check.Like v.0) (same_is kind.Like a.kind e, v.1) in
      let subset : is_same_kind kind.Subset a.kind ≡ true → ⊥ = λ e. no_block at b.from (refusal kind.Subset e) in
      let superset : is_same_kind kind.Superset a.kind ≡ true → ⊥ = λ e. no_block at b.from (refusal kind.Superset e) in
      either_way _ _ i (λ i. either_way _ _ i like subset) superset

  constants_at : (ts cs : List Token) → AreConstants ts cs → AllWorth whole ts → (vs : List Constant) × AllZip (IsConstantOf whole) cs vs
  constants_at ts cs (constants_one a i) w = let v = constant_at a i w.0 in (v.0 ∷ [], (v.1, tt))
  constants_at ts cs (constants_more {ts = us} {cs = ds} a b i j k) w =
      let vs = constants_at us ds i (worth_left whole us (a ∷ b ∷ []) w) in
      let v = constant_at b k (worth_right whole us (a ∷ b ∷ []) w).1.0 in
      (vs.0 ++ v.0 ∷ [], all_zipped_more (IsConstantOf whole) ds vs.0 b v.0 vs.1 v.1)

  no_check : (ts : List Token) (c : CheckTree) → IsCheck ts c → AllWorth whole ts
      → ¬ Lacks (IsCheckOf whole c) (check_refusal c) (NoValue at)
  no_check ts c (check_equality a b i j) w h = let asks = equality_of a b i (constant_at b j w.1.0) in h.none asks.0 asks.1
  no_check ts c (check_order a b i j) w h = let asks = order_of a b i (ordered_at b j w.1.0) in h.none asks.0 asks.1
  no_check ts c (check_among a b d {ts = us} {cs = cs} i j k l) w h =
      let vs = constants_at us cs k (worth_left whole us (d ∷ []) w.1.1) in h.none (check.Among vs.0) vs.1
  no_check ts c (check_textual a b i j) w h = no_textual a b i (string_at b j w.1.0) h

  mutual
    no_test : (ts : List Token) (c : Comparison) → IsTest ts c → AllWorth whole ts → ¬ RefusalOfComparison whole c (NoValue at)
    no_test ts c (test_group a b {ts = us} {c = d} i j k) w h = no_cor us d j (worth_left whole us (b ∷ []) w.1) h
    no_test ts c (test_exists a {ts = us} {p = p} i j) w (inl h) = no_path us p j w.1 h
    no_test ts c (test_exists a i j) w (inr h) = h.none check.Exists tt
    no_test ts c (test_not_exists a b {ts = us} {p = p} i j k) w (inl h) = no_path us p k w.1.1 h
    no_test ts c (test_not_exists a b i j k) w (inr h) = h.none check.Exists tt
    no_test ts c (test_compare {a = us} {b = vs} {p = p} {c = d} i j) w (inl h) = no_path us p i (worth_left whole us vs w) h
    no_test ts c (test_compare {a = us} {b = vs} {p = p} {c = d} i j) w (inr h) = no_check vs d j (worth_right whole us vs w) h
    no_test ts c (test_not_compare {a = us} {b = vs} o {p = p} {c = d} i j k) w (inl h) = no_path us p i (worth_left whole us (o ∷ vs) w) h
    no_test ts c (test_not_compare {a = us} {b = vs} o {c = d} i j k) w (inr h) = no_check vs d k (worth_right whole us (o ∷ vs) w).1 h

    no_cand : (ts : List Token) (c : Comparison) → IsCand ts c → AllWorth whole ts → ¬ RefusalOfComparison whole c (NoValue at)
    no_cand ts c (cand_one i) w h = no_test ts c i w h
    no_cand ts c (cand_more o i j k) w (inl h) = let e = h.here in cc
    no_cand ts c (cand_more {a = us} {b = vs} o {c = d} {d = e} i j k) w (inr (inl h)) = no_cand us d i (worth_left whole us (o ∷ vs) w) h
    no_cand ts c (cand_more {a = us} {b = vs} o {d = e} i j k) w (inr (inr h)) = no_test vs e k (worth_right whole us (o ∷ vs) w).1 h

    no_cor : (ts : List Token) (c : Comparison) → IsCor ts c → AllWorth whole ts → ¬ RefusalOfComparison whole c (NoValue at)
    no_cor ts c (cor_one i) w h = no_cand ts c i w h
    no_cor ts c (cor_more {a = us} {b = vs} o {c = d} {d = e} i j k) w (inl h) = no_cor us d i (worth_left whole us (o ∷ vs) w) h
    no_cor ts c (cor_more {a = us} {b = vs} o {c = d} {d = e} i j k) w (inr h) = no_cand vs e k (worth_right whole us (o ∷ vs) w).1 h

  -- patterns
  no_limit : (q : Qualifier) → NoValue at ≡ limit_refusal q → ⊥
  no_limit (qualifier.Within number) e = cc
  no_limit (qualifier.Repeats number) e = cc
  no_limit (qualifier.Between start from to) e = cc

  mutual
    no_start : (ts : List Token) (p : Tree) → IsStart ts p → AllWorth whole ts → ¬ RefusalOf whole p (NoValue at)
    no_start ts p (start_leaf a b {ts = us} {c = c} i j k) w h = no_cor us c j (worth_left whole us (b ∷ []) w.1) h
    no_start ts p (start_group a b {ts = us} {p = q} i j k) w h = no_pattern us q j (worth_left whole us (b ∷ []) w.1) h

    no_unit : (ts : List Token) (p : Tree) → IsUnit ts p → AllWorth whole ts → ¬ RefusalOf whole p (NoValue at)
    no_unit ts p (unit_one i) w h = no_start ts p i w h
    no_unit ts p (unit_more {a = us} {b = vs} {p = q} i j) w (inl h) = no_unit us q i (worth_left whole us vs w) h
    no_unit ts p (unit_more {q = r} i j) w (inr h) = no_limit r h.here

    no_ands : (ts : List Token) (p : Tree) → IsAnds ts p → AllWorth whole ts → ¬ RefusalOf whole p (NoValue at)
    no_ands ts p (ands_one i) w h = no_unit ts p i w h
    no_ands ts p (ands_more {a = us} {b = vs} o {p = q} {q = r} i j k) w (inl h) = no_ands us q i (worth_left whole us (o ∷ vs) w) h
    no_ands ts p (ands_more {a = us} {b = vs} o {p = q} {q = r} i j k) w (inr h) = no_unit vs r k (worth_right whole us (o ∷ vs) w).1 h

    no_ors : (ts : List Token) (p : Tree) → IsOrs ts p → AllWorth whole ts → ¬ RefusalOf whole p (NoValue at)
    no_ors ts p (ors_one i) w h = no_ands ts p i w h
    no_ors ts p (ors_more {a = us} {b = vs} o {p = q} {q = r} i j k) w (inl h) = no_ors us q i (worth_left whole us (o ∷ vs) w) h
    no_ors ts p (ors_more {a = us} {b = vs} o {p = q} {q = r} i j k) w (inr h) = no_ands vs r k (worth_right whole us (o ∷ vs) w).1 h

    no_pattern : (ts : List Token) (p : Tree) → IsPattern ts p → AllWorth whole ts → ¬ RefusalOf whole p (NoValue at)
    no_pattern ts p (pattern_one i) w h = no_ors ts p i w h
    no_pattern ts p (pattern_more {a = us} {b = vs} o {p = q} i j k) w (inl h) = no_pattern us q i (worth_left whole us (o ∷ vs) w) h
    no_pattern ts p (pattern_more {a = us} {b = vs} o {p = q} {q = r} i j k) w (inr h) = no_ors vs r k (worth_right whole us (o ∷ vs) w).1 h

pub no_value : (text : List ℕ) (at : ℕ) → ¬ IsFaulty text (NoValue at)
no_value text at h =
    let s = h.spelled in
    no_pattern text at s.tokens h.tree s.of_tokens.spells (tokens_worth text s.tokens s.of_text) h.earliest.one
