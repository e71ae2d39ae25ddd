-- A syntax tree over a text means one pattern at most, by one value at most of each token's text.
use Rattle.std.proofs.Common.{◌≡◌, inl, inr, ℕ, pos, List, [], ◌∷◌, refl, sym, ap, ◌∙◌, subst, arith}
use Rattle.pattern_types.specs.BlockText.{IsBlockText}
use Rattle.pattern_lexer.specs.declared.token.Token.{Token}
use Rattle.pattern_lexer.specs.declared.token.TokenKind.{TokenKind}
use Rattle.pattern_lexer.specs.declared.token.TokenKind.TheVariants as kind
use Rattle.pattern_lexer.specs.Values.{IsIntegerText, IsStringText, IsHexText, IsBinaryText, IsTimestampText}
use Rattle.pattern_lexer.specs.Spans.{token_text_at, At}
use Rattle.pattern_grammar.specs.declared.path.StepTree.{StepTree}
use Rattle.pattern_grammar.specs.declared.path.StepTree.TheVariants.{Name, Index}
use Rattle.pattern_grammar.specs.declared.path.PathTree.{PathTree}
use Rattle.pattern_grammar.specs.declared.comparison.CheckTree.{CheckTree}
use Rattle.pattern_grammar.specs.declared.comparison.CheckTree.TheVariants as check_tree
use Rattle.pattern_grammar.specs.declared.comparison.TestTree.{TestTree}
use Rattle.pattern_grammar.specs.declared.qualifier.Qualifier.{Qualifier}
use Rattle.pattern_grammar.specs.declared.qualifier.Qualifier.TheVariants as qualifier
use Rattle.pattern_grammar.specs.Tree.{Comparison, Tree}
use Rattle.pattern_types.specs.declared.path.Step.{Step}
use Rattle.pattern_types.specs.declared.path.Step.TheVariants as step
use Rattle.pattern_types.specs.declared.path.Path.{Path}
use Rattle.pattern_types.specs.declared.constant.Constant.{Constant}
use Rattle.pattern_types.specs.declared.constant.Constant.TheVariants as constant
use Rattle.pattern_types.specs.declared.address_block.AddressBlock.{AddressBlock}
use Rattle.pattern_types.specs.declared.check.Check.{Check}
use Rattle.pattern_types.specs.declared.check.Check.TheVariants as check
use Rattle.pattern_types.specs.declared.leaf.Test.{Test}
use Rattle.pattern_types.specs.declared.limit.Limit.{Limit}
use Rattle.pattern_types.specs.declared.limit.Limit.TheVariants as limit
use Rattle.pattern_reader.specs.Meaning.{IsNameOf, IsStepOf, IsPathOf, IsConstantOf, IsAddressOf, IsCheckOf, IsTestOf}
use Rattle.std.specs.List.{AllZip}
use Rattle.pattern_types.specs.PlainLeaf.{PlainLeaf, PlainLeaves, one, every, some, none, more}
use Rattle.pattern_reader.specs.LeafMeaning.{Means, means_test, means_group, means_all, means_any, AllParts, all_first, all_more, AnyParts, any_first, any_more}
use Rattle.pattern_types.specs.PlainPattern.{PlainPattern, a_leaf}
use Rattle.pattern_reader.specs.PatternMeaning.{IsLimitOf, MeansPattern, means_leaf, means_both, means_either, means_then, means_limited}

-- a text represents one value at most
abbrev pub IsOne : {V : Type 0} → (List ℕ → V → Type 0) → Type 0
IsOne {V} IsTextOf = (text : List ℕ) (first second : V) → IsTextOf text first → IsTextOf text second → first ≡ second

at_one : {V : Type 0} (IsTextOf : List ℕ → V → Type 0) → IsOne IsTextOf → (text : List ℕ) (token : Token) (a b : V) → At IsTextOf text token a → At IsTextOf text token b → a ≡ b
at_one T h text token a b x y = h (token_text_at text token) a b x.is y.is

-- lists whose elements are related place by place, to one each
each_one : {A B : Type 0} (R : A → B → Type 0) → ((x : A) (a b : B) → R x a → R x b → a ≡ b) → (xs : List A) (ys zs : List B) → AllZip R xs ys → AllZip R xs zs → ys ≡ zs
each_one R h [] [] [] x y = refl
each_one R h (t ∷ xs) (a ∷ ys) (b ∷ zs) x y =
    let e = h t a b x.0 y.0 in
    let g = each_one R h xs ys zs x.1 y.1 in
    cc
each_one R h [] (a ∷ ys) zs x y = absurd x
each_one R h (t ∷ xs) [] zs x y = absurd x
each_one R h xs ys zs x y = absurd y

-- what a check is, by the kind of its operator
abbrev compared_with : TokenKind → Constant → Check
compared_with kind.Equal v = check.Equal v
compared_with kind.Differ v = check.Differ v
compared_with kind.Less v = check.Less v
compared_with kind.LessEqual v = check.LessEqual v
compared_with kind.Greater v = check.Greater v
compared_with kind.GreaterEqual v = check.GreaterEqual v
compared_with _ v = check.Exists

module _ (one_whole : IsOne IsIntegerText) (one_words : IsOne IsStringText) (one_hex : IsOne IsHexText) (one_base : IsOne IsBinaryText) (one_timestamp : IsOne IsTimestampText) (one_block : IsOne IsBlockText) where
  one_name : (text : List ℕ) (token : Token) (a b : List ℕ) → IsNameOf text token a → IsNameOf text token b → a ≡ b
  one_name text token a b (inl x) (inl y) = at_one IsStringText one_words text token a b x.1 y.1
  one_name text token a b (inl x) (inr y) = absurd (y.0 x.0)
  one_name text token a b (inr x) (inl y) = absurd (x.0 y.0)
  one_name text token a b (inr x) (inr y) = x.1.is ∙ sym y.1.is

  one_step : (text : List ℕ) (tree : StepTree) (a b : Step) → IsStepOf text tree a → IsStepOf text tree b → a ≡ b
  one_step text (Name t) (step.Name a) (step.Name b) x y = ap step.Name (one_name text t a b x y)
  one_step text (Name t) (step.Name a) b x y = absurd y
  one_step text (Name t) a b x y = absurd x
  one_step text (Index t) (step.Place a) (step.Place b) x y = let e = at_one IsIntegerText one_whole text t (pos a) (pos b) x.1.whole y.1.whole in cc
  one_step text (Index t) step.Each step.Each x y = refl
  one_step text (Index t) a b x y = absurd (grind arith)

  one_path : (text : List ℕ) (tree : PathTree) (a b : Path) → IsPathOf text tree a → IsPathOf text tree b → a ≡ b
  one_path text tree a b x y =
      let e = x.root.is ∙ sym y.root.is in
      let g = each_one (IsStepOf text) (one_step text) tree.steps a.steps b.steps x.steps y.steps in
      λ i. record { kind = e i; steps = g i }

  one_constant : (text : List ℕ) (token : Token) (a b : Constant) → IsConstantOf text token a → IsConstantOf text token b → a ≡ b
  one_constant text token (constant.Integer a) (constant.Integer b) x y = ap constant.Integer (at_one IsIntegerText one_whole text token a b x.1 y.1)
  one_constant text token (constant.String a) (constant.String b) x y = ap constant.String (at_one IsStringText one_words text token a b x.1 y.1)
  one_constant text token (constant.Hex a) (constant.Hex b) x y = ap constant.Hex (at_one IsHexText one_hex text token a b x.1 y.1)
  one_constant text token (constant.Binary a) (constant.Binary b) x y = ap constant.Binary (at_one IsBinaryText one_base text token a b x.1 y.1)
  one_constant text token (constant.Timestamp a) (constant.Timestamp b) x y = ap constant.Timestamp (at_one IsTimestampText one_timestamp text token a b x.1 y.1)
  one_constant text token (constant.Boolean a) (constant.Boolean b) (inl x) (inl y) = ap constant.Boolean (x.1 ∙ sym y.1)
  one_constant text token (constant.Boolean a) (constant.Boolean b) (inr x) (inr y) = ap constant.Boolean (x.1 ∙ sym y.1)
  one_constant text token (constant.Boolean a) (constant.Boolean b) (inl x) (inr y) = let g = sym x.0 ∙ y.0 in absurd (cc)
  one_constant text token (constant.Boolean a) (constant.Boolean b) (inr x) (inl y) = let g = sym x.0 ∙ y.0 in absurd (cc)
  one_constant text token a b x y = absurd (grind arith)

  compare_is : (text : List ℕ) (operator token : Token) (c : Check) → IsCheckOf text (check_tree.Compare operator token) c → (v : Constant) × IsConstantOf text token v × (c ≡ compared_with operator.kind v)
  compare_is text operator token (check.Equal v) x = (v, x.1, sym (ap (λ k. compared_with k v) x.0))
  compare_is text operator token (check.Differ v) x = (v, x.1, sym (ap (λ k. compared_with k v) x.0))
  compare_is text operator token (check.Less v) x = (v, x.1, sym (ap (λ k. compared_with k v) x.0))
  compare_is text operator token (check.LessEqual v) x = (v, x.1, sym (ap (λ k. compared_with k v) x.0))
  compare_is text operator token (check.Greater v) x = (v, x.1, sym (ap (λ k. compared_with k v) x.0))
  compare_is text operator token (check.GreaterEqual v) x = (v, x.1, sym (ap (λ k. compared_with k v) x.0))
  compare_is text operator token _ x = absurd x

  one_address : (text : List ℕ) (token : Token) (a b : AddressBlock) → IsAddressOf text token a → IsAddressOf text token b → a ≡ b
  one_address text token a b x y =
      let e = at_one IsStringText one_words text token a.text b.text x.string y.string in
      let g = one_block b.text a.block b.block (subst (λ (t : List ℕ). IsBlockText t a.block) e x.named) y.named in
      λ i. record { text = e i; block = g i }

  one_textual : (text : List ℕ) (operator token : Token) (a b : Check) → IsCheckOf text (check_tree.Textual operator token) a → IsCheckOf text (check_tree.Textual operator token) b → a ≡ b
  one_textual text operator token (check.Like a) (check.Like b) x y = ap check.Like (at_one IsStringText one_words text token a b x.1 y.1)
  one_textual text operator token (check.Subset a) (check.Subset b) x y = ap check.Subset (one_address text token a b x.1 y.1)
  one_textual text operator token (check.Superset a) (check.Superset b) x y = ap check.Superset (one_address text token a b x.1 y.1)
  one_textual text operator token a b x y = absurd (grind arith)

  among_is : (text : List ℕ) (tokens : List Token) (c : Check) → IsCheckOf text (check_tree.Among tokens) c → (vs : List Constant) × AllZip (IsConstantOf text) tokens vs × (c ≡ check.Among vs)
  among_is text tokens (check.Among vs) x = (vs, x, refl)
  among_is text tokens _ x = absurd x

  exists_is : (text : List ℕ) (c : Check) → IsCheckOf text check_tree.Exists c → c ≡ check.Exists
  exists_is text check.Exists x = refl
  exists_is text _ x = absurd x

  one_check : (text : List ℕ) (tree : CheckTree) (a b : Check) → IsCheckOf text tree a → IsCheckOf text tree b → a ≡ b
  one_check text (check_tree.Compare operator token) a b x y =
      let p = compare_is text operator token a x in
      let q = compare_is text operator token b y in
      p.2 ∙ ap (compared_with operator.kind) (one_constant text token p.0 q.0 p.1 q.1) ∙ sym q.2
  one_check text (check_tree.Among tokens) a b x y =
      let p = among_is text tokens a x in
      let q = among_is text tokens b y in
      p.2 ∙ ap check.Among (each_one (IsConstantOf text) (one_constant text) tokens p.0 q.0 p.1 q.1) ∙ sym q.2
  one_check text (check_tree.Textual operator token) a b x y = one_textual text operator token a b x y
  one_check text check_tree.Exists a b x y = exists_is text a x ∙ sym (exists_is text b y)

  one_test : (text : List ℕ) (tree : TestTree) (a b : Test) → IsTestOf text tree a → IsTestOf text tree b → a ≡ b
  one_test text tree a b x y =
      let p = one_path text tree.path a.path b.path x.path y.path in
      let n = x.negated ∙ sym y.negated in
      let c = one_check text tree.check a.check b.check x.asks y.asks in
      λ i. record { path = p i; negated = n i; check = c i }

  mutual
    one_formula : (text : List ℕ) {c : Comparison} {f g : PlainLeaf} → Means text c f → Means text c g → f ≡ g
    one_formula text (means_test x) (means_test y) = ap one (one_test text _ _ _ x y)
    one_formula text (means_group x) (means_group y) = one_formula text x y
    one_formula text (means_all x) (means_all y) = ap every (one_all text x y)
    one_formula text (means_any x) (means_any y) = ap some (one_any text x y)

    one_all : (text : List ℕ) {c : Comparison} {fs gs : PlainLeaves} → AllParts text c fs → AllParts text c gs → fs ≡ gs
    one_all text (all_first n x) (all_first m y) = ap (λ f. more f none) (one_formula text x y)
    one_all text (all_first n x) (all_more k y) = absurd n
    one_all text (all_more h x) (all_first m y) = absurd m
    one_all text (all_more h x) (all_more k y) = let e = one_all text h k in let g = one_formula text x y in cc

    one_any : (text : List ℕ) {c : Comparison} {fs gs : PlainLeaves} → AnyParts text c fs → AnyParts text c gs → fs ≡ gs
    one_any text (any_first n x) (any_first m y) = ap (λ f. more f none) (one_formula text x y)
    one_any text (any_first n x) (any_more k y) = absurd n
    one_any text (any_more h x) (any_first m y) = absurd m
    one_any text (any_more h x) (any_more k y) = let e = one_any text h k in let g = one_formula text x y in cc

  one_limit : (text : List ℕ) (q : Qualifier) (a b : Limit) → IsLimitOf text q a → IsLimitOf text q b → a ≡ b
  one_limit text (qualifier.Within n) (limit.Within a) (limit.Within b) x y = let e = at_one IsIntegerText one_whole text n (pos a) (pos b) x.whole y.whole in cc
  one_limit text (qualifier.Within n) (limit.Within a) b x y = absurd y
  one_limit text (qualifier.Repeats n) (limit.Repeats a) (limit.Repeats b) x y = let e = at_one IsIntegerText one_whole text n (pos a) (pos b) x.whole y.whole in cc
  one_limit text (qualifier.Repeats n) (limit.Repeats a) b x y = absurd y
  one_limit text (qualifier.Between s from to) (limit.Between a c) (limit.Between b d) x y =
      let e = at_one IsTimestampText one_timestamp text from a b x.0 y.0 in
      let g = at_one IsTimestampText one_timestamp text to c d x.1 y.1 in
      cc
  one_limit text (qualifier.Between s from to) (limit.Between a c) b x y = absurd y
  one_limit text q a b x y = absurd x

  pub one_meant : (text : List ℕ) {t : Tree} {m n : PlainPattern} → MeansPattern text t m → MeansPattern text t n → m ≡ n
  one_meant text (means_leaf x) (means_leaf y) = ap a_leaf (one_formula text x y)
  one_meant text (means_both x u) (means_both y v) = let e = one_meant text x y in let g = one_meant text u v in cc
  one_meant text (means_either x u) (means_either y v) = let e = one_meant text x y in let g = one_meant text u v in cc
  one_meant text (means_then x u) (means_then y v) = let e = one_meant text x y in let g = one_meant text u v in cc
  one_meant text (means_limited x u) (means_limited y v) = let e = one_meant text x y in let g = one_limit text _ _ _ u v in cc
