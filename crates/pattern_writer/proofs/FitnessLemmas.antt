-- What some text spells is fit.
use Rattle.std.proofs.Common.{◌≡◌, ◌≢◌, ◌⊎◌, inl, inr, ℕ, true, false, List, [], ◌∷◌, ◌++◌, refl, sym, ap, ◌∙◌, subst}
use Rattle.std.specs.Prelude.{All, codes}
use Rattle.std.proofs.lemmas.List.{append_cancel_right}
use Rattle.hex.proofs.HexLemmas.{decode_of-ok}
use Rattle.base64.specs.Engines.{standard}
use Rattle.base64.specs.GeneralPurpose.{encode_of}
use Rattle.pattern_lexer.specs.declared.token.Token.{Token}
use Rattle.pattern_lexer.specs.declared.token.TokenKind.{TokenKind}
use Rattle.pattern_lexer.specs.declared.token.TokenKind.TheVariants as kind
use Rattle.pattern_lexer.specs.Values.{quoted}
use Rattle.pattern_lexer.specs.Table.{IsToken}
use Rattle.pattern_lexer.specs.Spans.{token_text_at}
use Rattle.pattern_grammar.specs.declared.class.TokenClass.TheVariants.{Root, Ordered, Equality}
use Rattle.pattern_grammar.specs.TokenClass.{IsA, is_in}
use Rattle.pattern_grammar.specs.declared.path.StepTree.{StepTree}
use Rattle.pattern_grammar.specs.declared.path.StepTree.TheVariants as step_tree
use Rattle.pattern_grammar.specs.declared.path.PathTree.{PathTree}
use Rattle.pattern_grammar.specs.declared.comparison.CheckTree.{CheckTree}
use Rattle.pattern_grammar.specs.declared.comparison.CheckTree.TheVariants as check_tree
use Rattle.pattern_grammar.specs.Grammar.{IsPath, path_first, path_further, AreConstants, constants_one, constants_more, IsCheck, check_equality, check_order, check_among, check_textual}
use Rattle.pattern_types.specs.declared.path.Step.{Step}
use Rattle.pattern_types.specs.declared.path.Step.TheVariants as step
use Rattle.pattern_types.specs.declared.path.Path.{Path}
use Rattle.pattern_types.specs.declared.constant.Constant.{Constant}
use Rattle.pattern_types.specs.declared.constant.Constant.TheVariants.{Integer, Boolean, Hex, Binary}
use Rattle.pattern_types.specs.declared.check.Check.{Check}
use Rattle.pattern_types.specs.declared.check.Check.TheVariants as check
use Rattle.pattern_reader.specs.Meaning.{IsStepOf, IsPathOf, IsConstantOf, IsCheckOf}
use Rattle.std.specs.List.{AllZip}
use Rattle.pattern_writer.proofs.FitLemmas.{FitStep, FitFurther, FitSteps, FitPath, FitConstant, FitOrdered, FitConstants, FitList, FitCheck}
use Rattle.pattern_lexer.specs.Word.{IsWord, IsHyphenWord}
use Rattle.pattern_writer.proofs.LongestLemmas.{rests}
use Rattle.pattern_writer.proofs.LexedLemmas.{Lexed, AllLexed, lexed_left, lexed_right, root_word}

-- paths
abbrev pub NameFirst : List StepTree → Type 0
NameFirst [] = ⊥
NameFirst (step_tree.Name t ∷ ss) = Unit {0}
NameFirst (step_tree.Index t ∷ ss) = ⊥

name_first : (a b : List StepTree) → NameFirst a → NameFirst (a ++ b)
name_first [] b h = absurd h
name_first (step_tree.Name t ∷ ss) b h = tt
name_first (step_tree.Index t ∷ ss) b h = absurd h

pub path_shape : (whole : List ℕ) (ts : List Token) (p : PathTree) → IsPath ts p → AllLexed whole ts → Lexed whole p.root × IsA Root p.root × NameFirst p.steps
path_shape whole ts p (path_first a b c h k l) x = (x.0, h, tt)
path_shape whole ts p (path_further {a} {b} {path} {next} h k) x =
    let s = path_shape whole a path h (lexed_left whole a b x) in (s.0, s.1, name_first path.steps (next ∷ []) s.2)

fit_step : (whole : List ℕ) (t : StepTree) (s : Step) → IsStepOf whole t s → FitStep s
fit_step whole (step_tree.Name t) (step.Place p) h = absurd h
fit_step whole (step_tree.Index t) (step.Place p) h = h.1.high
fit_step whole t _ h = tt

fit_further : (whole : List ℕ) (ts : List StepTree) (ss : List Step) → AllZip (IsStepOf whole) ts ss → FitFurther ss
fit_further whole (t ∷ ts) (s ∷ ss) h = (fit_step whole t s h.0, fit_further whole ts ss h.1)
fit_further whole [] (s ∷ ss) h = absurd h
fit_further whole ts [] h = tt

fit_steps : (whole : List ℕ) (ts : List StepTree) (ss : List Step) → NameFirst ts → AllZip (IsStepOf whole) ts ss → FitSteps ss
fit_steps whole [] ss n h = absurd n
fit_steps whole (step_tree.Index t ∷ ts) ss n h = absurd n
fit_steps whole (step_tree.Name t ∷ ts) [] n h = absurd h
fit_steps whole (step_tree.Name t ∷ ts) (step.Name s ∷ ss) n h = fit_further whole ts ss h.1
fit_steps whole (step_tree.Name t ∷ ts) (step.Place s ∷ ss) n h = absurd h.0
fit_steps whole (step_tree.Name t ∷ ts) (step.Each ∷ ss) n h = absurd h.0

pub fit_path : (whole : List ℕ) (ts : List Token) (p : PathTree) (path : Path) → IsPath ts p → AllLexed whole ts → IsPathOf whole p path → FitPath path
fit_path whole ts p path h x m =
    let s = path_shape whole ts p h x in
    let e : path.kind ≡ token_text_at whole p.root = m.root.is in
    let w = root_word p.root.kind (token_text_at whole p.root) s.1 s.0.is in
    record {
      root = subst (λ (y : List ℕ). IsWord y ⊎ IsHyphenWord y) (sym e) w;
      free = λ f. s.0.free (sym e ∙ f);
      steps = fit_steps whole p.steps path.steps s.2 m.steps;
    }

-- constants
same_symbols : (k : TokenKind) (text symbols : List ℕ) → k ≡ kind.Binary → IsToken k text → text ≡ quoted (codes "b") symbols → All (λ c. c ≢ 39) symbols
same_symbols kind.Binary text symbols e h f =
    let spelled = h.1.spelled in
    let g : h.0 ++ 39 ∷ [] ≡ symbols ++ 39 ∷ [] = rests 39 39 _ _ (rests 98 98 _ _ (sym spelled ∙ f)) in
    subst (All (λ c. c ≢ 39)) (append_cancel_right h.0 symbols (39 ∷ []) g) h.1.unquoted
same_symbols _ text symbols e h f = absurd (cc)

pub fit_constant : (whole : List ℕ) (t : Token) (c : Constant) → Lexed whole t → IsConstantOf whole t c → FitConstant c
fit_constant whole t (Integer z) x h = h.1.is.fits
fit_constant whole t (Hex bytes) x h = (decode_of-ok h.1.is.0 bytes h.1.is.2).3
fit_constant whole t (Binary bytes) x h = (h.1.is.0, same_symbols t.kind (token_text_at whole t) (encode_of standard bytes) h.0 x.is h.1.is.1)
fit_constant whole t _ x h = tt

lexed_more : (whole : List ℕ) (ts : List Token) (t : Token) → AllLexed whole ts → Lexed whole t → AllLexed whole (ts ++ t ∷ [])
lexed_more whole [] t x h = (h, tt)
lexed_more whole (u ∷ ts) t x h = (x.0, lexed_more whole ts t x.1 h)

-- lists of constants
lexed_constants : (whole : List ℕ) (ts cs : List Token) → AreConstants ts cs → AllLexed whole ts → AllLexed whole cs
lexed_constants whole ts cs (constants_one a h) x = x
lexed_constants whole ts cs (constants_more {ts = us} {cs = ds} a b h i j) x =
    let s = lexed_right whole us (a ∷ b ∷ []) x in
    lexed_more whole ds b (lexed_constants whole us ds h (lexed_left whole us (a ∷ b ∷ []) x)) s.1.0

abbrev IsSome : List Token → Type 0
IsSome [] = ⊥
IsSome (t ∷ ts) = Unit {0}

some_more : (ts : List Token) (t : Token) → IsSome (ts ++ t ∷ [])
some_more [] t = tt
some_more (u ∷ ts) t = tt

some_constants : (ts cs : List Token) → AreConstants ts cs → IsSome cs
some_constants ts cs (constants_one a h) = tt
some_constants ts cs (constants_more {ts = us} {cs = ds} a b h i j) = some_more ds b

fit_constants : (whole : List ℕ) (cs : List Token) (vs : List Constant) → AllLexed whole cs → AllZip (IsConstantOf whole) cs vs → FitConstants vs
fit_constants whole (c ∷ cs) (v ∷ vs) x h = (fit_constant whole c v x.0 h.0, fit_constants whole cs vs x.1 h.1)
fit_constants whole [] (v ∷ vs) x h = absurd h
fit_constants whole cs [] x h = tt

fit_list : (whole : List ℕ) (cs : List Token) (vs : List Constant) → IsSome cs → AllLexed whole cs → AllZip (IsConstantOf whole) cs vs → FitList vs
fit_list whole [] vs s x h = absurd s
fit_list whole (c ∷ cs) [] s x h = absurd h
fit_list whole (c ∷ cs) (v ∷ vs) s x h = (fit_constant whole c v x.0 h.0, fit_constants whole cs vs x.1 h.1)

-- what has an order is no truth
no_truth : (t : Token) (k : TokenKind) → IsA Ordered t → is_in Ordered k ≡ false → t.kind ≡ k → ⊥
no_truth t k h e f = let g : is_in Ordered k ≡ true = ap (is_in Ordered) (sym f) ∙ h in let d = sym e ∙ g in cc

fit_ordered : (whole : List ℕ) (t : Token) (c : Constant) → IsA Ordered t → Lexed whole t → IsConstantOf whole t c → FitOrdered c
fit_ordered whole t (Boolean b) o x (inl h) = no_truth t kind.TrueWord o refl h.0
fit_ordered whole t (Boolean b) o x (inr h) = no_truth t kind.FalseWord o refl h.0
fit_ordered whole t c o x h = fit_constant whole t c x h

-- an operator of the one class is none of the other
no_order : (t : Token) (k : TokenKind) → IsA Equality t → is_in Equality k ≡ false → t.kind ≡ k → ⊥
no_order t k h e f = let g : is_in Equality k ≡ true = ap (is_in Equality) (sym f) ∙ h in let d = sym e ∙ g in cc

fit_equality : (whole : List ℕ) (a b : Token) (c : Check) → IsA Equality a → Lexed whole b → IsCheckOf whole (check_tree.Compare a b) c → FitCheck c
fit_equality whole a b (check.Equal v) i x h = fit_constant whole b v x h.1
fit_equality whole a b (check.Differ v) i x h = fit_constant whole b v x h.1
fit_equality whole a b (check.Less v) i x h = absurd (no_order a kind.Less i refl h.0)
fit_equality whole a b (check.LessEqual v) i x h = absurd (no_order a kind.LessEqual i refl h.0)
fit_equality whole a b (check.Greater v) i x h = absurd (no_order a kind.Greater i refl h.0)
fit_equality whole a b (check.GreaterEqual v) i x h = absurd (no_order a kind.GreaterEqual i refl h.0)
fit_equality whole a b _ i x h = absurd h

fit_order : (whole : List ℕ) (a b : Token) (c : Check) → IsA Ordered b → Lexed whole b → IsCheckOf whole (check_tree.Compare a b) c → FitCheck c
fit_order whole a b (check.Equal v) i x h = fit_constant whole b v x h.1
fit_order whole a b (check.Differ v) i x h = fit_constant whole b v x h.1
fit_order whole a b (check.Less v) i x h = fit_ordered whole b v i x h.1
fit_order whole a b (check.LessEqual v) i x h = fit_ordered whole b v i x h.1
fit_order whole a b (check.Greater v) i x h = fit_ordered whole b v i x h.1
fit_order whole a b (check.GreaterEqual v) i x h = fit_ordered whole b v i x h.1
fit_order whole a b _ i x h = absurd h

fit_among : (whole : List ℕ) (cs : List Token) (c : Check) → IsSome cs → AllLexed whole cs → IsCheckOf whole (check_tree.Among cs) c → FitCheck c
fit_among whole cs (check.Among vs) s x h = fit_list whole cs vs s x h
fit_among whole cs _ s x h = absurd h

fit_textual : (whole : List ℕ) (a b : Token) (c : Check) → IsCheckOf whole (check_tree.Textual a b) c → FitCheck c
fit_textual whole a b (check.Like w) h = tt
fit_textual whole a b (check.Subset address) h = h.1.named
fit_textual whole a b (check.Superset address) h = h.1.named
fit_textual whole a b _ h = absurd h

pub fit_check : (whole : List ℕ) (ts : List Token) (t : CheckTree) (c : Check) → IsCheck ts t → AllLexed whole ts → IsCheckOf whole t c → FitCheck c
fit_check whole ts t c (check_equality a b i j) x h = fit_equality whole a b c i x.1.0 h
fit_check whole ts t c (check_order a b i j) x h = fit_order whole a b c j x.1.0 h
fit_check whole ts t c (check_among a b d {ts = us} {cs = cs} i j k l) x h = fit_among whole cs c (some_constants us cs k) (lexed_constants whole us cs k (lexed_left whole us (d ∷ []) x.1.1)) h
fit_check whole ts t c (check_textual a b i j) x h = fit_textual whole a b c h
