-- Paths of a canonical text read back.
use Rattle.std.proofs.Common.{◌≡◌, ◌⊎◌, inl, inr, ℕ, ◌<◌, pos, List, [], ◌∷◌, ◌++◌, refl, sym, ap, ◌∙◌, subst, arith, append_assoc, append-nil}
use Rattle.std.specs.Prelude.{codes, decimal, flat_map}
use Rattle.pattern_lexer.specs.declared.token.Token.{Token}
use Rattle.pattern_lexer.specs.declared.token.TokenKind.TheVariants as kind
use Rattle.pattern_lexer.specs.Word.{IsHyphenWordPart}
use Rattle.pattern_lexer.specs.Values.{IsIntegerText}
use Rattle.pattern_lexer.specs.Spans.{At, IsItself}
use Rattle.pattern_grammar.specs.declared.class.TokenClass.TheVariants.{Only, Root, Name, Index}
use Rattle.pattern_grammar.specs.declared.path.StepTree.{StepTree}
use Rattle.pattern_grammar.specs.declared.path.StepTree.TheVariants as step_tree
use Rattle.pattern_grammar.specs.declared.path.PathTree.{PathTree}
use Rattle.pattern_grammar.specs.Grammar.{IsStep, step_name, step_index, IsPath, path_first, path_further, further}
use Rattle.pattern_types.specs.declared.path.Step.{Step}
use Rattle.pattern_types.specs.declared.path.Step.TheVariants as step
use Rattle.pattern_types.specs.declared.path.Path.{Path}
use Rattle.pattern_reader.specs.Meaning.{IsNameOf, IsStepOf, IsPathOf}
use Rattle.std.specs.List.{AllZip}
use Rattle.pattern_writer.specs.Parts.{joined_texts}
use Rattle.pattern_writer.specs.Path.{IsNameText, IsStepText, AreStepsText, IsPathText}
use Rattle.pattern_writer.proofs.LongestLemmas.{IsStop, Stops, Ends, ends_stops}
use Rattle.std.proofs.lemmas.Slice.Zip.{all_zipped_more}
use Rattle.pattern_writer.proofs.PiecesLemmas.{Stands}
use Rattle.pattern_writer.proofs.WrittenLemmas.{Written, IsOne, is_one, IsPair, is_pair, MeanPair, pair, as_tree, as_text, before}
use Rattle.pattern_writer.proofs.TokensLemmas.{Anything, literal, mark, number, root}
use Rattle.pattern_writer.proofs.ValuesLemmas.{at, name}
use Rattle.pattern_writer.proofs.NumeralsLemmas.{count_text, count_shape}
use Rattle.pattern_writer.proofs.FitLemmas.{FitStep, FitFurther, FitSteps, FitPath}

no_part : (c : ℕ) → (c < 45) ⊎ ((45 < c × (c < 48)) ⊎ ((57 < c × (c < 65)) ⊎ (90 < c × (c < 95)))) → ¬ IsHyphenWordPart c
no_part c h x = grind arith

-- a space, `)`, `,`, `.`, `:`, `[` and `]`
pub stop_space : IsStop 32
stop_space = record { part = no_part 32 (inl (omega arith)); quote = λ e. omega arith; equal = λ e. omega arith; greater = λ e. omega arith }

pub stop_close : IsStop 41
stop_close = record { part = no_part 41 (inl (omega arith)); quote = λ e. omega arith; equal = λ e. omega arith; greater = λ e. omega arith }

pub stop_comma : IsStop 44
stop_comma = record { part = no_part 44 (inl (omega arith)); quote = λ e. omega arith; equal = λ e. omega arith; greater = λ e. omega arith }

pub stop_dot : IsStop 46
stop_dot = record { part = no_part 46 (inr (inl (omega arith, omega arith))); quote = λ e. omega arith; equal = λ e. omega arith; greater = λ e. omega arith }

pub stop_colon : IsStop 58
stop_colon = record { part = no_part 58 (inr (inr (inl (omega arith, omega arith)))); quote = λ e. omega arith; equal = λ e. omega arith; greater = λ e. omega arith }

pub stop_open : IsStop 91
stop_open = record { part = no_part 91 (inr (inr (inr (omega arith, omega arith)))); quote = λ e. omega arith; equal = λ e. omega arith; greater = λ e. omega arith }

pub stop_square : IsStop 93
stop_square = record { part = no_part 93 (inr (inr (inr (omega arith, omega arith)))); quote = λ e. omega arith; equal = λ e. omega arith; greater = λ e. omega arith }

-- the marks of paths
dot : Written (IsOne (Only kind.Dot)) (λ (whole : List ℕ) (t : Token). Stands whole t kind.Dot (codes ".")) Anything (codes ".")
dot = mark (Only kind.Dot) kind.Dot 46 refl refl tt (inr (inl refl)) (record { number = λ e. cc; equal = λ e. cc; less = λ e. cc }) (inl (omega arith))

colon : Written (IsOne (Only kind.Colon)) (λ (whole : List ℕ) (t : Token). Stands whole t kind.Colon (codes ":")) Anything (codes ":")
colon = mark (Only kind.Colon) kind.Colon 58 refl refl tt (inr (inr (inl refl))) (record { number = λ e. cc; equal = λ e. cc; less = λ e. cc }) (inl (omega arith))

pub square : Written (IsOne (Only kind.SquareOpen)) (λ (whole : List ℕ) (t : Token). Stands whole t kind.SquareOpen (codes "[")) Anything (codes "[")
square = mark (Only kind.SquareOpen) kind.SquareOpen 91 refl refl tt (inr (inr (inr refl))) (record { number = λ e. cc; equal = λ e. cc; less = λ e. cc }) (inr (omega arith, omega arith))

pub close_square : Written (IsOne (Only kind.SquareClose)) (λ (whole : List ℕ) (t : Token). Stands whole t kind.SquareClose (codes "]")) Stops (codes "]")
close_square = literal (Only kind.SquareClose) kind.SquareClose (codes "]") refl refl tt refl (λ e. cc)

-- steps
abbrev MeansStep : Step → List ℕ → StepTree → Type 0
MeansStep s whole tree = IsStepOf whole tree s

name_step : (ts : List Token) (s : Token × Token) → IsPair (IsOne (Only kind.Dot)) (IsOne Name) ts s → IsStep ts (step_tree.Name s.1)
name_step ts s (is_pair (is_one a h) (is_one b k)) = step_name a b h k

index_step : (ts : List Token) (s : (Token × Token) × Token) → IsPair (IsPair (IsOne (Only kind.SquareOpen)) (IsOne Index)) (IsOne (Only kind.SquareClose)) ts s → IsStep ts (step_tree.Index s.0.1)
index_step ts s (is_pair (is_pair (is_one a h) (is_one b k)) (is_one c l)) = step_index a b c h k l

in_brackets : (s : Step) (text : List ℕ) (Means : List ℕ → Token → Type 0) → ((whole : List ℕ) (t : Token) → Means whole t → IsStepOf whole (step_tree.Index t) s) → Written (IsOne Index) Means Ends text → Written IsStep (MeansStep s) Stops (codes "[" ++ text ++ codes "]")
in_brackets s text Means f w =
    as_tree IsStep (MeansStep s) (λ whole ts x i m. (step_tree.Index x.0.1, index_step ts x i, f whole x.0.1 m.0.1))
    (pair (IsPair (IsOne (Only kind.SquareOpen)) (IsOne Index)) (IsOne (Only kind.SquareClose)) (MeanPair (λ (whole : List ℕ) (t : Token). Stands whole t kind.SquareOpen (codes "[")) Means) (λ (whole : List ℕ) (t : Token). Stands whole t kind.SquareClose (codes "]")) Ends Stops (codes "[" ++ text) (codes "]")
    (λ after e. (stop_square, λ x. omega arith))
    (pair (IsOne (Only kind.SquareOpen)) (IsOne Index) (λ (whole : List ℕ) (t : Token). Stands whole t kind.SquareOpen (codes "[")) Means Anything Ends (codes "[") text (λ after e. tt) square w) close_square)

pub further_step : (s : Step) (text : List ℕ) → FitStep s → IsStepText s text → Written IsStep (MeansStep s) Stops text
further_step (step.Name n) text fit h =
    as_text (sym h.2) (as_tree IsStep (MeansStep (step.Name n)) (λ whole ts x i m. (step_tree.Name x.1, name_step ts x i, m.1))
    (pair (IsOne (Only kind.Dot)) (IsOne Name) (λ (whole : List ℕ) (t : Token). Stands whole t kind.Dot (codes ".")) (λ (whole : List ℕ) (t : Token). IsNameOf whole t n) Anything Stops (codes ".") h.0 (λ after e. tt) dot (name n h.0 h.1)))
further_step (step.Place p) text fit h =
    as_text (sym h) (in_brackets (step.Place p) (decimal p) (λ (whole : List ℕ) (t : Token). Stands whole t kind.Number (decimal p))
    (λ whole t m. (m.kind, record { whole = at IsIntegerText whole t kind.Number (decimal p) (pos p) m (count_text p fit); high = fit }))
    (number Index (pos p) (decimal p) refl (count_text p fit) (count_shape p (omega arith))))
further_step step.Each text fit h =
    as_text (sym h) (in_brackets step.Each (codes "*") (λ (whole : List ℕ) (t : Token). Stands whole t kind.Star (codes "*")) (λ whole t m. m.kind)
    (before Ends ends_stops (literal Index kind.Star (codes "*") refl refl tt refl (λ e. cc))))

step_begins : (s : Step) (text after : List ℕ) → IsStepText s text → Stops (text ++ after)
step_begins (step.Name n) text after h = subst (λ (x : List ℕ). Stops (x ++ after)) (sym h.2) stop_dot
step_begins (step.Place p) text after h = subst (λ (x : List ℕ). Stops (x ++ after)) (sym h) stop_open
step_begins step.Each text after h = subst (λ (x : List ℕ). Stops (x ++ after)) (sym h) stop_open

-- paths
abbrev pub MeansPath : Path → List ℕ → PathTree → Type 0
MeansPath path whole tree = IsPathOf whole tree path

abbrev path_of : List ℕ → List Step → Path
path_of k steps = record { kind = k; steps = steps }

further_path : (ts : List Token) (x : PathTree × StepTree) → IsPair IsPath IsStep ts x → IsPath ts (further x.0 x.1)
further_path ts x (is_pair h k) = path_further h k

one_further : (k : List ℕ) (done : List Step) (s : Step) (a b : List ℕ) → FitStep s → IsStepText s b → Written IsPath (MeansPath (path_of k done)) Stops a → Written IsPath (MeansPath (path_of k (done ++ s ∷ []))) Stops (a ++ b)
one_further k done s a b fit h w =
    as_tree IsPath (MeansPath (path_of k (done ++ s ∷ []))) (λ whole ts x i m. (further x.0 x.1, further_path ts x i, record { root = m.0.root; steps = all_zipped_more (IsStepOf whole) x.0.steps done x.1 s m.0.steps m.1 }))
    (pair IsPath IsStep (MeansPath (path_of k done)) (MeansStep s) Stops Stops a b (λ after e. step_begins s b after h) w (further_step s b fit h))

all_further : (k : List ℕ) (done rest : List Step) (a : List ℕ) (texts : List (List ℕ)) → FitFurther rest → AllZip IsStepText rest texts → Written IsPath (MeansPath (path_of k done)) Stops a → Written IsPath (MeansPath (path_of k (done ++ rest))) Stops (a ++ flat_map (λ y. [] ++ y) texts)
all_further k done [] a [] fit h w = as_text (sym (append-nil a)) (subst (λ (x : List Step). Written IsPath (MeansPath (path_of k x)) Stops a) (sym (append-nil done)) w)
all_further k done [] a (t ∷ ts) fit h w = absurd h
all_further k done (s ∷ ss) a [] fit h w = absurd h
all_further k done (s ∷ ss) a (t ∷ ts) fit h w =
    let v = all_further k (done ++ s ∷ []) ss (a ++ t) ts fit.1 h.1 (one_further k done s a t fit.0 h.0 w) in
    as_text (append_assoc a t (flat_map (λ y. [] ++ y) ts)) (subst (λ (x : List Step). Written IsPath (MeansPath (path_of k x)) Stops ((a ++ t) ++ flat_map (λ y. [] ++ y) ts)) (append_assoc done (s ∷ []) ss) v)

joined_plain : (texts : List (List ℕ)) → joined_texts [] texts ≡ flat_map (λ (y : List ℕ). [] ++ y) texts
joined_plain [] = refl
joined_plain (t ∷ ts) = refl

first_path : (ts : List Token) (x : (Token × Token) × Token) → IsPair (IsPair (IsOne Root) (IsOne (Only kind.Colon))) (IsOne Name) ts x → IsPath ts (record { root = x.0.0; steps = step_tree.Name x.1 ∷ [] })
first_path ts x (is_pair (is_pair (is_one a h) (is_one b k)) (is_one c l)) = path_first a b c h k l

first_steps : (p : Path) (n : List ℕ) (b : List ℕ) → FitPath p → IsNameText n b → Written IsPath (MeansPath (path_of p.kind (step.Name n ∷ []))) Stops ((p.kind ++ codes ":") ++ b)
first_steps p n b fit h =
    as_tree IsPath (MeansPath (path_of p.kind (step.Name n ∷ []))) (λ whole ts x i m. (record { root = x.0.0; steps = step_tree.Name x.1 ∷ [] }, first_path ts x i, record { root = m.0.0; steps = (m.1, tt) }))
    (pair (IsPair (IsOne Root) (IsOne (Only kind.Colon))) (IsOne Name) (MeanPair (λ (whole : List ℕ) (t : Token). At IsItself whole t p.kind) (λ (whole : List ℕ) (t : Token). Stands whole t kind.Colon (codes ":"))) (λ (whole : List ℕ) (t : Token). IsNameOf whole t n) Anything Stops (p.kind ++ codes ":") b (λ after e. tt)
    (pair (IsOne Root) (IsOne (Only kind.Colon)) (λ (whole : List ℕ) (t : Token). At IsItself whole t p.kind) (λ (whole : List ℕ) (t : Token). Stands whole t kind.Colon (codes ":")) Stops Anything p.kind (codes ":") (λ after e. stop_colon) (root p.kind fit.root fit.free) colon) (name n b h))

whole_path : (p : Path) (rest : List Step) (n a texts : _) → FitPath p → FitFurther rest → IsNameText n a → AllZip IsStepText rest texts → Written IsPath (MeansPath (path_of p.kind (step.Name n ∷ rest))) Stops ((p.kind ++ codes ":") ++ (a ++ [] ++ joined_texts [] texts))
whole_path p rest n a texts fit further h k =
    let w = all_further p.kind (step.Name n ∷ []) rest ((p.kind ++ codes ":") ++ a) texts further k (first_steps p n a fit h) in
    as_text (append_assoc (p.kind ++ codes ":") a (flat_map (λ y. [] ++ y) texts) ∙ ap (λ (x : List ℕ). (p.kind ++ codes ":") ++ x) (ap (λ (x : List ℕ). x ++ flat_map (λ y. [] ++ y) texts) (sym (append-nil a)) ∙ ap (λ (x : List ℕ). (a ++ []) ++ x) (sym (joined_plain texts)))) w

path_by : (p : Path) (steps : List Step) → p.steps ≡ steps → FitPath p → FitSteps steps → (inner : List ℕ) → AreStepsText steps inner → Written IsPath (MeansPath (path_of p.kind steps)) Stops ((p.kind ++ codes ":") ++ inner)
path_by p [] e fit steps inner h = absurd steps
path_by p (step.Name n ∷ rest) e fit steps inner h =
    let w = whole_path p rest n h.0 h.3.0 fit steps h.2 h.3.1 in
    as_text (ap (λ (x : List ℕ). (p.kind ++ codes ":") ++ x) (ap (λ (x : List ℕ). h.0 ++ [] ++ x) (sym h.3.2) ∙ sym h.4)) w
path_by p (step.Place q ∷ rest) e fit steps inner h = absurd steps
path_by p (step.Each ∷ rest) e fit steps inner h = absurd steps

pub path : (p : Path) (text : List ℕ) → FitPath p → IsPathText p text → Written IsPath (MeansPath p) Stops text
path p text fit h = as_text (sym h.2) (path_by p p.steps refl fit fit.steps h.0 h.1)
