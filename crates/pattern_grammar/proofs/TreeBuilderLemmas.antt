-- A machine that builds the tree from left to right: beside the stack of what is expected it has a stack
-- of what was built, and expects that work on it.
use Rattle.std.proofs.Common.{◌≡◌, Bool, true, false, List, [], ◌∷◌, ◌++◌, Option, Some, None, refl, sym, ap, ◌∙◌, if◌then◌else◌}
use Rattle.pattern_lexer.specs.declared.token.Token.{Token}
use Rattle.pattern_lexer.specs.declared.token.TokenKind.{TokenKind}
use Rattle.pattern_lexer.specs.declared.token.TokenKind.TheVariants as kind
use Rattle.pattern_grammar.specs.declared.class.TokenClass.{TokenClass}
use Rattle.pattern_grammar.specs.declared.class.TokenClass.TheVariants.{Only, Root, Name, Index, Equality, Order, Textual, Ordered, Constant}
use Rattle.pattern_grammar.specs.declared.path.StepTree.{StepTree}
use Rattle.pattern_grammar.specs.declared.path.StepTree.TheVariants as step_tree
use Rattle.pattern_grammar.specs.declared.path.PathTree.{PathTree}
use Rattle.pattern_grammar.specs.declared.comparison.CheckTree.{CheckTree}
use Rattle.pattern_grammar.specs.declared.comparison.CheckTree.TheVariants as check_tree
use Rattle.pattern_grammar.specs.declared.qualifier.Qualifier.{Qualifier}
use Rattle.pattern_grammar.specs.declared.qualifier.Qualifier.TheVariants as qualifier_tree
use Rattle.pattern_grammar.specs.TokenClass.{is_in}
use Rattle.pattern_grammar.specs.Tree.{Comparison, test as test_of, group, all, any, Tree, leaf, both, either, followed, qualified}
use Rattle.pattern_grammar.specs.Grammar.{further}
use Rattle.pattern_grammar.specs.inner.Machine.{ExpectedLine, start, qualifier, test, turn, check, step, Tail, qualifiers, ands, ors, thens, cands, cors, steps, commas, opening}
use Rattle.pattern_grammar.specs.inner.Machine.{LacksTokenClass}

-- what was built
pub data Built : Type 0 where
  mark : Token → Built
  a_step : StepTree → Built
  a_path : PathTree → Built
  a_list : List Token → Built
  a_check : CheckTree → Built
  a_comparison : Comparison → Built
  a_qualifier : Qualifier → Built
  a_tree : Tree → Built

pub data Job : Type 0 where
  one : TokenClass → Job
  line : ExpectedLine → Job
  tail : Tail → Job
  act : (List Built → List Built) → Job

-- how a part is made of those before it
abbrev pub name_step : List Built → List Built
name_step (mark b ∷ mark a ∷ vs) = a_step (step_tree.Name b) ∷ vs
name_step _ = []

abbrev pub index_step : List Built → List Built
index_step (mark c ∷ mark b ∷ mark a ∷ vs) = a_step (step_tree.Index b) ∷ vs
index_step _ = []

abbrev pub first_path : List Built → List Built
first_path (mark c ∷ mark b ∷ mark a ∷ vs) = a_path (record { root = a; steps = step_tree.Name c ∷ [] }) ∷ vs
first_path _ = []

abbrev pub further_path : List Built → List Built
further_path (a_step v ∷ a_path p ∷ vs) = a_path (further p v) ∷ vs
further_path _ = []

abbrev pub first_list : List Built → List Built
first_list (mark a ∷ vs) = a_list (a ∷ []) ∷ vs
first_list _ = []

abbrev pub further_list : List Built → List Built
further_list (mark b ∷ mark a ∷ a_list cs ∷ vs) = a_list (cs ++ b ∷ []) ∷ vs
further_list _ = []

abbrev pub compare_check : List Built → List Built
compare_check (mark b ∷ mark a ∷ vs) = a_check (check_tree.Compare a b) ∷ vs
compare_check _ = []

abbrev pub textual_check : List Built → List Built
textual_check (mark b ∷ mark a ∷ vs) = a_check (check_tree.Textual a b) ∷ vs
textual_check _ = []

abbrev pub among_check : List Built → List Built
among_check (mark c ∷ a_list cs ∷ mark b ∷ mark a ∷ vs) = a_check (check_tree.Among cs) ∷ vs
among_check _ = []

abbrev pub test_with : Token → Bool → PathTree → CheckTree → Built
test_with first negated p c = a_comparison (test_of (record { first = first; path = p; negated = negated; check = c }))

abbrev pub exists_test : List Built → List Built
exists_test (a_path p ∷ mark a ∷ vs) = test_with a false p check_tree.Exists ∷ vs
exists_test _ = []

abbrev pub not_exists_test : List Built → List Built
not_exists_test (a_path p ∷ mark b ∷ mark a ∷ vs) = test_with a true p check_tree.Exists ∷ vs
not_exists_test _ = []

abbrev pub compare_test : List Built → List Built
compare_test (a_check c ∷ a_path p ∷ vs) = test_with p.root false p c ∷ vs
compare_test _ = []

abbrev pub not_compare_test : List Built → List Built
not_compare_test (a_check c ∷ mark o ∷ a_path p ∷ vs) = test_with p.root true p c ∷ vs
not_compare_test _ = []

abbrev pub group_test : List Built → List Built
group_test (mark b ∷ a_comparison c ∷ mark a ∷ vs) = a_comparison (group a c) ∷ vs
group_test _ = []

abbrev pub join_comparison : (Comparison → Comparison → Comparison) → List Built → List Built
join_comparison f (a_comparison d ∷ mark o ∷ a_comparison c ∷ vs) = a_comparison (f c d) ∷ vs
join_comparison f _ = []

abbrev pub within : List Built → List Built
within (mark c ∷ mark b ∷ mark a ∷ vs) = a_qualifier (qualifier_tree.Within b) ∷ vs
within _ = []

abbrev pub repeats : List Built → List Built
repeats (mark c ∷ mark b ∷ mark a ∷ vs) = a_qualifier (qualifier_tree.Repeats b) ∷ vs
repeats _ = []

abbrev pub between : List Built → List Built
between (mark d ∷ mark c ∷ mark b ∷ mark a ∷ vs) = a_qualifier (qualifier_tree.Between a b d) ∷ vs
between _ = []

abbrev pub leaf_tree : List Built → List Built
leaf_tree (mark b ∷ a_comparison c ∷ mark a ∷ vs) = a_tree (leaf c) ∷ vs
leaf_tree _ = []

abbrev pub group_tree : List Built → List Built
group_tree (mark b ∷ a_tree p ∷ mark a ∷ vs) = a_tree p ∷ vs
group_tree _ = []

abbrev pub qualify_tree : List Built → List Built
qualify_tree (a_qualifier q ∷ a_tree p ∷ vs) = a_tree (qualified p q) ∷ vs
qualify_tree _ = []

abbrev pub join_tree : (Tree → Tree → Tree) → List Built → List Built
join_tree f (a_tree q ∷ mark o ∷ a_tree p ∷ vs) = a_tree (f p q) ∷ vs
join_tree f _ = []

-- lines that begin in one way
abbrev pub jobs_path : List Job → List Job
jobs_path k = one Root ∷ one (Only kind.Colon) ∷ one Name ∷ act first_path ∷ tail steps ∷ k

abbrev pub jobs_constants : List Job → List Job
jobs_constants k = one Constant ∷ act first_list ∷ tail commas ∷ k

abbrev pub jobs_cor : List Job → List Job
jobs_cor k = line test ∷ tail cands ∷ tail cors ∷ k

abbrev pub jobs_pattern : List Job → List Job
jobs_pattern k = line start ∷ tail qualifiers ∷ tail ands ∷ tail ors ∷ tail thens ∷ k

abbrev choose : TokenKind → TokenClass → List Job → Option (List Job) → Option (List Job)
choose k class s other = if is_in class k then Some s else other

abbrev begin_check : TokenKind → List Job → Option (List Job)
begin_check k s =
    choose k Equality (one Constant ∷ act compare_check ∷ s)
    (choose k Order (one Ordered ∷ act compare_check ∷ s)
    (choose k Textual (one (Only kind.String) ∷ act textual_check ∷ s)
    (choose k (Only kind.Among) (one (Only kind.RoundOpen) ∷ jobs_constants (one (Only kind.RoundClose) ∷ act among_check ∷ s)) None)))

abbrev begin : ExpectedLine → TokenKind → List Job → Option (List Job)
begin start k s =
    choose k (Only kind.RoundOpen) (jobs_pattern (one (Only kind.RoundClose) ∷ act group_tree ∷ s))
    (choose k (Only kind.SquareOpen) (jobs_cor (one (Only kind.SquareClose) ∷ act leaf_tree ∷ s)) None)
begin qualifier k s =
    choose k (Only kind.Within) (one (Only kind.Number) ∷ one (Only kind.Seconds) ∷ act within ∷ s)
    (choose k (Only kind.Repeats) (one (Only kind.Number) ∷ one (Only kind.Times) ∷ act repeats ∷ s)
    (choose k (Only kind.Start) (one (Only kind.Timestamp) ∷ one (Only kind.Stop) ∷ one (Only kind.Timestamp) ∷ act between ∷ s) None))
begin test k s =
    choose k (Only kind.RoundOpen) (jobs_cor (one (Only kind.RoundClose) ∷ act group_test ∷ s))
    (choose k (Only kind.Exists) (jobs_path (act exists_test ∷ s))
    (choose k (Only kind.Not) (one (Only kind.Exists) ∷ jobs_path (act not_exists_test ∷ s))
    (choose k Root (one (Only kind.Colon) ∷ one Name ∷ act first_path ∷ tail steps ∷ line turn ∷ s) None)))
begin turn k s = choose k (Only kind.Not) (line check ∷ act not_compare_test ∷ s) (begin_check k (act compare_test ∷ s))
begin check k s = begin_check k s
begin step k s =
    choose k (Only kind.Dot) (one Name ∷ act name_step ∷ s)
    (choose k (Only kind.SquareOpen) (one Index ∷ one (Only kind.SquareClose) ∷ act index_step ∷ s) None)

abbrev again : Tail → TokenKind → List Job → Option (List Job)
again qualifiers k s = begin qualifier k (act qualify_tree ∷ s)
again ands k s = Some (line start ∷ tail qualifiers ∷ act (join_tree both) ∷ s)
again ors k s = Some (line start ∷ tail qualifiers ∷ tail ands ∷ act (join_tree either) ∷ s)
again thens k s = Some (line start ∷ tail qualifiers ∷ tail ands ∷ tail ors ∷ act (join_tree followed) ∷ s)
again cands k s = Some (line test ∷ act (join_comparison all) ∷ s)
again cors k s = Some (line test ∷ tail cands ∷ act (join_comparison any) ∷ s)
again steps k s = begin step k (act further_path ∷ s)
again commas k s = Some (one Constant ∷ act further_list ∷ s)

pub data State : Type 0 where
  nowhere : State
  at : List Job → List Built → State

-- where the jobs lead, with the token on the other stack
abbrev pushed : Option (List Job) → Token → List Built → State
pushed None t vs = nowhere
pushed (Some s) t vs = at s (mark t ∷ vs)

abbrev pub next : List Job → List Built → Token → State
next [] vs t = nowhere
next (one class ∷ s) vs t = pushed (if is_in class t.kind then Some s else None) t vs
next (line l ∷ s) vs t = pushed (begin l t.kind s) t vs
next (tail r ∷ s) vs t = if is_in (opening r) t.kind then pushed (again r t.kind (tail r ∷ s)) t vs else next s vs t
next (act f ∷ s) vs t = next s (f vs) t

abbrev pub move : State → Token → State
move nowhere t = nowhere
move (at s vs) t = next s vs t

abbrev pub moves : State → List Token → State
moves s [] = s
moves s (t ∷ ts) = moves (move s t) ts

-- what is built where the tokens end
abbrev pub finish : List Job → List Built → State
finish [] vs = at [] vs
finish (one class ∷ s) vs = nowhere
finish (line l ∷ s) vs = nowhere
finish (tail r ∷ s) vs = finish s vs
finish (act f ∷ s) vs = finish s (f vs)

abbrev pub go : State → List Token → State
go nowhere rest = nowhere
go (at s vs) [] = finish s vs
go (at s vs) (t ∷ rest) = next s vs t

-- the tokens lead from these jobs to those, and change what was built so
pub record Builds (before after : List Job → List Job) (change : List Built → List Built) (read rest : List Token) : Type 0 where
  pub proceed : (k : List Job) (vs : List Built) → go (moves (at (before k) vs) read) rest ≡ go (at (after k) (change vs)) rest

abbrev pub done : List Job → List Job
done k = k

abbrev pub open_for : Tail → List Job → List Job
open_for t k = tail t ∷ k

abbrev pub same : List Built → List Built
same vs = vs

abbrev pub adding : Built → List Built → List Built
adding v vs = v ∷ vs

pub moves-append : (s : State) (a b : List Token) → moves s (a ++ b) ≡ moves (moves s a) b
moves-append s [] b = refl
moves-append s (t ∷ a) b = moves-append (move s t) a b

go_is : (s : State) (t : Token) (r : List Token) → go s (t ∷ r) ≡ move s t
go_is nowhere t r = refl
go_is (at s vs) t r = refl

resume : (s u : State) (y r : List Token) → go s (y ++ r) ≡ go u (y ++ r) → go (moves s y) r ≡ go (moves u y) r
resume s u [] r e = e
resume s u (t ∷ y) r e = ap (λ x. go (moves x y) r) (sym (go_is s t (y ++ r)) ∙ e ∙ go_is u t (y ++ r))

pub builds_then : {f g h : List Job → List Job} (c d : List Built → List Built) (x y r : List Token) → Builds f g c x (y ++ r) → Builds g h d y r → Builds f h (λ vs. d (c vs)) (x ++ y) r
builds_then {f} {g} {h} c d x y r a b = record { proceed = λ k vs. ap (λ s. go s r) (moves-append (at (f k) vs) x y) ∙ resume (moves (at (f k) vs) x) (at (g k) (c vs)) y r (a.proceed k vs) ∙ b.proceed k (c vs) }

pub builds_before : {f g : List Job → List Job} {c : List Built → List Built} {x r : List Token} (m : List Job → List Job) → Builds f g c x r → Builds (λ k. f (m k)) (λ k. g (m k)) c x r
builds_before m a = record { proceed = λ k vs. a.proceed (m k) vs }

pub builds_act : (d : List Built → List Built) (r : List Token) → Builds (λ k. act d ∷ k) done d [] r
builds_act d [] = record { proceed = λ k vs. refl }
builds_act d (t ∷ r) = record { proceed = λ k vs. refl }

-- and then the act
pub builds_up : {f g : List Job → List Job} (c d : List Built → List Built) (x r : List Token) → Builds f (λ k. act d ∷ g k) c x r → Builds f g (λ vs. d (c vs)) x r
builds_up {g = g} c d x r a = record { proceed = λ k vs. a.proceed k vs ∙ (builds_act d r).proceed (g k) (c vs) }

pub builds_past : {f : List Job → List Job} {c : List Built → List Built} (t : Tail) {x r : List Token} → Builds f (open_for t) c x r → LacksTokenClass (opening t) r → Builds f done c x r
builds_past t {r = []} a h = record { proceed = λ k vs. a.proceed k vs }
builds_past t {r = o ∷ r} a h = record { proceed = λ k vs. a.proceed k vs ∙ rw h refl }
