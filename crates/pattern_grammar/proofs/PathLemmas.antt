-- The steps of reading a path.
use Rattle.std.proofs.Common.{◌≡◌, List, [], ◌∷◌, Some, None, refl, ap, ◌∙◌, ◌<◌, length, length-append, arith}
use Rattle.pattern_lexer.specs.declared.token.Token.{Token}
use Rattle.pattern_lexer.specs.declared.token.TokenKind.TheVariants as kind
use Rattle.pattern_grammar.specs.declared.class.TokenClass.TheVariants.{Only, Root, Name, Index}
use Rattle.pattern_grammar.specs.declared.path.StepTree.{StepTree}
use Rattle.pattern_grammar.specs.declared.path.StepTree.TheVariants as step_tree
use Rattle.pattern_grammar.specs.Grammar.{IsStep, step_name, step_index, IsPath, path_first, path_further, further}
use Rattle.pattern_grammar.specs.inner.Machine.{Expected, one, line, tail, step, steps, expects_step, expects_path, go}
use Rattle.pattern_grammar.specs.inner.Machine.{BeginsLine, LacksTokenClass, Found, Stuck, done, open_for}
use Rattle.pattern_grammar.proofs.SameKindLemmas.{only}
use Rattle.pattern_grammar.proofs.LeadsLemmas.{halts_one}
use Rattle.pattern_grammar.proofs.CompletionLemmas.{some, prefix_path}
use Rattle.pattern_grammar.proofs.ChainLemmas.{Repeat}

-- step
pub step_none : {ts : List Token} → LacksTokenClass (Only kind.Dot) ts → LacksTokenClass (Only kind.SquareOpen) ts → Stuck IsStep expects_step ts ts
step_none {ts} a b = record {
  read = [];
  all_are = refl;
  prefix = record { more = some kind.Dot ∷ some kind.Word ∷ []; value = _; spells = step_name (some kind.Dot) (some kind.Word) refl refl };
  halts = record { stop = none ts a b };
}
  where
    none : (us : List Token) → LacksTokenClass (Only kind.Dot) us → LacksTokenClass (Only kind.SquareOpen) us → (k : List Expected) → go (Some (line step ∷ k)) us ≡ None
    none [] a b k = refl
    none (t ∷ us) a b k = rw (a, b) refl

pub step_dot : {ts r1 : List Token} (a : Token) → BeginsLine (Only kind.Dot) a ts r1 → LacksTokenClass Name r1 → Stuck IsStep expects_step ts r1
step_dot {r1 = r1} a x h = record {
  read = a ∷ [];
  all_are = x.all_are;
  prefix = record { more = some kind.Word ∷ []; value = _; spells = step_name a (some kind.Word) x.of_class refl };
  halts = record { stop = λ k. rw x.of_class ((halts_one Name r1 h).stop k) };
}

pub step_named : {ts r1 r2 : List Token} (a b : Token) → BeginsLine (Only kind.Dot) a ts r1 → BeginsLine Name b r1 r2 → Found IsStep expects_step done ts (step_tree.Name b) r2
step_named a b x y = record {
  read = a ∷ b ∷ [];
  all_are = x.all_are ∙ ap (λ r. a ∷ r) y.all_are;
  spells = step_name a b x.of_class y.of_class;
  leads = record { proceed = λ k. rw (x.of_class, y.of_class) refl };
}

pub step_square : {ts r1 : List Token} (a : Token) → BeginsLine (Only kind.SquareOpen) a ts r1 → LacksTokenClass Index r1 → Stuck IsStep expects_step ts r1
step_square {r1 = r1} a x h = record {
  read = a ∷ [];
  all_are = x.all_are;
  prefix = record { more = some kind.Number ∷ some kind.SquareClose ∷ []; value = _; spells = step_index a (some kind.Number) (some kind.SquareClose) x.of_class refl refl };
  halts = record { stop = λ k. rw (only kind.SquareOpen a x.of_class) ((halts_one Index r1 h).stop (one (Only kind.SquareClose) ∷ k)) };
}

pub step_unclosed : {ts r1 r2 : List Token} (a b : Token) → BeginsLine (Only kind.SquareOpen) a ts r1 → BeginsLine Index b r1 r2 → LacksTokenClass (Only kind.SquareClose) r2 → Stuck IsStep expects_step ts r2
step_unclosed {r2 = r2} a b x y h = record {
  read = a ∷ b ∷ [];
  all_are = x.all_are ∙ ap (λ r. a ∷ r) y.all_are;
  prefix = record { more = some kind.SquareClose ∷ []; value = _; spells = step_index a b (some kind.SquareClose) x.of_class y.of_class refl };
  halts = record { stop = λ k. rw (only kind.SquareOpen a x.of_class, y.of_class) ((halts_one (Only kind.SquareClose) r2 h).stop k) };
}

pub step_indexed : {ts r1 r2 r3 : List Token} (a b c : Token) → BeginsLine (Only kind.SquareOpen) a ts r1 → BeginsLine Index b r1 r2 → BeginsLine (Only kind.SquareClose) c r2 r3 → Found IsStep expects_step done ts (step_tree.Index b) r3
step_indexed a b c x y z = record {
  read = a ∷ b ∷ c ∷ [];
  all_are = x.all_are ∙ ap (λ r. a ∷ r) (y.all_are ∙ ap (λ r. b ∷ r) z.all_are);
  spells = step_index a b c x.of_class y.of_class z.of_class;
  leads = record { proceed = λ k. rw (only kind.SquareOpen a x.of_class, y.of_class, only kind.SquareClose c z.of_class) refl };
}

-- path
pub path_none : {ts : List Token} → LacksTokenClass Root ts → Stuck IsPath expects_path ts ts
path_none {ts} h = record {
  read = [];
  all_are = refl;
  prefix = prefix_path;
  halts = record { stop = λ k. (halts_one Root ts h).stop (one (Only kind.Colon) ∷ one Name ∷ tail steps ∷ k) };
}

pub path_root : {ts r1 : List Token} (a : Token) → BeginsLine Root a ts r1 → LacksTokenClass (Only kind.Colon) r1 → Stuck IsPath expects_path ts r1
path_root {r1 = r1} a x h = record {
  read = a ∷ [];
  all_are = x.all_are;
  prefix = record { more = some kind.Colon ∷ some kind.Word ∷ []; value = _; spells = path_first a (some kind.Colon) (some kind.Word) x.of_class refl refl };
  halts = record { stop = λ k. rw x.of_class ((halts_one (Only kind.Colon) r1 h).stop (one Name ∷ tail steps ∷ k)) };
}

pub path_colon : {ts r1 r2 : List Token} (a b : Token) → BeginsLine Root a ts r1 → BeginsLine (Only kind.Colon) b r1 r2 → LacksTokenClass Name r2 → Stuck IsPath expects_path ts r2
path_colon {r2 = r2} a b x y h = record {
  read = a ∷ b ∷ [];
  all_are = x.all_are ∙ ap (λ r. a ∷ r) y.all_are;
  prefix = record { more = some kind.Word ∷ []; value = _; spells = path_first a b (some kind.Word) x.of_class y.of_class refl };
  halts = record { stop = λ k. rw (x.of_class, y.of_class) ((halts_one Name r2 h).stop (tail steps ∷ k)) };
}

pub path_begun : {ts r1 r2 r3 : List Token} (a b c : Token) → BeginsLine Root a ts r1 → BeginsLine (Only kind.Colon) b r1 r2 → BeginsLine Name c r2 r3 → Found IsPath expects_path (open_for steps) ts (record { root = a; steps = step_tree.Name c ∷ [] }) r3
path_begun a b c x y z = record {
  read = a ∷ b ∷ c ∷ [];
  all_are = x.all_are ∙ ap (λ r. a ∷ r) (y.all_are ∙ ap (λ r. b ∷ r) z.all_are);
  spells = path_first a b c x.of_class y.of_class z.of_class;
  leads = record { proceed = λ k. rw (x.of_class, y.of_class, z.of_class) refl };
}

pub path_steps : Repeat IsPath IsStep step steps further
path_steps = record { more = λ a b v w x y. path_further x y; enters = λ o k h. rw h refl }

-- what was read is gone
read_step : {ts : List Token} {v : StepTree} → IsStep ts v → 0 < length ts
read_step (step_name a b x y) = omega arith
read_step (step_index a b c x y z) = omega arith

pub step_shorter : {ts rest : List Token} {v : StepTree} {before : List Expected → List Expected} → Found IsStep before done ts v rest → length rest < length ts
step_shorter {rest = rest} f = omega (arith, read_step f.spells, ap length f.all_are, length-append f.read rest)
