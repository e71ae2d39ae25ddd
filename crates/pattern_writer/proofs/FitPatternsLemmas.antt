-- What some text spells is fit: comparisons and patterns.
use Rattle.std.proofs.Common.{ℕ, List, [], ◌∷◌}
use Rattle.pattern_lexer.specs.declared.token.Token.{Token}
use Rattle.pattern_grammar.specs.declared.comparison.CheckTree.TheVariants as check_tree
use Rattle.pattern_grammar.specs.declared.qualifier.Qualifier.{Qualifier}
use Rattle.pattern_grammar.specs.declared.qualifier.Qualifier.TheVariants as qualifier
use Rattle.pattern_grammar.specs.Tree.{Comparison, Tree}
use Rattle.pattern_grammar.specs.Grammar.{IsTest, test_group, test_exists, test_not_exists, test_compare, test_not_compare, IsCand, cand_one, cand_more, IsCor, cor_one, cor_more, IsStart, start_leaf, start_group, IsUnit, unit_one, unit_more, IsAnds, ands_one, ands_more, IsOrs, ors_one, ors_more, IsPattern, pattern_one, pattern_more}
use Rattle.pattern_types.specs.declared.check.Check.{Check}
use Rattle.pattern_types.specs.declared.check.Check.TheVariants as check
use Rattle.pattern_reader.specs.Meaning.{IsCheckOf}
use Rattle.pattern_types.specs.PlainLeaf.{PlainLeaf, PlainLeaves, none, more, leaves_with}
use Rattle.pattern_reader.specs.LeafMeaning.{Means, means_test, means_group, means_all, means_any, AllParts, all_first, all_more, AnyParts, any_first, any_more}
use Rattle.pattern_types.specs.declared.limit.Limit.{Limit}
use Rattle.pattern_types.specs.declared.limit.Limit.TheVariants.{Within, Repeats, Between}
use Rattle.pattern_types.specs.PlainPattern.{PlainPattern}
use Rattle.pattern_reader.specs.PatternMeaning.{IsLimitOf, MeansPattern, means_leaf, means_both, means_either, means_then, means_limited}
use Rattle.pattern_writer.proofs.FitLemmas.{FitCheck, AreSome, FitFormula, FitFormulas, FitLimit, FitMeant}
use Rattle.pattern_writer.proofs.LexedLemmas.{AllLexed, lexed_left, lexed_right}
use Rattle.pattern_writer.proofs.FitnessLemmas.{fit_path, fit_check}
use Rattle.pattern_writer.proofs.DepthLinesLemmas.{test_apart, cand_apart}

fit_exists : (whole : List ℕ) (c : Check) → IsCheckOf whole check_tree.Exists c → FitCheck c
fit_exists whole check.Exists h = tt
fit_exists whole _ h = absurd h

-- one part more
put_fit : (fs : PlainLeaves) (f : PlainLeaf) → FitFormulas fs → FitFormula f → FitFormulas (leaves_with fs f)
put_fit none f h k = (k, tt)
put_fit (more g gs) f h k = (h.0, put_fit gs f h.1 k)

abbrev IsSome : PlainLeaves → Type 0
IsSome none = ⊥
IsSome (more f fs) = Unit {0}

put_some : (fs : PlainLeaves) (f : PlainLeaf) → IsSome (leaves_with fs f)
put_some none f = tt
put_some (more g gs) f = tt

two_some : (fs : PlainLeaves) (f : PlainLeaf) → IsSome fs → AreSome (leaves_with fs f)
two_some none f h = absurd h
two_some (more g none) f h = tt
two_some (more g (more k gs)) f h = tt

all_some : (whole : List ℕ) (c : Comparison) (fs : PlainLeaves) → AllParts whole c fs → IsSome fs
all_some whole c fs (all_first n m) = tt
all_some whole c fs (all_more {fs = gs} {f = f} h m) = put_some gs f

any_some : (whole : List ℕ) (c : Comparison) (fs : PlainLeaves) → AnyParts whole c fs → IsSome fs
any_some whole c fs (any_first n m) = tt
any_some whole c fs (any_more {fs = gs} {f = f} h m) = put_some gs f

mutual
  fit_test : (whole : List ℕ) (ts : List Token) (c : Comparison) (f : PlainLeaf) → IsTest ts c → AllLexed whole ts → Means whole c f → FitFormula f
  fit_test whole ts c f (test_group a b {ts = us} {c = d} i h j) x (means_group m) = fit_cor whole us d f h (lexed_left whole us (b ∷ []) x.1) m
  fit_test whole ts c f (test_exists a {ts = us} {p = p} i h) x (means_test {u = u} m) = record { path = fit_path whole us p u.path h x.1 m.path; asks = fit_exists whole u.check m.asks }
  fit_test whole ts c f (test_not_exists a b {ts = us} {p = p} i j h) x (means_test {u = u} m) = record { path = fit_path whole us p u.path h x.1.1 m.path; asks = fit_exists whole u.check m.asks }
  fit_test whole ts c f (test_compare {a = us} {b = vs} {p = p} {c = k} h i) x (means_test {u = u} m) = record { path = fit_path whole us p u.path h (lexed_left whole us vs x) m.path; asks = fit_check whole vs k u.check i (lexed_right whole us vs x) m.asks }
  fit_test whole ts c f (test_not_compare {a = us} {b = vs} o {p = p} {c = k} h i j) x (means_test {u = u} m) = record { path = fit_path whole us p u.path h (lexed_left whole us (o ∷ vs) x) m.path; asks = fit_check whole vs k u.check j (lexed_right whole us (o ∷ vs) x).1 m.asks }

  fit_cand : (whole : List ℕ) (ts : List Token) (c : Comparison) (f : PlainLeaf) → IsCand ts c → AllLexed whole ts → Means whole c f → FitFormula f
  fit_cand whole ts c f (cand_one h) x m = fit_test whole ts c f h x m
  fit_cand whole ts c f (cand_more {a = us} {b = vs} o {c = d} {d = e} h i k) x (means_all (all_first n m)) = absurd n
  fit_cand whole ts c f (cand_more {a = us} {b = vs} o {c = d} {d = e} h i k) x (means_all (all_more {fs = gs} {f = g} q m)) =
      (two_some gs g (all_some whole d gs q), put_fit gs g (fit_all whole us d gs h (lexed_left whole us (o ∷ vs) x) q) (fit_test whole vs e g k (lexed_right whole us (o ∷ vs) x).1 m))

  fit_all : (whole : List ℕ) (ts : List Token) (c : Comparison) (fs : PlainLeaves) → IsCand ts c → AllLexed whole ts → AllParts whole c fs → FitFormulas fs
  fit_all whole ts c fs (cand_one h) x (all_first {f = g} n m) = (fit_test whole ts c g h x m, tt)
  fit_all whole ts c fs (cand_one h) x (all_more {c = d} {d = e} q m) = absurd (test_apart h).0
  fit_all whole ts c fs (cand_more {a = us} {b = vs} o {c = d} {d = e} h i k) x (all_first n m) = absurd n
  fit_all whole ts c fs (cand_more {a = us} {b = vs} o {c = d} {d = e} h i k) x (all_more {fs = gs} {f = g} q m) =
      put_fit gs g (fit_all whole us d gs h (lexed_left whole us (o ∷ vs) x) q) (fit_test whole vs e g k (lexed_right whole us (o ∷ vs) x).1 m)

  fit_cor : (whole : List ℕ) (ts : List Token) (c : Comparison) (f : PlainLeaf) → IsCor ts c → AllLexed whole ts → Means whole c f → FitFormula f
  fit_cor whole ts c f (cor_one h) x m = fit_cand whole ts c f h x m
  fit_cor whole ts c f (cor_more {a = us} {b = vs} o {c = d} {d = e} h i k) x (means_any (any_first n m)) = absurd n
  fit_cor whole ts c f (cor_more {a = us} {b = vs} o {c = d} {d = e} h i k) x (means_any (any_more {fs = gs} {f = g} q m)) =
      (two_some gs g (any_some whole d gs q), put_fit gs g (fit_any whole us d gs h (lexed_left whole us (o ∷ vs) x) q) (fit_cand whole vs e g k (lexed_right whole us (o ∷ vs) x).1 m))

  fit_any : (whole : List ℕ) (ts : List Token) (c : Comparison) (fs : PlainLeaves) → IsCor ts c → AllLexed whole ts → AnyParts whole c fs → FitFormulas fs
  fit_any whole ts c fs (cor_one h) x (any_first {f = g} n m) = (fit_cand whole ts c g h x m, tt)
  fit_any whole ts c fs (cor_one h) x (any_more {c = d} {d = e} q m) = absurd (cand_apart h)
  fit_any whole ts c fs (cor_more {a = us} {b = vs} o {c = d} {d = e} h i k) x (any_first n m) = absurd n
  fit_any whole ts c fs (cor_more {a = us} {b = vs} o {c = d} {d = e} h i k) x (any_more {fs = gs} {f = g} q m) =
      put_fit gs g (fit_any whole us d gs h (lexed_left whole us (o ∷ vs) x) q) (fit_cand whole vs e g k (lexed_right whole us (o ∷ vs) x).1 m)

fit_limit : (whole : List ℕ) (q : Qualifier) (l : Limit) → IsLimitOf whole q l → FitLimit l
fit_limit whole (qualifier.Within t) (Within n) h = (h.low, h.high)
fit_limit whole (qualifier.Repeats t) (Repeats n) h = (h.low, h.high)
fit_limit whole q (Between i j) h = tt
fit_limit whole q l h = absurd h

mutual
  fit_start : (whole : List ℕ) (ts : List Token) (p : Tree) (m : PlainPattern) → IsStart ts p → AllLexed whole ts → MeansPattern whole p m → FitMeant m
  fit_start whole ts p m (start_leaf a b {ts = us} {c = c} i h j) x (means_leaf {f = f} k) = fit_cor whole us c f h (lexed_left whole us (b ∷ []) x.1) k
  fit_start whole ts p m (start_group a b {ts = us} {p = q} i h j) x k = fit_pattern whole us q m h (lexed_left whole us (b ∷ []) x.1) k

  fit_unit : (whole : List ℕ) (ts : List Token) (p : Tree) (m : PlainPattern) → IsUnit ts p → AllLexed whole ts → MeansPattern whole p m → FitMeant m
  fit_unit whole ts p m (unit_one h) x k = fit_start whole ts p m h x k
  fit_unit whole ts p m (unit_more {a = us} {b = vs} {p = q} {q = r} h i) x (means_limited {m = n} {l = l} k j) = (fit_unit whole us q n h (lexed_left whole us vs x) k, fit_limit whole r l j)

  fit_ands : (whole : List ℕ) (ts : List Token) (p : Tree) (m : PlainPattern) → IsAnds ts p → AllLexed whole ts → MeansPattern whole p m → FitMeant m
  fit_ands whole ts p m (ands_one h) x k = fit_unit whole ts p m h x k
  fit_ands whole ts p m (ands_more {a = us} {b = vs} o {p = q} {q = r} h i j) x (means_both {m = n} {n = l} k y) = (fit_ands whole us q n h (lexed_left whole us (o ∷ vs) x) k, fit_unit whole vs r l j (lexed_right whole us (o ∷ vs) x).1 y)

  fit_ors : (whole : List ℕ) (ts : List Token) (p : Tree) (m : PlainPattern) → IsOrs ts p → AllLexed whole ts → MeansPattern whole p m → FitMeant m
  fit_ors whole ts p m (ors_one h) x k = fit_ands whole ts p m h x k
  fit_ors whole ts p m (ors_more {a = us} {b = vs} o {p = q} {q = r} h i j) x (means_either {m = n} {n = l} k y) = (fit_ors whole us q n h (lexed_left whole us (o ∷ vs) x) k, fit_ands whole vs r l j (lexed_right whole us (o ∷ vs) x).1 y)

  pub fit_pattern : (whole : List ℕ) (ts : List Token) (p : Tree) (m : PlainPattern) → IsPattern ts p → AllLexed whole ts → MeansPattern whole p m → FitMeant m
  fit_pattern whole ts p m (pattern_one h) x k = fit_ors whole ts p m h x k
  fit_pattern whole ts p m (pattern_more {a = us} {b = vs} o {p = q} {q = r} h i j) x (means_then {m = n} {n = l} k y) = (fit_pattern whole us q n h (lexed_left whole us (o ∷ vs) x) k, fit_ors whole vs r l j (lexed_right whole us (o ∷ vs) x).1 y)
