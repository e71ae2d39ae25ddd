-- Where what is spelled leads.
use Rattle.std.proofs.Common.{◌≡◌, false, List, [], ◌∷◌, ◌++◌, refl, append_assoc, ◌∙◌, inl, inr}
use Rattle.pattern_lexer.specs.declared.token.Token.{Token}
use Rattle.pattern_lexer.specs.declared.token.TokenKind.{TokenKind}
use Rattle.pattern_lexer.specs.declared.token.TokenKind.TheVariants as kind
use Rattle.pattern_grammar.specs.declared.class.TokenClass.{TokenClass}
use Rattle.pattern_grammar.specs.declared.class.TokenClass.TheVariants.{Only, Qualifying, Stepping}
use Rattle.pattern_grammar.specs.declared.path.StepTree.{StepTree}
use Rattle.pattern_grammar.specs.declared.path.PathTree.{PathTree}
use Rattle.pattern_grammar.specs.declared.comparison.CheckTree.{CheckTree}
use Rattle.pattern_grammar.specs.declared.qualifier.Qualifier.{Qualifier}
use Rattle.pattern_grammar.specs.TokenClass.{is_in, IsA}
use Rattle.pattern_grammar.specs.Tree.{Comparison, Tree}
use Rattle.pattern_grammar.specs.Grammar.{IsStep, step_name, step_index, IsPath, path_first, path_further, AreConstants, constants_one, constants_more, IsCheck, check_equality, check_order, check_among, check_textual, IsTest, test_group, test_exists, test_not_exists, test_compare, test_not_compare, IsCand, cand_one, cand_more, IsCor, cor_one, cor_more, IsQualifier, qualifier_within, qualifier_repeats, qualifier_between, IsStart, start_leaf, start_group, IsUnit, unit_one, unit_more, IsAnds, ands_one, ands_more, IsOrs, ors_one, ors_more, IsPattern, pattern_one, pattern_more}
use Rattle.pattern_grammar.specs.inner.Machine.{Expected, one, line, tail, Tail, turn, step, qualifier, steps, commas, cands, cors, qualifiers, ands, ors, thens, expects_step, expects_path, expects_constants, expects_check, expects_test, expects_cand, expects_cor, expects_qualifier, expects_start, expects_unit, expects_ands, expects_ors, expects_pattern, opening}
use Rattle.pattern_grammar.specs.inner.Machine.{LacksTokenClass, LacksTestWord, Leads, done, open_for}
use Rattle.pattern_grammar.proofs.SameKindLemmas.{only, order_apart, textual_apart, textual_apart_order, root_apart, check_apart}
use Rattle.pattern_grammar.proofs.LeadsLemmas.{leads_one, leads_then, leads_before, leads_token, leads_past}
use Rattle.pattern_grammar.proofs.TestLemmas.{as_path, as_check, negated}

-- a token of one kind is not of a class without it
pub apart : (w : TokenKind) (class : TokenClass) (o : Token) → IsA (Only w) o → is_in class w ≡ false → is_in class o.kind ≡ false
apart w class o h e = rw (only w o h) e

-- no further turn
ended_by : {f : List Expected → List Expected} {ts r : List Token} (t : Tail) → Leads f (open_for t) ts r → LacksTokenClass (opening t) r → Leads f done ts r
ended_by {r = r} t x h = record { proceed = λ k. x.proceed k ∙ (leads_past t r h).proceed k }

run_step : {ts : List Token} {v : StepTree} → IsStep ts v → (r : List Token) → Leads expects_step done ts r
run_step (step_name a b x y) r = record { proceed = λ k. rw (x, y) refl }
run_step (step_index a b c x y z) r = record { proceed = λ k. rw (only kind.SquareOpen a x, y, z) refl }

-- a step from where another may stand
into_step : {b : List Token} {v : StepTree} → IsStep b v → (r : List Token) → Leads (open_for steps) (λ k. line step ∷ tail steps ∷ k) [] (b ++ r)
into_step (step_name a b x y) r = record { proceed = λ k. rw (only kind.Dot a x) refl }
into_step (step_index a b c x y z) r = record { proceed = λ k. rw (only kind.SquareOpen a x) refl }

run_path : {ts : List Token} {v : PathTree} → IsPath ts v → (r : List Token) → Leads expects_path (open_for steps) ts r
run_path (path_first a b c x y z) r = record { proceed = λ k. rw (x, y, z) refl }
run_path (path_further {a} {b} x y) r = leads_then a b r (run_path x (b ++ r)) (leads_then [] b r (into_step y r) (leads_before (open_for steps) (run_step y r)))

run_constants : {ts cs : List Token} → AreConstants ts cs → (r : List Token) → Leads expects_constants (open_for commas) ts r
run_constants (constants_one a x) r = record { proceed = λ k. rw x refl }
run_constants (constants_more {ts} a b x y z) r = leads_then ts (a ∷ b ∷ []) r (run_constants x (a ∷ b ∷ r)) (record { proceed = λ k. rw (y, z) refl })

run_check : {ts : List Token} {v : CheckTree} → IsCheck ts v → (r : List Token) → Leads expects_check done ts r
run_check (check_equality a b x y) r = record { proceed = λ k. rw (x, y) refl }
run_check (check_order a b x y) r = record { proceed = λ k. rw (order_apart a.kind x, x, y) refl }
run_check (check_among a b c {ts} x y z w) r = leads_then (a ∷ b ∷ []) (ts ++ c ∷ []) r
    (record { proceed = λ k. rw (only kind.Among a x, y) refl })
    (leads_then ts (c ∷ []) r (leads_before (λ k. one (Only kind.RoundClose) ∷ k) (ended_by commas (run_constants z (c ∷ r)) (apart kind.RoundClose (Only kind.Comma) c w refl))) (leads_one (Only kind.RoundClose) c r w))
run_check (check_textual a b x y) r = record { proceed = λ k. rw (textual_apart a.kind x, textual_apart_order a.kind x, x, y) refl }

-- a path begins a test
pub path_begins : {ts : List Token} {v : PathTree} → IsPath ts v → (r : List Token) → LacksTestWord (ts ++ r)
path_begins (path_first a b c x y z) r = record { round = root_apart a.kind kind.RoundOpen x refl; exists = root_apart a.kind kind.Exists x refl; not = root_apart a.kind kind.Not x refl }
path_begins (path_further {a} {b} x y) r = rw append_assoc (path_begins x (b ++ r))

-- a check begins without NOT, and is no further step
pub check_begins : {ts : List Token} {v : CheckTree} → IsCheck ts v → (r : List Token) → LacksTokenClass (Only kind.Not) (ts ++ r) × LacksTokenClass Stepping (ts ++ r)
check_begins (check_equality a b x y) r = check_apart a.kind (inl x)
check_begins (check_order a b x y) r = check_apart a.kind (inr (inl x))
check_begins (check_among a b c x y z w) r = (rw (only kind.Among a x) refl, rw (only kind.Among a x) refl)
check_begins (check_textual a b x y) r = check_apart a.kind (inr (inr x))

mutual
  run_test : {ts : List Token} {v : Comparison} → IsTest ts v → (r : List Token) → LacksTokenClass Stepping r → Leads expects_test done ts r
  run_test (test_group a b {ts} x y z) r h = leads_then (a ∷ []) (ts ++ b ∷ []) r
      (leads_token a ((ts ++ b ∷ []) ++ r) (λ k. rw x refl))
      (leads_then ts (b ∷ []) r (leads_before (λ k. one (Only kind.RoundClose) ∷ k) (ended_by cors (run_cor y (b ∷ r) (apart kind.RoundClose Stepping b z refl) (apart kind.RoundClose (Only kind.And) b z refl)) (apart kind.RoundClose (Only kind.Or) b z refl))) (leads_one (Only kind.RoundClose) b r z))
  run_test (test_exists a {ts} x y) r h = leads_then (a ∷ []) ts r (leads_token a (ts ++ r) (λ k. rw (only kind.Exists a x) refl)) (ended_by steps (run_path y r) h)
  run_test (test_not_exists a b {ts} x y z) r h = leads_then (a ∷ b ∷ []) ts r (record { proceed = λ k. rw (only kind.Not a x, y) refl }) (ended_by steps (run_path z r) h)
  run_test (test_compare {a} {b} x y) r h = leads_then a b r
      (leads_then [] a (b ++ r) (as_path (a ++ (b ++ r)) (path_begins x (b ++ r))) (leads_before (λ k. line turn ∷ k) (ended_by steps (run_path x (b ++ r)) (check_begins y r).1)))
      (leads_then [] b r (as_check (b ++ r) (check_begins y r).0) (run_check y r))
  run_test (test_not_compare {a} {b} o x n y) r h = leads_then a (o ∷ b) r
      (leads_then [] a (o ∷ b ++ r) (as_path (a ++ (o ∷ b ++ r)) (path_begins x (o ∷ b ++ r))) (leads_before (λ k. line turn ∷ k) (ended_by steps (run_path x (o ∷ b ++ r)) (apart kind.Not Stepping o n refl))))
      (leads_then (o ∷ []) b r (negated o (b ++ r) n) (run_check y r))

  run_cand : {ts : List Token} {v : Comparison} → IsCand ts v → (r : List Token) → LacksTokenClass Stepping r → Leads expects_cand (open_for cands) ts r
  run_cand (cand_one x) r h = leads_before (open_for cands) (run_test x r h)
  run_cand (cand_more {a} {b} o x n y) r h = leads_then a (o ∷ b) r (run_cand x (o ∷ b ++ r) (apart kind.And Stepping o n refl))
      (leads_then (o ∷ []) b r (leads_token o (b ++ r) (λ k. rw n refl)) (leads_before (open_for cands) (run_test y r h)))

  run_cor : {ts : List Token} {v : Comparison} → IsCor ts v → (r : List Token) → LacksTokenClass Stepping r → LacksTokenClass (Only kind.And) r → Leads expects_cor (open_for cors) ts r
  run_cor (cor_one x) r h g = leads_before (open_for cors) (ended_by cands (run_cand x r h) g)
  run_cor (cor_more {a} {b} o x n y) r h g = leads_then a (o ∷ b) r (run_cor x (o ∷ b ++ r) (apart kind.Or Stepping o n refl) (apart kind.Or (Only kind.And) o n refl))
      (leads_then (o ∷ []) b r (leads_token o (b ++ r) (λ k. rw n refl)) (leads_before (open_for cors) (ended_by cands (run_cand y r h) g)))

run_qualifier : {ts : List Token} {v : Qualifier} → IsQualifier ts v → (r : List Token) → Leads expects_qualifier done ts r
run_qualifier (qualifier_within a b c x y z) r = record { proceed = λ k. rw (only kind.Within a x, y, z) refl }
run_qualifier (qualifier_repeats a b c x y z) r = record { proceed = λ k. rw (only kind.Repeats a x, y, z) refl }
run_qualifier (qualifier_between a b c d x y z w) r = record { proceed = λ k. rw (only kind.Start a x, y, z, w) refl }

-- a qualifier from where another may stand
into_qualifier : {b : List Token} {v : Qualifier} → IsQualifier b v → (r : List Token) → Leads (open_for qualifiers) (λ k. line qualifier ∷ tail qualifiers ∷ k) [] (b ++ r)
into_qualifier (qualifier_within a b c x y z) r = record { proceed = λ k. rw (only kind.Within a x) refl }
into_qualifier (qualifier_repeats a b c x y z) r = record { proceed = λ k. rw (only kind.Repeats a x) refl }
into_qualifier (qualifier_between a b c d x y z w) r = record { proceed = λ k. rw (only kind.Start a x) refl }

mutual
  run_start : {ts : List Token} {v : Tree} → IsStart ts v → (r : List Token) → Leads expects_start done ts r
  run_start (start_leaf a b {ts} x y z) r = leads_then (a ∷ []) (ts ++ b ∷ []) r
      (leads_token a ((ts ++ b ∷ []) ++ r) (λ k. rw (only kind.SquareOpen a x) refl))
      (leads_then ts (b ∷ []) r (leads_before (λ k. one (Only kind.SquareClose) ∷ k) (ended_by cors (run_cor y (b ∷ r) (apart kind.SquareClose Stepping b z refl) (apart kind.SquareClose (Only kind.And) b z refl)) (apart kind.SquareClose (Only kind.Or) b z refl))) (leads_one (Only kind.SquareClose) b r z))
  run_start (start_group a b {ts} x y z) r = leads_then (a ∷ []) (ts ++ b ∷ []) r
      (leads_token a ((ts ++ b ∷ []) ++ r) (λ k. rw x refl))
      (leads_then ts (b ∷ []) r (leads_before (λ k. one (Only kind.RoundClose) ∷ k) (ended_by thens (run_pattern y (b ∷ r) (apart kind.RoundClose Qualifying b z refl) (apart kind.RoundClose (Only kind.And) b z refl) (apart kind.RoundClose (Only kind.Or) b z refl)) (apart kind.RoundClose (Only kind.FollowedBy) b z refl))) (leads_one (Only kind.RoundClose) b r z))

  run_unit : {ts : List Token} {v : Tree} → IsUnit ts v → (r : List Token) → Leads expects_unit (open_for qualifiers) ts r
  run_unit (unit_one x) r = leads_before (open_for qualifiers) (run_start x r)
  run_unit (unit_more {a} {b} x y) r = leads_then a b r (run_unit x (b ++ r)) (leads_then [] b r (into_qualifier y r) (leads_before (open_for qualifiers) (run_qualifier y r)))

  run_ands : {ts : List Token} {v : Tree} → IsAnds ts v → (r : List Token) → LacksTokenClass Qualifying r → Leads expects_ands (open_for ands) ts r
  run_ands (ands_one x) r h = leads_before (open_for ands) (ended_by qualifiers (run_unit x r) h)
  run_ands (ands_more {a} {b} o x n y) r h = leads_then a (o ∷ b) r (run_ands x (o ∷ b ++ r) (apart kind.And Qualifying o n refl))
      (leads_then (o ∷ []) b r (leads_token o (b ++ r) (λ k. rw n refl)) (leads_before (open_for ands) (ended_by qualifiers (run_unit y r) h)))

  run_ors : {ts : List Token} {v : Tree} → IsOrs ts v → (r : List Token) → LacksTokenClass Qualifying r → LacksTokenClass (Only kind.And) r → Leads expects_ors (open_for ors) ts r
  run_ors (ors_one x) r h g = leads_before (open_for ors) (ended_by ands (run_ands x r h) g)
  run_ors (ors_more {a} {b} o x n y) r h g = leads_then a (o ∷ b) r (run_ors x (o ∷ b ++ r) (apart kind.Or Qualifying o n refl) (apart kind.Or (Only kind.And) o n refl))
      (leads_then (o ∷ []) b r (leads_token o (b ++ r) (λ k. rw n refl)) (leads_before (open_for ors) (ended_by ands (run_ands y r h) g)))

  pub run_pattern : {ts : List Token} {v : Tree} → IsPattern ts v → (r : List Token) → LacksTokenClass Qualifying r → LacksTokenClass (Only kind.And) r → LacksTokenClass (Only kind.Or) r → Leads expects_pattern (open_for thens) ts r
  run_pattern (pattern_one x) r h g f = leads_before (open_for thens) (ended_by ors (run_ors x r h g) f)
  run_pattern (pattern_more {a} {b} o x n y) r h g f = leads_then a (o ∷ b) r (run_pattern x (o ∷ b ++ r) (apart kind.FollowedBy Qualifying o n refl) (apart kind.FollowedBy (Only kind.And) o n refl) (apart kind.FollowedBy (Only kind.Or) o n refl))
      (leads_then (o ∷ []) b r (leads_token o (b ++ r) (λ k. rw n refl)) (leads_before (open_for thens) (ended_by ors (run_ors y r h g) f)))
