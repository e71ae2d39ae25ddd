-- A list of tokens spells one tree at most: what it spells is what the machine builds from it.
use Rattle.std.proofs.Common.{◌≡◌, true, List, [], ◌∷◌, ◌++◌, refl, sym, ◌∙◌}
use Rattle.pattern_lexer.specs.declared.token.Token.{Token}
use Rattle.pattern_lexer.specs.declared.token.TokenKind.TheVariants as kind
use Rattle.pattern_grammar.specs.declared.class.TokenClass.TheVariants.{Only, Qualifying, Stepping}
use Rattle.pattern_grammar.specs.declared.path.StepTree.{StepTree}
use Rattle.pattern_grammar.specs.declared.path.PathTree.{PathTree}
use Rattle.pattern_grammar.specs.declared.comparison.CheckTree.{CheckTree}
use Rattle.pattern_grammar.specs.declared.qualifier.Qualifier.{Qualifier}
use Rattle.pattern_grammar.specs.TokenClass.{is_in}
use Rattle.pattern_grammar.specs.Tree.{Comparison, Tree, all, any, both, either, followed}
use Rattle.pattern_grammar.specs.Grammar.{IsStep, step_name, step_index, IsPath, path_first, path_further, AreConstants, constants_one, constants_more, IsCheck, check_equality, check_order, check_among, check_textual, IsTest, test_group, test_exists, test_not_exists, test_compare, test_not_compare, IsCand, cand_one, cand_more, IsCor, cor_one, cor_more, IsQualifier, qualifier_within, qualifier_repeats, qualifier_between, IsStart, start_leaf, start_group, IsUnit, unit_one, unit_more, IsAnds, ands_one, ands_more, IsOrs, ors_one, ors_more, IsPattern, pattern_one, pattern_more}
use Rattle.pattern_grammar.specs.inner.Machine.{start, turn, test, check, step, qualifier, steps, commas, cands, cors, qualifiers, ands, ors, thens}
use Rattle.pattern_grammar.specs.inner.Machine.{LacksTokenClass, LacksTestWord}
use Rattle.pattern_grammar.proofs.SameKindLemmas.{only, order_apart, textual_apart, textual_apart_order}
use Rattle.pattern_grammar.proofs.MachineLemmas.{apart, path_begins, check_begins}
use Rattle.pattern_grammar.proofs.TreeBuilderLemmas.{Built, mark, a_step, a_path, a_list, a_check, a_comparison, a_qualifier, a_tree, Job, one, line, tail, act, name_step, index_step, first_path, further_path, first_list, further_list, compare_check, textual_check, among_check, exists_test, not_exists_test, compare_test, not_compare_test, group_test, join_comparison, within, repeats, between, leaf_tree, group_tree, qualify_tree, join_tree, jobs_path, jobs_constants, jobs_cor, jobs_pattern, at, moves, go, Builds, done, open_for, same, adding, builds_then, builds_before, builds_up, builds_past}

-- what one token adds
abbrev marked : Token → List Built → List Built
marked t vs = mark t ∷ vs

build_step : {ts : List Token} {v : StepTree} → IsStep ts v → (r : List Token) → Builds (λ k. line step ∷ k) done (adding (a_step v)) ts r
build_step (step_name a b x y) r = builds_up {g = done} (λ vs. mark b ∷ mark a ∷ vs) name_step (a ∷ b ∷ []) r (record { proceed = λ k vs. rw (x, y) refl })
build_step (step_index a b c x y z) r = builds_up {g = done} (λ vs. mark c ∷ mark b ∷ mark a ∷ vs) index_step (a ∷ b ∷ c ∷ []) r (record { proceed = λ k vs. rw (only kind.SquareOpen a x, y, z) refl })

into_step : {b : List Token} {v : StepTree} → IsStep b v → (r : List Token) → Builds (open_for steps) (λ k. line step ∷ act further_path ∷ tail steps ∷ k) same [] (b ++ r)
into_step (step_name a b x y) r = record { proceed = λ k vs. rw (only kind.Dot a x) refl }
into_step (step_index a b c x y z) r = record { proceed = λ k vs. rw (only kind.SquareOpen a x) refl }

build_path : {ts : List Token} {v : PathTree} → IsPath ts v → (r : List Token) → Builds jobs_path (open_for steps) (adding (a_path v)) ts r
build_path (path_first a b c x y z) r = builds_up {g = open_for steps} (λ vs. mark c ∷ mark b ∷ mark a ∷ vs) first_path (a ∷ b ∷ c ∷ []) r (record { proceed = λ k vs. rw (x, y, z) refl })
build_path (path_further {a} {b} {path} {next} x y) r = builds_then (adding (a_path path)) (λ vs. further_path (a_step next ∷ vs)) a b r (build_path x (b ++ r))
    (builds_then same (λ vs. further_path (a_step next ∷ vs)) [] b r (into_step y r)
    (builds_up {g = open_for steps} (adding (a_step next)) further_path b r (builds_before (λ k. act further_path ∷ tail steps ∷ k) (build_step y r))))

build_constants : {ts cs : List Token} → AreConstants ts cs → (r : List Token) → Builds jobs_constants (open_for commas) (adding (a_list cs)) ts r
build_constants (constants_one a x) r = builds_up {g = open_for commas} (λ vs. mark a ∷ vs) first_list (a ∷ []) r (record { proceed = λ k vs. rw x refl })
build_constants (constants_more {ts} {cs} a b x y z) r = builds_then (adding (a_list cs)) (λ vs. further_list (mark b ∷ mark a ∷ vs)) ts (a ∷ b ∷ []) r (build_constants x (a ∷ b ∷ r))
    (builds_up {g = open_for commas} (λ vs. mark b ∷ mark a ∷ vs) further_list (a ∷ b ∷ []) r (record { proceed = λ k vs. rw (y, z) refl }))

-- the closing token of a line in brackets, and the act after it
build_closing : (w : _) (d : List Built → List Built) (b : Token) (r : List Token) → is_in (Only w) b.kind ≡ true → Builds (λ k. one (Only w) ∷ act d ∷ k) done (λ vs. d (mark b ∷ vs)) (b ∷ []) r
build_closing w d b r h = builds_up {g = done} (marked b) d (b ∷ []) r (record { proceed = λ k vs. rw h refl })

build_check : {ts : List Token} {v : CheckTree} → IsCheck ts v → (r : List Token) → Builds (λ k. line check ∷ k) done (adding (a_check v)) ts r
build_check (check_equality a b x y) r = builds_up {g = done} (λ vs. mark b ∷ mark a ∷ vs) compare_check (a ∷ b ∷ []) r (record { proceed = λ k vs. rw (x, y) refl })
build_check (check_order a b x y) r = builds_up {g = done} (λ vs. mark b ∷ mark a ∷ vs) compare_check (a ∷ b ∷ []) r (record { proceed = λ k vs. rw (order_apart a.kind x, x, y) refl })
build_check (check_among a b c {ts} {cs} x y z w) r = builds_then (λ vs. mark b ∷ mark a ∷ vs) (λ vs. among_check (mark c ∷ a_list cs ∷ vs)) (a ∷ b ∷ []) (ts ++ c ∷ []) r
    (record { proceed = λ k vs. rw (only kind.Among a x, y) refl })
    (builds_then (adding (a_list cs)) (λ vs. among_check (mark c ∷ vs)) ts (c ∷ []) r
    (builds_before (λ k. one (Only kind.RoundClose) ∷ act among_check ∷ k) (builds_past commas (build_constants z (c ∷ r)) (apart kind.RoundClose (Only kind.Comma) c w refl)))
    (build_closing kind.RoundClose among_check c r w))
build_check (check_textual a b x y) r = builds_up {g = done} (λ vs. mark b ∷ mark a ∷ vs) textual_check (a ∷ b ∷ []) r (record { proceed = λ k vs. rw (textual_apart a.kind x, textual_apart_order a.kind x, x, y) refl })

-- a test begins as its path does
as_path : (ts : List Token) → LacksTestWord ts → Builds (λ k. line test ∷ k) (λ k. jobs_path (line turn ∷ k)) same [] ts
as_path ts h = record { proceed = begins ts h.round h.exists h.not }
  where
    begins : (us : List Token) → LacksTokenClass (Only kind.RoundOpen) us → LacksTokenClass (Only kind.Exists) us → LacksTokenClass (Only kind.Not) us → (k : List Job) (vs : List Built) → go (at (line test ∷ k) vs) us ≡ go (at (jobs_path (line turn ∷ k)) vs) us
    begins [] a b c k vs = refl
    begins (t ∷ us) a b c k vs = rw (a, b, c) refl

as_check : (ts : List Token) → LacksTokenClass (Only kind.Not) ts → Builds (λ k. line turn ∷ k) (λ k. line check ∷ act compare_test ∷ k) same [] ts
as_check [] h = record { proceed = λ k vs. refl }
as_check (t ∷ ts) h = record { proceed = λ k vs. rw h refl }

mutual
  build_test : {ts : List Token} {v : Comparison} → IsTest ts v → (r : List Token) → LacksTokenClass Stepping r → Builds (λ k. line test ∷ k) done (adding (a_comparison v)) ts r
  build_test (test_group a b {ts} {c} x y z) r h = builds_then (marked a) (λ vs. group_test (mark b ∷ a_comparison c ∷ vs)) (a ∷ []) (ts ++ b ∷ []) r
      (record { proceed = λ k vs. rw x refl })
      (builds_then (adding (a_comparison c)) (λ vs. group_test (mark b ∷ vs)) ts (b ∷ []) r
      (builds_before (λ k. one (Only kind.RoundClose) ∷ act group_test ∷ k) (builds_past cors (build_cor y (b ∷ r) (apart kind.RoundClose Stepping b z refl) (apart kind.RoundClose (Only kind.And) b z refl)) (apart kind.RoundClose (Only kind.Or) b z refl)))
      (build_closing kind.RoundClose group_test b r z))
  build_test (test_exists a {ts} {p} x y) r h = builds_then (marked a) (λ vs. exists_test (a_path p ∷ vs)) (a ∷ []) ts r
      (record { proceed = λ k vs. rw (only kind.Exists a x) refl })
      (builds_up {g = done} (adding (a_path p)) exists_test ts r (builds_before (λ k. act exists_test ∷ k) (builds_past steps (build_path y r) h)))
  build_test (test_not_exists a b {ts} {p} x y z) r h = builds_then (λ vs. mark b ∷ mark a ∷ vs) (λ vs. not_exists_test (a_path p ∷ vs)) (a ∷ b ∷ []) ts r
      (record { proceed = λ k vs. rw (only kind.Not a x, y) refl })
      (builds_up {g = done} (adding (a_path p)) not_exists_test ts r (builds_before (λ k. act not_exists_test ∷ k) (builds_past steps (build_path z r) h)))
  build_test (test_compare {a} {b} {p} {c} x y) r h = builds_then (adding (a_path p)) (λ vs. compare_test (a_check c ∷ vs)) a b r
      (builds_then same (adding (a_path p)) [] a (b ++ r) (as_path (a ++ (b ++ r)) (path_begins x (b ++ r))) (builds_before (λ k. line turn ∷ k) (builds_past steps (build_path x (b ++ r)) (check_begins y r).1)))
      (builds_then same (λ vs. compare_test (a_check c ∷ vs)) [] b r (as_check (b ++ r) (check_begins y r).0) (builds_up {g = done} (adding (a_check c)) compare_test b r (builds_before (λ k. act compare_test ∷ k) (build_check y r))))
  build_test (test_not_compare {a} {b} o {p} {c} x n y) r h = builds_then (adding (a_path p)) (λ vs. not_compare_test (a_check c ∷ mark o ∷ vs)) a (o ∷ b) r
      (builds_then same (adding (a_path p)) [] a (o ∷ b ++ r) (as_path (a ++ (o ∷ b ++ r)) (path_begins x (o ∷ b ++ r))) (builds_before (λ k. line turn ∷ k) (builds_past steps (build_path x (o ∷ b ++ r)) (apart kind.Not Stepping o n refl))))
      (builds_then (marked o) (λ vs. not_compare_test (a_check c ∷ vs)) (o ∷ []) b r (record { proceed = λ k vs. rw n refl }) (builds_up {g = done} (adding (a_check c)) not_compare_test b r (builds_before (λ k. act not_compare_test ∷ k) (build_check y r))))

  build_cand : {ts : List Token} {v : Comparison} → IsCand ts v → (r : List Token) → LacksTokenClass Stepping r → Builds (λ k. line test ∷ tail cands ∷ k) (open_for cands) (adding (a_comparison v)) ts r
  build_cand (cand_one x) r h = builds_before (open_for cands) (build_test x r h)
  build_cand (cand_more {a} {b} o {c} {d} x n y) r h = builds_then (adding (a_comparison c)) (λ vs. join_comparison all (a_comparison d ∷ mark o ∷ vs)) a (o ∷ b) r (build_cand x (o ∷ b ++ r) (apart kind.And Stepping o n refl))
      (builds_then (marked o) (λ vs. join_comparison all (a_comparison d ∷ vs)) (o ∷ []) b r (record { proceed = λ k vs. rw n refl }) (builds_up {g = open_for cands} (adding (a_comparison d)) (join_comparison all) b r (builds_before (λ k. act (join_comparison all) ∷ tail cands ∷ k) (build_test y r h))))

  build_cor : {ts : List Token} {v : Comparison} → IsCor ts v → (r : List Token) → LacksTokenClass Stepping r → LacksTokenClass (Only kind.And) r → Builds jobs_cor (open_for cors) (adding (a_comparison v)) ts r
  build_cor (cor_one x) r h g = builds_before (open_for cors) (builds_past cands (build_cand x r h) g)
  build_cor (cor_more {a} {b} o {c} {d} x n y) r h g = builds_then (adding (a_comparison c)) (λ vs. join_comparison any (a_comparison d ∷ mark o ∷ vs)) a (o ∷ b) r (build_cor x (o ∷ b ++ r) (apart kind.Or Stepping o n refl) (apart kind.Or (Only kind.And) o n refl))
      (builds_then (marked o) (λ vs. join_comparison any (a_comparison d ∷ vs)) (o ∷ []) b r (record { proceed = λ k vs. rw n refl }) (builds_up {g = open_for cors} (adding (a_comparison d)) (join_comparison any) b r (builds_before (λ k. act (join_comparison any) ∷ tail cors ∷ k) (builds_past cands (build_cand y r h) g))))

build_qualifier : {ts : List Token} {v : Qualifier} → IsQualifier ts v → (r : List Token) → Builds (λ k. line qualifier ∷ k) done (adding (a_qualifier v)) ts r
build_qualifier (qualifier_within a b c x y z) r = builds_up {g = done} (λ vs. mark c ∷ mark b ∷ mark a ∷ vs) within (a ∷ b ∷ c ∷ []) r (record { proceed = λ k vs. rw (only kind.Within a x, y, z) refl })
build_qualifier (qualifier_repeats a b c x y z) r = builds_up {g = done} (λ vs. mark c ∷ mark b ∷ mark a ∷ vs) repeats (a ∷ b ∷ c ∷ []) r (record { proceed = λ k vs. rw (only kind.Repeats a x, y, z) refl })
build_qualifier (qualifier_between a b c d x y z w) r = builds_up {g = done} (λ vs. mark d ∷ mark c ∷ mark b ∷ mark a ∷ vs) between (a ∷ b ∷ c ∷ d ∷ []) r (record { proceed = λ k vs. rw (only kind.Start a x, y, z, w) refl })

into_qualifier : {b : List Token} {v : Qualifier} → IsQualifier b v → (r : List Token) → Builds (open_for qualifiers) (λ k. line qualifier ∷ act qualify_tree ∷ tail qualifiers ∷ k) same [] (b ++ r)
into_qualifier (qualifier_within a b c x y z) r = record { proceed = λ k vs. rw (only kind.Within a x) refl }
into_qualifier (qualifier_repeats a b c x y z) r = record { proceed = λ k vs. rw (only kind.Repeats a x) refl }
into_qualifier (qualifier_between a b c d x y z w) r = record { proceed = λ k vs. rw (only kind.Start a x) refl }

mutual
  build_start : {ts : List Token} {v : Tree} → IsStart ts v → (r : List Token) → Builds (λ k. line start ∷ k) done (adding (a_tree v)) ts r
  build_start (start_leaf a b {ts} {c} x y z) r = builds_then (marked a) (λ vs. leaf_tree (mark b ∷ a_comparison c ∷ vs)) (a ∷ []) (ts ++ b ∷ []) r
      (record { proceed = λ k vs. rw (only kind.SquareOpen a x) refl })
      (builds_then (adding (a_comparison c)) (λ vs. leaf_tree (mark b ∷ vs)) ts (b ∷ []) r
      (builds_before (λ k. one (Only kind.SquareClose) ∷ act leaf_tree ∷ k) (builds_past cors (build_cor y (b ∷ r) (apart kind.SquareClose Stepping b z refl) (apart kind.SquareClose (Only kind.And) b z refl)) (apart kind.SquareClose (Only kind.Or) b z refl)))
      (build_closing kind.SquareClose leaf_tree b r z))
  build_start (start_group a b {ts} {p} x y z) r = builds_then (marked a) (λ vs. group_tree (mark b ∷ a_tree p ∷ vs)) (a ∷ []) (ts ++ b ∷ []) r
      (record { proceed = λ k vs. rw x refl })
      (builds_then (adding (a_tree p)) (λ vs. group_tree (mark b ∷ vs)) ts (b ∷ []) r
      (builds_before (λ k. one (Only kind.RoundClose) ∷ act group_tree ∷ k) (builds_past thens (build_pattern y (b ∷ r) (apart kind.RoundClose Qualifying b z refl) (apart kind.RoundClose (Only kind.And) b z refl) (apart kind.RoundClose (Only kind.Or) b z refl)) (apart kind.RoundClose (Only kind.FollowedBy) b z refl)))
      (build_closing kind.RoundClose group_tree b r z))

  build_unit : {ts : List Token} {v : Tree} → IsUnit ts v → (r : List Token) → Builds (λ k. line start ∷ tail qualifiers ∷ k) (open_for qualifiers) (adding (a_tree v)) ts r
  build_unit (unit_one x) r = builds_before (open_for qualifiers) (build_start x r)
  build_unit (unit_more {a} {b} {p} {q} x y) r = builds_then (adding (a_tree p)) (λ vs. qualify_tree (a_qualifier q ∷ vs)) a b r (build_unit x (b ++ r))
      (builds_then same (λ vs. qualify_tree (a_qualifier q ∷ vs)) [] b r (into_qualifier y r)
      (builds_up {g = open_for qualifiers} (adding (a_qualifier q)) qualify_tree b r (builds_before (λ k. act qualify_tree ∷ tail qualifiers ∷ k) (build_qualifier y r))))

  build_ands : {ts : List Token} {v : Tree} → IsAnds ts v → (r : List Token) → LacksTokenClass Qualifying r → Builds (λ k. line start ∷ tail qualifiers ∷ tail ands ∷ k) (open_for ands) (adding (a_tree v)) ts r
  build_ands (ands_one x) r h = builds_before (open_for ands) (builds_past qualifiers (build_unit x r) h)
  build_ands (ands_more {a} {b} o {p} {q} x n y) r h = builds_then (adding (a_tree p)) (λ vs. join_tree both (a_tree q ∷ mark o ∷ vs)) a (o ∷ b) r (build_ands x (o ∷ b ++ r) (apart kind.And Qualifying o n refl))
      (builds_then (marked o) (λ vs. join_tree both (a_tree q ∷ vs)) (o ∷ []) b r (record { proceed = λ k vs. rw n refl }) (builds_up {g = open_for ands} (adding (a_tree q)) (join_tree both) b r (builds_before (λ k. act (join_tree both) ∷ tail ands ∷ k) (builds_past qualifiers (build_unit y r) h))))

  build_ors : {ts : List Token} {v : Tree} → IsOrs ts v → (r : List Token) → LacksTokenClass Qualifying r → LacksTokenClass (Only kind.And) r → Builds (λ k. line start ∷ tail qualifiers ∷ tail ands ∷ tail ors ∷ k) (open_for ors) (adding (a_tree v)) ts r
  build_ors (ors_one x) r h g = builds_before (open_for ors) (builds_past ands (build_ands x r h) g)
  build_ors (ors_more {a} {b} o {p} {q} x n y) r h g = builds_then (adding (a_tree p)) (λ vs. join_tree either (a_tree q ∷ mark o ∷ vs)) a (o ∷ b) r (build_ors x (o ∷ b ++ r) (apart kind.Or Qualifying o n refl) (apart kind.Or (Only kind.And) o n refl))
      (builds_then (marked o) (λ vs. join_tree either (a_tree q ∷ vs)) (o ∷ []) b r (record { proceed = λ k vs. rw n refl }) (builds_up {g = open_for ors} (adding (a_tree q)) (join_tree either) b r (builds_before (λ k. act (join_tree either) ∷ tail ors ∷ k) (builds_past ands (build_ands y r h) g))))

  build_pattern : {ts : List Token} {v : Tree} → IsPattern ts v → (r : List Token) → LacksTokenClass Qualifying r → LacksTokenClass (Only kind.And) r → LacksTokenClass (Only kind.Or) r → Builds jobs_pattern (open_for thens) (adding (a_tree v)) ts r
  build_pattern (pattern_one x) r h g f = builds_before (open_for thens) (builds_past ors (build_ors x r h g) f)
  build_pattern (pattern_more {a} {b} o {p} {q} x n y) r h g f = builds_then (adding (a_tree p)) (λ vs. join_tree followed (a_tree q ∷ mark o ∷ vs)) a (o ∷ b) r (build_pattern x (o ∷ b ++ r) (apart kind.FollowedBy Qualifying o n refl) (apart kind.FollowedBy (Only kind.And) o n refl) (apart kind.FollowedBy (Only kind.Or) o n refl))
      (builds_then (marked o) (λ vs. join_tree followed (a_tree q ∷ vs)) (o ∷ []) b r (record { proceed = λ k vs. rw n refl }) (builds_up {g = open_for thens} (adding (a_tree q)) (join_tree followed) b r (builds_before (λ k. act (join_tree followed) ∷ tail thens ∷ k) (builds_past ors (build_ors y r h g) f))))

-- what the whole list builds
built : {ts : List Token} {p : Tree} → IsPattern ts p → go (moves (at (jobs_pattern []) []) ts) [] ≡ at [] (a_tree p ∷ [])
built x = (build_pattern x [] tt tt tt).proceed [] []

pub one_tree : {ts : List Token} {p q : Tree} → IsPattern ts p → IsPattern ts q → p ≡ q
one_tree {p = p} {q = q} x y = let e : at [] (a_tree p ∷ []) ≡ at [] (a_tree q ∷ []) = sym (built x) ∙ built y in cc
