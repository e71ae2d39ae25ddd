-- What is spelled is derived from the lines as they are written, and what is derived is spelled.
use Rattle.std.proofs.Common.{◌≡◌, true, false, List, [], ◌∷◌, ◌++◌, refl, append_assoc, append-nil}
use Rattle.pattern_lexer.specs.declared.token.Token.{Token}
use Rattle.pattern_lexer.specs.declared.token.TokenKind.TheVariants as kind
use Rattle.pattern_grammar.specs.declared.class.TokenClass.TheVariants.{Only, Name, Index, Constant}
use Rattle.pattern_grammar.specs.declared.path.StepTree.{StepTree}
use Rattle.pattern_grammar.specs.declared.path.PathTree.{PathTree}
use Rattle.pattern_grammar.specs.declared.comparison.CheckTree.{CheckTree}
use Rattle.pattern_grammar.specs.declared.comparison.CheckTree.TheVariants as check_tree
use Rattle.pattern_grammar.specs.declared.qualifier.Qualifier.{Qualifier}
use Rattle.pattern_grammar.specs.Tree.{Comparison, test as test_tree, group, Tree}
use Rattle.pattern_grammar.specs.TokenClass.{IsA}
use Rattle.pattern_grammar.specs.Grammar.{IsStep, step_name, step_index, IsPath, path_first, path_further, AreConstants, constants_one, constants_more, IsCheck, check_equality, check_order, check_among, check_textual, IsTest, test_group, test_exists, test_not_exists, test_compare, test_not_compare, IsCand, cand_one, cand_more, IsCor, cor_one, cor_more, IsQualifier, qualifier_within, qualifier_repeats, qualifier_between, IsStart, start_leaf, start_group, IsUnit, unit_one, unit_more, IsAnds, ands_one, ands_more, IsOrs, ors_one, ors_more, IsPattern, pattern_one, pattern_more}
use Rattle.pattern_grammar.specs.Prefixes.{Nonterminal, pattern, ors, ands, unit, qualifier, cor, cand, test, compare, path, ProductionPart, one, line, token, ◌then◌, ◌or◌, many, rule, Derives, is_one, is_line, is_both, is_left, is_right, no_more, one_more, absent, present, PrefixOf}
use Rattle.pattern_grammar.specs.inner.Machine.{Prefix}
use Rattle.pattern_grammar.proofs.PrefixOfLemmas.{complete, prefix}

-- one more at the end
many_more : {a : ProductionPart} {ts us : List Token} → Derives (many a) ts → Derives a us → Derives (many a) (ts ++ us)
many_more {us = us} no_more y = rw (← append-nil us) (one_more y no_more)
many_more {us = ws} (one_more {ts = ts} {us = us} x z) y = rw (append_assoc ts us ws) (one_more x (many_more z y))

-- a line with one part more after those that are repeated
further_part : {a b : ProductionPart} {ts us : List Token} → Derives (a then many b) ts → Derives b us → Derives (a then many b) (ts ++ us)
further_part {us = ws} (is_both {ts = ts} {us = us} x z) y = rw (append_assoc ts us ws) (is_both x (many_more z y))

further_line : {l : Nonterminal} {a b : ProductionPart} (e : rule l ≡ (a then many b)) {ts us : List Token} → Derives (line l) ts → Derives b us → Derives (line l) (ts ++ us)
further_line e (is_line x) y = is_line (rw e (further_part (rw e at x) y))

derive_step : {ts : List Token} {v : StepTree} → IsStep ts v → Derives ((token kind.Dot then one Name) or (token kind.SquareOpen then one Index then token kind.SquareClose)) ts
derive_step (step_name a b x y) = is_left (is_both (is_one a x) (is_one b y))
derive_step (step_index a b c x y z) = is_right (is_both (is_one a x) (is_both (is_one b y) (is_one c z)))

-- a path with one step more
path_step : {ts us : List Token} → Derives (line path) ts → Derives ((token kind.Dot then one Name) or (token kind.SquareOpen then one Index then token kind.SquareClose)) us → Derives (line path) (ts ++ us)
path_step (is_line (is_both (is_one a x) (is_both (is_one b y) (is_both (is_one c z) w)))) u = is_line (is_both (is_one a x) (is_both (is_one b y) (is_both (is_one c z) (many_more w u))))

derive_path : {ts : List Token} {v : PathTree} → IsPath ts v → Derives (line path) ts
derive_path (path_first a b c x y z) = is_line (is_both (is_one a x) (is_both (is_one b y) (is_both (is_one c z) no_more)))
derive_path (path_further x y) = path_step (derive_path x) (derive_step y)

derive_constants : {ts cs : List Token} → AreConstants ts cs → Derives (one Constant then many (token kind.Comma then one Constant)) ts
derive_constants (constants_one a x) = is_both (is_one a x) no_more
derive_constants (constants_more a b x y z) = further_part (derive_constants x) (is_both (is_one a y) (is_one b z))

-- constants in parentheses
derive_among : {a b : Token} (c : Token) {ts : List Token} → IsA (Only kind.Among) a → IsA (Only kind.RoundOpen) b → Derives (one Constant then many (token kind.Comma then one Constant)) ts → IsA (Only kind.RoundClose) c → Derives (line compare) (a ∷ b ∷ ts ++ c ∷ [])
derive_among {a} {b} c x y (is_both (is_one d z) m) w = is_line (is_right (is_right (is_left (is_both (is_one a x) (is_both (is_one b y) (is_both (is_one d z) (is_both m (is_one c w))))))))

derive_check : {ts : List Token} {v : CheckTree} → IsCheck ts v → Derives (line compare) ts
derive_check (check_equality a b x y) = is_line (is_left (is_both (is_one a x) (is_one b y)))
derive_check (check_order a b x y) = is_line (is_right (is_left (is_both (is_one a x) (is_one b y))))
derive_check (check_among a b c x y z w) = derive_among c x y (derive_constants z) w
derive_check (check_textual a b x y) = is_line (is_right (is_right (is_right (is_both (is_one a x) (is_one b y)))))

-- a chain of one part
alone : {a b : ProductionPart} {ts : List Token} → Derives a ts → Derives (a then many b) ts
alone {ts = ts} x = rw (← append-nil ts) (is_both x no_more)

mutual
  derive_test : {ts : List Token} {v : Comparison} → IsTest ts v → Derives (line test) ts
  derive_test (test_group a b x y z) = is_line (is_left (is_both (is_one a x) (is_both (derive_cor y) (is_one b z))))
  derive_test (test_exists a x y) = is_line (is_right (is_left (is_both absent (is_both (is_one a x) (derive_path y)))))
  derive_test (test_not_exists a b x y z) = is_line (is_right (is_left (is_both (present (is_one a x)) (is_both (is_one b y) (derive_path z)))))
  derive_test (test_compare x y) = is_line (is_right (is_right (is_both (derive_path x) (is_both absent (derive_check y)))))
  derive_test (test_not_compare o x n y) = is_line (is_right (is_right (is_both (derive_path x) (is_both (present (is_one o n)) (derive_check y)))))

  derive_cand : {ts : List Token} {v : Comparison} → IsCand ts v → Derives (line cand) ts
  derive_cand (cand_one x) = is_line (alone (derive_test x))
  derive_cand (cand_more o x n y) = further_line refl (derive_cand x) (is_both (is_one o n) (derive_test y))

  derive_cor : {ts : List Token} {v : Comparison} → IsCor ts v → Derives (line cor) ts
  derive_cor (cor_one x) = is_line (alone (derive_cand x))
  derive_cor (cor_more o x n y) = further_line refl (derive_cor x) (is_both (is_one o n) (derive_cand y))

derive_qualifier : {ts : List Token} {v : Qualifier} → IsQualifier ts v → Derives (line qualifier) ts
derive_qualifier (qualifier_within a b c x y z) = is_line (is_left (is_both (is_one a x) (is_both (is_one b y) (is_one c z))))
derive_qualifier (qualifier_repeats a b c x y z) = is_line (is_right (is_left (is_both (is_one a x) (is_both (is_one b y) (is_one c z)))))
derive_qualifier (qualifier_between a b c d x y z w) = is_line (is_right (is_right (is_both (is_one a x) (is_both (is_one b y) (is_both (is_one c z) (is_one d w))))))

mutual
  derive_start : {ts : List Token} {v : Tree} → IsStart ts v → Derives ((token kind.SquareOpen then line cor then token kind.SquareClose) or (token kind.RoundOpen then line pattern then token kind.RoundClose)) ts
  derive_start (start_leaf a b x y z) = is_left (is_both (is_one a x) (is_both (derive_cor y) (is_one b z)))
  derive_start (start_group a b x y z) = is_right (is_both (is_one a x) (is_both (derive_pattern y) (is_one b z)))

  derive_unit : {ts : List Token} {v : Tree} → IsUnit ts v → Derives (line unit) ts
  derive_unit (unit_one x) = is_line (alone (derive_start x))
  derive_unit (unit_more x y) = further_line refl (derive_unit x) (derive_qualifier y)

  derive_ands : {ts : List Token} {v : Tree} → IsAnds ts v → Derives (line ands) ts
  derive_ands (ands_one x) = is_line (alone (derive_unit x))
  derive_ands (ands_more o x n y) = further_line refl (derive_ands x) (is_both (is_one o n) (derive_unit y))

  derive_ors : {ts : List Token} {v : Tree} → IsOrs ts v → Derives (line ors) ts
  derive_ors (ors_one x) = is_line (alone (derive_ands x))
  derive_ors (ors_more o x n y) = further_line refl (derive_ors x) (is_both (is_one o n) (derive_ands y))

  pub derive_pattern : {ts : List Token} {v : Tree} → IsPattern ts v → Derives (line pattern) ts
  derive_pattern (pattern_one x) = is_line (alone (derive_ors x))
  derive_pattern (pattern_more o x n y) = further_line refl (derive_pattern x) (is_both (is_one o n) (derive_ors y))

-- the other way: what is derived spells something
pub record Spelled {V : Type 0} (Spells : List Token → V → Type 0) (ts : List Token) : Type 0 where
  pub value : V
  pub spells : Spells ts value

-- after other tokens
onto : {V : Type 0} {Spells : List Token → V → Type 0} (a b c : List Token) → Spelled Spells ((a ++ b) ++ c) → Spelled Spells (a ++ (b ++ c))
onto a b c x = record { value = x.value; spells = rw (← append_assoc a b c) x.spells }

nothing_onto : {V : Type 0} {Spells : List Token → V → Type 0} (a : List Token) (v : V) → Spells a v → Spelled Spells (a ++ [])
nothing_onto a v x = record { value = v; spells = rw append-nil x }

spell_step : {ts : List Token} → Derives ((token kind.Dot then one Name) or (token kind.SquareOpen then one Index then token kind.SquareClose)) ts → Spelled IsStep ts
spell_step (is_left (is_both (is_one a x) (is_one b y))) = record { value = _; spells = step_name a b x y }
spell_step (is_right (is_both (is_one a x) (is_both (is_one b y) (is_one c z)))) = record { value = _; spells = step_index a b c x y z }

spell_steps : {us : List Token} → Derives (many ((token kind.Dot then one Name) or (token kind.SquareOpen then one Index then token kind.SquareClose))) us → (a : List Token) (v : PathTree) → IsPath a v → Spelled IsPath (a ++ us)
spell_steps no_more a v x = nothing_onto a v x
spell_steps (one_more {ts = b} {us = c} y z) a v x = onto a b c (spell_steps z _ _ (path_further x (spell_step y).spells))

spell_path : {ts : List Token} → Derives (line path) ts → Spelled IsPath ts
spell_path (is_line (is_both (is_one a x) (is_both (is_one b y) (is_both (is_one c z) w)))) = spell_steps w _ _ (path_first a b c x y z)

spell_constants : {us : List Token} → Derives (many (token kind.Comma then one Constant)) us → (a : List Token) (v : List Token) → AreConstants a v → Spelled AreConstants (a ++ us)
spell_constants no_more a v x = nothing_onto a v x
spell_constants (one_more {us = c} (is_both (is_one o y) (is_one b z)) w) a v x = onto a (o ∷ b ∷ []) c (spell_constants w _ _ (constants_more o b x y z))

spell_check : {ts : List Token} → Derives (line compare) ts → Spelled IsCheck ts
spell_check (is_line (is_left (is_both (is_one a x) (is_one b y)))) = record { value = _; spells = check_equality a b x y }
spell_check (is_line (is_right (is_left (is_both (is_one a x) (is_one b y))))) = record { value = _; spells = check_order a b x y }
spell_check (is_line (is_right (is_right (is_left (is_both (is_one a x) (is_both (is_one b y) (is_both (is_one d z) (is_both m (is_one c w))))))))) =
    let h = spell_constants m _ _ (constants_one d z) in record { value = check_tree.Among h.value; spells = check_among a b c x y h.spells w }
spell_check (is_line (is_right (is_right (is_right (is_both (is_one a x) (is_one b y)))))) = record { value = _; spells = check_textual a b x y }

mutual
  spell_test : {ts : List Token} → Derives (line test) ts → Spelled IsTest ts
  spell_test (is_line (is_left (is_both (is_one a x) (is_both y (is_one b z))))) = let h = spell_cor y in record { value = group a h.value; spells = test_group a b x h.spells z }
  spell_test (is_line (is_right (is_left (is_both absent (is_both (is_one a x) y))))) = let h = spell_path y in record { value = test_tree (record { first = a; path = h.value; negated = false; check = check_tree.Exists }); spells = test_exists a x h.spells }
  spell_test (is_line (is_right (is_left (is_both (present (is_one a x)) (is_both (is_one b y) z))))) = let h = spell_path z in record { value = test_tree (record { first = a; path = h.value; negated = true; check = check_tree.Exists }); spells = test_not_exists a b x y h.spells }
  spell_test (is_line (is_right (is_right (is_both x (is_both absent y))))) = let h = spell_path x in let g = spell_check y in record { value = test_tree (record { first = h.value.root; path = h.value; negated = false; check = g.value }); spells = test_compare h.spells g.spells }
  spell_test (is_line (is_right (is_right (is_both x (is_both (present (is_one o n)) y))))) = let h = spell_path x in let g = spell_check y in record { value = test_tree (record { first = h.value.root; path = h.value; negated = true; check = g.value }); spells = test_not_compare o h.spells n g.spells }

  spell_cand : {ts : List Token} → Derives (line cand) ts → Spelled IsCand ts
  spell_cand (is_line (is_both x y)) = spell_cands y _ _ (cand_one (spell_test x).spells)

  spell_cands : {us : List Token} → Derives (many (token kind.And then line test)) us → (a : List Token) (v : Comparison) → IsCand a v → Spelled IsCand (a ++ us)
  spell_cands no_more a v x = nothing_onto a v x
  spell_cands (one_more {us = c} (is_both {us = b} (is_one o n) y) z) a v x = onto a (o ∷ b) c (spell_cands z _ _ (cand_more o x n (spell_test y).spells))

  spell_cor : {ts : List Token} → Derives (line cor) ts → Spelled IsCor ts
  spell_cor (is_line (is_both x y)) = spell_cors y _ _ (cor_one (spell_cand x).spells)

  spell_cors : {us : List Token} → Derives (many (token kind.Or then line cand)) us → (a : List Token) (v : Comparison) → IsCor a v → Spelled IsCor (a ++ us)
  spell_cors no_more a v x = nothing_onto a v x
  spell_cors (one_more {us = c} (is_both {us = b} (is_one o n) y) z) a v x = onto a (o ∷ b) c (spell_cors z _ _ (cor_more o x n (spell_cand y).spells))

spell_qualifier : {ts : List Token} → Derives (line qualifier) ts → Spelled IsQualifier ts
spell_qualifier (is_line (is_left (is_both (is_one a x) (is_both (is_one b y) (is_one c z))))) = record { value = _; spells = qualifier_within a b c x y z }
spell_qualifier (is_line (is_right (is_left (is_both (is_one a x) (is_both (is_one b y) (is_one c z)))))) = record { value = _; spells = qualifier_repeats a b c x y z }
spell_qualifier (is_line (is_right (is_right (is_both (is_one a x) (is_both (is_one b y) (is_both (is_one c z) (is_one d w))))))) = record { value = _; spells = qualifier_between a b c d x y z w }

spell_qualifiers : {us : List Token} → Derives (many (line qualifier)) us → (a : List Token) (v : Tree) → IsUnit a v → Spelled IsUnit (a ++ us)
spell_qualifiers no_more a v x = nothing_onto a v x
spell_qualifiers (one_more {ts = b} {us = c} y z) a v x = onto a b c (spell_qualifiers z _ _ (unit_more x (spell_qualifier y).spells))

mutual
  spell_unit : {ts : List Token} → Derives (line unit) ts → Spelled IsUnit ts
  spell_unit (is_line (is_both (is_left (is_both (is_one a x) (is_both y (is_one b z)))) w)) = spell_qualifiers w _ _ (unit_one (start_leaf a b x (spell_cor y).spells z))
  spell_unit (is_line (is_both (is_right (is_both (is_one a x) (is_both y (is_one b z)))) w)) = spell_qualifiers w _ _ (unit_one (start_group a b x (spell_pattern y).spells z))

  spell_ands : {ts : List Token} → Derives (line ands) ts → Spelled IsAnds ts
  spell_ands (is_line (is_both x y)) = spell_more_ands y _ _ (ands_one (spell_unit x).spells)

  spell_more_ands : {us : List Token} → Derives (many (token kind.And then line unit)) us → (a : List Token) (v : Tree) → IsAnds a v → Spelled IsAnds (a ++ us)
  spell_more_ands no_more a v x = nothing_onto a v x
  spell_more_ands (one_more {us = c} (is_both {us = b} (is_one o n) y) z) a v x = onto a (o ∷ b) c (spell_more_ands z _ _ (ands_more o x n (spell_unit y).spells))

  spell_ors : {ts : List Token} → Derives (line ors) ts → Spelled IsOrs ts
  spell_ors (is_line (is_both x y)) = spell_more_ors y _ _ (ors_one (spell_ands x).spells)

  spell_more_ors : {us : List Token} → Derives (many (token kind.Or then line ands)) us → (a : List Token) (v : Tree) → IsOrs a v → Spelled IsOrs (a ++ us)
  spell_more_ors no_more a v x = nothing_onto a v x
  spell_more_ors (one_more {us = c} (is_both {us = b} (is_one o n) y) z) a v x = onto a (o ∷ b) c (spell_more_ors z _ _ (ors_more o x n (spell_ands y).spells))

  pub spell_pattern : {ts : List Token} → Derives (line pattern) ts → Spelled IsPattern ts
  spell_pattern (is_line (is_both x y)) = spell_patterns y _ _ (pattern_one (spell_ors x).spells)

  spell_patterns : {us : List Token} → Derives (many (token kind.FollowedBy then line ors)) us → (a : List Token) (v : Tree) → IsPattern a v → Spelled IsPattern (a ++ us)
  spell_patterns no_more a v x = nothing_onto a v x
  spell_patterns (one_more {us = c} (is_both {us = b} (is_one o n) y) z) a v x = onto a (o ∷ b) c (spell_patterns z _ _ (pattern_more o x n (spell_ors y).spells))

-- tokens are a prefix exactly where some longer list, or they themselves, spell a pattern
pub prefix_completes : {ts : List Token} → PrefixOf (line pattern) ts → Prefix IsPattern ts
prefix_completes x = let h = complete x in let g = spell_pattern h.derived in record { more = h.more; value = g.value; spells = g.spells }

pub completes_prefix : {ts : List Token} → Prefix IsPattern ts → PrefixOf (line pattern) ts
completes_prefix {ts} f = prefix (derive_pattern f.spells) ts f.more refl
