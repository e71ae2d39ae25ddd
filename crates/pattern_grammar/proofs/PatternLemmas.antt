-- The steps of reading a pattern.
use Rattle.std.proofs.Common.{◌≡◌, List, [], ◌∷◌, Some, None, refl, ap, ◌∙◌, ◌<◌, length, length-append, arith}
use Rattle.pattern_lexer.specs.declared.token.Token.{Token}
use Rattle.pattern_lexer.specs.declared.token.TokenKind.TheVariants as kind
use Rattle.pattern_grammar.specs.declared.class.TokenClass.TheVariants.{Only}
use Rattle.pattern_grammar.specs.declared.qualifier.Qualifier.{Qualifier}
use Rattle.pattern_grammar.specs.declared.qualifier.Qualifier.TheVariants as qualifier_tree
use Rattle.pattern_grammar.specs.Tree.{Tree, leaf, both, either, followed, qualified}
use Rattle.pattern_grammar.specs.Grammar.{IsCor, IsQualifier, qualifier_within, qualifier_repeats, qualifier_between, IsStart, start_leaf, start_group, IsUnit, unit_one, unit_more, IsAnds, ands_one, ands_more, IsOrs, ors_one, ors_more, IsPattern, pattern_one, pattern_more}
use Rattle.pattern_grammar.specs.inner.Machine.{Expected, one, line, start, qualifier, qualifiers, ands, ors, thens, expects_qualifier, expects_start, expects_unit, expects_ands, expects_ors, expects_cor, expects_pattern, go}
use Rattle.pattern_grammar.specs.inner.Machine.{BeginsLine, LacksTokenClass, Found, Stuck, done, open_for}
use Rattle.pattern_grammar.proofs.SameKindLemmas.{only}
use Rattle.pattern_grammar.proofs.LeadsLemmas.{halts_one, leads_before, halts_before}
use Rattle.pattern_grammar.proofs.CompletionLemmas.{some, prefix_start}
use Rattle.pattern_grammar.proofs.ChainLemmas.{Chain, Repeat}
use Rattle.pattern_grammar.proofs.TestLemmas.{Bracket}

-- qualifier
pub qualifier_none : {ts : List Token} → LacksTokenClass (Only kind.Within) ts → LacksTokenClass (Only kind.Repeats) ts → LacksTokenClass (Only kind.Start) ts → Stuck IsQualifier expects_qualifier ts ts
qualifier_none {ts} a b c = record {
  read = [];
  all_are = refl;
  prefix = record { more = some kind.Within ∷ some kind.Number ∷ some kind.Seconds ∷ []; value = _; spells = qualifier_within (some kind.Within) (some kind.Number) (some kind.Seconds) refl refl refl };
  halts = record { stop = none ts a b c };
}
  where
    none : (us : List Token) → LacksTokenClass (Only kind.Within) us → LacksTokenClass (Only kind.Repeats) us → LacksTokenClass (Only kind.Start) us → (k : List Expected) → go (Some (line qualifier ∷ k)) us ≡ None
    none [] a b c k = refl
    none (t ∷ us) a b c k = rw (a, b, c) refl

pub within_stuck : {ts r1 : List Token} (a : Token) → BeginsLine (Only kind.Within) a ts r1 → LacksTokenClass (Only kind.Number) r1 → Stuck IsQualifier expects_qualifier ts r1
within_stuck {r1 = r1} a x h = record {
  read = a ∷ [];
  all_are = x.all_are;
  prefix = record { more = some kind.Number ∷ some kind.Seconds ∷ []; value = _; spells = qualifier_within a (some kind.Number) (some kind.Seconds) x.of_class refl refl };
  halts = record { stop = λ k. rw (only kind.Within a x.of_class) ((halts_one (Only kind.Number) r1 h).stop (one (Only kind.Seconds) ∷ k)) };
}

pub within_unended : {ts r1 r2 : List Token} (a b : Token) → BeginsLine (Only kind.Within) a ts r1 → BeginsLine (Only kind.Number) b r1 r2 → LacksTokenClass (Only kind.Seconds) r2 → Stuck IsQualifier expects_qualifier ts r2
within_unended {r2 = r2} a b x y h = record {
  read = a ∷ b ∷ [];
  all_are = x.all_are ∙ ap (λ r. a ∷ r) y.all_are;
  prefix = record { more = some kind.Seconds ∷ []; value = _; spells = qualifier_within a b (some kind.Seconds) x.of_class y.of_class refl };
  halts = record { stop = λ k. rw (only kind.Within a x.of_class, y.of_class) ((halts_one (Only kind.Seconds) r2 h).stop k) };
}

pub within_found : {ts r1 r2 r3 : List Token} (a b c : Token) → BeginsLine (Only kind.Within) a ts r1 → BeginsLine (Only kind.Number) b r1 r2 → BeginsLine (Only kind.Seconds) c r2 r3 → Found IsQualifier expects_qualifier done ts (qualifier_tree.Within b) r3
within_found a b c x y z = record {
  read = a ∷ b ∷ c ∷ [];
  all_are = x.all_are ∙ ap (λ r. a ∷ r) (y.all_are ∙ ap (λ r. b ∷ r) z.all_are);
  spells = qualifier_within a b c x.of_class y.of_class z.of_class;
  leads = record { proceed = λ k. rw (only kind.Within a x.of_class, y.of_class, z.of_class) refl };
}

pub repeats_stuck : {ts r1 : List Token} (a : Token) → BeginsLine (Only kind.Repeats) a ts r1 → LacksTokenClass (Only kind.Number) r1 → Stuck IsQualifier expects_qualifier ts r1
repeats_stuck {r1 = r1} a x h = record {
  read = a ∷ [];
  all_are = x.all_are;
  prefix = record { more = some kind.Number ∷ some kind.Times ∷ []; value = _; spells = qualifier_repeats a (some kind.Number) (some kind.Times) x.of_class refl refl };
  halts = record { stop = λ k. rw (only kind.Repeats a x.of_class) ((halts_one (Only kind.Number) r1 h).stop (one (Only kind.Times) ∷ k)) };
}

pub repeats_unended : {ts r1 r2 : List Token} (a b : Token) → BeginsLine (Only kind.Repeats) a ts r1 → BeginsLine (Only kind.Number) b r1 r2 → LacksTokenClass (Only kind.Times) r2 → Stuck IsQualifier expects_qualifier ts r2
repeats_unended {r2 = r2} a b x y h = record {
  read = a ∷ b ∷ [];
  all_are = x.all_are ∙ ap (λ r. a ∷ r) y.all_are;
  prefix = record { more = some kind.Times ∷ []; value = _; spells = qualifier_repeats a b (some kind.Times) x.of_class y.of_class refl };
  halts = record { stop = λ k. rw (only kind.Repeats a x.of_class, y.of_class) ((halts_one (Only kind.Times) r2 h).stop k) };
}

pub repeats_found : {ts r1 r2 r3 : List Token} (a b c : Token) → BeginsLine (Only kind.Repeats) a ts r1 → BeginsLine (Only kind.Number) b r1 r2 → BeginsLine (Only kind.Times) c r2 r3 → Found IsQualifier expects_qualifier done ts (qualifier_tree.Repeats b) r3
repeats_found a b c x y z = record {
  read = a ∷ b ∷ c ∷ [];
  all_are = x.all_are ∙ ap (λ r. a ∷ r) (y.all_are ∙ ap (λ r. b ∷ r) z.all_are);
  spells = qualifier_repeats a b c x.of_class y.of_class z.of_class;
  leads = record { proceed = λ k. rw (only kind.Repeats a x.of_class, y.of_class, z.of_class) refl };
}

pub between_stuck : {ts r1 : List Token} (a : Token) → BeginsLine (Only kind.Start) a ts r1 → LacksTokenClass (Only kind.Timestamp) r1 → Stuck IsQualifier expects_qualifier ts r1
between_stuck {r1 = r1} a x h = record {
  read = a ∷ [];
  all_are = x.all_are;
  prefix = record { more = some kind.Timestamp ∷ some kind.Stop ∷ some kind.Timestamp ∷ []; value = _; spells = qualifier_between a (some kind.Timestamp) (some kind.Stop) (some kind.Timestamp) x.of_class refl refl refl };
  halts = record { stop = λ k. rw (only kind.Start a x.of_class) ((halts_one (Only kind.Timestamp) r1 h).stop (one (Only kind.Stop) ∷ one (Only kind.Timestamp) ∷ k)) };
}

pub between_unstopped : {ts r1 r2 : List Token} (a b : Token) → BeginsLine (Only kind.Start) a ts r1 → BeginsLine (Only kind.Timestamp) b r1 r2 → LacksTokenClass (Only kind.Stop) r2 → Stuck IsQualifier expects_qualifier ts r2
between_unstopped {r2 = r2} a b x y h = record {
  read = a ∷ b ∷ [];
  all_are = x.all_are ∙ ap (λ r. a ∷ r) y.all_are;
  prefix = record { more = some kind.Stop ∷ some kind.Timestamp ∷ []; value = _; spells = qualifier_between a b (some kind.Stop) (some kind.Timestamp) x.of_class y.of_class refl refl };
  halts = record { stop = λ k. rw (only kind.Start a x.of_class, y.of_class) ((halts_one (Only kind.Stop) r2 h).stop (one (Only kind.Timestamp) ∷ k)) };
}

pub between_unended : {ts r1 r2 r3 : List Token} (a b c : Token) → BeginsLine (Only kind.Start) a ts r1 → BeginsLine (Only kind.Timestamp) b r1 r2 → BeginsLine (Only kind.Stop) c r2 r3 → LacksTokenClass (Only kind.Timestamp) r3 → Stuck IsQualifier expects_qualifier ts r3
between_unended {r3 = r3} a b c x y z h = record {
  read = a ∷ b ∷ c ∷ [];
  all_are = x.all_are ∙ ap (λ r. a ∷ r) (y.all_are ∙ ap (λ r. b ∷ r) z.all_are);
  prefix = record { more = some kind.Timestamp ∷ []; value = _; spells = qualifier_between a b c (some kind.Timestamp) x.of_class y.of_class z.of_class refl };
  halts = record { stop = λ k. rw (only kind.Start a x.of_class, y.of_class, z.of_class) ((halts_one (Only kind.Timestamp) r3 h).stop k) };
}

pub between_found : {ts r1 r2 r3 r4 : List Token} (a b c d : Token) → BeginsLine (Only kind.Start) a ts r1 → BeginsLine (Only kind.Timestamp) b r1 r2 → BeginsLine (Only kind.Stop) c r2 r3 → BeginsLine (Only kind.Timestamp) d r3 r4 → Found IsQualifier expects_qualifier done ts (qualifier_tree.Between a b d) r4
between_found a b c d x y z w = record {
  read = a ∷ b ∷ c ∷ d ∷ [];
  all_are = x.all_are ∙ ap (λ r. a ∷ r) (y.all_are ∙ ap (λ r. b ∷ r) (z.all_are ∙ ap (λ r. c ∷ r) w.all_are));
  spells = qualifier_between a b c d x.of_class y.of_class z.of_class w.of_class;
  leads = record { proceed = λ k. rw (only kind.Start a x.of_class, y.of_class, z.of_class, w.of_class) refl };
}

read_qualifier : {ts : List Token} {v : Qualifier} → IsQualifier ts v → 0 < length ts
read_qualifier (qualifier_within a b c x y z) = omega arith
read_qualifier (qualifier_repeats a b c x y z) = omega arith
read_qualifier (qualifier_between a b c d x y z w) = omega arith

pub qualifier_shorter : {ts rest : List Token} {v : Qualifier} {before : List Expected → List Expected} → Found IsQualifier before done ts v rest → length rest < length ts
qualifier_shorter {rest = rest} f = omega (arith, read_qualifier f.spells, ap length f.all_are, length-append f.read rest)

-- start
pub leaf_none : {ts : List Token} → LacksTokenClass (Only kind.RoundOpen) ts → LacksTokenClass (Only kind.SquareOpen) ts → Stuck IsStart expects_start ts ts
leaf_none {ts} a b = record { read = []; all_are = refl; prefix = prefix_start; halts = record { stop = none ts a b } }
  where
    none : (us : List Token) → LacksTokenClass (Only kind.RoundOpen) us → LacksTokenClass (Only kind.SquareOpen) us → (k : List Expected) → go (Some (line start ∷ k)) us ≡ None
    none [] a b k = refl
    none (t ∷ us) a b k = rw (a, b) refl

pub leaf_brackets : Bracket IsCor IsStart expects_cor start kind.SquareOpen kind.SquareClose (λ _ c. leaf c)
leaf_brackets = record { wraps = λ a b ts v x y z. start_leaf a b x y z; enters = λ a k h. rw (only kind.SquareOpen a h) refl; closed = refl }

pub start_brackets : Bracket IsPattern IsStart expects_pattern start kind.RoundOpen kind.RoundClose (λ _ p. p)
start_brackets = record { wraps = λ a b ts v x y z. start_group a b x y z; enters = λ a k h. rw h refl; closed = refl }

-- unit
pub unit_first : {ts rest : List Token} {p : Tree} → Found IsStart expects_start done ts p rest → Found IsUnit expects_unit (open_for qualifiers) ts p rest
unit_first f = record { read = f.read; all_are = f.all_are; spells = unit_one f.spells; leads = leads_before (open_for qualifiers) f.leads }

pub unit_stuck : {ts rest : List Token} → Stuck IsStart expects_start ts rest → Stuck IsUnit expects_unit ts rest
unit_stuck s = record {
  read = s.read;
  all_are = s.all_are;
  prefix = record { more = s.prefix.more; value = s.prefix.value; spells = unit_one s.prefix.spells };
  halts = halts_before (open_for qualifiers) s.halts;
}

pub unit_qualifiers : Repeat IsUnit IsQualifier qualifier qualifiers qualified
unit_qualifiers = record { more = λ a b v w x y. unit_more x y; enters = λ o k h. rw h refl }

-- the chains
pub ands_chain : Chain IsAnds IsUnit expects_unit ands both
ands_chain = record { one = λ ts v x. ands_one x; more = λ a b o v w x h y. ands_more o x h y; again = λ o k h. rw h refl }

pub ors_chain : Chain IsOrs IsAnds expects_ands ors either
ors_chain = record { one = λ ts v x. ors_one x; more = λ a b o v w x h y. ors_more o x h y; again = λ o k h. rw h refl }

pub pattern_chain : Chain IsPattern IsOrs expects_ors thens followed
pattern_chain = record { one = λ ts v x. pattern_one x; more = λ a b o v w x h y. pattern_more o x h y; again = λ o k h. rw h refl }
