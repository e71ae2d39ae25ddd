-- The steps of reading what is asked of a value.
use Rattle.std.proofs.Common.{◌≡◌, List, [], ◌∷◌, ◌++◌, Some, None, refl, ap, ◌∙◌, append_assoc}
use Rattle.pattern_lexer.specs.declared.token.Token.{Token}
use Rattle.pattern_lexer.specs.declared.token.TokenKind.TheVariants as kind
use Rattle.pattern_grammar.specs.declared.class.TokenClass.TheVariants.{Only, Equality, Order, Textual, Ordered, Constant}
use Rattle.pattern_grammar.specs.declared.comparison.CheckTree.TheVariants as check_tree
use Rattle.pattern_grammar.specs.Grammar.{AreConstants, constants_one, constants_more, IsCheck, check_equality, check_order, check_among, check_textual}
use Rattle.pattern_grammar.specs.inner.Machine.{Expected, one, line, tail, check, commas, expects_constants, expects_check, go}
use Rattle.pattern_grammar.specs.inner.Machine.{BeginsLine, LacksTokenClass, LacksOperator, Found, Stuck, done, open_for}
use Rattle.pattern_grammar.proofs.SameKindLemmas.{only, order_apart, textual_apart, textual_apart_order}
use Rattle.pattern_grammar.proofs.LeadsLemmas.{halts_one, leads_one, leads_then, halts_then, leads_before}
use Rattle.pattern_grammar.proofs.CompletionLemmas.{some, prefix_constants, prefix_check}
use Rattle.pattern_grammar.proofs.ChainLemmas.{joined, leads_at}

-- constants
pub constants_none : {ts : List Token} → LacksTokenClass Constant ts → Stuck AreConstants expects_constants ts ts
constants_none {ts} h = record { read = []; all_are = refl; prefix = prefix_constants; halts = record { stop = λ k. (halts_one Constant ts h).stop (tail commas ∷ k) } }

pub constants_begun : {ts r1 : List Token} (a : Token) → BeginsLine Constant a ts r1 → Found AreConstants expects_constants (open_for commas) ts (a ∷ []) r1
constants_begun a x = record { read = a ∷ []; all_are = x.all_are; spells = constants_one a x.of_class; leads = record { proceed = λ k. rw x.of_class refl } }

pub constants_stuck : {ts rest r1 cs : List Token} (o : Token) → Found AreConstants expects_constants (open_for commas) ts cs rest → BeginsLine (Only kind.Comma) o rest r1 → LacksTokenClass Constant r1 → Stuck AreConstants expects_constants ts r1
constants_stuck {r1 = r1} {cs = cs} o f x h = record {
  read = f.read ++ o ∷ [];
  all_are = joined f.read [] r1 o f.all_are x.all_are refl;
  prefix = record { more = some kind.Number ∷ []; value = cs ++ some kind.Number ∷ []; spells = rw append_assoc (constants_more o (some kind.Number) f.spells x.of_class refl) };
  halts = halts_then f.read (o ∷ []) r1 (leads_at (o ∷ r1) x.all_are f.leads) (record { stop = λ k. rw x.of_class ((halts_one Constant r1 h).stop (tail commas ∷ k)) });
}

pub constants_further : {ts rest r1 r2 cs : List Token} (o a : Token) → Found AreConstants expects_constants (open_for commas) ts cs rest → BeginsLine (Only kind.Comma) o rest r1 → BeginsLine Constant a r1 r2 → Found AreConstants expects_constants (open_for commas) ts (cs ++ a ∷ []) r2
constants_further {r2 = r2} o a f x y = record {
  read = f.read ++ o ∷ a ∷ [];
  all_are = joined f.read (a ∷ []) r2 o f.all_are x.all_are y.all_are;
  spells = constants_more o a f.spells x.of_class y.of_class;
  leads = leads_then f.read (o ∷ a ∷ []) r2 (leads_at (o ∷ a ∷ r2) (x.all_are ∙ ap (λ r. o ∷ r) y.all_are) f.leads) (record { proceed = λ k. rw (x.of_class, y.of_class) refl });
}

-- IN
pub check_none : {ts : List Token} → LacksOperator ts → LacksTokenClass (Only kind.Among) ts → Stuck IsCheck expects_check ts ts
check_none {ts} a h = record { read = []; all_are = refl; prefix = prefix_check; halts = record { stop = none ts a.equality a.order a.textual h } }
  where
    none : (us : List Token) → LacksTokenClass Equality us → LacksTokenClass Order us → LacksTokenClass Textual us → LacksTokenClass (Only kind.Among) us → (k : List Expected) → go (Some (line check ∷ k)) us ≡ None
    none [] a b c d k = refl
    none (t ∷ us) a b c d k = rw (a, b, c, d) refl

pub among_open : {ts r1 : List Token} (a : Token) → BeginsLine (Only kind.Among) a ts r1 → LacksTokenClass (Only kind.RoundOpen) r1 → Stuck IsCheck expects_check ts r1
among_open {r1 = r1} a x h = record {
  read = a ∷ [];
  all_are = x.all_are;
  prefix = record { more = some kind.RoundOpen ∷ some kind.Number ∷ some kind.RoundClose ∷ []; value = _; spells = check_among a (some kind.RoundOpen) (some kind.RoundClose) x.of_class refl (constants_one (some kind.Number) refl) refl };
  halts = record { stop = λ k. rw (only kind.Among a x.of_class) ((halts_one (Only kind.RoundOpen) r1 h).stop (one Constant ∷ tail commas ∷ one (Only kind.RoundClose) ∷ k)) };
}

pub among_stuck : {ts r1 r2 r3 : List Token} (a b : Token) → BeginsLine (Only kind.Among) a ts r1 → BeginsLine (Only kind.RoundOpen) b r1 r2 → Stuck AreConstants expects_constants r2 r3 → Stuck IsCheck expects_check ts r3
among_stuck a b x y s = record {
  read = a ∷ b ∷ s.read;
  all_are = x.all_are ∙ ap (λ r. a ∷ r) (y.all_are ∙ ap (λ r. b ∷ r) s.all_are);
  prefix = record { more = s.prefix.more ++ some kind.RoundClose ∷ []; value = check_tree.Among s.prefix.value; spells = rw (← append_assoc s.read s.prefix.more (some kind.RoundClose ∷ [])) (check_among a b (some kind.RoundClose) x.of_class y.of_class s.prefix.spells refl) };
  halts = record { stop = λ k. rw (only kind.Among a x.of_class, y.of_class) (s.halts.stop (one (Only kind.RoundClose) ∷ k)) };
}

pub among_unclosed : {ts r1 r2 r3 cs : List Token} (a b : Token) → BeginsLine (Only kind.Among) a ts r1 → BeginsLine (Only kind.RoundOpen) b r1 r2 → Found AreConstants expects_constants done r2 cs r3 → LacksTokenClass (Only kind.RoundClose) r3 → Stuck IsCheck expects_check ts r3
among_unclosed {r3 = r3} a b x y f h = record {
  read = a ∷ b ∷ f.read;
  all_are = x.all_are ∙ ap (λ r. a ∷ r) (y.all_are ∙ ap (λ r. b ∷ r) f.all_are);
  prefix = record { more = some kind.RoundClose ∷ []; value = _; spells = check_among a b (some kind.RoundClose) x.of_class y.of_class f.spells refl };
  halts = record { stop = λ k. rw (only kind.Among a x.of_class, y.of_class) (f.leads.proceed (one (Only kind.RoundClose) ∷ k) ∙ (halts_one (Only kind.RoundClose) r3 h).stop k) };
}

pub among_found : {ts r1 r2 r3 r4 cs : List Token} (a b e : Token) → BeginsLine (Only kind.Among) a ts r1 → BeginsLine (Only kind.RoundOpen) b r1 r2 → Found AreConstants expects_constants done r2 cs r3 → BeginsLine (Only kind.RoundClose) e r3 r4 → Found IsCheck expects_check done ts (check_tree.Among cs) r4
among_found {r4 = r4} a b e x y f z = record {
  read = a ∷ b ∷ f.read ++ e ∷ [];
  all_are = x.all_are ∙ ap (λ r. a ∷ r) (y.all_are ∙ ap (λ r. b ∷ r) (joined f.read [] r4 e f.all_are z.all_are refl));
  spells = check_among a b e x.of_class y.of_class f.spells z.of_class;
  leads = record { proceed = λ k. rw (only kind.Among a x.of_class, y.of_class) ((leads_then f.read (e ∷ []) r4 (leads_at (e ∷ r4) z.all_are (leads_before (λ u. one (Only kind.RoundClose) ∷ u) f.leads)) (leads_one (Only kind.RoundClose) e r4 z.of_class)).proceed k) };
}

-- the other operators
pub equality_stuck : {ts r1 : List Token} (a : Token) → BeginsLine Equality a ts r1 → LacksTokenClass Constant r1 → Stuck IsCheck expects_check ts r1
equality_stuck {r1 = r1} a x h = record {
  read = a ∷ [];
  all_are = x.all_are;
  prefix = record { more = some kind.Number ∷ []; value = _; spells = check_equality a (some kind.Number) x.of_class refl };
  halts = record { stop = λ k. rw x.of_class ((halts_one Constant r1 h).stop k) };
}

pub equality_found : {ts r1 r2 : List Token} (a b : Token) → BeginsLine Equality a ts r1 → BeginsLine Constant b r1 r2 → Found IsCheck expects_check done ts (check_tree.Compare a b) r2
equality_found a b x y = record {
  read = a ∷ b ∷ [];
  all_are = x.all_are ∙ ap (λ r. a ∷ r) y.all_are;
  spells = check_equality a b x.of_class y.of_class;
  leads = record { proceed = λ k. rw (x.of_class, y.of_class) refl };
}

pub order_stuck : {ts r1 : List Token} (a : Token) → BeginsLine Order a ts r1 → LacksTokenClass Ordered r1 → Stuck IsCheck expects_check ts r1
order_stuck {r1 = r1} a x h = record {
  read = a ∷ [];
  all_are = x.all_are;
  prefix = record { more = some kind.Number ∷ []; value = _; spells = check_order a (some kind.Number) x.of_class refl };
  halts = record { stop = λ k. rw (order_apart a.kind x.of_class, x.of_class) ((halts_one Ordered r1 h).stop k) };
}

pub order_found : {ts r1 r2 : List Token} (a b : Token) → BeginsLine Order a ts r1 → BeginsLine Ordered b r1 r2 → Found IsCheck expects_check done ts (check_tree.Compare a b) r2
order_found a b x y = record {
  read = a ∷ b ∷ [];
  all_are = x.all_are ∙ ap (λ r. a ∷ r) y.all_are;
  spells = check_order a b x.of_class y.of_class;
  leads = record { proceed = λ k. rw (order_apart a.kind x.of_class, x.of_class, y.of_class) refl };
}

pub textual_stuck : {ts r1 : List Token} (a : Token) → BeginsLine Textual a ts r1 → LacksTokenClass (Only kind.String) r1 → Stuck IsCheck expects_check ts r1
textual_stuck {r1 = r1} a x h = record {
  read = a ∷ [];
  all_are = x.all_are;
  prefix = record { more = some kind.String ∷ []; value = _; spells = check_textual a (some kind.String) x.of_class refl };
  halts = record { stop = λ k. rw (textual_apart a.kind x.of_class, textual_apart_order a.kind x.of_class, x.of_class) ((halts_one (Only kind.String) r1 h).stop k) };
}

pub textual_found : {ts r1 r2 : List Token} (a b : Token) → BeginsLine Textual a ts r1 → BeginsLine (Only kind.String) b r1 r2 → Found IsCheck expects_check done ts (check_tree.Textual a b) r2
textual_found a b x y = record {
  read = a ∷ b ∷ [];
  all_are = x.all_are ∙ ap (λ r. a ∷ r) y.all_are;
  spells = check_textual a b x.of_class y.of_class;
  leads = record { proceed = λ k. rw (textual_apart a.kind x.of_class, textual_apart_order a.kind x.of_class, x.of_class, y.of_class) refl };
}
