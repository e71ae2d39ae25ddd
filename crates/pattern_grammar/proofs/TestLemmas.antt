-- The steps of reading a test.
use Rattle.std.proofs.Common.{◌≡◌, Bool, true, false, List, [], ◌∷◌, ◌++◌, Some, refl, ap, ◌∙◌, append_assoc}
use Rattle.pattern_lexer.specs.declared.token.Token.{Token}
use Rattle.pattern_lexer.specs.declared.token.TokenKind.{TokenKind}
use Rattle.pattern_lexer.specs.declared.token.TokenKind.TheVariants as kind
use Rattle.pattern_grammar.specs.declared.class.TokenClass.TheVariants.{Only}
use Rattle.pattern_grammar.specs.declared.comparison.CheckTree.{CheckTree}
use Rattle.pattern_grammar.specs.declared.comparison.CheckTree.TheVariants as check_tree
use Rattle.pattern_grammar.specs.declared.path.PathTree.{PathTree}
use Rattle.pattern_grammar.specs.TokenClass.{IsA}
use Rattle.pattern_grammar.specs.Tree.{Comparison, test as test_tree, group, all, any}
use Rattle.pattern_grammar.specs.Grammar.{IsPath, IsCheck, IsTest, test_group, test_exists, test_not_exists, test_compare, test_not_compare, IsCand, cand_one, cand_more, IsCor, cor_one, cor_more}
use Rattle.pattern_grammar.specs.inner.Machine.{Expected, one, line, tail, ExpectedLine, test, turn, cands, cors, expects_path, expects_check, expects_test, expects_cor, next, go}
use Rattle.pattern_grammar.specs.inner.Machine.{BeginsLine, LacksTokenClass, LacksTestWord, Leads, Found, Stuck, done}
use Rattle.pattern_grammar.proofs.SameKindLemmas.{only}
use Rattle.pattern_grammar.proofs.LeadsLemmas.{halts_one, leads_one, leads_then, halts_then, leads_before, halts_before, leads_token}
use Rattle.pattern_grammar.proofs.CompletionLemmas.{some, prefix_path, prefix_check, prefix_behind, prefix_before}
use Rattle.pattern_grammar.proofs.ChainLemmas.{joined, joined_to, leads_at, Chain}

-- a test negated or not
abbrev with_check : Token → Bool → PathTree → CheckTree → Comparison
with_check first negated p c = test_tree (record { first = first; path = p; negated = negated; check = c })

-- EXISTS path
pub exists_stuck : {ts r1 r2 : List Token} (a : Token) → BeginsLine (Only kind.Exists) a ts r1 → Stuck IsPath expects_path r1 r2 → Stuck IsTest expects_test ts r2
exists_stuck a x s = record {
  read = a ∷ s.read;
  all_are = x.all_are ∙ ap (λ r. a ∷ r) s.all_are;
  prefix = record { more = s.prefix.more; value = with_check a false s.prefix.value check_tree.Exists; spells = test_exists a x.of_class s.prefix.spells };
  halts = record { stop = λ k. rw (only kind.Exists a x.of_class) (s.halts.stop k) };
}

pub exists_found : {ts r1 r2 : List Token} {p : PathTree} (a : Token) → BeginsLine (Only kind.Exists) a ts r1 → Found IsPath expects_path done r1 p r2 → Found IsTest expects_test done ts (with_check a false p check_tree.Exists) r2
exists_found a x f = record {
  read = a ∷ f.read;
  all_are = x.all_are ∙ ap (λ r. a ∷ r) f.all_are;
  spells = test_exists a x.of_class f.spells;
  leads = record { proceed = λ k. rw (only kind.Exists a x.of_class) (f.leads.proceed k) };
}

-- NOT EXISTS path
pub not_stuck : {ts r1 : List Token} (a : Token) → BeginsLine (Only kind.Not) a ts r1 → LacksTokenClass (Only kind.Exists) r1 → Stuck IsTest expects_test ts r1
not_stuck {r1 = r1} a x h = record {
  read = a ∷ [];
  all_are = x.all_are;
  prefix = record { more = some kind.Exists ∷ prefix_path.more; value = with_check a true prefix_path.value check_tree.Exists; spells = test_not_exists a (some kind.Exists) x.of_class refl prefix_path.spells };
  halts = record { stop = λ k. rw (only kind.Not a x.of_class) ((halts_one (Only kind.Exists) r1 h).stop (expects_path k)) };
}

pub not_exists_stuck : {ts r1 r2 r3 : List Token} (a b : Token) → BeginsLine (Only kind.Not) a ts r1 → BeginsLine (Only kind.Exists) b r1 r2 → Stuck IsPath expects_path r2 r3 → Stuck IsTest expects_test ts r3
not_exists_stuck a b x y s = record {
  read = a ∷ b ∷ s.read;
  all_are = x.all_are ∙ ap (λ r. a ∷ r) (y.all_are ∙ ap (λ r. b ∷ r) s.all_are);
  prefix = record { more = s.prefix.more; value = with_check a true s.prefix.value check_tree.Exists; spells = test_not_exists a b x.of_class y.of_class s.prefix.spells };
  halts = record { stop = λ k. rw (only kind.Not a x.of_class, y.of_class) (s.halts.stop k) };
}

pub not_exists_found : {ts r1 r2 r3 : List Token} {p : PathTree} (a b : Token) → BeginsLine (Only kind.Not) a ts r1 → BeginsLine (Only kind.Exists) b r1 r2 → Found IsPath expects_path done r2 p r3 → Found IsTest expects_test done ts (with_check a true p check_tree.Exists) r3
not_exists_found a b x y f = record {
  read = a ∷ b ∷ f.read;
  all_are = x.all_are ∙ ap (λ r. a ∷ r) (y.all_are ∙ ap (λ r. b ∷ r) f.all_are);
  spells = test_not_exists a b x.of_class y.of_class f.spells;
  leads = record { proceed = λ k. rw (only kind.Not a x.of_class, y.of_class) (f.leads.proceed k) };
}

-- path [NOT] compare: the test begins as its path does
pub as_path : (ts : List Token) → LacksTestWord ts → Leads expects_test (λ k. expects_path (line turn ∷ k)) [] ts
as_path ts h = record { proceed = same ts h.round h.exists h.not }
  where
    same : (us : List Token) → LacksTokenClass (Only kind.RoundOpen) us → LacksTokenClass (Only kind.Exists) us → LacksTokenClass (Only kind.Not) us → (k : List Expected) → go (Some (line test ∷ k)) us ≡ go (Some (expects_path (line turn ∷ k))) us
    same [] a b c k = refl
    same (t ∷ us) a b c k = rw (a, b, c) refl

-- without NOT, the check begins
pub as_check : (ts : List Token) → LacksTokenClass (Only kind.Not) ts → Leads (λ k. line turn ∷ k) expects_check [] ts
as_check [] h = record { proceed = λ k. refl }
as_check (t ∷ ts) h = record { proceed = λ k. rw h refl }

-- with NOT, it begins after it
pub negated : (o : Token) (r : List Token) → IsA (Only kind.Not) o → Leads (λ k. line turn ∷ k) expects_check (o ∷ []) r
negated o r h = record { proceed = λ k. rw h refl }

-- the path leads to the turn
path_leads : {ts r1 : List Token} {p : PathTree} → LacksTestWord ts → (f : Found IsPath expects_path done ts p r1) → Leads expects_test (λ k. line turn ∷ k) f.read r1
path_leads {ts} {r1} h f = leads_then [] f.read r1 (leads_at (f.read ++ r1) f.all_are (as_path ts h)) (leads_before (λ k. line turn ∷ k) f.leads)

pub compare_no_path : {ts r1 : List Token} → LacksTestWord ts → Stuck IsPath expects_path ts r1 → Stuck IsTest expects_test ts r1
compare_no_path {ts} {r1} h s = record {
  read = s.read;
  all_are = s.all_are;
  prefix = record { more = s.prefix.more ++ prefix_check.more; value = with_check s.prefix.value.root false s.prefix.value prefix_check.value; spells = rw (← append_assoc s.read s.prefix.more prefix_check.more) (test_compare s.prefix.spells prefix_check.spells) };
  halts = halts_then [] s.read r1 (leads_at (s.read ++ r1) s.all_are (as_path ts h)) (halts_before (λ k. line turn ∷ k) s.halts);
}

pub compare_not_stuck : {ts r1 r2 r3 : List Token} {p : PathTree} (o : Token) → LacksTestWord ts → Found IsPath expects_path done ts p r1 → BeginsLine (Only kind.Not) o r1 r2 → Stuck IsCheck expects_check r2 r3 → Stuck IsTest expects_test ts r3
compare_not_stuck {r3 = r3} {p = p} o h f x s = record {
  read = f.read ++ o ∷ s.read;
  all_are = joined f.read s.read r3 o f.all_are x.all_are s.all_are;
  prefix = record { more = s.prefix.more; value = with_check p.root true p s.prefix.value; spells = rw append_assoc (test_not_compare o f.spells x.of_class s.prefix.spells) };
  halts = halts_then f.read (o ∷ s.read) r3 (leads_at (o ∷ s.read ++ r3) (x.all_are ∙ ap (λ r. o ∷ r) s.all_are) (path_leads h f)) (halts_then (o ∷ []) s.read r3 (negated o (s.read ++ r3) x.of_class) s.halts);
}

pub compare_not_found : {ts r1 r2 r3 : List Token} {p : PathTree} {c : CheckTree} (o : Token) → LacksTestWord ts → Found IsPath expects_path done ts p r1 → BeginsLine (Only kind.Not) o r1 r2 → Found IsCheck expects_check done r2 c r3 → Found IsTest expects_test done ts (with_check p.root true p c) r3
compare_not_found {r3 = r3} o h f x g = record {
  read = f.read ++ o ∷ g.read;
  all_are = joined f.read g.read r3 o f.all_are x.all_are g.all_are;
  spells = test_not_compare o f.spells x.of_class g.spells;
  leads = leads_then f.read (o ∷ g.read) r3 (leads_at (o ∷ g.read ++ r3) (x.all_are ∙ ap (λ r. o ∷ r) g.all_are) (path_leads h f)) (leads_then (o ∷ []) g.read r3 (negated o (g.read ++ r3) x.of_class) g.leads);
}

pub compare_stuck : {ts r1 r2 : List Token} {p : PathTree} → LacksTestWord ts → Found IsPath expects_path done ts p r1 → LacksTokenClass (Only kind.Not) r1 → Stuck IsCheck expects_check r1 r2 → Stuck IsTest expects_test ts r2
compare_stuck {r1 = r1} {r2 = r2} {p = p} h f n s = record {
  read = f.read ++ s.read;
  all_are = joined_to f.read s.read r2 f.all_are s.all_are;
  prefix = prefix_behind f.read s.read (with_check p.root false p) (λ us c x. test_compare f.spells x) s.prefix;
  halts = halts_then f.read s.read r2 (leads_at (s.read ++ r2) s.all_are (path_leads h f)) (halts_then [] s.read r2 (leads_at (s.read ++ r2) s.all_are (as_check r1 n)) s.halts);
}

pub compare_found : {ts r1 r2 : List Token} {p : PathTree} {c : CheckTree} → LacksTestWord ts → Found IsPath expects_path done ts p r1 → LacksTokenClass (Only kind.Not) r1 → Found IsCheck expects_check done r1 c r2 → Found IsTest expects_test done ts (with_check p.root false p c) r2
compare_found {r1 = r1} {r2 = r2} h f n g = record {
  read = f.read ++ g.read;
  all_are = joined_to f.read g.read r2 f.all_are g.all_are;
  spells = test_compare f.spells g.spells;
  leads = leads_then f.read g.read r2 (leads_at (g.read ++ r2) g.all_are (path_leads h f)) (leads_then [] g.read r2 (leads_at (g.read ++ r2) g.all_are (as_check r1 n)) g.leads);
}

-- a line in brackets: its opening, what stands inside, its closing
pub record Bracket {V W : Type 0} (IsInside : List Token → V → Type 0) (IsLine : List Token → W → Type 0) (inside : List Expected → List Expected) (l : ExpectedLine) (opens closes : TokenKind) (wrap : Token → V → W) : Type 0 where
  pub wraps : (a b : Token) (ts : List Token) (v : V) → IsA (Only opens) a → IsInside ts v → IsA (Only closes) b → IsLine (a ∷ ts ++ b ∷ []) (wrap a v)
  pub enters : (a : Token) (k : List Expected) → IsA (Only opens) a → next (line l ∷ k) a.kind ≡ Some (inside (one (Only closes) ∷ k))
  pub closed : IsA (Only closes) (some closes)

module _ {V W : Type 0} {IsInside : List Token → V → Type 0} {IsLine : List Token → W → Type 0} {inside : List Expected → List Expected} {l : ExpectedLine} {opens closes : TokenKind} {wrap : Token → V → W} (c : Bracket IsInside IsLine inside l opens closes wrap) where
  pub bracket_stuck : {ts r1 r2 : List Token} (a : Token) → BeginsLine (Only opens) a ts r1 → Stuck IsInside inside r1 r2 → Stuck IsLine (λ k. line l ∷ k) ts r2
  bracket_stuck {r2 = r2} a x s = record {
    read = a ∷ s.read;
    all_are = x.all_are ∙ ap (λ r. a ∷ r) s.all_are;
    prefix = prefix_before a s.read (some closes ∷ []) (wrap a) (λ us v y. c.wraps a (some closes) us v x.of_class y c.closed) s.prefix;
    halts = halts_then (a ∷ []) s.read r2 (leads_token a (s.read ++ r2) (λ k. c.enters a k x.of_class)) (halts_before (λ k. one (Only closes) ∷ k) s.halts);
  }

  pub bracket_unclosed : {ts r1 r2 : List Token} {v : V} (a : Token) → BeginsLine (Only opens) a ts r1 → Found IsInside inside done r1 v r2 → LacksTokenClass (Only closes) r2 → Stuck IsLine (λ k. line l ∷ k) ts r2
  bracket_unclosed {r2 = r2} {v = v} a x f h = record {
    read = a ∷ f.read;
    all_are = x.all_are ∙ ap (λ r. a ∷ r) f.all_are;
    prefix = record { more = some closes ∷ []; value = wrap a v; spells = c.wraps a (some closes) f.read v x.of_class f.spells c.closed };
    halts = halts_then (a ∷ []) f.read r2 (leads_token a (f.read ++ r2) (λ k. c.enters a k x.of_class)) (record { stop = λ k. f.leads.proceed (one (Only closes) ∷ k) ∙ (halts_one (Only closes) r2 h).stop k });
  }

  pub bracket_found : {ts r1 r2 r3 : List Token} {v : V} (a b : Token) → BeginsLine (Only opens) a ts r1 → Found IsInside inside done r1 v r2 → BeginsLine (Only closes) b r2 r3 → Found IsLine (λ k. line l ∷ k) done ts (wrap a v) r3
  bracket_found {r3 = r3} {v = v} a b x f y = record {
    read = a ∷ f.read ++ b ∷ [];
    all_are = x.all_are ∙ ap (λ r. a ∷ r) (joined f.read [] r3 b f.all_are y.all_are refl);
    spells = c.wraps a b f.read v x.of_class f.spells y.of_class;
    leads = leads_then (a ∷ []) (f.read ++ b ∷ []) r3 (leads_token a ((f.read ++ b ∷ []) ++ r3) (λ k. c.enters a k x.of_class))
        (leads_then f.read (b ∷ []) r3 (leads_at (b ∷ r3) y.all_are (leads_before (λ k. one (Only closes) ∷ k) f.leads)) (leads_one (Only closes) b r3 y.of_class));
  }

pub test_brackets : Bracket IsCor IsTest expects_cor test kind.RoundOpen kind.RoundClose group
test_brackets = record { wraps = λ a b ts v x y z. test_group a b x y z; enters = λ a k h. rw h refl; closed = refl }

pub cand_chain : Chain IsCand IsTest expects_test cands all
cand_chain = record { one = λ ts v x. cand_one x; more = λ a b o v w x h y. cand_more o x h y; again = λ o k h. rw h refl }

pub cor_chain : Chain IsCor IsCand (λ k. line test ∷ tail cands ∷ k) cors any
cor_chain = record { one = λ ts v x. cor_one x; more = λ a b o v w x h y. cor_more o x h y; again = λ o k h. rw h refl }
