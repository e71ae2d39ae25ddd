-- What is left of the common numbers are the key's, too.
use Rattle.std.proofs.Common.{ℕ, List, subst, sym, ◌∙◌, rules}
use Rattle.std.specs.Prelude.{nat_eq}
use Rattle.std.specs.List.{Contains, list_any}
use Rattle.std.proofs.lemmas.Fn.{filter_same}
use Rattle.match_pruning.proofs.SkipIndexLemmas.{common_of, common_in}
use Rattle.match_pruning.proofs.EarliestStartLemmas.{lt_before, not_lt_after}
use Rattle.match_pruning.proofs.RetainsLemmas.{le_self, le_trans}
use Rattle.match_pruning.proofs.block.Block.add.Goals as goal

pub returns-then-lt-clause-kept : goal.returns-then-lt-clause-kept
returns-then-lt-clause-kept c = λ other over.
    let test = λ (n : ℕ). list_any (nat_eq n) c.args.key.now.numbers.items in
    let is = filter_same _ test _ (λ x b f' k. search rules) _ _ c.retain.ensures.filtered in
    let later = lt_before c.args.self.now.begin c.args.key.now.begin (sym c.lt.ensures ∙ c.if-lt.true) in
    record {
      numbers = λ n there. over.numbers n (common_of test c.args.self.now.common.items n (subst (λ (z : List ℕ). Contains z n) is there));
      begins = le_trans other.begin c.args.self.now.begin c.args.key.now.begin over.begins later;
    }

pub returns-then-lt-clause-added : goal.returns-then-lt-clause-added
returns-then-lt-clause-added c =
    let test = λ (n : ℕ). list_any (nat_eq n) c.args.key.now.numbers.items in
    let is = filter_same _ test _ (λ x b f' k. search rules) _ _ c.retain.ensures.filtered in
    record {
      numbers = λ n there. common_in c.args.key.now.numbers.items c.args.self.now.common.items n (subst (λ (z : List ℕ). Contains z n) is there);
      begins = le_self c.args.key.now.begin;
    }

pub returns-else-lt-clause-kept : goal.returns-else-lt-clause-kept
returns-else-lt-clause-kept c = λ other over.
    let test = λ (n : ℕ). list_any (nat_eq n) c.args.key.now.numbers.items in
    let is = filter_same _ test _ (λ x b f' k. search rules) _ _ c.retain.ensures.filtered in
    record {
      numbers = λ n there. over.numbers n (common_of test c.args.self.now.common.items n (subst (λ (z : List ℕ). Contains z n) is there));
      begins = over.begins;
    }

pub returns-else-lt-clause-added : goal.returns-else-lt-clause-added
returns-else-lt-clause-added c =
    let test = λ (n : ℕ). list_any (nat_eq n) c.args.key.now.numbers.items in
    let is = filter_same _ test _ (λ x b f' k. search rules) _ _ c.retain.ensures.filtered in
    record {
      numbers = λ n there. common_in c.args.key.now.numbers.items c.args.self.now.common.items n (subst (λ (z : List ℕ). Contains z n) is there);
      begins = not_lt_after c.args.self.now.begin c.args.key.now.begin (sym c.lt.ensures ∙ c.if-lt.false);
    }
