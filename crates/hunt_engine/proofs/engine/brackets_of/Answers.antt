-- The brackets of one pattern more.
use Rattle.std.proofs.Common.{◌≡◌, ◌+◌, ◌<◌, ◌++◌, ◌∷◌, [], ℕ, List, length, take, get_or, arith, ap, sym, ◌∙◌, subst, append-nil}
use Rattle.std.specs.Prelude.{All, map}
use Rattle.std.specs.List.{flat_map}
use Rattle.std.proofs.lemmas.Grind.{flat_map-append}
use Rattle.std.proofs.lemmas.List.{take_more, map-append}
use Rattle.std.proofs.lemmas.List.Elements.{All-append, All-get_or}
use Rattle.pattern_types.specs.PlainLeaf.{PlainLeaf, plain_leaf}
use Rattle.pattern_types.specs.PlainPattern.{PlainPattern, plain_pattern}
use Rattle.pattern_types.specs.Soundness.{IsSoundLeaf, IsSoundPattern}
use Rattle.hunt_feed.specs.declared.hunted.Hunted.{Hunted}
use Rattle.hunt_engine.specs.Memo.{leaf_list, brackets_of}
use Rattle.hunt_engine.specs.inner.Table.{IsTable}
use Rattle.hunt_engine.proofs.SoundLemmas.{sound_leaves}
use Rattle.hunt_engine.proofs.engine.brackets_of.Goals as goal

-- the patterns of one more
patterns_more : (hunted : List Hunted) (i : ℕ) (h : Hunted) → i < length hunted → h ≡ get_or hunted i h →
    map plain_pattern (map (λ k. k.pattern) (take (i + 1) hunted)) ≡ map plain_pattern (map (λ k. k.pattern) (take i hunted)) ++ plain_pattern h.pattern ∷ []
patterns_more hunted i h inside is =
    ap (λ (l : List Hunted). map plain_pattern (map (λ k. k.pattern) l)) (take_more hunted i h inside ∙ ap (λ k. take i hunted ++ k ∷ []) (sym is))
    ∙ ap (map plain_pattern) (map-append (λ k. k.pattern) (take i hunted) (h ∷ []))
    ∙ map-append plain_pattern (map (λ k. k.pattern) (take i hunted)) (h.pattern ∷ [])

brackets_more : (hunted : List Hunted) (i : ℕ) (h : Hunted) → i < length hunted → h ≡ get_or hunted i h →
    brackets_of (map (λ k. k.pattern) (take (i + 1) hunted)) ≡ brackets_of (map (λ k. k.pattern) (take i hunted)) ++ leaf_list (plain_pattern h.pattern)
brackets_more hunted i h inside is =
    let before = map plain_pattern (map (λ k. k.pattern) (take i hunted)) in
    ap (flat_map leaf_list) (patterns_more hunted i h inside is)
    ∙ flat_map-append leaf_list before (plain_pattern h.pattern ∷ [])
    ∙ ap (λ (l : List PlainLeaf). flat_map leaf_list before ++ l) (append-nil (leaf_list (plain_pattern h.pattern)))

pub loop-indicator-preserved : goal.loop-indicator-preserved
loop-indicator-preserved c =
    let hunted = c.args.hunted.now in let i = c.loop-indicator.indicator-index in let h = c.indicator-item.result in
    let old = c.loop-indicator.brackets in let new = c.add.new.self in
    let leaves = map plain_leaf (map (λ leaf. leaf.now) old.leaves.items) in
    let inside : i < length hunted = omega arith in
    let sound : IsSoundPattern (plain_pattern h.pattern) = subst (λ (k : Hunted). IsSoundPattern (plain_pattern k.pattern)) (sym c.indicator-item.is) (All-get_or (λ (k : Hunted). IsSoundPattern (plain_pattern k.pattern)) hunted i h inside c.requires.sound) in
    record {
      table = subst (λ (ps : List PlainPattern). IsTable ps (map plain_leaf (map (λ leaf. leaf.now) new.leaves.items)) new.owners.items new.bracket_ranges.items) (sym (patterns_more hunted i h inside c.indicator-item.is))
          (c.in_ok-add.ensures.table (map plain_pattern (map (λ k. k.pattern) (take i hunted))) c.loop-indicator.invariant.table);
      sound = subst (λ (l : List PlainLeaf). All IsSoundLeaf l) (sym c.in_ok-add.ensures.leaves)
          (All-append IsSoundLeaf leaves (leaf_list (plain_pattern h.pattern)) c.loop-indicator.invariant.sound (sound_leaves (plain_pattern h.pattern) sound));
      leaves = c.in_ok-add.ensures.leaves ∙ ap (λ (l : List PlainLeaf). l ++ leaf_list (plain_pattern h.pattern)) c.loop-indicator.invariant.leaves
          ∙ sym (brackets_more hunted i h inside c.indicator-item.is);
      few = c.in_ok-add.ensures.few;
    }
