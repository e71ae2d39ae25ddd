-- The root kinds of a comparison are those of the leaf that it means.
use Rattle.std.proofs.Common.{◌⊎◌, inl, inr, ℕ, List, sym, ◌∙◌}
use Rattle.pattern_grammar.specs.Tree.{Comparison, all, any}
use Rattle.pattern_types.specs.PlainLeaf.{PlainLeaf, PlainLeaves, none, more, leaves_with}
use Rattle.pattern_reader.specs.LeafMeaning.{Means, means_test, means_group, means_all, means_any, AllParts, all_first, all_more, AnyParts, any_first, any_more}
use Rattle.pattern_types.specs.Soundness.{Roots, AllHave, OneHas, IsSoundLeaf, AreSoundLeaves}
use Rattle.pattern_reader.specs.Refusals.{HasRoot}

-- parts with one more
pub all_put : (fs : PlainLeaves) (f : PlainLeaf) (root : List ℕ) → AllHave (leaves_with fs f) root → AllHave fs root × Roots f root
all_put none f root h = (tt, h.0)
all_put (more g gs) f root h = let k = all_put gs f root h.1 in ((h.0, k.0), k.1)

put_all : (fs : PlainLeaves) (f : PlainLeaf) (root : List ℕ) → AllHave fs root → Roots f root → AllHave (leaves_with fs f) root
put_all none f root h k = (k, tt)
put_all (more g gs) f root h k = (h.0, put_all gs f root h.1 k)

any_put : (fs : PlainLeaves) (f : PlainLeaf) (root : List ℕ) → OneHas (leaves_with fs f) root → OneHas fs root ⊎ Roots f root
any_put none f root (inl h) = inr h
any_put none f root (inr h) = absurd h
any_put (more g gs) f root (inl h) = inl (inl h)
any_put (more g gs) f root (inr h) = elim (any_put gs f root h) [ inl x ↦ inl (inr x) | inr x ↦ inr x ]

put_left : (fs : PlainLeaves) (f : PlainLeaf) (root : List ℕ) → OneHas fs root → OneHas (leaves_with fs f) root
put_left none f root h = absurd h
put_left (more g gs) f root (inl h) = inl h
put_left (more g gs) f root (inr h) = inr (put_left gs f root h)

put_last : (fs : PlainLeaves) (f : PlainLeaf) (root : List ℕ) → Roots f root → OneHas (leaves_with fs f) root
put_last none f root h = inl h
put_last (more g gs) f root h = inr (put_last gs f root h)

pub sound_put : (fs : PlainLeaves) (f : PlainLeaf) → AreSoundLeaves (leaves_with fs f) → AreSoundLeaves fs × IsSoundLeaf f
sound_put none f h = (tt, h.0)
sound_put (more g gs) f h = let k = sound_put gs f h.1 in ((h.0, k.0), k.1)

pub put_sound : (fs : PlainLeaves) (f : PlainLeaf) → AreSoundLeaves fs → IsSoundLeaf f → AreSoundLeaves (leaves_with fs f)
put_sound none f h k = (k, tt)
put_sound (more g gs) f h k = (h.0, put_sound gs f h.1 k)

mutual
  root_of : (text : List ℕ) (c : Comparison) (f : PlainLeaf) (root : List ℕ) → Means text c f → HasRoot text c root → Roots f root
  root_of text c f root (means_test {t = t} {u = u} m) h = h.is ∙ sym m.path.root.is
  root_of text c f root (means_group {c = d} m) h = root_of text d f root m h
  root_of text c f root (means_all {c = d} {d = e} {fs = fs} p) h = root_of_all text (all d e) fs root p h
  root_of text c f root (means_any {c = d} {d = e} {fs = fs} p) h = root_of_any text (any d e) fs root p h

  pub root_of_all : (text : List ℕ) (c : Comparison) (fs : PlainLeaves) (root : List ℕ) → AllParts text c fs → HasRoot text c root → AllHave fs root
  root_of_all text c fs root (all_first {f = f} n m) h = (root_of text c f root m h, tt)
  root_of_all text c fs root (all_more {c = d} {d = e} {fs = gs} {f = f} p m) h = put_all gs f root (root_of_all text d gs root p h.0) (root_of text e f root m h.1)

  root_of_any : (text : List ℕ) (c : Comparison) (fs : PlainLeaves) (root : List ℕ) → AnyParts text c fs → HasRoot text c root → OneHas fs root
  root_of_any text c fs root (any_first {f = f} n m) h = inl (root_of text c f root m h)
  root_of_any text c fs root (any_more {c = d} {d = e} {fs = gs} {f = f} p m) (inl h) = put_left gs f root (root_of_any text d gs root p h)
  root_of_any text c fs root (any_more {c = d} {d = e} {fs = gs} {f = f} p m) (inr h) = put_last gs f root (root_of text e f root m h)

mutual
  has_root : (text : List ℕ) (c : Comparison) (f : PlainLeaf) (root : List ℕ) → Means text c f → Roots f root → HasRoot text c root
  has_root text c f root (means_test {t = t} {u = u} m) h = record { cut = m.path.root.cut; is = h ∙ m.path.root.is }
  has_root text c f root (means_group {c = d} m) h = has_root text d f root m h
  has_root text c f root (means_all {c = d} {d = e} {fs = fs} p) h = all_has_root text (all d e) fs root p h
  has_root text c f root (means_any {c = d} {d = e} {fs = fs} p) h = any_has_root text (any d e) fs root p h

  all_has_root : (text : List ℕ) (c : Comparison) (fs : PlainLeaves) (root : List ℕ) → AllParts text c fs → AllHave fs root → HasRoot text c root
  all_has_root text c fs root (all_first {f = f} n m) h = has_root text c f root m h.0
  all_has_root text c fs root (all_more {c = d} {d = e} {fs = gs} {f = f} p m) h = let k = all_put gs f root h in (all_has_root text d gs root p k.0, has_root text e f root m k.1)

  any_has_root : (text : List ℕ) (c : Comparison) (fs : PlainLeaves) (root : List ℕ) → AnyParts text c fs → OneHas fs root → HasRoot text c root
  any_has_root text c fs root (any_first {f = f} n m) (inl h) = has_root text c f root m h
  any_has_root text c fs root (any_first {f = f} n m) (inr h) = absurd h
  any_has_root text c fs root (any_more {c = d} {d = e} {fs = gs} {f = f} p m) h = elim (any_put gs f root h) [ inl x ↦ inl (any_has_root text d gs root p x) | inr x ↦ inr (has_root text e f root m x) ]

-- a root kind that all parts have, all parts but the last and the last have
pub both_have_root : (text : List ℕ) (c d : Comparison) (fs : PlainLeaves) (f : PlainLeaf) (root : List ℕ) → AllParts text c fs → Means text d f → AllHave (leaves_with fs f) root → HasRoot text c root × HasRoot text d root
both_have_root text c d fs f root p m h = let k = all_put fs f root h in (all_has_root text c fs root p k.0, has_root text d f root m k.1)

-- what means a sound leaf has a root kind
mutual
  pub rooted : (text : List ℕ) (c : Comparison) (f : PlainLeaf) → Means text c f → IsSoundLeaf f → (root : List ℕ) × HasRoot text c root
  rooted text c f (means_test {t = t} {u = u} m) s = (u.path.kind, m.path.root)
  rooted text c f (means_group {c = d} m) s = rooted text d f m s
  rooted text c f (means_all {c = d} {d = e} {fs = fs} p) s = (s.0.0, all_has_root text (all d e) fs s.0.0 p s.0.1)
  rooted text c f (means_any {c = d} {d = e} {fs = fs} p) s = any_rooted text (any d e) fs p s

  any_rooted : (text : List ℕ) (c : Comparison) (fs : PlainLeaves) → AnyParts text c fs → AreSoundLeaves fs → (root : List ℕ) × HasRoot text c root
  any_rooted text c fs (any_first {f = f} n m) s = rooted text c f m s.0
  any_rooted text c fs (any_more {c = d} {d = e} {fs = gs} {f = f} p m) s = let k = any_rooted text d gs p (sound_put gs f s).0 in (k.0, inl k.1)
