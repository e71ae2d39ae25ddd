-- Requirements on a pattern beyond its grammar (STIX 2.1, section 9, and limits of this
-- implementation).
use Rattle.std.specs.Prelude.{◌≡◌, ◌≤◌, ◌⊎◌, ◌<ℤ◌, ℕ, List, length}
use Rattle.pattern_types.specs.Block.{IsValidBlock}
use Rattle.pattern_types.specs.BlockText.{IsBlockText}
use Rattle.pattern_types.specs.declared.address_block.AddressBlock.{AddressBlock}
use Rattle.pattern_types.specs.declared.path.Path.{Path}
use Rattle.pattern_types.specs.declared.path.TheConstants.{MAX_STEPS}
use Rattle.pattern_types.specs.declared.check.Check.{Check}
use Rattle.pattern_types.specs.declared.check.Check.TheVariants.{Subset, Superset}
use Rattle.pattern_types.specs.declared.leaf.Test.{Test}
use Rattle.pattern_types.specs.declared.limit.Limit.{Limit}
use Rattle.pattern_types.specs.declared.limit.Limit.TheVariants.{Within, Repeats, Between}
use Rattle.pattern_types.specs.PlainLeaf.{PlainLeaf, one, every, some, PlainLeaves, none, more}
use Rattle.pattern_types.specs.PlainPattern.{PlainPattern, a_leaf, a_both, an_either, a_then, a_limited}

-- the text of an address block names its block
pub record IsSoundBlock (address : AddressBlock) : Type 0 where
  pub named : IsBlockText address.text address.block
  pub valid : IsValidBlock address.block

-- ISSUBSET and ISSUPERSET compare with an address block
abbrev pub IsSoundCheck : Check → Type 0
IsSoundCheck (Subset address) = IsSoundBlock address
IsSoundCheck (Superset address) = IsSoundBlock address
IsSoundCheck _ = Unit {0}

-- a path has at most MAX_STEPS steps
abbrev pub IsShortPath : Path → Type 0
IsShortPath path = length path.steps ≤ MAX_STEPS

-- the same for a test
pub record IsSoundTest (test : Test) : Type 0 where
  pub short : IsShortPath test.path
  pub check : IsSoundCheck test.check

-- the types of objects that can meet a comparison: for a test its path's, for parts joined by AND
-- the intersection, for parts joined by OR the union
abbrev mutual
  pub Roots : PlainLeaf → List ℕ → Type 0
  Roots (one test) root = root ≡ test.path.kind
  Roots (every parts) root = AllHave parts root
  Roots (some parts) root = OneHas parts root

  pub AllHave : PlainLeaves → List ℕ → Type 0
  AllHave none root = Unit {0}
  AllHave (more part parts) root = Roots part root × AllHave parts root

  pub OneHas : PlainLeaves → List ℕ → Type 0
  OneHas none root = ⊥
  OneHas (more part parts) root = Roots part root ⊎ OneHas parts root

-- some object type can meet all parts that are joined by AND
abbrev mutual
  pub IsSoundLeaf : PlainLeaf → Type 0
  IsSoundLeaf (one test) = IsSoundTest test
  IsSoundLeaf (every parts) = ((root : List ℕ) × AllHave parts root) × AreSoundLeaves parts
  IsSoundLeaf (some parts) = AreSoundLeaves parts

  pub AreSoundLeaves : PlainLeaves → Type 0
  AreSoundLeaves none = Unit {0}
  AreSoundLeaves (more part parts) = IsSoundLeaf part × AreSoundLeaves parts

-- a time span begins before it ends
abbrev pub IsSoundLimit : Limit → Type 0
IsSoundLimit (Within seconds) = Unit {0}
IsSoundLimit (Repeats times) = Unit {0}
IsSoundLimit (Between begins ends) = begins <ℤ ends

-- the same for each part of a pattern
abbrev pub IsSoundPattern : PlainPattern → Type 0
IsSoundPattern (a_leaf leaf) = IsSoundLeaf leaf
IsSoundPattern (a_both left right) = IsSoundPattern left × IsSoundPattern right
IsSoundPattern (an_either left right) = IsSoundPattern left × IsSoundPattern right
IsSoundPattern (a_then left right) = IsSoundPattern left × IsSoundPattern right
IsSoundPattern (a_limited part limit) = IsSoundPattern part × IsSoundLimit limit
