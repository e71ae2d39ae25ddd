-- Whether the block whose text a value is stands so, by what it is found to be.
use Rattle.std.proofs.Common.{◌≡◌, ◌↔◌, Option, Some, None, Bool, false, IsTrue, sym, subst, ◌∙◌}
use Rattle.std.proofs.lemmas.Bool.{false≢true}
use Rattle.std.proofs.lemmas.Option.{none-some, same_Some}
use Rattle.serde_json.specs.Data.{Data}
use Rattle.pattern_types.specs.declared.block.Block.{Block}
use Rattle.match_comparisons.specs.Tests.{IsBlockOf}

-- the value is the text of a block that stands so
abbrev IsBlockThat : (Block → Type 0) → Data → Type 0
IsBlockThat Stands value = (block : Block) × IsBlockOf value block × Stands block

module _ (Stands : Block → Type 0) (value : Data) (found : Option Block) (exact : (block : Block) → (found ≡ Some block) ↔ IsBlockOf value block) where
  pub block_stands : (block : Block) (answer : Bool) → found ≡ Some block → IsTrue answer ↔ Stands block → IsTrue answer ↔ IsBlockThat Stands value
  block_stands block answer is stands = (
    λ yes. (block, (exact block).0 is, stands.0 yes),
    λ h. stands.1 (subst Stands (same_Some h.0 block (sym ((exact h.0).1 h.1) ∙ is)) h.2),
  )

  pub no_block : found ≡ None → IsTrue false ↔ IsBlockThat Stands value
  no_block is = (
    λ yes. absurd (false≢true yes),
    λ h. absurd (none-some h.0 (sym is ∙ (exact h.0).1 h.1)),
  )
