-- The text of a Number, a Hex or a Binary represents one value at most.
use Rattle.std.proofs.Common.{◌≡◌, ℕ, ℤ, List, Result, Ok, codes, refl, sym, ap, ◌∙◌}
use Rattle.hex.specs.Hex.{decode_of}
use Rattle.base64.specs.Engines.{standard}
use Rattle.base64.specs.GeneralPurpose.{encode_of}
use Rattle.base64.specs.GeneralPurpose as engine
use Rattle.base64.proofs.EngineFacts.{decode_of-encode_of}
use Rattle.base64.specs.declared.decode.DecodeError.{DecodeError}
use Rattle.pattern_lexer.specs.Values.{IsIntegerText, IsHexText, IsBinaryText}
use Rattle.pattern_lexer.proofs.QuotedLemmas.{one_inside}

pub one_whole : (text : List ℕ) (first second : ℤ) → IsIntegerText text first → IsIntegerText text second → first ≡ second
one_whole text first second x y = x.value ∙ sym y.value

pub one_hex : (text first second : List ℕ) → IsHexText text first → IsHexText text second → first ≡ second
one_hex text first second x y =
    let same = one_inside (codes "h'") x.0 y.0 text x.1 y.1 in
    let e = sym x.2 ∙ ap decode_of same ∙ y.2 in
    cc

pub one_base : (text first second : List ℕ) → IsBinaryText text first → IsBinaryText text second → first ≡ second
one_base text first second x y =
    let same = one_inside (codes "b'") (encode_of standard first) (encode_of standard second) text x.1 y.1 in
    let one : engine.decode_of standard (encode_of standard first) ≡ Ok first = decode_of-encode_of standard first refl x.0 in
    let other : engine.decode_of standard (encode_of standard second) ≡ Ok second = decode_of-encode_of standard second refl y.0 in
    let e : ◌≡◌ {A = Result (List ℕ) DecodeError} (Ok first) (Ok second) = sym one ∙ ap (engine.decode_of standard) same ∙ other in
    cc
