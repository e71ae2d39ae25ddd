use Rattle.std.proofs.Common.{Some, sym, ap, ◌∙◌, subst}
use Rattle.std.specs.Option.{option_map}
use Rattle.std.specs.declared.net.ip_addr.IpAddr.TheVariants as Ip
use Rattle.pattern_types.specs.Block.{IsValidBlock}
use Rattle.pattern_types.proofs.BlockTextLemmas.{block_of, block_of-valid, spells_exactly, spells_nothing, parsed_some, parsed_none}
use Rattle.pattern_types.proofs.text.read_block.Goals as goal

pub returns-in_err-address-clause-exact : goal.returns-in_err-address-clause-exact
returns-in_err-address-clause-exact c =
    let address = c.cut_at_slash.result.0.now in
    let none = parsed_none address c.parse.result c.parse.ensures.value (sym c.ok.ensures.value ∙ c.in_err-address.was) in
    spells_nothing c.args.text.now address c.cut_at_slash.result.1 c.cut_at_slash.ensures _ c.from_residual.ensures none

pub returns-in_err-read_length-in-V4-clause-exact : goal.returns-in_err-read_length-in-V4-clause-exact
returns-in_err-read_length-in-V4-clause-exact c =
    let address = c.cut_at_slash.result.0.now in
    let ip = Ip.V4 c.in-V4.address in
    let is_ip = parsed_some address c.parse.result ip c.parse.ensures.value (sym c.ok.ensures.value ∙ c.in_ok-address.was ∙ ap Some c.in-V4.is) in
    let made = c.from_residual-in_err-read_length-in-V4.ensures ∙ sym (ap (option_map (block_of ip)) c.in_err-read_length-in-V4.was) in
    spells_exactly c.args.text.now address c.cut_at_slash.result.1 c.cut_at_slash.ensures ip is_ip c.read_length.result c.read_length.ensures.exact _ made

pub v4_block-requires : goal.v4_block-requires
v4_block-requires c = c.in_ok-read_length-in-V4.ensures.valid

pub returns-in_ok-read_length-in-V4-clause-exact : goal.returns-in_ok-read_length-in-V4-clause-exact
returns-in_ok-read_length-in-V4-clause-exact c =
    let address = c.cut_at_slash.result.0.now in
    let ip = Ip.V4 c.in-V4.address in
    let is_ip = parsed_some address c.parse.result ip c.parse.ensures.value (sym c.ok.ensures.value ∙ c.in_ok-address.was ∙ ap Some c.in-V4.is) in
    let made = ap Some c.v4_block.ensures ∙ sym (ap (option_map (block_of ip)) c.in_ok-read_length-in-V4.was) in
    spells_exactly c.args.text.now address c.cut_at_slash.result.1 c.cut_at_slash.ensures ip is_ip c.read_length.result c.read_length.ensures.exact _ made

pub returns-in_ok-read_length-in-V4-clause-valid : goal.returns-in_ok-read_length-in-V4-clause-valid
returns-in_ok-read_length-in-V4-clause-valid c =
    subst IsValidBlock (sym c.v4_block.ensures) (block_of-valid (Ip.V4 c.in-V4.address) c.in_ok-read_length-in-V4.field-0 c.in_ok-read_length-in-V4.ensures.valid)

pub returns-in_err-read_length-in-V6-clause-exact : goal.returns-in_err-read_length-in-V6-clause-exact
returns-in_err-read_length-in-V6-clause-exact c =
    let address = c.cut_at_slash.result.0.now in
    let ip = Ip.V6 c.in-V6.address in
    let is_ip = parsed_some address c.parse.result ip c.parse.ensures.value (sym c.ok.ensures.value ∙ c.in_ok-address.was ∙ ap Some c.in-V6.is) in
    let made = c.from_residual-in_err-read_length-in-V6.ensures ∙ sym (ap (option_map (block_of ip)) c.in_err-read_length-in-V6.was) in
    spells_exactly c.args.text.now address c.cut_at_slash.result.1 c.cut_at_slash.ensures ip is_ip c.read_length-in-V6.result c.read_length-in-V6.ensures.exact _ made

pub v6_block-requires : goal.v6_block-requires
v6_block-requires c = c.in_ok-read_length-in-V6.ensures.valid

pub returns-in_ok-read_length-in-V6-clause-exact : goal.returns-in_ok-read_length-in-V6-clause-exact
returns-in_ok-read_length-in-V6-clause-exact c =
    let address = c.cut_at_slash.result.0.now in
    let ip = Ip.V6 c.in-V6.address in
    let is_ip = parsed_some address c.parse.result ip c.parse.ensures.value (sym c.ok.ensures.value ∙ c.in_ok-address.was ∙ ap Some c.in-V6.is) in
    let made = ap Some c.v6_block.ensures ∙ sym (ap (option_map (block_of ip)) c.in_ok-read_length-in-V6.was) in
    spells_exactly c.args.text.now address c.cut_at_slash.result.1 c.cut_at_slash.ensures ip is_ip c.read_length-in-V6.result c.read_length-in-V6.ensures.exact _ made

pub returns-in_ok-read_length-in-V6-clause-valid : goal.returns-in_ok-read_length-in-V6-clause-valid
returns-in_ok-read_length-in-V6-clause-valid c =
    subst IsValidBlock (sym c.v6_block.ensures) (block_of-valid (Ip.V6 c.in-V6.address) c.in_ok-read_length-in-V6.field-0 c.in_ok-read_length-in-V6.ensures.valid)
