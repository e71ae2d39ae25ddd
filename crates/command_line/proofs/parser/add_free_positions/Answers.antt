use Rattle.std.proofs.Common.{◌≡◌, false, ◌+◌, List, [], ◌∷◌, ◌++◌, map, take, get_or, append_assoc, sym, ap, ◌∙◌, subst, arith, Bor}
use Rattle.std.specs.List.{AllZip}
use Rattle.std.proofs.lemmas.List.{map-append, take_more}
use Rattle.std.proofs.lemmas.Slice.Zip.{all_zipped_more}
use Rattle.clap.specs.Words.{Rule}
use Rattle.clap.specs.declared.builder.arg.Arg.{Arg}
use Rattle.command_line.specs.inner.Forms.{position_rule, free_rules, HasRule}
use Rattle.command_line.proofs.HasLemmas.{Text}
use Rattle.command_line.proofs.parser.add_free_positions.Goals as goal

abbrev now : List (Bor Text) → List Text
now names = map (λ name. name.now) names

one_more : (rules : List Rule) (names : List Text) (name : Text) → (rules ++ free_rules names) ++ position_rule false name ∷ [] ≡ rules ++ free_rules (names ++ name ∷ [])
one_more rules names name =
    append_assoc rules (free_rules names) (position_rule false name ∷ [])
    ∙ ap (λ (more : List Rule). rules ++ more) (sym (map-append (position_rule false) names (name ∷ [])))

pub loop-name-preserved : goal.loop-name-preserved
loop-name-preserved c = λ rules h.
    let names = c.args.names.now in
    let none : Bor Text = record { ref_ptr = (0, 0); now = [] } in
    let here = get_or names c.loop-name.name-index none in
    let grown : take (c.loop-name.name-index + 1) names ≡ take c.loop-name.name-index names ++ here ∷ []
    = take_more names c.loop-name.name-index none (omega arith) in
    let before = now (take c.loop-name.name-index names) in
    let longer = one_more rules before here.now
    ∙ ap (λ (all : List Text). rules ++ free_rules all) (sym {A = List Text} (ap now grown ∙ map-append (λ (name : Bor Text). name.now) (take c.loop-name.name-index names) (here ∷ []))) in
    let added = all_zipped_more HasRule c.loop-name.args.items (rules ++ free_rules before) c.free_position.result (position_rule false here.now)
    (c.loop-name.invariant rules h) (c.free_position.ensures.rule, c.free_position.ensures.local) in
    subst (AllZip HasRule c.push.new.self.items) longer
    (subst (λ (args : List Arg). AllZip HasRule args ((rules ++ free_rules before) ++ position_rule false here.now ∷ [])) (sym {A = List Arg} c.in_ok-push.ensures.items) added)
