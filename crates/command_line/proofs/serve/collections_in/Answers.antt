use Rattle.std.proofs.Common.{◌≡◌, ◌+◌, ◌++◌, ◌∷◌, [], List, Option, Some, None, append-nil, get_or, map, take, drop, option_copied, suc, sym, ap, ◌∙◌, subst}
use Rattle.std.proofs.lemmas.List.{map-append}
use Rattle.clap.specs.Words.{first_of}
use Rattle.command_line.specs.CommandLines.{AreCollectionsOf, PlainCollection}
use Rattle.command_line.specs.Request.{plain_collection}
use Rattle.command_line.specs.inner.Rows.{parsed_rows, with_argument, arguments_at}
use Rattle.command_line.proofs.CollectionLemmas.{are_collections-append, bad_argument}
use Rattle.command_line.proofs.HasLemmas.{Text}
use Rattle.command_line.proofs.ArgumentsLemmas.{no_text, one_more_argument, texts_of, arguments_around}
use Rattle.command_line.proofs.serve.collections_in.Goals as goal

pub loop-name-preserved-in_default : goal.loop-name-preserved-in_default
loop-name-preserved-in_default c =
    let names = c.args.names.now in
    let rows = parsed_rows c.args.values.now in
    let i = c.loop-name.name-index in
    let name = (get_or names i no_text).now in
    let none : first_of name rows ≡ None = sym c.value_of.ensures ∙ ap option_copied c.in_default.is in
    let same : arguments_at (texts_of (take (i + 1) names)) rows ≡ arguments_at (texts_of (take i names)) rows
    = one_more_argument names i rows c.loop-name-test.true ∙ ap (λ (o : Option Text). arguments_at (texts_of (take i names)) rows ++ with_argument o []) none ∙ append-nil (arguments_at (texts_of (take i names)) rows) in
    subst (λ (ws : List Text). AreCollectionsOf ws (map plain_collection c.loop-name.collections)) (sym same) c.loop-name.invariant

pub returns-in_default-collection_of-clause-none : goal.returns-in_default-collection_of-clause-none
returns-in_default-collection_of-clause-none c = λ collections all.
    let names = c.args.names.now in
    let rows = parsed_rows c.args.values.now in
    let i = c.loop-name.name-index in
    let name = (get_or names i no_text).now in
    let here : first_of name rows ≡ Some c.in-Some.argument.now = sym c.value_of.ensures ∙ ap option_copied c.in-Some.is in
    let before = arguments_at (texts_of (take i names)) rows in
    let behind = arguments_at (texts_of (drop (suc i) names)) rows in
    let whole : arguments_at (texts_of names) rows ≡ before ++ c.in-Some.argument.now ∷ behind
    = arguments_around names i rows c.loop-name-test.true ∙ ap (λ (o : Option Text). before ++ with_argument o behind) here in
    bad_argument before c.in-Some.argument.now behind c.in_default-collection_of.ensures.none collections (subst (λ (ws : List Text). AreCollectionsOf ws collections) whole all)

pub loop-name-preserved : goal.loop-name-preserved
loop-name-preserved c =
    let names = c.args.names.now in
    let rows = parsed_rows c.args.values.now in
    let i = c.loop-name.name-index in
    let name = (get_or names i no_text).now in
    let here : first_of name rows ≡ Some c.in-Some.argument.now = sym c.value_of.ensures ∙ ap option_copied c.in-Some.is in
    let before = arguments_at (texts_of (take i names)) rows in
    let same : arguments_at (texts_of (take (i + 1) names)) rows ≡ before ++ c.in-Some.argument.now ∷ []
    = one_more_argument names i rows c.loop-name-test.true ∙ ap (λ (o : Option Text). before ++ with_argument o []) here in
    let asked = c.in-Some-collection_of.collection in
    let grown = are_collections-append before (c.in-Some.argument.now ∷ []) (map plain_collection c.loop-name.collections) (plain_collection asked ∷ []) c.loop-name.invariant
    (c.in-Some-collection_of.ensures.some, tt) in
    let pushed : map plain_collection c.push.new.self ≡ map plain_collection c.loop-name.collections ++ plain_collection asked ∷ []
    = ap (map plain_collection) c.in_ok-push.ensures.ok ∙ map-append plain_collection c.loop-name.collections (asked ∷ []) in
    subst (λ (ws : List Text). AreCollectionsOf ws (map plain_collection c.push.new.self)) (sym same)
    (subst (λ (cs : List PlainCollection). AreCollectionsOf (before ++ c.in-Some.argument.now ∷ []) cs) (sym pushed) grown)
