use Rattle.std.proofs.Common.{◌↔◌, List, ◌∷◌, None, option_map, reverse, sym, ap, subst, ◌∙◌, refl, Bor}
use Rattle.serde_json.specs.Data.{Data}
use Rattle.stix_json.specs.declared.value.Json.{Json}
use Rattle.stix_json.specs.DataOf.{data_of}
use Rattle.stix_bundles.specs.Objects.{data_in}
use Rattle.match_comparisons.specs.declared.frame.Frame.{Frame}
use Rattle.match_comparisons.specs.Selection.{Selects}
use Rattle.match_comparisons.specs.inner.Frames.{LeftIn}
use Rattle.match_comparisons.proofs.LeftLemmas.{left_at_root}
use Rattle.match_comparisons.proofs.WalkLemmas.{pushed}
use Rattle.match_comparisons.proofs.path_values.values.Goals as goal

pub returns-clause-all : goal.returns-clause-all
returns-clause-all c =
    let objects = data_in c.args.bundle.now in
    let frame : Frame = record { last = None; steps = c.as_slice.result; values = c.slice_of.result } in
    let is = pushed c.new-frames.result.items c.push.new.self.items frame c.push.ensures.items ∙ ap (λ (fs : List Frame). frame ∷ reverse fs) c.new-frames.ensures in
    let Selected : List Frame → Type 0 = λ fs. (values : List Data) → LeftIn objects fs values ↔ Selects objects c.args.root c.args.path.now values in
    subst Selected (sym is) (left_at_root objects c.args.root c.args.path.now (option_map (λ (tree : Bor Json). data_of tree.now) c.root_of.result) frame
    (rw (← c.as_str.ensures) c.root_of.ensures.found) refl c.as_slice.ensures c.slice_of.ensures.all)
