-- Where a reader stands in a run, and how it moves on.
use Rattle.std.proofs.Common.{◌≡◌, ◌⊎◌, inl, inr, ℕ, ◌+◌, ◌<◌, Bool, true, false, List, [], Option, None, Some, IfSome, refl, sym, ap, subst, ◌∙◌, arith}
use Rattle.std.proofs.lemmas.List.Elements.{All-nil}
use Rattle.flow_edges.specs.declared.source.TheConstants.{MAX_READ}
use Rattle.flow_edges.specs.Flow.{IsAtEnd, TakesAtMost}
use Rattle.std.specs.List.{list_any}
use Rattle.flow_lines.specs.Lines.{LineStream, LinesState, RawLine, NoLineFeed, lines_start, raw_lines, is_whole, HoldsLine, AccountsFor, LacksLine}
use Rattle.flow_lines.specs.declared.whole_input.TheConstants.{MAX_WHOLE_INPUT}
use Rattle.match_input.specs.declared.mode.Mode.{Mode}
use Rattle.match_input.specs.declared.mode.Mode.TheVariants.{Lines, Whole as WholeInput}
use Rattle.match_input.specs.declared.stage.Stage.{Stage}
use Rattle.match_input.specs.declared.stage.Stage.TheVariants as stage
use Rattle.match_input.specs.Reading.{BundleOf}
use Rattle.match_input.specs.Ahead.{IsOpen, ahead, HoldsLines, LacksLineIn, Moves, TakesLittleAhead, ComesToEnd}
use Rattle.match_run.specs.Matching.{TakesLittle as RunTakesLittle, TakesFew, BeganInTime}
use Rattle.match_run.specs.inner.MatchRuns.{IsStageOf, IsReadInTime, turns_left}

pub ahead_none : (st : Stage) → ahead st None ≡ None
ahead_none (stage.Lines lines) = refl
ahead_none stage.Whole = refl
ahead_none stage.AtEnd = refl
ahead_none stage.Ended = refl

pub ahead_some : (st : Stage) (bytes : List ℕ) → (lines : LineStream) × (ahead st (Some bytes) ≡ Some lines)
ahead_some (stage.Lines lines) bytes = (_, refl)
ahead_some stage.Whole bytes = (_, refl)
ahead_some stage.AtEnd bytes = (_, refl)
ahead_some stage.Ended bytes = (_, refl)

pub start_accounts : (state : LinesState) (left : Option (List ℕ)) → AccountsFor state state left left
start_accounts state left = record {
  gone = [];
  bytes = refl;
  given = omega arith;
  count = omega arith;
  plain = All-nil (λ (line : RawLine). NoLineFeed line.bytes);
  terminated = inl (All-nil (λ (line : RawLine). line.terminated ≡ true));
}

module _ (bundles : List BundleOf) (first left : Option (List ℕ)) where
  pub open_or_end : (mode : Mode) (st : Stage) → IsStageOf mode st bundles first left → IsOpen st ⊎ (st ≡ stage.AtEnd)
  open_or_end Lines (stage.Lines lines) s = inl s.0
  open_or_end Lines stage.Whole s = absurd s
  open_or_end Lines stage.AtEnd s = absurd s
  open_or_end Lines stage.Ended s = absurd s
  open_or_end WholeInput (stage.Lines lines) s = absurd s
  open_or_end WholeInput stage.Whole s = inl tt
  open_or_end WholeInput stage.AtEnd s = inr refl
  open_or_end WholeInput stage.Ended s = absurd s

-- what a stage is after a move, how many turns are left, and what was taken
pub record MovesOn (mode : Mode) (line : ℕ) (st after : Stage) (more : List BundleOf) (first left_after : Option (List ℕ)) : Type 0 where
  pub stage_is : IsStageOf mode after more first left_after
  pub fewer : turns_left after < turns_left st
  pub few : TakesFew mode line first left_after

module _ (bundles more : List BundleOf) (line : ℕ) (first left left_after : Option (List ℕ)) where
  moves-lines : (lines : LinesState) (after : Stage) → IsStageOf Lines (stage.Lines lines) bundles first left → Moves line (stage.Lines lines) after left left_after
      → MovesOn Lines line (stage.Lines lines) after more first left_after
  moves-lines lines (stage.Lines after) s m = record {
    stage_is = (m.0, m.5 lines_start first s.1, m.3);
    fewer = omega (arith, m.2, m.3);
    few = record { at = after; line_is = sym m.1; few = m.4; accounts = m.5 lines_start first s.1 };
  }
  moves-lines lines stage.Whole s m = absurd m
  moves-lines lines stage.AtEnd s m = absurd m
  moves-lines lines stage.Ended s m = absurd m

  moves-whole : (after : Stage) → IsStageOf WholeInput stage.Whole bundles first left → Moves line stage.Whole after left left_after
      → MovesOn WholeInput line stage.Whole after more first left_after
  moves-whole (stage.Lines lines) s m = absurd m
  moves-whole stage.Whole s m = absurd m
  moves-whole stage.AtEnd s m =
      let takes = subst (λ (l : Option (List ℕ)). TakesAtMost (MAX_WHOLE_INPUT + MAX_READ) l left_after) s.0 m.2 in
      record { stage_is = (m.1, takes); fewer = omega arith; few = takes }
  moves-whole stage.Ended s m = absurd m

  pub moves_on : (mode : Mode) (st after : Stage) → IsStageOf mode st bundles first left → Moves line st after left left_after → MovesOn mode line st after more first left_after
  moves_on Lines (stage.Lines lines) after s m = moves-lines lines after s m
  moves_on Lines stage.Whole after s m = absurd s
  moves_on Lines stage.AtEnd after s m = absurd s
  moves_on Lines stage.Ended after s m = absurd s
  moves_on WholeInput (stage.Lines lines) after s m = absurd s
  moves_on WholeInput stage.Whole after s m = moves-whole after s m
  moves_on WholeInput stage.AtEnd after s m = absurd m
  moves_on WholeInput stage.Ended after s m = absurd s

-- ---- when the last read began

each_told : (began : Option (List ℕ)) {P Q : List ℕ → Type 0} → ((bytes : List ℕ) → P bytes → Q bytes) → IfSome began P → IfSome began Q
each_told None each told = tt
each_told (Some bytes) each told = each bytes told

-- no whole line stands in no bytes
none_held : (lines : LinesState) → lines ≡ lines_start → ¬ (HoldsLine lines.held)
none_held lines is holds = let none : list_any is_whole (raw_lines []) ≡ false = refl in
    let some : list_any is_whole (raw_lines []) ≡ true = ap (λ (l : LinesState). list_any is_whole (raw_lines l.held)) (sym is) ∙ holds in cc

module _ (bundles : List BundleOf) (line : ℕ) (first left left_after began began_after : Option (List ℕ)) where
  lines_in_time : (lines after : LinesState) → IsStageOf Lines (stage.Lines lines) bundles first left → Moves line (stage.Lines lines) (stage.Lines after) left left_after
      → IsReadInTime Lines (stage.Lines lines) first began → (HoldsLine lines.held → began_after ≡ began)
      → (¬ (HoldsLine lines.held) → IfSome began_after (LacksLine lines line left)) → BeganInTime Lines line first began_after
  lines_in_time lines after s m so_far unread in_time = go (list_any is_whole (raw_lines lines.held)) refl so_far
    where
      counts : lines.count < line + 1
      counts = let gone = m.5 lines left (start_accounts lines left) in omega (arith, m.1, gone.count)

      go : (holds : Bool) → list_any is_whole (raw_lines lines.held) ≡ holds → IsReadInTime Lines (stage.Lines lines) first began → BeganInTime Lines line first began_after
      go true holds (inl start) = absurd (none_held lines start holds)
      go true holds (inr told) = subst (λ (b : Option (List ℕ)). BeganInTime Lines line first b) (sym (unread holds))
          (each_told began (λ bytes lacks. record { at = lacks.at; fewer = omega (arith, lacks.fewer, counts); part = lacks.part; accounts = lacks.accounts }) told)
      go false holds far = each_told began_after (λ bytes lacks. record { at = lacks.at; fewer = lacks.fewer; part = lacks.part; accounts = lacks.accounts lines_start first s.1 })
          (in_time (λ is. cc))

  -- a bundle was given
  pub gives_in_time : (mode : Mode) (st after : Stage) → IsStageOf mode st bundles first left → Moves line st after left left_after → IsReadInTime mode st first began
      → (HoldsLines st → began_after ≡ began) → (¬ (HoldsLines st) → IfSome began_after (LacksLineIn st line left)) → BeganInTime mode line first began_after
  gives_in_time Lines (stage.Lines lines) (stage.Lines after) s m so_far unread in_time = lines_in_time lines after s m so_far unread in_time
  gives_in_time Lines (stage.Lines lines) stage.Whole s m so_far unread in_time = absurd m
  gives_in_time Lines (stage.Lines lines) stage.AtEnd s m so_far unread in_time = absurd m
  gives_in_time Lines (stage.Lines lines) stage.Ended s m so_far unread in_time = absurd m
  gives_in_time Lines stage.Whole after s m so_far unread in_time = absurd s
  gives_in_time Lines stage.AtEnd after s m so_far unread in_time = absurd s
  gives_in_time Lines stage.Ended after s m so_far unread in_time = absurd s
  gives_in_time WholeInput (stage.Lines lines) after s m so_far unread in_time = absurd s
  gives_in_time WholeInput stage.Whole after s m so_far unread in_time = in_time (λ holds. holds)
  gives_in_time WholeInput stage.AtEnd after s m so_far unread in_time = absurd m
  gives_in_time WholeInput stage.Ended after s m so_far unread in_time = absurd s

  -- and the next one may come
  pub stays_in_time : (mode : Mode) (st after : Stage) → IsStageOf mode st bundles first left → Moves line st after left left_after
      → BeganInTime mode line first began_after → IsReadInTime mode after first began_after
  stays_in_time Lines (stage.Lines lines) (stage.Lines after) s m told = inr (subst (λ (n : ℕ). BeganInTime Lines n first began_after) m.1 told)
  stays_in_time Lines (stage.Lines lines) stage.Whole s m told = absurd m
  stays_in_time Lines (stage.Lines lines) stage.AtEnd s m told = absurd m
  stays_in_time Lines (stage.Lines lines) stage.Ended s m told = absurd m
  stays_in_time Lines stage.Whole after s m told = absurd s
  stays_in_time Lines stage.AtEnd after s m told = absurd s
  stays_in_time Lines stage.Ended after s m told = absurd s
  stays_in_time WholeInput (stage.Lines lines) after s m told = absurd s
  stays_in_time WholeInput stage.Whole (stage.Lines lines) s m told = absurd m
  stays_in_time WholeInput stage.Whole stage.Whole s m told = absurd m
  stays_in_time WholeInput stage.Whole stage.AtEnd s m told = told
  stays_in_time WholeInput stage.Whole stage.Ended s m told = absurd m
  stays_in_time WholeInput stage.AtEnd after s m told = absurd m
  stays_in_time WholeInput stage.Ended after s m told = absurd s

module _ (bundles : List BundleOf) (first left left_after : Option (List ℕ)) where
  -- a line is refused
  pub takes_little : (mode : Mode) (st : Stage) (line : ℕ) → IsStageOf mode st bundles first left → TakesLittleAhead st line left left_after
      → RunTakesLittle mode line first left_after
  takes_little Lines (stage.Lines lines) line s t = record { at = t.at; lines = t.lines; few = t.few; accounts = t.accounts lines_start first s.1 }
  takes_little Lines stage.Whole line s t = absurd s
  takes_little Lines stage.AtEnd line s t = absurd s
  takes_little Lines stage.Ended line s t = absurd s
  takes_little WholeInput (stage.Lines lines) line s t = absurd s
  takes_little WholeInput stage.Whole line s t = subst (λ (l : Option (List ℕ)). TakesAtMost (MAX_WHOLE_INPUT + MAX_READ) l left_after) s.0 t
  takes_little WholeInput stage.AtEnd line s t = absurd t
  takes_little WholeInput stage.Ended line s t = absurd s

-- the end came of an input that was still to be read
pub to_end : (st after : Stage) (left left_after : Option (List ℕ)) → ComesToEnd st after left left_after → IsAtEnd left_after
to_end st after left left_after comes = comes.drained

-- it had come before
pub at_end : (bundles : List BundleOf) (first left : Option (List ℕ)) (mode : Mode) (st : Stage) → IsStageOf mode st bundles first left
    → st ≡ stage.AtEnd → IsAtEnd left
at_end bundles first left Lines st s is =
    let none : ⊥ = subst (λ (x : Stage). IsStageOf Lines x bundles first left) is s in absurd none
at_end bundles first left WholeInput st s is = (subst (λ (x : Stage). IsStageOf WholeInput x bundles first left) is s).0
