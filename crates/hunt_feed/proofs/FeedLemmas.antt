-- How far a feed is read, after each of its objects.
use Rattle.std.proofs.Common.{◌≡◌, ℕ, zero, suc, List, [], ◌∷◌, ◌++◌, Option, None, Some, option_map, IfSome, sym, subst, append_assoc, arith}
use Rattle.std.proofs.lemmas.List.{append-nil}
use Rattle.serde_json.specs.Data.{Data}
use Rattle.flow_lines.specs.Lines.{LineStream, ended, line_then, lines_start, lines_remaining}
use Rattle.stix_objects.specs.Breaks.{AreBreaksOf}
use Rattle.hunt_feed.specs.Gathering.{Gathered, GathersFor}
use Rattle.hunt_feed.specs.declared.rule.FeedRule.{FeedRule}
use Rattle.hunt_feed.specs.Feeds.{FeedClose, Whole, Refused, ReadsFeedLines, at_end, at_refusal, one_object, IsFeedRefusedAt, ReadsFeed, AreUnbroken, GathersFeed}
use Rattle.hunt_feed.specs.inner.Ends.{GivesObject, ReadsRemaining, GathersSoFar}

-- ---- the objects of a feed

-- one object more
module _ (all before after : Option LineStream) (object : Data) (gives : GivesObject before after object) where
  reads_one : (later : Option LineStream) (more : List Data) (close : FeedClose) → IfSome later (λ lines. ReadsFeedLines lines more close)
      → IfSome (option_map (λ l. line_then gives.number gives.bytes l) later) (λ lines. ReadsFeedLines lines (object ∷ more) close)
  reads_one None more close reads = tt
  reads_one (Some lines) more close reads = one_object gives.is reads

  pub behind_one : (objects : List Data) → ReadsRemaining all before objects → ReadsRemaining all after (objects ++ object ∷ [])
  behind_one objects behind more close reads =
      subst (λ (os : List Data). IfSome all (λ lines. ReadsFeedLines lines os close)) (sym (append_assoc objects (object ∷ []) more))
      (behind (object ∷ more) close (subst (λ (b : Option LineStream). IfSome b (λ lines. ReadsFeedLines lines (object ∷ more) close)) (sym gives.line) (reads_one after more close reads)))

-- none breaks a rule
unbroken_one : (objects : List Data) (object : Data) → AreUnbroken objects → AreBreaksOf object [] → AreUnbroken (objects ++ object ∷ [])
unbroken_one [] added all one zero d less = one
unbroken_one [] added all one (suc k) d less = absurd (omega arith)
unbroken_one (x ∷ xs) added all one zero d less = all zero d (omega arith)
unbroken_one (x ∷ xs) added all one (suc k) d less = unbroken_one xs added (λ j e inside. all (suc j) e (omega arith)) one k d (omega arith)

pub gathers_one : (all before after : Option LineStream) (old new : Gathered) (object : Data) → GivesObject before after object
    → (so : GathersSoFar all before old) → GathersFor new (so.objects ++ object ∷ []) → GathersSoFar all after new
gathers_one all before after old new added gives so gathers = record {
  objects = so.objects ++ added ∷ [];
  unbroken = unbroken_one so.objects added so.unbroken gives.is.unbroken;
  gathers = gathers;
  behind = behind_one all before after added gives so.objects so.behind;
}

-- ---- how a feed ends

-- the lines of a source, from its start
pub from_start : (left : Option (List ℕ)) (objects : List Data) (close : FeedClose) → IfSome (lines_remaining lines_start left) (λ lines. ReadsFeedLines lines objects close)
    → ReadsFeed left objects close
from_start None objects close reads = tt
from_start (Some bytes) objects close reads = reads

module _ (left : Option (List ℕ)) (ahead : Option LineStream) (gathered : Gathered) (so : GathersSoFar (lines_remaining lines_start left) ahead gathered) where
  reads_end : (lines : Option LineStream) → IfSome lines (λ ls. ls ≡ ended) → IfSome lines (λ ls. ReadsFeedLines ls [] Whole)
  reads_end None is = tt
  reads_end (Some lines) is = subst (λ (ls : LineStream). ReadsFeedLines ls [] Whole) (sym is) at_end

  pub gathers_whole : IfSome ahead (λ lines. lines ≡ ended) → GathersFeed left gathered so.objects
  gathers_whole is = record {
    reading = from_start left so.objects Whole (subst (λ (os : List Data). IfSome (lines_remaining lines_start left) (λ lines. ReadsFeedLines lines os Whole)) (append-nil so.objects)
        (so.behind [] Whole (reads_end ahead is)));
    unbroken = so.unbroken;
    gathers = so.gathers;
  }

  reads_refused : (lines : Option LineStream) (line : ℕ) (why : FeedRule) → IfSome lines (λ ls. IsFeedRefusedAt ls line why) → IfSome lines (λ ls. ReadsFeedLines ls [] (Refused line why))
  reads_refused None line why is = tt
  reads_refused (Some lines) line why is = at_refusal is

  pub feed_refused : (line : ℕ) (why : FeedRule) → IfSome ahead (λ lines. IsFeedRefusedAt lines line why) → ReadsFeed left so.objects (Refused line why)
  feed_refused line why is =
      from_start left so.objects (Refused line why) (subst (λ (os : List Data). IfSome (lines_remaining lines_start left) (λ lines. ReadsFeedLines lines os (Refused line why)))
      (append-nil so.objects) (so.behind [] (Refused line why) (reads_refused ahead line why is)))
