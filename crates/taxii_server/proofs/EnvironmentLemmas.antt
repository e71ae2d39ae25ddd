-- What stands environment of a server, in turn: links, moments of the clock, faults of the keeper.
use Rattle.std.proofs.Common.{◌≡◌, ℕ, zero, suc, ◌+◌, List, [], ◌∷◌, ◌++◌, length, Option, Some, IfSome, refl, sym, ap, ◌∙◌, subst, add-zero, arith, length-append}
use Rattle.std.proofs.lemmas.List.{map-append}
use Rattle.std.specs.Prelude.{slice_get}
use Rattle.flow_edges.specs.Flow.{SinkSide, SourceSide}
use Rattle.taxii_service.specs.Exchanges.{Exchange}
use Rattle.taxii_server.specs.Environment.{Environment, GivesMoments, HasIncreasedBy}
use Rattle.taxii_server.specs.Connections.{Pass, keeper_faults}

-- a read of a link leaves what was written as it is
pub sink_side : {before now : SinkSide} {bytes bytes_now : Option (List ℕ)} {faults faults_now : ℕ} → before ≡ record { written = bytes; faults = faults }
    → now ≡ record { written = bytes_now; faults = faults_now } → now ≡ before → (bytes_now ≡ bytes) × (faults_now ≡ faults)
sink_side {bytes = bytes} {bytes_now = bytes_now} {faults = faults} {faults_now = faults_now} is is_now same =
    let sides : ◌≡◌ {A = SinkSide} (record { written = bytes_now; faults = faults_now }) (record { written = bytes; faults = faults }) = sym is_now ∙ same ∙ is in
    (ap (λ (side : SinkSide). side.written) sides, ap (λ (side : SinkSide). side.faults) sides)

-- and a write what is left, and when the last read began
pub source_side : {before now : SourceSide} {bytes bytes_now began began_now : Option (List ℕ)} {faults faults_now : ℕ}
    → before ≡ record { left = bytes; began = began; faults = faults } → now ≡ record { left = bytes_now; began = began_now; faults = faults_now } → now ≡ before
    → (bytes_now ≡ bytes) × (faults_now ≡ faults) × (began_now ≡ began)
source_side {bytes = bytes} {bytes_now = bytes_now} {began = began} {began_now = began_now} {faults = faults} {faults_now = faults_now} is is_now same =
    let sides : ◌≡◌ {A = SourceSide} (record { left = bytes_now; began = began_now; faults = faults_now }) (record { left = bytes; began = began; faults = faults })
    = sym is_now ∙ same ∙ is in
    (ap (λ (side : SourceSide). side.left) sides, ap (λ (side : SourceSide). side.faults) sides, ap (λ (side : SourceSide). side.began) sides)

-- ---- moments

abbrev AreGiven : List ℕ → (ℕ → Option ℕ) → Type 0
AreGiven moments before = (n moment : ℕ) → slice_get moments n ≡ Some moment → IfSome (before n) (λ observable. moment ≡ observable)

are_given-then : (first later : List ℕ) (before middle : ℕ → Option ℕ) → AreGiven first before → ((n : ℕ) → middle n ≡ before (n + length first))
    → AreGiven later middle → AreGiven (first ++ later) before
are_given-then [] later before middle given continues behind n moment is =
    subst (λ (o : Option ℕ). IfSome o (λ observable. moment ≡ observable)) (continues n ∙ ap before (add-zero n)) (behind n moment is)
are_given-then (one ∷ first) later before middle given continues behind zero moment is = given zero moment is
are_given-then (one ∷ first) later before middle given continues behind (suc n) moment is =
    are_given-then first later (λ n. before (suc n)) middle (λ n moment is. given (suc n) moment is) (λ n. continues n ∙ ap before (omega arith)) behind n moment is

pub moments-none : (before : ℕ → Option ℕ) → GivesMoments [] before before
moments-none before = record { given = λ n moment is. absurd (cc is); continues = λ n. ap before (omega arith) }

pub moments-then : (first later : List ℕ) (before middle now : ℕ → Option ℕ) → GivesMoments first before middle → GivesMoments later middle now
    → GivesMoments (first ++ later) before now
moments-then first later before middle now gives behind = record {
  given = are_given-then first later before middle gives.given gives.continues behind.given;
  continues = λ n. behind.continues n ∙ gives.continues (n + length later) ∙ ap before (omega (arith, length-append first later));
}

-- ---- faults of the keeper

keeper_faults-append : (first later : List Exchange) → keeper_faults (first ++ later) ≡ keeper_faults first + keeper_faults later
keeper_faults-append [] later = omega arith
keeper_faults-append (e ∷ first) later = omega (arith, keeper_faults-append first later)

pub rose_by-then : (first later before middle now : ℕ) → HasIncreasedBy first before middle → HasIncreasedBy later middle now → HasIncreasedBy (first + later) before now
rose_by-then first later before middle now rose behind = omega arith

-- ---- both

pub pass-none : (before : Environment) → Pass [] before before
pass-none before = record { moments = moments-none before.moments; faults = omega arith; quiet = λ none. refl }

pub pass-then : (first later : List Exchange) (before middle now : Environment) → Pass first before middle → Pass later middle now → Pass (first ++ later) before now
pass-then first later before middle now pass behind = record {
  moments = rw map-append (moments-then _ _ _ _ _ pass.moments behind.moments);
  faults = rw keeper_faults-append (rose_by-then _ _ _ _ _ pass.faults behind.faults);
  quiet = λ none.
      let both : keeper_faults first + keeper_faults later ≡ 0 = sym (keeper_faults-append first later) ∙ none in
      behind.quiet (omega (arith, both)) ∙ pass.quiet (omega (arith, both));
}
