-- A query read up to some pair.
use Rattle.std.proofs.Common.{◌≡◌, ◌⊎◌, inl, inr, ℕ, List, [], ◌∷◌, ◌++◌, map, Result, Ok, Err, sym, subst, ◌∙◌, append_assoc}
use Rattle.std.specs.Prelude.{OnOk, IfErr}
use Rattle.taxii_routes.specs.declared.param.Param.{Param}
use Rattle.taxii_routes.specs.declared.query.Query.{Query}
use Rattle.taxii_routes.specs.declared.refusal.QueryRefusal.{QueryRefusal}
use Rattle.taxii_routes.specs.declared.refusal.QueryRefusal.TheVariants.{NoMemory}
use Rattle.taxii_routes.specs.Param.{param_name}
use Rattle.taxii_routes.specs.Query.{Pair, decoded_text, pairs_of, IsQueryOf, IsBadPairAfter, IsRefusedQuery}
use Rattle.taxii_routes.specs.inner.Step.{AddsParameter, CannotAddParameter, Steps, Stops}
use Rattle.taxii_routes.proofs.FieldLemmas.{AddAnswers}
use Rattle.taxii_routes.proofs.QueryLemmas.{query_passes, query_grows, query_stops}

abbrev pub decoded : Pair → Pair
decoded pair = (decoded_text pair.0, decoded_text pair.1)

-- the pairs up to here ask for the query, and these come yet
pub record Reads (text : List ℕ) (left : List Pair) (query : Query) : Type 0 where
  pub done : List Pair
  pub all : pairs_of text ≡ done ++ map decoded left
  pub asks : IsQueryOf done query

moves : (text : List ℕ) (raw : Pair) (left : List Pair) (query : Query) (reads : Reads text (raw ∷ left) query) → pairs_of text ≡ (reads.done ++ decoded raw ∷ []) ++ map decoded left
moves text raw left query reads = reads.all ∙ sym (append_assoc reads.done (decoded raw ∷ []) (map decoded left))

pub reads_on : (text : List ℕ) (raw : Pair) (left : List Pair) (old new : Query) → Reads text (raw ∷ left) old → Steps raw.0 raw.1 old new → Reads text left new
reads_on text raw left old new reads (inl (param, named, adds)) = record {
  done = reads.done ++ decoded raw ∷ [];
  all = moves text raw left old reads;
  asks = query_grows reads.done (decoded raw) param old new named adds reads.asks;
}
reads_on text raw left old new reads (inr (other, same)) = record {
  done = reads.done ++ decoded raw ∷ [];
  all = moves text raw left old reads;
  asks = subst (λ query. IsQueryOf (reads.done ++ decoded raw ∷ []) query) (sym same) (query_passes reads.done (decoded raw) old other reads.asks);
}

pub reads_stop : (text : List ℕ) (raw : Pair) (left : List Pair) (old : Query) (refusal : QueryRefusal) → Reads text (raw ∷ left) old → Stops raw.0 raw.1 old refusal
    → (refusal ≡ NoMemory) ⊎ IsRefusedQuery (pairs_of text) refusal
reads_stop text raw left old refusal reads (inl none) = inl none
reads_stop text raw left old refusal reads (inr (param, named, cannot)) = go (query_stops reads.done (decoded raw) param old refusal named reads.asks cannot)
  where
    go : (refusal ≡ NoMemory) ⊎ IsBadPairAfter reads.done (decoded raw) refusal → (refusal ≡ NoMemory) ⊎ IsRefusedQuery (pairs_of text) refusal
    go (inl none) = inl none
    go (inr bad) = inr (record { before = reads.done; pair = decoded raw; after = map decoded left; spelling = reads.all; fine = (old, reads.asks); bad = bad })

-- what adding a value says of the encoded pair
pub pair_answers : (name value : List ℕ) (param : Param) (shown worth : List ℕ) (old new : Query) (answer : Result (Unit {0}) QueryRefusal)
    → shown ≡ decoded_text name → worth ≡ decoded_text value → shown ≡ param_name param → AddAnswers param worth old new answer
    → OnOk answer (Steps name value old new) × IfErr answer (Stops name value old)
pair_answers name value param shown worth old new (Ok u) same also named adds =
    (inl (param, sym same ∙ named, subst (λ w. AddsParameter param w old new) also adds.0), tt)
pair_answers name value param shown worth old new (Err e) same also named adds =
    (tt, inr (param, sym same ∙ named, subst (λ w. CannotAddParameter param w old e) also adds.1))
