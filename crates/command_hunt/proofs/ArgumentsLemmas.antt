-- Arguments, and what they ask for.
use Rattle.std.proofs.Common.{◌≡◌, ◌≢◌, ◌↔◌, inl, inr, ℕ, ◌≤◌, ◌<◌, ◌-◌, ◌==◌, Bool, true, false, not, IsTrue, ℤ, List, [], ◌∷◌, ◌++◌, length, take, drop, Option, Some, None, Result, Ok, IsErr, IfSome, IfNone, String, Global, string_bytes, get_or, refl, sym, ap, subst, ◌∙◌, arith}
use Rattle.std.proofs.Math.Seq.{take-length}
use Rattle.std.proofs.lemmas.Bool.{false≢true, eqb-true}
use Rattle.std.proofs.lemmas.List.{map-append}
use Rattle.stix_times.specs.declared.refusal.TimeRefusal.{TimeRefusal}
use Rattle.stix_times.specs.Reading.{IsTextOfInstant, ReadsTimestamp}
use Rattle.command_line.specs.CommandLines.{IsNumberIn, IsNumberOr, argument_texts}
use Rattle.command_line.specs.declared.numbers.TheConstants.{DEFAULT_RETAINED_LIMIT, MAX_RETAINED_LIMIT}
use Rattle.command_hunt.specs.Tasks.{HuntTask, ArePositions, AreWithOption, OptionBefore, OptionAfter, AskForHunt, AskForNoHunt, hunt_task}
use Rattle.command_hunt.specs.declared.arguments.HuntRequest.{HuntRequest}

abbrev Argument : Type 0
Argument = String Global

pub one-argument : (arguments : List Argument) (a : Argument) → 1 ≤ length arguments → length arguments < 2 → a ≡ get_or arguments 0 a → argument_texts arguments ≡ string_bytes a ∷ []
one-argument [] a least most is = absurd (omega arith)
one-argument (x ∷ []) a least most is = ap (λ (argument : Argument). string_bytes argument ∷ []) (sym is)
one-argument (x ∷ y ∷ arguments) a least most is = absurd (omega arith)

pub first-argument : (arguments : List Argument) (a : Argument) → 1 ≤ length arguments → a ≡ get_or arguments 0 a → (rest : List (List ℕ)) × (argument_texts arguments ≡ string_bytes a ∷ rest)
first-argument [] a least is = absurd (omega arith)
first-argument (x ∷ arguments) a least is = (argument_texts arguments, ap (λ (argument : Argument). string_bytes argument ∷ argument_texts arguments) (sym is))

-- an argument is the retained limit
module _ (texts_of : List (List ℕ)) (own text : List ℕ) (are : texts_of ≡ own ∷ []) (same : text ≡ own) where
  pub retained_limit-some : (answer : Option ℕ) → ((n : ℕ) → (answer ≡ Some n) ↔ IsNumberIn 1 MAX_RETAINED_LIMIT text n) → IfSome answer (IsNumberOr DEFAULT_RETAINED_LIMIT 1 MAX_RETAINED_LIMIT texts_of)
  retained_limit-some (Some n) reads =
      subst (λ (t : List (List ℕ)). IsNumberOr DEFAULT_RETAINED_LIMIT 1 MAX_RETAINED_LIMIT t n) (sym are) (subst (λ (t : List ℕ). IsNumberIn 1 MAX_RETAINED_LIMIT t n) same ((reads n).0 refl))
  retained_limit-some None reads = tt

  pub retained_limit-none : (answer : Option ℕ) → ((n : ℕ) → (answer ≡ Some n) ↔ IsNumberIn 1 MAX_RETAINED_LIMIT text n) → IfNone answer ((n : ℕ) → ¬ IsNumberOr DEFAULT_RETAINED_LIMIT 1 MAX_RETAINED_LIMIT texts_of n)
  retained_limit-none (Some n) reads = tt
  retained_limit-none None reads = λ n is.
      let found : None ≡ Some n = (reads n).1 (subst (λ (t : List ℕ). IsNumberIn 1 MAX_RETAINED_LIMIT t n) (sym same) (subst (λ (t : List (List ℕ)). IsNumberOr DEFAULT_RETAINED_LIMIT 1 MAX_RETAINED_LIMIT t n) are is)) in
      absurd (cc)

-- the first argument is no time
pub no-moment : (texts_of : List (List ℕ)) (own text : List ℕ) (rest : List (List ℕ)) → texts_of ≡ own ∷ rest → text ≡ own → (answer : Result ℤ TimeRefusal)
    → ((other : Result ℤ TimeRefusal) → ReadsTimestamp text other → other ≡ answer) → IsErr answer → (moment : ℤ) (retained_limit : ℕ) → ¬ ArePositions texts_of moment retained_limit
no-moment texts_of own text rest are same answer only err moment retained_limit asked =
    let both : own ∷ rest ≡ asked.time ∷ asked.caps = sym are ∙ asked.arguments_are in
    let time : asked.time ≡ text = (let it : own ≡ asked.time = cc in sym it ∙ sym same) in
    let read : Ok moment ≡ answer = only (Ok moment) (subst (λ (t : List ℕ). IsTextOfInstant t moment) time asked.time_is) in
    let wrong : IsErr {T = ℤ} {E = TimeRefusal} (Ok moment) = subst IsErr (sym read) err in
    cc

-- ---- the option and its value, ahead of the others or after them

two-first : (arguments : List Argument) (a b : Argument) → 2 ≤ length arguments → a ≡ get_or arguments 0 a → b ≡ get_or arguments 1 b
    → arguments ≡ a ∷ b ∷ take (length arguments - 2) (drop 2 arguments)
two-first [] a b least is_a is_b = absurd (omega arith)
two-first (x ∷ []) a b least is_a is_b = absurd (omega arith)
two-first (x ∷ y ∷ arguments) a b least is_a is_b =
    let count : length (x ∷ y ∷ arguments) - 2 ≡ length arguments = omega arith in
    let rest : take (length (x ∷ y ∷ arguments) - 2) (drop 2 (x ∷ y ∷ arguments)) ≡ arguments = ap (λ (n : ℕ). take n arguments) count ∙ take-length arguments in
    cc

pub two-ahead : (arguments : List Argument) (a b : Argument) (option name : List ℕ) → 2 ≤ length arguments → a ≡ get_or arguments 0 a → b ≡ get_or arguments 1 b
    → option ≡ string_bytes a → name ≡ string_bytes b → argument_texts arguments ≡ option ∷ name ∷ argument_texts (take (length arguments - 2) (drop 2 arguments))
two-ahead arguments a b option name least is_a is_b is_option is_name = let are = ap argument_texts (two-first arguments a b least is_a is_b) in cc

pub some-behind : (arguments : List (List ℕ)) (option name : List ℕ) (others : List (List ℕ)) → arguments ≡ others ++ option ∷ name ∷ [] → (answer : Option HuntRequest)
    → IfSome answer (λ request. AreWithOption option name others (hunt_task request)) → IfSome answer (λ request. OptionAfter arguments (hunt_task request))
some-behind arguments option name others are None is = tt
some-behind arguments option name others are (Some request) is = record { option = option; name = name; others = others; arguments_are = are; are = is }

pub if_none : {A : Type 0} {P Q : Type 0} (answer : Option A) → (P → Q) → IfNone answer P → IfNone answer Q
if_none None maps fact = maps fact
if_none (Some a) maps fact = tt

-- the arguments are that in one way
pub none-ahead : (arguments : List (List ℕ)) (option name : List ℕ) (others : List (List ℕ)) → arguments ≡ option ∷ name ∷ others
    → ((task : HuntTask) → ¬ AreWithOption option name others task) → (task : HuntTask) → ¬ OptionBefore arguments task
none-ahead arguments option name others are none task asked =
    let both : option ∷ name ∷ others ≡ asked.option ∷ asked.name ∷ asked.others = sym are ∙ asked.arguments_are in
    let first : asked.option ≡ option = cc in
    let second : asked.name ≡ name = cc in
    let rest : asked.others ≡ others = cc in
    none task (subst (λ (o : List ℕ). AreWithOption o name others task) first (subst (λ (n : List ℕ). AreWithOption asked.option n others task) second
    (subst (λ (r : List (List ℕ)). AreWithOption asked.option asked.name r task) rest asked.are)))

last-two : (xs ys : List (List ℕ)) (a b c d : List ℕ) → xs ++ a ∷ b ∷ [] ≡ ys ++ c ∷ d ∷ [] → (xs ≡ ys) × (a ≡ c) × (b ≡ d)
last-two [] [] a b c d is = (refl, cc, cc)
last-two [] (y ∷ []) a b c d is = absurd (cc)
last-two [] (y ∷ z ∷ []) a b c d is = absurd (cc)
last-two [] (y ∷ z ∷ w ∷ ys) a b c d is = absurd (cc)
last-two (x ∷ []) [] a b c d is = absurd (cc)
last-two (x ∷ z ∷ []) [] a b c d is = absurd (cc)
last-two (x ∷ z ∷ w ∷ xs) [] a b c d is = absurd (cc)
last-two (x ∷ xs) (y ∷ ys) a b c d is =
    let head : x ≡ y = cc in
    let tail : xs ++ a ∷ b ∷ [] ≡ ys ++ c ∷ d ∷ [] = cc in
    let same = last-two xs ys a b c d tail in
    (cc, same.1, same.2)

pub none-behind : (arguments : List (List ℕ)) (option name : List ℕ) (others : List (List ℕ)) → arguments ≡ others ++ option ∷ name ∷ []
    → ((task : HuntTask) → ¬ AreWithOption option name others task) → (task : HuntTask) → ¬ OptionAfter arguments task
none-behind arguments option name others are none task asked =
    let same = last-two asked.others others asked.option asked.name option name (sym asked.arguments_are ∙ are) in
    none task (subst (λ (o : List ℕ). AreWithOption o name others task) same.1 (subst (λ (n : List ℕ). AreWithOption asked.option n others task) same.2
    (subst (λ (r : List (List ℕ)). AreWithOption asked.option asked.name r task) same.0 asked.are)))

-- the arguments before the last two, and these
last-are : (xs : List Argument) (a b : Argument) → length xs ≡ 2 → a ≡ get_or xs 0 a → b ≡ get_or xs 1 b → xs ≡ a ∷ b ∷ []
last-are [] a b count is_a is_b = absurd (omega arith)
last-are (x ∷ []) a b count is_a is_b = absurd (omega arith)
last-are (x ∷ y ∷ []) a b count is_a is_b = cc
last-are (x ∷ y ∷ z ∷ xs) a b count is_a is_b = absurd (omega arith)

pub two-behind : (arguments others last : List Argument) (a b : Argument) (option name : List ℕ) → arguments ≡ others ++ last → length last ≡ 2 → a ≡ get_or last 0 a
    → b ≡ get_or last 1 b → option ≡ string_bytes a → name ≡ string_bytes b → argument_texts arguments ≡ argument_texts others ++ option ∷ name ∷ []
two-behind arguments others last a b option name are count is_a is_b is_option is_name =
    let two = last-are last a b count is_a is_b in
    let parts : argument_texts arguments ≡ argument_texts others ++ argument_texts last = ap argument_texts are ∙ map-append (λ (w : Argument). string_bytes w) others last in
    let own : argument_texts last ≡ option ∷ name ∷ [] = (let it = ap argument_texts two in cc) in
    parts ∙ ap (λ (l : List (List ℕ)). argument_texts others ++ l) own

-- an argument that isn't empty is a name
pub named-so : (name : List ℕ) (empty : Bool) → empty ≡ (length name == 0) → IsTrue (not empty) ↔ (name ≢ [])
named-so [] true is = ((λ yes none. absurd (false≢true yes)), (λ named. absurd (named refl)))
named-so [] false is = absurd (false≢true is)
named-so (c ∷ cs) true is = let none : length (c ∷ cs) ≡ 0 = eqb-true (length (c ∷ cs)) 0 (sym is) in absurd (omega arith)
named-so (c ∷ cs) false is = ((λ yes none. absurd (cc)), (λ named. refl))

-- the arguments are in none of the three forms
pub nothing-asked : {A : Type 0} (arguments : List (List ℕ)) (positions : Option A) (ahead behind : Option HuntRequest) → positions ≡ None → ahead ≡ None
    → IfNone positions ((moment : ℤ) (retained_limit : ℕ) → ¬ ArePositions arguments moment retained_limit) → IfNone ahead ((task : HuntTask) → ¬ OptionBefore arguments task)
    → IfNone behind ((task : HuntTask) → ¬ OptionAfter arguments task) → IfNone behind (AskForNoHunt arguments)
nothing-asked arguments (Some p) ahead behind none_positions none_ahead not_positions not_ahead not_behind = absurd (cc)
nothing-asked arguments None (Some request) behind none_positions none_ahead not_positions not_ahead not_behind = absurd (cc)
nothing-asked arguments None None (Some request) none_positions none_ahead not_positions not_ahead not_behind = tt
nothing-asked arguments None None None none_positions none_ahead not_positions not_ahead not_behind = none
  where
    none : (task : HuntTask) → ¬ AskForHunt arguments task
    none task (inl alone) = not_positions task.moment task.retained_limit alone.1
    none task (inr (inl asked)) = not_ahead task asked
    none task (inr (inr asked)) = not_behind task asked
