-- Texts that are added in turn.
use Rattle.std.proofs.Common.{◌≡◌, ℕ, List, ◌++◌, ap, ◌∙◌}
use Rattle.std.proofs.lemmas.List.{append_assoc}

pushed : (t a b s : List ℕ) (s1 : List ℕ) → s1 ≡ t ++ a → s ≡ s1 ++ b → s ≡ t ++ (a ++ b)
pushed t a b s s1 first second = second ∙ ap (λ (x : List ℕ). x ++ b) first ∙ append_assoc t a b

pub pushed4 : (t a b c d s1 s2 s3 s4 : List ℕ) → s1 ≡ t ++ a → s2 ≡ s1 ++ b → s3 ≡ s2 ++ c → s4 ≡ s3 ++ d → s4 ≡ t ++ (a ++ b ++ c ++ d)
pushed4 t a b c d s1 s2 s3 s4 e1 e2 e3 e4 =
    pushed t (a ++ b ++ c) d s4 s3 (pushed t (a ++ b) c s3 s2 (pushed t a b s2 s1 e1 e2) e3) e4

pub pushed5 : (t a b c d e s1 s2 s3 s4 s5 : List ℕ) → s1 ≡ t ++ a → s2 ≡ s1 ++ b → s3 ≡ s2 ++ c → s4 ≡ s3 ++ d → s5 ≡ s4 ++ e → s5 ≡ t ++ (a ++ b ++ c ++ d ++ e)
pushed5 t a b c d e s1 s2 s3 s4 s5 e1 e2 e3 e4 e5 =
    pushed t (a ++ b ++ c ++ d) e s5 s4 (pushed4 t a b c d s1 s2 s3 s4 e1 e2 e3 e4) e5

pub added : (t a b s : List ℕ) → s ≡ t ++ a → a ≡ b → s ≡ t ++ b
added t a b s is same = is ∙ ap (λ (x : List ℕ). t ++ x) same
