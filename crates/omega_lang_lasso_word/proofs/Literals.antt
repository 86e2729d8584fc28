-- Literals, one more at a time.
use Rattle.std.proofs.Common.{◌≡◌, ℕ, ◌+◌, ◌<◌, List, [], ◌∷◌, ◌++◌, length, take, get_or, refl, sym, ap, ◌∙◌, arith, append_assoc}
use Rattle.std.specs.Prelude.{codes}
use Rattle.std.proofs.lemmas.List.{length-take, take_more}
use Rattle.omega_lang_lasso_word.specs.Letters.{literal_text, literals_after}

-- the literals of the names, and one more
literals_more : (index p : ℕ) (names : List (List ℕ)) (name : List ℕ)
    → literals_after index p (names ++ name ∷ []) ≡ literals_after index p names ++ (codes " & " ++ literal_text index (p + length names) name)
literals_more index p [] name =
    let e : p ≡ p + 0 = omega arith in
    append_nil (codes " & " ++ literal_text index p name) ∙ ap (λ (n : ℕ). codes " & " ++ literal_text index n name) e
  where
    append_nil : (xs : List ℕ) → xs ++ [] ≡ xs
    append_nil [] = refl
    append_nil (x ∷ xs) = ap (λ (rest : List ℕ). x ∷ rest) (append_nil xs)
literals_more index p (first ∷ names) name =
    let e : (p + 1) + length names ≡ p + length (first ∷ names) = omega arith in
    ap (λ (rest : List ℕ). (codes " & " ++ literal_text index p first) ++ rest) (literals_more index (p + 1) names name)
    ∙ sym (append_assoc (codes " & " ++ literal_text index p first) (literals_after index (p + 1) names) (codes " & " ++ literal_text index ((p + 1) + length names) name))
    ∙ ap (λ (n : ℕ). ((codes " & " ++ literal_text index p first) ++ literals_after index (p + 1) names) ++ (codes " & " ++ literal_text index n name)) e

-- what is written with one literal more
pub literals_step : (index : ℕ) (others : List (List ℕ)) (at : ℕ) (name : List ℕ) (front out mid new : List ℕ) → at < length others → name ≡ get_or others at name
    → out ≡ front ++ literals_after index 1 (take at others) → mid ≡ out ++ codes " & " → new ≡ mid ++ literal_text index (at + 1) name
    → new ≡ front ++ literals_after index 1 (take (at + 1) others)
literals_step index others at name front out mid new below here so_far sign literal =
    let more : take (at + 1) others ≡ take at others ++ name ∷ [] =
    take_more others at name below ∙ ap (λ (n : List ℕ). take at others ++ n ∷ []) (sym here) in
    let e : 1 + length (take at others) ≡ at + 1 = omega (arith, length-take at others, below) in
    literal
    ∙ ap (λ (m : List ℕ). m ++ literal_text index (at + 1) name) (sign ∙ ap (λ (o : List ℕ). o ++ codes " & ") so_far)
    ∙ append_assoc (front ++ literals_after index 1 (take at others)) (codes " & ") (literal_text index (at + 1) name)
    ∙ append_assoc front (literals_after index 1 (take at others)) (codes " & " ++ literal_text index (at + 1) name)
    ∙ ap (λ (n : ℕ). front ++ (literals_after index 1 (take at others) ++ (codes " & " ++ literal_text index n name))) (sym e)
    ∙ ap (λ (l : List ℕ). front ++ l) (sym (literals_more index 1 (take at others) name))
    ∙ ap (λ (l : List (List ℕ)). front ++ literals_after index 1 l) (sym more)
