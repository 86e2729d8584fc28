-- Texts written one after another.
use Rattle.std.proofs.Common.{◌≡◌, ℕ, List, ◌++◌, decimal, ap, ◌∙◌, append_assoc}

-- a number between two texts, after a front
pub number_between : (front before following one two three : List ℕ) (n number : ℕ) → n ≡ number → one ≡ front ++ before → two ≡ one ++ decimal n
    → three ≡ two ++ following → three ≡ front ++ (before ++ (decimal number ++ following))
number_between front before following one two three n number is first second third =
    third ∙ ap (λ list. list ++ following) (second ∙ ap (λ list. list ++ decimal n) first ∙ ap (λ m. (front ++ before) ++ decimal m) is)
    ∙ append_assoc (front ++ before) (decimal number) following ∙ append_assoc front before (decimal number ++ following)

-- four texts, after a front
pub four_parts : (front a b c d one two three four : List ℕ) → one ≡ front ++ a → two ≡ one ++ b → three ≡ two ++ c → four ≡ three ++ d
    → four ≡ front ++ (a ++ (b ++ (c ++ d)))
four_parts front a b c d one two three four first second third fourth =
    fourth ∙ ap (λ list. list ++ d) (third ∙ ap (λ list. list ++ c) (second ∙ ap (λ list. list ++ b) first))
    ∙ append_assoc ((front ++ a) ++ b) c d ∙ append_assoc (front ++ a) b (c ++ d) ∙ append_assoc front a (b ++ (c ++ d))
