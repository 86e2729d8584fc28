-- The form in which Spot writes words: a text for each of the stem, and in braces one for each of the cycle.
use Rattle.std.specs.Prelude.{ℕ, List, [], ◌∷◌, ◌++◌, codes}
use Rattle.std.specs.List.{flat_map}

-- the texts of a stem, `;` after each
abbrev pub stem_form : {A : Type 0} → (A → List ℕ) → List A → List ℕ
stem_form told stem = flat_map (λ each. told each ++ codes "; ") stem

-- the texts of the others of a cycle, `;` before each
abbrev pub others_form : {A : Type 0} → (A → List ℕ) → List A → List ℕ
others_form told others = flat_map (λ each. codes "; " ++ told each) others

-- the texts of a cycle, `;` between each two
abbrev pub cycle_form : {A : Type 0} → (A → List ℕ) → List A → List ℕ
cycle_form told [] = []
cycle_form told (first ∷ others) = told first ++ others_form told others

-- the texts of a stem and a cycle
abbrev pub word_form : {A : Type 0} → (A → List ℕ) → List A → List A → List ℕ
word_form told stem cycle =
    stem_form told stem ++ (codes "cycle{" ++ (cycle_form told cycle ++ codes "}"))
