-- Laws of the texts of lassos, whatever reads or writes them.
use Rattle.std.specs.Prelude.{◌≡◌, ℕ, ◌<◌, ◌≤◌, ◌⊎◌, ◌++◌, All, List, codes, length, map}
use Rattle.std.specs.List.{AllPass}
use Rattle.omega_text.specs.Bytes.{is_white}
use Rattle.omega_text.specs.Limits.{most_number, most_text}
use Rattle.omega_text.specs.declared.refusal.Refusal.{Refusal}
use Rattle.omega_lang_lasso_text.specs.Lines.{IsLassoLines, lasso_part}
use Rattle.omega_lang_lasso_text.specs.Refusing.{IsLassoRefusal}
use Rattle.omega_lang_lasso_text.specs.Text.{IsLassoText}
use Rattle.omega_lang_lasso_text.specs.Written.{lasso_text, spaced_text}
use Rattle.omega_lang_lasso_text.specs.declared.lasso.LassoText.{LassoText}

-- a text says at most one lasso
abbrev pub LassosOfTextsAreOne : Type 0
LassosOfTextsAreOne = (source : List ℕ) (one other : LassoText)
    → IsLassoText source one → IsLassoText source other → one ≡ other

-- a text has at most one refusal as a text of a lasso
abbrev pub LassoRefusalsAreOne : Type 0
LassoRefusalsAreOne = (source : List ℕ) (one other : Refusal)
    → IsLassoRefusal source one → IsLassoRefusal source other → one ≡ other

-- a text that says a lasso has no refusal
abbrev pub LassosAreNotRefused : Type 0
LassosAreNotRefused = (source : List ℕ) (lasso : LassoText) (refusal : Refusal)
    → IsLassoText source lasso → IsLassoRefusal source refusal → ⊥

-- a text says a lasso or has a refusal
abbrev pub LassoTextsAreReadOrRefused : Type 0
LassoTextsAreReadOrRefused = (source : List ℕ) → ((lasso : LassoText) × IsLassoText source lasso)
    ⊎ ((refusal : Refusal) × IsLassoRefusal source refusal)

-- the written form of a lasso says that lasso if it keeps the limits of texts and of numbers
abbrev pub WrittenLassosAreRead : Type 0
WrittenLassosAreRead = (lasso : LassoText) → 0 < length lasso.cycle
    → All (λ number. number ≤ most_number) lasso.stem
    → All (λ number. number ≤ most_number) lasso.cycle
    → length (lasso_text lasso.stem lasso.cycle) ≤ most_text
    → IsLassoText (lasso_text lasso.stem lasso.cycle) lasso

-- numbers within the limit, each before white space alone
abbrev pub AreSpaced : List (ℕ × List ℕ) → Type 0
AreSpaced items = All (λ item. (item.0 ≤ most_number) × AllPass is_white item.1) items

-- the numbers without what follows them
abbrev pub numbers_in : List (ℕ × List ℕ) → List ℕ
numbers_in items = map (λ item. item.0) items

-- the written form of a lasso with more white space at its front and after its numbers says that lasso if it keeps the
-- limits of texts and of numbers
abbrev pub SpacedLassosAreRead : Type 0
SpacedLassosAreRead = (front : List ℕ) (stem cycle : List (ℕ × List ℕ)) → AllPass is_white front
    → AreSpaced stem → AreSpaced cycle → 0 < length cycle
    → length (spaced_text front stem cycle) ≤ most_text → IsLassoText (spaced_text front stem cycle)
    (record { stem = numbers_in stem; cycle = numbers_in cycle })

-- the written form of a lasso is the part of the lasso before a line of a word that follows it
abbrev pub WordsArePassedOver : Type 0
WordsArePassedOver = (stem cycle word : List ℕ)
    → lasso_part (lasso_text stem cycle ++ (codes "word " ++ word)) ≡ lasso_text stem cycle

-- and before a line of a run
abbrev pub RunsArePassedOver : Type 0
RunsArePassedOver = (stem cycle run : List ℕ)
    → lasso_part (lasso_text stem cycle ++ (codes "run " ++ run)) ≡ lasso_text stem cycle

-- the written form of a lasso has neither line
abbrev pub WrittenLassosHaveNoMore : Type 0
WrittenLassosHaveNoMore =
    (stem cycle : List ℕ) → lasso_part (lasso_text stem cycle) ≡ lasso_text stem cycle

-- a text whose part of the lasso is its written form says that lasso if it keeps the limits
abbrev pub WrittenLinesAreRead : Type 0
WrittenLinesAreRead = (source : List ℕ) (lasso : LassoText) → 0 < length lasso.cycle
    → All (λ number. number ≤ most_number) lasso.stem
    → All (λ number. number ≤ most_number) lasso.cycle → length source ≤ most_text
    → lasso_part source ≡ lasso_text lasso.stem lasso.cycle → IsLassoLines source lasso
