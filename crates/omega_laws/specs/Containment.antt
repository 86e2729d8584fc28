-- What `meet`, `complement` and `empty` write, one after the other, says of the words that texts accept.
use Rattle.std.specs.Prelude.{◌≡◌, ◌⊎◌, ◌↔◌, ℕ, ◌≤◌, List, length, codes}
use Rattle.omega_text.specs.Limits.{most_text}
use Rattle.omega_hoa_automaton.specs.Automaton.{Description}
use Rattle.omega_hoa.specs.Alone.{IsAutomatonText}
use Rattle.omega_answers_empty.specs.declared.lines.Lines.{Lines}
use Rattle.omega_answers_empty.specs.empty.Answer.{IsEmptyAnswer, IsEmptySearchAnswer}
use Rattle.omega_answers_automaton.specs.Complement.{IsComplementAnswer}
use Rattle.omega_answers_automaton.specs.Meet.{IsMeetAnswer}
use Rattle.omega_text.specs.Omniscience.{LimitedPrincipleOfOmniscience}
use Rattle.omega_text.specs.NamedWords.{NamedWord}
use Rattle.omega_laws.specs.TextWords.{TextAccepts}

-- what `meet` writes for two texts is, within the limit of texts, the text of an automaton; it accepts a word exactly
-- if both texts do
abbrev pub MetTextsAcceptBoth : Type 0
MetTextsAcceptBoth =
    (file input output : List ℕ) → IsMeetAnswer file input output → length output ≤ most_text
    → ((a : Description) × IsAutomatonText output a)
    × ((word : NamedWord) → TextAccepts output word ↔ (TextAccepts file word × TextAccepts input word))

-- an answer of `empty` to a text: by a search, or by lifting within some budget
abbrev pub IsEmptinessAnswer : (text output : List ℕ) → Type 0
IsEmptinessAnswer text output =
    (lines : Lines) × (IsEmptySearchAnswer text lines output
    ⊎ ((budget : ℕ) × IsEmptyAnswer text budget lines output))

-- an answer to the question whether each word that `one` accepts is accepted by `other`: `complement` of `other`,
-- `meet` of this with `one`, in either order, and `empty` of that
pub record IsContainmentAnswer (one other output : List ℕ) : Type 0 where
  pub complement : List ℕ
  pub complemented : IsComplementAnswer other complement
  pub meeting : List ℕ
  pub met : IsMeetAnswer one complement meeting ⊎ IsMeetAnswer complement one meeting
  pub answered : IsEmptinessAnswer meeting output

-- by the limited principle of omniscience, the answer `empty` means that `other` accepts each word that `one`
-- accepts
abbrev pub EmptyMeansContained : Type 0
EmptyMeansContained =
    LimitedPrincipleOfOmniscience
    → (one other : List ℕ) → IsContainmentAnswer one other (codes "empty\n")
    → (word : NamedWord) → TextAccepts one word → TextAccepts other word

-- any other answer means that `one` accepts a word that `other` does not accept
abbrev pub LassosMeanNotContained : Type 0
LassosMeanNotContained =
    (one other output : List ℕ) → IsContainmentAnswer one other output → ¬ (output ≡ codes "empty\n")
    → (word : NamedWord) × TextAccepts one word × (¬ TextAccepts other word)
