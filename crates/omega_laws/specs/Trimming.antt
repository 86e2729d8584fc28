-- What `meet --trim` writes of two texts, in words of the words that they accept.
use Rattle.std.specs.Prelude.{◌↔◌, ◌≤◌, ℕ, List, length}
use Rattle.omega_text.specs.Limits.{most_text}
use Rattle.omega_answers_automaton.specs.TrimmedMeet.{IsMeetTrimmedAnswer}
use Rattle.omega_text.specs.NamedWords.{NamedWord}
use Rattle.omega_laws.specs.TextWords.{IsText, TextAccepts}

-- what `meet --trim` writes for two texts is, within the limit of texts, the text of an automaton; it accepts a word
-- exactly if both texts do
abbrev pub TrimmedMeetingsAcceptBoth : Type 0
TrimmedMeetingsAcceptBoth =
    (file input output : List ℕ) → IsMeetTrimmedAnswer file input output → length output ≤ most_text
    → IsText output
    × ((word : NamedWord) → TextAccepts output word ↔ (TextAccepts file word × TextAccepts input word))
