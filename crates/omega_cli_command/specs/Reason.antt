-- Why a text is no value of an option.
use Rattle.std.specs.Prelude.{◌≡◌, ◌⊎◌, ◌^◌, ◌<◌, ◌≤◌, ℕ, List, [], length, slice_index}
use Rattle.std.specs.Str.Parse.{IsNumeral, digits_value}
use Rattle.omega_cli_command.specs.Limits.{most_budget, most_effort}
use Rattle.omega_text.specs.Limits.{most_number}
use Rattle.omega_cli_command.specs.declared.mistake.Reason.{Reason}
use Rattle.omega_cli_command.specs.declared.mistake.Reason.TheVariants as reason
use Rattle.omega_cli_command.specs.declared.options.OptionName.{OptionName}
use Rattle.omega_cli_command.specs.declared.options.OptionName.TheVariants as name

-- the bytes of the signs
abbrev pub plus : ℕ
plus = 43

abbrev pub minus : ℕ
minus = 45

-- the text begins with a sign
abbrev pub BeginsWithSign : List ℕ → Type 0
BeginsWithSign text = (slice_index text 0 ≡ plus) ⊎ (slice_index text 0 ≡ minus)

-- the text is not empty, and begins with no sign
pub record IsUnsigned (text : List ℕ) : Type 0 where
  pub nonempty : 0 < length text
  pub unsigned : BeginsWithSign text → ⊥

-- the number of the digits is below the least or above the greatest, and the reason has all three
pub record IsOutside (least most : ℕ) (text : List ℕ) (number from to : ℕ) : Type 0 where
  pub digits : IsNumeral 10 text
  pub value : digits_value 10 text ≡ number
  pub outside : (number < least) ⊎ (most < number)
  pub from_is : from ≡ least
  pub to_is : to ≡ most

-- why a text is no number from the least to the greatest: it is empty, begins with a sign, or has a byte that is no
-- digit; or its number has more than 64 bits, or is below the least or above the greatest
abbrev pub IsNumberReason : (least most : ℕ) → List ℕ → Reason → Type 0
IsNumberReason least most text reason.Empty = text ≡ []
IsNumberReason least most text reason.Sign = BeginsWithSign text
IsNumberReason least most text reason.NotDigits = IsUnsigned text × (IsNumeral 10 text → ⊥)
IsNumberReason least most text reason.TooLarge = IsNumeral 10 text × (2 ^ 64 ≤ digits_value 10 text)
IsNumberReason least most text (reason.Outside number from to) = IsOutside least most text number from to
IsNumberReason least most text reason.NoFormat = ⊥
IsNumberReason least most text reason.NotDrawn = ⊥
IsNumberReason least most text reason.NoSearcher = ⊥
IsNumberReason least most text reason.NoTruth = ⊥

-- why a text is no value of an option; every text names a file, lists names, and may be that of a word or of a
-- formula
abbrev pub IsReason : OptionName → List ℕ → Reason → Type 0
IsReason name.Format text why = why ≡ reason.NoFormat
IsReason name.Player text why = IsNumberReason 0 1 text why
IsReason name.From text why = IsNumberReason 0 most_number text why
IsReason name.Budget text why = IsNumberReason 0 most_budget text why
IsReason name.Search text why = why ≡ reason.NoTruth
IsReason name.By text why = why ≡ reason.NoSearcher
IsReason name.Effort text why = IsNumberReason 1 most_effort text why
IsReason name.Game text why = ⊥
IsReason name.Automaton text why = ⊥
IsReason name.Specification text why = ⊥
IsReason name.CounterStrategy text why = why ≡ reason.NoTruth
IsReason name.Explain text why = why ≡ reason.NoTruth
IsReason name.Names text why = why ≡ reason.NoTruth
IsReason name.Word text why = why ≡ reason.NoTruth
IsReason name.WordText text why = ⊥
IsReason name.ForSome text why = why ≡ reason.NoTruth
IsReason name.Formula text why = ⊥
IsReason name.Outs text why = ⊥
IsReason name.Ins text why = ⊥
IsReason name.Negated text why = why ≡ reason.NoTruth
IsReason name.Deterministic text why = why ≡ reason.NoTruth
IsReason name.Status text why = why ≡ reason.NoTruth
IsReason name.With text why = ⊥
IsReason name.Trim text why = why ≡ reason.NoTruth
IsReason name.In text why = ⊥
IsReason name.To text why = ⊥
IsReason name.Controller text why = why ≡ reason.NoTruth
IsReason name.AsGame text why = why ≡ reason.NoTruth
IsReason name.Aiger text why = why ≡ reason.NoTruth
IsReason name.Binary text why = why ≡ reason.NoTruth
IsReason name.Lift text why = why ≡ reason.NoTruth
IsReason name.Solution text why = ⊥
IsReason name.Walk text why = ⊥
IsReason name.Legend text why = why ≡ reason.NoTruth
IsReason name.Lasso text why = why ≡ reason.NoTruth
IsReason name.Depth text why = IsNumberReason 0 most_number text why
IsReason name.Progress text why = why ≡ reason.NoTruth
IsReason name.Stream text why = why ≡ reason.NoTruth
IsReason name.AtLeast text why = IsNumberReason 0 most_number text why
IsReason name.Winners text why = why ≡ reason.NoTruth
IsReason name.Min text why = why ≡ reason.NoTruth
IsReason name.Json text why = why ≡ reason.NoTruth
IsReason name.Lenient text why = why ≡ reason.NoTruth
IsReason name.Verbose text why = why ≡ reason.NoTruth
IsReason name.File text why = ⊥
