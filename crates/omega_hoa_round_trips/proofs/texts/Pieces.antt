-- The parts of lines: strings, identifiers, numbers, marks and labels, each with the space before or after it.
use Rattle.std.proofs.Common.{◌≡◌, ℕ, Option, Some, None, List, [], ◌∷◌, ◌++◌, codes, decimal, option_map, append_assoc, refl, sym, subst, arith}
use Rattle.std.specs.Prelude.{IfSome}
use Rattle.std.specs.List.{AllByRecursion, flat_map}
use Rattle.omega_text.specs.declared.hoa.kind.HoaKind.TheVariants as kind
use Rattle.omega_text.specs.hoa.Forms.{IsQuotable}
use Rattle.omega_hoa_label.specs.Label.{LabelTree}
use Rattle.omega_hoa_label.specs.Writing.{label_text}
use Rattle.omega_hoa_label.specs.Writing.{NumbersFit, label_written}
use Rattle.omega_acc.specs.WritingLaws.{StandsApart}
use Rattle.omega_hoa_acceptance.specs.declared.name.Parameter.{Parameter}
use Rattle.omega_hoa_acceptance.specs.declared.name.Parameter.TheVariants as parameter
use Rattle.omega_hoa_syntax.specs.Grammar.{conj_row, each, int_row, joined_row, label_row, optional_row, parameter_row, sig_row, string_row, value_row, word_row}
use Rattle.omega_hoa_syntax.specs.Symbols.{AutomatonSymbol, sign}
use Rattle.omega_hoa_syntax.specs.declared.header_value.HeaderValue.{HeaderValue}
use Rattle.omega_hoa_syntax.specs.declared.header_value.HeaderValue.TheVariants as value
use Rattle.omega_canon.specs.HeaderText.{parameter_part, value_part}
use Rattle.omega_canon.specs.Parts.{conjunction, label_part, marks_part, numbers_after, quoted_string, spaced, string_part, strings, words}
use Rattle.omega_hoa_round_trips.specs.Writable.{AreJoined, IsWritableNumber, IsIdentifier, IsWritableParameter, IsWritableValue}
use Rattle.omega_hoa_round_trips.specs.Written.{marks_written}
use Rattle.omega_hoa_round_trips.proofs.texts.Expressions.{label-spelled}
use Rattle.omega_hoa_round_trips.proofs.texts.Lists.{each-following, each-spelled}
use Rattle.omega_hoa_round_trips.proofs.texts.Spelled.{IsSpelled, Known, number-spelled, sign-spelled, space-spelled, string-spelled, truth-spelled, word-spelled}

-- ---- what is set apart

pub apart-space : (following : List ℕ) → StandsApart (32 ∷ following)
apart-space following = record { ends = refl; closes = λ is. omega (arith, is) }

pub apart-line : (following : List ℕ) → StandsApart (10 ∷ following)
apart-line following = record { ends = refl; closes = λ is. omega (arith, is) }

apart-and : (following : List ℕ) → StandsApart (38 ∷ following)
apart-and following = record { ends = refl; closes = λ is. omega (arith, is) }

apart-bracket : (following : List ℕ) → StandsApart (93 ∷ following)
apart-bracket following = record { ends = refl; closes = λ is. omega (arith, is) }

apart-brace : (following : List ℕ) → StandsApart (125 ∷ following)
apart-brace following = record { ends = refl; closes = λ is. omega (arith, is) }

-- a string that may be there
pub apart-string : (it : Option (List ℕ)) (following : List ℕ) → StandsApart following → StandsApart (string_part it ++ following)
apart-string None following apart = apart
apart-string (Some bytes) following apart = apart-space _

-- marks
pub apart-marks : (marks : List ℕ) (following : List ℕ) → StandsApart following → StandsApart (marks_part marks ++ following)
apart-marks [] following apart = apart
apart-marks (first ∷ others) following apart = apart-space _

-- a spaced part, at any place
apart-spaced : (part following : List ℕ) → StandsApart following → StandsApart (spaced part ++ following)
apart-spaced part following apart = apart-space _

apart-parameter : (it : Parameter) (following : List ℕ) → StandsApart following → StandsApart (parameter_part it ++ following)
apart-parameter (parameter.Boolean truth) following apart = apart-space _
apart-parameter (parameter.Number number) following apart = apart-space _
apart-parameter (parameter.Word bytes) following apart = apart-space _

apart-value : (it : HeaderValue) (following : List ℕ) → StandsApart following → StandsApart (value_part it ++ following)
apart-value (value.Boolean truth) following apart = apart-space _
apart-value (value.Number number) following apart = apart-space _
apart-value (value.Text bytes) following apart = apart-space _
apart-value (value.Word bytes) following apart = apart-space _

pub apart-strings : (texts : List (List ℕ)) (following : List ℕ) → StandsApart following → StandsApart (strings texts ++ following)
apart-strings texts following apart = each-following (λ bytes. spaced (quoted_string bytes)) StandsApart (λ it. apart-spaced (quoted_string it)) texts following apart

pub apart-words : (texts : List (List ℕ)) (following : List ℕ) → StandsApart following → StandsApart (words texts ++ following)
apart-words texts following apart = each-following spaced StandsApart apart-spaced texts following apart

pub apart-parameters : (items : List Parameter) (following : List ℕ) → StandsApart following → StandsApart (flat_map parameter_part items ++ following)
apart-parameters items following apart = each-following parameter_part StandsApart apart-parameter items following apart

-- ---- parts

-- a string that may be there
pub string_part-spelled : Known → (it : Option (List ℕ)) (following : List ℕ) (symbols : List AutomatonSymbol) → IfSome it IsQuotable
    → IsSpelled following symbols → IsSpelled (string_part it ++ following) (optional_row string_row it symbols)
string_part-spelled known None following symbols is spelled = spelled
string_part-spelled known (Some bytes) following symbols is spelled = space-spelled (string-spelled known bytes following symbols is spelled)

-- strings
pub strings-spelled : Known → (texts : List (List ℕ)) (following : List ℕ) (symbols : List AutomatonSymbol) → AllByRecursion IsQuotable texts → StandsApart following
    → IsSpelled following symbols → IsSpelled (strings texts ++ following) (each string_row texts symbols)
strings-spelled known texts following symbols all apart spelled =
    each-spelled (λ bytes. spaced (quoted_string bytes)) string_row IsQuotable StandsApart (λ it. apart-spaced (quoted_string it))
    (λ it rest others is may then. space-spelled (string-spelled known it rest others is then)) texts following symbols all apart spelled

-- identifiers
pub words-spelled : Known → (texts : List (List ℕ)) (following : List ℕ) (symbols : List AutomatonSymbol) → AllByRecursion IsIdentifier texts → StandsApart following
    → IsSpelled following symbols → IsSpelled (words texts ++ following) (each word_row texts symbols)
words-spelled known texts following symbols all apart spelled =
    each-spelled spaced word_row IsIdentifier StandsApart apart-spaced
    (λ it rest others is may then. space-spelled (word-spelled known it rest others is may then)) texts following symbols all apart spelled

parameter-spelled : Known → (it : Parameter) (following : List ℕ) (symbols : List AutomatonSymbol) → IsWritableParameter it → StandsApart following
    → IsSpelled following symbols → IsSpelled (parameter_part it ++ following) (parameter_row it symbols)
parameter-spelled known (parameter.Boolean truth) following symbols is apart spelled = space-spelled (truth-spelled known truth following symbols apart spelled)
parameter-spelled known (parameter.Number number) following symbols is apart spelled = space-spelled (number-spelled known number following symbols is apart spelled)
parameter-spelled known (parameter.Word bytes) following symbols is apart spelled = space-spelled (word-spelled known bytes following symbols is apart spelled)

-- the parameters of the name of an acceptance
pub parameters-spelled : Known → (items : List Parameter) (following : List ℕ) (symbols : List AutomatonSymbol) → AllByRecursion IsWritableParameter items → StandsApart following
    → IsSpelled following symbols → IsSpelled (flat_map parameter_part items ++ following) (each parameter_row items symbols)
parameters-spelled known items following symbols all apart spelled =
    each-spelled parameter_part parameter_row IsWritableParameter StandsApart apart-parameter (parameter-spelled known) items following symbols all apart spelled

value-spelled : Known → (it : HeaderValue) (following : List ℕ) (symbols : List AutomatonSymbol) → IsWritableValue it → StandsApart following
    → IsSpelled following symbols → IsSpelled (value_part it ++ following) (value_row it symbols)
value-spelled known (value.Boolean truth) following symbols is apart spelled = space-spelled (truth-spelled known truth following symbols apart spelled)
value-spelled known (value.Number number) following symbols is apart spelled = space-spelled (number-spelled known number following symbols is apart spelled)
value-spelled known (value.Text bytes) following symbols is apart spelled = space-spelled (string-spelled known bytes following symbols is spelled)
value-spelled known (value.Word bytes) following symbols is apart spelled = space-spelled (word-spelled known bytes following symbols is apart spelled)

-- the values of a header
pub values-spelled : Known → (items : List HeaderValue) (following : List ℕ) (symbols : List AutomatonSymbol) → AllByRecursion IsWritableValue items → StandsApart following
    → IsSpelled following symbols → IsSpelled (flat_map value_part items ++ following) (each value_row items symbols)
values-spelled known items following symbols all apart spelled =
    each-spelled value_part value_row IsWritableValue StandsApart apart-value (value-spelled known) items following symbols all apart spelled

-- states joined by `&`
pub conjunction-spelled : Known → (states : List ℕ) (following : List ℕ) (symbols : List AutomatonSymbol) → AreJoined states → StandsApart following
    → IsSpelled following symbols → IsSpelled (conjunction states ++ following) (conj_row states symbols)
conjunction-spelled known [] following symbols are apart spelled = absurd (omega (arith, are.listed))
conjunction-spelled known (first ∷ others) following symbols are apart spelled =
    subst (λ bytes. IsSpelled bytes (conj_row (first ∷ others) symbols)) (sym (append_assoc (decimal first) (numbers_after (codes "&") others) following))
    (number-spelled known first _ (each joined_row others symbols) are.fit.0
    (each-following (λ number. codes "&" ++ decimal number) StandsApart (λ it rest may. apart-and _) others following apart)
    (each-spelled (λ number. codes "&" ++ decimal number) joined_row IsWritableNumber StandsApart (λ it rest may. apart-and _)
    (λ it rest others is may then.
    sign-spelled kind.And (38 ∷ []) (decimal it ++ rest) _ (refl, refl) (known.closed kind.And (38 ∷ []) _ refl refl) (number-spelled known it rest others is may then))
    others following symbols are.fit.1 apart spelled))

-- marks between braces
braces-spelled : Known → (first : ℕ) (others : List ℕ) (following : List ℕ) (symbols : List AutomatonSymbol) → AllByRecursion IsWritableNumber (first ∷ others)
    → IsSpelled following symbols → IsSpelled (decimal first ++ (numbers_after (codes " ") others ++ (125 ∷ following))) (each int_row (first ∷ others) (sign kind.CloseBrace ∷ symbols))
braces-spelled known first others following symbols fit spelled =
    let closed : IsSpelled (125 ∷ following) (sign kind.CloseBrace ∷ symbols) =
    sign-spelled kind.CloseBrace (125 ∷ []) following symbols (refl, refl) (known.closed kind.CloseBrace (125 ∷ []) _ refl refl) spelled in
    number-spelled known first _ (each int_row others (sign kind.CloseBrace ∷ symbols)) fit.0
    (each-following (λ number. codes " " ++ decimal number) StandsApart (λ it rest may. apart-space _) others _ (apart-brace following))
    (each-spelled (λ number. codes " " ++ decimal number) int_row IsWritableNumber StandsApart (λ it rest may. apart-space _)
    (λ it rest more is may then. space-spelled (number-spelled known it rest more is may then)) others _ _ fit.1 (apart-brace following) closed)

-- marks
pub marks-spelled : Known → (marks : List ℕ) (following : List ℕ) (symbols : List AutomatonSymbol) → AllByRecursion IsWritableNumber marks
    → IsSpelled following symbols → IsSpelled (marks_part marks ++ following) (optional_row sig_row (marks_written marks) symbols)
marks-spelled known [] following symbols fit spelled = spelled
marks-spelled known (first ∷ others) following symbols fit spelled =
    let apart : ((decimal first ++ numbers_after (codes " ") others) ++ 125 ∷ []) ++ following ≡ decimal first ++ (numbers_after (codes " ") others ++ (125 ∷ following)) = simp append_assoc in
    subst (λ bytes. IsSpelled (32 ∷ 123 ∷ bytes) (optional_row sig_row (marks_written (first ∷ others)) symbols)) (sym apart)
    (space-spelled (sign-spelled kind.OpenBrace (123 ∷ []) _ _ (refl, refl) (known.closed kind.OpenBrace (123 ∷ []) _ refl refl)
    (braces-spelled known first others following symbols fit spelled)))

-- a label between brackets, and a space
pub label_part-spelled : Known → (it : Option LabelTree) (following : List ℕ) (symbols : List AutomatonSymbol) → IfSome it NumbersFit
    → IsSpelled following symbols → IsSpelled (label_part it ++ following) (optional_row label_row (option_map label_written it) symbols)
label_part-spelled known None following symbols fit spelled = spelled
label_part-spelled known (Some tree) following symbols fit spelled =
    let closed : IsSpelled (93 ∷ 32 ∷ following) (sign kind.CloseBracket ∷ symbols) =
    sign-spelled kind.CloseBracket (93 ∷ []) (32 ∷ following) symbols (refl, refl) (known.closed kind.CloseBracket (93 ∷ []) _ refl refl) (space-spelled spelled) in
    subst (λ bytes. IsSpelled (91 ∷ bytes) (label_row (label_written tree) symbols)) (sym (append_assoc (label_text tree).bytes (93 ∷ 32 ∷ []) following))
    (sign-spelled kind.OpenBracket (91 ∷ []) _ _ (refl, refl) (known.closed kind.OpenBracket (91 ∷ []) _ refl refl)
    (label-spelled known tree (93 ∷ 32 ∷ following) _ fit (apart-bracket _) tt closed))
