-- What is a unit is read as it.
use Rattle.std.proofs.Common.{◌≡◌, ◌≢◌, ℕ, suc, ◌<◌, ⊎_elim, true, false, Option, Some, None, List, [], ◌∷◌, ◌++◌, length, get_or, refl, sym, ap, ◌∙◌, arith, codes, ◌==◌}
use Rattle.std.proofs.lemmas.Bool.Decides.{nat_tests, eqb_tells}
use Rattle.std.proofs.lemmas.List.Elements.{All-head, All-tail}
use Rattle.std.specs.List.{AllPass}
use Rattle.omega_text.specs.declared.hoa.kind.HoaKind.{HoaKind}
use Rattle.omega_text.specs.declared.hoa.kind.HoaKind.TheVariants.{Identifier, HeaderName, AliasName, True, False, Int, String, Body, End, Abort, Not, And, Or, OpenParenthesis, CloseParenthesis, OpenBracket, CloseBracket, OpenBrace, CloseBrace}
use Rattle.omega_text.specs.declared.hoa.mode.Mode.TheVariants.{Start, Word, Alias, Digits, Quoted, Comment, Whole, Blank}
use Rattle.omega_text.specs.hoa.Forms.{Closes, IsBlank, IsNoMark, IsQuotable, IsUnit, spelling}
use Rattle.omega_text.specs.hoa.Forms.Closes.{close, closed, nest, other}
use Rattle.omega_text.specs.hoa.Forms.IsQuotable.{empty, escaped, plain}
use Rattle.omega_text.specs.private.hoa.scanning.Modes.{closed_mode, comment_mode, first_mode, letter_kind, run, sign_kind, slashed_mode, star_mode, whole}
use Rattle.omega_text.specs.Bytes.{is_digit, is_letter, is_white, is_word_byte}
use Rattle.omega_text.specs.Forms.{IsDigits, IsWord}
use Rattle.omega_text.proofs.hoa_texts.Runs.{answer, run_append}
use Rattle.omega_text.proofs.hoa_texts.Tests.{choose, pass}

-- a test that fails
pub no_test : (byte value : ℕ) → byte ≢ value → (byte == value) ≡ false
no_test byte value differs = grind (arith, nat_tests)

-- digits and letters are not white, and letters are no digits
digit_black : (byte : ℕ) → is_digit byte ≡ true → is_white byte ≡ false
digit_black byte digit = grind (arith, nat_tests)

letter_black : (byte : ℕ) → is_letter byte ≡ true → is_white byte ≡ false
letter_black byte letter = grind (arith, nat_tests)

pub digit_no_letter : (byte : ℕ) → is_digit byte ≡ true → is_letter byte ≡ false
digit_no_letter byte digit = grind (arith, nat_tests)

pub white_no_digit : (byte : ℕ) → is_white byte ≡ true → is_digit byte ≡ false
white_no_digit byte white = grind (arith, nat_tests)

-- the mode after a first byte
pub first_letter : (byte : ℕ) → is_letter byte ≡ true → first_mode byte ≡ Some (Word (letter_kind byte))
first_letter byte letter = pass (is_white byte) _ _ (letter_black byte letter) ∙ choose (is_letter byte) _ _ letter

pub first_digit : (byte : ℕ) → is_digit byte ≡ true → first_mode byte ≡ Some Digits
first_digit byte digit = pass (is_white byte) _ _ (digit_black byte digit) ∙ pass (is_letter byte) _ _ (digit_no_letter byte digit) ∙ choose (is_digit byte) _ _ digit

pub first_white : (byte : ℕ) → is_white byte ≡ true → first_mode byte ≡ Some Blank
first_white byte white = choose (is_white byte) _ _ white

-- a byte that is a sign is not one of four others
sign_apart : (byte value : ℕ) (kind : HoaKind) → sign_kind value ≡ None → sign_kind byte ≡ Some kind → (byte == value) ≡ false
sign_apart byte value kind none sign = no_test byte value (λ same. let found = sym (ap sign_kind same) ∙ sign in let other = none in cc)

pub first_sign : (byte : ℕ) (kind : HoaKind) → is_white byte ≡ false → is_letter byte ≡ false → is_digit byte ≡ false → sign_kind byte ≡ Some kind → first_mode byte ≡ Some (Whole kind)
first_sign byte kind no_white no_letter no_digit sign =
    pass (is_white byte) _ _ no_white ∙ pass (is_letter byte) _ _ no_letter ∙ pass (is_digit byte) _ _ no_digit
    ∙ pass (byte == 34) _ _ (sign_apart byte 34 kind refl sign) ∙ pass (byte == 64) _ _ (sign_apart byte 64 kind refl sign)
    ∙ pass (byte == 45) _ _ (sign_apart byte 45 kind refl sign) ∙ pass (byte == 47) _ _ (sign_apart byte 47 kind refl sign) ∙ ap whole sign

-- bytes of a word, after a longer word
more_word : (rest : List ℕ) → AllPass is_word_byte rest → run (Some (Word Identifier)) rest ≡ Some (Word Identifier)
more_word [] all = refl
more_word (byte ∷ rest) all = ap (λ state. run state rest) (choose (is_word_byte byte) _ _ (All-head (λ b. is_word_byte b ≡ true) byte rest all))
    ∙ more_word rest (All-tail (λ b. is_word_byte b ≡ true) byte rest all)

-- the kind of a word, which only its first byte and its length show
abbrev pub word_kind : ℕ → List ℕ → HoaKind
word_kind byte [] = letter_kind byte
word_kind byte (next ∷ rest) = Identifier

pub word_run : (byte : ℕ) (rest : List ℕ) → is_letter byte ≡ true → AllPass is_word_byte rest → run (Some Start) (byte ∷ rest) ≡ Some (Word (word_kind byte rest))
word_run byte [] letter all = first_letter byte letter
word_run byte (next ∷ rest) letter all = ap (λ state. run state (next ∷ rest)) (first_letter byte letter)
    ∙ ap (λ state. run state rest) (choose (is_word_byte next) _ _ (All-head (λ b. is_word_byte b ≡ true) next rest all))
    ∙ more_word rest (All-tail (λ b. is_word_byte b ≡ true) next rest all)

-- a word and a colon
pub header_run : (word : List ℕ) → IsWord word → run (Some Start) (word ++ 58 ∷ []) ≡ Some (Whole HeaderName)
header_run [] word = absurd (omega arith)
header_run (byte ∷ rest) word = run_append (Some Start) (byte ∷ rest) (58 ∷ [])
    ∙ ap (λ state. run state (58 ∷ [])) (word_run byte rest word.1 (All-tail (λ b. is_word_byte b ≡ true) byte rest word.2))

-- bytes of an alias name
alias_run : (rest : List ℕ) → AllPass is_word_byte rest → run (Some Alias) rest ≡ Some Alias
alias_run [] all = refl
alias_run (byte ∷ rest) all = ap (λ state. run state rest) (choose (is_word_byte byte) _ _ (All-head (λ b. is_word_byte b ≡ true) byte rest all))
    ∙ alias_run rest (All-tail (λ b. is_word_byte b ≡ true) byte rest all)

pub at_run : (name : List ℕ) → 0 < length name → AllPass is_word_byte name → run (Some Start) (64 ∷ name) ≡ Some Alias
at_run [] some all = absurd (omega arith)
at_run (byte ∷ rest) some all = ap (λ state. run state rest) (choose (is_word_byte byte) _ _ (All-head (λ b. is_word_byte b ≡ true) byte rest all))
    ∙ alias_run rest (All-tail (λ b. is_word_byte b ≡ true) byte rest all)

-- digits
more_digits : (rest : List ℕ) → AllPass is_digit rest → run (Some Digits) rest ≡ Some Digits
more_digits [] all = refl
more_digits (byte ∷ rest) all = ap (λ state. run state rest) (choose (is_digit byte) _ _ (All-head (λ b. is_digit b ≡ true) byte rest all))
    ∙ more_digits rest (All-tail (λ b. is_digit b ≡ true) byte rest all)

pub digits_run : (text : List ℕ) → IsDigits text → run (Some Start) text ≡ Some Digits
digits_run [] digits = absurd (omega (arith, digits.0))
digits_run (byte ∷ rest) digits = ap (λ state. run state rest) (first_digit byte (All-head (λ b. is_digit b ≡ true) byte rest digits.1))
    ∙ more_digits rest (All-tail (λ b. is_digit b ≡ true) byte rest digits.1)

-- what comes between quotes, and a quote
pub quoted_run : (inside : List ℕ) → IsQuotable inside → run (Some Quoted) (inside ++ 34 ∷ []) ≡ Some (Whole String)
quoted_run _ empty = refl
quoted_run _ (plain byte rest no_quote no_backslash following) =
    ap (λ mode. run (Some mode) (rest ++ 34 ∷ [])) (pass (byte == 34) _ _ (no_test byte 34 no_quote) ∙ pass (byte == 92) _ _ (no_test byte 92 no_backslash)) ∙ quoted_run rest following
quoted_run _ (escaped byte rest following) = quoted_run rest following

-- after `*`, what does not begin with `/` is read as elsewhere in a comment,
-- and so is what does not begin with `*` after `/`
star_same : (around byte : ℕ) → byte ≢ 47 → star_mode around byte ≡ comment_mode around byte
star_same around byte no_slash = ⊎_elim
    (λ (star, is). pass (byte == 47) _ _ (no_test byte 47 no_slash) ∙ choose (byte == 42) _ _ star ∙ sym (choose (byte == 42) _ _ star))
    (λ (no_star, differs). pass (byte == 47) _ _ (no_test byte 47 no_slash) ∙ pass (byte == 42) _ _ no_star ∙ sym (pass (byte == 42) _ _ no_star ∙ pass (byte == 47) _ _ (no_test byte 47 no_slash)))
    (eqb_tells byte 42)

slashed_same : (around byte : ℕ) → byte ≢ 42 → slashed_mode around byte ≡ comment_mode around byte
slashed_same around byte no_star = pass (byte == 42) _ _ (no_test byte 42 no_star) ∙ sym (pass (byte == 42) _ _ (no_test byte 42 no_star))

-- there is more if comments are still to be closed
closes_some : (depth : ℕ) (rest : List ℕ) → Closes depth rest → 0 < depth → 0 < length rest
closes_some _ _ closed deep = absurd (omega arith)
closes_some _ _ (close depth rest following) deep = omega arith
closes_some _ _ (nest depth rest following) deep = omega arith
closes_some _ _ (other depth byte rest no_mark following) deep = omega arith

-- a byte that begins no mark changes nothing
other_run : (around byte : ℕ) (rest : List ℕ) → IsNoMark byte (get_or rest 0 0) → 0 < length rest → run (Some (Comment around)) (byte ∷ rest) ≡ run (Some (Comment around)) rest
other_run around byte [] no_mark some = absurd (omega arith)
other_run around byte (next ∷ rest) no_mark some = ⊎_elim
    (λ (star, is). ap (λ mode. run (Some mode) (next ∷ rest)) (choose (byte == 42) _ _ star) ∙ ap (λ mode. run (Some mode) rest) (star_same around next (no_mark.closes_none is)))
    (λ (no_star, differs). ⊎_elim
    (λ (slash, is). ap (λ mode. run (Some mode) (next ∷ rest)) (pass (byte == 42) _ _ no_star ∙ choose (byte == 47) _ _ slash) ∙ ap (λ mode. run (Some mode) rest) (slashed_same around next (no_mark.opens_none is)))
    (λ (no_slash, _). ap (λ mode. run (Some mode) (next ∷ rest)) (pass (byte == 42) _ _ no_star ∙ pass (byte == 47) _ _ no_slash))
    (eqb_tells byte 47))
    (eqb_tells byte 42)

-- what closes comments
pub closes_run : (depth : ℕ) (rest : List ℕ) → Closes depth rest → run (Some (closed_mode depth)) rest ≡ Some Blank
closes_run _ _ closed = refl
closes_run _ _ (close depth rest following) = closes_run depth rest following
closes_run _ _ (nest depth rest following) = closes_run (suc (suc depth)) rest following
closes_run _ _ (other depth byte rest no_mark following) =
    other_run depth byte rest no_mark (closes_some (suc depth) rest following (omega arith)) ∙ closes_run (suc depth) rest following

-- a word that is neither `t` nor `f` is an identifier
identifier_kind : (byte : ℕ) (rest : List ℕ) → byte ∷ rest ≢ codes "t" → byte ∷ rest ≢ codes "f" → word_kind byte rest ≡ Identifier
identifier_kind byte [] no_t no_f = pass (byte == 116) _ _ (no_test byte 116 (λ is. no_t (ap (λ b. b ∷ []) is))) ∙ pass (byte == 102) _ _ (no_test byte 102 (λ is. no_f (ap (λ b. b ∷ []) is)))
identifier_kind byte (next ∷ rest) no_t no_f = refl

identifier_written : (text : List ℕ) → IsUnit (Some Identifier) text → answer (run (Some Start) text) ≡ Some (Some Identifier)
identifier_written [] form = absurd (omega (arith, form.0.0))
identifier_written (byte ∷ rest) form = ap answer (word_run byte rest form.0.1 (All-tail (λ b. is_word_byte b ≡ true) byte rest form.0.2))
    ∙ ap (λ kind. Some (Some kind)) (identifier_kind byte rest form.1 form.2)

-- a text that is written in one way
constant_written : (kind : HoaKind) (text : List ℕ) → text ≡ spelling kind → answer (run (Some Start) (spelling kind)) ≡ Some (Some kind) → answer (run (Some Start) text) ≡ Some (Some kind)
constant_written kind text is reads = ap (λ t. answer (run (Some Start) t)) is ∙ reads

-- a part of a gap is read as one
pub blank_run : (text : List ℕ) → IsBlank text → run (Some Start) text ≡ Some Blank
blank_run text blank = ⊎_elim
    (λ (byte, is, white). ap (run (Some Start)) is ∙ first_white byte white)
    (λ (inside, is, closes). ap (run (Some Start)) is ∙ closes_run 1 inside closes)
    blank

-- a unit is read as it
pub unit_written : (sort : Option HoaKind) (text : List ℕ) → IsUnit sort text → answer (run (Some Start) text) ≡ Some sort
unit_written None text unit = ap answer (blank_run text unit)
unit_written (Some Identifier) text unit = identifier_written text unit
unit_written (Some HeaderName) text unit = ap (λ t. answer (run (Some Start) t)) unit.1 ∙ ap answer (header_run unit.0 unit.2)
unit_written (Some AliasName) text unit = ap (λ t. answer (run (Some Start) t)) unit.1 ∙ ap answer (at_run unit.0 unit.2 unit.3)
unit_written (Some Int) text unit = ap answer (digits_run text unit)
unit_written (Some String) text unit = ap (λ t. answer (run (Some Start) t)) unit.1 ∙ ap answer (quoted_run unit.0 unit.2)
unit_written (Some True) text unit = constant_written True text unit refl
unit_written (Some False) text unit = constant_written False text unit refl
unit_written (Some Body) text unit = constant_written Body text unit refl
unit_written (Some End) text unit = constant_written End text unit refl
unit_written (Some Abort) text unit = constant_written Abort text unit refl
unit_written (Some Not) text unit = constant_written Not text unit refl
unit_written (Some And) text unit = constant_written And text unit refl
unit_written (Some Or) text unit = constant_written Or text unit refl
unit_written (Some OpenParenthesis) text unit = constant_written OpenParenthesis text unit refl
unit_written (Some CloseParenthesis) text unit = constant_written CloseParenthesis text unit refl
unit_written (Some OpenBracket) text unit = constant_written OpenBracket text unit refl
unit_written (Some CloseBracket) text unit = constant_written CloseBracket text unit refl
unit_written (Some OpenBrace) text unit = constant_written OpenBrace text unit refl
unit_written (Some CloseBrace) text unit = constant_written CloseBrace text unit refl
