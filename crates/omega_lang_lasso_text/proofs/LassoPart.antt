-- The part of a lasso: as a loop finds it, and of the lines that `empty` writes.
use Rattle.std.proofs.Common.{◌≡◌, ℕ, ◌+◌, ◌-◌, ◌<◌, ◌≤◌, Bool, true, false, cond, ◌&&◌, ◌||◌, eqb, All, List, [], ◌∷◌, ◌++◌, length, get_or, take, drop, refl, sym, subst, ap, ◌∙◌, arith, codes, append_assoc}
use Rattle.std.specs.Prelude.{IfErr, Result, Err, Ok, decimal}
use Rattle.std.specs.Cmp.Lexicographic.{pointwise}
use Rattle.std.proofs.lemmas.Bool.Decides.{nat_tests}
use Rattle.std.proofs.lemmas.List.{drop_more, take_more, take_rest}
use Rattle.std.proofs.lemmas.List.Elements.{All-cons, All-head, All-tail}
use Rattle.omega_text.specs.Bytes.{is_digit}
use Rattle.omega_text.specs.Limits.{most_text}
use Rattle.omega_text.proofs.pg_texts.Classes.{digit_range}
use Rattle.omega_text.proofs.pg_texts.Numbers.{decimal_digits}
use Rattle.omega_text.specs.declared.refusal.Refusal.{Refusal}
use Rattle.omega_text.specs.declared.refusal.Refusal.TheVariants.{Automaton, Circuit, Game, Io, Memory, Task, Text}
use Rattle.omega_text.specs.declared.refusal.text.TextFault.TheVariants.{Lex, Number, Syntax, TooLong}
use Rattle.omega_lang_lasso_text.specs.Laws.{WrittenLassosAreRead, WrittenLinesAreRead}
use Rattle.omega_lang_lasso_text.specs.Lines.{IsReadLassoLinesRefusal, lasso_part, ends_lasso}
use Rattle.omega_lang_lasso_text.specs.Refusing.{IsReadLassoRefusal}
use Rattle.omega_lang_lasso_text.specs.Text.{IsLassoText}
use Rattle.omega_lang_lasso_text.specs.declared.lasso.LassoText.{LassoText}
use Rattle.omega_lang_lasso_text.specs.Written.{lasso_text, numbers_text}

-- a word or a run follows, or the part of the lasso goes on
abbrev go_on : Bool → ℕ → List ℕ → List ℕ
go_on ends byte rest = cond ends (byte ∷ []) (byte ∷ lasso_part rest)

-- up to this place no word and no run follows
module _ (bytes : List ℕ) (at : ℕ) (inside : at < length bytes) (before : lasso_part bytes ≡ take at bytes ++ lasso_part (drop at bytes)) where
  -- what is told of the byte there
  here : (ends : Bool) → ends ≡ ends_lasso (take (length bytes - at) (drop at bytes))
      → lasso_part bytes ≡ take at bytes ++ go_on ends (get_or bytes at 0) (drop (at + 1) bytes)
  here ends told =
      let rest = drop_more bytes at 0 inside in
      let same = told ∙ ap ends_lasso (take_rest bytes at ∙ rest) in
      before ∙ ap (λ (more : List ℕ). take at bytes ++ lasso_part more) rest
      ∙ ap (λ (test : Bool). take at bytes ++ go_on test (get_or bytes at 0) (drop (at + 1) bytes)) (sym same)

  -- it is found
  pub word_here : (ends : Bool) → ends ≡ ends_lasso (take (length bytes - at) (drop at bytes)) → ends ≡ true
      → take (at + 1) bytes ≡ lasso_part bytes
  word_here ends told is =
      take_more bytes at 0 inside
      ∙ sym (here ends told ∙ ap (λ (test : Bool). take at bytes ++ go_on test (get_or bytes at 0) (drop (at + 1) bytes)) is)

  -- the search goes on
  pub no_word_here : (ends : Bool) → ends ≡ ends_lasso (take (length bytes - at) (drop at bytes)) → ends ≡ false
      → lasso_part bytes ≡ take (at + 1) bytes ++ lasso_part (drop (at + 1) bytes)
  no_word_here ends told is =
      here ends told ∙ ap (λ (test : Bool). take at bytes ++ go_on test (get_or bytes at 0) (drop (at + 1) bytes)) is
      ∙ sym (append_assoc (take at bytes) (get_or bytes at 0 ∷ []) (lasso_part (drop (at + 1) bytes)))
      ∙ ap (λ (front : List ℕ). front ++ lasso_part (drop (at + 1) bytes)) (sym (take_more bytes at 0 inside))

-- a byte more, and the part of the lasso in the rest
go_on_length : (byte : ℕ) (rest : List ℕ) → length (lasso_part rest) ≤ length rest → (ends : Bool)
    → length (go_on ends byte rest) ≤ length (byte ∷ rest)
go_on_length byte rest fewer true = omega arith
go_on_length byte rest fewer false = omega (arith, fewer)

-- the part of the lasso is no longer than all
pub lasso_part_length : (bytes : List ℕ) → length (lasso_part bytes) ≤ length bytes
lasso_part_length [] = omega arith
lasso_part_length (byte ∷ rest) = go_on_length byte rest (lasso_part_length rest) (ends_lasso (byte ∷ rest))

-- a byte that ends no line
abbrev is_no_feed : ℕ → Type 0
is_no_feed byte = eqb 10 byte ≡ false

-- no word and no run follows within a line
line_goes_on : (line rest : List ℕ) → All is_no_feed line → lasso_part (line ++ rest) ≡ line ++ lasso_part rest
line_goes_on [] rest none = refl
line_goes_on (byte ∷ line) rest none =
    ap (λ (test : Bool).
    go_on ((test && pointwise eqb (codes "word ") (take 5 (line ++ rest))) || (test && pointwise eqb (codes "run ") (take 4 (line ++ rest)))) byte
    (line ++ rest))
    (All-head is_no_feed byte line none)
    ∙ ap (λ (more : List ℕ). byte ∷ more) (line_goes_on line rest (All-tail is_no_feed byte line none))

-- a digit ends no line
digit_no_feed : (byte : ℕ) → is_digit byte ≡ true → is_no_feed byte
digit_no_feed byte digit = let range = digit_range byte digit in grind (arith, nat_tests)

-- numbers in a line
numbers_go_on : (numbers rest : List ℕ) → lasso_part (numbers_text numbers ++ rest) ≡ numbers_text numbers ++ lasso_part rest
numbers_go_on [] rest = refl
numbers_go_on (n ∷ numbers) rest =
    let digits : All is_no_feed (32 ∷ decimal n) = All-cons is_no_feed 32 (decimal n) refl (λ i d inside. digit_no_feed (get_or (decimal n) i d) ((decimal_digits n).1 i d inside)) in
    ap lasso_part (append_assoc (32 ∷ decimal n) (numbers_text numbers) rest)
    ∙ line_goes_on (32 ∷ decimal n) (numbers_text numbers ++ rest) digits
    ∙ ap (λ (more : List ℕ). (32 ∷ decimal n) ++ more) (numbers_go_on numbers rest)
    ∙ sym (append_assoc (32 ∷ decimal n) (numbers_text numbers) (lasso_part rest))

-- the lines of a lasso up to the last line feed, and what comes then
abbrev lines_then : (stem cycle following : List ℕ) → List ℕ
lines_then stem cycle following = codes "stem" ++ (numbers_text stem ++ (codes "\ncycle" ++ (numbers_text cycle ++ following)))

lines_go_on : (stem cycle following : List ℕ) → lasso_part (lines_then stem cycle following) ≡ lines_then stem cycle (lasso_part following)
lines_go_on stem cycle following =
    ap (λ (more : List ℕ). codes "stem" ++ more) (numbers_go_on stem (codes "\ncycle" ++ (numbers_text cycle ++ following)))
    ∙ ap (λ (more : List ℕ). codes "stem" ++ (numbers_text stem ++ (codes "\ncycle" ++ more))) (numbers_go_on cycle following)

lines_append : (stem cycle following : List ℕ) → lasso_text stem cycle ++ following ≡ lines_then stem cycle (codes "\n" ++ following)
lines_append stem cycle following =
    ap (λ (more : List ℕ). codes "stem" ++ more) (append_assoc (numbers_text stem) (codes "\ncycle" ++ (numbers_text cycle ++ codes "\n")) following)
    ∙ ap (λ (more : List ℕ). codes "stem" ++ (numbers_text stem ++ (codes "\ncycle" ++ more))) (append_assoc (numbers_text cycle) (codes "\n") following)

-- the lines of a lasso alone
pub lasso_before_none : (stem cycle : List ℕ) → lasso_part (lasso_text stem cycle) ≡ lasso_text stem cycle
lasso_before_none stem cycle = lines_go_on stem cycle (codes "\n")

-- with a word
pub lasso_before_word : (stem cycle word : List ℕ) → lasso_part (lasso_text stem cycle ++ (codes "word " ++ word)) ≡ lasso_text stem cycle
lasso_before_word stem cycle word =
    ap lasso_part (lines_append stem cycle (codes "word " ++ word)) ∙ lines_go_on stem cycle (codes "\nword " ++ word)

-- and with a run
pub lasso_before_run : (stem cycle run : List ℕ) → lasso_part (lasso_text stem cycle ++ (codes "run " ++ run)) ≡ lasso_text stem cycle
lasso_before_run stem cycle run =
    ap lasso_part (lines_append stem cycle (codes "run " ++ run)) ∙ lines_go_on stem cycle (codes "\nrun " ++ run)

-- a text whose part of the lasso is its written form says that lasso
pub lines_read : WrittenLassosAreRead → WrittenLinesAreRead
lines_read read source lasso some stem cycle short is =
    let fewer = lasso_part_length source in
    let within : length (lasso_text lasso.stem lasso.cycle) ≤ most_text = omega (arith, short, fewer, ap length is) in
    record { short = short; says = subst (λ (text : List ℕ). IsLassoText text lasso) (sym is) (read lasso some stem cycle within) }

-- the refusal of the part of the lasso is that of a text within the limit
lines_refused : (source : List ℕ) → length source ≤ most_text → (refusal : Refusal)
    → IsReadLassoRefusal (lasso_part source) refusal → IsReadLassoLinesRefusal source refusal
lines_refused source short (Text TooLong) is = let fewer = lasso_part_length source in absurd (omega (arith, short, fewer, is))
lines_refused source short (Text (Lex at)) is = (short, is)
lines_refused source short (Text (Number at)) is = (short, is)
lines_refused source short (Text (Syntax at)) is = (short, is)
lines_refused source short (Game fault) is = is
lines_refused source short (Circuit fault) is = is
lines_refused source short (Automaton fault) is = is
lines_refused source short (Task fault) is = is
lines_refused source short Memory is = is
lines_refused source short Io is = is

-- so is that of a call
pub read_refused : (source : List ℕ) → length source ≤ most_text → (made : Result LassoText Refusal)
    → IfErr made (IsReadLassoRefusal (lasso_part source)) → IfErr made (IsReadLassoLinesRefusal source)
read_refused source short (Ok lasso) is = is
read_refused source short (Err refusal) is = lines_refused source short refusal is
