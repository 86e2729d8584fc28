-- How written tokens are cut.
use Rattle.std.proofs.Common.{◌≡◌, ◌≢◌, ◌==◌, ℕ, ◌+◌, ◌≤◌, true, false, Some, List, [], ◌∷◌, ◌++◌, length, drop, refl, ap, ◌∙◌, subst, arith, inl}
use Rattle.std.proofs.lemmas.List.Elements.{All-head, All-tail}
use Rattle.std.specs.List.{AllPass}
use Rattle.omega_text.specs.Lexeme.{lexeme_at}
use Rattle.omega_text.specs.Limits.{most_number}
use Rattle.omega_text.specs.declared.hoa.kind.HoaKind.{HoaKind}
use Rattle.omega_text.specs.declared.hoa.kind.HoaKind.TheVariants.{Identifier, HeaderName, AliasName, True, False, Int, String}
use Rattle.omega_text.specs.declared.hoa.mode.Mode.TheVariants.{Word, Alias, Digits, Whole, Start}
use Rattle.omega_text.specs.hoa.Cut.{Follows, IsGap, IsLongest}
use Rattle.omega_text.specs.hoa.Cut.IsGap.{blank, nothing}
use Rattle.omega_text.specs.hoa.Forms.{IsAlias, IsForm, Spells}
use Rattle.omega_text.specs.hoa.Laws.{is_closed}
use Rattle.omega_text.specs.private.hoa.scanning.Modes.{run}
use Rattle.omega_text.specs.Bytes.{is_digit, is_white, is_word_byte}
use Rattle.omega_text.specs.Forms.{IsDigits, IsWord}
use Rattle.omega_text.proofs.pg_texts.Longest.{head}
use Rattle.omega_text.proofs.hoa_texts.Longest.{stuck_longest}
use Rattle.omega_text.proofs.hoa_texts.Numbers.{one_value, spelled_form}
use Rattle.omega_text.proofs.hoa_texts.Tests.{pass}
use Rattle.omega_text.proofs.hoa_texts.Unique.{one_sort}
use Rattle.omega_text.proofs.hoa_texts.Units.{stuck_before, whole_stuck}
use Rattle.omega_text.proofs.hoa_texts.Written.{at_run, digits_run, header_run, no_test, quoted_run, word_kind, word_run}

-- a text is a token of one kind and value
pub one_spelling : (text : List ℕ) (one other : HoaKind) (value another : ℕ) → Spells one value text → Spells other another text → (one ≡ other) × (value ≡ another) × (value ≤ most_number)
one_spelling text one other value another first second =
    let sorts = one_sort text (Some one) (Some other) (spelled_form one value text first) (spelled_form other another text second) in
    let kinds : one ≡ other = cc in
    (kinds, one_value other value another text (subst (λ kind. Spells kind value text) kinds first) second, small one value text first)
  where
    small : (kind : HoaKind) (value : ℕ) (text : List ℕ) → Spells kind value text → value ≤ most_number
    small Int value text spells = spells.0
    small kind value text spells = omega (arith, spells.0)

-- a word
pub word_longest : (text rest : List ℕ) → IsWord text → is_word_byte (head rest) ≡ false → head rest ≢ 58 → IsLongest text rest
word_longest [] rest word ends no_colon = absurd (omega (arith, word.0))
word_longest (byte ∷ text) rest word ends no_colon =
    stuck_longest (byte ∷ text) rest (Word (word_kind byte text)) (word_run byte text word.1 (All-tail (λ b. is_word_byte b ≡ true) byte text word.2))
    (stuck_before (Word (word_kind byte text)) rest (λ _. pass (is_word_byte (head rest)) _ _ ends ∙ pass (head rest == 58) _ _ (no_test (head rest) 58 no_colon)))

-- an alias name
pub alias_longest : (text rest : List ℕ) → IsAlias text → is_word_byte (head rest) ≡ false → IsLongest text rest
alias_longest text rest (name, is, some, all) ends =
    stuck_longest text rest Alias (ap (run (Some Start)) is ∙ at_run name some all) (stuck_before Alias rest (λ _. pass (is_word_byte (head rest)) _ _ ends))

-- digits
pub digits_longest : (text rest : List ℕ) → IsDigits text → is_digit (head rest) ≡ false → IsLongest text rest
digits_longest text rest digits ends = stuck_longest text rest Digits (digits_run text digits) (stuck_before Digits rest (λ _. pass (is_digit (head rest)) _ _ ends))

-- a token that shows by itself where it ends
pub closed_run : (kind : HoaKind) (text : List ℕ) → is_closed kind ≡ true → IsForm kind text → run (Some Start) text ≡ Some (Whole kind)
closed_run Identifier text closed form = absurd (cc)
closed_run AliasName text closed form = absurd (cc)
closed_run True text closed form = absurd (cc)
closed_run False text closed form = absurd (cc)
closed_run Int text closed form = absurd (cc)
closed_run HeaderName text closed form = ap (run (Some Start)) form.1 ∙ header_run form.0 form.2
closed_run String text closed form = ap (run (Some Start)) form.1 ∙ quoted_run form.0 form.2
closed_run kind text closed form = ap (run (Some Start)) form

pub closed_longest : (kind : HoaKind) (text rest : List ℕ) → is_closed kind ≡ true → IsForm kind text → IsLongest text rest
closed_longest kind text rest closed form = stuck_longest text rest (Whole kind) (closed_run kind text closed form) (whole_stuck kind rest)

-- white space is a gap
pub white_gap : (gap : List ℕ) → AllPass is_white gap → IsGap gap
white_gap [] all = nothing
white_gap (byte ∷ gap) all = blank (byte ∷ []) gap (inl (byte, refl, All-head (λ b. is_white b ≡ true) byte gap all)) (white_gap gap (All-tail (λ b. is_white b ≡ true) byte gap all))

-- a written token
pub written_follows : (source gap text rest : List ℕ) (from : ℕ) (kind : HoaKind) (value : ℕ)
    → drop from source ≡ gap ++ (text ++ rest) → IsGap gap → Spells kind value text → IsLongest text rest
    → Follows source from (lexeme_at (from + length gap) kind value text)
written_follows source gap text rest from kind value split passed spells longest = record { gap = gap; rest = rest; split = split; passed = passed; spells = spells; longest = longest; start = refl; end = refl }
