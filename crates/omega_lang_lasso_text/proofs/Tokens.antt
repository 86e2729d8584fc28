-- Tokens of lasso texts and their faults, by what game texts have at the same place.
use Rattle.std.proofs.Common.{◌≡◌, ◌≢◌, ℕ, ◌+◌, ◌-◌, ◌<◌, ◌⊎◌, inl, inr, ⊎_elim, true, List, length, take, drop, refl, sym, ap, ◌∙◌, subst, arith, codes, length-drop, length-take, length-take-le}
use Rattle.std.specs.List.{prefix_len}
use Rattle.omega_text.specs.Bytes.{is_letter, is_word_byte}
use Rattle.omega_text.specs.Forms.{IsDigits}
use Rattle.omega_text.specs.Lexeme.{Lexeme, lexeme_at}
use Rattle.omega_text.specs.declared.refusal.text.TextFault.{TextFault}
use Rattle.omega_text.specs.declared.refusal.text.TextFault.TheVariants.{Lex, Number as NumberFault, Syntax, TooLong}
use Rattle.omega_text.specs.declared.pg.kind.PgKind.{PgKind}
use Rattle.omega_text.specs.declared.pg.kind.PgKind.TheVariants.{Comma, Name, Number as PgNumber, Parity, ParitySol, Semicolon}
use Rattle.omega_text.specs.pg.Cut.{IsGap, Follows as PgFollows}
use Rattle.omega_text.specs.pg.Fault.{BeginsWrongWord, HasFaultFrom as HasPgFaultFrom}
use Rattle.omega_text.specs.pg.Forms.{IsLongest, Spells as PgSpells}
use Rattle.omega_text.proofs.pg_texts.Classes.{digit_range, letter_range}
use Rattle.omega_text.proofs.pg_texts.Longest.{form_head, head, head-take, longest_word}
use Rattle.omega_text.proofs.pg_texts.Unique.{one_longest, token_black}
use Rattle.omega_lang_lasso_text.specs.Cut.{BeginsWith, Follows}
use Rattle.omega_lang_lasso_text.specs.Fault.{BeginsOther, HasFaultFrom}
use Rattle.omega_lang_lasso_text.specs.Tokens.{Spells}
use Rattle.omega_lang_lasso_text.specs.declared.kind.LassoKind.{LassoKind}
use Rattle.omega_lang_lasso_text.specs.declared.kind.LassoKind.TheVariants.{Cycle, Number, Stem}
use Rattle.omega_lang_lasso_text.specs.private.Words.{IsWordOf, IsWordToken, front_word}

-- the longest front, if it spells a token, is the token that the bytes begin with
pub begins_at : (bytes : List ℕ) (place count : ℕ) (kind : LassoKind) (value : ℕ) → IsLongest bytes count → Spells kind value (take count bytes)
    → BeginsWith bytes (lexeme_at place kind value (take count bytes))
begins_at bytes place count kind value longest spells =
    let short = length-take-le count bytes longest.within in
    let some = (form_head (take count bytes) longest.form).0 in
    let size : place + length (take count bytes) - place ≡ count = omega arith in
    record {
      nonempty = omega arith;
      longest = subst (IsLongest bytes) (sym size) longest;
      text = ap (λ n. take n bytes) (sym size);
      spells = spells;
    }

-- one of the two words begins with a letter
word_letter : (kind : LassoKind) (text : List ℕ) → IsWordOf kind text → (is_letter (head text) ≡ true) × (0 < length text)
word_letter Number text is = absurd is
word_letter Stem text is = (ap (λ t. is_letter (head t)) is, omega (arith, ap length is))
word_letter Cycle text is = (ap (λ t. is_letter (head t)) is, omega (arith, ap length is))

-- and is a token
spelled_word : (kind : LassoKind) (text : List ℕ) → IsWordOf kind text → Spells kind 0 text
spelled_word Number text is = absurd is
spelled_word Stem text is = (refl, is)
spelled_word Cycle text is = (refl, is)

-- a word at the front is the longest form
front_longest : (kind : LassoKind) (bytes : List ℕ) → IsWordOf kind (front_word bytes) → IsLongest bytes (prefix_len is_word_byte bytes)
front_longest kind bytes word =
    let count = prefix_len is_word_byte bytes in
    let first = word_letter kind (front_word bytes) word in
    let size = length-take count bytes in
    let some : 0 < length bytes = omega (arith, first.1) in
    let counted : 0 < count = omega (arith, first.1) in
    (longest_word bytes some (sym (ap is_letter (head-take count bytes counted)) ∙ first.0)).0

-- a word after a gap is the token that follows
pub word_follows : (source : List ℕ) (from place : ℕ) (lexeme : Lexeme LassoKind) → IsGap source from place → IsWordToken source place lexeme → Follows source from lexeme
word_follows source from place lexeme gap token =
    let bytes = drop place source in
    let count = prefix_len is_word_byte bytes in
    let longest = front_longest lexeme.kind bytes token.word in
    let size = length-drop place source in
    let short = length-take-le count bytes longest.within in
    let inside = longest.within in
    let within = gap.within in
    let there : Follows source from (lexeme_at place lexeme.kind 0 (take count bytes)) =
    record {
      gap = gap;
      token = begins_at bytes place count lexeme.kind 0 longest (spelled_word lexeme.kind (take count bytes) token.word);
      within = omega arith;
    } in
    subst (Follows source from) (sym token.lexeme_is) there

-- the number of a game text as a token of a lasso text
abbrev pub as_number : Lexeme PgKind → Lexeme LassoKind
as_number lexeme = record { kind = Number; text = lexeme.text; value = lexeme.value; span = lexeme.span }

-- it follows at the place at which the number does
pub number_follows : (source : List ℕ) (from : ℕ) (lexeme : Lexeme PgKind) → PgFollows source from lexeme → lexeme.kind ≡ PgNumber → Follows source from (as_number lexeme)
number_follows source from lexeme follows is = record {
  gap = follows.gap;
  token = record {
    nonempty = follows.token.nonempty;
    longest = follows.token.longest;
    text = follows.token.text;
    spells = subst (λ kind. PgSpells kind lexeme.value lexeme.text) is follows.token.spells;
  };
  within = follows.within;
}

-- a text that is no token of a lasso text
record IsApart (text : List ℕ) : Type 0 where
  pub no_digits : IsDigits text → ⊥
  pub no_stem : text ≢ codes "stem"
  pub no_cycle : text ≢ codes "cycle"

-- by its first byte
apart_at : (text : List ℕ) (first : ℕ) → head text ≡ first → (first < 48) ⊎ (57 < first) → first ≢ 115 → first ≢ 99 → IsApart text
apart_at text first is no_digit no_s no_c = record {
  no_digits = λ digits.
      let range = digit_range (head text) (digits.1 0 0 digits.0) in
      ⊎_elim (λ below. omega arith) (λ above. omega arith) no_digit;
  no_stem = λ same. no_s (sym is ∙ ap head same);
  no_cycle = λ same. no_c (sym is ∙ ap head same);
}

-- no other token of a game text is a token of a lasso text
other_apart : (kind : PgKind) (value : ℕ) (text : List ℕ) → (kind ≡ PgNumber → ⊥) → PgSpells kind value text → IsApart text
other_apart PgNumber value text other spells = absurd (other refl)
other_apart Parity value text other spells = apart_at text 112 (ap head spells.1) (inr (omega arith)) (λ e. omega arith) (λ e. omega arith)
other_apart ParitySol value text other spells = apart_at text 112 (ap head spells.1) (inr (omega arith)) (λ e. omega arith) (λ e. omega arith)
other_apart Semicolon value text other spells = apart_at text 59 (ap head spells.1) (inr (omega arith)) (λ e. omega arith) (λ e. omega arith)
other_apart Comma value text other spells = apart_at text 44 (ap head spells.1) (inl (omega arith)) (λ e. omega arith) (λ e. omega arith)
other_apart Name value text other spells = apart_at text 34 (ap head spells.1.1) (inl (omega arith)) (λ e. omega arith) (λ e. omega arith)

-- so it is a fault
pub other_faults : (source : List ℕ) (from : ℕ) (lexeme : Lexeme PgKind) → PgFollows source from lexeme → (lexeme.kind ≡ PgNumber → ⊥)
    → HasFaultFrom source from (Lex lexeme.span.start)
other_faults source from lexeme follows other =
    let black = token_black source from lexeme follows in
    let text = take (lexeme.span.end - lexeme.span.start) (drop lexeme.span.start source) in
    let apart = other_apart lexeme.kind lexeme.value text other (subst (PgSpells lexeme.kind lexeme.value) follows.token.text follows.token.spells) in
    record {
      place = lexeme.span.start;
      gap = follows.gap;
      more = black.inside;
      black = black.black;
      fault_there = (
        refl,
        inr (record {
          count = lexeme.span.end - lexeme.span.start;
          longest = follows.token.longest;
          no_digits = apart.no_digits;
          no_stem = apart.no_stem;
          no_cycle = apart.no_cycle;
        }),
      );
    }

-- a wrong word of a game text is the word at the front
wrong_front : (bytes : List ℕ) (wrong : BeginsWrongWord bytes) → wrong.count ≡ prefix_len is_word_byte bytes
wrong_front bytes wrong =
    let word = wrong.word in
    let size = length-take wrong.count bytes in
    let some : 0 < length bytes = omega (arith, word.0) in
    let counted : 0 < wrong.count = omega (arith, word.0) in
    one_longest bytes wrong.count (prefix_len is_word_byte bytes) wrong.longest
    (longest_word bytes some (sym (ap is_letter (head-take wrong.count bytes counted)) ∙ word.1)).0

-- a wrong word that is none of the two
wrong_other : (bytes : List ℕ) → front_word bytes ≢ codes "stem" → front_word bytes ≢ codes "cycle" → BeginsWrongWord bytes → BeginsOther bytes
wrong_other bytes no_stem no_cycle wrong =
    let text = take wrong.count bytes in
    let same : text ≡ front_word bytes = ap (λ n. take n bytes) (wrong_front bytes wrong) in
    record {
      count = wrong.count;
      longest = wrong.longest;
      no_digits = λ digits.
          let letter = letter_range (head text) wrong.word.1 in
          let digit = digit_range (head text) (digits.1 0 0 digits.0) in
          omega arith;
      no_stem = λ is. no_stem (sym same ∙ is);
      no_cycle = λ is. no_cycle (sym same ∙ is);
    }

-- if a game text begins no token, a lasso text has one of the two words
pub lex_follows : (source : List ℕ) (from place : ℕ) (lexeme : Lexeme LassoKind) → HasPgFaultFrom source from (Lex place) → IsWordToken source place lexeme
    → Follows source from lexeme
lex_follows source from place lexeme faults token = word_follows source from place lexeme (subst (IsGap source from) (sym faults.fault_there.0) faults.gap) token

-- or a fault
pub lex_faults : (source : List ℕ) (from place : ℕ) → HasPgFaultFrom source from (Lex place)
    → front_word (drop place source) ≢ codes "stem" → front_word (drop place source) ≢ codes "cycle" → HasFaultFrom source from (Lex place)
lex_faults source from place faults no_stem no_cycle =
    let at : place ≡ faults.place = faults.fault_there.0 in
    record {
      place = faults.place;
      gap = faults.gap;
      more = faults.more;
      black = faults.black;
      fault_there = (
        at,
        ⊎_elim (λ none. inl none)
            (λ wrong. inr (wrong_other (drop faults.place source)
            (subst (λ n. front_word (drop n source) ≢ codes "stem") at no_stem)
            (subst (λ n. front_word (drop n source) ≢ codes "cycle") at no_cycle) wrong))
            faults.fault_there.1,
      );
    }

-- each other fault of a game text is one of a lasso text
pub same_faults : (source : List ℕ) (from : ℕ) (fault : TextFault) → ((at : ℕ) → fault ≡ Lex at → ⊥) → HasPgFaultFrom source from fault → HasFaultFrom source from fault
same_faults source from (Lex at) other faults = absurd (other at refl)
same_faults source from (NumberFault at) other faults = record {
  place = faults.place;
  gap = faults.gap;
  more = faults.more;
  black = faults.black;
  fault_there = faults.fault_there;
}
same_faults source from (Syntax at) other faults = absurd faults.fault_there
same_faults source from TooLong other faults = absurd faults.fault_there
