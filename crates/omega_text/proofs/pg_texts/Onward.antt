-- From each place a PGSolver text goes on in some way.
use Rattle.std.proofs.Common.{◌≡◌, ℕ, ◌+◌, ◌<◌, ◌≤◌, ◌⊎◌, inl, inr, ⊎_elim, true, List, [], ◌∷◌, length, get_or, take, drop, refl, ap, ◌∙◌, subst, arith, codes, eqb, length-drop, length-take-le}
use Rattle.std.proofs.lemmas.Bool.{cases_eq}
use Rattle.std.proofs.lemmas.List.{take_more}
use Rattle.std.proofs.str.Laws.{order}
use Rattle.std.specs.Cmp.Lexicographic.{bytes_decides, pointwise}
use Rattle.std.specs.List.{prefix_len}
use Rattle.std.specs.Str.Parse.{digits_value}
use Rattle.omega_text.specs.Bytes.{is_digit, is_letter, is_white, is_word_byte}
use Rattle.omega_text.specs.pg.Cut.{Follows, IsGap}
use Rattle.omega_text.specs.Limits.{most_number}
use Rattle.omega_text.specs.declared.refusal.text.TextFault.{TextFault}
use Rattle.omega_text.specs.declared.refusal.text.TextFault.TheVariants.{Lex, Number as NumberFault}
use Rattle.omega_text.specs.declared.pg.kind.PgKind.{PgKind}
use Rattle.omega_text.specs.declared.pg.kind.PgKind.TheVariants.{Comma, Name, Number, Parity, ParitySol, Semicolon}
use Rattle.omega_text.specs.pg.Fault.{HasFaultFrom, IsFaultOf}
use Rattle.omega_text.specs.pg.Forms.{IsLongest, IsNoToken, Spells, is_name_byte}
use Rattle.omega_text.specs.Lexeme.{Lexeme, lexeme_at}
use Rattle.omega_text.proofs.pg_texts.Classes.{both_ways, two_ways}
use Rattle.omega_text.proofs.pg_texts.Gaps.{run_black, run_gap}
use Rattle.omega_text.proofs.pg_texts.Longest.{head, longest_digits, longest_sign, longest_word, no_head}
use Rattle.omega_text.proofs.pg_texts.Numbers.{decimal_value, needless_zero, too_great, wrong_word}
use Rattle.omega_text.proofs.pg_texts.Quoted.{longest_name, no_name}
use Rattle.omega_text.proofs.pg_texts.Tokens.{begins_at}

-- how bytes go on that are not white: with a token, which is their longest form, or with a fault
abbrev Begins : List ℕ → ℕ → Type 0
Begins bytes place = ((kind : PgKind) × (value : ℕ) × (count : ℕ) × IsLongest bytes count × Spells kind value (take count bytes)) ⊎ ((fault : TextFault) × IsFaultOf bytes place fault)

module _ (bytes : List ℕ) (place : ℕ) (some : 0 < length bytes) where
  -- at a digit
  digits_begin : is_digit (head bytes) ≡ true → Begins bytes place
  digits_begin digit =
      let count = prefix_len is_digit bytes in
      let front = longest_digits bytes some digit in
      let text = take count bytes in
      let refused : IsNoToken text → Begins bytes place = λ wrong. inr (NumberFault place, (refl, record { count = count; longest = front.0; digits = front.1; wrong = wrong })) in
      let plain : (head text ≡ 48 → length text ≡ 1) → Begins bytes place = λ single. ⊎_elim
      (λ great. refused (too_great text front.1 great))
      (λ small. inl (Number, digits_value 10 text, count, front.0, (small, decimal_value text front.1 single (omega arith))))
      (order most_number (digits_value 10 text)) in
      ⊎_elim
      (λ long. ⊎_elim
      (λ zero_first. refused (needless_zero text front.1 zero_first long))
      (λ other. plain (λ zero_first. absurd (other zero_first)))
      (cases_eq (head text) 48))
      (λ short. plain (λ _. let some_digit = front.1.0 in omega arith))
      (order 1 (length text))

  -- at a letter
  word_begins : is_letter (head bytes) ≡ true → Begins bytes place
  word_begins letter =
      let count = prefix_len is_word_byte bytes in
      let front = longest_word bytes some letter in
      let text = take count bytes in
      let same = λ (word : List ℕ). bytes_decides text word in
      ⊎_elim
      (λ parity. inl (Parity, 0, count, front.0, (refl, (same (codes "parity")).0 parity)))
      (λ other. ⊎_elim
      (λ solution. inl (ParitySol, 0, count, front.0, (refl, (same (codes "paritysol")).0 solution)))
      (λ another. inr (
        Lex place,
        (
          refl,
          inr (record {
            count = count;
            longest = front.0;
            word = front.1;
            wrong = wrong_word text front.1 (λ is. both_ways _ ((same (codes "parity")).1 is) other) (λ is. both_ways _ ((same (codes "paritysol")).1 is) another);
          }),
        ),
      ))
      (two_ways (pointwise eqb text (codes "paritysol"))))
      (two_ways (pointwise eqb text (codes "parity")))

  -- at a quote
  name_begins : head bytes ≡ 34 → Begins bytes place
  name_begins quote =
      let close = 1 + prefix_len is_name_byte (drop 1 bytes) in
      let refused : (close < length bytes → get_or bytes close 0 ≡ 34 → ⊥) → Begins bytes place = λ unclosed.
      inr (Lex place, (refl, inl (no_name bytes some quote close refl unclosed))) in
      ⊎_elim
      (λ inside. ⊎_elim
      (λ closed. let name = longest_name bytes some quote close refl inside closed in
      inl (Name, 0, close + 1, name.0, (refl, name.1)))
      (λ other. refused (λ _ closed. other closed))
      (cases_eq (get_or bytes close 0) 34))
      (λ past. refused (λ inside _. omega arith))
      (order close (length bytes))

  -- at any byte that is not white
  begins : Begins bytes place
  begins = ⊎_elim digits_begin (λ no_digit.
      ⊎_elim word_begins (λ no_letter.
      ⊎_elim name_begins (λ no_quote.
      ⊎_elim (λ semicolon. sign_begins Semicolon 59 (inl semicolon) (λ is. (refl, is)) semicolon) (λ no_semicolon.
      ⊎_elim (λ comma. sign_begins Comma 44 (inr comma) (λ is. (refl, is)) comma) (λ no_comma.
      inr (Lex place, (refl, inl (no_head bytes no_digit no_letter no_quote no_semicolon no_comma))))
      (cases_eq (head bytes) 44))
      (cases_eq (head bytes) 59))
      (cases_eq (head bytes) 34))
      (two_ways (is_letter (head bytes))))
      (two_ways (is_digit (head bytes)))
    where
      sign_begins : (kind : PgKind) (sign : ℕ) → (head bytes ≡ 59) ⊎ (head bytes ≡ 44) → (take 1 bytes ≡ sign ∷ [] → Spells kind 0 (take 1 bytes)) → head bytes ≡ sign → Begins bytes place
      sign_begins kind sign either spells is =
          inl (kind, 0, 1, longest_sign bytes some either, spells (take_more bytes 0 0 some ∙ ap (λ b. b ∷ []) is))

-- how a text goes on from a place: with white space to its end, a token, or a fault
abbrev pub Onward : List ℕ → ℕ → Type 0
Onward source from = IsGap source from (length source) ⊎ (((lexeme : Lexeme PgKind) × Follows source from lexeme) ⊎ ((fault : TextFault) × HasFaultFrom source from fault))

pub onward : (source : List ℕ) (from : ℕ) → from ≤ length source → Onward source from
onward source from inside =
    let start = from + prefix_len is_white (drop from source) in
    let bytes = drop start source in
    let gap = run_gap source from inside in
    let size = length-drop start source in
    ⊎_elim
    (λ more.
    let some : 0 < length bytes = omega arith in
    ⊎_elim
    (λ token. let short = length-take-le token.2 bytes token.3.within in inr (inl (
      lexeme_at start token.0 token.1 (take token.2 bytes),
      record {
        gap = gap;
        token = begins_at bytes start token.2 token.0 token.1 token.3 token.4;
        within = omega (arith, token.3.within);
      },
    )))
    (λ fault. inr (inr (
      fault.0,
      record {
        place = start;
        gap = gap;
        more = more;
        black = run_black source from inside more;
        fault_there = fault.1;
      },
    )))
    (begins bytes start some))
    (λ past. let end : start ≡ length source = omega (arith, gap.within) in inl (subst (IsGap source from) end gap))
    (order start (length source))
