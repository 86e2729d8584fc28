-- From each place a lasso text goes on in some way, as a game text does.
use Rattle.std.proofs.Common.{◌≡◌, ℕ, ◌≤◌, ◌⊎◌, inl, inr, ⊎_elim, List, length, drop, refl, codes, eqb}
use Rattle.std.specs.Cmp.Lexicographic.{bytes_decides, pointwise}
use Rattle.omega_text.specs.Lexeme.{Lexeme, lexeme_at}
use Rattle.omega_text.specs.declared.refusal.text.TextFault.{TextFault}
use Rattle.omega_text.specs.declared.refusal.text.TextFault.TheVariants.{Lex, Number as NumberFault, Syntax, TooLong}
use Rattle.omega_text.specs.declared.pg.kind.PgKind.{PgKind}
use Rattle.omega_text.specs.declared.pg.kind.PgKind.TheVariants.{Comma, Name, Number as PgNumber, Parity, ParitySol, Semicolon}
use Rattle.omega_text.specs.pg.Cut.{IsGap}
use Rattle.omega_text.specs.pg.Fault.{HasFaultFrom as HasPgFaultFrom}
use Rattle.omega_text.proofs.pg_texts.Classes.{both_ways, two_ways}
use Rattle.omega_text.proofs.pg_texts.Onward.{onward as pg_onward}
use Rattle.omega_lang_lasso_text.specs.Cut.{Follows}
use Rattle.omega_lang_lasso_text.specs.Fault.{HasFaultFrom}
use Rattle.omega_lang_lasso_text.specs.declared.kind.LassoKind.{LassoKind}
use Rattle.omega_lang_lasso_text.specs.declared.kind.LassoKind.TheVariants.{Cycle, Stem}
use Rattle.omega_lang_lasso_text.specs.private.Words.{front_word}
use Rattle.omega_lang_lasso_text.proofs.Tokens.{as_number, lex_faults, lex_follows, number_follows, other_faults, same_faults}

-- how a text goes on from a place: with white space to its end, a token, or a fault
abbrev pub Onward : List ℕ → ℕ → Type 0
Onward source from = IsGap source from (length source) ⊎ (((lexeme : Lexeme LassoKind) × Follows source from lexeme) ⊎ ((fault : TextFault) × HasFaultFrom source from fault))

-- a token of a game text is a number or another
number_or_other : (kind : PgKind) → (kind ≡ PgNumber) ⊎ (kind ≡ PgNumber → ⊥)
number_or_other PgNumber = inl refl
number_or_other Parity = inr (λ e. cc)
number_or_other ParitySol = inr (λ e. cc)
number_or_other Semicolon = inr (λ e. cc)
number_or_other Comma = inr (λ e. cc)
number_or_other Name = inr (λ e. cc)

-- a place where a game text begins no token
lex_onward : (source : List ℕ) (from place : ℕ) → HasPgFaultFrom source from (Lex place) → Onward source from
lex_onward source from place faults =
    let text = front_word (drop place source) in
    let same = λ (word : List ℕ). bytes_decides text word in
    ⊎_elim
    (λ is. inr (inl (lexeme_at place Stem 0 text, lex_follows source from place _ faults (record { lexeme_is = refl; word = (same (codes "stem")).0 is }))))
    (λ no_stem. ⊎_elim
    (λ is. inr (inl (lexeme_at place Cycle 0 text, lex_follows source from place _ faults (record { lexeme_is = refl; word = (same (codes "cycle")).0 is }))))
    (λ no_cycle. inr (inr (
      Lex place,
      lex_faults source from place faults
          (λ is. both_ways _ ((same (codes "stem")).1 is) no_stem)
          (λ is. both_ways _ ((same (codes "cycle")).1 is) no_cycle),
    )))
    (two_ways (pointwise eqb text (codes "cycle"))))
    (two_ways (pointwise eqb text (codes "stem")))

-- a place where it has a fault
fault_onward : (source : List ℕ) (from : ℕ) (fault : TextFault) → HasPgFaultFrom source from fault → Onward source from
fault_onward source from (Lex at) faults = lex_onward source from at faults
fault_onward source from (NumberFault at) faults = inr (inr (NumberFault at, same_faults source from (NumberFault at) (λ place e. cc) faults))
fault_onward source from (Syntax at) faults = absurd faults.fault_there
fault_onward source from TooLong faults = absurd faults.fault_there

pub onward : (source : List ℕ) (from : ℕ) → from ≤ length source → Onward source from
onward source from inside = ⊎_elim
    (λ gap. inl gap)
    (λ more. ⊎_elim
    (λ token. ⊎_elim
    (λ is. inr (inl (as_number token.0, number_follows source from token.0 token.1 is)))
    (λ other. inr (inr (Lex token.0.span.start, other_faults source from token.0 token.1 other)))
    (number_or_other token.0.kind))
    (λ fault. fault_onward source from fault.0 fault.1)
    more)
    (pg_onward source from inside)
