-- The tokens of labels and acceptance formulas, before what does not go on with an operator.
use Rattle.std.proofs.Common.{◌≡◌, ℕ, ◌+◌, List, [], ◌∷◌, ◌++◌, length, refl, sym, subst}
use Rattle.omega_text.specs.Lexeme.{Lexeme}
use Rattle.omega_text.specs.declared.hoa.kind.HoaKind.{HoaKind}
use Rattle.omega_text.specs.declared.hoa.kind.HoaKind.TheVariants as kind
use Rattle.omega_hoa_acceptance.specs.Acceptance.{AccTree}
use Rattle.omega_hoa_label.specs.Label.{LabelTree}
use Rattle.omega_hoa_expression.specs.Symbols.{EndsThere, IsNoOperator}
use Rattle.omega_hoa_label.specs.Writing.{label_text}
use Rattle.omega_hoa_acceptance.specs.Writing.{acc_text}
use Rattle.omega_hoa_label.specs.Writing.{NumbersFit, label_written}
use Rattle.omega_hoa_acceptance.specs.Writing.{SetsFit, acc_written}
use Rattle.omega_acc.specs.WritingLaws.{StandsApart}
use Rattle.omega_hoa_syntax.specs.First.{FirstIs}
use Rattle.omega_hoa_syntax.specs.Symbols.{IsNext, Shows, ReadsSymbols, AutomatonSymbol, Tokens, alias, formula, header, label, number, sign, text, word}
use Rattle.omega_hoa_round_trips.proofs.texts.Spelled.{IsSpelled, Known, drop-first, first-within}

-- a symbol of such a kind comes next
ends-next : (symbol : AutomatonSymbol) (tokens middle : Tokens) (sort : HoaKind) → IsNoOperator sort → IsNext symbol tokens middle
    → ((lexeme : Lexeme HoaKind) → Shows symbol lexeme → lexeme.kind ≡ sort) → EndsThere tokens
ends-next symbol tokens middle sort is next shown =
    subst EndsThere (sym next.next) (subst IsNoOperator (sym (shown next.lexeme next.shows)) is)

-- the tokens of symbols that begin with no operator do not either
ends-there : (symbols : List AutomatonSymbol) (tokens : Tokens) → FirstIs IsNoOperator symbols → ReadsSymbols tokens symbols [] → EndsThere tokens
ends-there [] tokens first spells = absurd first
ends-there (number n ∷ others) tokens first spells = ends-next (number n) tokens spells.middle kind.Int first spells.front (λ lexeme shows. shows.0)
ends-there (word bytes ∷ others) tokens first spells = ends-next (word bytes) tokens spells.middle kind.Identifier first spells.front (λ lexeme shows. shows.0)
ends-there (header bytes ∷ others) tokens first spells = ends-next (header bytes) tokens spells.middle kind.HeaderName first spells.front (λ lexeme shows. shows.0)
ends-there (alias bytes ∷ others) tokens first spells = ends-next (alias bytes) tokens spells.middle kind.AliasName first spells.front (λ lexeme shows. shows.0)
ends-there (text bytes ∷ others) tokens first spells = ends-next (text bytes) tokens spells.middle kind.String first spells.front (λ lexeme shows. shows.0)
ends-there (sign sort ∷ others) tokens first spells = ends-next (sign sort) tokens spells.middle sort first spells.front (λ lexeme shows. shows)
ends-there (label tree ∷ others) tokens first spells = absurd first
ends-there (formula tree ∷ others) tokens first spells = absurd first

-- a label
pub label-spelled : Known → (tree : LabelTree) (following : List ℕ) (others : List AutomatonSymbol) → NumbersFit tree → StandsApart following → FirstIs IsNoOperator others
    → IsSpelled following others → IsSpelled ((label_text tree).bytes ++ following) (label (label_written tree) ∷ others)
label-spelled known tree following others fit apart first spelled = record {
  there = λ source from within is.
      let bytes = (label_text tree).bytes in
      let these = known.labels tree source following from fit apart is in
      let next = spelled.there source (from + length bytes) (first-within source bytes following from within is) (drop-first source bytes following from is) in
      record {
        tokens = these.lexemes ++ next.tokens;
        end = next.end;
        cuts = known.join source from (from + length bytes) next.end these.lexemes next.tokens these.cuts next.cuts;
        rest = next.rest;
        spells = record {
          middle = next.tokens;
          front = record {
            front = these.lexemes;
            split = refl;
            spells = these.spells;
            is = (known.label_means [] tree).is;
            ends = ends-there others next.tokens first next.spells;
          };
          back = next.spells;
        };
      };
}

-- an acceptance formula
pub formula-spelled : Known → (tree : AccTree) (following : List ℕ) (others : List AutomatonSymbol) → SetsFit tree → StandsApart following → FirstIs IsNoOperator others
    → IsSpelled following others → IsSpelled ((acc_text tree).bytes ++ following) (formula (acc_written tree) ∷ others)
formula-spelled known tree following others fit apart first spelled = record {
  there = λ source from within is.
      let bytes = (acc_text tree).bytes in
      let these = known.formulas tree source following from fit apart is in
      let next = spelled.there source (from + length bytes) (first-within source bytes following from within is) (drop-first source bytes following from is) in
      record {
        tokens = these.lexemes ++ next.tokens;
        end = next.end;
        cuts = known.join source from (from + length bytes) next.end these.lexemes next.tokens these.cuts next.cuts;
        rest = next.rest;
        spells = record {
          middle = next.tokens;
          front = record {
            front = these.lexemes;
            split = refl;
            spells = these.spells;
            is = (known.formula_means tree).is;
            ends = ends-there others next.tokens first next.spells;
          };
          back = next.spells;
        };
      };
}
