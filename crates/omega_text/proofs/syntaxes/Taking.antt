-- More tokens of a text that is read, and why it is refused.
use Rattle.std.proofs.Common.{◌≡◌, ℕ, Bool, true, false, List, [], ◌∷◌, ◌++◌, refl, append_assoc}
use Rattle.omega_text.specs.Cut.{Cuts}
use Rattle.omega_text.specs.Format.{TextFormat, IsLexical}
use Rattle.omega_text.specs.Lexeme.{Lexeme}
use Rattle.omega_text.specs.Reading.{TakesOrRefuses, TakesRun}
use Rattle.omega_text.specs.private.Left.{IsFaultFrom, IsRestOfText}
use Rattle.omega_text.specs.private.reader.Taking.{HasWrongAt, IsReadTo, IsTokenFault}
use Rattle.omega_text.specs.declared.refusal.text.TextFault.{TextFault}
use Rattle.omega_text.specs.declared.refusal.text.TextFault.TheVariants.{Lex, Number, Syntax, TooLong}
use Rattle.omega_text.proofs.formats.Cutting.{cuts_join, cuts_more}

-- a text whose tokens were taken up to a place
module _ {Kind : Type 0} (format : TextFormat Kind) (taken : List (Lexeme Kind) → Type 0) (source : List ℕ) (place : ℕ) (read : IsReadTo format taken source place) where
  -- a run that is taken from there on goes on with them
  pub read_run : (after : List (Lexeme Kind) → Type 0) (to : ℕ)
      → ((before : List (Lexeme Kind)) → taken before → TakesRun format after source place to before) → IsReadTo format after source to
  read_run after to takes =
      let run = takes read.lexemes read.all_taken in
      record { lexemes = read.lexemes ++ run.run; cuts = cuts_join format source 0 place to read.lexemes run.run read.cuts run.cuts; all_taken = run.all_taken }

  -- a fault of tokens after them is one of the text
  pub read_faulty : (begins : List (Lexeme Kind) → Type 0) (fault : TextFault) → IsLexical fault → IsFaultFrom format source place fault → IsTokenFault format begins source fault
  read_faulty begins (Lex at) lexical from = record {
    lexemes = read.lexemes ++ from.lexemes;
    end = from.end;
    cuts = cuts_join format source 0 place from.end read.lexemes from.lexemes read.cuts from.cuts;
    faults = from.fault_there;
  }
  read_faulty begins (Number at) lexical from = record {
    lexemes = read.lexemes ++ from.lexemes;
    end = from.end;
    cuts = cuts_join format source 0 place from.end read.lexemes from.lexemes read.cuts from.cuts;
    faults = from.fault_there;
  }
  read_faulty begins (Syntax at) lexical from = absurd lexical
  read_faulty begins TooLong lexical from = absurd lexical

  -- a token that follows them
  module _ (lexeme : Lexeme Kind) (follows : format.follows source place lexeme) where
    -- the tokens through it
    through : Cuts format source 0 (read.lexemes ++ lexeme ∷ []) lexeme.span.end
    through = cuts_more format source 0 place read.lexemes lexeme read.cuts follows

    -- is taken
    pub read_taken : (begins after : List (Lexeme Kind) → Type 0) (done : Bool) → ((before : List (Lexeme Kind)) → taken before → TakesOrRefuses done begins after before lexeme) → done ≡ true
        → IsReadTo format after source lexeme.span.end
    read_taken begins after false takes was = absurd (let clash : false ≡ true = was in cc)
    read_taken begins after true takes was = record { lexemes = read.lexemes ++ lexeme ∷ []; cuts = through; all_taken = takes read.lexemes read.all_taken }

    -- or is the first wrong one of a text that can be cut after it
    pub read_refused : (begins after : List (Lexeme Kind) → Type 0) (done : Bool) → ((before : List (Lexeme Kind)) → taken before → TakesOrRefuses done begins after before lexeme) → done ≡ false
        → (rest : (others : List (Lexeme Kind)) × IsRestOfText format source lexeme.span.end others) → HasWrongAt format begins source lexeme.span.start
    read_refused begins after true takes was rest = absurd (let clash : true ≡ false = was in cc)
    read_refused begins after false takes was rest =
        let refused = takes read.lexemes read.all_taken in
        let joined : Cuts format source 0 ((read.lexemes ++ lexeme ∷ []) ++ rest.0) rest.1.end =
        cuts_join format source 0 lexeme.span.end rest.1.end (read.lexemes ++ lexeme ∷ []) rest.0 through rest.1.cuts in
        record {
          lexemes = (read.lexemes ++ lexeme ∷ []) ++ rest.0;
          cut = record { end = rest.1.end; cuts = joined; rest = rest.1.rest };
          wrong = record {
            front = read.lexemes;
            wrong = lexeme;
            rest = rest.0;
            split = append_assoc read.lexemes (lexeme ∷ []) rest.0;
            begins_before = refused.0;
            ends_there = refused.1;
            there = refl;
          };
        }

-- a fault of tokens at the place at which the next is looked for
pub fault_here : {Kind : Type 0} (format : TextFormat Kind) (source : List ℕ) (place : ℕ) (fault : TextFault) → format.faults source place fault → IsFaultFrom format source place fault
fault_here format source place fault faults = record { lexemes = []; end = place; cuts = refl; fault_there = faults }

-- and one after a token that follows
pub fault_after : {Kind : Type 0} (format : TextFormat Kind) (source : List ℕ) (place : ℕ) (lexeme : Lexeme Kind) (fault : TextFault) → format.follows source place lexeme
    → IsFaultFrom format source lexeme.span.end fault → IsFaultFrom format source place fault
fault_after format source place lexeme fault follows from = record {
  lexemes = lexeme ∷ from.lexemes;
  end = from.end;
  cuts = (follows, from.cuts);
  fault_there = from.fault_there;
}
