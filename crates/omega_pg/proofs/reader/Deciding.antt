-- Automata that decide a grammar, and what they say of the tokens of a text.
use Rattle.std.proofs.Common.{◌≡◌, ℕ, ◌⊎◌, inl, inr, Option, Some, None, List, [], ◌∷◌, ◌++◌, map, refl, ap, sym, ◌∙◌, subst}
use Rattle.std.proofs.lemmas.List.{map-append}
use Rattle.omega_text.specs.Cut.{CutsAreOne}
use Rattle.omega_text.specs.Lexeme.{Lexeme}
use Rattle.omega_text.specs.Syntax.{Begins, IsDecidable, IsTextOf, IsUnfinished, Syntax, TokensBegin, TokensComplete}
use Rattle.omega_pg.specs.private.reader.Run.{run_by}
use Rattle.omega_pg.proofs.reader.Runs.{run_by_on, run_by_push, run_by_stopped}

-- symbols lead to an end, where this raw text is kept
pub record Reads {Symbol Raw State : Type 0} (step : State → Symbol → Option State) (from : State) (IsEnded : State → Type 0)
    (raw_of : State → Raw) (symbols : List Symbol) (raw : Raw) : Type 0 where
  pub state : State
  pub runs : run_by step from symbols ≡ Some state
  pub ended : IsEnded state
  pub kept : raw_of state ≡ raw

-- symbols that lead from a state to an end
pub record Completes {Symbol State : Type 0} (step : State → Symbol → Option State) (IsEnded : State → Type 0) (from : State) : Type 0 where
  pub more : List Symbol
  pub state : State
  pub runs : run_by step from more ≡ Some state
  pub ended : IsEnded state

-- an automaton decides the grammar of a syntax: it runs to an end over each text of it, over nothing else,
-- and can get there from everywhere
pub record Decides {Kind Symbol Raw State : Type 0} (syntax : Syntax Kind Symbol Raw) (step : State → Symbol → Option State)
    (initial : State) (IsEnded : State → Type 0) (raw_of : State → Raw) : Type 0 where
  pub reads : (symbols : List Symbol) (raw : Raw) → syntax.spells symbols raw → Reads step initial IsEnded raw_of symbols raw
  pub text : (symbols : List Symbol) (state : State) → run_by step initial symbols ≡ Some state → IsEnded state
      → syntax.spells symbols (raw_of state)
  pub completes : (state : State) → Completes step IsEnded state
  pub ends : (state : State) → IsEnded state ⊎ (IsEnded state → ⊥)

module _ {Kind Symbol Raw State : Type 0} {syntax : Syntax Kind Symbol Raw} {step : State → Symbol → Option State} {initial : State}
    {IsEnded : State → Type 0} {raw_of : State → Raw} (decides : Decides syntax step initial IsEnded raw_of) where
  -- symbols are at most one raw text
  raw_one : (symbols : List Symbol) (one other : Raw) → syntax.spells symbols one → syntax.spells symbols other → one ≡ other
  raw_one symbols one other a b =
      let first = decides.reads symbols one a in
      let second = decides.reads symbols other b in
      let same : Some first.state ≡ Some second.state = sym first.runs ∙ second.runs in
      let states : first.state ≡ second.state = cc in
      sym first.kept ∙ ap raw_of states ∙ second.kept

  -- so are bytes
  pub texts_one : CutsAreOne syntax.format → (source : List ℕ) (one other : Raw) → IsTextOf syntax source one → IsTextOf syntax source other
      → one ≡ other
  texts_one cuts source one other a b =
      raw_one (map syntax.symbol b.lexemes) one other
      (subst (λ lexemes. syntax.spells (map syntax.symbol lexemes) one) (cuts source a.lexemes b.lexemes a.cut b.cut) a.text) b.text

  -- what is run begins a text
  begins_from_run : (symbols : List Symbol) (state : State) → run_by step initial symbols ≡ Some state → Begins syntax symbols
  begins_from_run symbols state e =
      let rest = decides.completes state in (
        rest.more,
        raw_of rest.state,
        decides.text (symbols ++ rest.more) rest.state (run_by_on step initial state symbols rest.more e ∙ rest.runs) rest.ended,
      )

  -- what begins a text is run
  run_begins : (symbols : List Symbol) → Begins syntax symbols → run_by step initial symbols ≡ None → ⊥
  run_begins symbols begins none =
      let found = decides.reads (symbols ++ begins.0) begins.1 begins.2 in
      let clash : Some found.state ≡ None = sym found.runs ∙ run_by_stopped step initial symbols begins.0 none in
      cc

  -- what runs to a text has ended
  pub ended_from_run : (symbols : List Symbol) (state : State) (raw : Raw) → run_by step initial symbols ≡ Some state → syntax.spells symbols raw → IsEnded state
  ended_from_run symbols state raw e text =
      let found = decides.reads symbols raw text in
      let same : Some found.state ≡ Some state = sym found.runs ∙ e in
      let states : found.state ≡ state = cc in
      subst IsEnded states found.ended

  -- a token that is taken goes on with the run
  pub run_taken : (lexemes : List (Lexeme Kind)) (lexeme : Lexeme Kind) (state : State) → run_by step initial (map syntax.symbol lexemes) ≡ Some state
      → run_by step initial (map syntax.symbol (lexemes ++ lexeme ∷ [])) ≡ step state (syntax.symbol lexeme)
  run_taken lexemes lexeme state e =
      ap (run_by step initial) (map-append syntax.symbol lexemes (lexeme ∷ [])) ∙ run_by_push step initial state (map syntax.symbol lexemes) (syntax.symbol lexeme) e

  -- a token at which a run stops ends what begins a text
  pub refused_from_run : (lexemes : List (Lexeme Kind)) (lexeme : Lexeme Kind) (state : State) → run_by step initial (map syntax.symbol lexemes) ≡ Some state
      → step state (syntax.symbol lexeme) ≡ None
      → TokensBegin syntax lexemes × (TokensBegin syntax (lexemes ++ lexeme ∷ []) → ⊥)
  refused_from_run lexemes lexeme state e none = (
    begins_from_run (map syntax.symbol lexemes) state e,
    (λ begins. run_begins (map syntax.symbol (lexemes ++ lexeme ∷ [])) begins (run_taken lexemes lexeme state e ∙ none)),
  )

  -- tokens that were all taken, but not up to an end
  pub unfinished_from_run : (lexemes : List (Lexeme Kind)) (state : State) → run_by step initial (map syntax.symbol lexemes) ≡ Some state → (IsEnded state → ⊥)
      → IsUnfinished (TokensBegin syntax) (TokensComplete syntax) lexemes
  unfinished_from_run lexemes state e open_state = record {
    begun = begins_from_run (map syntax.symbol lexemes) state e;
    partial = λ text. open_state (ended_from_run (map syntax.symbol lexemes) state text.0 e text.1);
  }

  -- whether symbols begin a text
  begins_or_not : (symbols : List Symbol) → Begins syntax symbols ⊎ (Begins syntax symbols → ⊥)
  begins_or_not symbols =
      elim (run_by step initial symbols)
      as (λ o. run_by step initial symbols ≡ o → Begins syntax symbols ⊎ (Begins syntax symbols → ⊥)) [
        | None ↦ λ e. inr (λ begins. run_begins symbols begins e)
        | Some state ↦ λ e. inl (begins_from_run symbols state e)
      ]
      refl

  -- whether symbols are a text
  spells_or_not : (symbols : List Symbol) → ((raw : Raw) × syntax.spells symbols raw) ⊎ ((raw : Raw) → syntax.spells symbols raw → ⊥)
  spells_or_not symbols =
      elim (run_by step initial symbols)
      as (λ o. run_by step initial symbols ≡ o → ((raw : Raw) × syntax.spells symbols raw) ⊎ ((raw : Raw) → syntax.spells symbols raw → ⊥)) [
        | None ↦ λ e. inr (λ raw text.
            let found = decides.reads symbols raw text in
            let clash : Some found.state ≡ None = sym found.runs ∙ e in
            cc)
        | Some state ↦ λ e. elim (decides.ends state) as (λ _. ((raw : Raw) × syntax.spells symbols raw) ⊎ ((raw : Raw) → syntax.spells symbols raw → ⊥)) [
          | inl ended ↦ inl (raw_of state, decides.text symbols state e ended)
          | inr open_state ↦ inr (λ raw text. open_state (ended_from_run symbols state raw e text))
        ]
      ]
      refl

  -- so the syntax is decided
  pub decided_from_run : IsDecidable syntax
  decided_from_run = record {
    some_text = begins_from_run [] initial refl;
    begins_or_not = begins_or_not;
    spells_or_not = spells_or_not;
  }
