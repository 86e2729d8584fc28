-- What runs say of the tokens of a text: whether they begin one, whether they are one, and its names.
use Rattle.std.proofs.Common.{◌≡◌, ℕ, zero, suc, ◌⊎◌, inl, inr, Bool, true, Option, Some, None, List, [], ◌∷◌}
use Rattle.std.proofs.Common.{◌++◌, map, refl, ap, sym, ◌∙◌, subst, arith, if◌then◌else◌}
use Rattle.std.specs.Prelude.{option_and_then}
use Rattle.std.specs.Str.{bytes_eq}
use Rattle.std.proofs.lemmas.Bool.{le-leb}
use Rattle.std.proofs.lemmas.List.{map-append}
use Rattle.indexmap.specs.IndexSet.{insert_all}
use Rattle.omega_text.specs.Cut.{CutsAreOne}
use Rattle.omega_text.specs.Lexeme.{Lexeme}
use Rattle.omega_text.specs.Syntax.{Begins, IsDecidable, IsTextOf, IsUnfinished, TokensBegin, TokensComplete}
use Rattle.omega_ltl_formula.specs.Building.{names_of, with_name}
use Rattle.omega_ltl_formula.specs.Formula.{FormulaTree, binary, constant as constant_tree, names_in, unary}
use Rattle.omega_ltl_text.specs.Cut.{formula_format}
use Rattle.omega_ltl_text.specs.Grammar.{RawFormula, SpellsFormula, bare, formula_syntax, level, raw_binary}
use Rattle.omega_ltl_text.specs.Grammar.{raw_constant, raw_group, raw_name, raw_symbols, raw_unary}
use Rattle.omega_ltl_text.specs.Symbols.{FormulaSymbol, between, closing, constant, formula_symbol_of}
use Rattle.omega_ltl_text.specs.declared.kind.FormulaKind.{FormulaKind}
use Rattle.omega_ltl_text.specs.private.Reader.{name_in, names_after, with_some}
use Rattle.omega_ltl_text.specs.private.Reading.{Frame, ReadState, closed_by, ended, infixed, initial, opened}
use Rattle.omega_ltl_text.specs.private.Reading.{prefixed, reading, reduced, run, step, whole}
use Rattle.omega_ltl_text.proofs.Absorbing.{IsRun, raw_run}
use Rattle.omega_ltl_text.proofs.Runs.{run_on, run_push, run_stopped}
use Rattle.omega_ltl_text.proofs.Unwinding.{run_spells}

-- the symbols of tokens
abbrev pub symbols_of : List (Lexeme FormulaKind) → List FormulaSymbol
symbols_of lexemes = map formula_symbol_of lexemes

-- what is spelled is run
pub spelled_run : (symbols : List FormulaSymbol) (tree : FormulaTree) → SpellsFormula symbols tree → IsRun symbols tree
spelled_run symbols tree spells =
    let own = raw_run spells.raw spells.grouped in
    record { state = own.state; runs = ap (run initial) spells.spelled ∙ own.runs; ends = own.ends ∙ ap Some spells.bare_is }

-- closing parentheses
abbrev closes : ℕ → List FormulaSymbol
closes zero = []
closes (suc n) = closing ∷ closes n

-- how many parentheses are open
abbrev opens : List Frame → ℕ
opens [] = 0
opens (opened ∷ frames) = suc (opens frames)
opens (prefixed op ∷ frames) = opens frames
opens (infixed left op ∷ frames) = opens frames

-- symbols that lead from a state to an end
record Completes (from : ReadState) (more : List FormulaSymbol) : Type 0 where
  state : ReadState
  runs : run from more ≡ Some state
  tree : FormulaTree
  ends : ended state ≡ Some tree

-- states that come to the same once operators have taken their operands are closed alike
completes_alike : (n : ℕ) (frames others : List Frame) (tree other : FormulaTree) → reduced 0 frames tree ≡ reduced 0 others other
    → Completes (reading others (Some other)) (closes n) → Completes (reading frames (Some tree)) (closes n)
completes_alike zero frames others tree other same done = record {
  state = reading frames (Some tree);
  runs = refl;
  tree = done.tree;
  ends = ap whole same
      ∙ (let own : reading others (Some other) ≡ done.state = let e = done.runs in cc in ap ended own)
      ∙ done.ends;
}
completes_alike (suc n) frames others tree other same done = record {
  state = done.state;
  runs = ap (λ (both : List Frame × FormulaTree). option_and_then (λ (next : ReadState). run next (closes n)) (closed_by both)) same ∙ done.runs;
  tree = done.tree;
  ends = done.ends;
}

-- a complete formula is closed by as many parentheses as are open
closed_all : (frames : List Frame) (tree : FormulaTree) → Completes (reading frames (Some tree)) (closes (opens frames))
closed_all [] tree = record { state = reading [] (Some tree); runs = refl; tree = tree; ends = refl }
closed_all (opened ∷ frames) tree =
    let rest = closed_all frames tree in
    record { state = rest.state; runs = rest.runs; tree = rest.tree; ends = rest.ends }
closed_all (prefixed op ∷ frames) tree =
    completes_alike (opens frames) (prefixed op ∷ frames) frames tree (unary op tree) refl (closed_all frames (unary op tree))
closed_all (infixed left op ∷ frames) tree =
    completes_alike (opens frames) (infixed left op ∷ frames) frames tree (binary op left tree)
    (ap (λ (b : Bool). if b then reduced 0 frames (binary op left tree) else (infixed left op ∷ frames, tree)) (le-leb 0 (level op) (omega arith)))
    (closed_all frames (binary op left tree))

completes : (frames : List Frame) (current : Option FormulaTree) → (more : List FormulaSymbol) × Completes (reading frames current) more
completes frames (Some tree) = (closes (opens frames), closed_all frames tree)
completes frames None =
    let rest = closed_all frames (constant_tree true) in
    (constant true ∷ closes (opens frames), record { state = rest.state; runs = rest.runs; tree = rest.tree; ends = rest.ends })

-- what is run begins a text
pub begins_from_run : (symbols : List FormulaSymbol) (state : ReadState) → run initial symbols ≡ Some state → Begins formula_syntax symbols
begins_from_run symbols state e =
    let rest = completes state.frames state.current in (
      rest.0,
      rest.1.tree,
      run_spells (symbols ++ rest.0) rest.1.state rest.1.tree (run_on initial state symbols rest.0 e ∙ rest.1.runs) rest.1.ends,
    )

-- what begins a text is run
run_begins : (symbols : List FormulaSymbol) → Begins formula_syntax symbols → run initial symbols ≡ None → ⊥
run_begins symbols begins none =
    let own = spelled_run (symbols ++ begins.0) begins.1 begins.2 in
    let clash : Some own.state ≡ None = sym own.runs ∙ run_stopped initial symbols begins.0 none in
    cc

-- the state of a text ends as its formula
pub text_ends : (symbols : List FormulaSymbol) (state : ReadState) (tree : FormulaTree) → run initial symbols ≡ Some state → SpellsFormula symbols tree
    → ended state ≡ Some tree
text_ends symbols state tree e spells =
    let own = spelled_run symbols tree spells in
    let same : state ≡ own.state = let both : Some state ≡ Some own.state = sym e ∙ own.runs in cc in
    ap ended same ∙ own.ends

-- symbols are at most one formula
pub one_formula : (symbols : List FormulaSymbol) (one other : FormulaTree) → SpellsFormula symbols one → SpellsFormula symbols other → one ≡ other
one_formula symbols one other a b =
    let own = spelled_run symbols one a in
    let both : Some one ≡ Some other = sym own.ends ∙ text_ends symbols own.state other own.runs b in
    cc

-- so are bytes
pub texts_one : CutsAreOne formula_format → (source : List ℕ) (one other : FormulaTree) → IsTextOf formula_syntax source one → IsTextOf formula_syntax source other → one ≡ other
texts_one cuts source one other a b =
    one_formula (symbols_of b.lexemes) one other
    (subst (λ (lexemes : List (Lexeme FormulaKind)). SpellsFormula (symbols_of lexemes) one) (cuts source a.lexemes b.lexemes a.cut b.cut) a.text) b.text

-- a token that is taken goes on with the run
pub run_taken : (lexemes : List (Lexeme FormulaKind)) (lexeme : Lexeme FormulaKind) (state : ReadState) → run initial (symbols_of lexemes) ≡ Some state
    → run initial (symbols_of (lexemes ++ lexeme ∷ [])) ≡ step state (formula_symbol_of lexeme)
run_taken lexemes lexeme state e =
    ap (run initial) (map-append formula_symbol_of lexemes (lexeme ∷ [])) ∙ run_push initial state (symbols_of lexemes) (formula_symbol_of lexeme) e

-- a token at which a run stops ends what begins a text
pub refused_from_run : (lexemes : List (Lexeme FormulaKind)) (lexeme : Lexeme FormulaKind) (state : ReadState) → run initial (symbols_of lexemes) ≡ Some state
    → step state (formula_symbol_of lexeme) ≡ None
    → TokensBegin formula_syntax lexemes × (TokensBegin formula_syntax (lexemes ++ lexeme ∷ []) → ⊥)
refused_from_run lexemes lexeme state e none = (
  begins_from_run (symbols_of lexemes) state e,
  (λ begins. run_begins (symbols_of (lexemes ++ lexeme ∷ [])) begins (run_taken lexemes lexeme state e ∙ none)),
)

-- a state is one of a whole text or not
pub ends : (state : ReadState) → ((tree : FormulaTree) × (ended state ≡ Some tree)) ⊎ (ended state ≡ None)
ends state = go (ended state) refl
  where
    go : (o : Option FormulaTree) → ended state ≡ o → ((tree : FormulaTree) × (ended state ≡ Some tree)) ⊎ (ended state ≡ None)
    go None e = inr e
    go (Some tree) e = inl (tree, e)

-- tokens that were all taken, but not up to an end
pub unfinished_from_run : (lexemes : List (Lexeme FormulaKind)) (state : ReadState) → run initial (symbols_of lexemes) ≡ Some state → ended state ≡ None
    → IsUnfinished (TokensBegin formula_syntax) (TokensComplete formula_syntax) lexemes
unfinished_from_run lexemes state e open_state = record {
  begun = begins_from_run (symbols_of lexemes) state e;
  partial = λ text.
      let clash : Some text.0 ≡ None = sym (text_ends (symbols_of lexemes) state text.0 e text.1) ∙ open_state in
      cc;
}

-- whether symbols begin a text
begins_or_not : (symbols : List FormulaSymbol) → Begins formula_syntax symbols ⊎ (Begins formula_syntax symbols → ⊥)
begins_or_not symbols = go (run initial symbols) refl
  where
    go : (o : Option ReadState) → run initial symbols ≡ o → Begins formula_syntax symbols ⊎ (Begins formula_syntax symbols → ⊥)
    go None e = inr (λ begins. run_begins symbols begins e)
    go (Some state) e = inl (begins_from_run symbols state e)

-- whether symbols are a text
abbrev SpelledOrNot : List FormulaSymbol → Type 0
SpelledOrNot symbols = ((tree : FormulaTree) × SpellsFormula symbols tree) ⊎ ((tree : FormulaTree) → SpellsFormula symbols tree → ⊥)

spells_or_not : (symbols : List FormulaSymbol) → SpelledOrNot symbols
spells_or_not symbols = go (run initial symbols) refl
  where
    at_end : (state : ReadState) → run initial symbols ≡ Some state
        → ((tree : FormulaTree) × (ended state ≡ Some tree)) ⊎ (ended state ≡ None) → SpelledOrNot symbols
    at_end state e (inl found) = inl (found.0, run_spells symbols state found.0 e found.1)
    at_end state e (inr open_state) = inr (λ tree spells.
        let clash : Some tree ≡ None = sym (text_ends symbols state tree e spells) ∙ open_state in
        cc)

    go : (o : Option ReadState) → run initial symbols ≡ o → SpelledOrNot symbols
    go None e = inr (λ tree spells.
        let own = spelled_run symbols tree spells in
        let clash : Some own.state ≡ None = sym own.runs ∙ e in
        cc)
    go (Some state) e = at_end state e (ends state)

-- so the syntax is decided
pub decided : IsDecidable formula_syntax
decided = record {
  some_text = begins_from_run [] initial refl;
  begins_or_not = begins_or_not;
  spells_or_not = spells_or_not;
}

-- the names of joined lists of symbols
names_append : (names : List (List ℕ)) (xs ys : List FormulaSymbol) → names_after names (xs ++ ys) ≡ names_after (names_after names xs) ys
names_append names [] ys = refl
names_append names (x ∷ xs) ys = names_append (with_some names (name_in x)) xs ys

pub names_push : (names : List (List ℕ)) (xs : List FormulaSymbol) (x : FormulaSymbol) → names_after names (xs ++ x ∷ []) ≡ with_some (names_after names xs) (name_in x)
names_push names xs x = names_append names xs (x ∷ [])

insert_append : (names xs ys : List (List ℕ)) → insert_all bytes_eq names (xs ++ ys) ≡ insert_all bytes_eq (insert_all bytes_eq names xs) ys
insert_append names [] ys = refl
insert_append names (x ∷ xs) ys = insert_append (with_name names x) xs ys

-- the names of symbols are those of the formula
names_spelled : (raw : RawFormula) (names : List (List ℕ)) → names_after names (raw_symbols raw) ≡ insert_all bytes_eq names (names_in (bare raw))
names_spelled (raw_constant value) names = refl
names_spelled (raw_name bytes) names = refl
names_spelled (raw_unary op part) names = names_spelled part names
names_spelled (raw_binary op left right) names =
    names_append names (raw_symbols left) (between op ∷ raw_symbols right)
    ∙ (ap (λ (n : List (List ℕ)). names_after n (raw_symbols right)) (names_spelled left names)
    ∙ (names_spelled right (insert_all bytes_eq names (names_in (bare left)))
    ∙ sym (insert_append names (names_in (bare left)) (names_in (bare right)))))
names_spelled (raw_group part) names =
    names_append names (raw_symbols part) (closing ∷ []) ∙ names_spelled part names

pub spelled_names : (symbols : List FormulaSymbol) (tree : FormulaTree) → SpellsFormula symbols tree → names_after [] symbols ≡ names_of tree
spelled_names symbols tree spells =
    ap (names_after []) spells.spelled ∙ (names_spelled spells.raw [] ∙ ap names_of spells.bare_is)
