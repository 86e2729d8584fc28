-- Steps one after another, and where nothing is read.
use Rattle.std.proofs.Common.{◌≡◌, ℕ, List, [], ◌∷◌, ◌++◌, ap, append_assoc, refl, sym, ◌∙◌, subst, Result, Ok, Err}
use Rattle.std.specs.Prelude.{IfErr, IfOk, IsErrAnd}
use Rattle.omega_hoa_expression.proofs.UnreadLemmas.{first_after, first_missing, first_next, first_same}
use Rattle.omega_hoa_expression.specs.Passing.{IsMissing}
use Rattle.omega_hoa_expression.specs.Symbols.{EndsThere}
use Rattle.omega_hoa_expression.specs.Unread.{AgreeThroughNext, IsFirstUnread, IsUnread}
use Rattle.omega_hoa_acceptance.specs.Raw.{RawAccTree}
use Rattle.omega_hoa_acceptance.specs.Reading.{ReadsAcc}
use Rattle.omega_hoa_label.specs.Raw.{RawLabelTree}
use Rattle.omega_hoa_label_text.specs.Reading.{Reads}
use Rattle.omega_hoa_expression.proofs.ClosingLemmas.{plain}
use Rattle.omega_hoa_syntax.proofs.BegunLemmas.{IsApart, alias_first, begun_after, begun_after_token}
use Rattle.omega_hoa_syntax.proofs.SpellingLemmas.{missing_symbol, token_taken}
use Rattle.omega_hoa_syntax.specs.private.steps.Joining.{Joins}
use Rattle.omega_hoa_syntax.specs.private.steps.Reading.{Anything, Finds, FindsSymbol, FollowSymbol, IsAny, IsBegun, IsNotSymbol, IsUnwritten, IsWritten, NextIs, NextMayBe, Passes, symbol_row}
use Rattle.omega_hoa_syntax.specs.Symbols.{AutomatonSymbol, IsNext, ReadsSymbols, Shows, Splits, Tokens, alias}
use Rattle.omega_text.specs.Cases.{IsMemory}
use Rattle.omega_text.specs.Cursor.{next_place}
use Rattle.omega_text.specs.Lexeme.{Lexeme}
use Rattle.omega_text.specs.declared.hoa.kind.HoaKind.{HoaKind}
use Rattle.omega_text.specs.declared.hoa.kind.HoaKind.TheVariants as kind
use Rattle.omega_text.specs.declared.refusal.Refusal.{Refusal}
use Rattle.omega_text.specs.declared.refusal.Refusal.TheVariants.{Automaton, Circuit, Game, Io, Memory, Task, Text}
use Rattle.omega_text.specs.declared.refusal.text.TextFault.TheVariants.{Syntax}

-- what holds of the tokens of one step, and then of another
pub record Then (Held More : Tokens → Tokens → Type 0) (tokens left : Tokens) : Type 0 where
  pub middle : Tokens
  pub first : Held tokens middle
  pub second : More middle left

-- what holds of the tokens of one step, and then nothing is read
pub record ThenNone (Held : Tokens → Tokens → Type 0) (IsNone : Tokens → Type 0) (tokens : Tokens) : Type 0 where
  pub middle : Tokens
  pub first : Held tokens middle
  pub second : IsNone middle

agree_before : (front new others middle : Tokens) → middle ≡ front ++ new → AgreeThroughNext new others → AgreeThroughNext middle (front ++ others)
agree_before [] new others middle split agree = subst (λ m. AgreeThroughNext m others) (sym split) agree
agree_before (first ∷ front) new others middle split agree =
    subst (λ m. AgreeThroughNext m (first ∷ (front ++ others))) (sym split) (front ++ others, refl)

-- one step after another
pub passes_after : (Held More : Tokens → Tokens → Type 0) (old middle new : Tokens) → Passes Held old middle → Passes More middle new → Passes (Then Held More) old new
passes_after Held More old middle new one two = record {
  front = one.front ++ two.front;
  split = one.split ∙ (ap (λ rest. one.front ++ rest) two.split ∙ sym (append_assoc one.front two.front new));
  holds = λ others agree. record {
    middle = two.front ++ others;
    first = subst (λ tokens. Held tokens (two.front ++ others)) (sym (append_assoc one.front two.front others))
        (one.holds (two.front ++ others) (agree_before two.front new others middle two.split agree));
    second = two.holds others agree;
  };
}

-- it is first seen after a step that nothing is read, and what is begun then is begun after the step
through_after : (Held : Tokens → Tokens → Type 0) (IsNone Begun Wanted : Tokens → Type 0) (old middle : Tokens) (length place : ℕ)
    → (one : Passes Held old middle) → ((before left : Tokens) → middle ≡ before ++ left → Begun before → Wanted (one.front ++ before))
    → IsFirstUnread IsNone Begun middle length place → IsFirstUnread (ThenNone Held IsNone) Wanted old length place
through_after Held IsNone Begun Wanted old middle length place one begins through = record {
  before = one.front ++ through.before;
  left = through.left;
  split = one.split ∙ (ap (λ rest. one.front ++ rest) through.split ∙ sym (append_assoc one.front through.before through.left));
  there = through.there;
  begun = begins through.before through.left through.split through.begun;
  unread = λ others agree. record {
    middle = through.before ++ others;
    first = subst (λ tokens. Held tokens (through.before ++ others)) (sym (append_assoc one.front through.before others))
        (one.holds (through.before ++ others) (agree_before through.before through.left others middle through.split agree));
    second = through.unread others agree;
  };
}

pub after_step : (Held : Tokens → Tokens → Type 0) (IsNone Begun Wanted : Tokens → Type 0) (old middle : Tokens) (length : ℕ) (refusal : Refusal)
    → (one : Passes Held old middle) → ((before left : Tokens) → middle ≡ before ++ left → Begun before → Wanted (one.front ++ before))
    → IsUnread IsNone Begun middle length refusal → IsUnread (ThenNone Held IsNone) Wanted old length refusal
after_step Held IsNone Begun Wanted old middle length (Text (Syntax at)) one begins is = through_after Held IsNone Begun Wanted old middle length at one begins is
after_step Held IsNone Begun Wanted old middle length (Text fault) one begins is = is
after_step Held IsNone Begun Wanted old middle length (Game fault) one begins is = is
after_step Held IsNone Begun Wanted old middle length (Circuit fault) one begins is = is
after_step Held IsNone Begun Wanted old middle length (Automaton fault) one begins is = is
after_step Held IsNone Begun Wanted old middle length (Task fault) one begins is = is
after_step Held IsNone Begun Wanted old middle length Memory one begins is = is
after_step Held IsNone Begun Wanted old middle length Io one begins is = is

-- nothing is read after a step
pub none_after : {X : Type 0} (Is : X → Type 0) (row : X → List AutomatonSymbol → List AutomatonSymbol) (Held : Tokens → Tokens → Type 0) (IsNone : Tokens → Type 0) (old middle : Tokens) (length : ℕ) (refusal : Refusal) (symbols : List AutomatonSymbol → List AutomatonSymbol)
    → Passes Held old middle → Joins symbols → ((others : List AutomatonSymbol) (rest : Tokens) → ReadsSymbols middle others rest → ReadsSymbols old (symbols others) rest) → ((it : X) → Is it → IsApart (row it []))
    → IsUnread IsNone (IsBegun Is row) middle length refusal → IsUnread (ThenNone Held IsNone) (IsBegun Is (λ it others. symbols (row it others))) old length refusal
none_after Is row Held IsNone old middle length refusal symbols one joins gives is_apart is =
    after_step Held IsNone (IsBegun Is row) (IsBegun Is (λ it others. symbols (row it others))) old middle length refusal one (λ before left split. begun_after symbols old middle one.front before joins one.split gives is_apart) is

-- nor after a token, whatever follows it
pub none_after_token : {X : Type 0} (Is : X → Type 0) (row : X → List AutomatonSymbol → List AutomatonSymbol) (Held : Tokens → Tokens → Type 0) (IsNone : Tokens → Type 0) (old middle : Tokens) (length : ℕ) (refusal : Refusal) (symbol : AutomatonSymbol)
    → ((tokens : Tokens) (others : List AutomatonSymbol) (rest : Tokens) → Splits (λ middle. IsNext symbol tokens middle) (λ middle. ReadsSymbols middle others rest) → ReadsSymbols tokens (symbol ∷ others) rest)
    → Passes Held old middle → Splits (λ here. IsNext symbol old here) (λ here. here ≡ middle)
    → IsUnread IsNone (IsBegun Is row) middle length refusal → IsUnread (ThenNone Held IsNone) (IsBegun Is (λ it others. symbol ∷ row it others)) old length refusal
none_after_token Is row Held IsNone old middle length refusal symbol makes one next is =
    after_step Held IsNone (IsBegun Is row) (IsBegun Is (λ it others. symbol ∷ row it others)) old middle length refusal one (λ before left split. begun_after_token symbol old middle one.front before makes one.split next) is

-- what is said of a step says more of it
pub passes_then : (Held Wanted : Tokens → Tokens → Type 0) (old new : Tokens) → Passes Held old new → ((tokens left : Tokens) → Held tokens left → Wanted tokens left) → Passes Wanted old new
passes_then Held Wanted old new one follows = record {
  front = one.front;
  split = one.split;
  holds = λ others agree. follows (one.front ++ others) others (one.holds others agree);
}

-- nothing more is read
pub unread_then : (IsMore IsNone IsMoreBegun IsRowBegun : Tokens → Type 0) (tokens : Tokens) (length : ℕ) (refusal : Refusal) → IsUnread IsMore IsMoreBegun tokens length refusal
    → ((others : Tokens) → IsMore others → IsNone others) → ((before : Tokens) → IsMoreBegun before → IsRowBegun before) → IsUnread IsNone IsRowBegun tokens length refusal
unread_then IsMore IsNone IsMoreBegun IsRowBegun tokens length refusal unread follows begins = first_after IsNone IsMore IsRowBegun IsMoreBegun tokens [] tokens length refusal refl follows begins unread

-- what holds of the next token here, without a step
pub passes_here : (Holds : Tokens → Type 0) (now : Tokens) → ((others : Tokens) → AgreeThroughNext now others → Holds others) → Passes (λ tokens left. (tokens ≡ left) × Holds left) now now
passes_here Holds now holds = record { front = []; split = refl; holds = λ others agree. (refl, holds others agree) }

pub is_through : (Holds : HoaKind → Type 0) (tokens others : Tokens) → NextIs Holds tokens → AgreeThroughNext tokens others → NextIs Holds others
is_through Holds [] others is agree = absurd is
is_through Holds (lexeme ∷ rest) others is agree = subst (NextIs Holds) (sym agree.1) is

pub may_through : (Holds : HoaKind → Type 0) (tokens others : Tokens) → NextMayBe Holds tokens → AgreeThroughNext tokens others → NextMayBe Holds others
may_through Holds [] others may agree = subst (NextMayBe Holds) (sym agree) tt
may_through Holds (lexeme ∷ rest) others may agree = subst (NextMayBe Holds) (sym agree.1) may

-- where nothing is read the next token is still known
next_through : (Holds : HoaKind → Type 0) (IsNone Begun : Tokens → Type 0) (now : Tokens) (length place : ℕ) → NextIs Holds now
    → IsFirstUnread IsNone Begun now length place → IsFirstUnread (λ tokens. NextIs Holds tokens × IsNone tokens) Begun now length place
next_through Holds IsNone Begun now length place is through = record {
  before = through.before;
  left = through.left;
  split = through.split;
  there = through.there;
  begun = through.begun;
  unread = λ others agree. (is_through Holds now (through.before ++ others) is (agree_before through.before through.left others now through.split agree), through.unread others agree);
}

pub with_next : (Holds : HoaKind → Type 0) (IsNone Begun : Tokens → Type 0) (now : Tokens) (length : ℕ) (refusal : Refusal) → NextIs Holds now
    → IsUnread IsNone Begun now length refusal → IsUnread (λ tokens. NextIs Holds tokens × IsNone tokens) Begun now length refusal
with_next Holds IsNone Begun now length (Text (Syntax at)) next is = next_through Holds IsNone Begun now length at next is
with_next Holds IsNone Begun now length (Text fault) next is = is
with_next Holds IsNone Begun now length (Game fault) next is = is
with_next Holds IsNone Begun now length (Circuit fault) next is = is
with_next Holds IsNone Begun now length (Automaton fault) next is = is
with_next Holds IsNone Begun now length (Task fault) next is = is
with_next Holds IsNone Begun now length Memory next is = is
with_next Holds IsNone Begun now length Io next is = is

-- want of memory says nothing of the tokens
pub memory_unread : (IsNone IsRowBegun : Tokens → Type 0) (tokens : Tokens) (length : ℕ) (refusal : Refusal) → IsMemory refusal → IsUnread IsNone IsRowBegun tokens length refusal
memory_unread IsNone IsRowBegun tokens length Memory is = tt
memory_unread IsNone IsRowBegun tokens length other is = absurd is

-- an error of a step is one of the row that it is a part of
pub finds_error : {X : Type 0} {IsMoreBegun : Tokens → Type 0} (result : Result X Refusal) (Is : X → Type 0) (row : X → List AutomatonSymbol → List AutomatonSymbol) (Follow : List AutomatonSymbol → Type 0) (old new : Tokens)
    (length long : ℕ) (refusal : Refusal) (IsMore : Tokens → Type 0) → IsErrAnd result (λ error. error ≡ refusal) → long ≡ length → IsUnread IsMore IsMoreBegun old long refusal
    → ((tokens : Tokens) → IsMore tokens → IsUnwritten Is row Follow tokens) → ((before : Tokens) → IsMoreBegun before → IsBegun Is row before) → Finds Is row Follow old new length result
finds_error {X} {IsMoreBegun} (Ok it) Is row Follow old new length long refusal IsMore is same unread follows begins = absurd is
finds_error {X} {IsMoreBegun} (Err error) Is row Follow old new length long refusal IsMore is same unread follows begins =
    first_same (IsUnwritten Is row Follow) (IsBegun Is row) old length long refusal error is same (unread_then IsMore (IsUnwritten Is row Follow) IsMoreBegun (IsBegun Is row) old long refusal unread follows begins)

-- an error that is want of memory
pub finds_memory : {X : Type 0} (result : Result X Refusal) (Is : X → Type 0) (row : X → List AutomatonSymbol → List AutomatonSymbol) (Follow : List AutomatonSymbol → Type 0) (old new : Tokens)
    (length : ℕ) (refusal : Refusal) → IsErrAnd result (λ error. error ≡ refusal) → IsMemory refusal → Finds Is row Follow old new length result
finds_memory (Ok it) Is row Follow old new length refusal is memory = absurd is
finds_memory (Err error) Is row Follow old new length refusal is memory =
    memory_unread (IsUnwritten Is row Follow) (IsBegun Is row) old length error (subst IsMemory (sym is) memory)

ends_through : (tokens others : Tokens) → AgreeThroughNext tokens others → EndsThere tokens → EndsThere others
ends_through [] others agree ends = subst EndsThere (sym agree) tt
ends_through (lexeme ∷ rest) others agree ends = subst EndsThere (sym agree.1) ends

-- a label is read of other tokens as well
pub label_again : (old : Tokens) (tree : RawLabelTree) (new : Tokens) → Reads old tree new → Passes (λ tokens left. Reads tokens tree left) old new
label_again old tree new reads = record {
  front = reads.front;
  split = reads.split;
  holds = λ others agree. record { front = reads.front; split = refl; spells = reads.spells; is = reads.is; ends = ends_through new others agree reads.ends };
}

-- and so is a formula
pub formula_again : (old : Tokens) (tree : RawAccTree) (new : Tokens) → ReadsAcc old tree new → Passes (λ tokens left. ReadsAcc tokens tree left) old new
formula_again old tree new reads = record {
  front = reads.front;
  split = reads.split;
  holds = λ others agree. record { front = reads.front; split = refl; spells = reads.spells; is = reads.is; ends = ends_through new others agree reads.ends };
}

-- what is read of an expression is what was written, as only one can be read
pub expression_found : {X : Type 0} (R : Tokens → X → Tokens → Type 0) (row : X → List AutomatonSymbol → List AutomatonSymbol)
    → ((tokens : Tokens) (it : X) (others : List AutomatonSymbol) (rest : Tokens) → ReadsSymbols tokens (row it others) rest → Splits (λ middle. R tokens it middle) (λ middle. ReadsSymbols middle others rest))
    → ((tokens : Tokens) (one other : X) (rest left : Tokens) → R tokens one rest → R tokens other left → (one ≡ other) × (rest ≡ left))
    → ((old : Tokens) (it : X) (new : Tokens) → R old it new → Passes (λ tokens left. R tokens it left) old new)
    → (result : Result X Refusal) (old new : Tokens) (length : ℕ) → IfOk result (λ it. R old it new)
    → (Begins : Tokens → Type 0) → ((before : Tokens) → Begins before → IsBegun IsAny row before)
    → IfErr result (IsUnread (λ tokens. (it : X) (rest : Tokens) → R tokens it rest → ⊥) Begins old length) → Finds IsAny row Anything old new length result
expression_found {X} R row begins one again (Ok it) old new length reads Begins begun none =
    passes_then (λ tokens left. R tokens it left) (IsWritten IsAny row Anything it) old new (again old it new reads)
    (λ tokens left read wanted others rest valid follow spells.
    let splits = begins tokens wanted others rest spells in
    let same = one tokens it wanted left splits.middle read splits.front in
    (same.0, subst (λ here. ReadsSymbols here others rest) (sym same.1) splits.back))
expression_found {X} R row begins one again (Err refusal) old new length reads Begins begun none =
    unread_then (λ tokens. (it : X) (rest : Tokens) → R tokens it rest → ⊥) (IsUnwritten IsAny row Anything) Begins (IsBegun IsAny row) old length refusal none
    (λ tokens none_read wanted others rest valid follow spells.
    let splits = begins tokens wanted others rest spells in
    none_read wanted splits.middle splits.front)
    begun

-- the token of a symbol that is one token
pub token_written : {X : Type 0} {Follow : List AutomatonSymbol → Type 0} (row : X → List AutomatonSymbol → List AutomatonSymbol) (symbol : X → AutomatonSymbol) (old new : Tokens) (lexeme : Lexeme HoaKind) (it : X)
    → ((wanted : X) (others : List AutomatonSymbol) (rest tokens : Tokens) → ReadsSymbols tokens (row wanted others) rest
    → Splits (λ middle. IsNext (symbol wanted) tokens middle) (λ middle. ReadsSymbols middle others rest))
    → ((wanted : X) → Shows (symbol wanted) lexeme → it ≡ wanted) → old ≡ lexeme ∷ new → Passes (IsWritten IsAny row Follow it) old new
token_written row symbol old new lexeme it begins shown next = record {
  front = lexeme ∷ [];
  split = next;
  holds = λ others agree wanted more rest valid follow spells.
      let taken = token_taken (symbol wanted) more rest (lexeme ∷ others) others lexeme refl (begins wanted more rest (lexeme ∷ others) spells) in
      (shown wanted taken.0, taken.1);
}

-- no symbol that is one token of a kind is written where that is missing
pub token_unwritten : {X : Type 0} (row : X → List AutomatonSymbol → List AutomatonSymbol) (symbol : X → AutomatonSymbol) (sort : HoaKind) (old : Tokens) (length : ℕ) (refusal : Refusal)
    → ((wanted : X) (others : List AutomatonSymbol) (rest tokens : Tokens) → ReadsSymbols tokens (row wanted others) rest
    → Splits (λ middle. IsNext (symbol wanted) tokens middle) (λ middle. ReadsSymbols middle others rest))
    → ((wanted : X) (lexeme : Lexeme HoaKind) → Shows (symbol wanted) lexeme → lexeme.kind ≡ sort) → IsBegun IsAny row [] → IsMissing sort old length refusal
    → IsUnread (IsUnwritten IsAny row Anything) (IsBegun IsAny row) old length refusal
token_unwritten row symbol sort old length refusal begins shown begun missing =
    first_missing (IsUnwritten IsAny row Anything) (IsBegun IsAny row) sort old length refusal begun
    (λ tokens not wanted others rest valid follow spells. missing_symbol (symbol wanted) sort (shown wanted) tokens not _ (begins wanted others rest tokens spells)) missing

-- a sign or a header is passed
pub symbol_followed : (symbol : AutomatonSymbol) (old new : Tokens) (lexeme : Lexeme HoaKind)
    → ((others : List AutomatonSymbol) (rest tokens : Tokens) → ReadsSymbols tokens (symbol ∷ others) rest → Splits (λ middle. IsNext symbol tokens middle) (λ middle. ReadsSymbols middle others rest))
    → old ≡ lexeme ∷ new → Passes (FollowSymbol symbol) old new
symbol_followed symbol old new lexeme begins next = record {
  front = lexeme ∷ [];
  split = next;
  holds = λ others agree more rest spells. (token_taken symbol more rest (lexeme ∷ others) others lexeme refl (begins more rest (lexeme ∷ others) spells)).1;
}

pub symbol_missing : (symbol : AutomatonSymbol) (sort : HoaKind) (old : Tokens) (length : ℕ) (refusal : Refusal)
    → ((others : List AutomatonSymbol) (rest tokens : Tokens) → ReadsSymbols tokens (symbol ∷ others) rest → Splits (λ middle. IsNext symbol tokens middle) (λ middle. ReadsSymbols middle others rest))
    → ((lexeme : Lexeme HoaKind) → Shows symbol lexeme → lexeme.kind ≡ sort) → IsBegun IsAny (symbol_row symbol) [] → IsMissing sort old length refusal
    → IsUnread (IsNotSymbol symbol) (IsBegun IsAny (symbol_row symbol)) old length refusal
symbol_missing symbol sort old length refusal begins shown begun missing =
    first_missing (IsNotSymbol symbol) (IsBegun IsAny (symbol_row symbol)) sort old length refusal begun
    (λ tokens not others rest spells. missing_symbol symbol sort shown tokens not _ (begins others rest tokens spells)) missing

-- the next token does not show the symbol
pub symbol_unshown : (symbol : AutomatonSymbol) (old new : Tokens) (lexeme : Lexeme HoaKind) (length place : ℕ)
    → ((others : List AutomatonSymbol) (rest tokens : Tokens) → ReadsSymbols tokens (symbol ∷ others) rest → Splits (λ middle. IsNext symbol tokens middle) (λ middle. ReadsSymbols middle others rest))
    → (Shows symbol lexeme → ⊥) → IsBegun IsAny (symbol_row symbol) [] → old ≡ lexeme ∷ new → place ≡ next_place old length
    → IsFirstUnread (IsNotSymbol symbol) (IsBegun IsAny (symbol_row symbol)) old length place
symbol_unshown symbol old new lexeme length place begins unshown begun next there =
    first_next (IsNotSymbol symbol) (IsBegun IsAny (symbol_row symbol)) old [] old length place refl there begun
    (λ others agree more rest spells.
    let through = subst (λ tokens. AgreeThroughNext tokens others) next agree in
    unshown (token_taken symbol more rest others through.0 lexeme through.1 (begins more rest others spells)).0)

-- a symbol's error
pub symbol_error : {X : Type 0} (result : Result X Refusal) (symbol : AutomatonSymbol) (old new : Tokens) (length : ℕ) (refusal : Refusal) → IsErrAnd result (λ error. error ≡ refusal)
    → IsUnread (IsNotSymbol symbol) (IsBegun IsAny (symbol_row symbol)) old length refusal → FindsSymbol symbol old new length result
symbol_error (Ok done) symbol old new length refusal is unread = absurd is
symbol_error (Err error) symbol old new length refusal is unread = subst (IsUnread (IsNotSymbol symbol) (IsBegun IsAny (symbol_row symbol)) old length) (sym is) unread

-- the tokens that are left through another step of the same value
pub value_same : {X : Type 0} (Is : X → Type 0) (row : X → List AutomatonSymbol → List AutomatonSymbol) (Follow : List AutomatonSymbol → Type 0) (old new : Tokens) (it other : X) → other ≡ it
    → Passes (IsWritten Is row Follow it) old new → Passes (IsWritten Is row Follow other) old new
value_same Is row Follow old new it other same passes = subst (λ value. Passes (IsWritten Is row Follow value) old new) (sym same) passes

-- the name of an alias
pub alias_passed : (old new : Tokens) (lexeme : Lexeme HoaKind) (name : List ℕ) → old ≡ lexeme ∷ new → name ≡ lexeme.text → Passes (IsWritten IsAny (λ name others. alias name ∷ others) Anything name) old new
alias_passed old new lexeme name next is =
    token_written (λ name others. alias name ∷ others) alias old new lexeme name (λ wanted others rest tokens spells. spells) (λ wanted shows. is ∙ shows.1) next

pub alias_missing : (old : Tokens) (length : ℕ) (refusal : Refusal) → IsMissing kind.AliasName old length refusal
    → IsUnread (IsUnwritten IsAny (λ name others. alias name ∷ others) Anything) (IsBegun IsAny (λ name others. alias name ∷ others)) old length refusal
alias_missing old length refusal missing =
    token_unwritten (λ name others. alias name ∷ others) alias kind.AliasName old length refusal (λ wanted others rest tokens spells. spells) (λ wanted lexeme shows. shows.0)
    (record { more = plain kind.AliasName ∷ []; it = []; is = tt; spells = λ left others rest ends spells. alias_first left others rest spells }) missing

-- the bytes of a token are copied, if there is memory
pub token_copied : (row : List ℕ → List AutomatonSymbol → List AutomatonSymbol) (symbol : List ℕ → AutomatonSymbol) (old new : Tokens) (lexeme : Lexeme HoaKind) (length : ℕ) (result : Result (List ℕ) Refusal) (bytes : List ℕ)
    → ((wanted : List ℕ) (others : List AutomatonSymbol) (rest tokens : Tokens) → ReadsSymbols tokens (row wanted others) rest
    → Splits (λ middle. IsNext (symbol wanted) tokens middle) (λ middle. ReadsSymbols middle others rest))
    → ((wanted : List ℕ) → Shows (symbol wanted) lexeme → bytes ≡ wanted) → old ≡ lexeme ∷ new → IfOk result (λ it. it ≡ bytes) → IfErr result IsMemory → Finds IsAny row Anything old new length result
token_copied row symbol old new lexeme length (Ok it) bytes begins shown next ok err =
    token_written row symbol old new lexeme it begins (λ wanted shows. ok ∙ shown wanted shows) next
token_copied row symbol old new lexeme length (Err refusal) bytes begins shown next ok err =
    memory_unread (IsUnwritten IsAny row Anything) (IsBegun IsAny row) old length refusal err

-- the next token shows no value, or there is none
pub token_unshown : {X : Type 0} {Follow : List AutomatonSymbol → Type 0} (row : X → List AutomatonSymbol → List AutomatonSymbol) (symbol : X → AutomatonSymbol) (old new : Tokens) (lexeme : Lexeme HoaKind) (length place : ℕ)
    → ((wanted : X) (others : List AutomatonSymbol) (rest tokens : Tokens) → ReadsSymbols tokens (row wanted others) rest
    → Splits (λ middle. IsNext (symbol wanted) tokens middle) (λ middle. ReadsSymbols middle others rest))
    → ((wanted : X) → Shows (symbol wanted) lexeme → ⊥) → IsBegun IsAny row [] → old ≡ lexeme ∷ new → place ≡ next_place old length
    → IsFirstUnread (IsUnwritten IsAny row Follow) (IsBegun IsAny row) old length place
token_unshown {X} {Follow} row symbol old new lexeme length place begins unshown begun next there =
    first_next (IsUnwritten IsAny row Follow) (IsBegun IsAny row) old [] old length place refl there begun
    (λ others agree wanted more rest valid follow spells.
    let through = subst (λ tokens. AgreeThroughNext tokens others) next agree in
    unshown wanted (token_taken (symbol wanted) more rest others through.0 lexeme through.1 (begins wanted more rest others spells)).0)

no_next : (symbol : AutomatonSymbol) (tokens middle : Tokens) → tokens ≡ [] → IsNext symbol tokens middle → ⊥
no_next symbol tokens middle none next = let e : [] ≡ next.lexeme ∷ middle = sym none ∙ next.next in cc

pub token_absent : {X : Type 0} {Follow : List AutomatonSymbol → Type 0} (row : X → List AutomatonSymbol → List AutomatonSymbol) (symbol : X → AutomatonSymbol) (old : Tokens) (length place : ℕ)
    → ((wanted : X) (others : List AutomatonSymbol) (rest tokens : Tokens) → ReadsSymbols tokens (row wanted others) rest
    → Splits (λ middle. IsNext (symbol wanted) tokens middle) (λ middle. ReadsSymbols middle others rest))
    → IsBegun IsAny row [] → old ≡ [] → place ≡ next_place old length → IsFirstUnread (IsUnwritten IsAny row Follow) (IsBegun IsAny row) old length place
token_absent {X} {Follow} row symbol old length place begins begun none there =
    first_next (IsUnwritten IsAny row Follow) (IsBegun IsAny row) old [] old length place refl there begun
    (λ others agree wanted more rest valid follow spells.
    let split = begins wanted more rest others spells in
    no_next (symbol wanted) others split.middle (subst (λ tokens. AgreeThroughNext tokens others) none agree) split.front)

-- what may follow a value that anything may follow
pub finds_any : {X : Type 0} (result : Result X Refusal) (row : X → List AutomatonSymbol → List AutomatonSymbol) (old new : Tokens) (length : ℕ) (Follow : List AutomatonSymbol → Type 0)
    → Finds IsAny row Anything old new length result → Finds IsAny row Follow old new length result
finds_any (Ok it) row old new length Follow finds =
    passes_then (IsWritten IsAny row Anything it) (IsWritten IsAny row Follow it) old new finds (λ tokens left t wanted others rest valid follow spells. t wanted others rest valid tt spells)
finds_any (Err refusal) row old new length Follow unread =
    unread_then (IsUnwritten IsAny row Anything) (IsUnwritten IsAny row Follow) (IsBegun IsAny row) (IsBegun IsAny row) old length refusal unread (λ tokens t wanted others rest valid follow spells. t wanted others rest valid tt spells) (λ before begun. begun)
