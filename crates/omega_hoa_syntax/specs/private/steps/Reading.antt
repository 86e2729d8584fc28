-- What a call reads of tokens: it finds what they are written as, if the tokens that follow do not go on with it.
use Rattle.std.specs.Prelude.{◌≡◌, ℕ, Bool, false, List, [], ◌∷◌, ◌++◌, Result, Ok, Err, IfOk}
use Rattle.omega_hoa_expression.specs.Symbols.{EndsThere}
use Rattle.omega_hoa_expression.specs.Unread.{AgreeThroughNext, IsUnread}
use Rattle.omega_text.specs.declared.hoa.kind.HoaKind.{HoaKind}
use Rattle.omega_text.specs.declared.refusal.Refusal.{Refusal}
use Rattle.omega_hoa_syntax.specs.Symbols.{ReadsSymbols, AutomatonSymbol, Tokens}

-- there is a next token, and this holds of its kind
abbrev pub NextIs : (HoaKind → Type 0) → Tokens → Type 0
NextIs Holds [] = ⊥
NextIs Holds (lexeme ∷ rest) = Holds lexeme.kind

-- this holds of the kind of the next token, if there is one
abbrev pub NextMayBe : (HoaKind → Type 0) → Tokens → Type 0
NextMayBe Holds [] = Unit {0}
NextMayBe Holds (lexeme ∷ rest) = Holds lexeme.kind

-- Some tokens are passed and these are left. This holds of all tokens that agree with all of them through the first
-- that is left, and of what then is left.
pub record Passes (Holds : (tokens left : Tokens) → Type 0) (old new : Tokens) : Type 0 where
  pub front : Tokens
  pub split : old ≡ front ++ new
  pub holds : (others : Tokens) → AgreeThroughNext new others → Holds (front ++ others) others

-- what was written as a value of this row is this one, and the tokens that are left are what follows it
abbrev pub IsWritten : {X : Type 0} → (X → Type 0) → (X → List AutomatonSymbol → List AutomatonSymbol)
    → (List AutomatonSymbol → Type 0) → X → (tokens left : Tokens) → Type 0
IsWritten {X} Is row Follow it tokens left =
    (wanted : X) (others : List AutomatonSymbol) (rest : Tokens) → Is wanted → Follow others
    → ReadsSymbols tokens (row wanted others) rest → (it ≡ wanted) × ReadsSymbols left others rest

-- no value of this row was written
abbrev pub IsUnwritten : {X : Type 0} → (X → Type 0)
    → (X → List AutomatonSymbol → List AutomatonSymbol)
    → (List AutomatonSymbol → Type 0) → Tokens → Type 0
IsUnwritten {X} Is row Follow tokens = (wanted : X) (others : List AutomatonSymbol) (rest : Tokens)
    → Is wanted → Follow others → ReadsSymbols tokens (row wanted others) rest → ⊥

-- if the symbol was written, the tokens that are left are what follows it
abbrev pub FollowSymbol : AutomatonSymbol → (tokens left : Tokens) → Type 0
FollowSymbol symbol tokens left = (others : List AutomatonSymbol) (rest : Tokens)
    → ReadsSymbols tokens (symbol ∷ others) rest → ReadsSymbols left others rest

-- the symbol was not written
abbrev pub IsNotSymbol : AutomatonSymbol → Tokens → Type 0
IsNotSymbol symbol tokens =
    (others : List AutomatonSymbol) (rest : Tokens) → ReadsSymbols tokens (symbol ∷ others) rest → ⊥

-- nothing is required of the value
abbrev pub IsAny : {X : Type 0} → X → Type 0
IsAny it = Unit {0}

-- these tokens are written as this and then what follows them, if that is no operator
abbrev pub Spells : (List AutomatonSymbol → List AutomatonSymbol) → Tokens → Type 0
Spells symbols tokens =
    (left : Tokens) (others : List AutomatonSymbol) (rest : Tokens) → EndsThere left
    → ReadsSymbols left others rest → ReadsSymbols (tokens ++ left) (symbols others) rest

-- a value of this row begins with the tokens: they and some more are written as one
pub record IsBegun {X : Type 0} (Is : X → Type 0)
    (row : X → List AutomatonSymbol → List AutomatonSymbol) (tokens : Tokens) : Type 0 where
  pub more : Tokens
  pub it : X
  pub is : Is it
  pub spells : Spells (row it) (tokens ++ more)

-- the row of one symbol
abbrev pub symbol_row : AutomatonSymbol → Unit {0} → List AutomatonSymbol → List AutomatonSymbol
symbol_row symbol done others = symbol ∷ others

-- the symbol is passed if it was written, in a text of this length; else nothing is read
abbrev pub FindsSymbol : {X : Type 0} → AutomatonSymbol → (old new : Tokens) → ℕ
    → Result X Refusal → Type 0
FindsSymbol symbol old new length (Ok done) = Passes (FollowSymbol symbol) old new
FindsSymbol symbol old new length (Err refusal) =
    IsUnread (IsNotSymbol symbol) (IsBegun IsAny (symbol_row symbol)) old length refusal

-- this is what was read: whatever the tokens that are left are written as,
-- those before were written as this and then that
pub record Given {X : Type 0} (Is : X → Type 0)
    (row : X → List AutomatonSymbol → List AutomatonSymbol) (old new : Tokens) (it : X) : Type 0 where
  pub is : Is it
  pub spells : (others : List AutomatonSymbol) (rest : Tokens) → ReadsSymbols new others rest
      → ReadsSymbols old (row it others) rest

-- what is read is what was written
abbrev pub GivesRow : {X : Type 0} → (X → Type 0) → (X → List AutomatonSymbol → List AutomatonSymbol)
    → (old new : Tokens) → Result X Refusal → Type 0
GivesRow Is row old new result = IfOk result (Given Is row old new)

-- what was written is read, if such symbols follow, in a text of this length; else nothing is read, and that is first
-- seen at the place of a fault of syntax
abbrev pub Finds : {X : Type 0} → (X → Type 0) → (X → List AutomatonSymbol → List AutomatonSymbol)
    → (List AutomatonSymbol → Type 0) → (old new : Tokens) → ℕ → Result X Refusal → Type 0
Finds Is row Follow old new length (Ok it) = Passes (IsWritten Is row Follow it) old new
Finds Is row Follow old new length (Err refusal) =
    IsUnread (IsUnwritten Is row Follow) (IsBegun Is row) old length refusal

-- the kind does not go on with a list of parts, and may follow a part
abbrev pub EndsList : (HoaKind → Bool) → (HoaKind → Type 0) → HoaKind → Type 0
EndsList begins May kind = (begins kind ≡ false) × May kind

-- any kind
abbrev pub IsKind : HoaKind → Type 0
IsKind kind = Unit {0}

-- anything may follow
abbrev pub Anything : List AutomatonSymbol → Type 0
Anything others = Unit {0}
