-- How texts of a format are cut into tokens, and at which places they can't be.
use Rattle.std.specs.Prelude.{◌≡◌, ℕ, ◌⊎◌, List, [], ◌∷◌, ◌++◌}
use Rattle.omega_text.specs.Cases.{never, or_memory, or_text}
use Rattle.omega_text.specs.Format.{TextFormat}
use Rattle.omega_text.specs.Lexeme.{Lexeme}
use Rattle.omega_text.specs.declared.refusal.Refusal.{Refusal}
use Rattle.omega_text.specs.declared.refusal.text.TextFault.{TextFault}

-- from one place on, these tokens follow one another, and the last ends at the other place
abbrev pub Cuts : {Kind : Type 0} → TextFormat Kind → List ℕ → ℕ → List (Lexeme Kind) → ℕ → Type 0
Cuts format source from [] to = from ≡ to
Cuts format source from (lexeme ∷ rest) to =
    format.follows source from lexeme × Cuts format source lexeme.span.end rest to

-- the tokens are the whole text, and nothing more follows
pub record IsCut {Kind : Type 0} (format : TextFormat Kind) (source : List ℕ)
    (lexemes : List (Lexeme Kind)) : Type 0 where
  pub end : ℕ
  pub cuts : Cuts format source 0 lexemes end
  pub rest : format.ends source end

-- the fault of a text at its least place: before it, the text can be cut
pub record IsFault {Kind : Type 0} (format : TextFormat Kind) (source : List ℕ)
    (fault : TextFault) : Type 0 where
  pub lexemes : List (Lexeme Kind)
  pub end : ℕ
  pub cuts : Cuts format source 0 lexemes end
  pub faults : format.faults source end fault

-- a text is refused by its fault at the least place, or for want of memory
abbrev pub IsRefusedBy : {Kind : Type 0} → TextFormat Kind → List ℕ → Refusal → Type 0
IsRefusedBy format source = or_text (IsFault format source) (or_memory never)

-- a text has at most one cut
abbrev pub CutsAreOne : {Kind : Type 0} → TextFormat Kind → Type 0
CutsAreOne {Kind} format = (source : List ℕ) (one other : List (Lexeme Kind))
    → IsCut format source one → IsCut format source other → one ≡ other

-- a text has at most one fault at its least place
abbrev pub FaultsAreOne : {Kind : Type 0} → TextFormat Kind → Type 0
FaultsAreOne format = (source : List ℕ) (one other : TextFault) → IsFault format source one
    → IsFault format source other → one ≡ other

-- a text has a cut or a fault
abbrev pub CutOrFault : {Kind : Type 0} → TextFormat Kind → Type 0
CutOrFault {Kind} format =
    (source : List ℕ) → ((lexemes : List (Lexeme Kind)) × IsCut format source lexemes)
    ⊎ ((fault : TextFault) × IsFault format source fault)

-- a text that has a cut has no fault
abbrev pub CutsHaveNoFault : {Kind : Type 0} → TextFormat Kind → Type 0
CutsHaveNoFault {Kind} format = (source : List ℕ) (lexemes : List (Lexeme Kind)) (fault : TextFault)
    → IsCut format source lexemes → IsFault format source fault → ⊥

-- a cut, and a cut from its end on, are a cut
abbrev pub CutsJoin : {Kind : Type 0} → TextFormat Kind → Type 0
CutsJoin {Kind} format = (source : List ℕ) (from middle to : ℕ) (front back : List (Lexeme Kind))
    → Cuts format source from front middle → Cuts format source middle back to
    → Cuts format source from (front ++ back) to
