-- Streams: segments one after the other, each from `HOA:` to the first mark of its end.
use Rattle.std.specs.Prelude.{◌≡◌, ℕ, ◌<◌, ◌≤◌, ◌⊎◌, Bool, true, false, List, [], ◌∷◌, ◌++◌, length, codes}
use Rattle.omega_text.specs.Cases.{never, or_text}
use Rattle.omega_text.specs.Cut.{Cuts, IsCut}
use Rattle.omega_text.specs.Lexeme.{Lexeme}
use Rattle.omega_text.specs.Limits.{most_text}
use Rattle.omega_text.specs.hoa.Cut.{Ends, Follows}
use Rattle.omega_text.specs.hoa.Fault.{HasFaultFrom}
use Rattle.omega_text.specs.hoa.Format.{hoa_format}
use Rattle.omega_text.specs.declared.hoa.kind.HoaKind.{HoaKind}
use Rattle.omega_text.specs.declared.hoa.kind.HoaKind.TheVariants.{HeaderName, End, Abort}
use Rattle.omega_text.specs.declared.refusal.Refusal.{Refusal}
use Rattle.omega_text.specs.declared.refusal.Refusal.TheVariants.{Text}
use Rattle.omega_text.specs.declared.refusal.text.TextFault.{TextFault}
use Rattle.omega_text.specs.declared.refusal.text.TextFault.TheVariants.{Lex, Number, Syntax, TooLong}
use Rattle.omega_hoa.specs.Segment.{IsAutomatonOf, IsSegmentFault}
use Rattle.omega_hoa.specs.declared.item.Item.{Item}
use Rattle.omega_hoa.specs.declared.item.Item.TheVariants.{Automaton, Aborted}

-- the header name `HOA:`
pub record Opens (lexeme : Lexeme HoaKind) : Type 0 where
  pub kind : lexeme.kind ≡ HeaderName
  pub text : lexeme.text ≡ codes "HOA:"

-- the marks by which a segment ends
abbrev pub is_end : HoaKind → Bool
is_end End = true
is_end Abort = true
is_end kind = false

-- no token is such a mark
abbrev pub NoneEnds : List (Lexeme HoaKind) → Type 0
NoneEnds [] = Unit {0}
NoneEnds (lexeme ∷ lexemes) = (is_end lexeme.kind ≡ false) × NoneEnds lexemes

-- a segment so far: `HOA:`, and after it no mark of its end
pub record IsOpen (lexemes : List (Lexeme HoaKind)) : Type 0 where
  pub first : Lexeme HoaKind
  pub rest : List (Lexeme HoaKind)
  pub split : lexemes ≡ first ∷ rest
  pub opens : Opens first
  pub unended : NoneEnds rest

-- a whole segment, which ends with this mark
pub record IsSegment (mark : HoaKind) (lexemes : List (Lexeme HoaKind)) : Type 0 where
  pub inside : List (Lexeme HoaKind)
  pub last : Lexeme HoaKind
  pub split : lexemes ≡ inside ++ last ∷ []
  pub before : IsOpen inside
  pub ends : last.kind ≡ mark

-- the item of a segment: the automaton that its tokens are, or that it is aborted, whatever its tokens are
abbrev pub IsItemOf : List (Lexeme HoaKind) → Item → Type 0
IsItemOf lexemes (Automaton automaton) = IsSegment End lexemes × IsAutomatonOf lexemes automaton
IsItemOf lexemes Aborted = IsSegment Abort lexemes

-- the tokens are segments, with these items
abbrev pub IsStream : List (Lexeme HoaKind) → List Item → Type 0
IsStream lexemes [] = lexemes ≡ []
IsStream lexemes (item ∷ items) = (segment : List (Lexeme HoaKind)) × (rest : List (Lexeme HoaKind))
    × (lexemes ≡ segment ++ rest) × IsItemOf segment item × IsStream rest items

-- outside segments, a text goes on from a place with a fault of tokens, or with a token other than `HOA:`, which is
-- the place of `Syntax`
abbrev pub IsFaultOutside : List ℕ → ℕ → TextFault → Type 0
IsFaultOutside source from (Lex at) = HasFaultFrom source from (Lex at)
IsFaultOutside source from (Number at) = HasFaultFrom source from (Number at)
IsFaultOutside source from (Syntax at) = (lexeme : Lexeme HoaKind) × Follows source from lexeme
    × (Opens lexeme → ⊥) × (at ≡ lexeme.span.start)
IsFaultOutside source from TooLong = ⊥

-- inside a segment, it goes on with a fault of tokens, or ends, and its length is the place of `Syntax`
abbrev pub IsFaultInside : List ℕ → ℕ → TextFault → Type 0
IsFaultInside source from (Lex at) = HasFaultFrom source from (Lex at)
IsFaultInside source from (Number at) = HasFaultFrom source from (Number at)
IsFaultInside source from (Syntax at) = Ends source from × (at ≡ length source)
IsFaultInside source from TooLong = ⊥

-- after whole segments come these tokens, up to a place, and then the refusal of the text: a fault outside segments, a
-- fault inside one, or a whole one that is no automaton
abbrev pub IsRefusedAfter : List ℕ → List (Lexeme HoaKind) → ℕ → Refusal → Type 0
IsRefusedAfter source lexemes from refusal =
    ((lexemes ≡ []) × or_text (IsFaultOutside source from) never refusal)
    ⊎ ((IsOpen lexemes × or_text (IsFaultInside source from) never refusal)
    ⊎ (IsSegment End lexemes × IsSegmentFault lexemes refusal))

-- a text is refused after whole segments, which have these items
pub record IsStreamFault (source : List ℕ) (items : List Item) (refusal : Refusal) : Type 0 where
  pub front : List (Lexeme HoaKind)
  pub rest : List (Lexeme HoaKind)
  pub from : ℕ
  pub cuts : Cuts hoa_format source 0 (front ++ rest) from
  pub before : IsStream front items
  pub refused : IsRefusedAfter source rest from refusal

-- the text of a stream with these items
pub record IsStreamText (source : List ℕ) (items : List Item) : Type 0 where
  pub short : length source ≤ most_text
  pub lexemes : List (Lexeme HoaKind)
  pub cut : IsCut hoa_format source lexemes
  pub stream : IsStream lexemes items

-- the refusal of a text that is no stream's: its length first
abbrev pub IsStreamRefusal : List ℕ → Refusal → Type 0
IsStreamRefusal source refusal = ((refusal ≡ Text TooLong) × (most_text < length source))
    ⊎ ((length source ≤ most_text) × ((items : List Item) × IsStreamFault source items refusal))
