-- What a stream always is: fed with some bytes, which its tokenizer has read unless they are refused.
use Rattle.std.specs.Prelude.{◌≡◌, ℕ, None, List, ◌++◌, MatchOption}
use Rattle.omega_text.specs.Lexeme.{Lexeme}
use Rattle.omega_text.specs.contracts.hoa.tokenizer.HoaTokenizerByteTokenizer.TheImpl.{ghosts as hoa_tokens}
use Rattle.omega_text.specs.declared.hoa.kind.HoaKind.{HoaKind}
use Rattle.omega_text.specs.declared.hoa.tokenizer.HoaTokenizer.{HoaTokenizer}
use Rattle.omega_text.specs.declared.refusal.Refusal.{Refusal}
use Rattle.omega_hoa.specs.Feeding.{Appends, IsDivided, IsFed, IsRefusedSoFar, IsTaken}
use Rattle.omega_hoa.specs.Kept.{Kept}
use Rattle.omega_hoa.specs.declared.item.Item.{Item}
use Rattle.omega_hoa.specs.declared.stream.Stream.TheInside.{Inside}

-- the tokenizer has read some bytes that were taken: no fault is settled, and the tokens that are settled are divided
pub record HasReadTaken (kept : Kept) (tokenizer : HoaTokenizer) : Type 0 where
  pub seen : List ℕ
  pub items : List Item
  pub taken : IsTaken seen items kept
  pub lexemes : List (Lexeme HoaKind)
  pub divided : IsDivided seen lexemes items kept.begins kept.inside
  pub read : hoa_tokens.read tokenizer seen lexemes
  pub sound : hoa_tokens.fault tokenizer ≡ None

-- what the fields of a stream keep
abbrev pub kept_in : Inside → Kept
kept_in stream = record {
  bytes = stream.bytes.items;
  begins = stream.begins;
  inside = stream.inside;
  refused = stream.refused;
}

-- some bytes are refused
abbrev pub IsRefusedSome : Kept → Refusal → Type 0
IsRefusedSome kept refusal =
    (seen : List ℕ) × (items : List Item) × IsRefusedSoFar seen items kept refusal

-- some bytes were fed to a stream
abbrev pub IsFedSome : Kept → HoaTokenizer → Type 0
IsFedSome kept tokenizer =
    MatchOption kept.refused (HasReadTaken kept tokenizer) (IsRefusedSome kept)

-- the items of a piece were appended, whatever was fed before
abbrev pub AppendsItems : Kept → List ℕ → (old new : List Item) → Kept → Type 0
AppendsItems kept piece old new after =
    (seen : List ℕ) (items : List Item) → IsFed seen items kept
    → Appends old new items (λ all. IsFed (seen ++ piece) all after)
