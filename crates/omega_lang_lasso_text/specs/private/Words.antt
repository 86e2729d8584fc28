-- The word at a place of a text.
use Rattle.std.specs.Prelude.{◌≡◌, ◌≢◌, ℕ, List, take, drop, codes}
use Rattle.std.specs.List.{prefix_len}
use Rattle.omega_text.specs.Bytes.{is_word_byte}
use Rattle.omega_text.specs.Lexeme.{Lexeme, lexeme_at}
use Rattle.omega_text.specs.declared.refusal.text.TextFault.{TextFault}
use Rattle.omega_text.specs.declared.refusal.text.TextFault.TheVariants.{Lex}
use Rattle.omega_lang_lasso_text.specs.declared.kind.LassoKind.{LassoKind}
use Rattle.omega_lang_lasso_text.specs.declared.kind.LassoKind.TheVariants.{Cycle, Number, Stem}

-- the word at the front of the bytes
abbrev pub front_word : List ℕ → List ℕ
front_word bytes = take (prefix_len is_word_byte bytes) bytes

-- the text is the word of this kind
abbrev pub IsWordOf : LassoKind → List ℕ → Type 0
IsWordOf Number text = ⊥
IsWordOf Stem text = text ≡ codes "stem"
IsWordOf Cycle text = text ≡ codes "cycle"

-- the lexeme is the word at the place, which is one of the two
pub record IsWordToken (source : List ℕ) (place : ℕ) (lexeme : Lexeme LassoKind) : Type 0 where
  pub lexeme_is : lexeme ≡ lexeme_at place lexeme.kind 0 (front_word (drop place source))
  pub word : IsWordOf lexeme.kind (front_word (drop place source))

-- the word at the place is neither of the two, which is the fault
pub record IsOtherWord (source : List ℕ) (place : ℕ) (fault : TextFault) : Type 0 where
  pub fault_is : fault ≡ Lex place
  pub no_stem : front_word (drop place source) ≢ codes "stem"
  pub no_cycle : front_word (drop place source) ≢ codes "cycle"
