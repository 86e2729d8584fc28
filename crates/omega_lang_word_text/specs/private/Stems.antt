-- What the letters of a stem so far, and the further letters of a cycle, lead to.
use Rattle.std.specs.Prelude.{ℕ, List, ◌++◌}
use Rattle.omega_hoa_expression.specs.Unread.{IsFirstUnread}
use Rattle.omega_hoa_label.specs.Raw.{RawLabelTree}
use Rattle.omega_text.specs.Lexeme.{Lexeme}
use Rattle.omega_text.specs.declared.hoa.kind.HoaKind.{HoaKind}
use Rattle.omega_lang_word_text.specs.Grammar.{BeginsWord, ReadsNoWord, ReadsWord}
use Rattle.omega_lang_word_text.specs.private.Parts.{BeginsPart, ReadsBraced, ReadsNo, ReadsOthers}

-- the tokens are these letters of a stem, `;` after each, and others from which a word goes on, as long as those do
pub record LeadsOn (tokens : List (Lexeme HoaKind)) (stem : List RawLabelTree)
    (rest : List (Lexeme HoaKind)) : Type 0 where
  pub reads : (more around : List RawLabelTree) → ReadsWord rest more around
      → ReadsWord tokens (stem ++ more) around
  pub unread : (length place : ℕ) → IsFirstUnread ReadsNoWord BeginsWord rest length place
      → IsFirstUnread ReadsNoWord BeginsWord tokens length place

-- the tokens are these letters of a stem, `;` after each, `cycle`, and others from which a word goes on
pub record LeadsToWord (tokens : List (Lexeme HoaKind)) (stem : List RawLabelTree)
    (rest : List (Lexeme HoaKind)) : Type 0 where
  pub reads : (around : List RawLabelTree) → ReadsBraced rest around → ReadsWord tokens stem around
  pub unread : (length place : ℕ)
      → IsFirstUnread (ReadsNo ReadsBraced) (BeginsPart ReadsBraced) rest length place
      → IsFirstUnread ReadsNoWord BeginsWord tokens length place

-- the tokens are these letters of a cycle, `;` before each, and others from which it goes on
pub record LeadsToOthers (tokens : List (Lexeme HoaKind)) (letters : List RawLabelTree)
    (rest : List (Lexeme HoaKind)) : Type 0 where
  pub reads : (more : List RawLabelTree) → ReadsOthers rest more
      → ReadsOthers tokens (letters ++ more)
  pub unread : (length place : ℕ)
      → IsFirstUnread (ReadsNo ReadsOthers) (BeginsPart ReadsOthers) rest length place
      → IsFirstUnread (ReadsNo ReadsOthers) (BeginsPart ReadsOthers) tokens length place
