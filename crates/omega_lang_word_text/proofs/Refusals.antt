-- Which refusal a text has that says no word.
use Rattle.std.proofs.Common.{◌≡◌, ℕ, ◌≤◌, List, ◌∷◌, length, map, subst, sym}
use Rattle.std.specs.List.{AllZip}
use Rattle.omega_hoa_expression.specs.Unread.{IsUnread}
use Rattle.omega_hoa_label.specs.Raw.{RawLabelTree}
use Rattle.omega_lang_lasso_word.specs.declared.symbolic_word.SymbolicWord.{SymbolicWord}
use Rattle.omega_text.specs.Cut.{IsCut, IsRefusedBy}
use Rattle.omega_text.specs.Lexeme.{lexeme_of}
use Rattle.omega_text.specs.declared.hoa.kind.HoaKind.{HoaKind}
use Rattle.omega_text.specs.declared.token.Token.{Token}
use Rattle.omega_text.specs.Limits.{most_text}
use Rattle.omega_text.specs.declared.refusal.Refusal.{Refusal}
use Rattle.omega_text.specs.declared.refusal.Refusal.TheVariants.{Automaton, Circuit, Game, Io, Memory, Task, Text}
use Rattle.omega_text.specs.declared.refusal.text.TextFault.TheVariants.{Lex, Number, Syntax, TooLong}
use Rattle.omega_lang_word_text.specs.Cut.{word_format}
use Rattle.omega_lang_word_text.specs.Grammar.{BeginsWord, ReadsNoWord, ReadsWord}
use Rattle.omega_lang_word_text.specs.Reading.{IsReadAs, names_of}
use Rattle.omega_lang_word_text.specs.Text.{IsReadText, IsReadWordRefusal, IsWordText}
use Rattle.omega_lang_word_text.proofs.Following.{Tokens}

module _ (source : List ℕ) (short : length source ≤ most_text) where
  -- it can't be cut into tokens
  pub fault_refused : (refusal : Refusal) → IsRefusedBy word_format source refusal → IsReadWordRefusal source refusal
  fault_refused (Text (Lex at)) is = (short, is)
  fault_refused (Text (Number at)) is = (short, is)
  fault_refused (Text (Syntax at)) is = absurd is.faults.fault_there.fault_there
  fault_refused (Text TooLong) is = absurd is.faults.fault_there.fault_there
  fault_refused (Game fault) is = absurd is
  fault_refused (Circuit fault) is = absurd is
  fault_refused (Automaton fault) is = absurd is
  fault_refused (Task fault) is = absurd is
  fault_refused Memory is = tt
  fault_refused Io is = absurd is

  -- no word is read of its tokens
  pub unread_refused : (names : List (List ℕ)) (tokens : Tokens) → IsReadText source names tokens
      → (refusal : Refusal) → IsUnread ReadsNoWord BeginsWord tokens (length source) refusal → IsReadWordRefusal source refusal
  unread_refused names tokens read (Text (Syntax at)) is = (short, record { names = names; tokens = tokens; read = read; unread = is })
  unread_refused names tokens read (Text (Lex at)) is = absurd is
  unread_refused names tokens read (Text (Number at)) is = absurd is
  unread_refused names tokens read (Text TooLong) is = absurd is
  unread_refused names tokens read (Game fault) is = absurd is
  unread_refused names tokens read (Circuit fault) is = absurd is
  unread_refused names tokens read (Automaton fault) is = absurd is
  unread_refused names tokens read (Task fault) is = absurd is
  unread_refused names tokens read Memory is = tt
  unread_refused names tokens read Io is = absurd is

  -- the same of what a cursor shows
  pub cursor_refused : (names : List (List ℕ)) (tokens shown : Tokens) (n : ℕ) → IsReadText source names tokens → shown ≡ tokens → n ≡ length source
      → (refusal : Refusal) → IsUnread ReadsNoWord BeginsWord shown n refusal → IsReadWordRefusal source refusal
  cursor_refused names tokens shown n read same long refusal is =
      unread_refused names tokens read refusal
      (subst (λ (t : Tokens). IsUnread ReadsNoWord BeginsWord t (length source) refusal) same (subst (λ m. IsUnread ReadsNoWord BeginsWord shown m refusal) long is))

  -- a word that a cursor shows
  pub word_shown : (word : SymbolicWord) (names : List (List ℕ)) (tokens shown : Tokens) (stem others : List RawLabelTree) (first : RawLabelTree) → IsReadText source names tokens → shown ≡ tokens
      → ReadsWord shown stem (first ∷ others) → word.names ≡ names → word.stem ≡ stem → word.first ≡ first → word.others ≡ others → IsWordText source word
  word_shown word names tokens shown stem others first read same reads names_are stem_is first_is others_are = record {
    short = short;
    tokens = tokens;
    read = subst (λ (n : List (List ℕ)). IsReadText source n tokens) (sym names_are) read;
    reads = subst (λ (t : Tokens). ReadsWord t word.stem (word.first ∷ word.others)) same
        (subst (λ (s : List RawLabelTree). ReadsWord shown s (word.first ∷ word.others)) (sym stem_is)
        (subst (λ (l : RawLabelTree). ReadsWord shown stem (l ∷ word.others)) (sym first_is)
        (subst (λ (o : List RawLabelTree). ReadsWord shown stem (first ∷ o)) (sym others_are) reads)));
  }

-- tokens that were translated are read
pub read_text : (source : List ℕ) (own slice : List (Token HoaKind)) (names : List (List ℕ)) (tokens : List (Token HoaKind)) → IsCut word_format source (map lexeme_of own) → slice ≡ own
    → names ≡ names_of (map lexeme_of slice) → AllZip (IsReadAs (names_of (map lexeme_of slice))) (map lexeme_of slice) (map lexeme_of tokens) → IsReadText source names (map lexeme_of tokens)
read_text source own slice names tokens cut same named zipped = record {
  own = map lexeme_of slice;
  cut = subst (λ (l : List (Token HoaKind)). IsCut word_format source (map lexeme_of l)) (sym same) cut;
  names_are = named;
  as_read = subst (λ (n : List (List ℕ)). AllZip (IsReadAs n) (map lexeme_of slice) (map lexeme_of tokens)) (sym named) zipped;
}
