-- Bytes of a segment that are passed at once.
use Rattle.std.proofs.Common.{◌≡◌, ℕ, ◌+◌, ◌-◌, ◌≤◌, Bool, true, false, List, [], ◌∷◌, ◌++◌, length, take, drop, refl, sym, ap, subst, ◌∙◌, arith, append_assoc, length-append, length-take-le, take-add}
use Rattle.std.specs.Prelude.{not}
use Rattle.omega_text.specs.Lexeme.{Lexeme}
use Rattle.omega_text.specs.declared.hoa.kind.HoaKind.{HoaKind}
use Rattle.omega_text.specs.declared.hoa.kind.HoaKind.TheVariants.{End, Abort}
use Rattle.omega_text.specs.declared.hoa.tokenizer.HoaTokenizer.{HoaTokenizer}
use Rattle.omega_text.specs.contracts.hoa.tokenizer.HoaTokenizerByteTokenizer.TheImpl.{ghosts as hoa_tokenizer}
use Rattle.omega_text.specs.hoa.Pieces.{HasPassed, HasRoom, NoneMarks, is_mark}
use Rattle.omega_hoa.specs.Feeding.{IsDivided, IsRest}
use Rattle.omega_hoa.specs.Stream.{IsOpen, NoneEnds, is_end}
use Rattle.omega_hoa.specs.private.dividing.Next.{IsProgress, IsProgressSome}
use Rattle.omega_hoa.specs.declared.division.Division.{Division}
use Rattle.omega_hoa.specs.declared.item.Item.{Item}
use Rattle.omega_hoa.specs.declared.progress.ReadProgress.{ReadProgress}
use Rattle.omega_hoa.proofs.Settling.{divided_on}

-- what is not untrue is true
pub not_untrue : (test : Bool) → not test ≡ false → test ≡ true
not_untrue true is = refl
not_untrue false is = absurd (cc)

-- what is no mark ends no segment
no_mark_no_end : (kind : HoaKind) → is_mark kind ≡ false → is_end kind ≡ false
no_mark_no_end End no_mark = absurd (cc)
no_mark_no_end Abort no_mark = absurd (cc)
no_mark_no_end kind no_mark = refl

none_ends_more : (lexemes more : List (Lexeme HoaKind)) → NoneEnds lexemes → NoneMarks more → NoneEnds (lexemes ++ more)
none_ends_more [] [] none plain = tt
none_ends_more [] (lexeme ∷ more) none plain = (no_mark_no_end lexeme.kind plain.0, none_ends_more [] more none plain.1)
none_ends_more (lexeme ∷ lexemes) more none plain = (none.0, none_ends_more lexemes more none.1 plain)

-- a segment goes on with tokens that are no marks
open_more : (lexemes more : List (Lexeme HoaKind)) → IsOpen lexemes → NoneMarks more → IsOpen (lexemes ++ more)
open_more lexemes more begun plain = record {
  first = begun.first;
  rest = begun.rest ++ more;
  split = ap (λ all. all ++ more) begun.split;
  opens = begun.opens;
  unended = none_ends_more begun.rest more begun.unended plain;
}

-- inside a segment, tokens that are no marks leave all divided as it was
divided_more : (seen : List ℕ) (lexemes more : List (Lexeme HoaKind)) (items : List Item) (begins : ℕ) (division : Division) → division.inside ≡ true → NoneMarks more
    → IsDivided seen lexemes items begins division.inside → IsDivided seen (lexemes ++ more) items begins division.inside
divided_more seen lexemes more items begins division inside plain divided = record {
  front = divided.front;
  rest = divided.rest ++ more;
  split = ap (λ all. all ++ more) divided.split ∙ append_assoc divided.front divided.rest more;
  before = divided.before;
  following = subst (λ is. IsRest is (divided.rest ++ more)) (sym inside) (open_more divided.rest more (subst (λ is. IsRest is divided.rest) inside divided.following) plain);
  cuts = divided.cuts;
}

-- the bytes up to a place, and those up to the next
read_up_to : (prior bytes : List ℕ) (from to : ℕ) → from ≤ to → (prior ++ take from bytes) ++ take (to - from) (drop from bytes) ≡ prior ++ take to bytes
read_up_to prior bytes from to forward =
    let all : from + (to - from) ≡ to = omega arith in
    append_assoc prior (take from bytes) (take (to - from) (drop from bytes))
    ∙ ap (λ bs. prior ++ bs) (sym (take-add from (to - from) bytes) ∙ ap (λ n. take n bytes) all)

-- places can be counted up to the end of the bytes
pub room_inside : (bytes : List ℕ) (first place : ℕ) (progress : ReadProgress) → place ≤ length bytes → IsProgressSome bytes first place progress → HasRoom (hoa_tokenizer.read progress.tokenizer) (length bytes - place)
room_inside bytes first place progress within some =
    let so_far = some.2 in
    let seen = some.0 ++ take place bytes in
    (seen, so_far.lexemes, so_far.read, omega (arith, length-append some.0 (take place bytes), length-take-le place bytes within, so_far.there, so_far.short))

-- the bytes that were passed were read
pub passed_on : (bytes : List ℕ) (first from to : ℕ) (progress : ReadProgress) (tokenizer : HoaTokenizer) (prior : List ℕ) (items : List Item) → from ≤ to → progress.division.inside ≡ true
    → (so_far : IsProgress bytes first from progress prior items) → HasPassed (hoa_tokenizer.read tokenizer) (prior ++ take from bytes) so_far.lexemes (take (to - from) (drop from bytes))
    → hoa_tokenizer.fault tokenizer ≡ hoa_tokenizer.fault progress.tokenizer
    → IsProgress bytes first to (record { tokenizer = tokenizer; division = progress.division }) prior items
passed_on bytes first from to progress tokenizer prior items forward inside so_far passed same =
    let lexemes = so_far.lexemes ++ passed.passed in
    let begins = progress.division.begins in
    let more = take (to - from) (drop from bytes) in
    let all = read_up_to prior bytes from to forward in
    record {
      there = so_far.there;
      lexemes = lexemes;
      read = subst (λ seen. hoa_tokenizer.read tokenizer seen lexemes) all passed.read;
      sound = same ∙ so_far.sound;
      divided = subst (λ seen. IsDivided seen lexemes items begins progress.division.inside) all
          (divided_on (prior ++ take from bytes) more lexemes items begins progress.division.inside
          (divided_more (prior ++ take from bytes) so_far.lexemes passed.passed items begins progress.division inside passed.plain so_far.divided));
      from = so_far.from;
      short = so_far.short;
    }
