-- What was read is a unit.
use Rattle.std.proofs.Common.{◌≡◌, ◌≢◌, ℕ, zero, suc, ◌+◌, ◌<◌, ◌≤◌, ◌⊎◌, inl, inr, ⊎_elim, Bool, true, false, cond, Option, Some, None, List, [], ◌∷◌, ◌++◌, length, get_or, drop, refl, sym, ap, ◌∙◌, subst, arith, ◌==◌, add-one, drop-cons}
use Rattle.std.proofs.lemmas.Bool.{eqb-true}
use Rattle.std.proofs.lemmas.Bool.Decides.{nat_tests}
use Rattle.std.proofs.lemmas.List.{drop_all}
use Rattle.std.proofs.lemmas.List.Elements.{All-cons, All-nil}
use Rattle.std.specs.List.{AllPass}
use Rattle.omega_text.specs.declared.hoa.kind.HoaKind.{HoaKind}
use Rattle.omega_text.specs.declared.hoa.kind.HoaKind.TheVariants.{Identifier, HeaderName, AliasName, True, False, Int, String, Body, End, Abort, Not, And, Or, OpenParenthesis, CloseParenthesis, OpenBracket, CloseBracket, OpenBrace, CloseBrace}
use Rattle.omega_text.specs.declared.hoa.mode.Mode.{Mode}
use Rattle.omega_text.specs.declared.hoa.mode.Mode.TheVariants.{Start, Word, At, Alias, Digits, Quoted, Slash, Comment, Star, Slashed, Dash, Dashes, Mark, Whole, Blank}
use Rattle.omega_text.specs.hoa.Forms.{Closes, IsNoMark, IsQuotable, IsUnit, spelling}
use Rattle.omega_text.specs.hoa.Forms.Closes.{close, closed, nest, other}
use Rattle.omega_text.specs.hoa.Forms.IsQuotable.{empty, escaped, plain}
use Rattle.omega_text.specs.private.hoa.scanning.Modes.{closed_mode, first_mode, letter_kind, run, sign_kind, whole}
use Rattle.omega_text.specs.Bytes.{is_digit, is_letter, is_white, is_word_byte}
use Rattle.omega_text.specs.Forms.{IsDigits, IsWord}
use Rattle.omega_text.proofs.pg_texts.Classes.{letter_in_word}
use Rattle.omega_text.proofs.hoa_texts.Runs.{answer, answer_none}
use Rattle.omega_text.proofs.hoa_texts.Tests.{chosen, either}

-- after a whole token nothing is read
whole_read : (kind : HoaKind) (rest : List ℕ) (sort : Option HoaKind) → answer (run (Some (Whole kind)) rest) ≡ Some sort → (rest ≡ []) × (sort ≡ Some kind)
whole_read kind [] sort is = (refl, cc)
whole_read kind (byte ∷ rest) sort is = absurd (answer_none rest sort is)

-- nor after a part of a gap
blank_read : (rest : List ℕ) (sort : Option HoaKind) → answer (run (Some Blank) rest) ≡ Some sort → (rest ≡ []) × (sort ≡ None)
blank_read [] sort is = (refl, cc)
blank_read (byte ∷ rest) sort is = absurd (answer_none rest sort is)

-- after the beginning of a word: nothing, more of it, or that and a colon
abbrev WordRest : HoaKind → List ℕ → Option HoaKind → Type 0
WordRest kind rest sort = ((rest ≡ []) × (sort ≡ Some kind))
    ⊎ (((0 < length rest) × AllPass is_word_byte rest × (sort ≡ Some Identifier))
    ⊎ ((more : List ℕ) × (rest ≡ more ++ 58 ∷ []) × AllPass is_word_byte more × (sort ≡ Some HeaderName)))

-- the same with one byte more in front
word_more : (byte : ℕ) (rest : List ℕ) (kind : HoaKind) (sort : Option HoaKind) → is_word_byte byte ≡ true → WordRest Identifier rest sort → WordRest kind (byte ∷ rest) sort
word_more byte rest kind sort goes_on = ⊎_elim
    (λ (none, is). inr (inl (omega arith, All-cons (λ b. is_word_byte b ≡ true) byte rest goes_on (subst (AllPass is_word_byte) (sym none) (All-nil (λ b. is_word_byte b ≡ true))), is)))
    (⊎_elim
    (λ (some, all, is). inr (inl (omega arith, All-cons (λ b. is_word_byte b ≡ true) byte rest goes_on all, is)))
    (λ (more, split, all, is). inr (inr (byte ∷ more, ap (λ bs. byte ∷ bs) split, All-cons (λ b. is_word_byte b ≡ true) byte more goes_on all, is))))

word_read : (kind : HoaKind) (rest : List ℕ) (sort : Option HoaKind) → answer (run (Some (Word kind)) rest) ≡ Some sort → WordRest kind rest sort
word_read kind [] sort is = inl (refl, cc)
word_read kind (byte ∷ rest) sort is = ⊎_elim
    (λ (goes_on, more). word_more byte rest kind sort goes_on (word_read Identifier rest sort more))
    (λ (stops, more). ⊎_elim
    (λ (colon, header). let end = whole_read HeaderName rest sort header in
    inr (inr ([], (λ i. eqb-true byte 58 colon i ∷ end.0 i), All-nil (λ b. is_word_byte b ≡ true), end.1)))
    (λ (differ, none). absurd (answer_none rest sort none))
    (chosen (λ state. answer (run state rest) ≡ Some sort) (byte == 58) _ _ more))
    (chosen (λ state. answer (run state rest) ≡ Some sort) (is_word_byte byte) _ _ is)

-- after the beginning of an alias name: more of it
alias_read : (rest : List ℕ) (sort : Option HoaKind) → answer (run (Some Alias) rest) ≡ Some sort → AllPass is_word_byte rest × (sort ≡ Some AliasName)
alias_read [] sort is = (All-nil (λ b. is_word_byte b ≡ true), cc)
alias_read (byte ∷ rest) sort is = ⊎_elim
    (λ (goes_on, more). let following = alias_read rest sort more in (All-cons (λ b. is_word_byte b ≡ true) byte rest goes_on following.0, following.1))
    (λ (stops, none). absurd (answer_none rest sort none))
    (chosen (λ state. answer (run state rest) ≡ Some sort) (is_word_byte byte) _ _ is)

-- after digits: digits
digits_read : (rest : List ℕ) (sort : Option HoaKind) → answer (run (Some Digits) rest) ≡ Some sort → AllPass is_digit rest × (sort ≡ Some Int)
digits_read [] sort is = (All-nil (λ b. is_digit b ≡ true), cc)
digits_read (byte ∷ rest) sort is = ⊎_elim
    (λ (goes_on, more). let following = digits_read rest sort more in (All-cons (λ b. is_digit b ≡ true) byte rest goes_on following.0, following.1))
    (λ (stops, none). absurd (answer_none rest sort none))
    (chosen (λ state. answer (run state rest) ≡ Some sort) (is_digit byte) _ _ is)

-- numbers that are not equal, the first at most the other
apart : (one most : ℕ) → (one == most) ≡ false → one ≤ most → one < most
apart one most fails within = grind (arith, nat_tests)

-- tests of a byte that fail
pub differs : (byte value : ℕ) → (byte == value) ≡ false → byte ≢ value
differs byte value fails is = grind (arith, nat_tests)

-- after a quote: what may come between two quotes, and a quote
abbrev StringRest : List ℕ → Option HoaKind → Type 0
StringRest rest sort = (inside : List ℕ) × (rest ≡ inside ++ 34 ∷ []) × IsQuotable inside × (sort ≡ Some String)

-- after a backslash: one byte more
abbrev EscapedRest : List ℕ → Option HoaKind → Type 0
EscapedRest rest sort = (byte : ℕ) × (following : List ℕ) × (rest ≡ byte ∷ following) × StringRest following sort

quoted_read : (rest : List ℕ) (sort : Option HoaKind) → answer (run (Some Quoted) rest) ≡ Some sort → StringRest rest sort
quoted_read [] sort is = absurd (cc)
quoted_read (byte ∷ []) sort is = ⊎_elim
    (λ (quote, whole). ([], ap (λ b. b ∷ []) (eqb-true byte 34 quote), empty, (whole_read String [] sort whole).1))
    (λ (differ, more). absurd (⊎_elim (λ (test, unread). let e : None ≡ Some sort = unread in cc) (λ (test, unread). let e : None ≡ Some sort = unread in cc)
    (chosen (λ mode. answer (Some mode) ≡ Some sort) (byte == 92) _ _ more)))
    (chosen (λ mode. answer (run (Some mode) []) ≡ Some sort) (byte == 34) _ _ is)
quoted_read (byte ∷ next ∷ rest) sort is = ⊎_elim
    (λ (quote, whole). let e = (whole_read String (next ∷ rest) sort whole).0 in absurd (cc))
    (λ (differ, more). ⊎_elim
    (λ (backslash, following). let found = quoted_read rest sort following in
    (92 ∷ next ∷ found.0, (λ i. eqb-true byte 92 backslash i ∷ next ∷ found.1 i), escaped next found.0 found.2, found.3))
    (λ (simple, following). let found = quoted_read (next ∷ rest) sort following in
    (byte ∷ found.0, ap (λ bs. byte ∷ bs) found.1, plain byte found.0 (differs byte 34 differ) (differs byte 92 simple) found.2, found.3))
    (chosen (λ mode. answer (run (Some mode) (next ∷ rest)) ≡ Some sort) (byte == 92) _ _ more))
    (chosen (λ mode. answer (run (Some mode) (next ∷ rest)) ≡ Some sort) (byte == 34) _ _ is)

-- a mark that is partly read: the other bytes
mark_read : (kind : HoaKind) (count : ℕ) (rest : List ℕ) (sort : Option HoaKind) → count < length (spelling kind)
    → answer (run (Some (Mark kind count)) rest) ≡ Some sort → (rest ≡ drop count (spelling kind)) × (sort ≡ Some kind)
mark_read kind count [] sort inside is = absurd (cc)
mark_read kind count (byte ∷ rest) sort inside is =
    let front : drop count (spelling kind) ≡ get_or (spelling kind) count 0 ∷ drop (count + 1) (spelling kind) = rw add-one (drop-cons (spelling kind) count 0 inside) in
    ⊎_elim
    (λ (same, more). ⊎_elim
    (λ (all, whole).
    let end = whole_read kind rest sort whole in
    let past : drop (count + 1) (spelling kind) ≡ [] = drop_all (count + 1) (spelling kind) (omega (arith, eqb-true (count + 1) (length (spelling kind)) all)) in
    ((λ i. eqb-true byte (get_or (spelling kind) count 0) same i ∷ (end.0 ∙ sym past) i) ∙ sym front, end.1))
    (λ (part, unfinished).
    let end = mark_read kind (count + 1) rest sort (apart (count + 1) (length (spelling kind)) part (omega arith)) unfinished in
    ((λ i. eqb-true byte (get_or (spelling kind) count 0) same i ∷ end.0 i) ∙ sym front, end.1))
    (chosen (λ mode. answer (run (Some mode) rest) ≡ Some sort) ((count + 1) == length (spelling kind)) _ _ more))
    (λ (differ, unread). absurd (answer_none rest sort unread))
    (chosen (λ state. answer (run state rest) ≡ Some sort) (byte == get_or (spelling kind) count 0) _ _ is)

-- what closes comments, with bytes in front that are no mark
abbrev CommentRest : ℕ → List ℕ → Option HoaKind → Type 0
CommentRest depth rest sort = Closes depth rest × (sort ≡ None)

-- a mark that closes a comment, and what closes those around it
closed_read : (around : ℕ) (rest : List ℕ) (sort : Option HoaKind)
    → ((depth : ℕ) → around ≡ suc depth → answer (run (Some (Comment depth)) rest) ≡ Some sort → CommentRest (suc depth) rest sort)
    → answer (run (Some (closed_mode around)) rest) ≡ Some sort → CommentRest around rest sort
closed_read zero rest sort inner is = let end = blank_read rest sort is in (subst (Closes 0) (sym end.0) closed, end.1)
closed_read (suc around) rest sort inner is = inner around refl is

-- a byte that begins no mark
no_mark : (byte next : ℕ) → (byte ≡ 47 → next ≢ 42) → (byte ≡ 42 → next ≢ 47) → IsNoMark byte next
no_mark byte next opens closes = record { opens_none = opens; closes_none = closes }

-- what is read in a comment, after `*` and after `/`
record CommentReads (rest : List ℕ) : Type 0 where
  comment : (around : ℕ) (sort : Option HoaKind) → answer (run (Some (Comment around)) rest) ≡ Some sort → CommentRest (suc around) rest sort
  star : (around : ℕ) (sort : Option HoaKind) → answer (run (Some (Star around)) rest) ≡ Some sort → CommentRest (suc around) (42 ∷ rest) sort
  slashed : (around : ℕ) (sort : Option HoaKind) → answer (run (Some (Slashed around)) rest) ≡ Some sort → CommentRest (suc around) (47 ∷ rest) sort

-- in a comment
comment_step : (byte : ℕ) (rest : List ℕ) → CommentReads rest → (around : ℕ) (sort : Option HoaKind) → answer (run (Some (Comment around)) (byte ∷ rest)) ≡ Some sort → CommentRest (suc around) (byte ∷ rest) sort
comment_step byte rest reads around sort is = ⊎_elim
    (λ (star, more). let found = reads.star around sort more in (subst (λ b. Closes (suc around) (b ∷ rest)) (sym (eqb-true byte 42 star)) found.0, found.1))
    (λ (no_star, more). ⊎_elim
    (λ (slash, following). let found = reads.slashed around sort following in (subst (λ b. Closes (suc around) (b ∷ rest)) (sym (eqb-true byte 47 slash)) found.0, found.1))
    (λ (no_slash, following). let found = reads.comment around sort following in
    (other around byte rest (no_mark byte (get_or rest 0 0) (λ is. absurd (differs byte 47 no_slash is)) (λ is. absurd (differs byte 42 no_star is))) found.0, found.1))
    (chosen (λ mode. answer (run (Some mode) rest) ≡ Some sort) (byte == 47) _ _ more))
    (chosen (λ mode. answer (run (Some mode) rest) ≡ Some sort) (byte == 42) _ _ is)

-- after `*`
star_step : (byte : ℕ) (rest : List ℕ) → CommentReads rest → (around : ℕ) (sort : Option HoaKind) → answer (run (Some (Star around)) (byte ∷ rest)) ≡ Some sort → CommentRest (suc around) (42 ∷ byte ∷ rest) sort
star_step byte rest reads around sort is = ⊎_elim
    (λ (slash, more). let found = closed_read around rest sort (λ depth same inner. reads.comment depth sort inner) more in
    (subst (λ b. Closes (suc around) (42 ∷ b ∷ rest)) (sym (eqb-true byte 47 slash)) (close around rest found.0), found.1))
    (λ (no_slash, more). ⊎_elim
    (λ (star, following). let found = reads.star around sort following in
    (other around 42 (byte ∷ rest) (no_mark 42 byte (λ is. absurd (cc)) (λ _. differs byte 47 no_slash)) (subst (λ b. Closes (suc around) (b ∷ rest)) (sym (eqb-true byte 42 star)) found.0), found.1))
    (λ (no_star, following). let found = reads.comment around sort following in (
      other around 42 (byte ∷ rest) (no_mark 42 byte (λ is. absurd (cc)) (λ _. differs byte 47 no_slash))
          (other around byte rest (no_mark byte (get_or rest 0 0) (λ is. absurd (differs byte 47 no_slash is)) (λ is. absurd (differs byte 42 no_star is))) found.0),
      found.1,
    ))
    (chosen (λ mode. answer (run (Some mode) rest) ≡ Some sort) (byte == 42) _ _ more))
    (chosen (λ mode. answer (run (Some mode) rest) ≡ Some sort) (byte == 47) _ _ is)

-- after `/`
slashed_step : (byte : ℕ) (rest : List ℕ) → CommentReads rest → (around : ℕ) (sort : Option HoaKind) → answer (run (Some (Slashed around)) (byte ∷ rest)) ≡ Some sort → CommentRest (suc around) (47 ∷ byte ∷ rest) sort
slashed_step byte rest reads around sort is = ⊎_elim
    (λ (star, more). let found = reads.comment (suc around) sort more in
    (subst (λ b. Closes (suc around) (47 ∷ b ∷ rest)) (sym (eqb-true byte 42 star)) (nest around rest found.0), found.1))
    (λ (no_star, more). ⊎_elim
    (λ (slash, following). let found = reads.slashed around sort following in
    (other around 47 (byte ∷ rest) (no_mark 47 byte (λ _. differs byte 42 no_star) (λ is. absurd (cc))) (subst (λ b. Closes (suc around) (b ∷ rest)) (sym (eqb-true byte 47 slash)) found.0), found.1))
    (λ (no_slash, following). let found = reads.comment around sort following in (
      other around 47 (byte ∷ rest) (no_mark 47 byte (λ _. differs byte 42 no_star) (λ is. absurd (cc)))
          (other around byte rest (no_mark byte (get_or rest 0 0) (λ is. absurd (differs byte 47 no_slash is)) (λ is. absurd (differs byte 42 no_star is))) found.0),
      found.1,
    ))
    (chosen (λ mode. answer (run (Some mode) rest) ≡ Some sort) (byte == 47) _ _ more))
    (chosen (λ mode. answer (run (Some mode) rest) ≡ Some sort) (byte == 42) _ _ is)

comment_reads : (rest : List ℕ) → CommentReads rest
comment_reads [] = record {
  comment = λ around sort is. absurd (cc);
  star = λ around sort is. absurd (cc);
  slashed = λ around sort is. absurd (cc);
}
comment_reads (byte ∷ rest) =
    let following = comment_reads rest in
    record { comment = comment_step byte rest following; star = star_step byte rest following; slashed = slashed_step byte rest following }

-- what was read of a unit from its second byte on
abbrev IsRead : Option Mode → ℕ → List ℕ → Type 0
IsRead state byte rest = (sort : Option HoaKind) → answer (run state rest) ≡ Some sort → IsUnit sort (byte ∷ rest)

-- a whole sign
sign_read : (kind : HoaKind) (byte : ℕ) (rest : List ℕ) → IsUnit (Some kind) (byte ∷ []) → IsRead (Some (Whole kind)) byte rest
sign_read kind byte rest form sort is = let end = whole_read kind rest sort is in subst (λ bytes. IsUnit sort (byte ∷ bytes)) (sym end.0) (subst (λ s. IsUnit s (byte ∷ [])) (sym end.1) form)

-- nothing
nothing_read : (byte : ℕ) (rest : List ℕ) → IsRead None byte rest
nothing_read byte rest sort is = absurd (answer_none rest sort is)

-- a word of one letter
letter_form : (byte : ℕ) → is_letter byte ≡ true → IsUnit (Some (letter_kind byte)) (byte ∷ [])
letter_form byte letter = either (λ kind. IsUnit (Some kind) (byte ∷ [])) (byte == 116) True (cond (byte == 102) False Identifier)
    (λ same. ap (λ b. b ∷ []) (eqb-true byte 116 same))
    (λ no_t. either (λ kind. IsUnit (Some kind) (byte ∷ [])) (byte == 102) False Identifier
    (λ same. ap (λ b. b ∷ []) (eqb-true byte 102 same))
    (λ no_f. (
      (omega arith, letter, All-cons (λ b. is_word_byte b ≡ true) byte [] (letter_in_word byte letter) (All-nil (λ b. is_word_byte b ≡ true))),
      λ same. differs byte 116 no_t (ap (λ bytes. get_or bytes 0 0) same),
      λ same. differs byte 102 no_f (ap (λ bytes. get_or bytes 0 0) same),
    )))

-- from the first byte on, class by class
module _ (byte : ℕ) (rest : List ℕ) where
  -- a choice of what was begun
  reads_either : (test : Bool) (one other : Option Mode) → (test ≡ true → IsRead one byte rest) → (test ≡ false → IsRead other byte rest) → IsRead (cond test one other) byte rest
  reads_either = either (λ state. IsRead state byte rest)

  -- one sign, or what else
  sign_or : (kind : HoaKind) (value : ℕ) (others : Option HoaKind) → IsUnit (Some kind) (value ∷ []) → IsRead (whole others) byte rest
      → IsRead (whole (cond (byte == value) (Some kind) others)) byte rest
  sign_or kind value others form last = either (λ sign. IsRead (whole sign) byte rest) (byte == value) (Some kind) others
      (λ same. sign_read kind byte rest (subst (λ b. IsUnit (Some kind) (b ∷ [])) (sym (eqb-true byte value same)) form))
      (λ _. last)

  signs_read : IsRead (whole (sign_kind byte)) byte rest
  signs_read = sign_or Not 33 _ refl (sign_or And 38 _ refl (sign_or Or 124 _ refl
      (sign_or OpenParenthesis 40 _ refl (sign_or CloseParenthesis 41 _ refl (sign_or OpenBracket 91 _ refl
      (sign_or CloseBracket 93 _ refl (sign_or OpenBrace 123 _ refl (sign_or CloseBrace 125 _ refl (nothing_read byte rest)))))))))

  -- a word
  letter_read : is_letter byte ≡ true → IsRead (Some (Word (letter_kind byte))) byte rest
  letter_read letter sort is = ⊎_elim
      (λ (end, same). subst (λ bytes. IsUnit sort (byte ∷ bytes)) (sym end) (subst (λ s. IsUnit s (byte ∷ [])) (sym same) (letter_form byte letter)))
      (⊎_elim
      (λ (some, all, same). subst (λ s. IsUnit s (byte ∷ rest)) (sym same) (
        whole_word all,
        λ one. omega (arith, ap length one),
        λ one. omega (arith, ap length one),
      ))
      (λ (more, split, all, same). subst (λ s. IsUnit s (byte ∷ rest)) (sym same) (byte ∷ more, ap (λ bs. byte ∷ bs) split, word_of more all)))
      (word_read (letter_kind byte) rest sort is)
    where
      word_of : (more : List ℕ) → AllPass is_word_byte more → IsWord (byte ∷ more)
      word_of more all = (omega arith, letter, All-cons (λ b. is_word_byte b ≡ true) byte more (letter_in_word byte letter) all)

      whole_word : AllPass is_word_byte rest → IsWord (byte ∷ rest)
      whole_word all = word_of rest all

  -- digits
  digit_read : is_digit byte ≡ true → IsRead (Some Digits) byte rest
  digit_read digit sort is =
      let following = digits_read rest sort is in
      let digits : IsDigits (byte ∷ rest) = (omega arith, All-cons (λ b. is_digit b ≡ true) byte rest digit following.0) in
      subst (λ s. IsUnit s (byte ∷ rest)) (sym following.1) digits

  -- a white byte
  white_read : is_white byte ≡ true → IsRead (Some Blank) byte rest
  white_read white sort is =
      let following = blank_read rest sort is in
      let blank : IsUnit None (byte ∷ rest) = inl (byte, ap (λ bytes. byte ∷ bytes) following.0, white) in
      subst (λ s. IsUnit s (byte ∷ rest)) (sym following.1) blank

  -- a string
  quote_read : byte ≡ 34 → IsRead (Some Quoted) byte rest
  quote_read quote sort is =
      let following = quoted_read rest sort is in
      let text : IsUnit (Some String) (byte ∷ rest) = (following.0, (λ i. quote i ∷ following.1 i), following.2) in
      subst (λ s. IsUnit s (byte ∷ rest)) (sym following.3) text

-- an alias name, after `@`
at_read : (rest : List ℕ) (sort : Option HoaKind) → answer (run (Some At) rest) ≡ Some sort → IsUnit sort (64 ∷ rest)
at_read [] sort is = absurd (cc)
at_read (byte ∷ rest) sort is = ⊎_elim
    (λ (goes_on, more).
    let following = alias_read rest sort more in
    let name : IsUnit (Some AliasName) (64 ∷ byte ∷ rest) = (byte ∷ rest, refl, omega arith, All-cons (λ b. is_word_byte b ≡ true) byte rest goes_on following.0) in
    subst (λ s. IsUnit s (64 ∷ byte ∷ rest)) (sym following.1) name)
    (λ (stops, unread). absurd (answer_none rest sort unread))
    (chosen (λ state. answer (run state rest) ≡ Some sort) (is_word_byte byte) _ _ is)

-- a comment, after `/`
slash_read : (rest : List ℕ) (sort : Option HoaKind) → answer (run (Some Slash) rest) ≡ Some sort → IsUnit sort (47 ∷ rest)
slash_read [] sort is = absurd (cc)
slash_read (byte ∷ rest) sort is = ⊎_elim
    (λ (star, more).
    let following = (comment_reads rest).comment 0 sort more in
    let comment : IsUnit None (47 ∷ byte ∷ rest) = inr (rest, ap (λ b. 47 ∷ b ∷ rest) (eqb-true byte 42 star), following.0) in
    subst (λ s. IsUnit s (47 ∷ byte ∷ rest)) (sym following.1) comment)
    (λ (stops, unread). absurd (answer_none rest sort unread))
    (chosen (λ state. answer (run state rest) ≡ Some sort) (byte == 42) _ _ is)

-- a mark, after two dashes and a byte
mark_reads : (kind : HoaKind) (byte value : ℕ) (rest : List ℕ) (sort : Option HoaKind) → 3 < length (spelling kind) → spelling kind ≡ 45 ∷ 45 ∷ value ∷ drop 3 (spelling kind)
    → ((text : List ℕ) → text ≡ spelling kind → IsUnit (Some kind) text)
    → (byte == value) ≡ true → answer (run (Some (Mark kind 3)) rest) ≡ Some sort → IsUnit sort (45 ∷ 45 ∷ byte ∷ rest)
mark_reads kind byte value rest sort inside is form same more =
    let following = mark_read kind 3 rest sort inside more in
    subst (λ s. IsUnit s (45 ∷ 45 ∷ byte ∷ rest)) (sym following.1)
    (form (45 ∷ 45 ∷ byte ∷ rest) ((λ i. 45 ∷ 45 ∷ eqb-true byte value same i ∷ following.0 i) ∙ sym is))

dashes_read : (rest : List ℕ) (sort : Option HoaKind) → answer (run (Some Dashes) rest) ≡ Some sort → IsUnit sort (45 ∷ 45 ∷ rest)
dashes_read [] sort is = absurd (cc)
dashes_read (byte ∷ rest) sort is = ⊎_elim
    (λ (same, more). mark_reads Body byte 66 rest sort (omega arith) refl (λ text written. written) same more)
    (λ (_, others). ⊎_elim
    (λ (same, more). mark_reads End byte 69 rest sort (omega arith) refl (λ text written. written) same more)
    (λ (_, last). ⊎_elim
    (λ (same, more). mark_reads Abort byte 65 rest sort (omega arith) refl (λ text written. written) same more)
    (λ (_, unread). absurd (answer_none rest sort unread))
    (chosen (λ state. answer (run state rest) ≡ Some sort) (byte == 65) _ _ last))
    (chosen (λ state. answer (run state rest) ≡ Some sort) (byte == 69) _ _ others))
    (chosen (λ state. answer (run state rest) ≡ Some sort) (byte == 66) _ _ is)

dash_read : (rest : List ℕ) (sort : Option HoaKind) → answer (run (Some Dash) rest) ≡ Some sort → IsUnit sort (45 ∷ rest)
dash_read [] sort is = absurd (cc)
dash_read (byte ∷ rest) sort is = ⊎_elim
    (λ (same, more). subst (λ b. IsUnit sort (45 ∷ b ∷ rest)) (sym (eqb-true byte 45 same)) (dashes_read rest sort more))
    (λ (_, unread). absurd (answer_none rest sort unread))
    (chosen (λ state. answer (run state rest) ≡ Some sort) (byte == 45) _ _ is)

-- what a byte begins
first_read : (byte : ℕ) (rest : List ℕ) → IsRead (first_mode byte) byte rest
first_read byte rest =
    let as_value : (value : ℕ) (state : Option Mode) → ((sort : Option HoaKind) → answer (run state rest) ≡ Some sort → IsUnit sort (value ∷ rest)) → (byte == value) ≡ true → IsRead state byte rest =
    λ value state reads same sort is. subst (λ b. IsUnit sort (b ∷ rest)) (sym (eqb-true byte value same)) (reads sort is) in
    reads_either byte rest (is_white byte) _ _ (white_read byte rest) (λ _.
    reads_either byte rest (is_letter byte) _ _ (letter_read byte rest) (λ _.
    reads_either byte rest (is_digit byte) _ _ (digit_read byte rest) (λ _.
    reads_either byte rest (byte == 34) _ _ (λ same. quote_read byte rest (eqb-true byte 34 same)) (λ _.
    reads_either byte rest (byte == 64) _ _ (as_value 64 (Some At) (at_read rest)) (λ _.
    reads_either byte rest (byte == 45) _ _ (as_value 45 (Some Dash) (dash_read rest)) (λ _.
    reads_either byte rest (byte == 47) _ _ (as_value 47 (Some Slash) (slash_read rest)) (λ _.
    signs_read byte rest)))))))

-- what is read as a unit is one
pub unit_read : (text : List ℕ) (sort : Option HoaKind) → answer (run (Some Start) text) ≡ Some sort → IsUnit sort text
unit_read [] sort is = absurd (cc)
unit_read (byte ∷ rest) sort is = first_read byte rest sort is
