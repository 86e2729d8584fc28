-- A text says at most one word, and none that says a word has a refusal.
use Rattle.std.proofs.Common.{◌≡◌, ℕ, zero, suc, ◌+◌, ◌<◌, ◌≤◌, ◌⊎◌, ⊎_elim, inl, inr, Bool, true, false, ◌||◌, ◌==◌, List, [], ◌∷◌, ◌++◌, length, map, Option, None, Some, codes, refl, sym, ap, ◌∙◌, subst, arith, append_assoc, if◌then◌else◌}
use Rattle.std.specs.List.{AllZip, filter_map, list_any, slice_get}
use Rattle.std.specs.Str.{bytes_eq}
use Rattle.std.proofs.lemmas.Bool.{false≢true}
use Rattle.std.proofs.lemmas.Slice.Eq.{bytes_eq-Decides}
use Rattle.indexmap.specs.IndexSet.{insert_all, insert_key}
use Rattle.omega_hoa_expression.specs.Symbols.{EndsThere, ExpressionSymbol, expression_symbol_of, number, seen_as, sign}
use Rattle.omega_hoa_expression.proofs.UnreadLemmas.{agree_same}
use Rattle.omega_hoa_label.specs.Raw.{RawLabelTree}
use Rattle.omega_hoa_label_text.specs.Reading.{LabelsAreOne, Reads, label_symbols}
use Rattle.omega_lang_lasso_word.specs.declared.symbolic_word.SymbolicWord.{SymbolicWord}
use Rattle.omega_text.specs.Cut.{CutsAreOne, CutsHaveNoFault}
use Rattle.omega_text.specs.Format.{GoesOneWay}
use Rattle.omega_text.specs.Lexeme.{Lexeme}
use Rattle.omega_text.specs.declared.hoa.kind.HoaKind.{HoaKind}
use Rattle.omega_text.specs.declared.hoa.kind.HoaKind.TheVariants as kind
use Rattle.omega_text.specs.declared.refusal.Refusal.{Refusal}
use Rattle.omega_text.specs.declared.refusal.Refusal.TheVariants.{Automaton, Circuit, Game, Io, Memory, Task, Text}
use Rattle.omega_text.specs.declared.refusal.text.TextFault.TheVariants.{Lex, Number, Syntax, TooLong}
use Rattle.omega_text.proofs.formats.Stops.{not_both, one_cut}
use Rattle.omega_lang_word_text.specs.Cut.{word_format}
use Rattle.omega_lang_word_text.specs.Grammar.{ReadsNoWord, ReadsWord, cycle_symbols, other_symbols, stem_symbols, word_symbols}
use Rattle.omega_lang_word_text.specs.Laws.{WordsAreNotRefused, WordsOfTextsAreOne}
use Rattle.omega_lang_word_text.specs.Reading.{IsReadAs, StandsFor, kind_as, name_of, names_of, number_as, word_as}
use Rattle.omega_lang_word_text.specs.Text.{IsReadText, IsWordText}
use Rattle.omega_lang_word_text.specs.private.Parts.{ReadsBraced, ReadsCycle, ReadsOthers}
use Rattle.omega_lang_word_text.proofs.Following.{Tokens}
use Rattle.omega_lang_word_text.proofs.Spelled.{braced_first, cycle_first, others_first, regroup, word_first, word_only}
use Rattle.omega_lang_word_text.proofs.Splitting.{begins_with, ends_at_mark, splits}

abbrev Names : Type 0
Names = List (List ℕ)

-- no two places have one name
abbrev AreDistinct : Names → Type 0
AreDistinct names = (i j : ℕ) (name : List ℕ) → slice_get names i ≡ Some name → slice_get names j ≡ Some name → i ≡ j

nothing_there : {A : Type 0} {X : Type 0} (x : X) → ◌≡◌ {A = Option X} None (Some x) → A
nothing_there x e = absurd (let f : None ≡ Some x = e in cc)

same_there : {X : Type 0} (x y : X) → Some x ≡ Some y → x ≡ y
same_there x y e = cc

or_true : (a b : Bool) → b ≡ true → (a || b) ≡ true
or_true true b e = refl
or_true false b e = e

found_any : (names : Names) (i : ℕ) (name : List ℕ) → slice_get names i ≡ Some name → list_any (bytes_eq name) names ≡ true
found_any [] i name is = nothing_there name is
found_any (x ∷ names) zero name is =
    ap (λ (b : Bool). b || list_any (bytes_eq name) names) ((bytes_eq-Decides name x).1 (sym (same_there x name is)))
found_any (x ∷ names) (suc i) name is = or_true (bytes_eq name x) (list_any (bytes_eq name) names) (found_any names i name is)

pushed : (names : Names) (last : List ℕ) (i : ℕ) (name : List ℕ) → slice_get (names ++ last ∷ []) i ≡ Some name
    → (slice_get names i ≡ Some name) ⊎ ((i ≡ length names) × (last ≡ name))
pushed [] last zero name is = inr (refl, same_there last name is)
pushed [] last (suc i) name is = nothing_there name is
pushed (x ∷ names) last zero name is = inl is
pushed (x ∷ names) last (suc i) name is = ⊎_elim (λ h. inl h) (λ h. inr (ap suc h.0, h.1)) (pushed names last i name is)

module _ (names : Names) (last : List ℕ) (distinct : AreDistinct names) where
  new_there : {A : Type 0} (i : ℕ) (name : List ℕ) → list_any (bytes_eq last) names ≡ false → slice_get names i ≡ Some name → last ≡ name → A
  new_there i name new there same =
      absurd (false≢true (sym new ∙ found_any names i last (there ∙ ap Some (sym same))))

  distinct_push : list_any (bytes_eq last) names ≡ false → AreDistinct (names ++ last ∷ [])
  distinct_push new i j name first second = ⊎_elim
      (λ h. ⊎_elim (λ k. distinct i j name h k) (λ k. new_there i name new h k.1) (pushed names last j name second))
      (λ h. ⊎_elim (λ k. new_there j name new k h.1) (λ k. h.0 ∙ sym k.0) (pushed names last j name second))
      (pushed names last i name first)

  distinct_more : (there : Bool) → list_any (bytes_eq last) names ≡ there → AreDistinct (if there then names else names ++ last ∷ [])
  distinct_more true is = distinct
  distinct_more false is = distinct_push is

distinct_all : (names more : Names) → AreDistinct names → AreDistinct (insert_all bytes_eq names more)
distinct_all names [] distinct = distinct
distinct_all names (name ∷ more) distinct =
    distinct_all (insert_key bytes_eq names name) more (distinct_more names name distinct (list_any (bytes_eq name) names) refl)

names_distinct : (own : Tokens) → AreDistinct (names_of own)
names_distinct own = distinct_all [] (filter_map name_of own) (λ i j name first second. nothing_there name first)

-- what no name is, is read as a sign
word_sign : (a b : Bool) (value : ℕ) (text : List ℕ)
    → seen_as (if a then kind.End else (if b then kind.Body else kind.Abort)) value text ≡ sign (if a then kind.End else (if b then kind.Body else kind.Abort))
word_sign true b value text = refl
word_sign false true value text = refl
word_sign false false value text = refl

number_sign : (a b : Bool) (value : ℕ) (text : List ℕ)
    → seen_as (if a then kind.False else (if b then kind.True else kind.Abort)) value text ≡ sign (if a then kind.False else (if b then kind.True else kind.Abort))
number_sign true b value text = refl
number_sign false true value text = refl
number_sign false false value text = refl

plain_sign : (sort : HoaKind) (own : ℕ) (bytes : List ℕ) (value : ℕ) (text : List ℕ) → seen_as (kind_as sort own bytes) value text ≡ sign (kind_as sort own bytes)
plain_sign kind.Identifier own bytes value text = word_sign (bytes_eq bytes (codes ";")) (bytes_eq bytes (codes "cycle")) value text
plain_sign kind.Int own bytes value text = number_sign (own == 0) (own == 1) value text
plain_sign other own bytes value text = refl

module _ (names : Names) (distinct : AreDistinct names) where
  same_symbol : (found : Option (List ℕ)) (own one other : Lexeme HoaKind) → StandsFor names found own one → StandsFor names found own other
      → expression_symbol_of one ≡ expression_symbol_of other
  same_symbol None own one other first second =
      ap (λ (k : HoaKind). seen_as k one.value one.text) first
      ∙ (plain_sign own.kind own.value own.text one.value one.text
      ∙ (sym (plain_sign own.kind own.value own.text other.value other.text) ∙ ap (λ (k : HoaKind). seen_as k other.value other.text) (sym second)))
  same_symbol (Some name) own one other first second =
      ap (λ (k : HoaKind). seen_as k one.value one.text) first.0
      ∙ (ap number (distinct one.value other.value name first.1 second.1) ∙ ap (λ (k : HoaKind). seen_as k other.value other.text) (sym second.0))

  same_symbols : (own one other : Tokens) → AllZip (IsReadAs names) own one → AllZip (IsReadAs names) own other → map expression_symbol_of one ≡ map expression_symbol_of other
  same_symbols [] [] [] first second = refl
  same_symbols [] [] (z ∷ zs) first second = absurd second
  same_symbols [] (y ∷ ys) other first second = absurd first
  same_symbols (x ∷ xs) [] other first second = absurd first
  same_symbols (x ∷ xs) (y ∷ ys) [] first second = absurd second
  same_symbols (x ∷ xs) (y ∷ ys) (z ∷ zs) first second =
      λ i. same_symbol (name_of x) x y z first.0.stands second.0.stands i ∷ same_symbols xs ys zs first.1 second.1 i

-- the tokens of a text are read as the same symbols
module _ (exact : GoesOneWay word_format) (source : List ℕ) where
  same_names : (one other : Names) (first second : Tokens) → IsReadText source one first → IsReadText source other second → one ≡ other
  same_names one other first second read too =
      read.names_are ∙ (ap names_of (one_cut word_format exact source read.own too.own read.cut too.cut) ∙ sym too.names_are)

  same_read : (one other : Names) (first second : Tokens) → IsReadText source one first → IsReadText source other second → map expression_symbol_of first ≡ map expression_symbol_of second
  same_read one other first second read too =
      let own : read.own ≡ too.own = one_cut word_format exact source read.own too.own read.cut too.cut in
      let names : names_of read.own ≡ names_of too.own = ap names_of own in
      same_symbols (names_of too.own) (names_distinct too.own) too.own first second
      (subst (λ (n : Names). AllZip (IsReadAs n) too.own first) (read.names_are ∙ names) (subst (λ (o : Tokens). AllZip (IsReadAs one) o first) own read.as_read))
      (subst (λ (n : Names). AllZip (IsReadAs n) too.own second) too.names_are too.as_read)

-- a word of the same symbols
same_word : (one other : Tokens) (stem around : List RawLabelTree) → map expression_symbol_of one ≡ map expression_symbol_of other → ReadsWord other stem around → ReadsWord one stem around
same_word one other stem around same reads = record { spells = same ∙ reads.spells; stem_is = reads.stem_is; cycle_is = reads.cycle_is; longer = reads.longer }

-- no refusal of a text that says a word
pub words_are_not_refused : GoesOneWay word_format → WordsAreNotRefused
words_are_not_refused exact source word (Text (Lex at)) is refused = not_both word_format exact source is.read.own (Lex at) is.read.cut refused.1
words_are_not_refused exact source word (Text (Number at)) is refused = not_both word_format exact source is.read.own (Number at) is.read.cut refused.1
words_are_not_refused exact source word (Text (Syntax at)) is refused =
    let wrong = refused.1 in
    let unread = wrong.unread in
    let same = same_read exact source wrong.names word.names wrong.tokens is.tokens wrong.read is.read in
    subst ReadsNoWord (sym unread.split) (unread.unread unread.left (agree_same unread.left)) word.stem (word.first ∷ word.others)
    (same_word wrong.tokens is.tokens word.stem (word.first ∷ word.others) same is.reads)
words_are_not_refused exact source word (Text TooLong) is refused = (let short = is.short in omega (arith, refused))
words_are_not_refused exact source word (Game fault) is refused = refused
words_are_not_refused exact source word (Circuit fault) is refused = refused
words_are_not_refused exact source word (Automaton fault) is refused = refused
words_are_not_refused exact source word (Task fault) is refused = refused
words_are_not_refused exact source word Memory is refused = refused
words_are_not_refused exact source word Io is refused = refused

tail_is : {A : Type 0} (x y : A) (xs ys : List A) → x ∷ xs ≡ y ∷ ys → xs ≡ ys
tail_is x y xs ys e = cc

head_is : {A : Type 0} (x y : A) (xs ys : List A) → x ∷ xs ≡ y ∷ ys → x ≡ y
head_is x y xs ys e = cc

others_end : (rest : Tokens) (others : List RawLabelTree) → map expression_symbol_of rest ≡ other_symbols others ++ sign kind.CloseBrace ∷ [] → EndsThere rest
others_end rest [] is = ends_at_mark rest kind.CloseBrace [] tt is
others_end rest (first ∷ others) is = ends_at_mark rest kind.End _ tt is

-- the first letter of a cycle is read, and that of a stem
cycle_letter : (tokens : Tokens) (letter : RawLabelTree) (others : List RawLabelTree) → ReadsCycle tokens (letter ∷ others) → (rest : Tokens) × Reads tokens letter rest
cycle_letter tokens letter others reads =
    let parts = splits tokens (label_symbols letter) (other_symbols others ++ sign kind.CloseBrace ∷ [])
    (reads.spells ∙ append_assoc (label_symbols letter) (other_symbols others) (sign kind.CloseBrace ∷ [])) in
    (parts.rest, record { front = parts.front; split = parts.split; spells = parts.front_is; is = reads.is.0; ends = others_end parts.rest others parts.rest_is })

stem_letter : (tokens : Tokens) (letter : RawLabelTree) (stem around : List RawLabelTree) → ReadsWord tokens (letter ∷ stem) around → (rest : Tokens) × Reads tokens letter rest
stem_letter tokens letter stem around reads =
    let parts = splits tokens (label_symbols letter) (sign kind.End ∷ word_symbols stem around)
    (reads.spells ∙ regroup (label_symbols letter) (sign kind.End) (stem_symbols stem) (sign kind.Body ∷ sign kind.OpenBrace ∷ (cycle_symbols around ++ sign kind.CloseBrace ∷ []))) in
    (parts.rest, record { front = parts.front; split = parts.split; spells = parts.front_is; is = reads.stem_is.0; ends = ends_at_mark parts.rest kind.End _ tt parts.rest_is })

module _ (one : LabelsAreOne) where
  -- further letters are one
  others_same : (tokens : Tokens) (first second : List RawLabelTree) → ReadsOthers tokens first → ReadsOthers tokens second → first ≡ second
  others_same tokens [] [] left right = refl
  others_same tokens [] (y ∷ ys) left right =
      let close = begins_with tokens kind.CloseBrace [] left.spells in
      let end = begins_with tokens kind.End _ right.spells in
      let same : close.first ≡ end.first = head_is close.first end.first close.rest end.rest (sym close.split ∙ end.split) in
      absurd (let clash : kind.CloseBrace ≡ kind.End = sym close.is ∙ (ap (λ (l : Lexeme HoaKind). l.kind) same ∙ end.is) in cc)
  others_same tokens (x ∷ xs) [] left right =
      let end = begins_with tokens kind.End _ left.spells in
      let close = begins_with tokens kind.CloseBrace [] right.spells in
      let same : close.first ≡ end.first = head_is close.first end.first close.rest end.rest (sym close.split ∙ end.split) in
      absurd (let clash : kind.CloseBrace ≡ kind.End = sym close.is ∙ (ap (λ (l : Lexeme HoaKind). l.kind) same ∙ end.is) in cc)
  others_same tokens (x ∷ xs) (y ∷ ys) left right =
      let end = begins_with tokens kind.End _ left.spells in
      let here = others_first end.first end.rest (x ∷ xs) end.is (subst (λ (t : Tokens). ReadsOthers t (x ∷ xs)) end.split left) in
      let there = others_first end.first end.rest (y ∷ ys) end.is (subst (λ (t : Tokens). ReadsOthers t (y ∷ ys)) end.split right) in
      let letter = cycle_letter end.rest x xs here in
      let own = cycle_first one end.rest letter.0 x (x ∷ xs) letter.1 here in
      let other = cycle_first one end.rest letter.0 x (y ∷ ys) letter.1 there in
      let rest = others_same letter.0 xs other.0 (subst (ReadsOthers letter.0) (sym (tail_is x x xs own.0 own.1)) own.2) other.2 in
      ap (λ (l : List RawLabelTree). x ∷ l) rest ∙ sym other.1

  -- cycles are one
  cycles_same : (tokens : Tokens) (first second : List RawLabelTree) → ReadsCycle tokens first → ReadsCycle tokens second → first ≡ second
  cycles_same tokens [] second left right = absurd (let l = left.longer in omega arith)
  cycles_same tokens (x ∷ xs) second left right =
      let letter = cycle_letter tokens x xs left in
      let own = cycle_first one tokens letter.0 x (x ∷ xs) letter.1 left in
      let other = cycle_first one tokens letter.0 x second letter.1 right in
      own.1 ∙ (ap (λ (l : List RawLabelTree). x ∷ l) (others_same letter.0 own.0 other.0 own.2 other.2) ∙ sym other.1)

  no_letter : (tokens : Tokens) (y : RawLabelTree) (ys left right : List RawLabelTree) → ReadsWord tokens [] left → ReadsWord tokens (y ∷ ys) right → ⊥
  no_letter tokens y ys left right first second =
      let letter = stem_letter tokens y ys right second in
      let found = word_first one tokens letter.0 y [] left letter.1 first in
      let e : [] ≡ y ∷ found.0 = found.3 in
      cc

  -- words are one
  words_same : (tokens : Tokens) (first second left right : List RawLabelTree) → ReadsWord tokens first left → ReadsWord tokens second right → (first ≡ second) × (left ≡ right)
  words_same tokens [] [] left right reads too =
      let next = begins_with tokens kind.Body _ reads.spells in
      let here = word_only next.first next.rest [] left next.is (subst (λ (t : Tokens). ReadsWord t [] left) next.split reads) in
      let there = word_only next.first next.rest [] right next.is (subst (λ (t : Tokens). ReadsWord t [] right) next.split too) in
      let brace = begins_with next.rest kind.OpenBrace _ here.spells in (
        refl,
        cycles_same brace.rest left right
            (braced_first brace.first brace.rest left (subst (λ (t : Tokens). ReadsBraced t left) brace.split here))
            (braced_first brace.first brace.rest right (subst (λ (t : Tokens). ReadsBraced t right) brace.split there)),
      )
  words_same tokens [] (y ∷ ys) left right reads too = absurd (no_letter tokens y ys left right reads too)
  words_same tokens (x ∷ xs) second left right reads too =
      let letter = stem_letter tokens x xs left reads in
      let own = word_first one tokens letter.0 x (x ∷ xs) left letter.1 reads in
      let other = word_first one tokens letter.0 x second right letter.1 too in
      let following : own.1 ≡ other.1 = tail_is own.2 other.2 own.1 other.1 (sym own.4 ∙ other.4) in
      let rest = words_same own.1 xs other.0 left right
      (subst (λ (s : List RawLabelTree). ReadsWord own.1 s left) (sym (tail_is x x xs own.0 own.3)) own.6)
      (subst (λ (t : Tokens). ReadsWord t other.0 right) (sym following) other.6) in
      (ap (λ (s : List RawLabelTree). x ∷ s) rest.0 ∙ sym other.3, rest.1)

  -- a text says at most one word
  pub words_of_texts_are_one : GoesOneWay word_format → WordsOfTextsAreOne
  words_of_texts_are_one exact source first second is too =
      let names = same_names exact source first.names second.names is.tokens too.tokens is.read too.read in
      let symbols = same_read exact source first.names second.names is.tokens too.tokens is.read too.read in
      let same = words_same is.tokens first.stem second.stem (first.first ∷ first.others) (second.first ∷ second.others) is.reads
      (same_word is.tokens too.tokens second.stem (second.first ∷ second.others) symbols too.reads) in
      let letter = head_is first.first second.first first.others second.others same.1 in
      let others = tail_is first.first second.first first.others second.others same.1 in
      λ i. record { names = names i; stem = same.0 i; first = letter i; others = others i }
