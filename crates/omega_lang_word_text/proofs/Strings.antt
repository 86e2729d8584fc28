-- The names of a word are strings.
use Rattle.std.proofs.Common.{◌≡◌, ◌≢◌, ℕ, ◌+◌, ◌-◌, Bool, true, false, not, List, [], ◌∷◌, ◌++◌, length, take, Option, None, Some, refl, sym, ap, ◌∙◌, subst, arith, if◌then◌else◌, length-append}
use Rattle.std.specs.List.{AllByRecursion, cons_option, filter_map, list_all, list_any}
use Rattle.std.specs.Str.{bytes_eq}
use Rattle.std.proofs.lemmas.Bool.{and_parts, false≢true}
use Rattle.std.proofs.Math.Seq.{take-append_seam}
use Rattle.indexmap.specs.IndexSet.{insert_all, insert_key}
use Rattle.omega_hoa_edges.specs.Names.{goes_on, is_identifier}
use Rattle.omega_lang_lasso_word.specs.Names.{is_reserved, stands_bare}
use Rattle.omega_text.specs.Bytes.{is_letter}
use Rattle.omega_text.specs.Cut.{Cuts}
use Rattle.omega_text.specs.Forms.{between_quotes}
use Rattle.omega_text.specs.Lexeme.{Lexeme}
use Rattle.omega_text.specs.declared.hoa.kind.HoaKind.{HoaKind}
use Rattle.omega_text.specs.declared.hoa.kind.HoaKind.TheVariants as kind
use Rattle.omega_text.specs.hoa.Forms.{IsQuotable, IsString, Spells, empty, plain}
use Rattle.omega_lang_word_text.specs.Cut.{Follows, semicolon, semicolon_at, token, word_format}
use Rattle.omega_lang_word_text.specs.Laws.{NamesAreStrings}
use Rattle.omega_lang_word_text.specs.Reading.{name_in, name_of}

-- letters, underscores and digits are quotable
rest_quotable : (bytes : List ℕ) → list_all goes_on bytes ≡ true → IsQuotable bytes
rest_quotable [] is = empty
rest_quotable (byte ∷ bytes) is =
    let parts = and_parts (goes_on byte) (list_all goes_on bytes) is in
    plain byte bytes (λ e. false≢true (ap goes_on (sym e) ∙ parts.0)) (λ e. false≢true (ap goes_on (sym e) ∙ parts.0)) (rest_quotable bytes parts.1)

identifier_quotable : (name : List ℕ) → is_identifier name ≡ true → IsQuotable name
identifier_quotable [] is = absurd (false≢true is)
identifier_quotable (byte ∷ bytes) is =
    let parts = and_parts (is_letter byte) (list_all goes_on bytes) is in
    plain byte bytes (λ e. false≢true (ap is_letter (sym e) ∙ parts.0)) (λ e. false≢true (ap is_letter (sym e) ∙ parts.0)) (rest_quotable bytes parts.1)

-- what stands between the quotes of a string
pub between : (inside : List ℕ) → between_quotes (34 ∷ (inside ++ 34 ∷ [])) ≡ inside
between inside =
    let size : length (34 ∷ (inside ++ 34 ∷ [])) - 2 ≡ length inside = omega (arith, length-append inside (34 ∷ [])) in
    ap (λ n. take n (inside ++ 34 ∷ [])) size ∙ take-append_seam inside (34 ∷ [])

-- a name, if any, is a string
abbrev IfNamed : Option (List ℕ) → Type 0
IfNamed None = Unit {0}
IfNamed (Some name) = IsQuotable name

bare_named : (text : List ℕ) (bare : Bool) → stands_bare text ≡ bare → IfNamed (if bare then Some text else None)
bare_named text true is = identifier_quotable text (and_parts (is_identifier text) (not (is_reserved text)) is).0
bare_named text false is = tt

spelled_named : (sort : HoaKind) (value : ℕ) (text : List ℕ) → Spells sort value text → IfNamed (name_in sort text)
spelled_named kind.Identifier value text spells = bare_named text (stands_bare text) refl
spelled_named kind.String value text spells =
    let string : IsString text = spells.1 in
    subst IsQuotable (sym (ap between_quotes string.1 ∙ between string.0)) string.2
spelled_named other value text spells = tt

token_named : (source : List ℕ) (from : ℕ) (lexeme : Lexeme HoaKind) → Follows source from lexeme → IfNamed (name_of lexeme)
token_named source from lexeme (token follows) = spelled_named lexeme.kind lexeme.value lexeme.text follows.spells
token_named source from lexeme (semicolon place has is) = subst (λ (l : Lexeme HoaKind). IfNamed (name_of l)) (sym is) tt

cons_named : (name : Option (List ℕ)) (rest : List (List ℕ)) → IfNamed name → AllByRecursion IsQuotable rest → AllByRecursion IsQuotable (cons_option name rest)
cons_named None rest named all = all
cons_named (Some name) rest named all = (named, all)

tokens_named : (source : List ℕ) (from to : ℕ) (own : List (Lexeme HoaKind)) → Cuts word_format source from own to → AllByRecursion IsQuotable (filter_map name_of own)
tokens_named source from to [] cuts = tt
tokens_named source from to (lexeme ∷ own) cuts =
    cons_named (name_of lexeme) (filter_map name_of own) (token_named source from lexeme cuts.0) (tokens_named source lexeme.span.end to own cuts.1)

all_push : (names : List (List ℕ)) (name : List ℕ) → AllByRecursion IsQuotable names → IsQuotable name → AllByRecursion IsQuotable (names ++ name ∷ [])
all_push [] name all is = (is, tt)
all_push (first ∷ names) name all is = (all.0, all_push names name all.1 is)

one_inserted : (names : List (List ℕ)) (name : List ℕ) (there : Bool) → AllByRecursion IsQuotable names → IsQuotable name
    → AllByRecursion IsQuotable (if there then names else names ++ name ∷ [])
one_inserted names name true all is = all
one_inserted names name false all is = all_push names name all is

all_inserted : (names more : List (List ℕ)) → AllByRecursion IsQuotable names → AllByRecursion IsQuotable more → AllByRecursion IsQuotable (insert_all bytes_eq names more)
all_inserted names [] all is = all
all_inserted names (name ∷ more) all is =
    all_inserted (insert_key bytes_eq names name) more (one_inserted names name (list_any (bytes_eq name) names) all is.0) is.1

-- the names of a word that a text says are strings
pub names_are_strings : NamesAreStrings
names_are_strings source word is =
    subst (AllByRecursion IsQuotable) (sym is.read.names_are)
    (all_inserted [] (filter_map name_of is.read.own) tt (tokens_named source 0 is.read.cut.end is.read.own is.read.cut.cuts))
