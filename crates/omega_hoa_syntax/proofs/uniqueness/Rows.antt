-- Tokens begin with at most one of each row, for a token, a list or a part that may be there.
use Rattle.std.proofs.Common.{◌≡◌, Bool, true, false, List, [], ◌∷◌, Option, Some, None, refl, ap, ◌∙◌, subst}
use Rattle.std.specs.Prelude.{IfSome}
use Rattle.std.specs.List.{AllByRecursion}
use Rattle.omega_hoa_acceptance.specs.declared.name.Parameter.{Parameter}
use Rattle.omega_hoa_acceptance.specs.declared.name.Parameter.TheVariants as parameter
use Rattle.omega_hoa_syntax.proofs.PartLemmas.{IsPart, follows_part}
use Rattle.omega_hoa_syntax.proofs.SpellingLemmas.{first_then, next_clash, next_is, next_may}
use Rattle.omega_hoa_syntax.proofs.uniqueness.Tokens.{Both, IsToken, token_one}
use Rattle.omega_hoa_syntax.specs.Grammar.{each, int_row, optional_row, parameter_row, string_row, value_row, word_row}
use Rattle.omega_hoa_syntax.specs.private.steps.Reading.{EndsList, IsAny}
use Rattle.omega_hoa_syntax.specs.Symbols.{ReadsSymbols, AutomatonSymbol, Tokens, number, sign, text, word}
use Rattle.omega_hoa_syntax.specs.First.{FirstIs}
use Rattle.omega_hoa_syntax.specs.declared.header_value.HeaderValue.{HeaderValue}
use Rattle.omega_hoa_syntax.specs.declared.header_value.HeaderValue.TheVariants as value
use Rattle.omega_text.specs.declared.hoa.kind.HoaKind.{HoaKind}
use Rattle.omega_text.specs.declared.hoa.kind.HoaKind.TheVariants as kind

-- tokens begin with at most one of this row, if such symbols follow
abbrev pub IsOne : {X : Type 0} → (X → Type 0) → (X → List AutomatonSymbol → List AutomatonSymbol) → (List AutomatonSymbol → Type 0) → Type 0
IsOne {X} Is row Follow = (tokens : Tokens) (x y : X) (others more : List AutomatonSymbol) (rest left : Tokens) → Is x → Is y → Follow others → Follow more
    → ReadsSymbols tokens (row x others) rest → ReadsSymbols tokens (row y more) left → (x ≡ y) × Both others more rest left

-- a row that is one token, which says its value
token_row : {X : Type 0} (row : X → List AutomatonSymbol → List AutomatonSymbol) (symbol : X → AutomatonSymbol) (Follow : List AutomatonSymbol → Type 0) → ((it : X) (others : List AutomatonSymbol) → row it others ≡ symbol it ∷ others)
    → ((it : X) → IsToken (symbol it)) → ((x y : X) → symbol x ≡ symbol y → x ≡ y) → IsOne IsAny row Follow
token_row row symbol Follow is token one tokens x y others more rest left _ _ _ _ spells reads =
    let both = token_one (symbol x) (symbol y) tokens others more rest left (token x) (token y)
    (subst (λ all. ReadsSymbols tokens all rest) (is x others) spells) (subst (λ all. ReadsSymbols tokens all left) (is y more) reads) in
    (one x y both.0, both.1)

pub int_one : (Follow : List AutomatonSymbol → Type 0) → IsOne IsAny int_row Follow
int_one Follow = token_row int_row number Follow (λ it others. refl) (λ it. tt) (λ x y same. cc)

pub string_one : (Follow : List AutomatonSymbol → Type 0) → IsOne IsAny string_row Follow
string_one Follow = token_row string_row text Follow (λ it others. refl) (λ it. tt) (λ x y same. cc)

pub word_one : (Follow : List AutomatonSymbol → Type 0) → IsOne IsAny word_row Follow
word_one Follow = token_row word_row word Follow (λ it others. refl) (λ it. tt) (λ x y same. cc)

-- the symbol of a BOOLEAN
abbrev boolean_symbol : Bool → AutomatonSymbol
boolean_symbol true = sign kind.True
boolean_symbol false = sign kind.False

boolean_token : (is : Bool) → IsToken (boolean_symbol is)
boolean_token true = λ lexeme. refl
boolean_token false = λ lexeme. refl

-- the symbol of a parameter of `acc-name:`
abbrev parameter_symbol : Parameter → AutomatonSymbol
parameter_symbol (parameter.Boolean is) = boolean_symbol is
parameter_symbol (parameter.Number n) = number n
parameter_symbol (parameter.Word bytes) = word bytes

parameter_is : (it : Parameter) (others : List AutomatonSymbol) → parameter_row it others ≡ parameter_symbol it ∷ others
parameter_is (parameter.Boolean true) others = refl
parameter_is (parameter.Boolean false) others = refl
parameter_is (parameter.Number n) others = refl
parameter_is (parameter.Word bytes) others = refl

parameter_token : (it : Parameter) → IsToken (parameter_symbol it)
parameter_token (parameter.Boolean is) = boolean_token is
parameter_token (parameter.Number n) = tt
parameter_token (parameter.Word bytes) = tt

parameter_same : (x y : Parameter) → parameter_symbol x ≡ parameter_symbol y → x ≡ y
parameter_same (parameter.Boolean true) (parameter.Boolean true) same = refl
parameter_same (parameter.Boolean true) other same = cc
parameter_same (parameter.Boolean false) (parameter.Boolean false) same = refl
parameter_same (parameter.Boolean false) other same = cc
parameter_same (parameter.Number n) (parameter.Boolean true) same = cc
parameter_same (parameter.Number n) other same = cc
parameter_same (parameter.Word bytes) (parameter.Boolean true) same = cc
parameter_same (parameter.Word bytes) other same = cc

pub parameter_one : (Follow : List AutomatonSymbol → Type 0) → IsOne IsAny parameter_row Follow
parameter_one Follow = token_row parameter_row parameter_symbol Follow parameter_is parameter_token parameter_same

-- the symbol of a value of an unknown header
abbrev value_symbol : HeaderValue → AutomatonSymbol
value_symbol (value.Boolean is) = boolean_symbol is
value_symbol (value.Number n) = number n
value_symbol (value.Text bytes) = text bytes
value_symbol (value.Word bytes) = word bytes

value_is : (it : HeaderValue) (others : List AutomatonSymbol) → value_row it others ≡ value_symbol it ∷ others
value_is (value.Boolean true) others = refl
value_is (value.Boolean false) others = refl
value_is (value.Number n) others = refl
value_is (value.Text bytes) others = refl
value_is (value.Word bytes) others = refl

value_token : (it : HeaderValue) → IsToken (value_symbol it)
value_token (value.Boolean is) = boolean_token is
value_token (value.Number n) = tt
value_token (value.Text bytes) = tt
value_token (value.Word bytes) = tt

value_same : (x y : HeaderValue) → value_symbol x ≡ value_symbol y → x ≡ y
value_same (value.Boolean true) (value.Boolean true) same = refl
value_same (value.Boolean true) other same = cc
value_same (value.Boolean false) (value.Boolean false) same = refl
value_same (value.Boolean false) other same = cc
value_same (value.Number n) (value.Boolean true) same = cc
value_same (value.Number n) other same = cc
value_same (value.Text bytes) (value.Boolean true) same = cc
value_same (value.Text bytes) other same = cc
value_same (value.Word bytes) (value.Boolean true) same = cc
value_same (value.Word bytes) other same = cc

pub value_one : (Follow : List AutomatonSymbol → Type 0) → IsOne IsAny value_row Follow
value_one Follow = token_row value_row value_symbol Follow value_is value_token value_same

-- where parts end none begins
no_part : (begins : HoaKind → Bool) (May : HoaKind → Type 0) (symbols others : List AutomatonSymbol) (tokens rest left : Tokens) → FirstIs (λ kind. begins kind ≡ true) symbols
    → FirstIs (EndsList begins May) others → ReadsSymbols tokens symbols rest → ReadsSymbols tokens others left → ⊥
no_part begins May symbols others tokens rest left begun last spells reads =
    next_clash begins tokens (next_is (λ kind. begins kind ≡ true) symbols tokens rest begun spells)
    (next_may (λ kind. begins kind ≡ false) tokens (next_is (λ kind. begins kind ≡ false) others tokens left (first_then (EndsList begins May) (λ kind. begins kind ≡ false) others (λ kind holds. holds.0) last) reads))

-- as many parts as follow
pub each_one : {X : Type 0} (Is : X → Type 0) (row : X → List AutomatonSymbol → List AutomatonSymbol) (begins : HoaKind → Bool) (May : HoaKind → Type 0) → IsPart Is row begins May → IsOne Is row (FirstIs May)
    → (tokens : Tokens) (x y : List X) (others more : List AutomatonSymbol) (rest left : Tokens) → AllByRecursion Is x → AllByRecursion Is y
    → FirstIs (EndsList begins May) others → FirstIs (EndsList begins May) more → ReadsSymbols tokens (each row x others) rest → ReadsSymbols tokens (each row y more) left
    → (x ≡ y) × Both others more rest left
each_one Is row begins May part one tokens [] [] others more rest left are all ends last spells reads = (refl, record { middle = tokens; one = spells; other = reads })
each_one Is row begins May part one tokens [] (y ∷ ys) others more rest left are all ends last spells reads =
    absurd (no_part begins May (row y (each row ys more)) others tokens left rest (part.begun y (each row ys more) all.0) ends reads spells)
each_one Is row begins May part one tokens (x ∷ xs) [] others more rest left are all ends last spells reads =
    absurd (no_part begins May (row x (each row xs others)) more tokens rest left (part.begun x (each row xs others) are.0) last spells reads)
each_one Is row begins May part one tokens (x ∷ xs) (y ∷ ys) others more rest left are all ends last spells reads =
    let first = one tokens x y (each row xs others) (each row ys more) rest left are.0 all.0
    (follows_part Is row begins May part xs others are.1 ends) (follows_part Is row begins May part ys more all.1 last) spells reads in
    let rests = each_one Is row begins May part one first.1.middle xs ys others more rest left are.1 all.1 ends last first.1.one first.1.other in
    (ap (λ it. it ∷ xs) first.0 ∙ ap (λ all. y ∷ all) rests.0, rests.1)

-- a part if it follows
pub optional_one : {X : Type 0} (Is : X → Type 0) (row : X → List AutomatonSymbol → List AutomatonSymbol) (begins : HoaKind → Bool) (May : HoaKind → Type 0) → IsPart Is row begins May → IsOne Is row (FirstIs May)
    → (tokens : Tokens) (x y : Option X) (others more : List AutomatonSymbol) (rest left : Tokens) → IfSome x Is → IfSome y Is
    → FirstIs (EndsList begins May) others → FirstIs (EndsList begins May) more → ReadsSymbols tokens (optional_row row x others) rest → ReadsSymbols tokens (optional_row row y more) left
    → (x ≡ y) × Both others more rest left
optional_one Is row begins May part one tokens None None others more rest left is so ends last spells reads = (refl, record { middle = tokens; one = spells; other = reads })
optional_one Is row begins May part one tokens None (Some y) others more rest left is so ends last spells reads =
    absurd (no_part begins May (row y more) others tokens left rest (part.begun y more so) ends reads spells)
optional_one Is row begins May part one tokens (Some x) None others more rest left is so ends last spells reads =
    absurd (no_part begins May (row x others) more tokens rest left (part.begun x others is) last spells reads)
optional_one Is row begins May part one tokens (Some x) (Some y) others more rest left is so ends last spells reads =
    let both = one tokens x y others more rest left is so (first_then (EndsList begins May) May others (λ kind holds. holds.1) ends) (first_then (EndsList begins May) May more (λ kind holds. holds.1) last) spells reads in
    (ap Some both.0, both.1)
