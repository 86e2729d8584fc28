-- Lists of parts or lines, one before another.
use Rattle.std.proofs.Common.{◌≡◌, ℕ, List, [], ◌∷◌, ◌++◌, map, ap, append_assoc, refl, sym, subst}
use Rattle.std.specs.List.{AllByRecursion, flat_map}
use Rattle.omega_hoa_syntax.specs.Grammar.{each}
use Rattle.omega_hoa_syntax.specs.Symbols.{AutomatonSymbol}
use Rattle.omega_hoa_round_trips.proofs.texts.Spelled.{IsSpelled}

-- the bytes after a line may be any
abbrev pub Any : List ℕ → Type 0
Any bytes = Unit {0}

-- what is required of the bytes after a list holds of the bytes from its first part on
pub each-following : {X : Type 0} (part : X → List ℕ) (May : List ℕ → Type 0) → ((it : X) (following : List ℕ) → May following → May (part it ++ following))
    → (items : List X) (following : List ℕ) → May following → May (flat_map part items ++ following)
each-following part May keeps [] following may = may
each-following part May keeps (first ∷ others) following may =
    subst May (sym (append_assoc (part first) (flat_map part others) following))
    (keeps first (flat_map part others ++ following) (each-following part May keeps others following may))

-- the parts of a list are the rows of its values
pub each-spelled : {X : Type 0} (part : X → List ℕ) (row : X → List AutomatonSymbol → List AutomatonSymbol) (Is : X → Type 0) (May : List ℕ → Type 0)
    → ((it : X) (following : List ℕ) → May following → May (part it ++ following))
    → ((it : X) (following : List ℕ) (symbols : List AutomatonSymbol) → Is it → May following → IsSpelled following symbols → IsSpelled (part it ++ following) (row it symbols))
    → (items : List X) (following : List ℕ) (symbols : List AutomatonSymbol) → AllByRecursion Is items → May following
    → IsSpelled following symbols → IsSpelled (flat_map part items ++ following) (each row items symbols)
each-spelled part row Is May keeps spells [] following symbols all may spelled = spelled
each-spelled part row Is May keeps spells (first ∷ others) following symbols all may spelled =
    subst (λ bytes. IsSpelled bytes (each row (first ∷ others) symbols)) (sym (append_assoc (part first) (flat_map part others) following))
    (spells first (flat_map part others ++ following) (each row others symbols) all.0 (each-following part May keeps others following may)
    (each-spelled part row Is May keeps spells others following symbols all.1 may spelled))

-- the rows of two lists, one after the other
pub each-append : {X : Type 0} (row : X → List AutomatonSymbol → List AutomatonSymbol) (first second : List X) (symbols : List AutomatonSymbol)
    → each row (first ++ second) symbols ≡ each row first (each row second symbols)
each-append row [] second symbols = refl
each-append row (it ∷ first) second symbols = ap (row it) (each-append row first second symbols)

-- the rows of values that are made of others
pub each-map : {X Y : Type 0} (row : Y → List AutomatonSymbol → List AutomatonSymbol) (made : X → Y) (items : List X) (symbols : List AutomatonSymbol)
    → each row (map made items) symbols ≡ each (λ it. row (made it)) items symbols
each-map row made [] symbols = refl
each-map row made (it ∷ items) symbols = ap (row (made it)) (each-map row made items symbols)

-- ---- what holds of each value

pub all-append : {X : Type 0} (Is : X → Type 0) (first second : List X) → AllByRecursion Is first → AllByRecursion Is second → AllByRecursion Is (first ++ second)
all-append Is [] second all more = more
all-append Is (it ∷ first) second all more = (all.0, all-append Is first second all.1 more)

pub all-map : {X Y : Type 0} (Is : Y → Type 0) (made : X → Y) (items : List X) → AllByRecursion (λ it. Is (made it)) items → AllByRecursion Is (map made items)
all-map Is made [] all = tt
all-map Is made (it ∷ items) all = (all.0, all-map Is made items all.1)

pub all-then : {X : Type 0} (Is More : X → Type 0) → ((it : X) → Is it → More it) → (items : List X) → AllByRecursion Is items → AllByRecursion More items
all-then Is More then [] all = tt
all-then Is More then (it ∷ items) all = (then it all.0, all-then Is More then items all.1)
