-- Tests that fail: of each item of a list, of what is there or not, and of what items say.
use Rattle.std.proofs.Common.{◌≡◌, ℕ, ◌<◌, Bool, true, false, ◌||◌, nat_le, List, [], ◌∷◌, Option, Some, None, IfSome, All, refl, sym}
use Rattle.std.specs.List.{AllZip, cons_option, filter_map, list_any, slice_get}
use Rattle.std.proofs.lemmas.Bool.{false≢true, leb-false}
use Rattle.std.proofs.lemmas.List.Elements.{All-cons, All-head, All-nil, All-tail, All-weaker}
use Rattle.omega_hoa_automaton.specs.Automaton.{AreBelow}
use Rattle.omega_hoa_automaton.specs.Faults.{passes}

-- neither of two tests holds
pub neither : (a b : Bool) → (a || b) ≡ false → (a ≡ false) × (b ≡ false)
neither true b h = absurd (false≢true (sym h))
neither false b h = (refl, h)

-- if no item passes each fails
pub all_fail : {X : Type 0} (test : X → Bool) (xs : List X) → list_any test xs ≡ false → All (λ x. test x ≡ false) xs
all_fail test [] h = All-nil (λ x. test x ≡ false)
all_fail test (x ∷ xs) h =
    let both = neither (test x) (list_any test xs) h in
    All-cons (λ x. test x ≡ false) x xs both.0 (all_fail test xs both.1)

-- if no number is from a count on all are below it
pub all_below : (count : ℕ) (numbers : List ℕ) → list_any (nat_le count) numbers ≡ false → AreBelow count numbers
all_below count numbers h =
    All-weaker (λ number. nat_le count number ≡ false) (λ number. number < count) (leb-false count) numbers (all_fail (nat_le count) numbers h)

-- what is there and fails a test has what that says
pub if_fails : {X : Type 0} (test : X → Bool) (P : X → Type 0) → ((x : X) → test x ≡ false → P x)
    → (there : Option X) → passes test there ≡ false → IfSome there P
if_fails test P says None h = tt
if_fails test P says (Some x) h = says x h

-- what items say fails a test, and has what that says
pub said_all : {I X : Type 0} (said : I → Option X) (test : X → Bool) (P : X → Type 0) → ((x : X) → test x ≡ false → P x)
    → (items : List I) → list_any (λ item. passes test (said item)) items ≡ false → All P (filter_map said items)
said_all said test P says [] h = All-nil P
said_all {X = X} said test P says (item ∷ items) h =
    let both = neither (passes test (said item)) (list_any (λ item. passes test (said item)) items) h in
    here (said item) (filter_map said items) both.0 (said_all said test P says items both.1)
  where
    here : (first : Option X) (rest : List X) → passes test first ≡ false → All P rest → All P (cons_option first rest)
    here None rest fails all = all
    here (Some x) rest fails all = All-cons P x rest (says x fails) all

-- what holds of all holds of the first
pub first_of : {X : Type 0} (P : X → Type 0) (xs : List X) → All P xs → IfSome (slice_get xs 0) P
first_of P [] all = tt
first_of P (x ∷ xs) all = All-head P x xs all

-- what is related one by one to items that satisfy something
pub zip_all : {A B : Type 0} (Q : A → Type 0) (R : A → B → Type 0) (P : B → Type 0) → ((a : A) (b : B) → Q a → R a b → P b)
    → (as_ : List A) (bs : List B) → All Q as_ → AllZip R as_ bs → All P bs
zip_all Q R P each [] [] all zip = All-nil P
zip_all Q R P each [] (b ∷ bs) all zip = absurd zip
zip_all Q R P each (a ∷ as_) [] all zip = absurd zip
zip_all Q R P each (a ∷ as_) (b ∷ bs) all zip =
    All-cons P b bs (each a b (All-head Q a as_ all) zip.0) (zip_all Q R P each as_ bs (All-tail Q a as_ all) zip.1)
