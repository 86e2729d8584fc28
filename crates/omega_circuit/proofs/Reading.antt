-- Values that are read at numbered literals are those of the literals.
use Rattle.std.proofs.Common.{◌≡◌, ℕ, ◌/◌, ◌<◌, Bool, false, List, [], ◌∷◌, length, map, get_or, Result, Ok, Err, refl, sym, ap, ◌∙◌, arith}
use Rattle.std.specs.Prelude.{IfOk}
use Rattle.std.proofs.lemmas.List.{ext_get_or, get_or-map, length-map}
use Rattle.omega_circuit.specs.Rounds.{literal_value}
use Rattle.omega_circuit.specs.private.Numbers.{AreNumbered, IsNumbered, next_literals}
use Rattle.omega_circuit.specs.private.Orders.{flag_at}
use Rattle.omega_circuit.specs.declared.latch.Latch.{Latch}
use Rattle.omega_circuit.proofs.Values.{signs_alike}

-- one value
read_one : (variables : List ℕ) (literal number : ℕ) (held : ℕ → Bool) (values : List Bool) → values ≡ map held variables → IsNumbered variables literal number
    → literal_value (flag_at values) number ≡ literal_value held literal
read_one variables literal number held values are is =
    signs_alike (flag_at values) held literal number is.sign
    (ap (λ (xs : List Bool). flag_at xs (number / 2)) are ∙ get_or-map held variables (number / 2) 0 false is.within ∙ ap held is.variable)

-- all values
pub read_alike : (variables literals numbers : List ℕ) → AreNumbered variables literals numbers → (held : ℕ → Bool) (values : List Bool) → values ≡ map held variables
    → map (λ number. literal_value (flag_at values) number) numbers ≡ map (λ literal. literal_value held literal) literals
read_alike variables literals numbers are held values same =
    let at : ℕ → Bool = λ number. literal_value (flag_at values) number in
    let of : ℕ → Bool = λ literal. literal_value held literal in
    ext_get_or false (map at numbers) (map of literals) (length-map numbers at ∙ are.long ∙ sym (length-map literals of))
    (λ k within. let small : k < length numbers = omega (arith, within, length-map numbers at) in
    get_or-map at numbers k 0 false small
    ∙ read_one variables (get_or literals k 0) (get_or numbers k 0) held values same (are.each k (omega (arith, small, are.long)))
    ∙ sym (get_or-map of literals k 0 false (omega (arith, small, are.long))))

-- the values of next literals
pub nexts_alike : (held : ℕ → Bool) (latches : List Latch)
    → map (λ literal. literal_value held literal) (next_literals latches) ≡ map (λ (latch : Latch). literal_value held latch.next) latches
nexts_alike held [] = refl
nexts_alike held (latch ∷ latches) = ap (λ (xs : List Bool). literal_value held latch.next ∷ xs) (nexts_alike held latches)

-- what is said of a value that was returned
pub ok_weaker : {X E : Type 0} (r : Result X E) (P Q : X → Type 0) → ((x : X) → P x → Q x) → IfOk r P → IfOk r Q
ok_weaker (Ok x) P Q f said = f x said
ok_weaker (Err e) P Q f said = said
