-- An item lists one list of numbers.
use Rattle.std.proofs.Common.{◌≡◌, ℕ, List, [], ◌∷◌, map, refl, sym, ap, ◌∙◌}
use Rattle.omega_hoa_syntax.specs.declared.header_value.HeaderValue.TheVariants as value
use Rattle.omega_hoa_automaton.specs.Automaton.{Description}
use Rattle.omega_synth_controllers.specs.Controllable.{IsControlled}

pub numbers_one : (ones others : List ℕ) → map value.Number ones ≡ map value.Number others → ones ≡ others
numbers_one [] [] same = refl
numbers_one [] (n ∷ others) same = absurd (let e : [] ≡ value.Number n ∷ map value.Number others = same in cc)
numbers_one (m ∷ ones) [] same = absurd (let e : value.Number m ∷ map value.Number ones ≡ [] = same in cc)
numbers_one (m ∷ ones) (n ∷ others) same =
    let e : value.Number m ∷ map value.Number ones ≡ value.Number n ∷ map value.Number others = same in
    let first : m ≡ n = cc in
    let rest : map value.Number ones ≡ map value.Number others = cc in
    ap (λ (k : ℕ). k ∷ ones) first ∙ ap (λ (ks : List ℕ). n ∷ ks) (numbers_one ones others rest)

pub controlled_one : (a : Description) (ones others : List ℕ) → IsControlled a ones → IsControlled a others → ones ≡ others
controlled_one a ones others one other = numbers_one ones others (sym one.stated.listed ∙ other.stated.listed)
