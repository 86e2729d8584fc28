-- The names that the system controls: the items of two automata give one list of them, and among the propositions of
-- the specification they are those of its own item.
use Rattle.std.proofs.Common.{◌≡◌, ◌↔◌, ℕ, ◌+◌, ◌<◌, inl, inr, true, List, [], ◌∷◌, ◌++◌, length, get_or, take, Contains, Some, sym, ap, subst, ◌∙◌, arith, append_assoc}
use Rattle.std.specs.Prelude.{slice_index_or}
use Rattle.std.specs.List.{position_or_len}
use Rattle.std.specs.Str.{bytes_eq}
use Rattle.std.proofs.lemmas.List.{get_or-map, length-map, map_more}
use Rattle.std.proofs.lemmas.List.Elements.{All-contains, Contains-append_cases, Contains-append_left, Contains-get_or}
use Rattle.std.proofs.lemmas.Option.{slice_get-get_or}
use Rattle.omega_hoa_automaton.specs.Automaton.{Description, IsAutomaton}
use Rattle.omega_lang_word_laws.proofs.naming.Named.{own_place}
use Rattle.omega_synth_controllers.specs.Controllable.{IsControlled, has_item}
use Rattle.omega_synth_check.specs.CounterLaws.{AreNumbersOfNames}
use Rattle.omega_answers_synth.specs.Parting.{AreSystemNames, names_at}
use Rattle.omega_answers_synth.proofs.ControllerStated.{controlled_one}

-- the name of a number that is listed
name_listed : (names : List (List ℕ)) (numbers : List ℕ) (p : ℕ) → Contains numbers p → Contains (names_at names numbers) (slice_index_or names p [])
name_listed names numbers p (k, below, is) =
    let named : List (List ℕ) = names_at names numbers in
    let name : List ℕ = slice_index_or names p [] in
    let at : get_or named k name ≡ name =
    get_or-map (λ (number : ℕ). slice_index_or names number []) numbers k p name below ∙ ap (λ (number : ℕ). slice_index_or names number []) is in
    (k, omega (arith, below, length-map numbers (λ (number : ℕ). slice_index_or names number [])), at)

-- and a name that is listed is that of such a number
record IsListedAt (names : List (List ℕ)) (numbers : List ℕ) (name : List ℕ) : Type 0 where
  number : ℕ
  listed : Contains numbers number
  is : slice_index_or names number [] ≡ name

listed_name : (names : List (List ℕ)) (numbers : List ℕ) (name : List ℕ) → Contains (names_at names numbers) name → IsListedAt names numbers name
listed_name names numbers name (k, below, is) =
    let inside : k < length numbers = omega (arith, below, length-map numbers (λ (number : ℕ). slice_index_or names number [])) in
    record {
      number = get_or numbers k 0;
      listed = Contains-get_or numbers k 0 inside;
      is = sym (get_or-map (λ (number : ℕ). slice_index_or names number []) numbers k 0 name inside) ∙ is;
    }

-- one name more
pub pushed_name : (names : List (List ℕ)) (places : List ℕ) (i : ℕ) (name : List ℕ) (before now more : List (List ℕ)) → i < length places
    → name ≡ slice_index_or names (get_or places i 0) [] → now ≡ before ++ names_at names (take i places) → more ≡ now ++ name ∷ []
    → more ≡ before ++ names_at names (take (i + 1) places)
pushed_name names places i name before now more below named is pushed =
    let named_at : ℕ → List ℕ = λ number. slice_index_or names number [] in
    pushed ∙ ap (λ (xs : List (List ℕ)). xs ++ name ∷ []) is ∙ append_assoc before (names_at names (take i places)) (name ∷ [])
    ∙ ap (λ (xs : List (List ℕ)). before ++ xs)
    (ap (λ (n : List ℕ). names_at names (take i places) ++ n ∷ []) named ∙ sym (map_more named_at places i 0 below))

-- the names are one list
pub names_one : (specification other : Description) (ones others : List (List ℕ)) → AreSystemNames specification other ones → AreSystemNames specification other others
    → ones ≡ others
names_one specification other ones others one also =
    one.are
    ∙ ap (λ (numbers : List ℕ). names_at specification.propositions numbers ++ names_at other.propositions one.controlled)
    (controlled_one specification one.stated also.stated one.specified also.specified)
    ∙ ap (λ (numbers : List ℕ). names_at specification.propositions also.stated ++ names_at other.propositions numbers)
    (controlled_one other one.controlled also.controlled one.own also.own)
    ∙ sym also.are

-- and the specification's numbers are those of its own item
pub named_numbers : (specification other : Description) (names : List (List ℕ)) (stated : List ℕ) → IsAutomaton specification → IsAutomaton other
    → AreSystemNames specification other names → has_item specification ≡ true → IsControlled specification stated → AreNumbersOfNames specification stated names
named_numbers specification other names stated automaton is_other system item own p below = (there, back)
  where
    ones : List (List ℕ)
    ones = specification.propositions

    name : List ℕ
    name = slice_index_or ones p []

    same : system.stated ≡ stated
    same = controlled_one specification system.stated stated system.specified own

    there : Contains stated p → Contains names name
    there has =
        subst (λ (listed : List (List ℕ)). Contains listed name) (sym system.are)
        (Contains-append_left (names_at ones system.stated) (names_at other.propositions system.controlled) name
        (name_listed ones system.stated p (subst (λ (numbers : List ℕ). Contains numbers p) (sym same) has)))

    back : Contains names name → Contains stated p
    back has = elim (Contains-append_cases (names_at ones system.stated) (names_at other.propositions system.controlled) name (subst (λ (listed : List (List ℕ)). Contains listed name) system.are has)) [
      | inl left ↦
          let at : IsListedAt ones system.stated name = listed_name ones system.stated name left in
          let place : at.number ≡ p =
          sym (own_place ones automaton.unlike at.number (All-contains (λ (n : ℕ). n < length ones) system.stated at.number system.specified.stated.below at.listed))
          ∙ ap (λ (n : List ℕ). position_or_len (bytes_eq n) ones) at.is ∙ own_place ones automaton.unlike p below in
          subst (Contains stated) place (subst (λ (numbers : List ℕ). Contains numbers at.number) same at.listed)
      | inr right ↦
          let at : IsListedAt other.propositions system.controlled name = listed_name other.propositions system.controlled name right in
          let inside : at.number < length other.propositions =
          All-contains (λ (n : ℕ). n < length other.propositions) system.controlled at.number system.own.stated.below at.listed in
          let both : Contains system.stated p ↔ Contains system.controlled at.number =
          system.alike item p at.number name (slice_get-get_or ones p [] below)
          (slice_get-get_or other.propositions at.number [] inside ∙ ap Some at.is) in
          subst (λ (numbers : List ℕ). Contains numbers p) same (both.1 at.listed)
    ]
