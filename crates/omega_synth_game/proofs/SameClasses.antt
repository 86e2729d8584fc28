-- The classes of letters in a state are the same, however they are listed.
use Rattle.std.proofs.Common.{◌≡◌, ◌↔◌, ℕ, ◌<◌, Bool, List, [], length, get_or, Contains, sym, ◌∙◌, subst, arith}
use Rattle.std.specs.Prelude.{sum_by}
use Rattle.std.proofs.lemmas.List.{get_or_default}
use Rattle.omega_hoa_automaton.specs.Automaton.{Description}
use Rattle.omega_synth_controllers.specs.Controllers.{Answers}
use Rattle.omega_synth_rounds.specs.Extracting.{HaveSameNumbers}
use Rattle.omega_synth_game.specs.Classes.{AreEdgesFrom}
use Rattle.omega_synth_game.specs.Letters.{holds_in, letter_of}
use Rattle.omega_synth_game.specs.Making.{AreClasses, AreClassesIn}
use Rattle.omega_synth_game.proofs.Those.{rising_one, those_members, those_one}
use Rattle.omega_synth_game.proofs.Within.{AreApart, IsWithin, sum_within}

same_numbers : (one other : List ℕ) → one ≡ other → HaveSameNumbers one other
same_numbers one other same number =
    (λ has. subst (λ (list : List ℕ). Contains list number) same has, λ has. subst (λ (list : List ℕ). Contains list number) (sym same) has)

-- the edges that leave a state are one list
pub edges_one : (a : Description) (state : ℕ) (one other : List ℕ) → AreEdgesFrom a state one → AreEdgesFrom a state other → one ≡ other
edges_one a state one other from also =
    rising_one one other from.rising also.rising
    (λ number. (λ has. (also.each number).1 ((from.each number).0 has), λ has. (from.each number).1 ((also.each number).0 has)))

module _ (a : Description) (controlled numbers : List ℕ) where
  apart : (classes : List (List ℕ)) → AreClasses a controlled numbers classes → AreApart classes
  apart classes are i j d i_in j_in same =
      are.questions.apart i j i_in j_in
      (same_numbers (get_or classes i []) (get_or classes j []) (get_or_default classes i [] d i_in ∙ same ∙ get_or_default classes j d [] j_in))

  -- a class of the one list is one of the other: the edges that answer its letter are those of some class there
  within : (one other : List (List ℕ)) → AreClasses a controlled numbers one → AreClasses a controlled numbers other → IsWithin one other
  within one other are also list has =
      let k : ℕ = has.0 in
      let mine = are.questions.answered in
      let given : ℕ → Bool = holds_in (letter_of are.letters k) in
      let found = also.questions.every given in
      let at : ℕ = found.0 in
      let own = mine.each k (omega (arith, has.1, mine.entries)) in
      let its = also.questions.answered.each at found.1 in
      let alike : (n : ℕ) → Contains numbers n → Answers a controlled n (holds_in (letter_of also.letters at)) ↔ Answers a controlled n given =
      λ n inside. (
        λ answers. ((found.2 n).0 ((those_members (λ m. Answers a controlled m (holds_in (letter_of also.letters at))) numbers (get_or other at []) its n).1 (inside, answers))).1,
        λ answers. ((those_members (λ m. Answers a controlled m (holds_in (letter_of also.letters at))) numbers (get_or other at []) its n).0 ((found.2 n).1 (inside, answers))).1,
      ) in
      let same : get_or other at [] ≡ get_or one k [] =
      those_one (λ m. Answers a controlled m (holds_in (letter_of also.letters at))) (λ m. Answers a controlled m given) numbers (get_or other at []) (get_or one k []) alike its own in
      let below : at < length other = omega (arith, found.1, also.questions.answered.entries) in
      (at, below, get_or_default other at list [] below ∙ same ∙ get_or_default one k [] list has.1 ∙ has.2)

  same_listed : (f : List ℕ → ℕ) (one other : List (List ℕ)) → AreClasses a controlled numbers one → AreClasses a controlled numbers other
      → (length one ≡ length other) × (sum_by f one ≡ sum_by f other)
  same_listed f one other are also =
      let up = sum_within f one other (apart one are) (within one other are also) in
      let down = sum_within f other one (apart other also) (within other one also are) in
      (omega (arith, up.0, down.0), omega (arith, up.1, down.1))

-- the classes of a state are as many, and have as many answers
pub same_in : (a : Description) (controlled : List ℕ) (f : List ℕ → ℕ) (state : ℕ) (one other : List (List ℕ))
    → AreClassesIn a controlled state one → AreClassesIn a controlled state other → (length one ≡ length other) × (sum_by f one ≡ sum_by f other)
same_in a controlled f state one other are also =
    same_listed a controlled are.numbers f one other are.are
    (subst (λ (numbers : List ℕ). AreClasses a controlled numbers other) (edges_one a state also.numbers are.numbers also.leave are.leave) also.are)
