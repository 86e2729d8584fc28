-- The ways out of a state, and the letters that they answer.
use Rattle.std.proofs.Common.{◌≡◌, ℕ, Bool, List, filter, Contains, Option, None, Some, refl, subst}
use Rattle.std.specs.Prelude.{IfSome}
use Rattle.omega_hoa_automaton.specs.Automaton.{Description}
use Rattle.omega_lang_word_laws.proofs.meeting.Lists.{contains_filter, filter_contains}
use Rattle.omega_synth_game.specs.Making.{AllLeave}
use Rattle.omega_synth_check.specs.private.Leaving.{AreLeavers}
use Rattle.omega_synth_game.specs.RoundsOf.{holds_in}
use Rattle.omega_synth_check.specs.private.Searching.{NoneAnswers, SomeAnswers}
use Rattle.omega_synth_check.specs.private.Blocked.{IsSpared, IsVisitedFor}
use Rattle.omega_synth_check.specs.WaysOut.{IsWayOut}

module _ (a : Description) (controlled : List ℕ) (out : ℕ → Bool) (state : ℕ) (numbers : List ℕ) (leavers : AreLeavers a state numbers) where
  abbrev ways : List ℕ
  ways = filter out numbers

  pub flagged_leave : AllLeave a state ways
  flagged_leave number has = (leavers number).0 (filter_contains out numbers number has).0

  is_way : (number : ℕ) → Contains ways number → IsWayOut a out state number
  is_way number has =
      let both = filter_contains out numbers number has in
      record { leaves = (leavers number).0 both.0; is_out = both.1 }

  way_listed : (number : ℕ) → IsWayOut a out state number → Contains ways number
  way_listed number way = contains_filter out numbers number ((leavers number).1 way.leaves) way.is_out

  pub visited_for : (found : Option ℕ) → (found ≡ None → IsSpared a controlled ways) → ((number : ℕ) → found ≡ Some number → Contains ways number)
      → ((number : ℕ) → found ≡ Some number → (given : ℕ → Bool) → SomeAnswers a controlled ways given) → IsVisitedFor a controlled out state found
  visited_for None spared first each =
      let letter = spared refl in (letter.0, λ number way. letter.1 number (way_listed number way))
  visited_for (Some number) spared first each = record {
    way = is_way number (first number refl);
    each = λ given. (let some = each number refl given in (some.0, is_way some.0 some.1, some.2));
  }

-- a letter that was found is one that none of the edges answers
pub spared : (a : Description) (controlled numbers : List ℕ) (found : Option (List ℕ)) (letter : List ℕ) → found ≡ Some letter
    → IfSome found (NoneAnswers a controlled numbers) → IsSpared a controlled numbers
spared a controlled numbers found letter is none =
    let unanswered : NoneAnswers a controlled numbers letter = subst (λ (x : Option (List ℕ)). IfSome x (NoneAnswers a controlled numbers)) is none in
    (holds_in letter, unanswered)
