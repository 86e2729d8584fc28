-- Whether the answer to an intersection is words that both automata accept.
use Rattle.std.proofs.Common.{◌↔◌, IsTrue, refl}
use Rattle.std.proofs.lemmas.Bool.{false≢true}
use Rattle.omega_hoa_automaton.specs.Automaton.{Description}
use Rattle.omega_lang_intersection.specs.Intersection.{IsIntersection}
use Rattle.omega_lang_intersection.specs.declared.answer.Intersection.{Intersection}
use Rattle.omega_lang_intersection.specs.declared.answer.Intersection.TheVariants.{Common, Empty}
use Rattle.omega_lang_inclusion.specs.private.Choosing.{AcceptCommon, is_common}

pub common_said : (one a : Description) (answer : Intersection) → IsIntersection one a answer → IsTrue (is_common answer) ↔ AcceptCommon one a
common_said one a Empty none = (λ t. absurd (false≢true t), λ common. absurd (none common.0 common.1))
common_said one a (Common example) is = (λ t. (is.word, is.wanted), λ common. refl)
