-- What is built of rearranged specifications is built of the specifications.
use Rattle.std.proofs.Common.{◌≡◌, None, List, sym, ◌∙◌}
use Rattle.std.specs.Prelude.{Result, Ok, Err, IfOk, IfErr, OnOk}
use Rattle.std.specs.List.Sorted.{IsPermutation}
use Rattle.std.proofs.lemmas.List.Sorted.{IsPermutation-trans}
use Rattle.omega_text.specs.declared.refusal.Refusal.{Refusal}
use Rattle.omega_text.specs.declared.refusal.Refusal.TheVariants.{Automaton, Circuit, Game, Io, Memory, Task, Text}
use Rattle.omega_game_values.specs.declared.node_spec.NodeSpec.{NodeSpec}
use Rattle.omega_game_values.specs.Game.{Node}
use Rattle.omega_game_values.specs.Building.{IsBuildRefusal, IsGameOf, game_fault_of}
use Rattle.omega_game_values.proofs.building.Duplicates.{fault_of-permutation}

-- a game of rearranged specifications is one of the specifications
pub game_of-rearranged : (r : Result (List Node) Refusal) (specs sorted : List NodeSpec) → IsPermutation specs sorted → IfOk r (λ game. IsGameOf sorted game) → IfOk r (λ game. IsGameOf specs game)
game_of-rearranged (Ok game) specs sorted moved is = record { game = is.game; rearranged = IsPermutation-trans specs sorted _ moved is.rearranged }
game_of-rearranged (Err e) specs sorted moved is = tt

-- rearranged specifications without a fault have none
pub faultless-rearranged : (r : Result (List Node) Refusal) (specs sorted : List NodeSpec) → IsPermutation specs sorted → OnOk r (game_fault_of sorted ≡ None) → OnOk r (game_fault_of specs ≡ None)
faultless-rearranged (Ok game) specs sorted moved none = sym (fault_of-permutation specs sorted moved) ∙ none
faultless-rearranged (Err e) specs sorted moved none = tt

-- the refusal of rearranged specifications is that of the specifications
refusal_of-rearranged : (e : Refusal) (specs sorted : List NodeSpec) → game_fault_of sorted ≡ game_fault_of specs → IsBuildRefusal sorted e → IsBuildRefusal specs e
refusal_of-rearranged (Text fault) specs sorted same is = is
refusal_of-rearranged (Game fault) specs sorted same is = sym same ∙ is
refusal_of-rearranged (Automaton fault) specs sorted same is = is
refusal_of-rearranged (Circuit fault) specs sorted same is = is
refusal_of-rearranged (Task fault) specs sorted same is = is
refusal_of-rearranged Memory specs sorted same is = is
refusal_of-rearranged Io specs sorted same is = is

-- a refused build of rearranged specifications is one of the specifications
pub refused-rearranged : (r : Result (List Node) Refusal) (specs sorted : List NodeSpec) → IsPermutation specs sorted → IfErr r (IsBuildRefusal sorted) → IfErr r (IsBuildRefusal specs)
refused-rearranged (Ok game) specs sorted moved is = tt
refused-rearranged (Err e) specs sorted moved is = refusal_of-rearranged e specs sorted (fault_of-permutation specs sorted moved) is
