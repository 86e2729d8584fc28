-- What is said in place of refusals of what the program made itself.
use Rattle.std.proofs.Common.{◌≡◌, ℕ, Bool, List, Decides, refl, sym, subst}
use Rattle.std.specs.Prelude.{nat_eq}
use Rattle.std.specs.Cmp.Lexicographic.{pointwise}
use Rattle.std.proofs.lemmas.Bool.Decides.{Decides-eqb}
use Rattle.std.proofs.lemmas.Slice.Eq.{slice_eq-Decides}
use Rattle.omega_answers_circuit.specs.ControllerCircuit.{IsNoneOver, not_read}
use Rattle.omega_answers_synth.specs.private.Own.{unread_for_size}
use Rattle.omega_hoa.specs.Alone.{IsAutomatonRefusal}
use Rattle.omega_text.specs.Cases.{or_memory}
use Rattle.omega_text.specs.declared.refusal.Refusal.{Refusal}
use Rattle.omega_text.specs.declared.refusal.Refusal.TheVariants.{Automaton, Circuit, Game, Io, Memory, Task, Text}
use Rattle.omega_answers.proofs.Refusals.{or_memory_of}

-- a text that was written is not read
pub text_unread : (names : List (List ℕ)) (text : List ℕ) (found : Refusal) → or_memory (IsAutomatonRefusal text) found → (refusal : Refusal) → refusal ≡ unread_for_size found
    → or_memory (IsNoneOver names text) refusal
text_unread names text found h refusal is = subst (or_memory (IsNoneOver names text)) (sym is) (go found h)
  where
    own : (found : Refusal) → IsAutomatonRefusal text found → or_memory (IsNoneOver names text) (unread_for_size found)
    own found h = or_memory_of (IsNoneOver names text) (unread_for_size found) (not_read found h refl)

    go : (found : Refusal) → or_memory (IsAutomatonRefusal text) found → or_memory (IsNoneOver names text) (unread_for_size found)
    go (Text fault) h = own (Text fault) h
    go (Game fault) h = own (Game fault) h
    go (Circuit fault) h = own (Circuit fault) h
    go (Automaton fault) h = own (Automaton fault) h
    go (Task fault) h = own (Task fault) h
    go Memory h = tt
    go Io h = own Io h

-- whether two lists of names are the same
pub names_decide : (ones others : List (List ℕ)) (result : Bool) → result ≡ pointwise (pointwise nat_eq) ones others → Decides result (ones ≡ others)
names_decide = slice_eq-Decides (λ one other. slice_eq-Decides Decides-eqb one other _ refl)
