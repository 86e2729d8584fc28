-- A refusal for a reason is one for a weaker reason.
use Rattle.std.proofs.Common.{sym, subst}
use Rattle.std.specs.Prelude.{◌≡◌, Result, Ok, Err, IfErr, IsErrAnd}
use Rattle.omega_text.specs.declared.refusal.Refusal.{Refusal}
use Rattle.omega_text.specs.declared.refusal.Refusal.TheVariants.{Automaton, Circuit, Game, Io, Memory, Task, Text}
use Rattle.omega_ltl_terms.specs.Adding.{IsLarge, IsLargeBy}

pub large_weaker : (P Q : Type 0) → (P → Q) → (refusal : Refusal) → IsLargeBy P refusal → IsLargeBy Q refusal
large_weaker P Q weaker (Text fault) h = h
large_weaker P Q weaker (Game fault) h = h
large_weaker P Q weaker (Automaton fault) h = h
large_weaker P Q weaker (Task fault) h = (h.0, weaker h.1)
large_weaker P Q weaker Memory h = h
large_weaker P Q weaker Io h = h
large_weaker P Q weaker (Circuit fault) h = h

-- whatever the reason
pub large_by : (P : Type 0) (refusal : Refusal) → IsLargeBy P refusal → IsLarge refusal
large_by P (Text fault) h = h
large_by P (Game fault) h = h
large_by P (Automaton fault) h = h
large_by P (Task fault) h = h.0
large_by P Memory h = h
large_by P Io h = h
large_by P (Circuit fault) h = h

-- a refusal that is passed on
pub passed_on : {T : Type 0} (result : Result T Refusal) (P : Refusal → Type 0) (refusal : Refusal) → IsErrAnd result (λ e. e ≡ refusal) → P refusal → IfErr result P
passed_on (Ok x) P refusal is h = absurd is
passed_on (Err e) P refusal is h = subst P (sym is) h
