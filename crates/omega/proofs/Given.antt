-- What is given, or refused for want of memory, is a call's outcome where it is right.
use Rattle.std.proofs.Common.{◌≡◌, inl, inr, ℕ, List, refl, sym, subst}
use Rattle.omega_text.specs.declared.refusal.Refusal.{Refusal}
use Rattle.omega_text.specs.declared.refusal.Refusal.TheVariants.{Automaton, Circuit, Game, Io, Memory, Task, Text}
use Rattle.omega_text.specs.Cases.{or_memory}
use Rattle.omega_io.specs.Refused.{about_none}
use Rattle.omega_io.specs.declared.exit.Exit.{Exit}
use Rattle.omega_io.specs.declared.refused.Refused.{Refused}
use Rattle.omega.specs.declared.text.Text.{Text as Held}
use Rattle.omega.specs.declared.text_outcome.TextOutcome.{TextOutcome}
use Rattle.omega.specs.Giving.{IsOneRefused, IsTextOutcome, IsVerdictOutcome}
use Rattle.omega.specs.TextOutcome.{about_input}

module _ (right : List ℕ → Type 0) (refuses : Refused → Type 0) (outcome : TextOutcome) (out out' : Held) where
  -- the text that was given is right
  pub text_given : (output : List ℕ) → right output → refuses (about_none Memory) → IsTextOutcome (λ text. text ≡ output) (λ refused. refused ≡ about_none Memory) outcome out out'
      → IsTextOutcome right refuses outcome out out'
  text_given output is memory (inl g) = inl (record { outcome_is = g.outcome_is; output = g.output; is_right = subst right (sym g.is_right) is; held = g.held })
  text_given output is memory (inr r) = inr (record { refused = r.refused; refuses_so = subst refuses (sym r.refuses_so) memory; outcome_is = r.outcome_is; kept = r.kept })

module _ (right : Exit → List ℕ → Type 0) (refuses : Refused → Type 0) (outcome : TextOutcome) (said said' : ℕ) (out out' : Held) where
  -- the verdict and the text that were given are right
  pub verdict_given : (exit : Exit) (output : List ℕ) → right exit output → refuses (about_none Memory)
      → IsVerdictOutcome (λ made text. (made ≡ exit) × (text ≡ output)) (λ refused. refused ≡ about_none Memory) outcome said said' out out' → IsVerdictOutcome right refuses outcome said said' out out'
  verdict_given exit output is memory (inl d) = inl (record {
    exit = d.exit;
    verdict = d.verdict;
    text = record {
      outcome_is = d.text.outcome_is;
      output = d.text.output;
      is_right = subst (λ (e : Exit). right e d.text.output) (sym d.text.is_right.0) (subst (right exit) (sym d.text.is_right.1) is);
      held = d.text.held;
    };
  })
  verdict_given exit output is memory (inr r) =
      inr (r.0, record { refused = r.1.refused; refuses_so = subst refuses (sym r.1.refuses_so) memory; outcome_is = r.1.outcome_is; kept = r.1.kept })

-- a refusal of one text is about it, unless memory was wanted
pub one_refused : (refuses : Refusal → Type 0) (refusal : Refusal) → or_memory refuses refusal → IsOneRefused refuses (about_input refusal)
one_refused refuses (Text fault) r = r
one_refused refuses (Game fault) r = r
one_refused refuses (Circuit fault) r = r
one_refused refuses (Automaton fault) r = r
one_refused refuses (Task fault) r = r
one_refused refuses Memory r = refl
one_refused refuses Io r = r
