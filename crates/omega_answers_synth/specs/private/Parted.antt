-- How lists part the names of a formula, list by list.
use Rattle.std.specs.Prelude.{◌≡◌, ℕ, List, Option}
use Rattle.omega_text.specs.Cases.{or_memory}
use Rattle.omega_text.specs.declared.refusal.Refusal.{Refusal}
use Rattle.omega_text.specs.declared.refusal.Refusal.TheVariants.{Task}
use Rattle.omega_text.specs.declared.refusal.task.TaskFault.TheVariants.{Controllable}
use Rattle.omega_ltl_formula.specs.Table.{NumberedFormula}
use Rattle.omega_answers_synth.specs.Outputs.{ArePartedBy, outputs_by}

-- they part them, and these are the outputs
abbrev pub AreOutputsBy : NumberedFormula → (outs ins : Option (List (List ℕ)))
    → (made : List (List ℕ)) → Type 0
AreOutputsBy formula outs ins made =
    ArePartedBy formula outs ins × (made ≡ outputs_by formula outs ins)

-- they do not, or memory is wanting
abbrev pub IsUnpartedBy : NumberedFormula → (outs ins : Option (List (List ℕ))) → Refusal → Type 0
IsUnpartedBy formula outs ins =
    or_memory (λ refusal. (refusal ≡ Task Controllable) × ¬ ArePartedBy formula outs ins)
