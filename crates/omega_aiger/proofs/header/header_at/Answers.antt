-- The counts, one after the other.
use Rattle.std.proofs.Common.{[], ◌∙◌}
use Rattle.std.proofs.lemmas.Result.{err_from_is_err_and}
use Rattle.omega_aiger.specs.Forms.{count_then, counts_end, counts_of, counts_then}
use Rattle.omega_aiger.proofs.Steps.{stops_after}
use Rattle.omega_aiger.proofs.header.header_at.Goals as goal

pub returns-in_err-most_variable-clause-stops : goal.returns-in_err-most_variable-clause-stops
unfolding counts_then
returns-in_err-most_variable-clause-stops c =
    let p = err_from_is_err_and c.from_residual.result c.from_residual.ensures.1 in rw (p.1, p.2) (λ more. c.in_err-most_variable.ensures.stops (λ most. count_then (λ inputs. count_then (λ latches. count_then (λ outputs. count_then (λ gates. counts_end 4 [] (λ properties. more (counts_of most inputs latches outputs gates properties))))))))

pub returns-in_err-inputs-clause-stops : goal.returns-in_err-inputs-clause-stops
unfolding counts_then
returns-in_err-inputs-clause-stops c =
    let p = err_from_is_err_and c.from_residual-in_err-inputs.result c.from_residual-in_err-inputs.ensures.1 in rw (p.1, p.2) (λ more. stops_after c.args.text.now c.args.at c.in_ok-most_variable.at (counts_then more) (count_then (λ inputs. count_then (λ latches. count_then (λ outputs. count_then (λ gates. counts_end 4 [] (λ properties. more (counts_of c.in_ok-most_variable.most_variable inputs latches outputs gates properties))))))) (c.in_ok-most_variable.ensures.read (λ most. count_then (λ inputs. count_then (λ latches. count_then (λ outputs. count_then (λ gates. counts_end 4 [] (λ properties. more (counts_of most inputs latches outputs gates properties)))))))) c.in_err-inputs.field-0.0 (c.in_err-inputs.ensures.stops (λ inputs. count_then (λ latches. count_then (λ outputs. count_then (λ gates. counts_end 4 [] (λ properties. more (counts_of c.in_ok-most_variable.most_variable inputs latches outputs gates properties))))))))

pub returns-in_err-latches-clause-stops : goal.returns-in_err-latches-clause-stops
unfolding counts_then
returns-in_err-latches-clause-stops c =
    let p = err_from_is_err_and c.from_residual-in_err-latches.result c.from_residual-in_err-latches.ensures.1 in rw (p.1, p.2) (λ more. stops_after c.args.text.now c.args.at c.in_ok-inputs.at (counts_then more) (count_then (λ latches. count_then (λ outputs. count_then (λ gates. counts_end 4 [] (λ properties. more (counts_of c.in_ok-most_variable.most_variable c.in_ok-inputs.inputs latches outputs gates properties)))))) (c.in_ok-most_variable.ensures.read (λ most. count_then (λ inputs. count_then (λ latches. count_then (λ outputs. count_then (λ gates. counts_end 4 [] (λ properties. more (counts_of most inputs latches outputs gates properties))))))) ∙ c.in_ok-inputs.ensures.read (λ inputs. count_then (λ latches. count_then (λ outputs. count_then (λ gates. counts_end 4 [] (λ properties. more (counts_of c.in_ok-most_variable.most_variable inputs latches outputs gates properties))))))) c.in_err-latches.field-0.0 (c.in_err-latches.ensures.stops (λ latches. count_then (λ outputs. count_then (λ gates. counts_end 4 [] (λ properties. more (counts_of c.in_ok-most_variable.most_variable c.in_ok-inputs.inputs latches outputs gates properties)))))))

pub returns-in_err-outputs-clause-stops : goal.returns-in_err-outputs-clause-stops
unfolding counts_then
returns-in_err-outputs-clause-stops c =
    let p = err_from_is_err_and c.from_residual-in_err-outputs.result c.from_residual-in_err-outputs.ensures.1 in rw (p.1, p.2) (λ more. stops_after c.args.text.now c.args.at c.in_ok-latches.at (counts_then more) (count_then (λ outputs. count_then (λ gates. counts_end 4 [] (λ properties. more (counts_of c.in_ok-most_variable.most_variable c.in_ok-inputs.inputs c.in_ok-latches.latches outputs gates properties))))) (c.in_ok-most_variable.ensures.read (λ most. count_then (λ inputs. count_then (λ latches. count_then (λ outputs. count_then (λ gates. counts_end 4 [] (λ properties. more (counts_of most inputs latches outputs gates properties))))))) ∙ c.in_ok-inputs.ensures.read (λ inputs. count_then (λ latches. count_then (λ outputs. count_then (λ gates. counts_end 4 [] (λ properties. more (counts_of c.in_ok-most_variable.most_variable inputs latches outputs gates properties)))))) ∙ c.in_ok-latches.ensures.read (λ latches. count_then (λ outputs. count_then (λ gates. counts_end 4 [] (λ properties. more (counts_of c.in_ok-most_variable.most_variable c.in_ok-inputs.inputs latches outputs gates properties)))))) c.in_err-outputs.field-0.0 (c.in_err-outputs.ensures.stops (λ outputs. count_then (λ gates. counts_end 4 [] (λ properties. more (counts_of c.in_ok-most_variable.most_variable c.in_ok-inputs.inputs c.in_ok-latches.latches outputs gates properties))))))

pub returns-in_err-gates-clause-stops : goal.returns-in_err-gates-clause-stops
unfolding counts_then
returns-in_err-gates-clause-stops c =
    let p = err_from_is_err_and c.from_residual-in_err-gates.result c.from_residual-in_err-gates.ensures.1 in rw (p.1, p.2) (λ more. stops_after c.args.text.now c.args.at c.in_ok-outputs.at (counts_then more) (count_then (λ gates. counts_end 4 [] (λ properties. more (counts_of c.in_ok-most_variable.most_variable c.in_ok-inputs.inputs c.in_ok-latches.latches c.in_ok-outputs.outputs gates properties)))) (c.in_ok-most_variable.ensures.read (λ most. count_then (λ inputs. count_then (λ latches. count_then (λ outputs. count_then (λ gates. counts_end 4 [] (λ properties. more (counts_of most inputs latches outputs gates properties))))))) ∙ c.in_ok-inputs.ensures.read (λ inputs. count_then (λ latches. count_then (λ outputs. count_then (λ gates. counts_end 4 [] (λ properties. more (counts_of c.in_ok-most_variable.most_variable inputs latches outputs gates properties)))))) ∙ c.in_ok-latches.ensures.read (λ latches. count_then (λ outputs. count_then (λ gates. counts_end 4 [] (λ properties. more (counts_of c.in_ok-most_variable.most_variable c.in_ok-inputs.inputs latches outputs gates properties))))) ∙ c.in_ok-outputs.ensures.read (λ outputs. count_then (λ gates. counts_end 4 [] (λ properties. more (counts_of c.in_ok-most_variable.most_variable c.in_ok-inputs.inputs c.in_ok-latches.latches outputs gates properties))))) c.in_err-gates.field-0.0 (c.in_err-gates.ensures.stops (λ gates. counts_end 4 [] (λ properties. more (counts_of c.in_ok-most_variable.most_variable c.in_ok-inputs.inputs c.in_ok-latches.latches c.in_ok-outputs.outputs gates properties)))))

pub returns-in_err-properties-clause-stops : goal.returns-in_err-properties-clause-stops
unfolding counts_then
returns-in_err-properties-clause-stops c =
    let p = err_from_is_err_and c.from_residual-in_err-properties.result c.from_residual-in_err-properties.ensures.1 in rw (p.1, p.2) (λ more. stops_after c.args.text.now c.args.at c.in_ok-gates.at (counts_then more) (counts_end 4 [] (λ properties. more (counts_of c.in_ok-most_variable.most_variable c.in_ok-inputs.inputs c.in_ok-latches.latches c.in_ok-outputs.outputs c.in_ok-gates.gates properties))) (c.in_ok-most_variable.ensures.read (λ most. count_then (λ inputs. count_then (λ latches. count_then (λ outputs. count_then (λ gates. counts_end 4 [] (λ properties. more (counts_of most inputs latches outputs gates properties))))))) ∙ c.in_ok-inputs.ensures.read (λ inputs. count_then (λ latches. count_then (λ outputs. count_then (λ gates. counts_end 4 [] (λ properties. more (counts_of c.in_ok-most_variable.most_variable inputs latches outputs gates properties)))))) ∙ c.in_ok-latches.ensures.read (λ latches. count_then (λ outputs. count_then (λ gates. counts_end 4 [] (λ properties. more (counts_of c.in_ok-most_variable.most_variable c.in_ok-inputs.inputs latches outputs gates properties))))) ∙ c.in_ok-outputs.ensures.read (λ outputs. count_then (λ gates. counts_end 4 [] (λ properties. more (counts_of c.in_ok-most_variable.most_variable c.in_ok-inputs.inputs c.in_ok-latches.latches outputs gates properties)))) ∙ c.in_ok-gates.ensures.read (λ gates. counts_end 4 [] (λ properties. more (counts_of c.in_ok-most_variable.most_variable c.in_ok-inputs.inputs c.in_ok-latches.latches c.in_ok-outputs.outputs gates properties)))) c.in_err-properties.field-0.0 (c.in_err-properties.ensures.stops (λ properties. more (counts_of c.in_ok-most_variable.most_variable c.in_ok-inputs.inputs c.in_ok-latches.latches c.in_ok-outputs.outputs c.in_ok-gates.gates properties))))

pub returns-clause-read : goal.returns-clause-read
unfolding counts_then
returns-clause-read c =
    λ more. c.in_ok-most_variable.ensures.read (λ most. count_then (λ inputs. count_then (λ latches. count_then (λ outputs. count_then (λ gates. counts_end 4 [] (λ properties. more (counts_of most inputs latches outputs gates properties))))))) ∙ c.in_ok-inputs.ensures.read (λ inputs. count_then (λ latches. count_then (λ outputs. count_then (λ gates. counts_end 4 [] (λ properties. more (counts_of c.in_ok-most_variable.most_variable inputs latches outputs gates properties)))))) ∙ c.in_ok-latches.ensures.read (λ latches. count_then (λ outputs. count_then (λ gates. counts_end 4 [] (λ properties. more (counts_of c.in_ok-most_variable.most_variable c.in_ok-inputs.inputs latches outputs gates properties))))) ∙ c.in_ok-outputs.ensures.read (λ outputs. count_then (λ gates. counts_end 4 [] (λ properties. more (counts_of c.in_ok-most_variable.most_variable c.in_ok-inputs.inputs c.in_ok-latches.latches outputs gates properties)))) ∙ c.in_ok-gates.ensures.read (λ gates. counts_end 4 [] (λ properties. more (counts_of c.in_ok-most_variable.most_variable c.in_ok-inputs.inputs c.in_ok-latches.latches c.in_ok-outputs.outputs gates properties))) ∙ c.in_ok-properties.ensures.read (λ properties. more (counts_of c.in_ok-most_variable.most_variable c.in_ok-inputs.inputs c.in_ok-latches.latches c.in_ok-outputs.outputs c.in_ok-gates.gates properties))
