-- a name is none of a symbol, or a limit is passed
use Rattle.std.proofs.Common.{◌≡◌, true, false, refl, sym, subst, ◌∙◌}
use Rattle.std.specs.Prelude.{All}
use Rattle.std.proofs.lemmas.Bool.{false≢true}
use Rattle.omega_circuit_encoder.specs.Names.{IsSymbolName}
use Rattle.omega_circuit_encoder.proofs.Refusals.{limits_refuse}
use Rattle.omega_circuit_encoder.proofs.encoder.circuit_of_controller.Goals as goal

pub returns-then-not-are_symbol_names-clause-refused : goal.returns-then-not-are_symbol_names-clause-refused
returns-then-not-are_symbol_names-clause-refused c =
    let passes : All IsSymbolName c.args.controller.now.propositions → false ≡ true = λ all.
    sym c.if-not-are_symbol_names.true
    ∙ c.are_symbol_names.ensures.1 (subst (All IsSymbolName) (sym c.propositions.ensures) all) in
    (refl, λ all. false≢true (passes all))

pub returns-in-Err-clause-refused : goal.returns-in-Err-clause-refused
returns-in-Err-clause-refused c =
    let passes = c.are_symbol_names.ensures.0 c.if-not-are_symbol_names.false in
    let all : All IsSymbolName c.args.controller.now.propositions =
    subst (All IsSymbolName) c.propositions.ensures passes in
    limits_refuse c.args.controller.now.propositions c.as_limit.result all c.as_limit.ensures
