-- the symbol of one name more
use Rattle.std.proofs.Common.{◌≡◌, ◌<◌, ℕ, List, [], ◌∷◌, ◌++◌, length, get_or, ap, ◌∙◌, arith}
use Rattle.std.proofs.lemmas.List.{get_or_default}
use Rattle.omega_circuit.specs.declared.symbol.Symbol.{Symbol}
use Rattle.omega_circuit_encoder.proofs.Symbols.{symbols_take_more}
use Rattle.omega_circuit_encoder.proofs.names.kind_symbols.Goals as goal

pub loop-k-preserved : goal.loop-k-preserved
loop-k-preserved c =
    let names : List (List ℕ) = c.args.names.now in
    let k : ℕ = c.loop-k.k in
    let low : k < length names = omega arith in
    let symbol : List ℕ → Symbol = λ name. record { kind = c.args.kind; position = k; name = name } in
    let same : c.in_ok-name.name ≡ get_or names k [] =
    c.in_ok-name.ensures ∙ (c.as_slice.ensures ∙ (c.index-names-k.is ∙ get_or_default names k _ [] low)) in
    c.in_ok-push.ensures.items
    ∙ (ap (λ (name : List ℕ). c.loop-k.symbols.items ++ symbol name ∷ []) same
    ∙ symbols_take_more c.args.kind names k c.loop-k.symbols.items low c.loop-k.invariant)
