-- One symbol more is copied.
use Rattle.std.proofs.Common.{◌≡◌, ◌∷◌, ◌++◌, ℕ, List, [], sym, ap, ap₂, ◌∙◌}
use Rattle.std.proofs.lemmas.List.{take_more}
use Rattle.omega_circuit.specs.declared.symbol.Symbol.{Symbol}
use Rattle.omega_circuit.proofs.canonical.symbols_of.Goals as goal

pub loop-symbol-preserved : goal.loop-symbol-preserved
loop-symbol-preserved c =
    let item = c.symbol-item.result in
    let copied : record { kind = item.kind; position = item.position; name = c.in_ok-name.name } ≡ item =
    ap (λ (name : List ℕ). record { kind = item.kind; position = item.position; name = name }) (c.in_ok-name.ensures ∙ c.as_slice.ensures) in
    c.in_ok-push.ensures.items
    ∙ ap₂ (λ (xs : List Symbol) (x : Symbol). xs ++ x ∷ []) c.loop-symbol.invariant (copied ∙ c.symbol-item.is)
    ∙ sym (take_more c.args.symbols.now c.loop-symbol.symbol-index item c.loop-symbol-test.true)
