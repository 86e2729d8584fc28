-- One symbol more, or the end.
use Rattle.std.proofs.Common.{◌≡◌, ◌∷◌, ◌++◌, ◌+◌, ◌-◌, ◌<◌, ◌≤◌, ℕ, List, [], Ok, length, drop, sym, ap, ◌∙◌, arith}
use Rattle.std.proofs.lemmas.List.{length_push}
use Rattle.std.proofs.lemmas.Result.{err_from_is_err_and}
use Rattle.omega_aiger.specs.Forms.{most_symbols}
use Rattle.omega_aiger.specs.Layout.{Layout}
use Rattle.omega_aiger.specs.Symbols.{ending, symbols_then}
use Rattle.omega_aiger.specs.private.Outcome.{GoesOn, outcome}
use Rattle.omega_circuit.specs.declared.parts.CircuitParts.{CircuitParts}
use Rattle.omega_circuit.specs.declared.symbol.Symbol.{Symbol}
use Rattle.omega_aiger.proofs.Steps.{stops_after}
use Rattle.std.proofs.Common.{ap₂}
use Rattle.std.proofs.lemmas.Option.{MatchOption-at_none, MatchOption-at_some}
use Rattle.omega_aiger.proofs.Endings.{one_symbol}
use Rattle.omega_aiger.proofs.symbols.symbols_from.Goals as goal

pub returns-in_err-symbol-clause-stops : goal.returns-in_err-symbol-clause-stops
returns-in_err-symbol-clause-stops c =
    let p = err_from_is_err_and c.from_residual.result c.from_residual.ensures.1 in rw (p.1, p.2) (λ made. stops_after c.args.text.now c.args.at c.loop-symbols.end (symbols_then most_symbols [] made) (ending (λ symbol. symbols_then (most_symbols - (length c.loop-symbols.symbols.items + 1)) (c.loop-symbols.symbols.items ++ symbol ∷ []) made) (made c.loop-symbols.symbols.items)) (c.loop-symbols.invariant.read made ∙ one_symbol c.args.text.now c.loop-symbols.end c.loop-symbols.symbols.items made (omega (arith, c.loop-symbols.invariant.room, c.loop-symbols.invariant.within, c.requires.short))) c.in_err-symbol.field-0.0 (c.in_err-symbol.ensures.stops (λ symbol. symbols_then (most_symbols - (length c.loop-symbols.symbols.items + 1)) (c.loop-symbols.symbols.items ++ symbol ∷ []) made) (made c.loop-symbols.symbols.items)))

pub loop-symbols-preserved : goal.loop-symbols-preserved
loop-symbols-preserved c =
    let long = ap (λ (xs : List Symbol). length xs) c.in_ok-push.ensures.items in
    let count = length_push c.loop-symbols.symbols.items c.in-Some.symbol in
    let onward : c.loop-symbols.end < c.in-Some.after = MatchOption-at_some (Unit {0}) (λ (one : Symbol × ℕ). c.loop-symbols.end < one.1) (c.in-Some.symbol, c.in-Some.after) c.in-Some.is c.in_ok-symbol.ensures.onward in
    record {
      within = MatchOption-at_some (Unit {0}) (λ (one : Symbol × ℕ). one.1 ≤ length c.args.text.now) (c.in-Some.symbol, c.in-Some.after) c.in-Some.is c.in_ok-symbol.ensures.within;
      room = omega (arith, long, count, onward, c.loop-symbols.invariant.room);
      read = λ made. c.loop-symbols.invariant.read made ∙ one_symbol c.args.text.now c.loop-symbols.end c.loop-symbols.symbols.items made (omega (arith, c.loop-symbols.invariant.room, c.loop-symbols.invariant.within, c.requires.short))
          ∙ MatchOption-at_some (Unit {0}) (λ (one : Symbol × ℕ). (next : Symbol → Layout) (parts : CircuitParts) → GoesOn c.args.text.now c.loop-symbols.end (ending next parts) one.1 (next one.0)) (c.in-Some.symbol, c.in-Some.after) c.in-Some.is c.in_ok-symbol.ensures.read (λ symbol. symbols_then (most_symbols - (length c.loop-symbols.symbols.items + 1)) (c.loop-symbols.symbols.items ++ symbol ∷ []) made) (made c.loop-symbols.symbols.items)
          ∙ ap₂ (λ (n : ℕ) (xs : List Symbol). outcome (symbols_then (most_symbols - n) xs made) c.in-Some.after (drop c.in-Some.after c.args.text.now)) (let e : length c.loop-symbols.symbols.items + 1 ≡ length c.push.new.self.items = omega (arith, long, count) in e) (sym c.in_ok-push.ensures.items);
    }

pub returns-clause-read : goal.returns-clause-read
returns-clause-read c =
    λ made. c.loop-symbols.invariant.read made ∙ one_symbol c.args.text.now c.loop-symbols.end c.loop-symbols.symbols.items made (omega (arith, c.loop-symbols.invariant.room, c.loop-symbols.invariant.within, c.requires.short))
    ∙ MatchOption-at_none ((next : Symbol → Layout) (parts : CircuitParts) → outcome (ending next parts) c.loop-symbols.end (drop c.loop-symbols.end c.args.text.now) ≡ Ok parts) (λ (one : Symbol × ℕ). Unit {0}) c.in_default.is c.in_ok-symbol.ensures.ended (λ symbol. symbols_then (most_symbols - (length c.loop-symbols.symbols.items + 1)) (c.loop-symbols.symbols.items ++ symbol ∷ []) made) (made c.loop-symbols.symbols.items)
