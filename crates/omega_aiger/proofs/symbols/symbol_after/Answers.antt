-- The position and then the name.
use Rattle.std.proofs.Common.{◌+◌, ℕ, List, length, take, refl, ap, ◌∙◌, arith}
use Rattle.std.proofs.lemmas.Result.{err_from_is_err_and}
use Rattle.omega_aiger.specs.Layout.{line}
use Rattle.omega_aiger.specs.Symbols.{symbol_of}
use Rattle.std.specs.List.{prefix_len}
use Rattle.std.proofs.lemmas.List.{take_rest}
use Rattle.omega_aiger.specs.private.Outcome.{is_in_line}
use Rattle.omega_aiger.proofs.Steps.{cut_line_there, step_line}
use Rattle.omega_aiger.proofs.symbols.symbol_after.Goals as goal

pub returns-in_err-position-clause-stops : goal.returns-in_err-position-clause-stops
returns-in_err-position-clause-stops c =
    let p = err_from_is_err_and c.from_residual.result c.from_residual.ensures.1 in rw (p.1, p.2) (λ more. c.in_err-position.ensures.stops (λ position. line (λ name. more (symbol_of c.args.kind position name))))

pub returns-then-count-rest-clause-stops : goal.returns-then-count-rest-clause-stops
returns-then-count-rest-clause-stops c =
    λ more. c.in_ok-position.ensures.read (λ position. line (λ name. more (symbol_of c.args.kind position name)))
    ∙ cut_line_there c.args.text.now c.in_ok-position.start c.count_in_line-count.result (c.count_in_line-count.ensures ∙ ap (λ (l : List ℕ). prefix_len is_in_line l) (take_rest c.args.text.now c.in_ok-position.start)) (let e = ap (λ (l : List ℕ). length l) (take_rest c.args.text.now c.in_ok-position.start) in omega (arith, e, c.if-count-rest.true)) c.in_ok-position.ensures.within (λ name. more (symbol_of c.args.kind c.in_ok-position.position name))

pub returns-clause-read : goal.returns-clause-read
returns-clause-read c =
    λ more. c.in_ok-position.ensures.read (λ position. line (λ name. more (symbol_of c.args.kind position name)))
    ∙ step_line c.args.text.now c.in_ok-position.start c.count_in_line-count.result (c.count_in_line-count.ensures ∙ ap (λ (l : List ℕ). prefix_len is_in_line l) (take_rest c.args.text.now c.in_ok-position.start)) c.in_ok-name.name (c.in_ok-position.start + c.count_in_line-count.result + 1) (c.in_ok-name.ensures ∙ ap (take c.count_in_line-count.result) (take_rest c.args.text.now c.in_ok-position.start))
    (let e = ap (λ (l : List ℕ). length l) (take_rest c.args.text.now c.in_ok-position.start) in omega (arith, e, c.if-count-rest.false)) refl (λ name. more (symbol_of c.args.kind c.in_ok-position.position name))
