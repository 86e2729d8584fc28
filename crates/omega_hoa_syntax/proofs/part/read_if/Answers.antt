-- A part is read if one is next.
use Rattle.std.proofs.Common.{refl, rules}
use Rattle.omega_hoa_syntax.proofs.PartLemmas.{IsPart, absent_found, there_found, there_unread}
use Rattle.omega_hoa_syntax.proofs.StepLemmas.{finds_error}
use Rattle.omega_hoa_syntax.proofs.part.read_if.Goals as goal

pub returns-then-not-is_next-clause-finds : goal.returns-then-not-is_next-clause-finds
returns-then-not-is_next-clause-finds g c =
    let part : IsPart g.P.Part.valid g.P.Part.written g.P.Part.first g.P.Part.next = let met = g.met.P.Part c.lifetimes (search rules) in record { begun = met.begun; joins = met.joins; follows = met.follows } in
    absent_found g.P.Part.valid g.P.Part.written g.P.Part.first g.P.Part.next part _ c.if-not-is_next.ensures

pub returns-in_err-value-clause-finds : goal.returns-in_err-value-clause-finds
returns-in_err-value-clause-finds g c =
    finds_error c.from_residual.result _ _ _ _ _ _ _ _ _ c.from_residual.ensures.1 refl
    (there_unread g.P.Part.valid g.P.Part.written g.P.Part.first g.P.Part.next _ _ _ c.if-not-is_next.ensures c.in_err-value.ensures.finds) (λ tokens none. none) (λ before begun. begun)

pub returns-clause-finds : goal.returns-clause-finds
returns-clause-finds g c = there_found g.P.Part.valid g.P.Part.written g.P.Part.first g.P.Part.next _ _ _ c.if-not-is_next.ensures c.in_ok-value.ensures.finds
