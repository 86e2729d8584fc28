-- A segment is read as it is written, and then judged by what it means.
use Rattle.std.proofs.Common.{sym, subst}
use Rattle.omega_hoa.specs.private.Places.{IsPartFault}
use Rattle.omega_hoa.proofs.Ones.{err_says, ok_says}
use Rattle.omega_hoa.proofs.Results.{error_then}
use Rattle.omega_hoa.proofs.Segments.{meaningless_fault, unread_fault}
use Rattle.omega_hoa.proofs.segment.read_segment.Goals as goal

pub returns-in_err-raw-clause-refused : goal.returns-in_err-raw-clause-refused
returns-in_err-raw-clause-refused c =
    error_then c.from_residual.result _ _ c.from_residual.ensures.1
    (λ error is lexemes cut segment. subst (IsPartFault c.args.begins lexemes) (sym is)
    (unread_fault c.args.begins lexemes c.in_err-raw.field-0.0 (c.in_err-raw.ensures.refused lexemes cut segment)))

pub returns-clause-automaton : goal.returns-clause-automaton
returns-clause-automaton c =
    ok_says c.automaton_of.result _ _
    (λ automaton means lexemes cut segment. record { raw = c.in_ok-raw.raw; written = c.in_ok-raw.ensures.written lexemes cut segment; means = means })
    c.automaton_of.ensures.ok

pub returns-clause-refused : goal.returns-clause-refused
returns-clause-refused c =
    err_says c.automaton_of.result _ _
    (λ refusal has lexemes cut segment. meaningless_fault c.args.begins lexemes c.in_ok-raw.raw refusal (c.in_ok-raw.ensures.written lexemes cut segment) has)
    c.automaton_of.ensures.err
