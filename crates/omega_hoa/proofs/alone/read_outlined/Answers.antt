-- What the tokens of a text are decides what is read, or why nothing is.
use Rattle.std.proofs.Common.{◌≤◌, length, sym, subst}
use Rattle.omega_text.specs.Cases.{or_memory}
use Rattle.omega_text.specs.Limits.{most_text}
use Rattle.omega_hoa.specs.Alone.{IsAutomatonRefusal}
use Rattle.omega_hoa.specs.private.outlines.Outline.{HasOutline}
use Rattle.omega_hoa.proofs.Ones.{aborted_refused, empty_refused, fault_refused, open_refused, stray_refused}
use Rattle.omega_hoa.proofs.Results.{error_then}
use Rattle.omega_hoa.proofs.alone.read_outlined.Goals as goal

pub returns-in_err-outline-clause-refused : goal.returns-in_err-outline-clause-refused
returns-in_err-outline-clause-refused c =
    let short : length c.args.bytes.now ≤ most_text = c.requires in
    error_then c.from_residual.result _ _ c.from_residual.ensures.1
    (λ error is. subst (or_memory (IsAutomatonRefusal c.args.bytes.now)) (sym is) (fault_refused c.args.bytes.now c.in_err-outline.field-0.0 short c.in_err-outline.ensures.fault))

pub returns-in-Empty-clause-refused : goal.returns-in-Empty-clause-refused
returns-in-Empty-clause-refused c =
    let short : length c.args.bytes.now ≤ most_text = c.requires in
    subst (or_memory (IsAutomatonRefusal c.args.bytes.now)) (sym c.syntax_fault.ensures)
    (empty_refused c.args.bytes.now short (subst (HasOutline c.args.bytes.now) c.in-Empty.is c.in_ok-outline.ensures.outline))

pub returns-in-Open-clause-refused : goal.returns-in-Open-clause-refused
returns-in-Open-clause-refused c =
    let short : length c.args.bytes.now ≤ most_text = c.requires in
    subst (or_memory (IsAutomatonRefusal c.args.bytes.now)) (sym c.syntax_fault-in-Open.ensures)
    (open_refused c.args.bytes.now short (subst (HasOutline c.args.bytes.now) c.in-Open.is c.in_ok-outline.ensures.outline))

pub returns-in-Stray-clause-refused : goal.returns-in-Stray-clause-refused
returns-in-Stray-clause-refused c =
    let short : length c.args.bytes.now ≤ most_text = c.requires in
    subst (or_memory (IsAutomatonRefusal c.args.bytes.now)) (sym c.syntax_fault-in-Stray.ensures)
    (stray_refused c.args.bytes.now short c.in-Stray.at (subst (HasOutline c.args.bytes.now) c.in-Stray.is c.in_ok-outline.ensures.outline))

pub returns-in-Aborted-clause-refused : goal.returns-in-Aborted-clause-refused
returns-in-Aborted-clause-refused c =
    let short : length c.args.bytes.now ≤ most_text = c.requires in
    subst (or_memory (IsAutomatonRefusal c.args.bytes.now)) (sym c.syntax_fault-in-Aborted.ensures)
    (aborted_refused c.args.bytes.now short c.in-Aborted.at (subst (HasOutline c.args.bytes.now) c.in-Aborted.is c.in_ok-outline.ensures.outline))
