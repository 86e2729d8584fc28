-- A literal fails or holds under the assumptions, or it is tried, and the other branch is pending.
use Rattle.std.proofs.Common.{◌&&◌, ◌||◌, Bool, reverse, ap, sym, ◌∙◌}
use Rattle.omega_hoa_satisfiable.specs.private.Pending.{fits, pending_lead}
use Rattle.omega_hoa_satisfiable.proofs.Branching.{as-another, as-same, fails-now, holds-now, whole-now}
use Rattle.omega_hoa_satisfiable.proofs.branches.Branches.take.Goals as goal

pub returns-in-Some-clause-ok : goal.returns-in-Some-clause-ok
returns-in-Some-clause-ok c held onward whole =
    fails-now held onward c.args.self.now.assumed.entries (reverse c.args.self.now.later.items) c.args.literal.proposition c.args.literal.sign c.in-Some.value
    c.args.literal.next c.args.literal.otherwise (sym c.value_of.ensures ∙ c.in-Some.is)
    (as-another c.args.literal.sign c.in-Some.value c.if-value-literal.true)

pub returns-in-Some-2-clause-ok : goal.returns-in-Some-2-clause-ok
returns-in-Some-2-clause-ok c held onward whole =
    let branches = c.args.self.now in
    ap (λ (now : Bool). (fits held branches.assumed.entries && now) || pending_lead held onward branches.assumed.entries (reverse branches.later.items))
    (whole-now (onward c.args.literal.next) (onward c.args.literal.otherwise) (whole c.if-literal.true))
    ∙ holds-now held onward branches.assumed.entries (reverse branches.later.items) c.args.literal.proposition c.args.literal.sign c.in-Some.value
    c.args.literal.next c.args.literal.otherwise (sym c.value_of.ensures ∙ c.in-Some.is)
    (as-same c.args.literal.sign c.in-Some.value c.if-value-literal.false)

pub returns-in_ok-defer-in-Some-3-clause-ok : goal.returns-in_ok-defer-in-Some-3-clause-ok
returns-in_ok-defer-in-Some-3-clause-ok c held onward whole =
    let branches = c.args.self.now in
    c.in_ok-defer-in-Some-3.ensures.leading held onward (onward c.args.literal.next)
    ∙ holds-now held onward branches.assumed.entries (reverse branches.later.items) c.args.literal.proposition c.args.literal.sign c.in-Some.value
    c.args.literal.next c.args.literal.otherwise (sym c.value_of.ensures ∙ c.in-Some.is)
    (as-same c.args.literal.sign c.in-Some.value c.if-value-literal.false)
