-- Branches stay pending under one more assumption.
use Rattle.std.proofs.Common.{◌&&◌, ◌||◌, [], ◌∷◌, ℕ, Bool, nat_eq, List, reverse, ap, subst, sym, ◌∙◌}
use Rattle.indexmap.proofs.CallerLemmas.{insert_entry-new}
use Rattle.omega_hoa_satisfiable.specs.private.Pending.{IsPending, fits, pending_lead}
use Rattle.omega_hoa_satisfiable.proofs.Branching.{IsPending-more, assumed-more}
use Rattle.omega_hoa_satisfiable.proofs.branches.Branches.assume.Goals as goal

pub returns-clause-leading : goal.returns-clause-leading
returns-clause-leading c held onward now =
    let added = c.in_ok-insert.ensures.entries ∙ insert_entry-new nat_eq c.args.self.now.assumed c.args.proposition c.args.value c.requires.free in
    ap (λ (assumed : List (ℕ × Bool)). (fits held assumed && now) || pending_lead held onward assumed (reverse c.args.self.now.later.items)) added
    ∙ assumed-more held onward now c.args.self.now.assumed.entries c.args.proposition c.args.value (reverse c.args.self.now.later.items) c.requires.pending

pub returns-clause-pending : goal.returns-clause-pending
returns-clause-pending c =
    let added = c.in_ok-insert.ensures.entries ∙ insert_entry-new nat_eq c.args.self.now.assumed c.args.proposition c.args.value c.requires.free in
    subst (λ (assumed : List (ℕ × Bool)). IsPending assumed (reverse c.args.self.now.later.items)) (sym added)
    (IsPending-more c.args.self.now.assumed.entries ((c.args.proposition, c.args.value) ∷ []) (reverse c.args.self.now.later.items) c.requires.pending)
