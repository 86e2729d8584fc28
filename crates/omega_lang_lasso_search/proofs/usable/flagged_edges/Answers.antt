-- one flag more
use Rattle.std.proofs.Common.{◌≡◌, ℕ, Bool, false, List, get_or, refl, subst, arith}
use Rattle.omega_hoa_automaton.specs.Automaton.{edge_count}
use Rattle.omega_lang_lasso_search.proofs.Flags.{Chosen, chosen_more, chosen_usable, rising_more}
use Rattle.omega_lang_lasso_search.proofs.usable.flagged_edges.Goals as goal

pub loop-number-preserved : goal.loop-number-preserved
loop-number-preserved c =
    let edges : List ℕ = c.loop-number.edges.items in
    let after : List ℕ = c.add_chosen.new.numbers.items in
    let bound : ℕ = c.loop-number.number in
    let flag : Bool = get_or c.args.flags.now bound false in (
      chosen_more c.args.flags.now edges after bound flag refl c.in_ok-add_chosen.ensures.numbers c.loop-number.invariant.0,
      rising_more edges after bound flag c.in_ok-add_chosen.ensures.numbers (λ number has. (c.loop-number.invariant.0.0 number has).0) c.loop-number.invariant.1,
    )

pub returns-clause-usable : goal.returns-clause-usable
returns-clause-usable c =
    let all : c.loop-number.number ≡ edge_count c.args.automaton.now = omega arith in
    chosen_usable c.args.automaton.now c.args.flags.now c.loop-number.edges.items c.requires
    (subst (λ (bound : ℕ). Chosen c.args.flags.now c.loop-number.edges.items bound) all c.loop-number.invariant.0)
