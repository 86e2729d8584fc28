-- `tell`: the state that was found is the one that the edge leaves.
use Rattle.std.proofs.Common.{◌≡◌, ◌++◌, List, ℕ, subst, sym}
use Rattle.std.specs.Prelude.{OnOk}
use Rattle.omega_lang_lasso_word.proofs.Sources.{found_state}
use Rattle.omega_lang_lasso_word.proofs.run.VisitsElementTextU32.tell.Goals as goal

pub returns-in-Some-clause-text : goal.returns-in-Some-clause-text
returns-in-Some-clause-text c =
    subst (λ (text : List ℕ). OnOk c.write_state.result (c.write_state.new.out.items ≡ c.args.out.now.items ++ text))
    (sym (found_state c.args.self.now.automaton.now c.args.number.now c.in-Some.found c.in-Some.ensures.edge c.in-Some.ensures.within)) c.write_state.ensures.text
