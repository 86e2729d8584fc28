-- the last conjunct, or the product with the automaton of the first, which is met with the others
use Rattle.std.proofs.Common.{◌<◌, false, List, get_or, length, sym, subst, arith}
use Rattle.std.proofs.lemmas.Result.{IfErr-weaker, IfOk-weaker, err_from_is_err_and}
use Rattle.omega_ltl_formula.specs.Table.{tree_at}
use Rattle.omega_ltl_satisfaction.specs.Conjuncts.{IsConjunctOf}
use Rattle.omega_ltl_satisfaction.specs.declared.conjunct.Conjunct.{Conjunct}
use Rattle.omega_ltl_satisfaction.specs.private.Conjuncts.{conjunct_of, conjunct_over}
use Rattle.omega_ltl_satisfaction.specs.private.Meeting.{IsMeeting}
use Rattle.omega_ltl_satisfaction.proofs.Firsts.{first_all, first_and_others, only_first, others}
use Rattle.omega_ltl_satisfaction.proofs.Firsts.{others_all, others_are_some, others_fewer, others_some}
use Rattle.omega_ltl_satisfaction.proofs.MetLemmas.{last_met, next_met}
use Rattle.omega_ltl_satisfaction.proofs.Refused.{conjunct_automaton, graph_refused, product_refused}
use Rattle.omega_ltl_satisfaction.proofs.Refused.{refused_before}
use Rattle.omega_ltl_satisfaction.proofs.Unbranched.{product_plain}
use Rattle.omega_ltl_satisfaction.proofs.meeting.+common_words.Goals as goal

pub returns-then-conjuncts-eq1-clause-right : goal.returns-then-conjuncts-eq1-clause-right
returns-then-conjuncts-eq1-clause-right t c =
    let formula = c.args.formula.now in
    let conjuncts : List Conjunct = c.args.conjuncts.now in
    let none : Conjunct = conjunct_of 0 false in
    IfOk-weaker c.intersection.result _ _
    (λ answer right. subst (λ (l : List Conjunct). IsMeeting c.args.one.now formula l answer) (sym (only_first conjuncts none c.if-conjuncts-eq1.true))
    (last_met formula c.args.one.now c.in_ok-part.part (get_or conjuncts 0 none) c.in_ok-part.ensures.automaton answer right))
    c.intersection.ensures.right

pub returns-then-conjuncts-eq1-clause-refused : goal.returns-then-conjuncts-eq1-clause-refused
returns-then-conjuncts-eq1-clause-refused t c =
    let table = c.args.formula.now.table in
    let conjuncts : List Conjunct = c.args.conjuncts.now in
    let none : Conjunct = conjunct_of 0 false in
    IfErr-weaker c.intersection.result _ _
    (λ refusal refused whole are. graph_refused table whole c.args.one.now c.in_ok-part.part (get_or conjuncts 0 none) c.in_ok-part.ensures.automaton
    (first_all (λ (part : Conjunct). IsConjunctOf whole (conjunct_over (tree_at table) part)) conjuncts none c.requires.some are.each)
    c.requires.plain refusal refused)
    c.intersection.ensures.refused

pub returns-in_err-both-clause-refused : goal.returns-in_err-both-clause-refused
returns-in_err-both-clause-refused t c =
    let table = c.args.formula.now.table in
    let conjuncts : List Conjunct = c.args.conjuncts.now in
    let none : Conjunct = conjunct_of 0 false in
    let p = err_from_is_err_and c.from_residual-in_err-both.result c.from_residual-in_err-both.ensures.1 in
    rw (p.1, p.2)
    (λ whole are. product_refused table whole c.args.one.now c.in_ok-part.part (get_or conjuncts 0 none) c.in_ok-part.ensures.automaton
    (first_all (λ (part : Conjunct). IsConjunctOf whole (conjunct_over (tree_at table) part)) conjuncts none c.requires.some are.each)
    c.requires.plain c.in_err-both.field-0.0 c.in_err-both.ensures.refused)

pub common_words-requires : goal.common_words-requires
common_words-requires t c =
    let table = c.args.formula.now.table in
    let conjuncts : List Conjunct = c.args.conjuncts.now in
    let fewer : length (others conjuncts) < length conjuncts = others_fewer conjuncts c.requires.some in
    let more = others_some conjuncts c.requires.some c.if-conjuncts-eq1.false in
    let within = others_all (λ (part : Conjunct). part.node < length table.nodes) conjuncts c.requires.some c.requires.within in
    let plain = product_plain c.args.one.now c.in_ok-part.part c.in_ok-both.both c.in_ok-both.ensures.product in
    (omega (arith, c.decreases, fewer), (more, (within, plain)))

pub returns-in_err-answer-clause-refused : goal.returns-in_err-answer-clause-refused
returns-in_err-answer-clause-refused t c =
    let table = c.args.formula.now.table in
    let conjuncts : List Conjunct = c.args.conjuncts.now in
    let none : Conjunct = conjunct_of 0 false in
    let p = err_from_is_err_and c.from_residual-in_err-answer.result c.from_residual-in_err-answer.ensures.1 in
    rw (p.1, p.2)
    (λ whole are. refused_before whole c.args.one.now c.in_ok-part.part c.in_ok-both.both
    (conjunct_automaton table whole c.args.one.now c.in_ok-part.part (get_or conjuncts 0 none) c.in_ok-part.ensures.automaton
    (first_all (λ (part : Conjunct). IsConjunctOf whole (conjunct_over (tree_at table) part)) conjuncts none c.requires.some are.each))
    c.in_ok-both.ensures.product c.in_err-answer.field-0.0
    (c.in_err-answer.ensures.refused whole (others_are_some table whole conjuncts c.requires.some are)))

pub returns-clause-right : goal.returns-clause-right
returns-clause-right t c =
    let formula = c.args.formula.now in
    let conjuncts : List Conjunct = c.args.conjuncts.now in
    let none : Conjunct = conjunct_of 0 false in
    IfOk-weaker c.first_answer.result _ _
    (λ first step. subst (λ (l : List Conjunct). IsMeeting c.args.one.now formula l first) (sym (first_and_others conjuncts none c.requires.some))
    (next_met formula c.args.one.now c.in_ok-part.part (get_or conjuncts 0 none) c.in_ok-part.ensures.automaton c.keeps_limits.ensures c.keeps_limits-2.ensures
    c.requires.plain (others conjuncts) c.in_ok-both.both c.in_ok-both.ensures.product c.in_ok-answer.answer first step c.in_ok-answer.ensures.right))
    c.first_answer.ensures.answer

pub returns-clause-refused : goal.returns-clause-refused
returns-clause-refused t c =
    let table = c.args.formula.now.table in
    let conjuncts : List Conjunct = c.args.conjuncts.now in
    let none : Conjunct = conjunct_of 0 false in
    IfErr-weaker c.first_answer.result _ _
    (λ refusal refused whole are. graph_refused table whole c.args.one.now c.in_ok-part.part (get_or conjuncts 0 none) c.in_ok-part.ensures.automaton
    (first_all (λ (part : Conjunct). IsConjunctOf whole (conjunct_over (tree_at table) part)) conjuncts none c.requires.some are.each)
    c.requires.plain refusal refused)
    c.first_answer.ensures.refused
