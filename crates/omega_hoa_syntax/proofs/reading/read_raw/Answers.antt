-- The automaton that is read is one that was written, and if none was written none is read.
use Rattle.omega_hoa_syntax.specs.private.steps.Joining.{each_joins, item_joins, state_joins}
use Rattle.omega_hoa_expression.proofs.ClosingLemmas.{plain}
use Rattle.omega_hoa_syntax.proofs.BegunLemmas.{automaton_begun, completed, sign_first, word_first}
use Rattle.std.proofs.Common.{refl, ◌∙◌, ◌∷◌, [], codes}
use Rattle.omega_hoa_syntax.proofs.RowLemmas.{automaton_unread, only_found, raw_same}
use Rattle.omega_hoa_syntax.proofs.StepLemmas.{none_after, passes_after, none_after_token}
use Rattle.omega_hoa_syntax.specs.Grammar.{each, item_row, state_row}
use Rattle.omega_hoa_syntax.specs.Symbols.{sign, word, header}
use Rattle.omega_text.specs.declared.hoa.kind.HoaKind.TheVariants as kind
use Rattle.omega_hoa_syntax.proofs.reading.read_raw.Goals as goal

pub returns-clause-ok : goal.returns-clause-ok
returns-clause-ok g c = record {
  items = c.in_ok-items.ensures.gives.is;
  states = c.in_ok-states.ensures.gives.is;
  spells = c.in_ok-take_header.ensures.gives (word c.in_ok-version.version ∷ each item_row c.in_ok-items.items (sign kind.Body ∷ each state_row c.in_ok-states.states (sign kind.End ∷ []))) (g.S.TokenSource.left c.take_sign-2.new.source)
      (c.in_ok-version.ensures.gives.spells (each item_row c.in_ok-items.items (sign kind.Body ∷ each state_row c.in_ok-states.states (sign kind.End ∷ []))) (g.S.TokenSource.left c.take_sign-2.new.source)
      (c.in_ok-items.ensures.gives.spells (sign kind.Body ∷ each state_row c.in_ok-states.states (sign kind.End ∷ [])) (g.S.TokenSource.left c.take_sign-2.new.source)
      (c.in_ok-take_sign.ensures.gives (each state_row c.in_ok-states.states (sign kind.End ∷ [])) (g.S.TokenSource.left c.take_sign-2.new.source)
      (c.in_ok-states.ensures.gives.spells (sign kind.End ∷ []) (g.S.TokenSource.left c.take_sign-2.new.source)
      (c.in_ok-take_sign-2.ensures.gives [] (g.S.TokenSource.left c.take_sign-2.new.source) refl)))));
}

pub returns-clause-only : goal.returns-clause-only
returns-clause-only g c =
    only_found (record { version = c.in_ok-version.version; items = c.in_ok-items.items; states = c.in_ok-states.states }) _ _ (passes_after _ _ _ _ _ c.in_ok-take_header.ensures.finds (passes_after _ _ _ _ _ c.in_ok-version.ensures.finds (passes_after _ _ _ _ _ c.in_ok-items.ensures.finds (passes_after _ _ _ _ _ c.in_ok-take_sign.ensures.finds (passes_after _ _ _ _ _ c.in_ok-states.ensures.finds c.in_ok-take_sign-2.ensures.finds)))))
    (λ tokens left t raw rest reads.
    let s1 = t.first (word raw.version ∷ each item_row raw.items (sign kind.Body ∷ each state_row raw.states (sign kind.End ∷ []))) rest reads.spells in
    let s2 = t.second.first raw.version (each item_row raw.items (sign kind.Body ∷ each state_row raw.states (sign kind.End ∷ []))) rest tt tt s1 in
    let s3 = t.second.second.first raw.items (sign kind.Body ∷ each state_row raw.states (sign kind.End ∷ [])) rest reads.items (refl, tt) s2.1 in
    let s4 = t.second.second.second.first (each state_row raw.states (sign kind.End ∷ [])) rest s3.1 in
    let s5 = t.second.second.second.second.first raw.states (sign kind.End ∷ []) rest reads.states (refl, tt) s4 in
    (raw_same c.in_ok-version.version c.in_ok-items.items c.in_ok-states.states raw s2.0 s3.0 s5.0, t.second.second.second.second.second [] rest s5.1))

pub returns-in_err-take_header-clause-err : goal.returns-in_err-take_header-clause-err
returns-in_err-take_header-clause-err g c =
    automaton_unread c.from_residual.result _ _ _ _ _ c.from_residual.ensures.1 refl
    c.in_err-take_header.ensures.finds
    (λ tokens t raw rest reads.
    t (word raw.version ∷ each item_row raw.items (sign kind.Body ∷ each state_row raw.states (sign kind.End ∷ []))) rest reads.spells)
    (λ before b.
    let d = completed (λ others. word [] ∷ sign kind.Body ∷ sign kind.End ∷ others) (plain kind.Identifier ∷ plain kind.Body ∷ plain kind.End ∷ []) before tt
    (λ left others rest ends spells. word_first (plain kind.Body ∷ plain kind.End ∷ left) (sign kind.Body ∷ sign kind.End ∷ others) rest
    (sign_first kind.Body (plain kind.End ∷ left) (sign kind.End ∷ others) rest (sign_first kind.End left others rest spells))) b in
    automaton_begun before d.more (record { version = []; items = []; states = [] }) tt tt d.spells)

pub returns-in_err-version-clause-err : goal.returns-in_err-version-clause-err
returns-in_err-version-clause-err g c =
    automaton_unread c.from_residual-in_err-version.result _ _ _ _ _ c.from_residual-in_err-version.ensures.1 c.in_ok-take_header.ensures.length
    (none_after_token _ _ _ _ _ _ _ _ (header (codes "HOA")) (λ tokens others rest splits. splits) c.in_ok-take_header.ensures.finds
    (c.in_ok-take_header.ensures.gives [] _ refl) c.in_err-version.ensures.finds)
    (λ tokens t raw rest reads.
    let s1 = t.first (word raw.version ∷ each item_row raw.items (sign kind.Body ∷ each state_row raw.states (sign kind.End ∷ []))) rest reads.spells in
    t.second raw.version (each item_row raw.items (sign kind.Body ∷ each state_row raw.states (sign kind.End ∷ []))) rest tt tt s1)
    (λ before b.
    let d = completed (λ others. sign kind.Body ∷ sign kind.End ∷ others) (plain kind.Body ∷ plain kind.End ∷ []) before tt
    (λ left others rest ends spells. sign_first kind.Body (plain kind.End ∷ left) (sign kind.End ∷ others) rest (sign_first kind.End left others rest spells)) b in
    automaton_begun before d.more (record { version = d.it; items = []; states = [] }) tt tt d.spells)

pub returns-in_err-items-clause-err : goal.returns-in_err-items-clause-err
returns-in_err-items-clause-err g c =
    automaton_unread c.from_residual-in_err-items.result _ _ _ _ _ c.from_residual-in_err-items.ensures.1 (c.in_ok-version.ensures.length ∙ c.in_ok-take_header.ensures.length)
    (none_after_token _ _ _ _ _ _ _ _ (header (codes "HOA")) (λ tokens others rest splits. splits) c.in_ok-take_header.ensures.finds
    (c.in_ok-take_header.ensures.gives [] _ refl) (none_after_token _ _ _ _ _ _ _ _ (word c.in_ok-version.version) (λ tokens others rest splits. splits) c.in_ok-version.ensures.finds
    (c.in_ok-version.ensures.gives.spells [] _ refl) c.in_err-items.ensures.finds))
    (λ tokens t raw rest reads.
    let s1 = t.first (word raw.version ∷ each item_row raw.items (sign kind.Body ∷ each state_row raw.states (sign kind.End ∷ []))) rest reads.spells in
    let s2 = t.second.first raw.version (each item_row raw.items (sign kind.Body ∷ each state_row raw.states (sign kind.End ∷ []))) rest tt tt s1 in
    t.second.second raw.items (sign kind.Body ∷ each state_row raw.states (sign kind.End ∷ [])) rest reads.items (refl, tt) s2.1)
    (λ before b.
    let d = completed (λ others. sign kind.Body ∷ sign kind.End ∷ others) (plain kind.Body ∷ plain kind.End ∷ []) before tt
    (λ left others rest ends spells. sign_first kind.Body (plain kind.End ∷ left) (sign kind.End ∷ others) rest (sign_first kind.End left others rest spells)) b in
    automaton_begun before d.more (record { version = c.in_ok-version.version; items = d.it; states = [] }) d.is tt d.spells)

pub returns-in_err-take_sign-clause-err : goal.returns-in_err-take_sign-clause-err
returns-in_err-take_sign-clause-err g c =
    automaton_unread c.from_residual-in_err-take_sign.result _ _ _ _ _ c.from_residual-in_err-take_sign.ensures.1 (c.in_ok-items.ensures.length ∙ (c.in_ok-version.ensures.length ∙ c.in_ok-take_header.ensures.length))
    (none_after_token _ _ _ _ _ _ _ _ (header (codes "HOA")) (λ tokens others rest splits. splits) c.in_ok-take_header.ensures.finds
    (c.in_ok-take_header.ensures.gives [] _ refl) (none_after_token _ _ _ _ _ _ _ _ (word c.in_ok-version.version) (λ tokens others rest splits. splits) c.in_ok-version.ensures.finds
    (c.in_ok-version.ensures.gives.spells [] _ refl) (none_after _ _ _ _ _ _ _ _ (each item_row c.in_ok-items.items) c.in_ok-items.ensures.finds (each_joins item_row item_joins c.in_ok-items.items)
    c.in_ok-items.ensures.gives.spells (λ it is. tt) c.in_err-take_sign.ensures.finds)))
    (λ tokens t raw rest reads.
    let s1 = t.first (word raw.version ∷ each item_row raw.items (sign kind.Body ∷ each state_row raw.states (sign kind.End ∷ []))) rest reads.spells in
    let s2 = t.second.first raw.version (each item_row raw.items (sign kind.Body ∷ each state_row raw.states (sign kind.End ∷ []))) rest tt tt s1 in
    let s3 = t.second.second.first raw.items (sign kind.Body ∷ each state_row raw.states (sign kind.End ∷ [])) rest reads.items (refl, tt) s2.1 in
    t.second.second.second (each state_row raw.states (sign kind.End ∷ [])) rest s3.1)
    (λ before b.
    let d = completed (λ others. sign kind.End ∷ others) (plain kind.End ∷ []) before tt (λ left others rest ends spells. sign_first kind.End left others rest spells) b in
    automaton_begun before d.more (record { version = c.in_ok-version.version; items = c.in_ok-items.items; states = [] }) c.in_ok-items.ensures.gives.is tt d.spells)

pub returns-in_err-states-clause-err : goal.returns-in_err-states-clause-err
returns-in_err-states-clause-err g c =
    automaton_unread c.from_residual-in_err-states.result _ _ _ _ _ c.from_residual-in_err-states.ensures.1 (c.in_ok-take_sign.ensures.length ∙ (c.in_ok-items.ensures.length ∙ (c.in_ok-version.ensures.length ∙ c.in_ok-take_header.ensures.length)))
    (none_after_token _ _ _ _ _ _ _ _ (header (codes "HOA")) (λ tokens others rest splits. splits) c.in_ok-take_header.ensures.finds
    (c.in_ok-take_header.ensures.gives [] _ refl) (none_after_token _ _ _ _ _ _ _ _ (word c.in_ok-version.version) (λ tokens others rest splits. splits) c.in_ok-version.ensures.finds
    (c.in_ok-version.ensures.gives.spells [] _ refl) (none_after _ _ _ _ _ _ _ _ (each item_row c.in_ok-items.items) c.in_ok-items.ensures.finds (each_joins item_row item_joins c.in_ok-items.items)
    c.in_ok-items.ensures.gives.spells (λ it is. tt) (none_after_token _ _ _ _ _ _ _ _ (sign kind.Body) (λ tokens others rest splits. splits) c.in_ok-take_sign.ensures.finds
    (c.in_ok-take_sign.ensures.gives [] _ refl) c.in_err-states.ensures.finds))))
    (λ tokens t raw rest reads.
    let s1 = t.first (word raw.version ∷ each item_row raw.items (sign kind.Body ∷ each state_row raw.states (sign kind.End ∷ []))) rest reads.spells in
    let s2 = t.second.first raw.version (each item_row raw.items (sign kind.Body ∷ each state_row raw.states (sign kind.End ∷ []))) rest tt tt s1 in
    let s3 = t.second.second.first raw.items (sign kind.Body ∷ each state_row raw.states (sign kind.End ∷ [])) rest reads.items (refl, tt) s2.1 in
    let s4 = t.second.second.second.first (each state_row raw.states (sign kind.End ∷ [])) rest s3.1 in
    t.second.second.second.second raw.states (sign kind.End ∷ []) rest reads.states (refl, tt) s4)
    (λ before b.
    let d = completed (λ others. sign kind.End ∷ others) (plain kind.End ∷ []) before tt (λ left others rest ends spells. sign_first kind.End left others rest spells) b in
    automaton_begun before d.more (record { version = c.in_ok-version.version; items = c.in_ok-items.items; states = d.it }) c.in_ok-items.ensures.gives.is d.is d.spells)

pub returns-in_err-take_sign-2-clause-err : goal.returns-in_err-take_sign-2-clause-err
returns-in_err-take_sign-2-clause-err g c =
    automaton_unread c.from_residual-in_err-take_sign-2.result _ _ _ _ _ c.from_residual-in_err-take_sign-2.ensures.1 (c.in_ok-states.ensures.length ∙ (c.in_ok-take_sign.ensures.length ∙ (c.in_ok-items.ensures.length ∙ (c.in_ok-version.ensures.length ∙ c.in_ok-take_header.ensures.length))))
    (none_after_token _ _ _ _ _ _ _ _ (header (codes "HOA")) (λ tokens others rest splits. splits) c.in_ok-take_header.ensures.finds
    (c.in_ok-take_header.ensures.gives [] _ refl) (none_after_token _ _ _ _ _ _ _ _ (word c.in_ok-version.version) (λ tokens others rest splits. splits) c.in_ok-version.ensures.finds
    (c.in_ok-version.ensures.gives.spells [] _ refl) (none_after _ _ _ _ _ _ _ _ (each item_row c.in_ok-items.items) c.in_ok-items.ensures.finds (each_joins item_row item_joins c.in_ok-items.items)
    c.in_ok-items.ensures.gives.spells (λ it is. tt) (none_after_token _ _ _ _ _ _ _ _ (sign kind.Body) (λ tokens others rest splits. splits) c.in_ok-take_sign.ensures.finds
    (c.in_ok-take_sign.ensures.gives [] _ refl) (none_after _ _ _ _ _ _ _ _ (each state_row c.in_ok-states.states) c.in_ok-states.ensures.finds (each_joins state_row state_joins c.in_ok-states.states)
    c.in_ok-states.ensures.gives.spells (λ it is. tt) c.in_err-take_sign-2.ensures.finds)))))
    (λ tokens t raw rest reads.
    let s1 = t.first (word raw.version ∷ each item_row raw.items (sign kind.Body ∷ each state_row raw.states (sign kind.End ∷ []))) rest reads.spells in
    let s2 = t.second.first raw.version (each item_row raw.items (sign kind.Body ∷ each state_row raw.states (sign kind.End ∷ []))) rest tt tt s1 in
    let s3 = t.second.second.first raw.items (sign kind.Body ∷ each state_row raw.states (sign kind.End ∷ [])) rest reads.items (refl, tt) s2.1 in
    let s4 = t.second.second.second.first (each state_row raw.states (sign kind.End ∷ [])) rest s3.1 in
    let s5 = t.second.second.second.second.first raw.states (sign kind.End ∷ []) rest reads.states (refl, tt) s4 in
    t.second.second.second.second.second [] rest s5.1)
    (λ before b. automaton_begun before b.more (record { version = c.in_ok-version.version; items = c.in_ok-items.items; states = c.in_ok-states.states }) c.in_ok-items.ensures.gives.is c.in_ok-states.ensures.gives.is b.spells)
