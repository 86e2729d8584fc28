-- Tokens begin with at most one automaton.
use Rattle.std.proofs.Common.{◌≡◌, List, [], ◌∷◌, refl, sym, ◌∙◌}
use Rattle.omega_hoa_acceptance.specs.Reading.{FormulasAreOne}
use Rattle.omega_hoa_label_text.specs.Reading.{LabelsAreOne}
use Rattle.omega_hoa_syntax.proofs.uniqueness.Body.{state_one, state_part}
use Rattle.omega_hoa_syntax.proofs.uniqueness.Items.{item_one, item_part}
use Rattle.omega_hoa_syntax.proofs.uniqueness.Rows.{each_one}
use Rattle.omega_hoa_syntax.proofs.uniqueness.Tokens.{sign_passed, token_one}
use Rattle.omega_hoa_syntax.proofs.RowLemmas.{raw_same}
use Rattle.omega_hoa_syntax.specs.Grammar.{IsRawItem, IsRawState, each, item_row, state_row}
use Rattle.omega_hoa_syntax.specs.Laws.{RawsAreOne}
use Rattle.omega_hoa_syntax.specs.private.steps.Parts.{EndsItem, EndsState, is_header}
use Rattle.omega_hoa_syntax.specs.Symbols.{AutomatonSymbol, header, sign, word}
use Rattle.omega_hoa_syntax.specs.declared.raw_automaton.RawAutomaton.{RawAutomaton}
use Rattle.omega_text.specs.declared.hoa.kind.HoaKind.TheVariants as kind

-- what follows the items, and the version
abbrev after_items : RawAutomaton → List AutomatonSymbol
after_items raw = sign kind.Body ∷ each state_row raw.states (sign kind.End ∷ [])

abbrev after_version : RawAutomaton → List AutomatonSymbol
after_version raw = each item_row raw.items (after_items raw)

pub raw_one : LabelsAreOne → FormulasAreOne → RawsAreOne
raw_one labels formulas tokens x rest reads y left other =
    let a = token_one (header _) (header _) tokens (word x.version ∷ after_version x) (word y.version ∷ after_version y) rest left tt tt reads.spells other.spells in
    let b = token_one (word x.version) (word y.version) a.1.middle (after_version x) (after_version y) rest left tt tt a.1.one a.1.other in
    let c = each_one IsRawItem item_row is_header EndsItem item_part (item_one labels formulas) b.1.middle x.items y.items (after_items x) (after_items y) rest left reads.items other.items (refl, tt) (refl, tt) b.1.one b.1.other in
    let body = sign_passed kind.Body c.1.middle (each state_row x.states (sign kind.End ∷ [])) (each state_row y.states (sign kind.End ∷ [])) rest left (λ lexeme. refl) c.1.one c.1.other in
    let d = each_one IsRawState state_row is_header EndsState state_part (state_one labels) body.middle x.states y.states (sign kind.End ∷ []) (sign kind.End ∷ []) rest left reads.states other.states (refl, tt) (refl, tt) body.one body.other in
    let following = sign_passed kind.End d.1.middle [] [] rest left (λ lexeme. refl) d.1.one d.1.other in
    let version : x.version ≡ y.version = let same : word x.version ≡ word y.version = b.0 in cc in
    (raw_same x.version x.items x.states y version c.0 d.0, ◌∙◌ {b = following.middle} (sym following.one) following.other)
