-- the letter, `&` and the label
use Rattle.std.proofs.Common.{◌≡◌, ℕ, Bool, List, [], ◌∷◌, ◌++◌, get_or, length, ap, sym, ◌∙◌}
use Rattle.std.proofs.lemmas.Result.{on_ok_weaker}
use Rattle.omega_canon.proofs.Lines.{following}
use Rattle.omega_graph.specs.Graph.{listed}
use Rattle.omega_hoa_edges.specs.Labels.{label_at}
use Rattle.omega_hoa_label.specs.Label.{LabelTree}
use Rattle.omega_synth_text.specs.Winner.{demanding}
use Rattle.omega_synth_text.specs.private.Parts.{label_by, letters_for}
use Rattle.omega_synth_text.specs.private.Texts.{bytes_of, closing, is_joined, opening}
use Rattle.omega_synth_text.specs.declared.parts.Winner.{Winner}
use Rattle.omega_synth_text.proofs.Literals.{demanding_bytes}
use Rattle.omega_synth_text.proofs.body.write_demanding.Goals as goal

pub returns-in_ok-push-clause-text : goal.returns-in_ok-push-clause-text
returns-in_ok-push-clause-text c =
    let w : Winner = c.args.winner.now in
    let number : ℕ = c.args.state.now.number in
    let own : LabelTree = label_at (length w.automaton.now.propositions) c.args.state.now c.args.at c.args.edge.now in
    let label : LabelTree = label_at (length c.propositions-count.result.now) c.args.state.now c.args.at c.args.edge.now in
    let same : label ≡ own = ap (λ (names : List (List ℕ)). label_at (length names) c.args.state.now c.args.at c.args.edge.now) c.propositions-count.ensures in
    let text : List ℕ = opening (is_joined label) ++ (bytes_of label ++ closing (is_joined label)) in
    let whole : bytes_of (label_by w c.args.state.now c.args.at c.args.edge.now) ≡ c.args.letter.now ++ 38 ∷ text =
    ap (λ (lettered : Bool). bytes_of (demanding (letters_for lettered w.inputs.now w.letters.now number) own)) c.if-winner.true
    ∙ demanding_bytes (listed (get_or w.letters.now number [])) w.inputs.now own
    ∙ ap (λ (x : List ℕ). x ++ 38 ∷ (opening (is_joined own) ++ (bytes_of own ++ closing (is_joined own)))) (sym (c.requires c.if-winner.true))
    ∙ ap (λ (l : LabelTree). c.args.letter.now ++ 38 ∷ (opening (is_joined l) ++ (bytes_of l ++ closing (is_joined l)))) (sym same) in
    on_ok_weaker c.write_joined_label.result
    (λ written.
    following c.args.out.now.items c.args.letter.now (38 ∷ text) c.in_ok-extend_from_slice.ensures.items
    (following c.extend_from_slice.new.self.items (38 ∷ []) text c.in_ok-push.ensures.items written)
    ∙ ap (λ (x : List ℕ). c.args.out.now.items ++ x) (sym whole))
    c.write_joined_label.ensures.text
