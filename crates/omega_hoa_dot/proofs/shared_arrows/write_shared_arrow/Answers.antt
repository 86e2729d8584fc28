-- `write_shared_arrow`: the first edge has the arrow, and others have nothing.
use Rattle.std.proofs.Common.{◌≡◌, ℕ, Bool, true, false, cond, List, [], ◌++◌, sym, ap, codes, decimal, ◌∙◌, append_assoc, rules}
use Rattle.std.proofs.lemmas.List.{append-nil}
use Rattle.omega_hoa_dot.specs.Arrows.{Drawn, arrow_line, shared_lines, tail_part}
use Rattle.omega_hoa_dot.specs.declared.role.Role.TheVariants.{Plain}
use Rattle.omega_hoa_dot.specs.private.layout.Drawing.{drawn_all}
use Rattle.omega_hoa_dot.proofs.Drawn.{first_is, same_index}
use Rattle.omega_hoa_dot.proofs.Lines.{following}
use Rattle.omega_hoa_dot.proofs.shared_arrows.write_shared_arrow.Goals as goal

pub write_shared_lines-requires-clause-first : goal.write_shared_lines-requires-clause-first
write_shared_lines-requires-clause-first c =
    let first : c.is_first.result ≡ true = search rules in
    sym (c.requires.sharing.firsts c.args.target) ∙ same_index _ c.args.index (sym c.is_first.ensures ∙ first)

pub returns-then-not-is_first-clause-ok : goal.returns-then-not-is_first-clause-ok
returns-then-not-is_first-clause-ok c =
    let drawn : List Drawn = drawn_all c.args.edges.now in
    let arrow : List ℕ = arrow_line Plain c.args.edges.now.state.now.number c.args.target (shared_lines c.args.target drawn) in
    let later : c.is_first.result ≡ false = search rules in
    sym (append-nil c.args.out.now.items)
    ∙ ap (λ (first : Bool). c.args.out.now.items ++ cond first arrow [])
    (sym later ∙ first_is drawn c.args.target c.args.index _ c.is_first.result (c.requires.sharing.firsts c.args.target) c.is_first.ensures)

pub returns-clause-ok : goal.returns-clause-ok
returns-clause-ok c =
    let drawn : List Drawn = drawn_all c.args.edges.now in
    let tail : List ℕ = tail_part c.args.edges.now.state.now.number in
    let lines : List ℕ = shared_lines c.args.target drawn in
    let arrow : List ℕ = arrow_line Plain c.args.edges.now.state.now.number c.args.target lines in
    let first : c.is_first.result ≡ true = search rules in
    following c.args.out.now.items tail _ c.in_ok-write_tail.ensures.ok
    (following c.write_tail.new.out.items (decimal c.args.target) _
    (c.in_ok-write_number.ensures.ok ∙ ap (λ (n : ℕ). c.write_tail.new.out.items ++ decimal n) c.from.ensures)
    (following c.write_number.new.out.items (codes " [label=\"") _ c.in_ok-extend_from_slice.ensures.items
    (following c.extend_from_slice.new.self.items lines (codes "\"];\n") c.in_ok-write_shared_lines.ensures.ok c.in_ok-extend_from_slice-2.ensures.items)))
    ∙ ap (λ (list : List ℕ). c.args.out.now.items ++ (tail ++ (decimal c.args.target ++ list)))
    (sym (append_assoc (codes " [label=\"") (lines ++ codes "\"") (codes "];\n")
    ∙ ap (λ (list : List ℕ). codes " [label=\"" ++ list) (append_assoc lines (codes "\"") (codes "];\n"))))
    ∙ ap (λ (b : Bool). c.args.out.now.items ++ cond b arrow [])
    (sym first ∙ first_is drawn c.args.target c.args.index _ c.is_first.result (c.requires.sharing.firsts c.args.target) c.is_first.ensures)
