-- one start more
use Rattle.std.proofs.Common.{◌≡◌, ℕ, ◌<◌, ◌++◌, List, codes, decimal, get_or, length, ap, sym, subst, ◌∙◌, arith}
use Rattle.omega_canon.proofs.Lines.{following}
use Rattle.omega_synth_text.specs.Winner.{number_of}
use Rattle.omega_synth_text.specs.private.Parts.{IsOneStart, reached_by}
use Rattle.omega_synth_text.specs.declared.parts.Winner.{Winner}
use Rattle.omega_synth_text.proofs.Starts.{start_more}
use Rattle.omega_synth_text.proofs.header.write_starts.Goals as goal

pub loop-start-preserved : goal.loop-start-preserved
loop-start-preserved c =
    let w : Winner = c.args.winner.now in
    let starts : List (List ℕ) = w.automaton.now.starts in
    let index : ℕ = c.loop-start.start-index in
    let below : index < length starts = omega (arith, ap length c.starts-start-items.ensures, c.loop-start-test.true) in
    let here : c.start-item.result ≡ get_or starts index c.start-item.result = cc in
    let one : IsOneStart w.automaton.now.states c.start-item.result =
    subst (IsOneStart w.automaton.now.states) (sym here) (c.requires.starts index c.start-item.result below) in
    let first : get_or c.as_slice.result.now 0 0 ≡ one.state = ap (λ (xs : List ℕ). get_or xs 0 0) (c.as_slice.ensures ∙ one.alone) in
    let number : c.from.result ≡ number_of (reached_by w) one.state =
    c.from.ensures ∙ c.new_number.ensures ∙ ap (λ (s : ℕ). get_or w.numbers.now s 0) first ∙ c.requires.numbers one.state one.below in
    let digits : List ℕ = decimal (number_of (reached_by w) one.state) in
    let written : c.push.new.self.items ≡ c.loop-start.out.items ++ (codes "Start: " ++ (digits ++ codes "\n")) =
    following c.loop-start.out.items (codes "Start: ") _ c.in_ok-extend_from_slice.ensures.items
    (following c.extend_from_slice.new.self.items digits (codes "\n")
    (c.in_ok-write_number.ensures.ok ∙ ap (λ (n : ℕ). c.extend_from_slice.new.self.items ++ decimal n) number) c.in_ok-push.ensures.items) in
    start_more (number_of (reached_by w)) starts index c.start-item.result one.state c.args.out.now.items c.loop-start.out.items c.push.new.self.items
    below here one.alone c.loop-start.invariant written
