-- An automaton has one trimmed automaton.
use Rattle.std.proofs.Common.{◌≡◌, ℕ, List, sym, ap, ◌∙◌}
use Rattle.omega_hoa_automaton.proofs.MarkLemmas.{rising_is_one}
use Rattle.omega_lang_trim.specs.Trimmed.{trimmed}
use Rattle.omega_laws.specs.Trims.{TrimsAreOne}

pub one_trim : TrimsAreOne
one_trim a one other first second =
    let same : first.kept ≡ second.kept =
    rising_is_one first.kept second.kept first.useful.rising second.useful.rising
    (λ state has. (second.useful.useful state).1 ((first.useful.useful state).0 has)) (λ state has. (first.useful.useful state).1 ((second.useful.useful state).0 has)) in
    first.is ∙ ap (λ (kept : List ℕ). trimmed kept a) same ∙ sym second.is
