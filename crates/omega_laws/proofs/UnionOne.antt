-- Two automata have one union.
use Rattle.std.proofs.Common.{◌≡◌, inl, inr, sym, ap, ◌∙◌}
use Rattle.omega_hoa_automaton.specs.Automaton.{Description}
use Rattle.omega_lang_union.specs.Sharing.{IsSharing}
use Rattle.omega_lang_union.specs.Union.{united}
use Rattle.omega_lang_union.specs.declared.sharing.Sharing.{Sharing}
use Rattle.omega_laws.specs.Unions.{UnionsAreOne}

one_sharing : (one other : Description) (sharing sharing' : Sharing) → IsSharing one other sharing → IsSharing one other sharing' → sharing ≡ sharing'
one_sharing one other sharing sharing' (inl first) (inl second) = first.1 ∙ sym second.1
one_sharing one other sharing sharing' (inl first) (inr second) = absurd (second.0 first.0)
one_sharing one other sharing sharing' (inr first) (inl second) = absurd (first.0 second.0)
one_sharing one other sharing sharing' (inr first) (inr second) = first.1 ∙ sym second.1

pub one_union : UnionsAreOne
one_union one other a b first second =
    first.is ∙ ap (λ (s : Sharing). united s one other) (one_sharing one other first.sharing second.sharing first.shared second.shared) ∙ sym second.is
