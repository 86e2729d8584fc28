-- Labels that are too deep with their parentheses.
use Rattle.std.proofs.Common.{inl, inr, sym}
use Rattle.omega_hoa_automaton.specs.Automaton.{Description}
use Rattle.omega_lang_runs.proofs.Flat.{contains_flat}
use Rattle.omega_lang_trim.specs.Refusing.{PassesLimit, deep_label}
use Rattle.omega_lang_trim.specs.private.Writing.{HasDeepLabel, StatesHaveDeepLabel}

-- a label of a state or of its edges is one of the automaton
pub deep_passes : (a : Description) → StatesHaveDeepLabel a.defined → PassesLimit a
deep_passes a (state, has, deep) = go deep
  where
    go : HasDeepLabel state → PassesLimit a
    go (inl own) = deep_label own.0 (inl (state, has, own.1)) own.2
    go (inr (edge, contained, with)) =
        deep_label with.0 (inr (record { source = state; edge = edge }, contains_flat a.defined has.0 state edge has.1 (sym has.2) contained, with.1)) with.2
