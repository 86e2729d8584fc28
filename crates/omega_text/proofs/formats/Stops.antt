-- A text is cut in at most one way, and stops in at most one.
use Rattle.std.proofs.Common.{◌≡◌, ℕ, List, [], ◌∷◌, refl, sym, ap, ◌∙◌, subst, Option, None, Some}
use Rattle.omega_text.specs.Cut.{Cuts, CutsAreOne, CutsHaveNoFault, FaultsAreOne}
use Rattle.omega_text.specs.Format.{TextFormat, GoesOneWay}
use Rattle.omega_text.specs.Lexeme.{Lexeme}
use Rattle.omega_text.specs.declared.refusal.text.TextFault.{TextFault}

-- how a cut stops: at the end of the text, or at a fault
abbrev pub Stops : {Kind : Type 0} → TextFormat Kind → List ℕ → ℕ → Option TextFault → Type 0
Stops format source at None = format.ends source at
Stops format source at (Some fault) = format.faults source at fault

module _ {Kind : Type 0} (format : TextFormat Kind) (exact : GoesOneWay format) where
  -- a cut stops in one way
  stop_once : (source : List ℕ) (at : ℕ) (one other : Option TextFault) → Stops format source at one → Stops format source at other → one ≡ other
  stop_once source at None None first second = refl
  stop_once source at None (Some fault) first second = absurd (exact.no_fault_at_end source at fault second first)
  stop_once source at (Some fault) None first second = absurd (exact.no_fault_at_end source at fault first second)
  stop_once source at (Some one) (Some other) first second = ap Some (exact.one_fault source at one other first second)

  -- if a token follows, a cut does not stop
  follows_goes_on : (source : List ℕ) (at : ℕ) (lexeme : Lexeme Kind) (stop : Option TextFault) → format.follows source at lexeme → Stops format source at stop → ⊥
  follows_goes_on source at lexeme None follows stops = exact.no_token_at_end source at lexeme follows stops
  follows_goes_on source at lexeme (Some fault) follows stops = exact.no_token_and_fault source at lexeme fault follows stops

  -- two cuts from one place that both stop are the same, and stop in the same way
  pub one_stop : (source : List ℕ) (from : ℕ) (one other : List (Lexeme Kind)) (to end : ℕ) (stop halt : Option TextFault)
      → Cuts format source from one to → Stops format source to stop → Cuts format source from other end → Stops format source end halt → (one ≡ other) × (stop ≡ halt)
  one_stop source from [] [] to end stop halt cuts stops again halts =
      (refl, stop_once source end stop halt (subst (λ n. Stops format source n stop) (sym cuts ∙ again) stops) halts)
  one_stop source from [] (lexeme ∷ other) to end stop halt cuts stops again halts =
      absurd (follows_goes_on source from lexeme stop again.0 (subst (λ n. Stops format source n stop) (sym cuts) stops))
  one_stop source from (lexeme ∷ one) [] to end stop halt cuts stops again halts =
      absurd (follows_goes_on source from lexeme halt cuts.0 (subst (λ n. Stops format source n halt) (sym again) halts))
  one_stop source from (lexeme ∷ one) (twin ∷ other) to end stop halt cuts stops again halts =
      let same = exact.one_token source from lexeme twin cuts.0 again.0 in
      let rest = one_stop source twin.span.end one other to end stop halt (subst (λ (l : Lexeme Kind). Cuts format source l.span.end one to) same cuts.1) stops again.1 halts in
      ((λ i. same i ∷ rest.0 i), rest.1)

  -- a text has at most one cut
  pub one_cut : CutsAreOne format
  one_cut source one other first second = (one_stop source 0 one other first.end second.end None None first.cuts first.rest second.cuts second.rest).0

  -- a text has at most one fault at its least place
  pub one_fault : FaultsAreOne format
  one_fault source one other first second =
      let same = (one_stop source 0 first.lexemes second.lexemes first.end second.end (Some one) (Some other) first.cuts first.faults second.cuts second.faults).1 in
      cc

  -- a text that has a cut has no fault
  pub not_both : CutsHaveNoFault format
  not_both source lexemes fault cut faulty =
      let same = (one_stop source 0 lexemes faulty.lexemes cut.end faulty.end None (Some fault) cut.cuts cut.rest faulty.cuts faulty.faults).1 in
      cc
