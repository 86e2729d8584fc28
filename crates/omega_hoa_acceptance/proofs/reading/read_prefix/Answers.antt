-- What begins a part is passed, and where nothing does nothing is read.
use Rattle.std.proofs.Common.{true, false, [], ◌∷◌, ap, append-nil, subst, sym, ◌∙◌}
use Rattle.omega_hoa_acceptance.specs.Reading.{BeginsAcc, ReadsNoAcc}
use Rattle.omega_hoa_acceptance.specs.Raw.{atom, constant}
use Rattle.omega_hoa_expression.specs.Symbols.{seen_as}
use Rattle.omega_hoa_acceptance.specs.private.layout.Building.{Wants}
use Rattle.omega_hoa_acceptance.specs.private.layout.States.{set_symbols}
use Rattle.omega_hoa_expression.specs.Passing.{Passed}
use Rattle.omega_hoa_acceptance.proofs.ReadingLemmas.{has_leaf, wants_opened}
use Rattle.omega_hoa_acceptance.proofs.Unread.{BeginNone, begins_others, none_wanted, unread_named}
use Rattle.omega_hoa_expression.proofs.PassingLemmas.{error_then, nothing_passed}
use Rattle.omega_hoa_expression.proofs.UnreadLemmas.{first_same}
use Rattle.omega_hoa_acceptance.proofs.reading.read_prefix.Goals as goal
use Rattle.omega_hoa_acceptance.proofs.reading.read_prefix.Goals.{in-True+in_ok-push-in-True, in-False+in_ok-push-in-False, in-Identifier+in_ok-negated-in-Identifier+in_ok-push-in-Identifier+in_ok-extend_from_slice-in-Identifier}

pub returns-in_default-clause-err : goal.returns-in_default-clause-err
returns-in_default-clause-err g c whole wants = none_wanted whole _ _ _ _ _ _ c.place-at.ensures wants (subst BeginNone (sym c.in_default.ensures.none.0) tt)

pub returns-in-OpenParenthesis-clause-wants : goal.returns-in-OpenParenthesis-clause-wants
returns-in-OpenParenthesis-clause-wants g c whole wants =
    subst (Wants whole (g.S.TokenSource.left c.take.new.self) c.args.unfinished.now.nodes.items c.args.unfinished.now.names.items) (sym c.in_ok-push-in-OpenParenthesis.ensures.ok)
    (wants_opened whole _ _ _ _ _ _ wants c.in-Some.ensures.some (ap (λ k. seen_as k c.in-Some.token.value c.in-Some.token.text.now) c.in-OpenParenthesis.is))

pub returns-in_err-negated-in-Identifier-clause-err : goal.returns-in_err-negated-in-Identifier-clause-err
returns-in_err-negated-in-Identifier-clause-err g c =
    error_then c.from_residual-in_err-negated-in-Identifier.result _ _ c.from_residual-in_err-negated-in-Identifier.ensures.1
    (λ e is whole wants. first_same ReadsNoAcc BeginsAcc whole _ _ _ e is c.in-Some.ensures.length
    (unread_named whole _ _ _ _ _ _ _ _ _ wants c.in-Some.ensures.some (ap (λ k. seen_as k c.in-Some.token.value c.in-Some.token.text.now) c.in-Identifier.is)
    c.in_err-negated-in-Identifier.ensures.err))

pub returns-in_default-kind : goal.returns-in_default-kind
returns-in_default-kind g c = record {
  wants = tt;
  err = λ whole wants. none_wanted whole _ _ _ _ _ _ c.place-at.ensures wants
      (subst BeginNone (sym c.in-Some.ensures.some)
      (begins_others c.in-Some.token.kind c.in_default-kind.not-Identifier c.in_default-kind.not-True c.in_default-kind.not-False c.in_default-kind.not-OpenParenthesis));
  less = tt;
  length = c.take.ensures.length;
}

pub returns-clause-wants : goal.returns-clause-wants
returns-clause-wants g c whole wants =
    elim c.match-token.branch [
      | in-True+in_ok-push-in-True w ↦ has_leaf whole _ _ _ _ _ _ (constant true) [] _ _ _ _ tt c.in-Some.ensures.some
          (sym (ap (λ k. seen_as k c.in-Some.token.value c.in-Some.token.text.now ∷ []) w.in-True.is)) (subst (λ s. Passed (g.S.TokenSource.left c.take.new.self) [] (g.S.TokenSource.left s)) (sym w.source-is) (nothing_passed _))
          (ap (λ u. u.nodes.items) w.unfinished-is ∙ w.in_ok-push-in-True.ensures.items)
          (ap (λ u. u.names.items) w.unfinished-is ∙ sym (append-nil _)) (ap (λ u. u.pending) w.unfinished-is) wants
      | in-False+in_ok-push-in-False w ↦ has_leaf whole _ _ _ _ _ _ (constant false) [] _ _ _ _ tt c.in-Some.ensures.some
          (sym (ap (λ k. seen_as k c.in-Some.token.value c.in-Some.token.text.now ∷ []) w.in-False.is)) (subst (λ s. Passed (g.S.TokenSource.left c.take.new.self) [] (g.S.TokenSource.left s)) (sym w.source-is) (nothing_passed _))
          (ap (λ u. u.nodes.items) w.unfinished-is ∙ w.in_ok-push-in-False.ensures.items)
          (ap (λ u. u.names.items) w.unfinished-is ∙ sym (append-nil _)) (ap (λ u. u.pending) w.unfinished-is) wants
      | in-Identifier+in_ok-negated-in-Identifier+in_ok-push-in-Identifier+in_ok-extend_from_slice-in-Identifier w ↦
          let more = set_symbols w.in_ok-negated-in-Identifier.negated w.in_ok-negated-in-Identifier.at_set in
          has_leaf whole _ _ _ _ _ _ (atom c.in-Some.token.text.now w.in_ok-negated-in-Identifier.negated w.in_ok-negated-in-Identifier.at_set) more _ _ _ _ tt c.in-Some.ensures.some
          (sym (ap (λ k. seen_as k c.in-Some.token.value c.in-Some.token.text.now ∷ more) w.in-Identifier.is))
          (subst (λ s. Passed (g.S.TokenSource.left c.take.new.self) more (g.S.TokenSource.left s)) (sym w.source-is) w.in_ok-negated-in-Identifier.ensures.ok)
          (ap (λ u. u.nodes.items) w.unfinished-is ∙ w.in_ok-push-in-Identifier.ensures.items)
          (ap (λ u. u.names.items) w.unfinished-is ∙ w.in_ok-extend_from_slice-in-Identifier.ensures.items) (ap (λ u. u.pending) w.unfinished-is) wants
    ]
