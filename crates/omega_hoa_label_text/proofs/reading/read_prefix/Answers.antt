-- What begins a part is passed, and where nothing does nothing is read.
use Rattle.std.proofs.Common.{true, false, [], ◌∷◌, ◌++◌, ap, append-nil, subst, sym, ◌∙◌}
use Rattle.omega_hoa_label.specs.Raw.{alias, constant, proposition}
use Rattle.omega_hoa_expression.specs.Symbols.{seen_as}
use Rattle.omega_hoa_label_text.specs.private.Building.{Wants}
use Rattle.omega_hoa_label_text.proofs.ReadingLemmas.{BeginNone, IsAtom, begins_others, called, has_atom, none_wanted, numbered, truth, wants_denied, wants_opened}
use Rattle.omega_hoa_label.specs.declared.label.LabelNode.TheVariants.{Alias}
use Rattle.omega_hoa_label_text.proofs.reading.read_prefix.Goals as goal
use Rattle.omega_hoa_label_text.proofs.reading.read_prefix.Goals.{in-True+in_ok-push-in-True, in-False+in_ok-push-in-False, in-Int+in_ok-push-in-Int, in-AliasName+in_ok-count-in-AliasName+in_ok-push-in-AliasName+in_ok-extend_from_slice-in-AliasName}

pub returns-in_default-clause-err : goal.returns-in_default-clause-err
returns-in_default-clause-err g c whole wants = none_wanted whole _ _ _ _ _ _ c.place-at.ensures wants (subst BeginNone (sym c.in_default.ensures.none.0) tt)

pub returns-in-Not-clause-wants : goal.returns-in-Not-clause-wants
returns-in-Not-clause-wants g c whole wants =
    subst (Wants whole (g.S.TokenSource.left c.take.new.self) c.args.unfinished.now.nodes c.args.unfinished.now.names.items) (sym c.in_ok-push-in-Not.ensures.ok)
    (wants_denied whole _ _ _ _ _ _ wants c.in-Some.ensures.some (ap (λ k. seen_as k c.in-Some.token.value c.in-Some.token.text.now) c.in-Not.is))

pub returns-in-OpenParenthesis-clause-wants : goal.returns-in-OpenParenthesis-clause-wants
returns-in-OpenParenthesis-clause-wants g c whole wants =
    subst (Wants whole (g.S.TokenSource.left c.take.new.self) c.args.unfinished.now.nodes c.args.unfinished.now.names.items) (sym c.in_ok-push-in-OpenParenthesis.ensures.ok)
    (wants_opened whole _ _ _ _ _ _ wants c.in-Some.ensures.some (ap (λ k. seen_as k c.in-Some.token.value c.in-Some.token.text.now) c.in-OpenParenthesis.is))

pub returns-in_default-kind : goal.returns-in_default-kind
returns-in_default-kind g c = record {
  wants = tt;
  err = λ whole wants. none_wanted whole _ _ _ _ _ _ c.place-at.ensures wants
      (subst BeginNone (sym c.in-Some.ensures.some)
      (begins_others c.in-Some.token.kind c.in_default-kind.not-AliasName c.in_default-kind.not-True c.in_default-kind.not-False c.in_default-kind.not-Int c.in_default-kind.not-Not c.in_default-kind.not-OpenParenthesis));
  less = tt;
  length = c.take.ensures.length;
}

pub returns-clause-wants : goal.returns-clause-wants
returns-clause-wants g c whole wants =
    elim c.match-token.branch [
      | in-True+in_ok-push-in-True w ↦ has_atom whole _ _ _ _ _ _ (constant true) _ _ _ c.in-Some.ensures.some
          (subst (IsAtom (constant true)) (sym (ap (λ k. seen_as k c.in-Some.token.value c.in-Some.token.text.now) w.in-True.is)) (truth true))
          (ap (λ u. u.nodes) w.unfinished-is ∙ w.in_ok-push-in-True.ensures.ok)
          (ap (λ u. u.names.items) w.unfinished-is ∙ sym (append-nil _)) (ap (λ u. u.pending) w.unfinished-is) wants
      | in-False+in_ok-push-in-False w ↦ has_atom whole _ _ _ _ _ _ (constant false) _ _ _ c.in-Some.ensures.some
          (subst (IsAtom (constant false)) (sym (ap (λ k. seen_as k c.in-Some.token.value c.in-Some.token.text.now) w.in-False.is)) (truth false))
          (ap (λ u. u.nodes) w.unfinished-is ∙ w.in_ok-push-in-False.ensures.ok)
          (ap (λ u. u.names.items) w.unfinished-is ∙ sym (append-nil _)) (ap (λ u. u.pending) w.unfinished-is) wants
      | in-Int+in_ok-push-in-Int w ↦ has_atom whole _ _ _ _ _ _ (proposition c.in-Some.token.value) _ _ _ c.in-Some.ensures.some
          (subst (IsAtom (proposition c.in-Some.token.value)) (sym (ap (λ k. seen_as k c.in-Some.token.value c.in-Some.token.text.now) w.in-Int.is)) (numbered c.in-Some.token.value))
          (ap (λ u. u.nodes) w.unfinished-is ∙ w.in_ok-push-in-Int.ensures.ok)
          (ap (λ u. u.names.items) w.unfinished-is ∙ sym (append-nil _)) (ap (λ u. u.pending) w.unfinished-is) wants
      | in-AliasName+in_ok-count-in-AliasName+in_ok-push-in-AliasName+in_ok-extend_from_slice-in-AliasName w ↦ has_atom whole _ _ _ _ _ _ (alias c.in-Some.token.text.now) _ _ _ c.in-Some.ensures.some
          (subst (IsAtom (alias c.in-Some.token.text.now)) (sym (ap (λ k. seen_as k c.in-Some.token.value c.in-Some.token.text.now) w.in-AliasName.is)) (called c.in-Some.token.text.now))
          (ap (λ u. u.nodes) w.unfinished-is ∙ (w.in_ok-push-in-AliasName.ensures.ok ∙ ap (λ n. c.args.unfinished.now.nodes ++ Alias n ∷ []) w.in_ok-count-in-AliasName.ensures.ok))
          (ap (λ u. u.names.items) w.unfinished-is ∙ w.in_ok-extend_from_slice-in-AliasName.ensures.items) (ap (λ u. u.pending) w.unfinished-is) wants
    ]
