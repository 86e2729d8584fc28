-- One symbol more names a position that is new and below the count, or the symbols are refused.
use Rattle.std.proofs.Common.{◌≡◌, ◌<◌, ◌≤◌, ◌==◌, ℕ, true, false, List, [], ◌∷◌, ◌++◌, All, get_or, take, sym, ap, subst, ◌∙◌}
use Rattle.std.specs.List.{Contains}
use Rattle.std.proofs.lemmas.Bool.{false≢true}
use Rattle.std.proofs.lemmas.List.Elements.{All-push}
use Rattle.omega_circuit.specs.Circuit.{positions_of}
use Rattle.omega_circuit.specs.Symbols.{kind_letter}
use Rattle.omega_circuit.specs.declared.symbol.Symbol.{Symbol}
use Rattle.omega_circuit.proofs.Members.{added, there_already}
use Rattle.omega_circuit.proofs.Naming.{named_before, positions_one, positions_other, too_great}
use Rattle.omega_circuit.proofs.Places.{other_number, same_number}
use Rattle.omega_circuit.proofs.names.are_named.Goals as goal
use Rattle.omega_circuit.proofs.names.are_named.Goals.{then-letter+else-symbol-count+in_ok-insert+else-not-branch, else-letter}

pub returns-then-symbol-count : goal.returns-then-symbol-count
returns-then-symbol-count c =
    let item = c.symbol-item.result in
    let there : Symbol = get_or c.args.symbols.now c.loop-symbol.symbol-index item in
    let same : (kind_letter there.kind == kind_letter c.args.kind) ≡ true =
    same_number (kind_letter there.kind) (kind_letter c.args.kind)
    (ap (λ (s : Symbol). kind_letter s.kind) (sym c.symbol-item.is) ∙ sym c.letter.ensures ∙ c.if-letter.true ∙ c.letter-letter.ensures) in (
      λ is. absurd (false≢true is),
      λ are. absurd (too_great c.args.kind c.args.symbols.now c.loop-symbol.symbol-index item c.loop-symbol-test.true same c.args.count
          (subst (λ (s : Symbol). c.args.count ≤ s.position) c.symbol-item.is c.if-symbol-count.true) are),
    )

pub returns-then-not-branch : goal.returns-then-not-branch
returns-then-not-branch c =
    let item = c.symbol-item.result in
    let there : Symbol = get_or c.args.symbols.now c.loop-symbol.symbol-index item in
    let same : (kind_letter there.kind == kind_letter c.args.kind) ≡ true =
    same_number (kind_letter there.kind) (kind_letter c.args.kind)
    (ap (λ (s : Symbol). kind_letter s.kind) (sym c.symbol-item.is) ∙ sym c.letter.ensures ∙ c.if-letter.true ∙ c.letter-letter.ensures) in
    let before : Contains c.loop-symbol.positions.keys item.position =
    there_already c.loop-symbol.positions.keys item.position (sym c.in_ok-insert.ensures.added ∙ c.if-not-branch.true) in (
      λ is. absurd (false≢true is),
      λ are. absurd (named_before c.args.kind c.args.symbols.now c.loop-symbol.symbol-index item c.loop-symbol-test.true same c.args.count
          (subst (λ (s : Symbol). Contains (positions_of c.args.kind (take c.loop-symbol.symbol-index c.args.symbols.now)) s.position) c.symbol-item.is (subst (λ (keys : List ℕ). Contains keys item.position) c.loop-symbol.invariant.keys before)) are),
    )

pub loop-symbol-preserved : goal.loop-symbol-preserved
loop-symbol-preserved c =
    let item = c.symbol-item.result in
    let symbols = c.args.symbols.now in
    let i : ℕ = c.loop-symbol.symbol-index in
    elim c.if-letter.branch [
      | then-letter+else-symbol-count+in_ok-insert+else-not-branch w ↦
          let same : (kind_letter (get_or symbols i item).kind == kind_letter c.args.kind) ≡ true =
          same_number (kind_letter (get_or symbols i item).kind) (kind_letter c.args.kind)
          (ap (λ (s : Symbol). kind_letter s.kind) (sym c.symbol-item.is) ∙ sym c.letter.ensures ∙ w.if-letter.true ∙ c.letter-letter.ensures) in
          let one = positions_one c.args.kind symbols i item c.loop-symbol-test.true same in
          rw w.positions-is (record {
            keys = w.in_ok-insert.ensures.keys
                ∙ added c.loop-symbol.positions.keys item.position (sym w.in_ok-insert.ensures.added ∙ w.if-not-branch.false)
                ∙ ap (λ (keys : List ℕ). keys ++ item.position ∷ []) c.loop-symbol.invariant.keys
                ∙ ap (λ (s : Symbol). positions_of c.args.kind (take i symbols) ++ s.position ∷ []) c.symbol-item.is
                ∙ sym one;
            apart = w.insert.ensures.unique;
            within = subst (λ (xs : List ℕ). All (λ position. position < c.args.count) xs) (sym one)
                (All-push (λ position. position < c.args.count) (positions_of c.args.kind (take i symbols)) (get_or symbols i item).position c.loop-symbol.invariant.within
                (subst (λ (s : Symbol). s.position < c.args.count) c.symbol-item.is w.if-symbol-count.false));
          })
      | else-letter w ↦
          let apart : (kind_letter (get_or symbols i item).kind == kind_letter c.args.kind) ≡ false =
          other_number (kind_letter (get_or symbols i item).kind) (kind_letter c.args.kind)
          (λ is. w.if-letter.false (c.letter.ensures ∙ ap (λ (s : Symbol). kind_letter s.kind) c.symbol-item.is ∙ is ∙ sym c.letter-letter.ensures)) in
          let other = positions_other c.args.kind symbols i item c.loop-symbol-test.true apart in
          rw w.positions-is (record {
            keys = c.loop-symbol.invariant.keys ∙ sym other;
            apart = c.loop-symbol.invariant.apart;
            within = subst (λ (xs : List ℕ). All (λ position. position < c.args.count) xs) (sym other) c.loop-symbol.invariant.within;
          })
    ]
