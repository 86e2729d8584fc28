-- Each node puts out what it stands for.
use Rattle.std.proofs.Common.{◌+◌, append-nil, drop, length, ◌++◌, ◌<◌, ◌≤◌, [], take, ap, refl, subst, sym, ◌∙◌, arith, IsSome}
use Rattle.std.proofs.lemmas.Bool.{false≢true}
use Rattle.omega_hoa_label_text.specs.Expanding.{entries_of, place_among, replaced, stands_for}
use Rattle.omega_hoa_label_text.specs.private.Emitting.{AllStand, IsBodyAt, emitted, nodes_of}
use Rattle.omega_hoa_label.specs.Postfix.{alias_names}
use Rattle.omega_hoa_label_text.proofs.EmitLemmas.{emitted-alias, emitted-group, emitted-label, emitted-plain, emitted-push, stand-at, stand-label, stand-moved, stand-plain}
use Rattle.omega_hoa_label_text.proofs.EntryLemmas.{stands_for-at, stands_for-past}
use Rattle.omega_hoa_label_text.proofs.ReplacedAtLemmas.{replaced-moved, replaced-new, replaced-none}
use Rattle.omega_hoa_label_text.proofs.expansion.+emit.Goals as goal
use Rattle.omega_hoa_label_text.proofs.expansion.+emit.Goals.{in_default+in_ok-push-in_default, in-Group, in-Alias+then-place-before+in-Some+in_ok-extend_from_slice-in-Alias, in-Alias+then-place-before+in_default-kept_nodes+then-place-last+in_ok-repeat-in-Alias, in-Alias+then-place-before+in_default-kept_nodes+else-place-last+in_ok-emit-in-Alias, in-Alias+else-place-before}

pub loop-node-init : goal.loop-node-init
loop-node-init t c =
    let entries = take c.args.before (entries_of [] c.args.aliases.now) in
    record {
      rest = ap (λ nodes. c.args.out.now.items ++ nodes)
          (ap (λ names. emitted entries names c.nodes-nodes.result.now) c.names-names.ensures
          ∙ (ap (emitted entries (alias_names c.args.raw.now)) c.nodes-nodes.ensures ∙ emitted-label entries c.args.raw.now c.requires.defined));
      stand = subst (λ names. AllStand entries names c.nodes-nodes.result.now) (sym c.names-names.ensures)
          (subst (AllStand entries (alias_names c.args.raw.now)) (sym c.nodes-nodes.ensures) (stand-label entries c.args.raw.now c.requires.defined));
      last = replaced-none c.args.aliases.now c.args.before c.args.out.now.items;
    }

pub emit-requires : goal.emit-requires
emit-requires t c =
    let entries = take c.args.before (entries_of [] c.args.aliases.now) in
    let stands = (stand-at entries c.loop-node.names.now c.nodes-nodes.result.now c.loop-node.node-index _ _ c.loop-node-test.true c.in-Alias.is c.loop-node.invariant.stand).0 in
    let named = subst (λ name. IsSome (stands_for entries name)) (sym c.first_bytes.ensures) stands in
    let body = subst (λ place. IsBodyAt c.args.aliases.now place c.body-body.result.now) c.place-place.ensures c.body-body.ensures in
    let lower : place_among c.args.aliases.now c.first_bytes.result.now < c.args.before = omega (arith, c.place-place.ensures, c.if-place-before.true) in
    let means = stands_for-at c.first_bytes.result.now [] c.args.aliases.now c.args.before c.body-body.result.now body lower in (
      omega (arith, c.decreases, c.if-place-before.true),
      (
        omega (arith, c.if-place-before.true, c.requires.within),
        subst (λ place. IsSome (replaced (take place (entries_of [] c.args.aliases.now)) c.body-body.result.now)) (sym c.place-place.ensures) (subst IsSome means named),
      ),
    )

pub loop-node-preserved : goal.loop-node-preserved
loop-node-preserved t c =
    let entries = take c.args.before (entries_of [] c.args.aliases.now) in
    elim c.match-node.branch [
      | in_default+in_ok-push-in_default w ↦ record {
        rest = emitted-push entries _ _ c.nodes-nodes.result.now _ _ _ _ _ _ _ c.loop-node-test.true refl (emitted-plain entries _ _ _ w.in_default.not-Alias w.in_default.not-Group) c.loop-node.invariant.rest (ap (λ v. v.items) w.out-is ∙ w.in_ok-push-in_default.ensures.items) (ap (λ n. n.now) w.names-is);
        stand = stand-moved entries _ _ (drop (c.loop-node.node-index + 1) c.nodes-nodes.result.now) (stand-plain entries _ _ _ w.in_default.not-Alias w.in_default.not-Group (stand-at entries _ c.nodes-nodes.result.now _ _ _ c.loop-node-test.true refl c.loop-node.invariant.stand)) (ap (λ n. n.now) w.names-is);
        last = replaced-moved c.args.aliases.now c.args.before c.loop-node.out.items _ _ _ _ _ _ _ _ c.loop-node.invariant.last (ap (λ v. v.items) w.out-is ∙ w.in_ok-push-in_default.ensures.items) (ap (λ l. l.place) w.last-is) (ap (λ l. l.start) w.last-is) (ap (λ l. l.end) w.last-is);
      }
      | in-Group w ↦ record {
        rest = emitted-group entries _ _ c.nodes-nodes.result.now _ _ _ _ _ c.loop-node-test.true w.in-Group.is c.loop-node.invariant.rest (ap (λ v. v.items) w.out-is) (ap (λ n. n.now) w.names-is);
        stand = stand-moved entries _ _ (drop (c.loop-node.node-index + 1) c.nodes-nodes.result.now) (stand-at entries _ c.nodes-nodes.result.now _ _ _ c.loop-node-test.true w.in-Group.is c.loop-node.invariant.stand) (ap (λ n. n.now) w.names-is);
        last = replaced-moved c.args.aliases.now c.args.before c.loop-node.out.items _ _ _ _ _ _ _ _ c.loop-node.invariant.last (ap (λ v. v.items) w.out-is ∙ sym (append-nil _)) (ap (λ l. l.place) w.last-is) (ap (λ l. l.start) w.last-is) (ap (λ l. l.end) w.last-is);
      }
      | in-Alias+then-place-before+in-Some+in_ok-extend_from_slice-in-Alias w ↦
          let body = subst (λ place. IsBodyAt c.args.aliases.now place w.body-body.result.now) w.place-place.ensures w.body-body.ensures in
          let lower : place_among c.args.aliases.now w.first_bytes.result.now < c.args.before = omega (arith, w.place-place.ensures, w.if-place-before.true) in
          let means = stands_for-at w.first_bytes.result.now [] c.args.aliases.now c.args.before w.body-body.result.now body lower in
          let moved = ap (λ n. n.now) w.names-is ∙ w.bytes_after-names.ensures in
          let kept = rw w.in-Some.is at w.kept_nodes.ensures in
          let put = ap (λ v. v.items) w.out-is ∙ w.in_ok-extend_from_slice-in-Alias.ensures.items in
          record {
            rest = emitted-alias entries _ _ c.nodes-nodes.result.now _ _ _ _ _ _ _ c.loop-node-test.true w.in-Alias.is (ap (stands_for entries) (sym w.first_bytes.ensures) ∙ means) c.loop-node.invariant.rest
                (put
                ∙ (ap (λ nodes. c.loop-node.out.items ++ nodes) (kept w.body-body.result.now w.body-body.ensures)
                ∙ ap (λ place. c.loop-node.out.items ++ nodes_of (replaced (take place (entries_of [] c.args.aliases.now)) w.body-body.result.now)) w.place-place.ensures)) moved;
            stand = stand-moved entries _ _ (drop (c.loop-node.node-index + 1) c.nodes-nodes.result.now) (stand-at entries _ c.nodes-nodes.result.now _ _ _ c.loop-node-test.true w.in-Alias.is c.loop-node.invariant.stand).1 moved;
            last = replaced-moved c.args.aliases.now c.args.before c.loop-node.out.items _ _ _ _ _ _ _ _ c.loop-node.invariant.last put (ap (λ l. l.place) w.last-is) (ap (λ l. l.start) w.last-is) (ap (λ l. l.end) w.last-is);
          }
      | in-Alias+then-place-before+in_default-kept_nodes+then-place-last+in_ok-repeat-in-Alias w ↦
          let body = subst (λ place. IsBodyAt c.args.aliases.now place w.body-body.result.now) w.place-place.ensures w.body-body.ensures in
          let lower : place_among c.args.aliases.now w.first_bytes.result.now < c.args.before = omega (arith, w.place-place.ensures, w.if-place-before.true) in
          let means = stands_for-at w.first_bytes.result.now [] c.args.aliases.now c.args.before w.body-body.result.now body lower in
          let moved = ap (λ n. n.now) w.names-is ∙ w.bytes_after-names.ensures in
          let before_last : c.loop-node.last.place < c.args.before = omega (arith, w.if-place-last.true, w.if-place-before.true) in
          let there = subst (λ place. IsBodyAt c.args.aliases.now place w.body-body.result.now) w.if-place-last.true w.body-body.ensures in
          let put = ap (λ v. v.items) w.out-is ∙ w.in_ok-repeat-in-Alias.ensures.ok in
          record {
            rest = emitted-alias entries _ _ c.nodes-nodes.result.now _ _ _ _ _ _ _ c.loop-node-test.true w.in-Alias.is (ap (stands_for entries) (sym w.first_bytes.ensures) ∙ means) c.loop-node.invariant.rest
                (put
                ∙ (ap (λ nodes. c.loop-node.out.items ++ nodes) (c.loop-node.invariant.last.nodes w.body-body.result.now before_last there)
                ∙ ap (λ place. c.loop-node.out.items ++ nodes_of (replaced (take place (entries_of [] c.args.aliases.now)) w.body-body.result.now)) (sym w.if-place-last.true ∙ w.place-place.ensures))) moved;
            stand = stand-moved entries _ _ (drop (c.loop-node.node-index + 1) c.nodes-nodes.result.now) (stand-at entries _ c.nodes-nodes.result.now _ _ _ c.loop-node-test.true w.in-Alias.is c.loop-node.invariant.stand).1 moved;
            last = replaced-moved c.args.aliases.now c.args.before c.loop-node.out.items _ _ _ _ _ _ _ _ c.loop-node.invariant.last put (ap (λ l. l.place) w.last-is) (ap (λ l. l.start) w.last-is) (ap (λ l. l.end) w.last-is);
          }
      | in-Alias+then-place-before+in_default-kept_nodes+else-place-last+in_ok-emit-in-Alias w ↦
          let body = subst (λ place. IsBodyAt c.args.aliases.now place w.body-body.result.now) w.place-place.ensures w.body-body.ensures in
          let lower : place_among c.args.aliases.now w.first_bytes.result.now < c.args.before = omega (arith, w.place-place.ensures, w.if-place-before.true) in
          let means = stands_for-at w.first_bytes.result.now [] c.args.aliases.now c.args.before w.body-body.result.now body lower in
          let moved = ap (λ n. n.now) w.names-is ∙ w.bytes_after-names.ensures in
          let put = ap (λ v. v.items) w.out-is ∙ w.in_ok-emit-in-Alias.ensures.ok in
          record {
            rest = emitted-alias entries _ _ c.nodes-nodes.result.now _ _ _ _ _ _ _ c.loop-node-test.true w.in-Alias.is (ap (stands_for entries) (sym w.first_bytes.ensures) ∙ means) c.loop-node.invariant.rest
                (put ∙ ap (λ place. c.loop-node.out.items ++ nodes_of (replaced (take place (entries_of [] c.args.aliases.now)) w.body-body.result.now)) w.place-place.ensures) moved;
            stand = stand-moved entries _ _ (drop (c.loop-node.node-index + 1) c.nodes-nodes.result.now) (stand-at entries _ c.nodes-nodes.result.now _ _ _ c.loop-node-test.true w.in-Alias.is c.loop-node.invariant.stand).1 moved;
            last = replaced-new c.args.aliases.now c.args.before c.loop-node.out.items c.match-node.out.items c.match-node.last.place c.match-node.last.start c.match-node.last.end w.body-body.result.now
                (subst (λ place. IsBodyAt c.args.aliases.now place w.body-body.result.now) (sym (ap (λ l. l.place) w.last-is)) w.body-body.ensures)
                (put ∙ ap (λ place. c.loop-node.out.items ++ nodes_of (replaced (take place (entries_of [] c.args.aliases.now)) w.body-body.result.now)) (sym (ap (λ l. l.place) w.last-is)))
                (ap (λ l. l.start) w.last-is ∙ ap length w.as_slice-start.ensures.value)
                (ap (λ l. l.end) w.last-is ∙ (ap length w.as_slice-end.ensures.value ∙ sym (ap (λ v. length v.items) w.out-is)));
          }
      | in-Alias+else-place-before w ↦
          let stands = (stand-at entries c.loop-node.names.now c.nodes-nodes.result.now c.loop-node.node-index _ _ c.loop-node-test.true w.in-Alias.is c.loop-node.invariant.stand).0 in
          let higher : c.args.before ≤ place_among c.args.aliases.now w.first_bytes.result.now = omega (arith, w.place-place.ensures, w.if-place-before.false) in
          let none = stands_for-past w.first_bytes.result.now [] c.args.aliases.now c.args.before higher in
          absurd (false≢true (subst IsSome (ap (stands_for entries) (sym w.first_bytes.ensures) ∙ none) stands))
    ]
