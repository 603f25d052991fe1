use Rattle.std.proofs.Common.{refl, sym, ap, ◌≡◌, ◌∙◌, ◌<◌, arith, length, append-nil}
use Rattle.np_model.specs.Scheme.Segments.{Stage}
use Rattle.convex_arcs.specs.Segments.{segment_arcs}
use Rattle.netplan_top.specs.Texts.Network.{arc_record}
use Rattle.netplan_top.proofs.NetFacts.{stage-more, arcs-more, parted}
use Rattle.netplan_top.proofs.texts.network.push_arcs.Goals as goal

pub loop-stage-init : goal.loop-stage-init
loop-stage-init c = record { number = refl; rest = c.requires.arcs; room = omega arith; closed = c.requires.closed; text = sym (append-nil c.args.text.now.bytes) }

pub loop-stage-preserved : goal.loop-stage-preserved
loop-stage-preserved c =
    let stages = c.args.staged.now in
    let within : c.loop-stage.stage-index < length stages = omega arith in
    let bands : length c.as_slice.result.now ≡ length c.stage-item.result.bands = ap (λ l. length l) (c.as_slice.ensures ∙ ap (λ (v : Stage). v.bands) c.stage.view_is) in
    let parts = parted stages c.loop-stage.stage-index c.stage-item.result c.loop-stage.rest.now c.split_at.result.0.now c.split_at.result.1.now (length c.as_slice.result.now) within c.stage-item.is
    c.loop-stage.invariant.rest bands c.split_at.ensures.front c.split_at.ensures.back in
    let size : length c.split_at.result.0.now ≡ length (segment_arcs c.stage-item.result) = ap (λ l. length l) parts.own_is in
    let counted = arcs-more stages c.loop-stage.stage-index c.stage-item.result within c.stage-item.is in
    let whole = parts.whole in
    let room = c.loop-stage.invariant.room in
    let number = c.loop-stage.invariant.number in
    let more = stage-more (arc_record c.args.scheme.now.flows) c.args.text.now.bytes stages c.loop-stage.stage-index c.stage-item.result within c.stage-item.is in
    record {
      number = omega arith;
      rest = parts.later_is;
      room = omega arith;
      closed = c.in_ok-push_segments.ensures.closed;
      text = rw (c.in_ok-push_segments.ensures.text, c.loop-stage.invariant.number, c.loop-stage.invariant.text, parts.own_is) more;
    }

pub push_segments-requires-clause-few : goal.push_segments-requires-clause-few
push_segments-requires-clause-few c = omega (arith, c.loop-stage.invariant.room, c.split_at.ensures.front_len, c.split_at.ensures.back_len, c.requires.few)

pub overflow_add-number : goal.overflow_add-number
overflow_add-number c = omega (arith, c.loop-stage.invariant.room, c.split_at.ensures.front_len, c.split_at.ensures.back_len, c.requires.few)
