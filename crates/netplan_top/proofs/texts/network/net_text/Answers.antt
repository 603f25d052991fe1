use Rattle.std.proofs.Common.{rules, ap, ◌≡◌, ◌∙◌, ◌++◌, [], length}
use Rattle.std.proofs.lemmas.Result.{IfOk-weaker}
use Rattle.np_records.specs.Texts.{record_text}
use Rattle.convex_arcs.specs.Segments.{flat_arcs}
use Rattle.np_model.specs.Scheme.Plans.{staged}
use Rattle.netplan_top.specs.Texts.Frame.{end_record}
use Rattle.netplan_top.specs.Texts.Network.{net_text}
use Rattle.netplan_top.proofs.NetFacts.{whole-net}
use Rattle.netplan_top.proofs.texts.network.net_text.Goals as goal

written : (c : goal.After-drop-expanded-3) → c.end.new.self.bytes ≡ net_text c.args.scheme.now
written c =
    let empty : c.new-text.result.bytes ≡ [] = search rules in
    let nodes : length c.as_slice.result.now ≡ length c.args.scheme.now.supply = search rules in
    let same : c.in_ok-net.net.arcs ≡ flat_arcs (staged c.args.scheme.now) = c.in_ok-net.ensures.arcs ∙ ap flat_arcs c.in_ok-expanded.ensures.staged in
    let arcs : length c.as_slice-arcs.result.now ≡ length (flat_arcs (staged c.args.scheme.now)) = ap (λ l. length l) (c.as_slice-arcs.ensures ∙ same) in
    let stages : c.as_slice-2.result.now ≡ staged c.args.scheme.now = c.as_slice-2.ensures ∙ c.in_ok-expanded.ensures.staged in
    let end : c.end.new.self.bytes ≡ c.push_arcs.new.text.bytes ++ record_text end_record = search rules in
    whole-net c.args.scheme.now c.push_head.new.text.bytes c.push_nodes.new.text.bytes c.push_arcs.new.text.bytes c.end.new.self.bytes
    (rw (empty, nodes, arcs) at c.in_ok-push_head.ensures.text) c.in_ok-push_nodes.ensures.text (rw stages at c.in_ok-push_arcs.ensures.text) end

pub returns : goal.returns
returns c = IfOk-weaker c.into_bytes.result _ _ (λ bytes e. e ∙ written c) c.into_bytes.ensures.text
