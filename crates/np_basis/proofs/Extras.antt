-- The extra arc of a piece: that there is one, and no other.
use Rattle.std.specs.Prelude.{◌≡◌, ℕ, List, length}
use Rattle.std.proofs.Common.{refl, sym, ap₂, subst, ◌∙◌, inl, inr}
use Rattle.gain_graphs.specs.Arcs.{IsIn, HasOneEnd}
use Rattle.gain_graphs.specs.Cycles.{IsNoLoop}
use Rattle.gain_graphs.proofs.Theorems as theorems
use Rattle.np_model.specs.declared.arc.Ends.{Ends}
use Rattle.np_model.specs.declared.arc.Ends.TheVariants.{Link, Drain, Feed}
use Rattle.np_model.specs.Network.Arcs.{AreNodes}
use Rattle.np_model.specs.Network.Flows.{Network}
use Rattle.np_model.specs.Basis.Artificial.{IsOneEndAt}
use Rattle.np_model.specs.Basis.Graphs.{ratios, graph_ends, graph_of, no_arc, ends_at}
use Rattle.np_model.specs.Basis.Pieces.{PieceLists, nodes_in, basics_in}
use Rattle.np_model.specs.Basis.Sound.{IsInNet}
use Rattle.np_model.specs.Rows.Extra.{Extra, OneEnd, Round, IsExtra}
use Rattle.np_basis.specs.Laws.{HasSoundArcs, LinksAreNoLoops, ExtraExists, ExtraIsUnique}
use Rattle.np_basis.proofs.Trees.{tree, basic_below}

no_loop : (n : ℕ) (e : Ends) → AreNodes n e → IsNoLoop (graph_ends e)
no_loop n (Link i j g) nodes = nodes.2
no_loop n (Drain v) nodes = record {}
no_loop n (Feed v) nodes = record {}

pub links_are_no_loops : LinksAreNoLoops
links_are_no_loops net a sound below = no_loop (length net.supply) (ends_at net.arcs a) (sound a no_arc below).joins

pub no_loops : (net : Network) (piece : PieceLists) → HasSoundArcs net → IsInNet net piece → (a : ℕ) → IsIn a (basics_in piece) → IsNoLoop (graph_of (ends_at net.arcs) a)
no_loops net piece sound h a i = links_are_no_loops net a sound (basic_below net piece h a i)

-- the node of an arc with one end
node_of : (e : Ends) → HasOneEnd (graph_ends e) → (v : ℕ) × IsOneEndAt v e
node_of (Link i j g) h = absurd h
node_of (Drain v) h = (v, refl)
node_of (Feed v) h = (v, refl)

has_one_end : (v : ℕ) (e : Ends) → IsOneEndAt v e → HasOneEnd (graph_ends e)
has_one_end v (Link i j g) h = absurd h
has_one_end v (Drain u) h = record {}
has_one_end v (Feed u) h = record {}

same_node : (v w : ℕ) (e : Ends) → IsOneEndAt v e → IsOneEndAt w e → v ≡ w
same_node v w (Link i j g) h k = absurd h
same_node v w (Drain u) h k = sym h ∙ k
same_node v w (Feed u) h k = sym h ∙ k

pub extra_exists : ExtraExists
extra_exists net piece sound h = elim (theorems.extra_exists ratios (graph_of (ends_at net.arcs)) (nodes_in piece) (basics_in piece) (tree net piece h) (no_loops net piece sound h)) [
  | inl x ↦ (let r = node_of (ends_at net.arcs x.0) x.2 in (OneEnd x.0 r.0, (x.1, r.1)))
  | inr x ↦ (Round x.0 x.1, x.2)
]

pub extra_is_unique : ExtraIsUnique
extra_is_unique net piece x y h = go x y
  where
    both : (a v k : ℕ) (way : List (ℕ × ℕ)) → IsExtra (ends_at net.arcs) (basics_in piece) (OneEnd a v) → IsExtra (ends_at net.arcs) (basics_in piece) (Round k way) → ⊥
    both a v k way p q =
        theorems.not_both ratios (graph_of (ends_at net.arcs)) (nodes_in piece) (basics_in piece) (tree net piece h) a p.0 (has_one_end v (ends_at net.arcs a) p.1) k way q.cycle

    go : (x y : Extra) → IsExtra (ends_at net.arcs) (basics_in piece) x → IsExtra (ends_at net.arcs) (basics_in piece) y → x ≡ y
    go (OneEnd a v) (OneEnd b w) p q =
        let e : a ≡ b = theorems.one_end_is_unique ratios (graph_of (ends_at net.arcs)) (nodes_in piece) (basics_in piece) (tree net piece h) a b p.0 q.0
        (has_one_end v (ends_at net.arcs a) p.1) (has_one_end w (ends_at net.arcs b) q.1) in
        ap₂ OneEnd e (same_node v w (ends_at net.arcs b) (subst (λ t. IsOneEndAt v (ends_at net.arcs t)) e p.1) q.1)
    go (OneEnd a v) (Round k way) p q = absurd (both a v k way p q)
    go (Round k way) (OneEnd a v) p q = absurd (both a v k way q p)
    go (Round k way) (Round l other) p q =
        let r = theorems.least_first_is_unique ratios (graph_of (ends_at net.arcs)) (nodes_in piece) (basics_in piece) (tree net piece h) k way p l other q in
        ap₂ Round r.0 r.1
