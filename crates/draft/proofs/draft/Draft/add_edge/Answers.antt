-- The table keeps its chains, and its edges are those before with the new one first.
use Rattle.std.proofs.Common.{◌≡◌, Ok, ◌+◌, ◌-◌, ◌*◌, ◌/◌, ◌<◌, false, length, refl, sym, ap, ◌∙◌, subst, arith}
use Rattle.draft.specs.State.{State}
use Rattle.draft.specs.Drafting.{TakesEdge, unregistered}
use Rattle.draft.proofs.Deciding.{edge_fits, taken}
use Rattle.tables.proofs.Laying.{kept_laid, laid_edges}
use Rattle.draft.proofs.draft.Draft.add_edge.Goals as goal

pub invariant_of-self : goal.invariant_of-self
invariant_of-self g c =
    let d = c.self.inside in
    let nodes = ap (λ (x : State). x.nodes) c.self.view_is in
    let few : d.edges < 16384 = c.if-e-ge-EDGE_LIMIT.false in
    let room : d.edges < (length d.words.now - 2 * d.nodes) / 8 = c.if-e-room.false in
    kept_laid d.words.now c.lay.new.words d.nodes d.edges _ _ _ c.lay.ensures (omega arith) (omega arith) c.self.invariant few (omega arith)

pub returns : goal.returns
returns g c =
    let d = c.self.inside in
    let held = g.S.Edge.EdgeRecord.held in
    let weak = g.S.Edge.EdgeRecord.weak c.args.weight in
    let before : State = record { words = d.words.now; nodes = d.nodes; edges = d.edges; pairs = d.weak } in
    let after : State = record { words = c.lay.new.words; nodes = d.nodes; edges = d.edges + 1; pairs = d.weak } in
    let nodes = ap (λ (x : State). x.nodes) c.self.view_is in
    let s = c.in_ok-from.ensures in
    let t = c.in_ok-to.ensures in
    let few : d.edges < 16384 = c.if-e-ge-EDGE_LIMIT.false in
    let room : d.edges < (length d.words.now - 2 * d.nodes) / 8 = c.if-e-room.false in
    let known : unregistered (length d.weak) weak ≡ false =
    ap (λ (x : State). unregistered (length x.pairs) weak) c.self.view_is ∙ ap (unregistered (length c.args.self.now.pairs)) (sym c.weak_index.ensures) ∙ sym c.lacks.ensures ∙ c.if-lacks.false in
    let laid = laid_edges d.words.now c.lay.new.words d.nodes d.edges _ _ _ c.lay.ensures (omega arith) (omega arith) held c.args.weight c.encode.ensures in
    subst (λ x. TakesEdge held weak x (g.S.Ix.IndexType.number c.args.source) (g.S.Ix.IndexType.number c.args.target) c.args.weight (Ok d.edges) after) c.self.view_is
    (taken held weak before (g.S.Ix.IndexType.number c.args.source) (g.S.Ix.IndexType.number c.args.target) c.args.weight (Ok d.edges) after (edge_fits before (g.S.Ix.IndexType.number c.args.source) (g.S.Ix.IndexType.number c.args.target) weak (omega arith) (omega arith) known few room)
    (refl, record { laid = cc; edges = refl; nodes = refl; pairs = refl; long = c.lay.ensures.long }))
