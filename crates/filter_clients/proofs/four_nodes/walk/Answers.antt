-- From call to call.
use Rattle.std.proofs.Common.{◌≡◌, eqb, [], ◌∷◌, ◌++◌, ap, ◌∙◌, arith}
use Rattle.index.specs.declared.links.Link.{Link}
use Rattle.index.specs.declared.records.FeatureEdge.TheVariants.{NamedFeature}
use Rattle.verdict.specs.Verdicts.{shares}
use Rattle.buffers.specs.Rules.{feature_rule}
use Rattle.buffers.specs.Buffers.{Ref, meaning}
use Rattle.filter_clients.proofs.Calls.{rule, by_section, by_name, by_slash, tells_none, tells_slash, still_untold, first_untold, counted, first_out}
use Rattle.filter_clients.proofs.four_nodes.walk.Goals as goal

-- what a read of the hand-out table gives where it has no entry
abbrev nothing : Ref
nothing = record { source = (0, record {}); target = (0, record {}); number = 0; weight = NamedFeature }

pub discover-told_0-requires : goal.discover-told_0-requires
discover-told_0-requires c = record { fit = c.begin.ensures.fit _; room = omega (arith, c.begin.ensures.unused) }

pub returns : goal.returns
returns c =
    let F = c.new-filter.ensures in
    let B = c.begin.ensures in
    let D0 = c.discover-told_0.ensures in
    let S = c.filter-section.ensures in
    let N = c.filter-name.ensures in
    let D1 = c.discover-told_1.ensures in
    let L = c.filter-late.ensures in
    let D2 = c.discover-told_2.ensures in
    let second = meaning c.edge-second.result in
    let w = c.edge-second.ensures.1 ∙ c.slash.ensures in
    let made : feature_rule (λ (link : Link). shares c.new-filter.result.verdict.wanted link.mask) c.new-filter.result.releases.nodes.now c.new-filter.result.direction ≡ rule =
    λ j. feature_rule (λ (link : Link). shares (F.verdict j).wanted link.mask) ((F.nodes ∙ c.requires) j) (F.direction j) in
    let r0 = B.same ∙ made in
    let u0 = first_untold _ _ second made w B.untold in
    let a0 = tells_none _ r0 _ _ _ _ _ _ D0.discovers (B.empty _) in
    let u1 = still_untold _ r0 _ _ _ _ _ _ D0.discovers second w (ap (eqb 2) c.new.ensures) u0 in
    let k0 = counted c.discover-told_0.result c.discover-told_0.new.hand [] (omega (arith, D0.within, c.discover-told_0.auto.hand)) a0.0 in
    let r1 = D0.same ∙ r0 in
    let s = by_section _ _ _ (meaning c.edge-third.result) r1 c.edge-third.ensures.1 in
    let section = S.answer ∙ s.0 in
    let r2 = S.same ∙ r1 in
    let n = by_name _ _ _ (meaning c.edge-first.result) r2 c.edge-first.ensures.1 in
    let name = N.answer ∙ n.0 in
    let r3 = N.same ∙ r2 in
    let h3 = N.held ∙ n.1 ∙ S.held ∙ s.1 ∙ a0.1 in
    let u3 = ap (λ t. t 2) (N.told ∙ S.told) ∙ u1 in
    let a1 = tells_none _ r3 _ _ _ _ _ _ D1.discovers h3 in
    let u4 = still_untold _ r3 _ _ _ _ _ _ D1.discovers second w (ap (eqb 2) c.new-2.ensures) u3 in
    let k1 = counted c.discover-told_1.result c.discover-told_1.new.hand [] (omega (arith, D1.within, c.discover-told_1.auto.hand)) a1.0 in
    let r4 = D1.same ∙ r3 in
    let l = by_slash _ _ _ second r4 w u4 in
    let late = L.answer ∙ l.0 in
    let r5 = L.same ∙ r4 in
    let h5 = L.held ∙ l.1 ∙ ap (λ h. h ++ second ∷ []) a1.1 in
    let a2 = tells_slash _ r5 _ _ _ _ _ _ D2.discovers second c.new-3.ensures h5 w in
    let k2 = counted c.discover-told_2.result c.discover-told_2.new.hand (second ∷ []) (omega (arith, D2.within, c.discover-told_2.auto.hand)) a2 in
    let f = first_out c.discover-told_2.result c.discover-told_2.new.hand second nothing a2 ∙ c.edge-second.ensures.0 in
    cc
