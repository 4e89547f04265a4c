use Rattle.conformance.proofs.derivation.Derivation.of.Goals as goal

pub invariant_of-result : goal.invariant_of-result
invariant_of-result c = record {
  placed = ∣ c.requires ∣₁;
  drawn = c.edge_graph-edges.ensures;
  linked = ∣ c.links.ensures ∣₁;
  grouped = c.groups.ensures;
}
