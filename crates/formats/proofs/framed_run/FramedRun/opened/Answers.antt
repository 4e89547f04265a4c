use Rattle.formats.proofs.RunStated.{root_ranged, copies_ranged, steps_ranged, run_edges_ranged, tails_ascend, heads_ascend}
use Rattle.formats.proofs.framed_run.FramedRun.opened.Goals as goal

pub invariant_of-result : goal.invariant_of-result
invariant_of-result c =
    let bytes = c.args.self.bytes.now in
    let framed = c.args.self.framed in
    let inside = c.requires.inside in
    let ascending = c.requires.ascending in
    record {
      sizes = c.args.self.sizes;
      framed = framed;
      rooted = root_ranged framed inside;
      nested = copies_ranged framed inside;
      placed = steps_ranged framed inside;
      edged = run_edges_ranged framed inside;
      tails = tails_ascend bytes ascending;
      heads = heads_ascend bytes ascending;
    }
