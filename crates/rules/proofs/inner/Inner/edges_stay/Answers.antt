use Rattle.std.proofs.Common.{ℕ, rules}
use Rattle.records.proofs.Chains.{all_in_slice}
use Rattle.rules.specs.Blocks.{inner_spec}
use Rattle.rules.specs.Forks.{Stays}
use Rattle.rules.proofs.Scans.{all_edges}
use Rattle.rules.proofs.inner.Inner.edges_stay.Goals as goal

pub returns : goal.returns
returns c =
    let b = c.args.self.now in
    let s = inner_spec b in
    let es = b.drawn.parts.edges.now in
    let row = c.args.row.now in
    let P : ℕ → ℕ → Type 0 = λ x y. Stays row y x (s.source b.number) × Stays row x y (s.sink b.number) in
    all_edges c.all.result es P
    (all_in_slice _ _ _ c.all.result es (λ e. P e.tail e.head) c.all.ensures.ran (search rules) (λ x q k. search rules) (λ x q k. search rules))
